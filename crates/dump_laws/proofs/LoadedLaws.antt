-- What stands before all rows is no log and no stored view, and so it stays while its rows come in.
--     early-logless, loaded-logless      no log
--     early-unstored, loaded-unstored      no stored view
use Rattle.std.proofs.Common.{◌≡◌, ℕ, zero, suc, Bool, false, [], ◌∷◌, map, refl, ◌∙◌}
use Rattle.std.specs.List.{filter, list_any}
use Rattle.std.proofs.lemmas.Bool.{or_parts, or_from}
use Rattle.value_core.specs.Values.{Name}
use Rattle.tree_core.specs.Relvars.{PlainRelvar, base, view, log, Entries, derived, stored, of_history}
use Rattle.meaning_core.specs.Logs.{is_log, has_log}
use Rattle.stored_views.specs.Stored.{is_stored, has_stored}
use Rattle.part_laws.specs.Parts.{with_first, emptied, without_rows, loaded}
use Rattle.dump_laws.specs.Kept.{is_early}
use Rattle.dump_laws.proofs.LoggedLaws.{log-emptied}

-- ---- entries of which none is so, whatever rows they have

module _ (p : PlainRelvar → Bool) (first : (n : ℕ) (r : PlainRelvar) → p (with_first n r) ≡ p r) (bare : (r : PlainRelvar) → p (without_rows r) ≡ p r) where
  abbrev has_one : Entries → Bool
  has_one es = list_any (λ (e : Name × PlainRelvar). p e.1) es

  emptied-none : (es : Entries) → has_one es ≡ false → has_one (map emptied es) ≡ false
  emptied-none [] none = refl
  emptied-none (e ∷ es) none =
      let parts = or_parts (p e.1) (has_one es) none in
      or_from (p (without_rows e.1)) (has_one (map emptied es)) (bare e.1 ∙ parts.0) (emptied-none es parts.1)

  loaded-none : (i n : ℕ) (es : Entries) → has_one es ≡ false → has_one (loaded i n es) ≡ false
  loaded-none i n [] none = refl
  loaded-none zero n (e ∷ es) none =
      let parts = or_parts (p e.1) (has_one es) none in
      or_from (p (with_first n e.1)) (has_one (map emptied es)) (first n e.1 ∙ parts.0) (emptied-none es parts.1)
  loaded-none (suc i) n (e ∷ es) none =
      let parts = or_parts (p e.1) (has_one es) none in
      or_from (p e.1) (has_one (loaded i n es)) parts.0 (loaded-none i n es parts.1)

-- ---- logs

pub early-logless : (es : Entries) → has_log (filter is_early es) ≡ false
early-logless [] = refl
early-logless ((name, base value constraints) ∷ es) = early-logless es
early-logless ((name, view t derived) ∷ es) = early-logless es
early-logless ((name, view t stored) ∷ es) = early-logless es
early-logless ((name, view t (of_history names)) ∷ es) = early-logless es
early-logless ((name, log of side last value) ∷ es) = early-logless es

log-first : (n : ℕ) (r : PlainRelvar) → is_log (with_first n r) ≡ is_log r
log-first n (base value constraints) = refl
log-first n (view t kind) = refl
log-first n (log of side last value) = refl

pub loaded-logless : (i n : ℕ) (es : Entries) → has_log es ≡ false → has_log (loaded i n es) ≡ false
loaded-logless i n es none = loaded-none is_log log-first log-emptied i n es none

-- ---- stored views

pub early-unstored : (es : Entries) → has_stored (filter is_early es) ≡ false
early-unstored [] = refl
early-unstored ((name, base value constraints) ∷ es) = early-unstored es
early-unstored ((name, view t derived) ∷ es) = early-unstored es
early-unstored ((name, view t stored) ∷ es) = early-unstored es
early-unstored ((name, view t (of_history names)) ∷ es) = early-unstored es
early-unstored ((name, log of side last value) ∷ es) = early-unstored es

stored-first : (n : ℕ) (r : PlainRelvar) → is_stored (with_first n r) ≡ is_stored r
stored-first n (base value constraints) = refl
stored-first n (view t kind) = refl
stored-first n (log of side last value) = refl

stored-emptied : (r : PlainRelvar) → is_stored (without_rows r) ≡ is_stored r
stored-emptied (base value constraints) = refl
stored-emptied (view t kind) = refl
stored-emptied (log of side last value) = refl

pub loaded-unstored : (i n : ℕ) (es : Entries) → has_stored es ≡ false → has_stored (loaded i n es) ≡ false
loaded-unstored i n es none = loaded-none is_stored stored-first stored-emptied i n es none

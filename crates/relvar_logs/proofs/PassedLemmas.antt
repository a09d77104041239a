-- Logs on their way to a statement, some of which tell it already.
--     passed_set      one more is brought to it
--     changed_passed, none_passed      the one log of a relvar is, or there is none
--     passed_logs, passed_step      all are
use Rattle.std.proofs.Common.{◌≡◌, inl, inr, ℕ, zero, suc, ◌<◌, ◌≤◌, ℤ, pos, ◌-ℤ◌, Bool, true, false, cond, List, [], ◌∷◌, map, length, refl, sym, ap, subst, arith, Some, Result, Ok, Err}
use Rattle.std.specs.Prelude.{slice_get, OnOk, OnErr}
use Rattle.std.specs.List.{All}
use Rattle.std.proofs.lemmas.List.Elements.{All-head, All-tail}
use Rattle.indexmap.specs.IndexMap.{set_value_at}
use Rattle.value_core.specs.Values.{Name, Relation}
use Rattle.tree_core.specs.declared.relvar.Relvar.{Relvar}
use Rattle.tree_core.specs.Relvars.{PlainRelvar, base, view, log, Entries, read_entry, read_relvar}
use Rattle.meaning_core.specs.Logs.{turned_relvar, turned_logs, IsInStep, AreInStep}
use Rattle.relvar_logs.specs.Changes.{turned_at, IsSoAt}
use Rattle.relvar_logs.specs.LoggedChanges.{is_log_of, logs_of, IsChangeOf, AreChanging}
use Rattle.relvar_logs.specs.Passed.{ArePassed, IsBrought, IsChangingLog, IsOnTheWay}
use Rattle.relvar_logs.proofs.TurningLemmas.{all_in_step}

-- ---- one more

pub passed_set : (n : ℤ) (all es : Entries) (raw : List (Name × Relvar)) (i : ℕ) (w : Relvar) (k : Name) (r : Relvar) → slice_get raw i ≡ Some (k, r)
    → ((before : PlainRelvar) → IsOnTheWay n all before (read_relvar r) → IsBrought n all before (read_relvar w)) → ArePassed n all i es (map read_entry raw)
    → ArePassed n all (suc i) es (map read_entry (set_value_at raw i w))
passed_set n all [] [] i w k r is f are = absurd (cc)
passed_set n all [] (x ∷ raw) i w k r is f are = absurd are
passed_set n all (e ∷ es) [] i w k r is f are = absurd are
passed_set n all (e ∷ es) (x ∷ raw) zero w k r is f are =
    let same : x ≡ (k, r) = cc in
    (are.0, f e.1 (subst (λ (z : Name × Relvar). IsOnTheWay n all e.1 (read_relvar z.1)) same are.1), are.2)
passed_set n all (e ∷ es) (x ∷ raw) (suc i) w k r is f are = (are.0, are.1, passed_set n all es raw i w k r is f are.2)

-- ---- where the one log of a relvar is brought to it

module _ (n : ℤ) (all : Entries) (name : Name) (come gone : Relation) where
  -- an entry that is no log of the name
  other_way : (r : PlainRelvar) → IsChangeOf (n -ℤ pos 1) all name come gone r → is_log_of name r ≡ false → IsOnTheWay n all r r
  other_way (base value constraints) is other = inl (refl, tt)
  other_way (view t kind) is other = inl (refl, tt)
  other_way (log of side last value) is other = inl (refl, is.1 other)

  -- the log of the name
  pub own_changing : (r : PlainRelvar) → IsChangeOf (n -ℤ pos 1) all name come gone r → is_log_of name r ≡ true → IsChangingLog (n -ℤ pos 1) all come gone r
  own_changing (base value constraints) is own = tt
  own_changing (view t kind) is own = tt
  own_changing (log of side last value) is own = is.0 own

  pub changing_there : (es : Entries) (i : ℕ) → AreChanging (n -ℤ pos 1) all name come gone es → IsSoAt i (λ r. is_log_of name r ≡ true) es → IsSoAt i (IsChangingLog (n -ℤ pos 1) all come gone) es
  changing_there [] i are h = absurd h
  changing_there (e ∷ es) zero are h = own_changing e.1 (All-head (λ r. IsChangeOf (n -ℤ pos 1) all name come gone r.1) e es are) h
  changing_there (e ∷ es) (suc i) are h = changing_there es i (All-tail (λ r. IsChangeOf (n -ℤ pos 1) all name come gone r.1) e es are) h

  pub none_passed : (es : Entries) → AreChanging (n -ℤ pos 1) all name come gone es → All (λ r. is_log_of name r.1 ≡ false) es → ArePassed n all zero es es
  none_passed [] are none = tt
  none_passed (e ∷ es) are none = (
    refl,
    other_way e.1 (All-head (λ r. IsChangeOf (n -ℤ pos 1) all name come gone r.1) e es are) (All-head (λ r. is_log_of name r.1 ≡ false) e es none),
    none_passed es (All-tail (λ r. IsChangeOf (n -ℤ pos 1) all name come gone r.1) e es are) (All-tail (λ r. is_log_of name r.1 ≡ false) e es none),
  )

  -- no log of the name
  no_logs_passed : (es : Entries) → AreChanging (n -ℤ pos 1) all name come gone es → length (logs_of name es) ≤ 0 → ArePassed n all zero es es
  no_logs_passed [] are none = tt
  no_logs_passed (e ∷ es) are none =
      by (is_log_of name e.1) refl (no_logs_passed es (All-tail (λ r. IsChangeOf (n -ℤ pos 1) all name come gone r.1) e es are)) none
    where
      by : (b : Bool) → is_log_of name e.1 ≡ b → (length (logs_of name es) ≤ 0 → ArePassed n all zero es es) → length (cond b (e ∷ logs_of name es) (logs_of name es)) ≤ 0
          → ArePassed n all zero (e ∷ es) (e ∷ es)
      by true q rest l = absurd (omega (arith, l))
      by false q rest l = (refl, other_way e.1 (All-head (λ r. IsChangeOf (n -ℤ pos 1) all name come gone r.1) e es are) q, rest l)

  some_log : (es : Entries) (i : ℕ) → IsSoAt i (λ r. is_log_of name r ≡ true) es → 1 ≤ length (logs_of name es)
  some_log [] i h = absurd h
  some_log (e ∷ es) zero h = let size = ap (λ (b : Bool). length (cond b (e ∷ logs_of name es) (logs_of name es))) h in omega (arith, size)
  some_log (e ∷ es) (suc i) h = by (is_log_of name e.1) (some_log es i h)
    where
      by : (b : Bool) → 1 ≤ length (logs_of name es) → 1 ≤ length (cond b (e ∷ logs_of name es) (logs_of name es))
      by true l = omega (arith, l)
      by false l = l

  pub changed_passed : (es fs : Entries) (i : ℕ) → AreChanging (n -ℤ pos 1) all name come gone es → length (logs_of name es) ≤ 1 → IsSoAt i (λ r. is_log_of name r ≡ true) es
      → fs ≡ turned_at i (turned_relvar all) es → IsSoAt i (IsInStep n all) fs → ArePassed n all zero es fs
  changed_passed es fs i are once h is step =
      subst (ArePassed n all zero es) (sym is) (by_entry es i are once h (subst (IsSoAt i (IsInStep n all)) is step))
    where
      by_entry : (es : Entries) (i : ℕ) → AreChanging (n -ℤ pos 1) all name come gone es → length (logs_of name es) ≤ 1 → IsSoAt i (λ r. is_log_of name r ≡ true) es
          → IsSoAt i (IsInStep n all) (turned_at i (turned_relvar all) es) → ArePassed n all zero es (turned_at i (turned_relvar all) es)
      by_entry [] i are once h step = absurd h
      by_entry (e ∷ es) zero are once h step =
          let size = ap (λ (b : Bool). length (cond b (e ∷ logs_of name es) (logs_of name es))) h in
          (refl, inr (record { is = refl; step = step }), no_logs_passed es (All-tail (λ r. IsChangeOf (n -ℤ pos 1) all name come gone r.1) e es are) (omega (arith, size, once)))
      by_entry (e ∷ es) (suc i) are once h step =
          let some = some_log es i h in
          let rest = by_entry es i (All-tail (λ r. IsChangeOf (n -ℤ pos 1) all name come gone r.1) e es are) in
          other (is_log_of name e.1) refl some once (λ l. rest l h step)
        where
          other : (b : Bool) → is_log_of name e.1 ≡ b → 1 ≤ length (logs_of name es) → length (cond b (e ∷ logs_of name es) (logs_of name es)) ≤ 1
              → (length (logs_of name es) ≤ 1 → ArePassed n all zero es (turned_at i (turned_relvar all) es)) → ArePassed n all zero (e ∷ es) (e ∷ turned_at i (turned_relvar all) es)
          other true q some l rest = absurd (omega (arith, some, l))
          other false q some l rest = (refl, other_way e.1 (All-head (λ r. IsChangeOf (n -ℤ pos 1) all name come gone r.1) e es are) q, rest l)

-- ---- all

passed_turned : (n : ℤ) (all es fs : Entries) (k : ℕ) → length fs ≤ k → ArePassed n all k es fs → fs ≡ map (λ r. (r.0, turned_relvar all r.1)) es
passed_turned n all [] [] k l are = refl
passed_turned n all [] (f ∷ fs) k l are = absurd are
passed_turned n all (e ∷ es) [] k l are = absurd are
passed_turned n all (e ∷ es) (f ∷ fs) zero l are = absurd (omega (arith, l))
passed_turned n all (e ∷ es) (f ∷ fs) (suc k) l are =
    let more = passed_turned n all es fs k (omega (arith, l)) are.2 in
    let one = are.1.is in
    λ i. (are.0 i, one i) ∷ more i

passed_there : (n : ℤ) (all es fs : Entries) (k : ℕ) → length fs ≤ k → ArePassed n all k es fs → (i : ℕ) → i < length fs → IsSoAt i (IsInStep n all) fs
passed_there n all [] [] k l are i h = absurd (omega (arith, h))
passed_there n all [] (f ∷ fs) k l are i h = absurd are
passed_there n all (e ∷ es) [] k l are i h = absurd are
passed_there n all (e ∷ es) (f ∷ fs) zero l are i h = absurd (omega (arith, l))
passed_there n all (e ∷ es) (f ∷ fs) (suc k) l are zero h = are.1.step
passed_there n all (e ∷ es) (f ∷ fs) (suc k) l are (suc i) h = passed_there n all es fs k (omega (arith, l)) are.2 i (omega (arith, h))

pub passed_logs : (n : ℤ) (es fs : Entries) (k : ℕ) → length fs ≤ k → ArePassed n es k es fs → fs ≡ turned_logs es
passed_logs n es fs k l are = passed_turned n es es fs k l are

pub passed_step : (n : ℤ) (es fs : Entries) (k : ℕ) → length fs ≤ k → ArePassed n es k es fs → AreInStep n fs
passed_step n es fs k l are = all_in_step n es fs (passed_turned n es es fs k l are) (passed_there n es es fs k l are)

-- ---- answers

pub ok_then : {A E : Type 0} (result : Result A E) (P Q : Type 0) → (P → Q) → OnOk result P → OnOk result Q
ok_then (Ok x) P Q f h = f h
ok_then (Err e) P Q f h = h

pub err_then : {A E : Type 0} (result : Result A E) (P Q : Type 0) → (P → Q) → OnErr result P → OnErr result Q
err_then (Ok x) P Q f h = h
err_then (Err e) P Q f h = f h

pub ok_both : {A E : Type 0} (result : Result A E) (P Q R : Type 0) → (P → Q → R) → OnOk result P → OnOk result Q → OnOk result R
ok_both (Ok x) P Q R f h k = f h k
ok_both (Err e) P Q R f h k = h

pub set_length : {X Y : Type 0} (es : List (X × Y)) (i : ℕ) (w : Y) → length (set_value_at es i w) ≡ length es
set_length [] i w = refl
set_length (e ∷ es) zero w = refl
set_length (e ∷ es) (suc i) w = ap suc (set_length es i w)

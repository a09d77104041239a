-- Room for the rows of base relvars, logs and stored views.
--     fits_all, fits_not_all      what is left without the logs, and then without the stored views
--     next_before, rows_before      what stands ready beside new values, read of the old ones
--     room_told, crowded_told, crowded_logs      whether there is room for all
--     refused_crowded      and what is then refused
use Rattle.std.proofs.Common.{◌≡◌, ℕ, ◌+◌, ◌≤◌, ◌<◌, ℤ, Bool, true, false, cond, nat_le, List, [], ◌∷◌, map, refl, sym, ap, ◌∙◌, subst, arith, Option, Some, None, Result, Ok, Err}
use Rattle.std.specs.Prelude.{◌&&◌}
use Rattle.std.proofs.lemmas.Bool.{and_parts}
use Rattle.std.proofs.lemmas.Bool.Decides.{nat_tests}
use Rattle.point_core.specs.declared.fault.Code.TheVariants.{E46}
use Rattle.value_core.specs.Limits.{most_rows_in_all}
use Rattle.value_core.specs.declared.refuse.Refuse.{Refuse}
use Rattle.value_core.specs.declared.refuse.Refuse.TheVariants.{Plain, At, Broken, Memory}
use Rattle.value_core.specs.Values.{Relation}
use Rattle.log_times.specs.Kept.{PlainLog}
use Rattle.tree_core.specs.Items.{PlainAssignment}
use Rattle.tree_core.specs.Relvars.{PlainRelvar, base, view, log, Entries}
use Rattle.meaning_core.specs.Logs.{turned_logs, turned_relvar}
use Rattle.meaning_core.specs.StoredRows.{HasItsRows, HaveTheirRows, AreStored}
use Rattle.relvar_logs.specs.Changes.{Changes, changed, changed_relvar}
use Rattle.relvar_logs.specs.Room.{are_each_few, left_of, rows_of_logs}
use Rattle.relvar_logs.specs.Turning.{IsNext, AreNext}
use Rattle.stored_views.specs.Stored.{are_stored_few, rows_among, rows_of_stored}
use Rattle.stored_views.proofs.KindLemmas.{rows-changed}
use Rattle.stored_views.proofs.UnstoredLemmas.{stored-few}
use Rattle.assign_core.specs.Assignments.{after_assignments, evaluated, kept_or_refused, of_values, IsRefusedFor}
use Rattle.assign_core.specs.Breaches.{rows_of_all}
use Rattle.assign_core.specs.Logs.{have_log_room, if_log_room}
use Rattle.assign_core.specs.Moving.{IsCrowded}
use Rattle.assign_core.specs.Room.{have_room, unless_full}
use Rattle.assign_core.proofs.LogLemmas.{and-false, fits, fits_not, rows_changed, rows_turned}

-- ---- what is left

other-order : (R L S : ℕ) → R + L + S ≡ (R + S) + L
other-order R L S = omega arith

pub fits_all : (R L S first second most : ℕ) → Some first ≡ left_of most L → Some second ≡ left_of first S → nat_le R second ≡ nat_le (R + L + S) most
fits_all R L S first second most e f =
    fits R S second first f ∙ (fits (R + S) L first most e ∙ ap (λ (n : ℕ). nat_le n most) (sym (other-order R L S)))

pub fits_not_logs : (R L S most : ℕ) → None ≡ left_of most L → nat_le (R + L + S) most ≡ false
fits_not_logs R L S most e = ap (λ (n : ℕ). nat_le n most) (other-order R L S) ∙ fits_not (R + S) L most e

pub fits_not_stored : (R L S first most : ℕ) → Some first ≡ left_of most L → None ≡ left_of first S → nat_le (R + L + S) most ≡ false
fits_not_stored R L S first most e f =
    ap (λ (n : ℕ). nat_le n most) (other-order R L S) ∙ (sym (fits (R + S) L first most e) ∙ fits_not R S first f)

-- ---- what stands ready beside new values

next-one : (n : ℤ) (all : Entries) (t : Option PlainLog) (c : Option Relation) (r : PlainRelvar) → IsNext n all t (changed_relvar c r) → IsNext n all t r
next-one n all t None r h = h
next-one n all t (Some value) (base old constraints) h = tt
next-one n all t (Some value) (view t' kind) h = tt
next-one n all t (Some value) (log of side last w) h = h

pub next_before : (n : ℤ) (all : Entries) (ts : List (Option PlainLog)) (cs : Changes) (es : Entries) → AreNext n all ts (changed cs es) → AreNext n all ts es
next_before n all ts [] es h = h
next_before n all [] (c ∷ cs) [] h = tt
next_before n all (t ∷ ts) (c ∷ cs) [] h = tt
next_before n all [] (c ∷ cs) (e ∷ es) h = (next-one n all None c e.1 h.0, next_before n all [] cs es h.1)
next_before n all (t ∷ ts) (c ∷ cs) (e ∷ es) h = (next-one n all t c e.1 h.0, next_before n all ts cs es h.1)

its-one : (all : Entries) (c : Option Relation) (r : PlainRelvar) (o : Option Relation) → HasItsRows all (changed_relvar c r) o → HasItsRows all r o
its-one all None r o h = h
its-one all (Some v) (base value constraints) o h = tt
its-one all (Some v) (view t kind) o h = h
its-one all (Some v) (log of side last value) o h = tt

pub rows_before : (all : Entries) (cs : Changes) (es : Entries) (rows : List (Option Relation)) → HaveTheirRows all (changed cs es) rows → HaveTheirRows all es rows
rows_before all [] es rows h = h
rows_before all (c ∷ cs) [] rows h = tt
rows_before all (c ∷ cs) (e ∷ es) [] h = (its-one all c e.1 None h.0, rows_before all cs es [] h.1)
rows_before all (c ∷ cs) (e ∷ es) (o ∷ rows) h = (its-one all c e.1 o h.0, rows_before all cs es rows h.1)

-- ---- room

module _ (cs : Changes) (es : Entries) where
  abbrev new : Entries
  new = changed cs es

  -- the rows of all, counted among the old entries
  abbrev sum_before : ℕ
  sum_before = rows_of_all new + rows_of_logs (map (λ r. (r.0, turned_relvar new r.1)) es) + rows_among new es

  same-sum : rows_of_all new + rows_of_logs (turned_logs new) + rows_of_stored new ≡ sum_before
  same-sum = λ i. rows_of_all new + rows_changed new cs es i + rows-changed new cs es i

  pub room_told : (stored : List (Option Relation)) → AreStored new stored → have_log_room (turned_logs new) ≡ true → nat_le sum_before most_rows_in_all ≡ true → have_room new ≡ true
  room_told stored have logs fit =
      let each = (and_parts (nat_le (rows_of_all (turned_logs new) + rows_of_logs (turned_logs new)) most_rows_in_all) (are_each_few (turned_logs new)) logs).1 in
      (λ i. nat_le (same-sum i) most_rows_in_all && (are_each_few (turned_logs new) && are_stored_few new))
      ∙ (λ i. fit i && (each i && stored-few new stored have i))

  pub crowded_told : nat_le sum_before most_rows_in_all ≡ false → have_room new ≡ false
  crowded_told none = (λ i. nat_le (same-sum i) most_rows_in_all && (are_each_few (turned_logs new) && are_stored_few new)) ∙ ap (λ (b : Bool). b && (are_each_few (turned_logs new) && are_stored_few new)) none

too-many : (a b most : ℕ) → a ≤ b → nat_le a most ≡ false → nat_le b most ≡ false
too-many a b most l e = by (nat_le b most) refl
  where
    by : (t : Bool) → nat_le b most ≡ t → t ≡ false
    by false q = refl
    by true q =
        let m : most < a = grind (arith, nat_tests) in
        let k : b ≤ most = grind (arith, nat_tests) in
        absurd (omega (arith, l, m, k))

module _ (new : Entries) where
  -- without room for the logs there is none for all
  crowded-beside : have_log_room (turned_logs new) ≡ false → have_room new ≡ false
  crowded-beside e =
      by (nat_le (rows_of_all (turned_logs new) + rows_of_logs (turned_logs new)) most_rows_in_all) (are_each_few (turned_logs new)) refl refl e
    where
      sum : ℕ
      sum = rows_of_all new + rows_of_logs (turned_logs new) + rows_of_stored new

      by : (a b : Bool) → nat_le (rows_of_all (turned_logs new) + rows_of_logs (turned_logs new)) most_rows_in_all ≡ a → are_each_few (turned_logs new) ≡ b → (a && b) ≡ false → have_room new ≡ false
      by false b p q f =
          let turn = rows_turned new in
          ap (λ (t : Bool). t && (are_each_few (turned_logs new) && are_stored_few new))
          (too-many (rows_of_all (turned_logs new) + rows_of_logs (turned_logs new)) sum most_rows_in_all (omega (arith, turn)) p)
      by true false p q f = ap (λ (t : Bool). nat_le sum most_rows_in_all && (t && are_stored_few new)) q ∙ and-false (nat_le sum most_rows_in_all)
      by true true p q f = absurd (cc)

  -- one of the stored views has too many rows
  pub crowded_view : are_stored_few new ≡ false → have_room new ≡ false
  crowded_view e =
      let sum : ℕ = rows_of_all new + rows_of_logs (turned_logs new) + rows_of_stored new in
      ap (λ (t : Bool). nat_le sum most_rows_in_all && (are_each_few (turned_logs new) && t)) e
      ∙ (ap (λ (t : Bool). nat_le sum most_rows_in_all && t) (and-false (are_each_few (turned_logs new))) ∙ and-false (nat_le sum most_rows_in_all))

  pub crowded_logs : (refuse : Refuse) → IsRefusedFor refuse (if_log_room new) → IsCrowded new refuse
  crowded_logs (Plain code) e = by (have_log_room (turned_logs new)) refl e
    where
      by : (b : Bool) → have_log_room (turned_logs new) ≡ b → cond b (Ok new) (Err (Plain E46)) ≡ Err (Plain code) → (code ≡ E46) × (have_room new ≡ false)
      by true q f = absurd (cc)
      by false q f = (let same : E46 ≡ code = cc in sym same, crowded-beside q)
  crowded_logs (At fault) e = by (have_log_room (turned_logs new)) e
    where
      by : (b : Bool) → cond b (Ok new) (Err (Plain E46)) ≡ Err (At fault) → ⊥
      by true f = absurd (cc)
      by false f = absurd (cc)
  crowded_logs (Broken code relvar number) e = by (have_log_room (turned_logs new)) e
    where
      by : (b : Bool) → cond b (Ok new) (Err (Plain E46)) ≡ Err (Broken code relvar number) → ⊥
      by true f = absurd (cc)
      by false f = absurd (cc)
  crowded_logs Memory e = tt

  pub refused_crowded : (es : Entries) (list : List PlainAssignment) (refuse : Refuse) → evaluated es es list ≡ Ok new → IsCrowded new refuse
      → IsRefusedFor refuse (unless_full (evaluated es es list) (after_assignments es list))
  refused_crowded es list (Plain code) e h =
      ap (λ (r : _). unless_full r (of_values r)) e ∙ (ap (λ (b : Bool). cond b (kept_or_refused new) (Err (Plain E46))) h.1 ∙ ap (λ c. Err (Plain c)) (sym h.0))
  refused_crowded es list (At fault) e h = absurd h
  refused_crowded es list (Broken code relvar number) e h = absurd h
  refused_crowded es list Memory e h = tt

-- Rows that a base relvar gains, and that are taken out of it again.
--     apart_stays      no entry is one of the name
--     given_turned, taken_back      the base relvar gets another value, and its old one again
--     named_given, named_other      what names stand for where it has
--     rows_given      how many rows there are then
--     grown_back      rows that are new, taken out of both
--     are_to_change, are_changing      the logs where the base relvar gains and loses rows
--     room_given      the room of logs where the base relvar has another value
use Rattle.std.proofs.Common.{◌≡◌, ◌⊎◌, inl, inr, ℕ, zero, suc, ◌+◌, ◌≤◌, ℤ, Bool, true, false, cond, List, [], ◌∷◌, length, refl, sym, ap, ap₂, subst, ◌∙◌, arith, true≢false, Some, nat_le}
use Rattle.std.specs.Prelude.{◌&&◌}
use Rattle.std.specs.List.{All, IsDistinct, AllByRecursion}
use Rattle.std.specs.Str.{bytes_eq}
use Rattle.std.proofs.lemmas.List.Elements.{All-nil, All-cons, All-head, All-tail}
use Rattle.base_core.specs.Sets.{has}
use Rattle.base_core.proofs.MemberLemmas.{has-In}
use Rattle.base_core.proofs.SetLemmas.{In, Ascends, same_by_members}
use Rattle.base_core.proofs.SetOperatorLemmas.{In-difference_of, In-union_of, Ascends-difference_of, Ascends-union_of}
use Rattle.value_core.specs.declared.constraint.Constraint.{Constraint}
use Rattle.value_core.specs.Order.{row_total, row_separates}
use Rattle.value_core.specs.Values.{Name, Row, Relation, row_cmp, most_rows}
use Rattle.relation_core.specs.Operators.{united, subtracted}
use Rattle.relation_core.proofs.FilterLemmas.{length-filter_at_most}
use Rattle.log_times.specs.Told.{value_after}
use Rattle.log_times.specs.Turns.{without, exchanged, IsExact}
use Rattle.tree_core.specs.Relvars.{PlainRelvar, base, view, log, Entries, relvar_named, heading_if}
use Rattle.meaning_core.specs.Logs.{base_rows, IsInStep}
use Rattle.meaning_core.specs.Names.{given, given_relvar, with_value, IsFirstAt}
use Rattle.meaning_core.proofs.EntryLemmas.{given_first, named_first}
use Rattle.meaning_core.proofs.MadeLemmas.{same_name, own_name}
use Rattle.relvar_logs.specs.Changes.{turned_at}
use Rattle.relvar_logs.specs.LoggedChanges.{is_log_of, logs_of, IsChanging, IsChangeOf, AreChanging, HasEnded, HasRoomForChange}
use Rattle.relvar_logs.specs.Room.{are_each_few, log_count, rows_of_logs}
use Rattle.relvar_logs.specs.Turning.{IsOfBase}
use Rattle.assign_core.specs.Breaches.{count_of, rows_of_all}
use Rattle.assign_core.specs.Gained.{less}
use Rattle.assign_core.specs.Parts.{names_in}
use Rattle.assign_core.proofs.ExchangeLemmas.{turned_twice}
use Rattle.assign_core.proofs.NameLemmas.{turned}

-- ---- a base relvar with another value

pub apart_stays : (es : Entries) (own name : Name) (w : Relation) → bytes_eq own name ≡ true → AllByRecursion (λ n. bytes_eq own n ≡ false) (names_in es) → given (Some name) (Some w) es ≡ es
apart_stays [] own name w e h = refl
apart_stays (r ∷ es) own name w e h =
    let other : bytes_eq r.0 name ≡ false = turned name r.0 (ap (λ (n : Name). bytes_eq n r.0) (sym (same_name own name e)) ∙ h.0) in
    ap₂ (λ (x : PlainRelvar) (z : Entries). (r.0, x) ∷ z) (ap (λ (b : Bool). cond b (with_value w r.1) r.1) other) (apart_stays es own name w e h.1)

pub given_turned : (es : Entries) (name : Name) (i : ℕ) (r : PlainRelvar) (w : Relation) → IsDistinct bytes_eq (names_in es) → IsFirstAt es name i r
    → given (Some name) (Some w) es ≡ turned_at i (with_value w) es
unfolding IsDistinct
given_turned [] name i r w d first = absurd first
given_turned (e ∷ es) name zero r w d first =
    ap₂ (λ (x : PlainRelvar) (z : Entries). (e.0, x) ∷ z) (ap (λ (b : Bool). cond b (with_value w e.1) e.1) first.0) (apart_stays es e.0 name w first.0 d.0)
given_turned (e ∷ es) name (suc i) r w d first =
    ap₂ (λ (x : PlainRelvar) (z : Entries). (e.0, x) ∷ z) (ap (λ (b : Bool). cond b (with_value w e.1) e.1) first.0) (given_turned es name i r w d.1 first.1)

turned_stays : (es : Entries) (name : Name) (i : ℕ) (r : PlainRelvar) (f : PlainRelvar → PlainRelvar) → IsFirstAt es name i r → f r ≡ r → turned_at i f es ≡ es
turned_stays [] name i r f first e = refl
turned_stays (k ∷ es) name zero r f first e = ap (λ (x : PlainRelvar). (k.0, x) ∷ es) (ap f first.1 ∙ (e ∙ sym first.1))
turned_stays (k ∷ es) name (suc i) r f first e = ap (λ (z : Entries). k ∷ z) (turned_stays es name i r f first.1 e)

module _ (es : Entries) (name : Name) (i : ℕ) (v : Relation) (cs : List Constraint) (w : Relation) (first : IsFirstAt es name i (base v cs)) where
  pub taken_back : IsDistinct bytes_eq (names_in es) → (come : Relation) → record { heading = w.heading; rows = subtracted w.rows come.rows } ≡ v → turned_at i (less come) (given (Some name) (Some w) es) ≡ es
  taken_back d come e =
      ap (turned_at i (less come)) (given_turned es name i (base v cs) w d first)
      ∙ (turned_twice es i (less come) (with_value w)
      ∙ turned_stays es name i (base v cs) (λ r. less come (with_value w r)) first (ap (λ (x : Relation). base x cs) e))

  pub named_given : relvar_named (given (Some name) (Some w) es) name ≡ Some (base w cs)
  named_given =
      named_first (given (Some name) (Some w) es) name i (given_relvar (Some name) (Some w) name (base v cs)) (given_first (Some name) (Some w) es name i (base v cs) first)
      ∙ ap (λ (b : Bool). Some (cond b (base w cs) (base v cs))) (own_name name)

  pub rows_given : IsDistinct bytes_eq (names_in es) → rows_of_all (given (Some name) (Some w) es) + length v.rows ≡ rows_of_all es + length w.rows
  rows_given d = ap (λ (z : Entries). rows_of_all z + length v.rows) (given_turned es name i (base v cs) w d first) ∙ by es i first
    where
      by : (fs : Entries) (k : ℕ) → IsFirstAt fs name k (base v cs) → rows_of_all (turned_at k (with_value w) fs) + length v.rows ≡ rows_of_all fs + length w.rows
      by [] k h = absurd h
      by (f ∷ fs) zero h =
          let before : count_of f ≡ length v.rows = ap (λ (x : PlainRelvar). count_of (f.0, x)) h.1 in
          let after : count_of (f.0, with_value w f.1) ≡ length w.rows = ap (λ (x : PlainRelvar). count_of (f.0, with_value w x)) h.1 in
          omega (arith, before, after)
      by (f ∷ fs) (suc k) h = let ih = by fs k h.1 in omega (arith, ih)

pub named_other : (es : Entries) (name of : Name) (w : Relation) → bytes_eq of name ≡ false → relvar_named (given (Some name) (Some w) es) of ≡ relvar_named es of
named_other [] name of w e = refl
named_other (r ∷ es) name of w e = by (bytes_eq r.0 of) refl (named_other es name of w e)
  where
    by : (b : Bool) → bytes_eq r.0 of ≡ b → relvar_named (given (Some name) (Some w) es) of ≡ relvar_named es of
        → cond b (Some (given_relvar (Some name) (Some w) r.0 r.1)) (relvar_named (given (Some name) (Some w) es) of) ≡ cond b (Some r.1) (relvar_named es of)
    by false q more = more
    by true q more =
        let other : bytes_eq r.0 name ≡ false = ap (λ (n : Name). bytes_eq n name) (same_name r.0 of q) ∙ e in
        ap (λ (b : Bool). Some (cond b (with_value w r.1) r.1)) other

-- ---- rows that are new

pub grown_back : (old rows : List Row) → Ascends row_cmp old → subtracted (united old rows) (subtracted rows old) ≡ old
grown_back old rows a =
    same_by_members row_cmp row_total row_separates (subtracted (united old rows) (subtracted rows old)) old
    (Ascends-difference_of row_cmp row_total row_separates (united old rows) (subtracted rows old) (Ascends-union_of row_cmp row_total row_separates old rows)) a
    (λ x.
    let both = In-union_of row_cmp row_total row_separates x old rows in
    let left = In-difference_of row_cmp row_total row_separates x (united old rows) (subtracted rows old) in
    let new = In-difference_of row_cmp row_total row_separates x rows old in (
      λ h. elim (both.0 (left.0 h).0) [ inl i ↦ i | inr i ↦ stays x i (left.0 h).1 ],
      λ h. left.1 (both.1 (inl h), λ j. (new.0 j).1 h),
    ))
  where
    known : (x : Row) → In x old ⊎ (In x old → ⊥)
    known x = by (has row_cmp old x) refl
      where
        by : (b : Bool) → has row_cmp old x ≡ b → In x old ⊎ (In x old → ⊥)
        by true e = inl ((has-In row_cmp row_total row_separates old x).0 e)
        by false e = inr (λ i. true≢false (sym ((has-In row_cmp row_total row_separates old x).1 i) ∙ e))

    stays : (x : Row) → In x rows → (In x (subtracted rows old) → ⊥) → In x old
    stays x i out = elim (known x) [ inl k ↦ k | inr n ↦ absurd (out ((In-difference_of row_cmp row_total row_separates x rows old).1 (i, n))) ]

pub fewer_new : (old rows : List Row) → length (subtracted rows old) ≤ length rows
fewer_new old rows = length-filter_at_most _ rows

-- ---- logs where the base relvar has gained and lost rows

module _ (n : ℤ) (es : Entries) (name : Name) (i : ℕ) (v : Relation) (cs : List Constraint) (w come gone : Relation) (more : ℕ) (first : IsFirstAt es name i (base v cs))
    (came : come.heading ≡ v.heading) (went : gone.heading ≡ v.heading) (less : length come.rows + length gone.rows ≤ more) (exact : IsExact v.rows come.rows gone.rows)
    (same : w.rows ≡ exchanged v.rows come.rows gone.rows) where
  abbrev all : Entries
  all = given (Some name) (Some w) es

  changing : (of : Name) (side : ℕ) (last : ℤ) (value : Relation) → of ≡ name → IsInStep n es (log of side last value) → IsOfBase es (log of side last value)
      → length value.rows + more ≤ most_rows → IsChanging n all come gone of side last value
  changing of side last value is step owner few =
      let found : relvar_named es of ≡ Some (base v cs) = ap (relvar_named es) is ∙ named_first es name i (base v cs) first in
      let told : value_after side last value.rows ≡ v.rows = step.1 ∙ ap base_rows found in
      let headed : v.heading ≡ without side value.heading = sym (ap heading_if found) ∙ sym owner.1 in
      record {
        last_is = step.0;
        changed = ap base_rows (ap (relvar_named all) is ∙ named_given es name i v cs w first) ∙ (same ∙ ap (λ (zs : List Row). exchanged zs come.rows gone.rows) (sym told));
        exact = subst (λ (zs : List Row). IsExact zs come.rows gone.rows) (sym told) exact;
        few = omega (arith, less, few);
        come_headed = came ∙ headed;
        gone_headed = went ∙ headed;
      }

  one : (r : PlainRelvar) → IsInStep n es r → IsOfBase es r → (is_log_of name r ≡ true → log_count r + more ≤ most_rows) → IsChangeOf n all name come gone r
  one (base value constraints) step owner few = tt
  one (view t kind) step owner few = tt
  one (log of side last value) step owner few =
      (λ e. changing of side last value (same_name of name e) step owner (few e), λ e. (step.0, step.1 ∙ sym (ap base_rows (named_other es name of w e))))

  of_all : (fs : Entries) → All (λ r. IsInStep n es r.1) fs → All (λ r. IsOfBase es r.1) fs → All (λ r. is_log_of name r.1 ≡ true → log_count r.1 + more ≤ most_rows) fs → AreChanging n all name come gone fs
  of_all [] step owner few = All-nil (λ r. IsChangeOf n all name come gone r.1)
  of_all (f ∷ fs) step owner few =
      All-cons (λ r. IsChangeOf n all name come gone r.1) f fs
      (one f.1 (All-head (λ r. IsInStep n es r.1) f fs step) (All-head (λ r. IsOfBase es r.1) f fs owner) (All-head (λ r. is_log_of name r.1 ≡ true → log_count r.1 + more ≤ most_rows) f fs few))
      (of_all fs (All-tail (λ r. IsInStep n es r.1) f fs step) (All-tail (λ r. IsOfBase es r.1) f fs owner) (All-tail (λ r. is_log_of name r.1 ≡ true → log_count r.1 + more ≤ most_rows) f fs few))

  -- the logs do not tell the change yet, nor does the base relvar have it
  pub are_to_change : All (λ r. IsInStep n es r.1) es → All (λ r. IsOfBase es r.1) es → All (λ r. is_log_of name r.1 ≡ true → log_count r.1 + more ≤ most_rows) es → AreChanging n all name come gone es
  are_to_change step owner few = of_all es step owner few

  of_given : (own : Name) (r : PlainRelvar) → IsChangeOf n all name come gone r → IsChangeOf n all name come gone (given_relvar (Some name) (Some w) own r)
  of_given own r h = by (bytes_eq own name) r h
    where
      by : (b : Bool) (q : PlainRelvar) → IsChangeOf n all name come gone q → IsChangeOf n all name come gone (cond b (with_value w q) q)
      by true (base value constraints) k = tt
      by true (view t kind) k = tt
      by true (log of side last value) k = k
      by false q k = k

  all_given : (fs : Entries) → AreChanging n all name come gone fs → AreChanging n all name come gone (given (Some name) (Some w) fs)
  all_given [] h = All-nil (λ r. IsChangeOf n all name come gone r.1)
  all_given (f ∷ fs) h =
      All-cons (λ r. IsChangeOf n all name come gone r.1) (f.0, given_relvar (Some name) (Some w) f.0 f.1) (given (Some name) (Some w) fs)
      (of_given f.0 f.1 (All-head (λ r. IsChangeOf n all name come gone r.1) f fs h)) (all_given fs (All-tail (λ r. IsChangeOf n all name come gone r.1) f fs h))

  -- the base relvar has it
  pub are_changing : All (λ r. IsInStep n es r.1) es → All (λ r. IsOfBase es r.1) es → All (λ r. is_log_of name r.1 ≡ true → log_count r.1 + more ≤ most_rows) es → AreChanging n all name come gone all
  are_changing step owner few = all_given es (of_all es step owner few)

-- ---- the room of logs

module _ (name own : Name) (w : Relation) where
  abbrev given_one : Name × PlainRelvar → PlainRelvar
  given_one e = given_relvar (Some own) (Some w) e.0 e.1

  log_given : (e : Name × PlainRelvar) → is_log_of name (given_one e) ≡ is_log_of name e.1
  log_given e = by (bytes_eq e.0 own) e.1
    where
      by : (b : Bool) (r : PlainRelvar) → is_log_of name (cond b (with_value w r) r) ≡ is_log_of name r
      by true (base value constraints) = refl
      by true (view t kind) = refl
      by true (log of side last value) = refl
      by false r = refl

  count_given : (e : Name × PlainRelvar) → log_count (given_one e) ≡ log_count e.1
  count_given e = by (bytes_eq e.0 own) e.1
    where
      by : (b : Bool) (r : PlainRelvar) → log_count (cond b (with_value w r) r) ≡ log_count r
      by true (base value constraints) = refl
      by true (view t kind) = refl
      by true (log of side last value) = refl
      by false r = refl

  logs_given : (es : Entries) → length (logs_of name (given (Some own) (Some w) es)) ≡ length (logs_of name es)
  logs_given [] = refl
  logs_given (e ∷ es) = by (is_log_of name (given_one e)) (is_log_of name e.1) (log_given e) (logs_given es)
    where
      by : (b d : Bool) → b ≡ d → length (logs_of name (given (Some own) (Some w) es)) ≡ length (logs_of name es)
          → length (cond b ((e.0, given_one e) ∷ logs_of name (given (Some own) (Some w) es)) (logs_of name (given (Some own) (Some w) es))) ≡ length (cond d (e ∷ logs_of name es) (logs_of name es))
      by true true q ih = ap suc ih
      by false false q ih = ih
      by true false q ih = absurd (cc)
      by false true q ih = absurd (cc)

  counts_given : (es : Entries) → rows_of_logs (given (Some own) (Some w) es) ≡ rows_of_logs es
  counts_given [] = refl
  counts_given (e ∷ es) = λ i. count_given e i + counts_given es i

  each_given : (es : Entries) → are_each_few (given (Some own) (Some w) es) ≡ are_each_few es
  each_given [] = refl
  each_given (e ∷ es) = λ i. nat_le (count_given e i) most_rows && each_given es i

  few_given : (more : ℕ) (es : Entries) → All (λ r. is_log_of name r.1 ≡ true → log_count r.1 + more ≤ most_rows) es
      → All (λ r. is_log_of name r.1 ≡ true → log_count r.1 + more ≤ most_rows) (given (Some own) (Some w) es)
  few_given more [] h = All-nil (λ r. is_log_of name r.1 ≡ true → log_count r.1 + more ≤ most_rows)
  few_given more (e ∷ es) h =
      let here = All-head (λ r. is_log_of name r.1 ≡ true → log_count r.1 + more ≤ most_rows) e es h in
      All-cons (λ r. is_log_of name r.1 ≡ true → log_count r.1 + more ≤ most_rows) (e.0, given_one e) (given (Some own) (Some w) es)
      (λ q. subst (λ (k : ℕ). k + more ≤ most_rows) (sym (count_given e)) (here (sym (log_given e) ∙ q)))
      (few_given more es (All-tail (λ r. is_log_of name r.1 ≡ true → log_count r.1 + more ≤ most_rows) e es h))

  ended_given : (es : Entries) → All (λ r. HasEnded r.1) es → All (λ r. HasEnded r.1) (given (Some own) (Some w) es)
  ended_given [] h = All-nil (λ r. HasEnded r.1)
  ended_given (e ∷ es) h =
      All-cons (λ r. HasEnded r.1) (e.0, given_one e) (given (Some own) (Some w) es) (by (bytes_eq e.0 own) e.1 (All-head (λ r. HasEnded r.1) e es h)) (ended_given es (All-tail (λ r. HasEnded r.1) e es h))
    where
      by : (b : Bool) (r : PlainRelvar) → HasEnded r → HasEnded (cond b (with_value w r) r)
      by true (base value constraints) k = tt
      by true (view t kind) k = tt
      by true (log of side last value) k = k
      by false r k = k

  pub room_given : (more most room : ℕ) (es : Entries) → HasRoomForChange name more most room es → HasRoomForChange name more most room (given (Some own) (Some w) es)
  room_given more most room es h = record {
    once = let once = h.once in let same = logs_given es in omega (arith, once, same);
    fits = let fits = h.fits in let same = counts_given es in omega (arith, fits, same);
    few = few_given more es h.few;
    each = each_given es ∙ h.each;
    ended = ended_given es h.ended;
  }

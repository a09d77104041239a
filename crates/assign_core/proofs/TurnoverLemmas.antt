-- Rows that come to one base relvar, and others that go.
--     united_new, long_new      what comes is what the relvar does not have
--     renewed_given      the relvars after the turnover are those in which the target has the larger value
--     entry_after      what an entry is after the turnover
--     named_renewed, named_apart      what a name stands for after the turnover
--     rows_renewed      how many rows there are after the turnover
use Rattle.std.proofs.Common.{◌≡◌, ◌⊎◌, inl, inr, ℕ, zero, suc, ◌+◌, ◌<◌, ◌≤◌, Bool, true, false, cond, List, [], ◌∷◌, ◌++◌, map, length, refl, sym, ap, ap₂, subst, ◌∙◌, arith, true≢false, not, Option, Some, None, Result, Ok, Err, nat_eq, nat_le, ◌-◌}
use Rattle.std.proofs.lemmas.Bool.Decides.{nat_tests}
use Rattle.std.specs.Prelude.{slice_get, slice_index_or}
use Rattle.std.specs.List.{IsDistinct, AllByRecursion}
use Rattle.std.specs.Str.{bytes_eq}
use Rattle.base_core.specs.Sets.{has}
use Rattle.base_core.proofs.SetLemmas.{In, Ascends, in_order_by_members}
use Rattle.base_core.proofs.MemberLemmas.{In-append, has-In}
use Rattle.base_core.proofs.SetOperatorLemmas.{In-difference_of, length-in_order}
use Rattle.point_core.specs.declared.fault.Code.TheVariants.{E46}
use Rattle.value_core.specs.Limits.{most_rows_in_all}
use Rattle.value_core.specs.declared.constraint.Constraint.{Constraint}
use Rattle.value_core.specs.declared.refuse.Refuse.{Refuse}
use Rattle.value_core.specs.declared.refuse.Refuse.TheVariants.{Plain, At, Broken, Memory}
use Rattle.value_core.specs.Values.{Name, Row, Relation, row_cmp, most_rows}
use Rattle.value_core.specs.Order.{row_total, row_separates}
use Rattle.relation_core.specs.Operators.{united, subtracted}
use Rattle.relation_core.proofs.FilterLemmas.{filter_all}
use Rattle.relation_core.proofs.ApartLemmas.{length_apart, Apart-append, apart_ascending}
use Rattle.tree_core.specs.declared.relvar.Relvar.{Relvar}
use Rattle.tree_core.specs.Relvars.{PlainRelvar, base, Entries, relvar_named, heading_if, read_entry, read_relvar}
use Rattle.meaning_core.specs.Names.{IsFirstAt, given, with_value}
use Rattle.meaning_core.proofs.MadeLemmas.{same_name}
use Rattle.meaning_core.proofs.EntryLemmas.{named_first}
use Rattle.u_constraints.specs.Constraints.{rows_or_none}
use Rattle.u_constraints.specs.Growth.{exchanged}
use Rattle.change_rows.specs.declared.exchange.Exchange.{Exchange}
use Rattle.assign_core.specs.Assignments.{unless_broken, kept_or_refused, IsAdmitted}
use Rattle.assign_core.specs.Breaches.{count_of, rows_of_all, value_if, value_at, first_broken}
use Rattle.assign_core.specs.Changes.{Tells}
use Rattle.assign_core.specs.Checks.{heading_at}
use Rattle.assign_core.specs.Costs.{looked_at_all, constraints_cost}
use Rattle.assign_core.specs.Turnovers.{renewed, renewed_relvar, renewed_at, after_turnover, before_turnover, names_changed, rows_after, IsTurnover, IsCounted, MayExchange, IsExchangeAt}
use Rattle.assign_core.specs.declared.turnover.Turnover.{Turnover}
use Rattle.assign_core.specs.Parts.{names_in}
use Rattle.assign_core.proofs.NameLemmas.{turned}

-- ---- what is new

-- the rows that are new make the same union as all of them
pub united_new : (value rows : List Row) → united value (subtracted rows value) ≡ united value rows
united_new value rows = in_order_by_members row_cmp row_total row_separates (value ++ subtracted rows value) (value ++ rows) (λ x.
    let here = In-append x value (subtracted rows value) in
    let there = In-append x value rows in
    let new = In-difference_of row_cmp row_total row_separates x rows value in
    let known = has-In row_cmp row_total row_separates value x in
    let by : (b : Bool) → has row_cmp value x ≡ b → In x rows → In x value ⊎ In x (subtracted rows value) =
    λ b. elim b as (λ b. has row_cmp value x ≡ b → In x rows → In x value ⊎ In x (subtracted rows value)) [
      | true ↦ λ e i. inl (known.0 e)
      | false ↦ λ e i. inr (new.1 (i, λ j. true≢false (sym (known.1 j) ∙ e)))
    ] in (
      λ i. there.1 (elim (here.0 i) [ inl j ↦ inl j | inr j ↦ inr (new.0 j).0 ]),
      λ i. here.1 (elim (there.0 i) [ inl j ↦ inl j | inr j ↦ by (has row_cmp value x) refl j ]),
    ))

-- where none go there are those of both
pub none_go : (value come : List Row) → exchanged value [] come ≡ united value come
none_go value come = filter_all (λ (x : Row). not (has row_cmp [] x)) (united value come) (λ z i. refl)

-- and there are as many more
pub long_new : (value rows new : List Row) → Ascends row_cmp value → Ascends row_cmp new → new ≡ subtracted rows value → length (united value new) ≡ length value + length new
long_new value rows new a b is =
    let apart = Apart-append row_cmp value new (apart_ascending row_cmp value a) (apart_ascending row_cmp new b) (λ x y i j e.
    ((In-difference_of row_cmp row_total row_separates y rows value).0 (subst (λ zs. In y zs) is j)).1 (subst (λ z. In z value) (row_separates x y e) i)) in
    length_apart row_cmp (value ++ new) apart ∙ long value new
  where
    long : (xs ys : List Row) → length (xs ++ ys) ≡ length xs + length ys
    long [] ys = omega arith
    long (x ∷ xs) ys = let ih = long xs ys in omega (arith, ih)

pub long_exchanged : (value operand come gone : List Row) → Ascends row_cmp value → Ascends row_cmp come → come ≡ subtracted operand value → gone ≡ []
    → length (exchanged value gone come) ≡ length value + length come
long_exchanged value operand come gone a b new none =
    ap length (ap (λ (rs : List Row). exchanged value rs come) none ∙ none_go value come) ∙ long_new value operand come a b new

-- how many there are of both at most
pub few_together : (old come : List Row) (most : ℕ) → length old + length come ≤ most → length (united old come) ≤ most
few_together old come most few =
    let less = length-in_order row_cmp (old ++ come) in
    let both = long old come in
    omega (arith, less, both, few)
  where
    long : (xs ys : List Row) → length (xs ++ ys) ≡ length xs + length ys
    long [] ys = omega arith
    long (x ∷ xs) ys = let ih = long xs ys in omega (arith, ih)

-- ---- entries

apart_stays : (es : Entries) (own name : Name) (value : Relation) → bytes_eq own name ≡ true → AllByRecursion (λ n. bytes_eq own n ≡ false) (names_in es) → es ≡ given (Some name) (Some value) es
apart_stays [] own name value e h = refl
apart_stays (r ∷ es) own name value e h =
    let other : bytes_eq r.0 name ≡ false = turned name r.0 (ap (λ (n : Name). bytes_eq n r.0) (sym (same_name own name e)) ∙ h.0) in
    ap₂ (λ (x : PlainRelvar) (z : Entries). (r.0, x) ∷ z) (sym (ap (λ (b : Bool). cond b (with_value value r.1) r.1) other)) (apart_stays es own name value e h.1)

-- the relvars after the turnover are those in which the target has the larger value
pub renewed_given : (es : Entries) (name : Name) (i : ℕ) (value : Relation) (constraints : List Constraint) (rows : Exchange) → IsDistinct bytes_eq (names_in es) → IsFirstAt es name i (base value constraints)
    → renewed_at i rows es ≡ given (Some name) (Some (renewed value rows)) es
unfolding IsDistinct
renewed_given [] name i value constraints rows d first = absurd first
renewed_given (e ∷ es) name zero value constraints rows d first =
    ap₂ (λ (x : PlainRelvar) (z : Entries). (e.0, x) ∷ z)
    (ap (renewed_relvar rows) first.1 ∙ (sym (ap (with_value (renewed value rows)) first.1) ∙ sym (ap (λ (b : Bool). cond b (with_value (renewed value rows) e.1) e.1) first.0)))
    (apart_stays es e.0 name (renewed value rows) first.0 d.0)
renewed_given (e ∷ es) name (suc i) value constraints rows d first =
    ap₂ (λ (x : PlainRelvar) (z : Entries). (e.0, x) ∷ z)
    (sym (ap (λ (b : Bool). cond b (with_value (renewed value rows) e.1) e.1) first.0)) (renewed_given es name i value constraints rows d.1 first.1)

-- what an entry is before it
pub entry_left : (es : List (Name × Relvar)) (i : ℕ) (k : Name) (r : Relvar) (d : Name × PlainRelvar) → slice_get es i ≡ Some (k, r) → (k, read_relvar r) ≡ slice_index_or (map read_entry es) i d
entry_left [] i k r d is = absurd (cc)
entry_left (x ∷ es) zero k r d is = let same : (k, r) ≡ x = cc in ap read_entry same
entry_left (x ∷ es) (suc i) k r d is = entry_left es i k r d is

-- what an entry is after the turnover
entry_renewed : (es : List (Name × Relvar)) (i : ℕ) (rows : Exchange) (k : Name) (r : Relvar) (d : Name × PlainRelvar) → slice_get es i ≡ Some (k, r)
    → (k, renewed_relvar rows (read_relvar r)) ≡ slice_index_or (renewed_at i rows (map read_entry es)) i d
entry_renewed [] i rows k r d is = absurd (cc)
entry_renewed (x ∷ es) zero rows k r d is = let same : (k, r) ≡ x = cc in ap (λ (z : Name × Relvar). (z.0, renewed_relvar rows (read_relvar z.1))) same
entry_renewed (x ∷ es) (suc i) rows k r d is = entry_renewed es i rows k r d is

entry_apart : (es : List (Name × Relvar)) (at i : ℕ) (rows : Exchange) (k : Name) (r : Relvar) (d : Name × PlainRelvar) → ((i ≡ at) → ⊥) → slice_get es i ≡ Some (k, r)
    → (k, read_relvar r) ≡ slice_index_or (renewed_at at rows (map read_entry es)) i d
entry_apart [] at i rows k r d apart is = absurd (cc)
entry_apart (x ∷ es) zero zero rows k r d apart is = absurd (apart refl)
entry_apart (x ∷ es) zero (suc i) rows k r d apart is = entry_left es i k r d is
entry_apart (x ∷ es) (suc at) zero rows k r d apart is = let same : (k, r) ≡ x = cc in ap read_entry same
entry_apart (x ∷ es) (suc at) (suc i) rows k r d apart is = entry_apart es at i rows k r d (λ e. apart (ap suc e)) is

pub entry_after : (es : List (Name × Relvar)) (at i : ℕ) (rows : Exchange) (k : Name) (r : Relvar) (d : Name × PlainRelvar) → slice_get es i ≡ Some (k, r)
    → (k, cond (nat_eq i at) (renewed_relvar rows (read_relvar r)) (read_relvar r)) ≡ slice_index_or (renewed_at at rows (map read_entry es)) i d
entry_after es at i rows k r d is = by (nat_eq i at) refl
  where
    by : (b : Bool) → nat_eq i at ≡ b → (k, cond b (renewed_relvar rows (read_relvar r)) (read_relvar r)) ≡ slice_index_or (renewed_at at rows (map read_entry es)) i d
    by true e =
        let same : i ≡ at = grind (arith, nat_tests) in
        entry_renewed es i rows k r d is ∙ ap (λ (j : ℕ). slice_index_or (renewed_at j rows (map read_entry es)) i d) same
    by false e = entry_apart es at i rows k r d (λ same. let yes : nat_eq i at ≡ true = grind (arith, nat_tests) in true≢false (sym yes ∙ e)) is

-- the entry at the place is the first of its name there
pub first_entry : (es : List (Name × Relvar)) (name : Name) (at : ℕ) (x : PlainRelvar) (k : Name) (r : Relvar) → IsFirstAt (map read_entry es) name at x → slice_get es at ≡ Some (k, r)
    → read_relvar r ≡ x
first_entry [] name at x k r first is = absurd first
first_entry (e ∷ es) name zero x k r first is = let same : (k, r) ≡ e = cc in ap (λ (z : Name × Relvar). read_relvar z.1) same ∙ first.1
first_entry (e ∷ es) name (suc at) x k r first is = first_entry es name at x k r first.1 is

pub length_renewed : (es : Entries) (i : ℕ) (rows : Exchange) → length (renewed_at i rows es) ≡ length es
length_renewed [] i rows = refl
length_renewed (x ∷ es) zero rows = refl
length_renewed (x ∷ es) (suc i) rows = ap suc (length_renewed es i rows)

-- ---- names

-- the name of the relvar that changes
pub named_renewed : (es : Entries) (name other : Name) (i : ℕ) (value : Relation) (constraints : List Constraint) (rows : Exchange) → IsFirstAt es name i (base value constraints) → bytes_eq name other ≡ true
    → relvar_named (renewed_at i rows es) other ≡ Some (base (renewed value rows) constraints)
named_renewed [] name other i value constraints rows first e = absurd first
named_renewed (r ∷ es) name other zero value constraints rows first e =
    let here : bytes_eq r.0 other ≡ true = ap (λ (n : Name). bytes_eq r.0 n) (sym (same_name name other e)) ∙ first.0 in
    ap (λ (b : Bool). cond b (Some (renewed_relvar rows r.1)) (relvar_named es other)) here ∙ ap (λ (x : PlainRelvar). Some (renewed_relvar rows x)) first.1
named_renewed (r ∷ es) name other (suc i) value constraints rows first e =
    let there : bytes_eq r.0 other ≡ false = ap (λ (n : Name). bytes_eq r.0 n) (sym (same_name name other e)) ∙ first.0 in
    ap (λ (b : Bool). cond b (Some r.1) (relvar_named (renewed_at i rows es) other)) there ∙ named_renewed es name other i value constraints rows first.1 e

-- another name
pub named_apart : (es : Entries) (name other : Name) (i : ℕ) (x : PlainRelvar) (rows : Exchange) → IsFirstAt es name i x → bytes_eq name other ≡ false
    → relvar_named (renewed_at i rows es) other ≡ relvar_named es other
named_apart [] name other i x rows first e = refl
named_apart (r ∷ es) name other zero x rows first e =
    let there : bytes_eq r.0 other ≡ false = ap (λ (n : Name). bytes_eq n other) (same_name r.0 name first.0) ∙ e in
    ap (λ (b : Bool). cond b (Some (renewed_relvar rows r.1)) (relvar_named es other)) there ∙ sym (ap (λ (b : Bool). cond b (Some r.1) (relvar_named es other)) there)
named_apart (r ∷ es) name other (suc i) x rows first e =
    ap (λ (z : Option PlainRelvar). cond (bytes_eq r.0 other) (Some r.1) z) (named_apart es name other i x rows first.1 e)

-- ---- how many rows

pub rows_renewed : (es : Entries) (name : Name) (i : ℕ) (value : Relation) (constraints : List Constraint) (rows : Exchange) → IsFirstAt es name i (base value constraints)
    → IsCounted value rows → rows_of_all (renewed_at i rows es) + length rows.gone.rows ≡ rows_of_all es + length rows.come.rows
rows_renewed [] name i value constraints rows first counted = absurd first
rows_renewed (r ∷ es) name zero value constraints rows first counted =
    let before : count_of r ≡ length value.rows = ap (λ (x : PlainRelvar). count_of (r.0, x)) first.1 in
    let after : count_of (r.0, renewed_relvar rows r.1) ≡ length (exchanged value.rows rows.gone.rows rows.come.rows) = ap (λ (x : PlainRelvar). count_of (r.0, renewed_relvar rows x)) first.1 in
    omega (arith, before, after, counted)
rows_renewed (r ∷ es) name (suc i) value constraints rows first counted =
    let ih = rows_renewed es name i value constraints rows first.1 counted in
    omega (arith, ih)

-- ---- what is put there

pub is_exchange_at : (es : Entries) (name : Name) (i : ℕ) (value : Relation) (constraints : List Constraint) (rows : Exchange) → IsFirstAt es name i (base value constraints) → rows.come.heading ≡ value.heading
    → length (united value.rows rows.come.rows) ≤ most_rows → IsExchangeAt i rows es
is_exchange_at [] name i value constraints rows first headed few = absurd first
is_exchange_at (r ∷ es) name zero value constraints rows first headed few = subst (MayExchange rows) (sym first.1) (headed, few)
is_exchange_at (r ∷ es) name (suc i) value constraints rows first headed few = is_exchange_at es name i value constraints rows first.1 headed few

-- ---- what a constraint names

module _ (g : Turnover) (turnover : IsTurnover g) where
  pub named_value : (n : Option Name) → names_changed g n ≡ true → value_at (before_turnover g) n ≡ Some g.value.now
  named_value None e = absurd (true≢false (sym e))
  named_value (Some name) e =
      ap (λ (k : Name). value_if (relvar_named (before_turnover g) k)) (sym (same_name g.name.now name e))
      ∙ ap value_if (named_first (before_turnover g) g.name.now g.at (base g.value.now turnover.constraints) turnover.first)

  pub value_after : (n : Option Name) → names_changed g n ≡ true → value_at (after_turnover g) n ≡ Some (renewed g.value.now g.rows.now)
  value_after None e = absurd (true≢false (sym e))
  value_after (Some name) e = ap value_if (named_renewed (before_turnover g) g.name.now name g.at g.value.now turnover.constraints g.rows.now turnover.first e)

  pub other_value : (n : Option Name) → names_changed g n ≡ false → value_at (after_turnover g) n ≡ value_at (before_turnover g) n
  other_value None e = refl
  other_value (Some name) e = ap value_if (named_apart (before_turnover g) g.name.now name g.at (base g.value.now turnover.constraints) g.rows.now turnover.first e)

  pub named_heading : (n : Option Name) → names_changed g n ≡ true → heading_at (before_turnover g) n ≡ g.value.now.heading
  named_heading None e = absurd (true≢false (sym e))
  named_heading (Some name) e =
      ap (λ (k : Name). heading_if (relvar_named (before_turnover g) k)) (sym (same_name g.name.now name e))
      ∙ ap heading_if (named_first (before_turnover g) g.name.now g.at (base g.value.now turnover.constraints) turnover.first)
  -- ---- the constraints of a relvar

-- what is said of the rows after the turnover, and of those of the relvar that the constraint names
pub after_exchange : (P : List Row → List Row → Type 0) (g : Turnover) (own is : Bool) (rows : List Row) (before after : Option Relation) → own ≡ is → before ≡ after
    → P (rows_after g is rows) (rows_or_none before) → P (rows_after g own rows) (rows_or_none after)
after_exchange P g own is rows before after same there told =
    subst (λ (o : Option Relation). P (rows_after g own rows) (rows_or_none o)) there (subst (λ (b : Bool). P (rows_after g b rows) (rows_or_none before)) (sym same) told)

-- ---- what is admitted

pub few_after : (before after gone come most : ℕ) (t : Bool) → after + gone ≡ before + come → come ≤ most → t ≡ nat_le before (most + gone - come) → t ≡ nat_le after most
few_after before after gone come most true e l q =
    let few : before ≤ most + gone - come = grind (arith, nat_tests) in
    let there : after ≤ most = omega (arith, e, l, few) in
    grind (arith, nat_tests)
few_after before after gone come most false e l q =
    let over : most + gone - come < before = grind (arith, nat_tests) in
    let there : most < after = omega (arith, e, l, over) in
    grind (arith, nat_tests)

pub over_admitted : (new : Entries) → false ≡ nat_le (rows_of_all new) most_rows_in_all → kept_or_refused new ≡ Err (Plain E46)
over_admitted new e = ap (λ (t : Bool). cond t (unless_broken new (first_broken new)) (Err (Plain E46))) (sym e)

pub told_admitted : (new : Entries) (result : Result (Unit {0}) Refuse) → true ≡ nat_le (rows_of_all new) most_rows_in_all → Tells result (first_broken new) → IsAdmitted result new
told_admitted new result e told = by result told
  where
    here : kept_or_refused new ≡ unless_broken new (first_broken new)
    here = ap (λ (t : Bool). cond t (unless_broken new (first_broken new)) (Err (Plain E46))) (sym e)

    by : (result : Result (Unit {0}) Refuse) → Tells result (first_broken new) → IsAdmitted result new
    by (Ok done) t = here ∙ ap (unless_broken new) t
    by (Err (Plain code)) t = absurd t
    by (Err (At f)) t = absurd t
    by (Err (Broken code relvar number)) t = here ∙ ap (unless_broken new) t
    by (Err Memory) t = tt

pub cost_admitted : (new : Entries) → true ≡ nat_le (rows_of_all new) most_rows_in_all → constraints_cost new ≡ looked_at_all new new
cost_admitted new e = ap (λ (t : Bool). cond t (looked_at_all new new) 0) (sym e)

-- A new value that stands ready alone, and the rows by which it differs from the old one.
--     difference_is      the old value becomes the new one by an exchange of rows
--     changed_only      the relvars with the only new value are those after that exchange
--     first_placed, headed_placed      the base relvar that has it
use Rattle.std.proofs.Common.{◌≡◌, ◌⊎◌, inl, inr, ℕ, zero, suc, ◌+◌, ◌<◌, ◌≤◌, Bool, true, false, List, [], ◌∷◌, ◌++◌, map, take, length, refl, sym, ap, ap₂, subst, ◌∙◌, arith, true≢false, Option, Some, None, is_some, IfSome}
use Rattle.std.specs.Prelude.{slice_index_or, slice_get}
use Rattle.std.specs.List.{IsDistinct, AllByRecursion}
use Rattle.std.specs.Str.{bytes_eq}
use Rattle.base_core.specs.Sets.{has}
use Rattle.base_core.proofs.SetLemmas.{In, Ascends, Ascends-in_order, Ascends-from_sorted, same_by_members}
use Rattle.base_core.proofs.MemberLemmas.{has-In}
use Rattle.base_core.proofs.SetOperatorLemmas.{In-union_of, In-difference_of, Ascends-difference_of}
use Rattle.value_core.specs.declared.constraint.Constraint.{Constraint}
use Rattle.value_core.specs.Values.{Name, Heading, Row, Relation, IsRelation, row_cmp}
use Rattle.value_core.specs.Order.{row_total, row_separates}
use Rattle.relation_core.specs.Operators.{subtracted, united}
use Rattle.relation_core.proofs.FilterLemmas.{take_all}
use Rattle.tree_core.specs.declared.relvar.Relvar.{Relvar}
use Rattle.tree_core.specs.Relvars.{PlainRelvar, base, view, Entries, read_entry, read_relvar, log}
use Rattle.meaning_core.specs.Names.{IsFirstAt}
use Rattle.meaning_core.proofs.MadeLemmas.{own_name}
use Rattle.u_constraints.specs.Growth.{exchanged}
use Rattle.change_rows.specs.declared.exchange.Exchange.{Exchange}
use Rattle.relvar_logs.specs.Changes.{Changes, IsChange, AreChanges, changed, changed_relvar}
use Rattle.assign_core.specs.Breaches.{value_of}
use Rattle.assign_core.specs.Differences.{AreNone, AreFound, HasBoth, IsOnly, IsOnlyAt, IsPlaced}
use Rattle.assign_core.specs.Parts.{names_in}
use Rattle.assign_core.specs.Turnovers.{renewed, renewed_relvar, renewed_at}
use Rattle.assign_core.specs.declared.checking.After.{After}
use Rattle.assign_core.specs.declared.differences.Only.{Only}

-- ---- rows that come and go

-- the rows of both, without those that the new one lacks, are the new one's
new_rows : (old new : List Row) → Ascends row_cmp new → new ≡ exchanged old (subtracted old new) (subtracted new old)
new_rows old new up =
    let come = subtracted new old in
    let gone = subtracted old new in
    let all = united old come in
    same_by_members row_cmp row_total row_separates new (subtracted all gone) up
    (Ascends-difference_of row_cmp row_total row_separates all gone (Ascends-in_order row_cmp row_total row_separates (old ++ come)))
    (λ z.
    let left = In-difference_of row_cmp row_total row_separates z all gone in
    let either = In-union_of row_cmp row_total row_separates z old come in
    let comes = In-difference_of row_cmp row_total row_separates z new old in
    let goes = In-difference_of row_cmp row_total row_separates z old new in
    let known = has-In row_cmp row_total row_separates old z in
    let stays = has-In row_cmp row_total row_separates new z in
    let old_or_come : (b : Bool) → has row_cmp old z ≡ b → In z new → In z old ⊎ In z come =
    λ b. elim b as (λ b. has row_cmp old z ≡ b → In z new → In z old ⊎ In z come) [
      | true ↦ λ e i. inl (known.0 e)
      | false ↦ λ e i. inr (comes.1 (i, λ j. true≢false (sym (known.1 j) ∙ e)))
    ] in
    let of_old : (b : Bool) → has row_cmp new z ≡ b → In z old → (In z gone → ⊥) → In z new =
    λ b. elim b as (λ b. has row_cmp new z ≡ b → In z old → (In z gone → ⊥) → In z new) [
      | true ↦ λ e i out. stays.0 e
      | false ↦ λ e i out. absurd (out (goes.1 (i, λ j. true≢false (sym (stays.1 j) ∙ e))))
    ] in (
      λ i. left.1 (either.1 (old_or_come (has row_cmp old z) refl i), λ j. (goes.0 j).1 i),
      λ i. elim (either.0 (left.0 i).0) [ inl j ↦ of_old (has row_cmp new z) refl j (left.0 i).1 | inr j ↦ (comes.0 j).0 ],
    ))

pub difference_is : (old new come gone : Relation) → IsRelation new → new.heading ≡ old.heading → come ≡ record { heading = new.heading; rows = subtracted new.rows old.rows }
    → gone ≡ record { heading = old.heading; rows = subtracted old.rows new.rows } → new ≡ renewed old (record { come = come; gone = gone })
difference_is old new come gone is headed came went =
    ap₂ (λ (h : Heading) (rs : List Row). record { heading = h; rows = rs }) headed
    (new_rows old.rows new.rows (Ascends-from_sorted row_cmp new.rows is.ascending)
    ∙ ap₂ (λ (c g : Relation). exchanged old.rows g.rows c.rows) (sym came) (sym went))

-- ---- the only new value

none_changed : (cs : Changes) (es : Entries) → AreNone cs → changed cs es ≡ es
none_changed [] es h = refl
none_changed (c ∷ cs) [] h = refl
none_changed (c ∷ cs) (e ∷ es) h = ap₂ (λ (o : Option Relation) (z : Entries). (e.0, changed_relvar o e.1) ∷ z) h.0 (none_changed cs es h.1)

pub changed_only : (cs : Changes) (es : Entries) (i : ℕ) (o : Only) (constraints : List Constraint) (x : Exchange) → IsOnlyAt i cs → IsPlaced cs es i o constraints → o.new.now ≡ renewed o.old.now x
    → changed cs es ≡ renewed_at i x es
changed_only [] es i o constraints x only placed is = absurd only
changed_only (c ∷ cs) [] i o constraints x only placed is = absurd placed
changed_only (c ∷ cs) (e ∷ es) zero o constraints x only placed is =
    let here : changed_relvar c e.1 ≡ renewed_relvar x e.1 =
    ap₂ (λ (v : Option Relation) (r : Name × PlainRelvar). changed_relvar v r.1) placed.0 placed.1
    ∙ (ap (λ (v : Relation). base v constraints) is ∙ sym (ap (λ (r : Name × PlainRelvar). renewed_relvar x r.1) placed.1)) in
    ap₂ (λ (r : PlainRelvar) (z : Entries). (e.0, r) ∷ z) here (none_changed cs es only)
changed_only (c ∷ cs) (e ∷ es) (suc i) o constraints x only placed is =
    ap₂ (λ (v : Option Relation) (z : Entries). (e.0, changed_relvar v e.1) ∷ z) only.0 (changed_only cs es i o constraints x only.1 placed is)

pub headed_placed : (cs : Changes) (es : Entries) (i : ℕ) (o : Only) (constraints : List Constraint) → AreChanges cs es → IsPlaced cs es i o constraints → o.new.now.heading ≡ o.old.now.heading
headed_placed [] es i o constraints are placed = absurd placed
headed_placed (c ∷ cs) [] i o constraints are placed = absurd placed
headed_placed (c ∷ cs) (e ∷ es) zero o constraints are placed =
    subst (λ (r : Name × PlainRelvar). IsChange (Some o.new.now) r.1) placed.1 (subst (λ (v : Option Relation). IsChange v e.1) placed.0 are.0)
headed_placed (c ∷ cs) (e ∷ es) (suc i) o constraints are placed = headed_placed cs es i o constraints are.1 placed

name_passes : (P : Name → Type 0) (cs : Changes) (es : Entries) (i : ℕ) (o : Only) (constraints : List Constraint) → AllByRecursion P (names_in es) → IsPlaced cs es i o constraints → P o.name.now
name_passes P [] es i o constraints h placed = absurd placed
name_passes P (c ∷ cs) [] i o constraints h placed = absurd placed
name_passes P (c ∷ cs) (e ∷ es) zero o constraints h placed = subst (λ (r : Name × PlainRelvar). P r.0) placed.1 h.0
name_passes P (c ∷ cs) (e ∷ es) (suc i) o constraints h placed = name_passes P cs es i o constraints h.1 placed

pub first_placed : (cs : Changes) (es : Entries) (i : ℕ) (o : Only) (constraints : List Constraint) → IsDistinct bytes_eq (names_in es) → IsPlaced cs es i o constraints
    → IsFirstAt es o.name.now i (base o.old.now constraints)
unfolding IsDistinct
first_placed [] es i o constraints d placed = absurd placed
first_placed (c ∷ cs) [] i o constraints d placed = absurd placed
first_placed (c ∷ cs) (e ∷ es) zero o constraints d placed =
    (ap (λ (r : Name × PlainRelvar). bytes_eq r.0 o.name.now) placed.1 ∙ own_name o.name.now, ap (λ (r : Name × PlainRelvar). r.1) placed.1)
first_placed (c ∷ cs) (e ∷ es) (suc i) o constraints d placed =
    (name_passes (λ n. bytes_eq e.0 n ≡ false) cs es i o constraints d.0 placed, first_placed cs es i o constraints d.1 placed)

pub is_placed : (cs : Changes) (es : List (Name × Relvar)) (i : ℕ) (o : Only) (constraints : List Constraint) (d : Option Relation) (r : Relvar) → i < length cs → slice_index_or cs i d ≡ Some o.new.now
    → slice_get es i ≡ Some (o.name.now, r) → read_relvar r ≡ base o.old.now constraints → IsPlaced cs (map read_entry es) i o constraints
is_placed [] es i o constraints d r l new there is = absurd (omega (arith, l))
is_placed (c ∷ cs) [] i o constraints d r l new there is = absurd (cc)
is_placed (c ∷ cs) (e ∷ es) zero o constraints d r l new there is =
    let same : e ≡ (o.name.now, r) = cc in
    (new, ap read_entry same ∙ ap (λ (z : PlainRelvar). (o.name.now, z)) is)
is_placed (c ∷ cs) (e ∷ es) (suc i) o constraints d r l new there is = is_placed cs es i o constraints d r (omega (arith, l)) new there is

is_only : (a : After) (o : Only) (r : Relvar) (d : Option Relation) → o.at < length a.changes.now → IsOnlyAt o.at a.changes.now → slice_index_or a.changes.now o.at d ≡ Some o.new.now
    → slice_get a.relvars.now.list.entries o.at ≡ Some (o.name.now, r) → value_of (read_relvar r) ≡ Some o.old.now → IsOnly a o
is_only a o r d l alone new there is = by (read_relvar r) refl is
  where
    by : (p : PlainRelvar) → read_relvar r ≡ p → value_of p ≡ Some o.old.now → IsOnly a o
    by (base v cs) q f =
        let same : v ≡ o.old.now = cc in
        record {
          constraints = cs;
          alone = alone;
          placed = is_placed a.changes.now a.relvars.now.list.entries o.at o cs d r l new there (q ∙ ap (λ (w : Relation). base w cs) same);
        }
    by (view t h) q f = absurd (cc)
    by (log of side last w) q f = absurd (cc)

pub only_found : (a : After) (result : Option Only) (i : ℕ) (n : Name) (r : Relvar) (d : Option Relation) → i < length a.changes.now → IsOnlyAt i a.changes.now
    → slice_get a.relvars.now.list.entries i ≡ Some (n, r) → IfSome result (λ o. HasBoth o i n (read_relvar r) (slice_index_or a.changes.now i d)) → IfSome result (IsOnly a)
only_found a None i n r d l alone there h = tt
only_found a (Some o) i n r d l alone there h =
    let new : slice_index_or a.changes.now o.at d ≡ Some o.new.now = ap (λ (k : ℕ). slice_index_or a.changes.now k d) h.at ∙ h.new in
    let entry : slice_get a.relvars.now.list.entries o.at ≡ Some (o.name.now, r) = ap (slice_get a.relvars.now.list.entries) h.at ∙ (there ∙ ap (λ (m : Name). Some (m, r)) (sym h.name)) in
    is_only a o r d (subst (λ (k : ℕ). k < length a.changes.now) (sym h.at) l) (subst (λ (k : ℕ). IsOnlyAt k a.changes.now) (sym h.at) alone) new entry h.old

-- ---- its place

none_more : (cs : Changes) (i : ℕ) (d : Option Relation) → i < length cs → AreNone (take i cs) → slice_index_or cs i d ≡ None → AreNone (take (suc i) cs)
none_more [] i d l h e = absurd (omega (arith, l))
none_more (c ∷ cs) zero d l h e = (e, tt)
none_more (c ∷ cs) (suc i) d l h e = (h.0, none_more cs i d (omega (arith, l)) h.1 e)

one_more : (cs : Changes) (i : ℕ) → i < length cs → AreNone (take i cs) → IsOnlyAt i (take (suc i) cs)
one_more [] i l h = absurd (omega (arith, l))
one_more (c ∷ cs) zero l h = tt
one_more (c ∷ cs) (suc i) l h = (h.0, one_more cs i (omega (arith, l)) h.1)

only_more : (cs : Changes) (k i : ℕ) (d : Option Relation) → i < length cs → IsOnlyAt k (take i cs) → slice_index_or cs i d ≡ None → IsOnlyAt k (take (suc i) cs)
only_more [] k i d l h e = absurd (omega (arith, l))
only_more (c ∷ cs) k zero d l h e = absurd h
only_more (c ∷ cs) zero (suc i) d l h e = none_more cs i d (omega (arith, l)) h e
only_more (c ∷ cs) (suc k) (suc i) d l h e = (h.0, only_more cs k i d (omega (arith, l)) h.1 e)

nothing : (o : Option Relation) → is_some o ≡ false → o ≡ None
nothing None e = refl
nothing (Some v) e = absurd (true≢false e)

nowhere : (f : Option ℕ) → is_some f ≡ false → f ≡ None
nowhere None e = refl
nowhere (Some v) e = absurd (true≢false e)

-- a place with nothing new
pub found_more : (cs : Changes) (f : Option ℕ) (i : ℕ) (d : Option Relation) → i < length cs → AreFound f (take i cs) → is_some (slice_index_or cs i d) ≡ false → AreFound f (take (i + 1) cs)
found_more cs f i d l h e =
    let one : suc i ≡ i + 1 = omega arith in
    subst (λ (n : ℕ). AreFound f (take n cs)) one (by f h)
  where
    by : (f : Option ℕ) → AreFound f (take i cs) → AreFound f (take (suc i) cs)
    by None h = none_more cs i d l h (nothing (slice_index_or cs i d) e)
    by (Some k) h = only_more cs k i d l h (nothing (slice_index_or cs i d) e)

-- the first one with something new
pub found_first : (cs : Changes) (f : Option ℕ) (i : ℕ) → i < length cs → AreFound f (take i cs) → is_some f ≡ false → AreFound (Some i) (take (i + 1) cs)
found_first cs f i l h e =
    let one : suc i ≡ i + 1 = omega arith in
    subst (λ (n : ℕ). IsOnlyAt i (take n cs)) one (one_more cs i l (subst (λ (g : Option ℕ). AreFound g (take i cs)) (nowhere f e) h))

within_only : (cs : Changes) (i : ℕ) → IsOnlyAt i cs → i < length cs
within_only [] i h = absurd h
within_only (c ∷ cs) zero h = omega arith
within_only (c ∷ cs) (suc i) h = let ih = within_only cs i h.1 in omega (arith, ih)

-- what is found among all of them
pub found_alone : (f : Option ℕ) (cs : Changes) (i : ℕ) → length cs ≤ i → AreFound f (take i cs) → IfSome f (λ k. IsOnlyAt k cs)
found_alone None cs i l h = tt
found_alone (Some k) cs i l h = subst (IsOnlyAt k) (take_all i cs l) h

pub found_within : (f : Option ℕ) (cs : Changes) (i : ℕ) → length cs ≤ i → AreFound f (take i cs) → IfSome f (λ k. k < length cs)
found_within None cs i l h = tt
found_within (Some k) cs i l h = within_only cs k (subst (IsOnlyAt k) (take_all i cs l) h)

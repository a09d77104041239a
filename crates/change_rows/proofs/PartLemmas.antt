-- The rows with the labels of some rows, and what a row filter tells of the others.
--     touched_closed      the rows with the labels of some rows have all rows with their labels
--     others_told      of the others the row filter is FALSE
--     told_false, told_both      then the condition is FALSE at all of their points
use Rattle.std.proofs.Common.{◌≡◌, ◌↔◌, ℕ, ◌+◌, ◌<◌, Bool, true, false, List, [], ◌∷◌, ◌++◌, Ok, Err, Option, Some, None, map, length, get_or, take, option_map, refl, sym, ap, ◌∙◌, subst, if◌then◌else◌}
use Rattle.std.specs.Prelude.{IfSome}
use Rattle.std.specs.Bool.{IsTrue}
use Rattle.std.specs.List.{All, filter}
use Rattle.std.proofs.lemmas.List.Elements.{filter_more}
use Rattle.std.proofs.lemmas.Bool.{true≢false}
use Rattle.base_core.specs.Outcomes.{then_give}
use Rattle.base_core.specs.Sets.{has}
use Rattle.base_core.proofs.SetLemmas.{In, Ascends, In-in_order, same_by_members, Contains-from_In}
use Rattle.base_core.proofs.MemberLemmas.{In-map, In-filter, has-In, list_all-In}
use Rattle.base_core.proofs.SetOperatorLemmas.{Ascends-filter}
use Rattle.base_core.proofs.ListLemmas.{All-In}
use Rattle.point_core.specs.Faults.{OrFault}
use Rattle.point_core.specs.declared.fault.Place.{Place}
use Rattle.value_core.specs.declared.kind.Kind.TheVariants.{Truth}
use Rattle.value_core.specs.Attributes.{among}
use Rattle.value_core.specs.Order.{row_total, row_separates}
use Rattle.value_core.specs.RowPacking.{unpacked}
use Rattle.value_core.specs.Values.{Row, Heading, Relation, IsRelation, row_cmp, fits_heading}
use Rattle.scalar_core.specs.Expressions.{Expr, read}
use Rattle.scalar_core.specs.declared.tree.Scalar.{Scalar}
use Rattle.scalar_core.specs.Kinds.{IsTyped}
use Rattle.scalar_core.specs.Operations.{is_true}
use Rattle.scalar_core.specs.ScalarValues.{value}
use Rattle.scalar_core.specs.Sweeping.{names_any}
use Rattle.scalar_core.proofs.SweepLemmas.{unnamed}
use Rattle.relation_core.specs.Agreement.{part_of}
use Rattle.relation_core.specs.Growth.{touched}
use Rattle.relation_core.specs.Operators.{subtracted}
use Rattle.relation_core.specs.Parts.{projected}
use Rattle.relation_core.proofs.FilterLemmas.{rows_ascend}
use Rattle.meaning_core.specs.Meanings.{condition}
use Rattle.meaning_core.specs.Scalars.{IsConditionOver}
use Rattle.u_set.specs.Apart.{outside}
use Rattle.u_constraints.proofs.GrowthLemmas.{In-subtracted}
use Rattle.change_rows.specs.Affected.{AreFalse, IsClosedPart}
use Rattle.change_rows.specs.RowFilters.{stays, AreTold, row_filter, row_filter_of_both}
use Rattle.change_rows.proofs.RowFilterLemmas.{AllRowFilter, AllRowFilterBoth, row_filter_is, row_filter_of_both_is}
use Rattle.change_rows.proofs.PlaceLemmas.{opened_from}

-- ---- the positions of a label

-- ---- rows with the labels of some rows

-- a part of some rows is that of one of them
In-projected : (positions : List ℕ) (rows : List Row) (x : Row) → IsTrue (has row_cmp (projected positions rows) (part_of positions x)) ↔ ((y : Row) × In y rows × (part_of positions x ≡ part_of positions y))
In-projected positions rows x =
    let told = has-In row_cmp row_total row_separates (projected positions rows) (part_of positions x) in
    let set = In-in_order row_cmp row_total row_separates (part_of positions x) (map (part_of positions) rows) in
    let parts = In-map (part_of positions) (part_of positions x) rows in
    (λ h. parts.0 (set.0 (told.0 h)), λ w. told.1 (set.1 (parts.1 w)))

In-touched : (positions : List ℕ) (few many : List Row) (x : Row) → In x (touched positions few many) ↔ (In x many × ((y : Row) × In y few × (part_of positions x ≡ part_of positions y)))
In-touched positions few many x =
    let kept = In-filter (λ z. has row_cmp (projected positions few) (part_of positions z)) x many in
    let parts = In-projected positions few x in
    (λ i. let w = kept.0 i in (w.0, parts.0 w.1), λ w. kept.1 (w.0, parts.1 w.1))

pub touched_closed : (positions : List ℕ) (few many : List Row) → Ascends row_cmp many → touched positions few many ≡ touched positions (touched positions few many) many
touched_closed positions few many up =
    let part : List Row = touched positions few many in
    same_by_members row_cmp row_total row_separates part (touched positions part many)
    (Ascends-filter row_cmp (λ z. has row_cmp (projected positions few) (part_of positions z)) many up)
    (Ascends-filter row_cmp (λ z. has row_cmp (projected positions part) (part_of positions z)) many up) (λ x.
    let here = In-touched positions few many x in
    let there = In-touched positions part many x in (
      λ i. there.1 ((here.0 i).0, (x, i, refl)),
      λ i.
          let w = there.0 i in
          let v = (In-touched positions few many w.1.0).0 w.1.1 in
          here.1 (w.0, (v.1.0, v.1.1, w.1.2 ∙ v.1.2)),
    ))

pub part_closed : (commalist : List ℕ) (value part : Relation) (label : List ℕ) (few : List Row) → IsRelation value → label ≡ outside commalist value.heading → part.heading ≡ value.heading → part.rows ≡ touched label few value.rows
    → IsClosedPart commalist value part
part_closed commalist value part label few is at heading rows =
    let own : part.rows ≡ touched (outside commalist value.heading) few value.rows = rows ∙ ap (λ (l : List ℕ). touched l few value.rows) at in
    record {
      heading = heading;
      closed = own ∙ touched_closed (outside commalist value.heading) few value.rows (rows_ascend value is) ∙ ap (λ (zs : List Row). touched (outside commalist value.heading) zs value.rows) (sym own);
    }

-- ---- what is told of the others

not_staying : (r : OrFault Bool) → stays r ≡ false → r ≡ Ok false
not_staying (Ok b) h = ap (λ (t : Bool). Ok t) h
not_staying (Err e) h = absurd (true≢false h)

-- a row that is not in the part is not in the few, so that the row filter does not stay
pub others_told : (g : Expr) (label : List ℕ) (value few part : List Row) → few ≡ filter (λ row. stays (condition g row)) value → part ≡ touched label few value → All (λ (row : Row). condition g row ≡ Ok false) (subtracted value part)
others_told g label rows few part chosen is =
    All-In (λ (row : Row). condition g row ≡ Ok false) (subtracted rows part) (λ x i.
    let w = (In-subtracted rows part x).0 i in
    elim (stays (condition g x)) as (λ b. stays (condition g x) ≡ b → condition g x ≡ Ok false) [
      | true ↦ λ e.
          let among : In x few = subst (λ (zs : List Row). In x zs) (sym chosen) ((In-filter (λ row. stays (condition g row)) x rows).1 (w.0, e)) in
          absurd (w.1 (subst (λ (zs : List Row). In x zs) (sym is) ((In-touched label few rows x).1 (w.0, (x, among, refl)))))
      | false ↦ λ e. not_staying (condition g x) e
    ] refl)

-- ---- at all points

-- nothing is unpacked from nothing
opened_none : (commalist : List ℕ) (rows : List Row) → rows ≡ [] → (x : Row) → In x (unpacked commalist rows) → ⊥
opened_none commalist rows none x i = let w = opened_from commalist rows x i in subst (λ (zs : List Row). In w.0 zs) none w.1

in_all : (P : Row → Type 0) (rows : List Row) → All P rows → (x : Row) → In x rows → P x
in_all P rows h x i = let c = Contains-from_In rows x i in subst P c.2 (h c.0 x c.1)

-- what the row filter tells of a row holds at all of its points
guarded : (commalist : List ℕ) (c g : Expr) (rows : List Row) → names_any commalist g ≡ false → ((x : Row) → condition g x ≡ Ok false → condition c x ≡ Ok false) → All (λ (row : Row). condition g row ≡ Ok false) rows → AreFalse commalist c rows
guarded commalist c g rows none tells told =
    All-In (λ (y : Row). condition c y ≡ Ok false) (unpacked commalist rows) (λ x i.
    let w = opened_from commalist rows x i in
    let same : value g x ≡ value g w.0 = unnamed commalist w.0 x g w.2 none in
    tells x (ap (λ r. then_give r (λ v. Ok (is_true v))) same ∙ in_all (λ (row : Row). condition g row ≡ Ok false) rows told w.0 w.1))

none_false : (commalist : List ℕ) (c : Expr) (rows : List Row) → rows ≡ [] → AreFalse commalist c rows
none_false commalist c rows none = All-In (λ (y : Row). condition c y ≡ Ok false) (unpacked commalist rows) (λ x i. absurd (opened_none commalist rows none x i))

told_by : (commalist : List ℕ) (c : Expr) (o : Option Expr) (rows : List Row) → AllRowFilter commalist c o → AreTold o rows → AreFalse commalist c rows
told_by commalist c None rows is told = none_false commalist c rows told
told_by commalist c (Some g) rows is told = guarded commalist c g rows is.unnamed is.tells told

pub told_false : (commalist : List ℕ) (c : Expr) (o : Option Expr) (rows : List Row) → o ≡ row_filter commalist c → AreTold o rows → AreFalse commalist c rows
told_false commalist c o rows same told = told_by commalist c o rows (subst (AllRowFilter commalist c) (sym same) (row_filter_is commalist c)) told

told_by_both : (commalist : List ℕ) (c d : Expr) (o : Option Expr) (rows : List Row) → AllRowFilterBoth commalist c d o → AreTold o rows → AreFalse commalist c rows × AreFalse commalist d rows
told_by_both commalist c d None rows is told = (none_false commalist c rows told, none_false commalist d rows told)
told_by_both commalist c d (Some g) rows is told = (guarded commalist c g rows is.unnamed is.first told, guarded commalist d g rows is.unnamed is.second told)

pub told_both : (commalist : List ℕ) (place : Place) (c d : Expr) (o : Option Expr) (rows : List Row) → o ≡ row_filter_of_both place (row_filter commalist c) (row_filter commalist d) → AreTold o rows → AreFalse commalist c rows × AreFalse commalist d rows
told_both commalist place c d o rows same told = told_by_both commalist c d o rows (subst (AllRowFilterBoth commalist c d) (sym same) (row_filter_of_both_is commalist place c d)) told

-- ---- typed conditions

pub all_over : (r : Relation) (rows : List Row) (g : Expr) → IsRelation r → rows ≡ r.rows → IsTyped r.heading g Truth → All (λ (row : Row). IsConditionOver row g) rows
all_over r rows g is same typed =
    subst (All (λ (row : Row). IsConditionOver row g)) (sym same) (All-In (λ (row : Row). IsConditionOver row g) r.rows (λ x i.
    record {
      heading = r.heading;
      fits = (list_all-In (fits_heading r.heading) r.rows).0 is.fitting x i;
      typed = typed;
    }))

-- the row filter is a condition for the heading
pub row_filter_typed : (commalist : List ℕ) (heading : Heading) (c : Expr) (o : Option Scalar) → option_map read o ≡ row_filter commalist c → IsTyped heading c Truth → IfSome o (λ e. IsTyped heading (read e) Truth)
row_filter_typed commalist heading c None same t = tt
row_filter_typed commalist heading c (Some e) same t =
    let is : AllRowFilter commalist c (Some (read e)) = subst (AllRowFilter commalist c) (sym same) (row_filter_is commalist c) in
    is.typed heading t

pub both_typed : (commalist : List ℕ) (heading : Heading) (place : Place) (c d : Expr) (o : Option Scalar) → option_map read o ≡ row_filter_of_both place (row_filter commalist c) (row_filter commalist d) → IsTyped heading c Truth → IsTyped heading d Truth
    → IfSome o (λ e. IsTyped heading (read e) Truth)
both_typed commalist heading place c d None same t u = tt
both_typed commalist heading place c d (Some e) same t u =
    let is : AllRowFilterBoth commalist c d (Some (read e)) = subst (AllRowFilterBoth commalist c d) (sym same) (row_filter_of_both_is commalist place c d) in
    is.typed heading t u

-- ---- a pass over rows

pub stays_more : (g : Expr) (rows : List Row) (i : ℕ) (row : Row) (old new : List Row) → i < length rows → row ≡ get_or rows i row → old ≡ filter (λ x. stays (condition g x)) (take i rows)
    → new ≡ old ++ (if stays (condition g row) then row ∷ [] else []) → new ≡ filter (λ x. stays (condition g x)) (take (i + 1) rows)
stays_more g rows i row old new l at so_far is =
    let p : Row → Bool = λ x. stays (condition g x) in
    is
    ∙ (ap (λ (b : List Row). b ++ (if p row then row ∷ [] else [])) so_far
    ∙ (ap (λ (z : Row). filter p (take i rows) ++ (if p z then z ∷ [] else [])) at ∙ sym (filter_more p rows i row l)))

-- What a change by a condition makes of a packed target, from the rows that the condition concerns.
--     negated_passes      where a condition is FALSE, its negation is TRUE
--     left_meant, left_failed, left_labels      what is left of all rows, from what is left of those that it concerns
--     dropped_meant      rows that it does not concern add nothing
--     fewer_paid      fewer rows take fewer steps
use Rattle.std.proofs.Common.{◌≡◌, ◌+◌, ◌≤◌, ◌<◌, ℕ, Bool, true, false, not, cond, nat_le, List, [], ◌∷◌, map, length, Ok, Err, refl, sym, ap, ◌∙◌, subst, arith}
use Rattle.std.specs.Prelude.{sum, filter}
use Rattle.std.specs.List.{All}
use Rattle.std.proofs.lemmas.Bool.Decides.{nat_tests}
use Rattle.base_core.specs.Outcomes.{then_give, least_of_all}
use Rattle.base_core.specs.Sets.{has}
use Rattle.base_core.proofs.MemberLemmas.{In-filter}
use Rattle.base_core.proofs.SetLemmas.{In, Ascends}
use Rattle.base_core.proofs.SetOperatorLemmas.{Ascends-filter}
use Rattle.base_core.proofs.ListLemmas.{All-In}
use Rattle.point_core.specs.Faults.{OrFault, fault}
use Rattle.point_core.specs.declared.fault.Code.TheVariants.{E35}
use Rattle.point_core.specs.declared.fault.Fault.{Fault}
use Rattle.point_core.specs.declared.fault.Place.{Place}
use Rattle.value_core.specs.RowPacking.{packed, unpacked}
use Rattle.value_core.specs.Values.{Row, Heading, row_cmp, most_rows}
use Rattle.scalar_core.specs.declared.operators.OneOp.TheVariants.{Not}
use Rattle.scalar_core.specs.Expressions.{Expr, one}
use Rattle.scalar_core.specs.Operations.{Meant, one_of, is_true as is_truth}
use Rattle.scalar_core.specs.ScalarValues.{value as value_on}
use Rattle.relation_core.specs.Agreement.{part_of}
use Rattle.relation_core.specs.Growth.{touched}
use Rattle.relation_core.specs.Operators.{is_true, restricted, subtracted, united}
use Rattle.point_core.specs.Orders.{fault_order}
use Rattle.relation_core.specs.Parts.{projected}
use Rattle.meaning_core.specs.Meanings.{RowsMeant, condition, limited}
use Rattle.u_set.specs.Apart.{outside}
use Rattle.u_set.specs.Boxes.{AreIntervals}
use Rattle.u_set.proofs.BridgeLemmas.{unpacked_ascends}
use Rattle.u_row.proofs.BeneathLemmas.{in_all}
use Rattle.change_rows.proofs.LabelLemmas.{IsSet}
use Rattle.change_rows.proofs.ChangeLemmas.{part_set, kept_law, dropped_law, packed_law, labels_law, count_law}
use Rattle.change_rows.specs.Affected.{AreFalse}
use Rattle.eval_using.specs.Cells.{cells_of_row, cells_of_all}
use Rattle.eval_using.proofs.CellCountLemmas.{sum_more}
use Rattle.assign_core.specs.Portions.{portion_cost, IsNegation}
use Rattle.assign_core.proofs.AdditionLemmas.{limited_over}
use Rattle.assign_core.proofs.PointLemmas.{point_grows}

-- ---- conditions

false_then : (place : Place) (c : Expr) (y : Row) → condition c y ≡ Ok false → condition (one Not place c) y ≡ Ok true
false_then place c y e = by (value_on c y) e
  where
    by : (m : Meant) → then_give m (λ v. Ok (is_truth v)) ≡ Ok false → then_give (then_give m (one_of Not place)) (λ v. Ok (is_truth v)) ≡ Ok true
    by (Ok v) f = let no : is_truth v ≡ false = cc in ap (λ (b : Bool). Ok (not b)) no
    by (Err g) f = absurd (cc)

pub negated_passes : (commalist : List ℕ) (e c : Expr) (rows : List Row) → IsNegation e c → AreFalse commalist c rows → All (λ y. condition e y ≡ Ok true) (unpacked commalist rows)
negated_passes commalist e c rows negates fails =
    All-In (λ y. condition e y ≡ Ok true) (unpacked commalist rows) (λ x i.
    subst (λ (z : Expr). condition z x ≡ Ok true) (sym negates.1) (false_then negates.0 c x (in_all (λ y. condition c y ≡ Ok false) (unpacked commalist rows) fails x i)))

-- ---- rows within the limit

pub limited_told : (place : Place) (rows left : List Row) → limited place rows ≡ Ok left → rows ≡ left
limited_told place rows left e = by (nat_le (length rows) most_rows) e
  where
    by : (b : Bool) → cond b (Ok rows) (Err (fault place E35)) ≡ Ok left → rows ≡ left
    by true f = cc
    by false f = absurd (cc)

pub limited_failed : (place : Place) (rows : List Row) (e : Fault) → limited place rows ≡ Err e → (most_rows < length rows) × (fault place E35 ≡ e)
limited_failed place rows e told = by (nat_le (length rows) most_rows) refl told
  where
    by : (b : Bool) → nat_le (length rows) most_rows ≡ b → cond b (Ok rows) (Err (fault place E35)) ≡ Err e → (most_rows < length rows) × (fault place E35 ≡ e)
    by true q f = absurd (cc)
    by false q f = let over : most_rows < length rows = grind (arith, nat_tests) in (over, cc)

-- ---- what is left

module _ (heading : Heading) (commalist : List ℕ) (intervals : AreIntervals heading commalist) (value part : List Row) (sv : IsSet heading commalist intervals value)
    (closed : part ≡ touched (outside commalist heading) part value) (are : packed commalist value ≡ value) where
  abbrev rest : List Row
  rest = subtracted value part

  module _ (test : Row → OrFault Bool) (points : List Row) (given : restricted test (unpacked commalist part) ≡ Ok points) where
    passing : points ≡ filter (λ x. is_true (test x)) (unpacked commalist part)
    passing = by (least_of_all fault_order (map test (unpacked commalist part))) given
      where
        by : (r : OrFault (List Bool)) → then_give r (λ _. Ok (filter (λ x. is_true (test x)) (unpacked commalist part))) ≡ Ok points → points ≡ filter (λ x. is_true (test x)) (unpacked commalist part)
        by (Ok bs) f = cc
        by (Err g) f = absurd (cc)

    up : Ascends row_cmp points
    up = subst (Ascends row_cmp) (sym passing) (Ascends-filter row_cmp (λ x. is_true (test x)) (unpacked commalist part) (unpacked_ascends heading commalist intervals part (part_set heading commalist intervals value part sv closed).0 (part_set heading commalist intervals value part sv closed).1))

    some : (x : Row) → In x points → In x (unpacked commalist part)
    some x i = ((In-filter (λ y. is_true (test y)) x (unpacked commalist part)).0 (subst (λ (l : List Row). In x l) passing i)).0

    joined_packed : packed commalist (united (unpacked commalist rest) points) ≡ united rest (packed commalist points)
    joined_packed = packed_law heading commalist intervals value part sv closed are points up some

    joined_count : length (united rest (packed commalist points)) ≡ length rest + length (packed commalist points)
    joined_count = count_law heading commalist intervals value part sv closed points up some

    joined_labels : touched (outside commalist heading) part (packed commalist points) ≡ packed commalist points
    joined_labels = labels_law heading commalist intervals value part sv closed points up some

  module _ (test : Row → OrFault Bool) (place : Place) where
    abbrev closing : List Row → RowsMeant
    closing points = limited place (packed commalist points)

    abbrev meant : List Row → RowsMeant
    meant rows = then_give (restricted test (unpacked commalist rows)) closing

    pub left_labels : (left : List Row) → meant part ≡ Ok left → touched (outside commalist heading) part left ≡ left
    left_labels left told = by (restricted test (unpacked commalist part)) refl told
      where
        by : (r : RowsMeant) → restricted test (unpacked commalist part) ≡ r → then_give r closing ≡ Ok left → touched (outside commalist heading) part left ≡ left
        by (Ok points) q f = subst (λ (l : List Row). touched (outside commalist heading) part l ≡ l) (limited_told place (packed commalist points) left f) (joined_labels test points q)
        by (Err g) q f = absurd (cc)

    pub dropped_meant : All (λ y. test y ≡ Ok false) (unpacked commalist rest) → meant value ≡ meant part
    dropped_meant fails = ap (λ (m : RowsMeant). then_give m closing) (dropped_law heading commalist intervals value part sv closed test fails)

    module _ (passes : All (λ y. test y ≡ Ok true) (unpacked commalist rest)) where
      law : meant value ≡ then_give (then_give (restricted test (unpacked commalist part)) (λ rows. Ok (united (unpacked commalist rest) rows))) closing
      law = ap (λ (m : RowsMeant). then_give m closing) (kept_law heading commalist intervals value part sv closed test passes)

      pub left_meant : (left : List Row) → meant part ≡ Ok left → meant value ≡ limited place (united rest left)
      left_meant left told = law ∙ by (restricted test (unpacked commalist part)) refl told
        where
          by : (r : RowsMeant) → restricted test (unpacked commalist part) ≡ r → then_give r closing ≡ Ok left
              → then_give (then_give r (λ rows. Ok (united (unpacked commalist rest) rows))) closing ≡ limited place (united rest left)
          by (Ok points) q f = ap (limited place) (joined_packed test points q ∙ ap (united rest) (limited_told place (packed commalist points) left f))
          by (Err g) q f = absurd (cc)

      pub left_failed : (e : Fault) → meant part ≡ Err e → meant value ≡ Err e
      left_failed e told = law ∙ by (restricted test (unpacked commalist part)) refl told
        where
          by : (r : RowsMeant) → restricted test (unpacked commalist part) ≡ r → then_give r closing ≡ Err e
              → then_give (then_give r (λ rows. Ok (united (unpacked commalist rest) rows))) closing ≡ Err e
          by (Ok points) q f =
              let w = limited_failed place (packed commalist points) e f in
              let many = w.0 in
              let count = joined_count test points q in
              let over : most_rows < length (united rest (packed commalist points)) = omega (arith, many, count) in
              ap (limited place) (joined_packed test points q) ∙ (limited_over place (united rest (packed commalist points)) over ∙ ap Err w.1)
          by (Err g) q f = cc

-- ---- steps

fewer_sum : (f : Row → ℕ) (p : Row → Bool) (rows : List Row) → sum (map f (filter p rows)) ≤ sum (map f rows)
fewer_sum f p [] = omega arith
fewer_sum f p (x ∷ xs) = by (p x) (fewer_sum f p xs)
  where
    all : sum (map f (x ∷ xs)) ≡ f x + sum (map f xs)
    all = sum_more (f x) (map f xs)

    by : (b : Bool) → sum (map f (filter p xs)) ≤ sum (map f xs) → sum (map f (cond b (x ∷ filter p xs) (filter p xs))) ≤ sum (map f (x ∷ xs))
    by true ih =
        let more : sum (map f (x ∷ filter p xs)) ≡ f x + sum (map f (filter p xs)) = sum_more (f x) (map f (filter p xs)) in
        let whole : sum (map f (x ∷ xs)) ≡ f x + sum (map f xs) = all in
        omega (arith, more, ih, whole)
    by false ih =
        let whole : sum (map f (x ∷ xs)) ≡ f x + sum (map f xs) = all in
        omega (arith, ih, whole)

pub fewer_paid : (heading : Heading) (commalist : List ℕ) (c : Expr) (value part : List Row) → part ≡ touched (outside commalist heading) part value → portion_cost commalist c part ≤ portion_cost commalist c value
fewer_paid heading commalist c value part closed =
    let p : Row → Bool = λ x. has row_cmp (projected (outside commalist heading) part) (part_of (outside commalist heading) x) in
    let less : cells_of_all commalist (c ∷ []) (filter p value) ≤ cells_of_all commalist (c ∷ []) value = fewer_sum (cells_of_row commalist (c ∷ [])) p value in
    point_grows commalist (cells_of_all commalist (c ∷ []) part) (cells_of_all commalist (c ∷ []) value)
    (subst (λ (rows : List Row). cells_of_all commalist (c ∷ []) rows ≤ cells_of_all commalist (c ∷ []) value) (sym closed) less)

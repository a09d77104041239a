-- Rows that are packed on one attribute are no more than before.
--     few_within      different things, each of which comes from one of a list
--     few_packed      boxes with one side
--     few_joined, room_for      the rows of two relations, united under a list of one attribute or none
use Rattle.std.proofs.Common.{◌≡◌, ◌⊎◌, inl, inr, ℕ, suc, ◌+◌, ◌≤◌, ℤ, ◌≤ℤ◌, List, [], ◌∷◌, ◌++◌, map, length, get_or, refl, sym, ap, subst, ◌∙◌, arith, Ordering, Option, Some, None}
use Rattle.std.specs.Cmp.{IsTotalOrder}
use Rattle.std.proofs.lemmas.Int.{ints, by_lt_z}
use Rattle.std.proofs.lemmas.List.{map-append, length-map}
use Rattle.base_core.proofs.OrderingLemmas.{not_before_itself}
use Rattle.base_core.proofs.SetLemmas.{In, Ascends, Separates, Ascends-from_sorted, in_after}
use Rattle.interval_core.specs.Members.{Span, at_point}
use Rattle.value_core.specs.Order.{row_total, row_separates}
use Rattle.value_core.specs.RowPacking.{packed, unpacked}
use Rattle.value_core.specs.Values.{Row, Relation, IsRelation, row_cmp, most_rows}
use Rattle.relation_core.specs.Operators.{united}
use Rattle.cell_packing.specs.Boxed.{Boxed, boxed_cmp, packed_boxes, unpacked_boxes, InBoxes}
use Rattle.base_core.specs.Sets.{union_of}
use Rattle.cell_packing.specs.Covering.{Among}
use Rattle.cell_packing.specs.Packed.{nowhere, packs, points_of, Has, IsRun}
use Rattle.cell_packing.proofs.PackedBoxes.{among_in, in_packed_form, packed_ascends}
use Rattle.cell_packing.proofs.Runs.{IsRun-one}
use Rattle.meaning_core.specs.Typing.{IsList, IsListIf}
use Rattle.meaning_core.proofs.IntervalLemmas.{intervals_of_list}
use Rattle.u_set.specs.Boxes.{AreIntervals, boxed}
use Rattle.u_set.proofs.BridgeLemmas.{box_cmp, box_total, box_separates, boxes_have}
use Rattle.u_set.proofs.RelationLemmas.{relation_shaped, shaped_under}
use Rattle.u_set.proofs.UnionLemmas.{packed_union, united_rows}
use Rattle.assign_core.specs.Arrivals.{IsOneAtMost}
use Rattle.assign_core.specs.Insertions.{united_in}
use Rattle.assign_core.proofs.TurnoverLemmas.{few_together}

-- ---- lists

-- a list without one of its members
without : {Z : Type 0} (z : Z) (zs : List Z) → In z zs → (rest : List Z) × (suc (length rest) ≡ length zs) × ((y : Z) → In y zs → (y ≡ z) ⊎ In y rest)
without z [] i = absurd i
without z (y ∷ ys) i = elim i [
  | inl e ↦ (ys, refl, λ w j. elim j [ inl f ↦ inl (f ∙ sym e) | inr k ↦ inr k ])
  | inr j ↦
      let d = without z ys j in
      let long : suc (length (y ∷ d.0)) ≡ length (y ∷ ys) = ap suc d.1 in
      (y ∷ d.0, long, λ w k. elim k [ inl f ↦ inr (inl f) | inr l ↦ elim (d.2 w l) [ inl f ↦ inl f | inr m ↦ inr (inr m) ] ])
]

-- different things, each of which comes from one of a list, and no two of them from the same
pub few_within : {X Z : Type 0} (cmp : X → X → Ordering) (o : IsTotalOrder cmp) (same : Separates cmp) (IsFrom : X → Z → Type 0) → ((x y : X) (z : Z) → IsFrom x z → IsFrom y z → x ≡ y)
    → (xs : List X) (zs : List Z) → Ascends cmp xs → ((x : X) → In x xs → (z : Z) × In z zs × IsFrom x z) → length xs ≤ length zs
few_within cmp o same IsFrom one [] zs up from = omega arith
few_within cmp o same IsFrom one (x ∷ xs) zs up from =
    let w = from x (inl refl) in
    let d = without w.0 zs w.1 in
    let ih = few_within cmp o same IsFrom one xs d.0 up.1 (λ y i.
    let v = from y (inr i) in
    elim (d.2 v.0 v.1) [
      | inl e ↦
          let equal : x ≡ y = one x y w.0 w.2 (subst (IsFrom y) e v.2) in
          absurd (not_before_itself cmp o x (ap (cmp x) equal ∙ in_after cmp o same x y xs up.0 i))
      | inr j ↦ (v.0, j, v.2)
    ]) in
    let long : suc (length d.0) ≡ length zs = d.1 in
    omega (arith, ih, long)

-- ---- boxes

module _ {P : Type 0} (order : P → P → Ordering) (o : IsTotalOrder (boxed_cmp order)) (same : Separates (boxed_cmp order)) (bs : List (Boxed P)) (have : (x : Boxed P) → Among x bs → length x.1 ≡ 1) where
  abbrev IsCovered : P → ℤ → Type 0
  IsCovered l p = points_of (InBoxes bs l) (at_point p ∷ [])

  -- a packed box that begins where this one does
  abbrev IsFrom : Boxed P → Boxed P → Type 0
  IsFrom y z = (i : Span) × (y.1 ≡ i ∷ []) × IsRun (IsCovered y.0) i × (y.0 ≡ z.0) × (i.0 ≡ (get_or z.1 0 nowhere).0)

  one_from : (x y z : Boxed P) → IsFrom x z → IsFrom y z → x ≡ y
  one_from x y z f g =
      let label : x.0 ≡ y.0 = f.3 ∙ sym g.3 in
      let begin : (f.0).0 ≡ (g.0).0 = f.4 ∙ sym g.4 in
      let run : IsRun (IsCovered y.0) f.0 = subst (λ l. IsRun (IsCovered l) f.0) label f.2 in
      let own = run.some in
      let other = (g.2).some in
      let side : f.0 ≡ g.0 = IsRun-one (IsCovered y.0) f.0 g.0 (f.0).0 run g.2 (omega (arith, ints)) own (omega (arith, ints, begin)) (omega (arith, ints, begin, other)) in
      let sides : x.1 ≡ y.1 = f.1 ∙ (ap (λ i. i ∷ []) side ∙ sym g.1) in
      λ t. (label t, sides t)

  begin_at : (l : P) (i : Span) → IsRun (IsCovered l) i → (s : List Span) → Among (l, s) bs → Has s (i.0 ∷ []) → length s ≡ 1 → (z : Boxed P) × In z bs × IsFrom (l, i ∷ []) z
  begin_at l i run [] m h e = absurd h
  begin_at l i run (j ∷ k ∷ s) m h e = absurd (omega (arith, e))
  begin_at l i run (j ∷ []) m h e =
      let here : j.0 ≤ℤ i.0 = h.0 in
      let there : i.0 ≤ℤ j.1 = h.1 in
      let first : i.0 ≡ j.0 =
      by_lt_z j.0 i.0 (λ less. absurd (run.before ((refl, tt), (j ∷ [], m, (omega (arith, ints), omega (arith, ints, there), tt))))) (λ le. omega (arith, ints, here)) in
      ((l, j ∷ []), (among_in (l, j ∷ []) bs).0 m, (i, refl, run, refl, first))

  has_from : (l : P) (s : List Span) → length s ≡ 1 → packs 1 (points_of (InBoxes bs l)) s → (z : Boxed P) × In z bs × IsFrom (l, s) z
  has_from l [] e h = absurd (omega (arith, e))
  has_from l (i ∷ j ∷ s) e h = absurd (omega (arith, e))
  has_from l (i ∷ []) e h =
      let c = h.each i.0 (omega (arith, ints)) h.some in
      let w = c.1 in
      begin_at l i h w.0 w.1 w.2 (have (l, w.0) w.1)

  pub few_packed : length (packed_boxes order 1 bs) ≤ length bs
  few_packed = few_within (boxed_cmp order) o same IsFrom one_from (packed_boxes order 1 bs) bs (packed_ascends (boxed_cmp order) o same 1 bs) (λ y i.
      let told = (in_packed_form (boxed_cmp order) o same 1 bs have y).0 ((among_in y (packed_boxes order 1 bs)).1 i) in
      has_from y.0 y.1 told.0 told.1)

-- ---- rows

pub few_joined : (value rows : Relation) → IsRelation value → IsRelation rows → value.heading ≡ rows.heading → (i : ℕ) → AreIntervals value.heading (i ∷ [])
    → length (packed (i ∷ []) (united (unpacked (i ∷ []) value.rows) (unpacked (i ∷ []) rows.rows))) ≤ length value.rows + length rows.rows
few_joined value rows is is' heading i intervals =
    let r = value.rows in
    let s = rows.rows in
    let box = boxed (i ∷ []) in
    let all = united_rows value.heading (i ∷ []) intervals r s (Ascends-from_sorted row_cmp r is.ascending) (Ascends-from_sorted row_cmp s is'.ascending) (relation_shaped value is (i ∷ []) intervals)
    (shaped_under value.heading rows heading is' (i ∷ []) intervals) in
    let form : packed_boxes row_cmp 1 (map box (r ++ s)) ≡ packed_boxes row_cmp 1 (union_of box_cmp (unpacked_boxes row_cmp 1 (map box r)) (unpacked_boxes row_cmp 1 (map box s))) =
    ap (packed_boxes row_cmp 1) (map-append box r s)
    ∙ packed_union row_cmp row_total row_separates 1 (map box r) (map box s) (boxes_have value.heading (i ∷ []) intervals r) (boxes_have value.heading (i ∷ []) intervals s) in
    let many : length (packed (i ∷ []) (united (unpacked (i ∷ []) r) (unpacked (i ∷ []) s))) ≡ length (packed_boxes row_cmp 1 (map box (r ++ s))) = all.many ∙ ap length (sym form) in
    let few : length (packed_boxes row_cmp 1 (map box (r ++ s))) ≤ length (map box (r ++ s)) = few_packed row_cmp box_total box_separates (map box (r ++ s)) (boxes_have value.heading (i ∷ []) intervals (r ++ s)) in
    let own = length-map (r ++ s) box in
    let both = long r s in
    omega (arith, many, few, own, both)
  where
    long : (xs ys : List Row) → length (xs ++ ys) ≡ length xs + length ys
    long [] ys = omega arith
    long (x ∷ xs) ys = let ih = long xs ys in omega (arith, ih)

room_under : (value rows : Relation) → IsRelation value → IsRelation rows → value.heading ≡ rows.heading → (commalist : List ℕ) → length commalist ≡ 1 → IsList value.heading commalist
    → length value.rows + length rows.rows ≤ most_rows → length (united_in (Some commalist) value.rows rows.rows) ≤ most_rows
room_under value rows is is' heading [] one listed few = absurd (omega (arith, one))
room_under value rows is is' heading (i ∷ j ∷ commalist) one listed few = absurd (omega (arith, one))
room_under value rows is is' heading (i ∷ []) one listed few =
    let less = few_joined value rows is is' heading i (intervals_of_list value.heading (i ∷ []) listed) in
    omega (arith, less, few)

pub room_for : (value rows : Relation) → IsRelation value → IsRelation rows → value.heading ≡ rows.heading → (list : Option (List ℕ)) → IsOneAtMost list → IsListIf value.heading list
    → length value.rows + length rows.rows ≤ most_rows → length (united_in list value.rows rows.rows) ≤ most_rows
room_for value rows is is' heading None one listed few = few_together value.rows rows.rows most_rows few
room_for value rows is is' heading (Some commalist) one listed few = room_under value rows is is' heading commalist one listed few

-- Left rows with what right ones of their keys leave of their intervals, packed, are the unmatched rows.
use Rattle.std.proofs.Common.{◌≡◌, ◌↔◌, ℕ, ◌<◌, ℤ, ◌≤ℤ◌, true, false, ◌&&◌, List, [], ◌∷◌, map, set, length, get_or, refl, sym, ap, ◌∙◌, subst, arith}
use Rattle.std.specs.Prelude.{int_le}
use Rattle.std.specs.Bool.{IsTrue}
use Rattle.std.specs.List.{All}
use Rattle.std.specs.List.Sorted.{IsPermutation}
use Rattle.std.proofs.lemmas.Bool.{and_parts, and_from}
use Rattle.std.proofs.lemmas.Int.{ints}
use Rattle.base_core.proofs.IntLemmas.{int_le-le, le-int_le}
use Rattle.base_core.proofs.MemberLemmas.{list_all-In}
use Rattle.point_core.specs.declared.any_type.AnyType.{AnyType}
use Rattle.point_core.specs.Points.{line_of, first_of, last_of, is_number}
use Rattle.interval_core.specs.Members.{Span}
use Rattle.cell_packing.specs.Boxed.{Boxed, packed_boxes, unpacked_boxes, InBoxes}
use Rattle.cell_packing.specs.Covering.{Among}
use Rattle.cell_packing.specs.Packed.{Has}
use Rattle.cell_packing.proofs.AmongLemmas.{among_map}
use Rattle.cell_packing.proofs.PackedBoxes.{among_in}
use Rattle.cell_core.proofs.PackedGridPoints.{AllHave, packed_from_same}
use Rattle.cell_boxes.proofs.RowLemmas.{row_among, among_row, some_row}
use Rattle.value_core.specs.declared.kind.Kind.TheVariants.{Span as SpanOf}
use Rattle.value_core.specs.Attributes.{value_at, span_of, with_span, put_span}
use Rattle.value_core.specs.Order.{row_total, row_separates}
use Rattle.value_core.specs.Relations.{all_fit}
use Rattle.value_core.specs.RowPacking.{packed, unpacked}
use Rattle.value_core.specs.Values.{Row, Heading, Relation, IsRelation, truth, interval, row_cmp, rows_of, fits, fits_heading, same_line, is_interval}
use Rattle.relation_core.specs.Agreement.{part_of, common_positions, unmatched}
use Rattle.relation_core.specs.Joins.{HaveEqualKinds}
use Rattle.relation_core.specs.Parts.{kind_at, attributes_at}
use Rattle.relation_core.proofs.FilterLemmas.{rows_ascend}
use Rattle.relation_core.proofs.HeadingLemmas.{heading_ascends}
use Rattle.u_set.specs.Apart.{span_in}
use Rattle.u_set.specs.Boxes.{AreIntervals, IsShaped, type_of, others, boxed, unboxed}
use Rattle.u_set.proofs.BoxLemmas.{kind_listed, span_fits, shaped_from_fit, all_alike}
use Rattle.u_set.proofs.CoalescingLemmas.{listed, set_fits, within}
use Rattle.u_set.proofs.RelationLemmas.{relation_shaped}
use Rattle.u_row.specs.Kept.{inner, unlisted}
use Rattle.u_row.proofs.LabelLemmas.{inner_values}
use Rattle.u_join.specs.declared.standing.Standing.{Standing}
use Rattle.u_join.specs.Pairs.{unmatched_boxes, IsUnmatchedAt}
use Rattle.u_join.specs.RowPairs.{Stood, stood, seen}
use Rattle.u_join.specs.Rests.{HasNumber, Covers, AreRuns, IsRest, AreRests, IsOfType, AreOfOneType, IsFree, AreLeft, rest_at, rest_row}
use Rattle.u_join.proofs.ListedLemmas.{unmatched_at}
use Rattle.u_join.proofs.MadeLemmas.{same_line-self, relation_fits}
use Rattle.u_join.proofs.PairPlaces.{places_unmatched, unmatched_have}
use Rattle.u_join.proofs.PairRowLemmas.{stands_for, stands_so, inside}

-- ---- rows that cover what others do leave the same

module _ {A : Type 0} (see : A → Stood) (rights runs : List A) (are : AreRuns see rights runs) where
  rest_moved : (x z : Stood) → IsRest see x runs z → IsRest see x rights z
  rest_moved x z h = record {
    row = h.row;
    ordered = h.ordered;
    free = λ p n. let w = h.free p n in (w.0, λ c. w.1 ((are.covers x.1 p).1 c));
  }

  pub rests_moved : (lefts : List A) (n : ℕ) (parts : List Stood) → AreRests see lefts runs n parts → AreRests see lefts rights n parts
  rests_moved lefts n parts h = record {
    from = λ z m. let w = h.from z m in (w.0, w.1, w.2, rest_moved (see w.1) z w.3);
    all = λ i x p l a b f.
        let w = h.all i x p l a b (λ c. f ((are.covers (see x).1 p).0 c)) in
        (w.0, w.1, rest_moved (see x) w.0 w.2, w.3);
  }

-- ---- the parts are of the type of the rows

module _ {A : Type 0} (see : A → Stood) (t : AnyType) (at : ℕ) where
  rest_of_type : (x : Stood) (rows : List A) (z : Stood) → IsOfType t at x → IsRest see x rows z → IsOfType t at z
  rest_of_type x rows z of_type h =
      let o = h.ordered in
      let first = h.free z.2.0 (omega (arith, ints), o) in
      let last = h.free z.2.1 (o, omega (arith, ints)) in
      let a = first.0.0 in
      let b = last.0.1 in
      let c = of_type.1 in
      let d = of_type.3 in
      (subst (λ (r : Row). at < length r) (sym h.row) of_type.0, omega (arith, ints), o, omega (arith, ints))

  parts_of_type : (lefts rights : List A) (n : ℕ) (parts : List Stood) → AreRests see lefts rights n parts → AreOfOneType see t at lefts → (z : Stood) → Among z parts → IsOfType t at z
  parts_of_type lefts rights n parts h of_type z m = let w = h.from z m in rest_of_type (see w.1) rights z (of_type w.0 w.1 w.2) w.3

  pub all_of_type : (lefts rights : List A) (n : ℕ) (parts slice : List A) → slice ≡ parts → AreRests see lefts rights n (map see parts) → AreOfOneType see t at lefts → All (λ z. IsOfType t at (see z)) slice
  all_of_type lefts rights n parts slice is h of_type i d l =
      let m : Among (see (get_or slice i d)) (map see slice) = (among_map see (see (get_or slice i d)) slice).1 (get_or slice i d, row_among slice i (get_or slice i d) (some_row slice i d l), refl) in
      parts_of_type lefts rights n (map see parts) h of_type (see (get_or slice i d)) (subst (λ (xs : List A). Among (see (get_or slice i d)) (map see xs)) is m)

-- ---- places

-- a box of one side has places of one number
at_one : (i : Span) (p : List ℤ) → Has (i ∷ []) p → (q : ℤ) × HasNumber i q × ((j : Span) → HasNumber j q → Has (j ∷ []) p) × ((j : Span) → Has (j ∷ []) p → HasNumber j q)
at_one i [] h = absurd h
at_one i (q ∷ []) h = (q, (h.0, h.1), λ j g. (g.0, g.1, tt), λ j g. (g.0, g.1))
at_one i (q ∷ q' ∷ p) h = absurd h.2

module _ (key key' inner inner' : List ℕ) (here there : ℕ) (f : Row → Span → Row) (r s rows : List Row) (left : AreLeft key key' here there f r s rows)
    (own : (x : Row) → part_of inner (others (here ∷ []) x) ≡ part_of key x) (own' : (y : Row) → part_of inner' (others (there ∷ []) y) ≡ part_of key' y)
    (boxes : (x : Row) (i : Span) → Among x r → boxed (here ∷ []) (f x i) ≡ (others (here ∷ []) x, i ∷ [])) where
  same_box : (x : Row) (i : Span) (z : Row) (b : Boxed Row) → Among x r → z ≡ f x i → boxed (here ∷ []) z ≡ b → (others (here ∷ []) x, i ∷ []) ≡ b
  same_box x i z b m is at = sym (boxes x i m) ∙ ap (boxed (here ∷ [])) (sym is) ∙ at

  named_box : (x : Row) (i : Span) (l : Row) → Among x r → others (here ∷ []) x ≡ l → boxed (here ∷ []) (f x i) ≡ (l, i ∷ [])
  named_box x i l m label = boxes x i m ∙ (λ t. (label t, i ∷ []))

  same_keys : (x y l m : Row) → others (here ∷ []) x ≡ l → others (there ∷ []) y ≡ m → part_of inner l ≡ part_of inner' m → part_of key x ≡ part_of key' y
  same_keys x y l m label right e = sym (own x) ∙ ap (part_of inner) label ∙ e ∙ ap (part_of inner') (sym right) ∙ own' y

  places_left : (l : Row) (p : List ℤ) → InBoxes (map (boxed (here ∷ [])) rows) l p
      ↔ IsUnmatchedAt inner inner' (λ a. InBoxes (map (boxed (here ∷ [])) r) a p) (λ b. InBoxes (map (boxed (there ∷ [])) s) b p) l
  places_left l p = (
    λ w.
        let v = (among_map (boxed (here ∷ [])) (l, w.0) rows).0 w.1 in
        let m = left.from v.0 v.1 in
        let x : Row = m.0 in
        let i : Span = m.1 in
        let e : (others (here ∷ []) x, i ∷ []) ≡ (l, w.0) = same_box x i v.0 (l, w.0) m.2 m.3 v.2 in
        let label : others (here ∷ []) x ≡ l = ap (λ (b : Boxed Row). b.0) e in
        let has : Has (i ∷ []) p = subst (λ z. Has z p) (sym (ap (λ (b : Boxed Row). b.1) e)) w.2 in
        let one = at_one i p has in
        let free = m.5 one.0 one.1 in (
          (span_in here x ∷ [], (among_map (boxed (here ∷ [])) (l, span_in here x ∷ []) r).1 (x, m.2, (λ t. (label t, span_in here x ∷ []))), one.2 (span_in here x) free.0),
          λ h.
              let u = (among_map (boxed (there ∷ [])) (h.0, h.1.0) s).0 h.1.1 in
              let y : Row = u.0 in
              let right : others (there ∷ []) y ≡ h.0 = ap (λ (b : Boxed Row). b.0) u.2 in
              let b : Has (span_in there y ∷ []) p = subst (λ z. Has z p) (sym (ap (λ (b : Boxed Row). b.1) u.2)) h.1.2 in
              free.1 y u.1 (same_keys x y l h.0 label right h.2) (one.3 (span_in there y) b),
        ),
    λ h.
        let u = (among_map (boxed (here ∷ [])) (l, h.0.0) r).0 h.0.1 in
        let x : Row = u.0 in
        let label : others (here ∷ []) x ≡ l = ap (λ (b : Boxed Row). b.0) u.2 in
        let has : Has (span_in here x ∷ []) p = subst (λ z. Has z p) (sym (ap (λ (b : Boxed Row). b.1) u.2)) h.0.2 in
        let one = at_one (span_in here x) p has in
        let free : IsFree key key' there s x one.0 = λ y m keys n. h.1 (
          others (there ∷ []) y,
          (span_in there y ∷ [], (among_map (boxed (there ∷ [])) (others (there ∷ []) y, span_in there y ∷ []) s).1 (y, m, refl), one.2 (span_in there y) n),
          ap (part_of inner) (sym label) ∙ own x ∙ keys ∙ sym (own' y),
        ) in
        let g = left.all x one.0 u.1 one.1 free in
        (g.0 ∷ [], (among_map (boxed (here ∷ [])) (l, g.0 ∷ []) rows).1 (f x g.0, g.1, named_box x g.0 l u.1 label), one.2 g.0 g.2),
  )

  one_side : (i : ℕ) (xs : List Row) → AllHave 1 (map (boxed (i ∷ [])) xs)
  one_side i xs b m = let w = (among_map (boxed (i ∷ [])) b xs).0 m in sym (ap (λ (z : Boxed Row). length z.1) w.2)

  -- so they have one packed form
  packed_left : packed_boxes row_cmp 1 (map (boxed (here ∷ [])) rows)
      ≡ packed_boxes row_cmp 1 (unmatched_boxes inner inner' (unpacked_boxes row_cmp 1 (map (boxed (here ∷ [])) r)) (unpacked_boxes row_cmp 1 (map (boxed (there ∷ [])) s)))
  packed_left =
      let lefts : List (Boxed Row) = map (boxed (here ∷ [])) r in
      let rights : List (Boxed Row) = map (boxed (there ∷ [])) s in
      let hl : AllHave 1 lefts = one_side here r in
      let hr : AllHave 1 rights = one_side there s in
      packed_from_same row_cmp row_total row_separates 1 (map (boxed (here ∷ [])) rows) (unmatched_boxes inner inner' (unpacked_boxes row_cmp 1 lefts) (unpacked_boxes row_cmp 1 rights))
      (one_side here rows) (unmatched_have inner inner' 1 lefts rights hl hr) (λ l p.
      let a = places_left l p in
      let b = places_unmatched inner inner' 1 lefts rights hl hr l p in
      (λ w. b.1 (a.0 w), λ w. a.1 (b.0 w)))

-- ---- one row with another interval

number_between : (t : AnyType) (a n b : ℤ) → is_number t a ≡ true → is_number t b ≡ true → a ≤ℤ n → n ≤ℤ b → is_number t n ≡ true
number_between t a n b h g l m =
    let c = int_le-le (first_of t) a (and_parts (int_le (first_of t) a) (int_le a (last_of t)) h).0 in
    let d = int_le-le b (last_of t) (and_parts (int_le (first_of t) b) (int_le b (last_of t)) g).1 in
    and_from (int_le (first_of t) n) (int_le n (last_of t)) (le-int_le (first_of t) n (omega (arith, ints))) (le-int_le n (last_of t) (omega (arith, ints)))

module _ (t : AnyType) (i j : Span) (h : IsTrue (is_interval t i)) where
  ends_are : (is_number t i.0 ≡ true) × (is_number t i.1 ≡ true) × (i.0 ≤ℤ i.1)
  ends_are =
      let a = and_parts (is_number t i.0) (is_number t i.1 && int_le i.0 i.1) h in
      let b = and_parts (is_number t i.1) (int_le i.0 i.1) a.1 in
      (a.0, b.0, int_le-le i.0 i.1 b.1)

  pub within_type : (first_of t ≤ℤ i.0) × (i.0 ≤ℤ i.1) × (i.1 ≤ℤ last_of t)
  within_type =
      let e = ends_are in (
        int_le-le (first_of t) i.0 (and_parts (int_le (first_of t) i.0) (int_le i.0 (last_of t)) e.0).0,
        e.2,
        int_le-le i.1 (last_of t) (and_parts (int_le (first_of t) i.1) (int_le i.1 (last_of t)) e.1).1,
      )

  part_inside : i.0 ≤ℤ j.0 → j.0 ≤ℤ j.1 → j.1 ≤ℤ i.1 → IsTrue (is_interval t j)
  part_inside a b c =
      let e = ends_are in
      and_from (is_number t j.0) (is_number t j.1 && int_le j.0 j.1) (number_between t i.0 j.0 i.1 e.0 e.1 a (omega (arith, ints)))
      (and_from (is_number t j.1) (int_le j.0 j.1) (number_between t i.0 j.1 i.1 e.0 e.1 (omega (arith, ints)) c) (le-int_le j.0 j.1 b))

module _ (left : Heading) (here : ℕ) (intervals : AreIntervals left (here ∷ [])) (x : Row) (fx : IsTrue (fits_heading left x)) where
  abbrev point_type : AnyType
  point_type = type_of (kind_at left here)

  own_interval : IsTrue (is_interval point_type (span_in here x))
  own_interval = inside point_type (value_at x here) (span_fits left (here ∷ []) intervals x fx here (listed left here intervals))

  pub row_of_type : IsOfType point_type here (x, [], span_in here x)
  row_of_type = let w = within_type point_type (span_in here x) (span_in here x) own_interval in (within left here intervals x fx, w.0, w.1, w.2)

  rest_is : (i : Span) → rest_at point_type here x i ≡ put_span x here i
  rest_is i =
      let shaped : IsShaped left (here ∷ []) x = shaped_from_fit left (here ∷ []) intervals x fx in
      let is : value_at x here ≡ interval (line_of point_type) (span_of (value_at x here)) = shaped.spans here (listed left here intervals) in
      let with : with_span (value_at x here) i ≡ interval (line_of point_type) i = ap (λ v. with_span v i) is in
      ap (set x here) (sym with)

  rest_box : (i : Span) → boxed (here ∷ []) (rest_at point_type here x i) ≡ (others (here ∷ []) x, i ∷ [])
  rest_box i = ap (boxed (here ∷ [])) (rest_is i) ∙ (all_alike left (here ∷ []) intervals).0.put x i (shaped_from_fit left (here ∷ []) intervals x fx)

  rest_fits : (i : Span) → i.0 ≤ℤ i.1 → ((p : ℤ) → HasNumber i p → HasNumber (span_in here x) p) → IsTrue (fits_heading left (rest_at point_type here x i))
  rest_fits i o h =
      let first = h i.0 (omega (arith, ints), o) in
      let last = h i.1 (o, omega (arith, ints)) in
      let value : IsTrue (fits (SpanOf point_type) (interval (line_of point_type) i)) =
      and_from (same_line (line_of point_type) (line_of point_type)) (is_interval point_type i) (same_line-self (line_of point_type)) (part_inside point_type (span_in here x) i own_interval first.0 o last.1) in
      let kind : kind_at left here ≡ SpanOf point_type = (kind_listed left (here ∷ []) intervals here (listed left here intervals)).1 in
      set_fits left x here (interval (line_of point_type) i) fx (subst (λ k. IsTrue (fits k (interval (line_of point_type) i))) (sym kind) value)

-- ---- all rows

module _ (key key' : List ℕ) (t : AnyType) (here there : ℕ) (r s : List Row) (ls rs : List Standing)
    (moved : IsPermutation (map (stood key here) r) (map seen ls)) (moved' : IsPermutation (map (stood key' there) s) (map seen rs)) where
  -- the lefts cover what the rows of one relation do that agree
  covered : (x : Row) (k : Row) (p : ℤ) → k ≡ part_of key x → (Covers seen rs k p → ⊥) → IsFree key key' there s x p
  covered x k p same free y m keys n =
      let u = stands_so key' there s rs moved' y m in
      let a : (seen u.1).1 ≡ part_of key' y = ap (λ (z : Stood). z.1) u.3 in
      let b : (seen u.1).2 ≡ span_in there y = ap (λ (z : Stood). z.2) u.3 in
      free (u.1, row_among rs u.0 u.1 u.2, a ∙ sym keys ∙ sym same, subst (λ (i : Span). HasNumber i p) (sym b) n)

  uncovered : (x : Row) (k : Row) (p : ℤ) → k ≡ part_of key x → IsFree key key' there s x p → Covers seen rs k p → ⊥
  uncovered x k p same free c =
      let i = among_row rs c.0 c.1 in
      let w = stands_for key' there s rs moved' i.0 c.0 i.1 in
      free c.0.row.now w.0 (sym same ∙ sym c.2 ∙ w.1) (subst (λ (j : Span). HasNumber j p) w.2 c.3)

  pub all_left : (parts : List Stood) → AreRests seen ls rs (length ls) parts → (rows : List Row) → rows ≡ map (rest_row t here) parts → AreLeft key key' here there (rest_at t here) r s rows
  all_left parts are rows made = record {
    from = λ z m.
        let w = (among_map (rest_row t here) z parts).0 (subst (Among z) made m) in
        let h = are.from w.0 w.1 in
        let x : Standing = h.1 in
        let a = stands_for key here r ls moved h.0 x h.2 in
        let rest = h.3 in (
          x.row.now,
          (w.0).2,
          a.0,
          sym w.2 ∙ ap (λ (q : Row). rest_at t here q (w.0).2) rest.row,
          rest.ordered,
          λ p n.
              let f = rest.free p n in
              (subst (λ (j : Span). HasNumber j p) a.2 f.0, covered x.row.now (seen x).1 p a.1 f.1),
        );
    all = λ x p m n free.
        let u = stands_so key here r ls moved x m in
        let b : (seen u.1).1 ≡ part_of key x = ap (λ (z : Stood). z.1) u.3 in
        let c : (seen u.1).2 ≡ span_in here x = ap (λ (z : Stood). z.2) u.3 in
        let l = u.2.0 in
        let g = are.all u.0 u.1 p l u.2 (subst (λ (j : Span). HasNumber j p) (sym c) n) (uncovered x (seen u.1).1 p b free) in
        let row : (g.0).0 ≡ x = (g.2).row ∙ ap (λ (z : Stood). z.0) u.3 in
        ((g.0).2, subst (Among (rest_at t here x (g.0).2)) (sym made) ((among_map (rest_row t here) (rest_at t here x (g.0).2) parts).1 (g.0, g.1, ap (λ (q : Row). rest_at t here q (g.0).2) row)), g.3);
  }

  module _ (heading : Heading) (intervals : AreIntervals heading (here ∷ [])) (fit : (x : Row) → Among x r → IsTrue (fits_heading heading x)) where
    pub of_one_type : t ≡ type_of (kind_at heading here) → AreOfOneType seen t here ls
    of_one_type e i x a =
        let w = stands_for key here r ls moved i x a in
        let own = row_of_type heading here intervals x.row.now (fit x.row.now w.0) in
        let spans = sym w.2 in
        subst (λ (u : AnyType). IsOfType u here (seen x)) (sym e) (subst (λ (j : Span). IsOfType (type_of (kind_at heading here)) here (x.row.now, (seen x).1, j)) spans own)

-- the rows that are left of two relations
module _ (left right : Relation) (l : IsRelation left) (r : IsRelation right) (here there : ℕ) (same : attributes_at (here ∷ []) left.heading ≡ attributes_at (there ∷ []) right.heading)
    (kinds : HaveEqualKinds left.heading right.heading) (intervals : AreIntervals left.heading (here ∷ [])) (intervals' : AreIntervals right.heading (there ∷ [])) (rows : List Row)
    (are : AreLeft (unlisted (here ∷ []) (common_positions left.heading left.heading right.heading)) (unlisted (there ∷ []) (common_positions right.heading left.heading right.heading)) here there
    (rest_at (type_of (kind_at left.heading here)) here) left.rows right.rows rows) where
  pub left_fit : IsTrue (all_fit left.heading rows)
  left_fit = (list_all-In (fits_heading left.heading) rows).1 (λ z m.
      let w = are.from z ((among_in z rows).1 m) in
      subst (λ (q : Row). IsTrue (fits_heading left.heading q)) (sym w.3) (rest_fits left.heading here intervals w.0 (relation_fits left l w.0 w.2) w.1 w.4 (λ p n. (w.5 p n).0)))

  pub left_unmatched : rows_of (map (unboxed left.heading (here ∷ [])) (packed_boxes row_cmp 1 (map (boxed (here ∷ [])) rows)))
      ≡ packed (here ∷ []) (unmatched left.heading right.heading (unpacked (here ∷ []) left.rows) (unpacked (there ∷ []) right.rows))
  left_unmatched =
      let common = common_positions left.heading left.heading right.heading in
      let common' = common_positions right.heading left.heading right.heading in
      let form = packed_left (unlisted (here ∷ []) common) (unlisted (there ∷ []) common') (inner (here ∷ []) common) (inner (there ∷ []) common') here there (rest_at (type_of (kind_at left.heading here)) here)
      left.rows right.rows rows are (λ x. inner_values (here ∷ []) common x (truth false)) (λ y. inner_values (there ∷ []) common' y (truth false))
      (λ x i m. rest_box left.heading here intervals x (relation_fits left l x m) i) in
      let rows_are = unmatched_at left.heading right.heading (here ∷ []) (there ∷ []) same kinds (heading_ascends left.heading l.headed) (heading_ascends right.heading r.headed) intervals intervals'
      left.rows right.rows (rows_ascend left l) (rows_ascend right r) (relation_shaped left l (here ∷ []) intervals) (relation_shaped right r (there ∷ []) intervals') in
      ap (λ bs. rows_of (map (unboxed left.heading (here ∷ [])) bs)) form ∙ sym rows_are.are

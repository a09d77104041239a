-- The rows that pairs of rows give, by the rows of the relations.
use Rattle.std.proofs.Common.{◌≡◌, ◌↔◌, ℕ, ℤ, ◌≤ℤ◌, true, ◌&&◌, List, [], ◌∷◌, map, refl, sym, ap, ◌∙◌, subst, arith}
use Rattle.std.specs.Prelude.{int_le}
use Rattle.std.specs.Int.{int_max, int_min}
use Rattle.std.specs.Bool.{IsTrue}
use Rattle.std.specs.List.Sorted.{IsPermutation}
use Rattle.std.specs.declared.cmp.Ordering.TheVariants.{Equal}
use Rattle.std.proofs.lemmas.Bool.{true≢false, and_parts, and_from}
use Rattle.std.proofs.lemmas.Cmp.{tied_itself}
use Rattle.std.proofs.lemmas.Int.{ints, clamps, by_lt_z}
use Rattle.std.proofs.lemmas.List.{get_or-map}
use Rattle.base_core.proofs.IntLemmas.{int_le-le, le-int_le}
use Rattle.point_core.specs.declared.any_type.AnyType.{AnyType}
use Rattle.point_core.specs.Points.{line_of, is_number}
use Rattle.interval_core.specs.Members.{Span}
use Rattle.value_core.specs.declared.kind.Kind.TheVariants.{Span as SpanOf}
use Rattle.value_core.specs.Attributes.{value_at, span_of}
use Rattle.value_core.specs.Order.{row_total, row_separates}
use Rattle.value_core.specs.Values.{Value, Row, Heading, truth, text, point, interval, row_cmp, fits, fits_heading, same_line, is_interval}
use Rattle.relation_core.specs.Agreement.{part_of}
use Rattle.relation_core.specs.Parts.{kind_at}
use Rattle.cell_packing.specs.Covering.{Among}
use Rattle.cell_packing.proofs.AmongLemmas.{among_map}
use Rattle.cell_sweep.proofs.MovedLemmas.{among_moved}
use Rattle.cell_boxes.specs.Rows.{IsRow}
use Rattle.cell_boxes.proofs.RowLemmas.{row_among, among_row}
use Rattle.u_set.specs.Apart.{span_in}
use Rattle.u_set.specs.Boxes.{AreIntervals, type_of}
use Rattle.u_set.proofs.ApartLemmas.{span_ordered}
use Rattle.u_set.proofs.BoxLemmas.{span_fits, place_listed}
use Rattle.u_join.specs.declared.standing.Standing.{Standing}
use Rattle.u_join.specs.RowPairs.{Stood, stood, seen, HaveOrder, IsMeeting, AreOfType, AreMade, met, Meet, made_row, row_at, pair_row}

-- ---- the rows that stand for those of a relation

pub sliced : (key : List ℕ) (at : ℕ) (r : List Row) (items slice : List Standing) → slice ≡ items → IsPermutation (map (stood key at) r) (map seen items) → IsPermutation (map (stood key at) r) (map seen slice)
sliced key at r items slice e = subst (λ xs. IsPermutation (map (stood key at) r) (map seen xs)) (sym e)

module _ (key : List ℕ) (at : ℕ) (r : List Row) (rows : List Standing) (moved : IsPermutation (map (stood key at) r) (map seen rows)) where
  pub stands_for : (i : ℕ) (x : Standing) → IsRow rows i x → Among x.row.now r × ((seen x).1 ≡ part_of key x.row.now) × ((seen x).2 ≡ span_in at x.row.now)
  stands_for i x a =
      let m : Among (seen x) (map seen rows) = (among_map seen (seen x) rows).1 (x, row_among rows i x a, refl) in
      let n : Among (seen x) (map (stood key at) r) = (among_moved (map (stood key at) r) (map seen rows) moved (seen x)).0 m in
      let w = (among_map (stood key at) (seen x) r).0 n in
      let e : w.0 ≡ x.row.now = ap (λ (z : Stood). z.0) w.2 in
      (subst (λ z. Among z r) e w.1, sym (ap (λ (z : Stood). z.1) w.2) ∙ ap (part_of key) e, sym (ap (λ (z : Stood). z.2) w.2) ∙ ap (span_in at) e)

  pub stands_so : (x : Row) → Among x r → (i : ℕ) × (z : Standing) × IsRow rows i z × (seen z ≡ stood key at x)
  stands_so x m =
      let n : Among (stood key at x) (map (stood key at) r) = (among_map (stood key at) (stood key at x) r).1 (x, m, refl) in
      let a : Among (stood key at x) (map seen rows) = (among_moved (map (stood key at) r) (map seen rows) moved (stood key at x)).1 n in
      let w = (among_map seen (stood key at x) rows).0 a in
      let i = among_row rows w.0 w.1 in
      (i.0, w.0, i.1, w.2)

  module _ (heading : Heading) (intervals : AreIntervals heading (at ∷ [])) (fit : (x : Row) → Among x r → IsTrue (fits_heading heading x)) where
    pub of_type : (t : AnyType) → t ≡ type_of (kind_at heading at) → AreOfType t at rows
    of_type t e i x a =
        let w = stands_for i x a in
        (subst (λ (u : AnyType). IsTrue (fits (SpanOf u) (value_at x.row.now at))) (sym e) (span_fits heading (at ∷ []) intervals x.row.now (fit x.row.now w.0) at (place_listed (at ∷ []) 0 (omega arith))), w.2)

    pub have_order : HaveOrder seen rows
    have_order i x a =
        let w = of_type (type_of (kind_at heading at)) refl i x a in
        subst (λ (s : Span). s.0 ≤ℤ s.1) (sym w.1) (span_ordered at x.row.now (type_of (kind_at heading at), w.0))

row_is : (rows : List Standing) (i : ℕ) (x : Standing) → IsRow rows i x → row_at rows i ≡ x.row.now
row_is rows i x a = get_or-map (λ (r : Standing). r.row.now) rows i x [] a.0 ∙ ap (λ (r : Standing). r.row.now) a.1

module _ (key key' places : List ℕ) (t : AnyType) (at here there : ℕ) (r s : List Row) (ls rs : List Standing)
    (moved : IsPermutation (map (stood key here) r) (map seen ls)) (moved' : IsPermutation (map (stood key' there) s) (map seen rs)) where
  -- the rows that the pairs give are those of all rows of one key whose intervals meet
  pub all_made : (pairs : List (ℕ × ℕ)) → ((p : ℕ × ℕ) → Among p pairs ↔ IsMeeting seen ls rs p) → (rows : List Row) → rows ≡ map (pair_row places t at here there ls rs) pairs
      → AreMade key key' here there (made_row places t at here there) r s rows
  all_made pairs is rows made = record {
    from = λ z m.
        let w = (among_map (pair_row places t at here there ls rs) z pairs).0 (subst (Among z) made m) in
        let h = (is w.0).0 w.1 in
        let a = stands_for key here r ls moved (w.0).0 h.0 h.2 in
        let b = stands_for key' there s rs moved' (w.0).1 h.1 h.3 in
        let left = row_is ls (w.0).0 h.0 h.2 in
        let right = row_is rs (w.0).1 h.1 h.3 in
        let spans = a.2 in
        let spans' = b.2 in (
          h.0.row.now,
          h.1.row.now,
          a.0,
          b.0,
          sym a.1 ∙ row_separates (seen h.0).1 (seen h.1).1 h.4 ∙ b.1,
          subst (λ T. T) (λ i. Meet (spans i) (spans' i)) h.5,
          sym w.2 ∙ (λ i. made_row places t at here there (left i) (right i)),
        );
    to = λ x y m n keys meet.
        let u = stands_so key here r ls moved x m in
        let v = stands_so key' there s rs moved' y n in
        let same : (seen u.1).1 ≡ (seen v.1).1 = ap (λ (z : Stood). z.1) u.3 ∙ keys ∙ sym (ap (λ (z : Stood). z.1) v.3) in
        let tie : row_cmp (seen u.1).1 (seen v.1).1 ≡ Equal = subst (λ z. row_cmp (seen u.1).1 z ≡ Equal) same (tied_itself row_total (seen u.1).1) in
        let spans : (seen u.1).2 ≡ span_in here x = ap (λ (z : Stood). z.2) u.3 in
        let spans' : (seen v.1).2 ≡ span_in there y = ap (λ (z : Stood). z.2) v.3 in
        let meets : Meet (seen u.1).2 (seen v.1).2 = subst (λ T. T) (λ i. Meet (sym spans i) (sym spans' i)) meet in
        let pair : Among (u.0, v.0) pairs = (is (u.0, v.0)).1 (u.1, v.1, u.2, v.2, tie, meets) in
        let left : row_at ls u.0 ≡ x = row_is ls u.0 u.1 u.2 ∙ ap (λ (z : Stood). z.0) u.3 in
        let right : row_at rs v.0 ≡ y = row_is rs v.0 v.1 v.2 ∙ ap (λ (z : Stood). z.0) v.3 in
        subst (Among (made_row places t at here there x y)) (sym made)
        ((among_map (pair_row places t at here there ls rs) (made_row places t at here there x y) pairs).1 ((u.0, v.0), pair, (λ i. made_row places t at here there (left i) (right i))));
  }

-- ---- what two intervals of a type have in common is one of it

number_max : (t : AnyType) (a b : ℤ) → is_number t a ≡ true → is_number t b ≡ true → is_number t (int_max a b) ≡ true
number_max t a b h g = by_lt_z a b
    (λ l. let e : b ≡ int_max a b = omega (arith, ints, clamps) in subst (λ n. is_number t n ≡ true) e g)
    (λ l. let e : a ≡ int_max a b = omega (arith, ints, clamps) in subst (λ n. is_number t n ≡ true) e h)

number_min : (t : AnyType) (a b : ℤ) → is_number t a ≡ true → is_number t b ≡ true → is_number t (int_min a b) ≡ true
number_min t a b h g = by_lt_z a b
    (λ l. let e : a ≡ int_min a b = omega (arith, ints, clamps) in subst (λ n. is_number t n ≡ true) e h)
    (λ l. let e : b ≡ int_min a b = omega (arith, ints, clamps) in subst (λ n. is_number t n ≡ true) e g)

both_ordered : (i j : Span) → i.0 ≤ℤ i.1 → j.0 ≤ℤ j.1 → Meet i j → (met i j).0 ≤ℤ (met i j).1
both_ordered i j h g m = let a = m.0 in let b = m.1 in omega (arith, ints, clamps)

module _ (t : AnyType) where
  pub inside : (v : Value) → IsTrue (fits (SpanOf t) v) → IsTrue (is_interval t (span_of v))
  inside (truth b) h = absurd (true≢false (sym h))
  inside (text bytes) h = absurd (true≢false (sym h))
  inside (point l p) h = absurd (true≢false (sym h))
  inside (interval l i) h = (and_parts (same_line l (line_of t)) (is_interval t i) h).1

  met_inside : (i j : Span) → IsTrue (is_interval t i) → IsTrue (is_interval t j) → Meet i j → IsTrue (is_interval t (met i j))
  met_inside i j h g m =
      let a = and_parts (is_number t i.0) (is_number t i.1 && int_le i.0 i.1) h in
      let a' = and_parts (is_number t i.1) (int_le i.0 i.1) a.1 in
      let b = and_parts (is_number t j.0) (is_number t j.1 && int_le j.0 j.1) g in
      let b' = and_parts (is_number t j.1) (int_le j.0 j.1) b.1 in
      and_from (is_number t (met i j).0) (is_number t (met i j).1 && int_le (met i j).0 (met i j).1) (number_max t i.0 j.0 a.0 b.0)
      (and_from (is_number t (met i j).1) (int_le (met i j).0 (met i j).1) (number_min t i.1 j.1 a'.0 b'.0) (le-int_le (met i j).0 (met i j).1 (both_ordered i j (int_le-le i.0 i.1 a'.1) (int_le-le j.0 j.1 b'.1) m)))

  pub met_fits : (v w : Value) → IsTrue (fits (SpanOf t) v) → IsTrue (fits (SpanOf t) w) → Meet (span_of v) (span_of w) → same_line (line_of t) (line_of t) ≡ true → IsTrue (fits (SpanOf t) (interval (line_of t) (met (span_of v) (span_of w))))
  met_fits v w h g m e = and_from (same_line (line_of t) (line_of t)) (is_interval t (met (span_of v) (span_of w))) e (met_inside (span_of v) (span_of w) (inside v h) (inside w g) m)

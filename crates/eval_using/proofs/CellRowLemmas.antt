-- Rows at the first points of a cell.
use Rattle.std.proofs.Common.{◌≡◌, ℕ, zero, suc, ◌<◌, ℤ, pos, ◌≤ℤ◌, ◌&&◌, true, List, [], ◌∷◌, map, drop, length, get_or, set, refl, sym, ap, ◌∙◌, subst, arith}
use Rattle.std.specs.Prelude.{slice_index, int_le, if◌then◌else◌}
use Rattle.std.specs.Bool.{IsTrue}
use Rattle.std.specs.List.{All}
use Rattle.std.proofs.lemmas.Bool.{and_from}
use Rattle.std.proofs.lemmas.List.{length-set, length-map, get_or-map, get_or_default}
use Rattle.base_core.proofs.IntLemmas.{le-int_le}
use Rattle.point_core.specs.Points.{Line, line, line_of, number, is_number, IsPointOf}
use Rattle.point_core.specs.declared.any_type.AnyType.{AnyType}
use Rattle.point_core.specs.declared.any_type.AnyType.TheVariants.{Integer}
use Rattle.point_core.specs.declared.any_type.AnyPoint.{AnyPoint}
use Rattle.interval_core.specs.Members.{Span, at_point, HasEndsIn}
use Rattle.cell_packing.specs.Covering.{Among}
use Rattle.cell_packing.specs.Packed.{Has, firsts}
use Rattle.value_core.specs.Attributes.{value_at, span_of, with_span, put_span}
use Rattle.value_core.specs.Plain.{plain, ends}
use Rattle.value_core.specs.Values.{Row, Value as PlainValue, interval, fits, fits_heading, is_interval, same_line}
use Rattle.value_core.specs.declared.kind.Kind.TheVariants.{Span as SpanOf}
use Rattle.value_core.specs.declared.value.Value.{Value}
use Rattle.value_core.specs.declared.value.Value.TheVariants.{Span as SpanValue}
use Rattle.value_core.proofs.FitLemmas.{interval_that_fits}
use Rattle.scalar_core.specs.AtPlaces.{at_place, HasSpanAt, AreWithin}
use Rattle.scalar_core.specs.Expressions.{Expr}
use Rattle.scalar_core.proofs.PointLemmas.{same_line-self, number-is_number}
use Rattle.relation_core.specs.Parts.{kind_at}
use Rattle.cell_core.specs.Boxes.{IsBox}
use Rattle.cell_core.specs.Cells.{box_numbers, row_numbers}
use Rattle.cell_core.specs.Numbering.{numbers_of}
use Rattle.u_set.specs.Boxes.{type_of, types_at, boxed}
use Rattle.u_set.proofs.BoxLemmas.{place_listed, span_fits, shaped_from_fit}
use Rattle.u_row.specs.Cutting.{cells_of}
use Rattle.u_row.proofs.CellLemmas.{cell_in, has_firsts}
use Rattle.eval_using.specs.BoxedLaws.{sides_there, side_there, own_fits, ordered_there, inside_from}
use Rattle.eval_using.specs.PlaceRows.{HaveLines, lines_kept, within_has}
use Rattle.eval_using.specs.Swept.{AreBoxed, swept_cuts}
use Rattle.scalar_core.proofs.AtPlaceLemmas.{at_place-fits}

-- ---- one point in place of a value

map_set : {X Y : Type 0} (f : X → Y) (xs : List X) (i : ℕ) (x : X) → map f (set xs i x) ≡ set (map f xs) i (f x)
map_set f [] i x = refl
map_set f (y ∷ xs) zero x = refl
map_set f (y ∷ xs) (suc i) x = ap (λ ys. f y ∷ ys) (map_set f xs i x)

point_ends : (p : AnyPoint) → ends (p, p) ≡ at_point (number p)
point_ends p = ap (λ b. if b then (number p, number p) else (pos 1, pos 0)) (same_line-self (line p))

pub point_put : (values : List Value) (i : ℕ) (p : AnyPoint) → value_at (map plain values) i ≡ interval (line p) (span_of (value_at (map plain values) i))
    → map plain (set values i (SpanValue (p, p))) ≡ put_span (map plain values) i (at_point (number p))
point_put values i p h =
    let new : interval (line p) (ends (p, p)) ≡ with_span (value_at (map plain values) i) (at_point (number p)) =
    ap (interval (line p)) (point_ends p) ∙ sym (ap (λ v. with_span v (at_point (number p))) h) in
    map_set plain values i (SpanValue (p, p)) ∙ ap (set (map plain values) i) new

-- another interval on the same line
pub interval_put : (values : List Value) (i : ℕ) (x : AnyPoint × AnyPoint) → value_at (map plain values) i ≡ interval (line x.0) (span_of (value_at (map plain values) i)) → line x.1 ≡ line x.0
    → map plain (set values i (SpanValue x)) ≡ put_span (map plain values) i (numbers_of number x)
interval_put values i x h e =
    let same : ends x ≡ numbers_of number x = (λ t. if same_line (line x.0) (e t) then numbers_of number x else (pos 1, pos 0)) ∙ ap (λ b. if b then numbers_of number x else (pos 1, pos 0)) (same_line-self (line x.0)) in
    let new : interval (line x.0) (ends x) ≡ with_span (value_at (map plain values) i) (numbers_of number x) =
    ap (interval (line x.0)) same ∙ sym (ap (λ v. with_span v (numbers_of number x)) h) in
    map_set plain values i (SpanValue x) ∙ ap (set (map plain values) i) new

-- ---- all of them

-- the first j points are put
pub record ArePut (row : Row) (commalist : List ℕ) (at : List (AnyPoint × AnyPoint)) (j : ℕ) (now : Row) : Type 0 where
  pub rest : at_place (drop j commalist) (drop j (firsts (box_numbers number at))) now ≡ at_place commalist (firsts (box_numbers number at)) row
  pub long : length now ≡ length row
  pub lines : HaveLines commalist at now

next_put : (commalist : List ℕ) (at : List (AnyPoint × AnyPoint)) (row : Row) (j : ℕ) (d : AnyPoint × AnyPoint) → length at ≡ length commalist → j < length commalist
    → at_place (drop j commalist) (drop j (firsts (box_numbers number at))) row
    ≡ at_place (drop (suc j) commalist) (drop (suc j) (firsts (box_numbers number at))) (put_span row (slice_index commalist j) (at_point (number (get_or at j d).0)))
next_put [] at row j d n l = absurd (omega arith)
next_put (a ∷ commalist) [] row j d n l = absurd (omega arith)
next_put (a ∷ commalist) (i ∷ at) row zero d n l = refl
next_put (a ∷ commalist) (i ∷ at) row (suc j) d n l = next_put commalist at row j d (omega (arith, n)) (omega (arith, l))

pub more_put : (row : Row) (commalist : List ℕ) (at : List (AnyPoint × AnyPoint)) (j : ℕ) (now : Row) (d : AnyPoint × AnyPoint) → length at ≡ length commalist → j < length commalist → ArePut row commalist at j now
    → ArePut row commalist at (suc j) (put_span now (slice_index commalist j) (at_point (number (get_or at j d).0)))
more_put row commalist at j now d n l h = record {
  rest = sym (next_put commalist at now j d n l) ∙ h.rest;
  long = length-set now (slice_index commalist j) (with_span (value_at now (slice_index commalist j)) (at_point (number (get_or at j d).0))) ∙ h.long;
  lines = lines_kept commalist at now (slice_index commalist j) (at_point (number (get_or at j d).0)) h.lines;
}

pub all_put : (row : Row) (commalist : List ℕ) (at : List (AnyPoint × AnyPoint)) (j : ℕ) (now : Row) → length commalist ≡ j → ArePut row commalist at j now → now ≡ at_place commalist (firsts (box_numbers number at)) row
all_put row commalist at j now e h =
    let z : drop j commalist ≡ [] = gone commalist j e in
    sym (ap (λ (ks : List ℕ). at_place ks (drop j (firsts (box_numbers number at))) now) z) ∙ h.rest
  where
    gone : (xs : List ℕ) (m : ℕ) → length xs ≡ m → drop m xs ≡ []
    gone [] zero q = refl
    gone [] (suc m) q = absurd (omega arith)
    gone (x ∷ xs) zero q = absurd (omega arith)
    gone (x ∷ xs) (suc m) q = gone xs m (omega (arith, q))

-- ---- the ends of boxes

-- the sides of a box have their ends in their types
box_at : (types : List AnyType) (box : List (AnyPoint × AnyPoint)) → IsBox IsPointOf types box → (j : ℕ) (d : AnyPoint × AnyPoint) (t : AnyType) → j < length box
    → HasEndsIn IsPointOf (get_or types j t) (get_or box j d)
box_at [] [] h j d t l = absurd (omega arith)
box_at [] (i ∷ is) h j d t l = absurd h
box_at (u ∷ ts) [] h j d t l = absurd h
box_at (u ∷ ts) (i ∷ is) h zero d t l = h.0
box_at (u ∷ ts) (i ∷ is) h (suc j) d t l = box_at ts is h.1 j d t (omega (arith, l))

box_long : (types : List AnyType) (box : List (AnyPoint × AnyPoint)) → IsBox IsPointOf types box → length box ≡ length types
box_long [] [] h = refl
box_long [] (i ∷ is) h = absurd h
box_long (u ∷ ts) [] h = absurd h
box_long (u ∷ ts) (i ∷ is) h = ap suc (box_long ts is h.1)

-- an interval with its ends in a type fits the type
ends_fit : (t : AnyType) (i : AnyPoint × AnyPoint) (s : Span) → HasEndsIn IsPointOf t i → numbers_of number i ≡ s → number i.0 ≤ℤ number i.1 → IsTrue (fits (SpanOf t) (interval (line_of t) s))
ends_fit t i s h e l =
    let a = number i.0 in
    let b = number i.1 in
    let inside : is_interval t (a, b) ≡ true = and_from (is_number t a) (is_number t b && int_le a b) (number-is_number t a (h.0).1)
    (and_from (is_number t b) (int_le a b) (number-is_number t b (h.1).1) (le-int_le a b l)) in
    and_from (same_line (line_of t) (line_of t)) (is_interval t s) (same_line-self (line_of t)) (subst (λ (r : Span). is_interval t r ≡ true) e inside)

-- ---- a row with its box

module _ (commalist : List ℕ) (rows : List Row) (boxes : List (Row × List (AnyPoint × AnyPoint))) (row : ℕ) (h : AreBoxed commalist rows boxes row) where
  abbrev own : Row
  own = get_or rows row []

  abbrev sides : List (AnyPoint × AnyPoint)
  sides = (get_or boxes row ([], [])).1

  count : length sides ≡ length commalist
  count =
      let e = sides_there commalist rows boxes row h in
      sym (length-map sides (numbers_of number)) ∙ ap length e ∙ length-map commalist (λ i. span_of (value_at own i))

  pub own_is : (d : Row) → get_or rows row d ≡ own
  own_is d = get_or_default rows row d [] h.below

  -- a row at its number has the heading
  pub own_row : (e : Row) → IsTrue (fits_heading h.heading (get_or rows row e))
  own_row e = subst (λ (x : Row). IsTrue (fits_heading h.heading x)) (sym (own_is e)) (own_fits commalist rows boxes row h)

  -- whatever stands behind the rows, the row is its own
  pub own_place : (e : Row) (ps : List ℤ) → at_place commalist ps (get_or rows row e) ≡ at_place commalist ps own
  own_place e ps = ap (at_place commalist ps) (own_is e)

  pub side_below : (side : ℕ) → side < length sides → side < length commalist
  side_below side l = let n = count in omega (arith, l, n)

  span_at : (side : ℕ) → side < length commalist → IsTrue (fits (SpanOf (type_of (kind_at h.heading (slice_index commalist side)))) (value_at own (slice_index commalist side)))
  span_at side l = span_fits h.heading commalist h.intervals own (own_fits commalist rows boxes row h) (slice_index commalist side) (place_listed commalist side l)

  pub has_span : (side : ℕ) (d : Row) → side < length sides → HasSpanAt (get_or rows row d) (slice_index commalist side)
  has_span side d l =
      subst (λ (x : Row). HasSpanAt x (slice_index commalist side)) (sym (own_is d)) (type_of (kind_at h.heading (slice_index commalist side)), span_at side (side_below side l))

  box_there : IsBox IsPointOf (types_at h.heading commalist) sides
  box_there =
      let many : length boxes ≡ length rows = sym (length-map boxes (row_numbers number)) ∙ ap length h.same ∙ length-map rows (boxed commalist) in
      let below = h.below in
      h.points row ([], []) (omega (arith, many, below))

  side_ends : (side : ℕ) (d : AnyPoint × AnyPoint) → side < length sides → HasEndsIn IsPointOf (type_of (kind_at h.heading (slice_index commalist side))) (get_or sides side d)
  side_ends side d l =
      subst (λ t. HasEndsIn IsPointOf t (get_or sides side d)) (get_or-map (λ i. type_of (kind_at h.heading i)) commalist side 0 Integer (side_below side l))
      (box_at (types_at h.heading commalist) sides box_there side d Integer l)

  -- the value of a side that has its ends in a type fits the type
  pub fits_there : (t : AnyType) (side : ℕ) (d : AnyPoint × AnyPoint) (e : Row) → side < length sides → HasEndsIn IsPointOf t (get_or sides side d)
      → IsTrue (fits (SpanOf t) (value_at (get_or rows row e) (slice_index commalist side)))
  fits_there t side d e l ends =
      let a = slice_index commalist side in
      let u : AnyType = type_of (kind_at h.heading a) in
      let v : PlainValue = value_at own a in
      let known = side_ends side d l in
      let lines : line_of u ≡ line_of t = sym (known.0).0 ∙ (ends.0).0 in
      let is : v ≡ interval (line_of t) (span_of v) = interval_that_fits u v (span_at side (side_below side l)) ∙ ap (λ (m : Line). interval m (span_of v)) lines in
      let new = ends_fit t (get_or sides side d) (span_of v) ends (side_there commalist rows boxes row h side d l) (ordered_there commalist rows boxes row h side d l) in
      subst (λ (x : Row). IsTrue (fits (SpanOf t) (value_at x a))) (sym (own_is e)) (subst (λ w. IsTrue (fits (SpanOf t) w)) (sym is) new)

  module _ (at : List (AnyPoint × AnyPoint)) (types : List AnyType) (here : IsBox IsPointOf types sides) (there : IsBox IsPointOf types at) where
    pub at_count : length at ≡ length commalist
    at_count = box_long types at there ∙ sym (box_long types sides here) ∙ count

    pub all_within : (e : Row) → All (λ (i : ℕ). i < length (get_or rows row e)) commalist
    all_within e = λ j d l.
        let long = (shaped_from_fit h.heading commalist h.intervals own (own_fits commalist rows boxes row h)).long in
        let w = h.intervals.within j d l in
        subst (λ (x : Row). get_or commalist j d < length x) (sym (own_is e)) (omega (arith, long, w))

    pub at_lines : (e : Row) → HaveLines commalist at (get_or rows row e)
    at_lines e = λ j d l.
        let n = at_count in
        let m = count in
        let x : Row = get_or rows row e in
        let v : PlainValue = value_at x (slice_index commalist j) in
        let t : AnyType = get_or types j Integer in
        let ends = box_at types at there j d Integer (omega (arith, l, n)) in
        let s : j < length sides = omega (arith, l, m) in
        let own_ends = box_at types sides here j d Integer s in
        interval_that_fits t v (fits_there t j d e s own_ends) ∙ ap (λ (k : Line). interval k (span_of v)) (sym (ends.0).0)

    -- the row at a place of a cell has the heading
    pub fits_at : (scalars : List Expr) (e x : Row) → Among (box_numbers number at) (cells_of (swept_cuts commalist scalars rows row) (box_numbers number sides))
        → x ≡ at_place commalist (firsts (box_numbers number at)) (get_or rows row e) → IsTrue (fits_heading h.heading x)
    fits_at scalars e x m is =
        let cell : List Span = box_numbers number at in
        let inside = inside_from commalist rows boxes row h scalars in
        let first : Has cell (firsts cell) = has_firsts (swept_cuts commalist scalars rows row) 0 (box_numbers number sides) inside cell m in
        let in_box : Has (box_numbers number sides) (firsts cell) = cell_in (swept_cuts commalist scalars rows row) 0 (box_numbers number sides) inside cell m (firsts cell) first in
        let in_row : AreWithin own commalist (firsts cell) = within_has commalist own (firsts cell) (subst (λ (b : List Span). Has b (firsts cell)) (sides_there commalist rows boxes row h) in_box) in
        let fit = own_fits commalist rows boxes row h in
        let place : x ≡ at_place commalist (firsts cell) own = is ∙ ap (at_place commalist (firsts cell)) (own_is e) in
        subst (λ (y : Row). IsTrue (fits_heading h.heading y)) (sym place) (at_place-fits h.heading own own commalist (firsts cell) fit fit in_row)

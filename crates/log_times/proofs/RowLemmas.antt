-- Rows with an interval of statements at a place.
use Rattle.std.proofs.Common.{◌≡◌, ℕ, zero, suc, ◌<◌, ◌≤◌, ℤ, pos, ◌<ℤ◌, ◌≤ℤ◌, Bool, true, false, List, [], ◌∷◌, length, map, take, drop, set, get_or, refl, sym, ap, ap₂, ◌∙◌, arith, if◌then◌else◌, Ordering, Less, Equal, Greater}
use Rattle.std.specs.Cmp.{signed_Decides}
use Rattle.std.specs.Cmp.Lexicographic.{slice_cmp}
use Rattle.std.specs.List.{insert}
use Rattle.std.specs.Ordering.{int_eq, is_eq, ordering_then}
use Rattle.std.proofs.lemmas.Bool.{true≢false}
use Rattle.std.proofs.lemmas.Int.{ints}
use Rattle.std.proofs.lemmas.List.{map-set}
use Rattle.interval_core.specs.Members.{Span}
use Rattle.point_core.specs.Points.{Line, integers, line, number}
use Rattle.point_core.specs.declared.any_type.AnyPoint.{AnyPoint}
use Rattle.value_core.specs.Attributes.{value_at, span_of, with_span, put_span}
use Rattle.value_core.specs.Plain.{plain, ends}
use Rattle.value_core.specs.Values.{Row, Value, truth, text, point, interval, same_line, value_cmp, row_cmp}
use Rattle.value_core.specs.declared.value.Value.{Value as CodeValue}
use Rattle.value_core.specs.declared.value.Value.TheVariants.{Span as SpanValue}
use Rattle.value_core.proofs.OrderLemmas.{slice_cmp-map}
use Rattle.log_times.specs.Logs.{stamped, unstamped, statements, open_end, is_standing, closed_row, HasStatements}

-- ---- put in and taken out

pub unstamped-stamped : (side : ℕ) (i : Span) (x : Row) → side ≤ length x → unstamped side (stamped side i x) ≡ x
unstamped-stamped zero i x l = refl
unstamped-stamped (suc side) i [] l = absurd (omega arith)
unstamped-stamped (suc side) i (v ∷ x) l = ap (λ vs. v ∷ vs) (unstamped-stamped side i x (omega arith))

pub value-stamped : (side : ℕ) (i : Span) (x : Row) → side ≤ length x → value_at (stamped side i x) side ≡ interval integers i
value-stamped zero i x l = refl
value-stamped (suc side) i [] l = absurd (omega arith)
value-stamped (suc side) i (v ∷ x) l = value-stamped side i x (omega arith)

pub length-stamped : (side : ℕ) (i : Span) (x : Row) → length (stamped side i x) ≡ suc (length x)
length-stamped zero i x = refl
length-stamped (suc side) i [] = refl
length-stamped (suc side) i (v ∷ x) = ap suc (length-stamped side i x)

pub unstamped-put : (side : ℕ) (i : Span) (row : Row) → unstamped side (put_span row side i) ≡ unstamped side row
unstamped-put zero i [] = refl
unstamped-put (suc side) i [] = refl
unstamped-put zero i (v ∷ row) = refl
unstamped-put (suc side) i (v ∷ row) = ap (λ vs. v ∷ vs) (unstamped-put side i row)

pub value-put : (side : ℕ) (i : Span) (row : Row) → value_at (put_span row side i) side ≡ with_span (value_at row side) i
value-put side i [] = refl
value-put zero i (v ∷ row) = refl
value-put (suc side) i (v ∷ row) = value-put side i row

pub put-put : (side : ℕ) (i j : Span) (row : Row) → put_span (put_span row side i) side j ≡ put_span row side j
put-put side i j [] = refl
put-put zero i j (truth b ∷ row) = refl
put-put zero i j (text bytes ∷ row) = refl
put-put zero i j (point l p ∷ row) = refl
put-put zero i j (interval l k ∷ row) = refl
put-put (suc side) i j (v ∷ row) = ap (λ vs. v ∷ vs) (put-put side i j row)

pub put-stamped : (side : ℕ) (i j : Span) (x : Row) → side ≤ length x → put_span (stamped side i x) side j ≡ stamped side j x
put-stamped zero i j x l = refl
put-stamped (suc side) i j [] l = absurd (omega arith)
put-stamped (suc side) i j (v ∷ x) l = ap (λ vs. v ∷ vs) (put-stamped side i j x (omega arith))

with_itself : (v : Value) → with_span v (span_of v) ≡ v
with_itself (truth b) = refl
with_itself (text bytes) = refl
with_itself (point l p) = refl
with_itself (interval l i) = refl

pub put_itself : (side : ℕ) (row : Row) → put_span row side (statements side row) ≡ row
put_itself side [] = refl
put_itself zero (v ∷ row) = ap (λ w. w ∷ row) (with_itself v)
put_itself (suc side) (v ∷ row) = ap (λ vs. v ∷ vs) (put_itself side row)

-- ---- the interval of a row

pub statements-stamped : (side : ℕ) (i : Span) (x : Row) → side ≤ length x → statements side (stamped side i x) ≡ i
statements-stamped side i x l = ap span_of (value-stamped side i x l)

pub line-put : (side : ℕ) (i : Span) (row : Row) → value_at row side ≡ interval integers (statements side row) → value_at (put_span row side i) side ≡ interval integers i
line-put side i row h = value-put side i row ∙ ap (λ v. with_span v i) h

pub statements-put : (side : ℕ) (i : Span) (row : Row) → value_at row side ≡ interval integers (statements side row) → statements side (put_span row side i) ≡ i
statements-put side i row h = ap span_of (line-put side i row h)

-- ---- stored rows

-- what an end is tells whether the row stands
pub stands : (side : ℕ) (row : Row) → (statements side row).1 ≡ open_end → is_standing side row ≡ true
stands side row e = (signed_Decides (statements side row).1 open_end).1 e

pub stands-end : (side : ℕ) (row : Row) → is_standing side row ≡ true → (statements side row).1 ≡ open_end
stands-end side row h = (signed_Decides (statements side row).1 open_end).0 h

pub int_eq-false : (a b : ℤ) → (a ≡ b → ⊥) → int_eq a b ≡ false
int_eq-false a b n = by (int_eq a b) refl
  where
    by : (r : Bool) → int_eq a b ≡ r → r ≡ false
    by true e = absurd (n ((signed_Decides a b).0 e))
    by false e = refl

-- an end below the greatest integer
pub has_ended : (side : ℕ) (row : Row) → (statements side row).1 <ℤ open_end → is_standing side row ≡ false
has_ended side row l = int_eq-false (statements side row).1 open_end (λ e. irreflexive (statements side row).1 open_end e l)
  where
    irreflexive : (a b : ℤ) → a ≡ b → a <ℤ b → ⊥
    irreflexive a b e l = absurd (omega (arith, ints, e, l))

-- the row as the log has it, where it stands and where it ended
pub closed-standing : (side : ℕ) (n : ℤ) (row : Row) → is_standing side row ≡ true → closed_row side n row ≡ put_span row side ((statements side row).0, n)
closed-standing side n row h = ap (λ b. if b then put_span row side ((statements side row).0, n) else row) h

pub closed-ended : (side : ℕ) (n : ℤ) (row : Row) → is_standing side row ≡ false → closed_row side n row ≡ row
closed-ended side n row h = ap (λ b. if b then put_span row side ((statements side row).0, n) else row) h

pub unstamped-closed : (side : ℕ) (n : ℤ) (row : Row) → unstamped side (closed_row side n row) ≡ unstamped side row
unstamped-closed side n row = by (is_standing side row) refl
  where
    by : (b : Bool) → is_standing side row ≡ b → unstamped side (closed_row side n row) ≡ unstamped side row
    by true e = ap (unstamped side) (closed-standing side n row e) ∙ unstamped-put side ((statements side row).0, n) row
    by false e = ap (unstamped side) (closed-ended side n row e)

-- ---- rows of values

map_insert : {X Y : Type 0} (f : X → Y) (xs : List X) (i : ℕ) (x : X) → map f (insert xs i x) ≡ insert (map f xs) i (f x)
map_insert f xs zero x = refl
map_insert f [] (suc i) x = refl
map_insert f (y ∷ xs) (suc i) x = ap (λ ys. f y ∷ ys) (map_insert f xs i x)

-- an interval of statements put in
pub put_in : (values now : List CodeValue) (row : Row) (side : ℕ) (v : CodeValue) (i : Span) → map plain values ≡ row → plain v ≡ interval integers i → now ≡ insert values side v → map plain now ≡ stamped side i row
put_in values now row side v i same is e = ap (map plain) e ∙ (map_insert plain values side v ∙ ap₂ (λ (r : Row) w. insert r side w) same is)

-- one put in place of another
pub put_over : (values : List CodeValue) (row : Row) (side : ℕ) (v : CodeValue) (i : Span) → map plain values ≡ row → plain v ≡ interval integers i → value_at row side ≡ interval integers (statements side row)
    → map plain (set values side v) ≡ put_span row side i
put_over values row side v i same is line =
    let new : plain v ≡ with_span (value_at row side) i = is ∙ sym (ap (λ w. with_span w i) line) in
    map-set plain values side v ∙ ap₂ (λ (r : Row) w. set r side w) same new

interval_at : (values : List CodeValue) (side : ℕ) (v : CodeValue) (i : AnyPoint × AnyPoint) → side < length values → v ≡ get_or values side v → v ≡ SpanValue i → value_at (map plain values) side ≡ interval (line i.0) (ends i)
interval_at [] side v i l e is = absurd (omega arith)
interval_at (w ∷ values) zero v i l e is = ap plain (sym e ∙ is)
interval_at (w ∷ values) (suc side) v i l e is = interval_at values side v i (omega (arith, l)) e is

one_line : (b : Bool) (l m : Line) (x y : ℤ × ℤ) → l ≡ integers → (if b then x else (pos 1, pos 0)) ≡ y → y.0 ≤ℤ y.1 → x ≡ y
one_line true l m x y e h ordered = h
one_line false l m x y e h ordered = absurd (empty y.0 y.1 (ap (λ (z : ℤ × ℤ). z.0) h) (ap (λ (z : ℤ × ℤ). z.1) h) ordered)
  where
    empty : (a b : ℤ) → pos 1 ≡ a → pos 0 ≡ b → a ≤ℤ b → ⊥
    empty a b e f l = absurd (omega (arith, ints, e, f, l))

line_of_interval : Value → Line
line_of_interval (interval l i) = l
line_of_interval v = integers

-- the numbers of the ends of an interval of statements
pub statement_ends : (values : List CodeValue) (row : Row) (side : ℕ) (v : CodeValue) (i : AnyPoint × AnyPoint) → map plain values ≡ row → HasStatements side row → side < length values → v ≡ get_or values side v → v ≡ SpanValue i
    → (number i.0, number i.1) ≡ statements side row
unfolding line_of_interval
statement_ends values row side v i same h within e is =
    let here : value_at row side ≡ interval (line i.0) (ends i) = ap (λ (r : Row). value_at r side) (sym same) ∙ interval_at values side v i within e is in
    let both : ends i ≡ statements side row = sym (ap span_of here) in
    let its : line i.0 ≡ integers = ap line_of_interval (sym here ∙ h.line) in
    one_line (same_line (line i.0) (line i.1)) (line i.0) (line i.1) (number i.0, number i.1) (statements side row) its both h.ordered

-- ---- a row without the interval, compared with a key

abbrev value_order : CodeValue → CodeValue → Ordering
value_order v w = value_cmp (plain v) (plain w)

then_front : (a x y : Ordering) → (is_eq x ≡ false → x ≡ y) → is_eq (ordering_then a x) ≡ false → ordering_then a x ≡ ordering_then a y
then_front Less x y h e = refl
then_front Equal x y h e = h e
then_front Greater x y h e = refl

then_back : (a x y z : Ordering) → (is_eq x ≡ true → z ≡ y) → is_eq (ordering_then a x) ≡ true → z ≡ ordering_then a y
then_back Less x y z h e = absurd (true≢false (sym e))
then_back Equal x y z h e = h e
then_back Greater x y z h e = absurd (true≢false (sym e))

rest_front : (side : ℕ) (key row : List CodeValue) → side < length row → is_eq (slice_cmp value_order (take side key) (take side row)) ≡ false
    → slice_cmp value_order (take side key) (take side row) ≡ row_cmp (map plain key) (unstamped side (map plain row))
rest_front zero key row l e = absurd (true≢false e)
rest_front (suc side) key [] l e = absurd (omega arith)
rest_front (suc side) [] (v ∷ row) l e = refl
rest_front (suc side) (k ∷ key) (v ∷ row) l e =
    then_front (value_order k v) (slice_cmp value_order (take side key) (take side row)) (row_cmp (map plain key) (unstamped side (map plain row))) (rest_front side key row (omega (arith, l))) e

rest_back : (side : ℕ) (key row : List CodeValue) → side < length row → is_eq (slice_cmp value_order (take side key) (take side row)) ≡ true
    → slice_cmp value_order (drop side key) (drop (suc side) row) ≡ row_cmp (map plain key) (unstamped side (map plain row))
rest_back side key [] l e = absurd (omega arith)
rest_back zero key (v ∷ row) l e = slice_cmp-map plain value_cmp key row
rest_back (suc side) [] (v ∷ row) l e = absurd (true≢false (sym e))
rest_back (suc side) (k ∷ key) (v ∷ row) l e =
    then_back (value_order k v) (slice_cmp value_order (take side key) (take side row)) (row_cmp (map plain key) (unstamped side (map plain row))) (slice_cmp value_order (drop side key) (drop (suc side) row)) (rest_back side key row (omega (arith, l))) e

-- the values in front of it decide
pub front_decides : (side : ℕ) (key row front other : List CodeValue) (order : Ordering) → side < length row → front ≡ take side key → other ≡ take side row → order ≡ slice_cmp value_order front other → is_eq order ≡ false
    → order ≡ row_cmp (map plain key) (unstamped side (map plain row))
front_decides side key row front other order l f o e not =
    let all : order ≡ slice_cmp value_order (take side key) (take side row) = e ∙ ap₂ (slice_cmp value_order) f o in
    all ∙ rest_front side key row l (sym (ap is_eq all) ∙ not)

-- or those behind it
pub back_decides : (side : ℕ) (key row front other back behind : List CodeValue) (order last : Ordering) → side < length row → front ≡ take side key → other ≡ take side row → order ≡ slice_cmp value_order front other → is_eq order ≡ true
    → back ≡ drop side key → behind ≡ drop (suc side) row → last ≡ slice_cmp value_order back behind → last ≡ row_cmp (map plain key) (unstamped side (map plain row))
back_decides side key row front other back behind order last l f o e equal b r h =
    let all : order ≡ slice_cmp value_order (take side key) (take side row) = e ∙ ap₂ (slice_cmp value_order) f o in
    h ∙ (ap₂ (slice_cmp value_order) b r ∙ rest_back side key row l (sym (ap is_eq all) ∙ equal))

pub drop_one : {X : Type 0} (side : ℕ) (xs : List X) → drop 1 (drop side xs) ≡ drop (suc side) xs
drop_one zero xs = refl
drop_one (suc side) [] = refl
drop_one (suc side) (x ∷ xs) = drop_one side xs

-- a key that ends in front of it
pub short_key : (side : ℕ) (key row : Row) → length key < side → side < length row → row_cmp key row ≡ row_cmp key (unstamped side row)
short_key zero key row s l = absurd (omega arith)
short_key (suc side) key [] s l = absurd (omega arith)
short_key (suc side) [] (v ∷ row) s l = refl
short_key (suc side) (k ∷ key) (v ∷ row) s l = ap (ordering_then (value_cmp k v)) (short_key side key row (omega (arith, s)) (omega (arith, l)))

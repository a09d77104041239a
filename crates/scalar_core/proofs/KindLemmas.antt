-- A typed expression gives values of its kind, on each row that has the heading.
use Rattle.std.specs.Prelude.{◌≡◌, ◌⊎◌, int_div, neg_ℤ, ◌*ℤ◌, ℕ, zero, suc, ℤ, pos, ◌+ℤ◌, ◌-ℤ◌, Bool, true, false, not, ◌&&◌, IsTrue, List, [], ◌∷◌, ◌++◌, Option, Some, None, Result, Ok, Err, slice_get, int_le, int_lt, nat_le, length, unwrap_or, refl, filter, fold, if◌then◌else◌}
use Rattle.std.proofs.Common.{sym, ◌∙◌, ap, subst, arith, inl, inr}
use Rattle.std.proofs.lemmas.Int.{ints}
use Rattle.base_core.specs.Outcomes.{then_give}
use Rattle.point_core.specs.declared.fault.Place.{Place}
use Rattle.point_core.specs.declared.any_type.AnyType.{AnyType}
use Rattle.point_core.specs.declared.any_type.AnyType.TheVariants.{Integer}
use Rattle.point_core.specs.Points.{line_of, integers, is_number, first_of, last_of, next_of, prior_of}
use Rattle.interval_core.specs.Members.{Span as Ends}
use Rattle.value_core.specs.declared.kind.Kind.{Kind}
use Rattle.value_core.specs.declared.kind.Kind.TheVariants.{Truth, Char, Point, Span}
use Rattle.value_core.specs.Attributes.{value_at, span_of}
use Rattle.value_core.specs.Lengths.{is_text}
use Rattle.value_core.specs.Limits.{most_text_bytes}
use Rattle.value_core.proofs.TextLemmas.{joined-text}
use Rattle.value_core.specs.Values.{Value, Row, Name, Heading, truth, text, point, interval, fits, fits_heading, is_interval, same_line}
use Rattle.scalar_core.specs.declared.operators.OneOp.{OneOp}
use Rattle.scalar_core.specs.declared.operators.OneOp.TheVariants.{Not, Negate, BeginOf, EndOf, PreOf, PostOf, CountOf, NextOf, PriorOf}
use Rattle.scalar_core.specs.declared.operators.PairOp.{PairOp}
use Rattle.scalar_core.specs.declared.operators.PairOp.TheVariants.{Add, Subtract, Multiply, Divide, Concat, Compare, Allen, Member, Select, UnionOf, IntersectOf, MinusOf}
use Rattle.scalar_core.specs.Expressions.{Expr, constant, attribute, one, pair, and_expr, or_expr}
use Rattle.scalar_core.specs.Kinds.{IsTyped, IsTypedOver, OneKinds, PairKinds, OneTakes, PairTakes}
use Rattle.scalar_core.specs.ScalarValues.{value}
use Rattle.scalar_core.specs.Operations.{Meant, is_true, number_of, integer, quotient, joined_text, bytes_of, point_or, interval_or, selector_or, begin_of, end_of, one_of, pair_of}
use Rattle.base_core.proofs.SetLemmas.{In}
use Rattle.base_core.proofs.MemberLemmas.{In-append, In-filter}
use Rattle.interval_core.proofs.MembersLemmas.{In-members}
use Rattle.interval_core.specs.Members.{members, has_member}
use Rattle.interval_core.specs.Operators.{hull_of, interval_of, count, union, intersect, minus}
use Rattle.interval_core.specs.Selector.{between, selected, opens_after, stops_before, first_member, last_member}
use Rattle.interval_core.specs.declared.selector.Ends.{Ends as Brackets}
use Rattle.interval_core.specs.declared.selector.SelectFault.{SelectFault}
use Rattle.interval_core.specs.declared.selector.SelectFault.TheVariants.{NoPoint, Empty}
use Rattle.base_core.specs.Sets.{are_same}
use Rattle.std.specs.Int.{int_min, int_max}
use Rattle.std.specs.Ordering.{int_cmp, int_eq}
use Rattle.std.proofs.lemmas.Int.{fold-int_max_bounds, fold-int_min_bounds}
use Rattle.std.proofs.lemmas.Bool.{and_from}
use Rattle.base_core.proofs.BoolLemmas.{and_left, and_right}
use Rattle.base_core.proofs.IntLemmas.{le-int_le, int_lt-lt}
use Rattle.value_core.proofs.FitLemmas.{is_number-number}
use Rattle.scalar_core.proofs.PointLemmas.{same_line-self, number-is_number}

-- a row has a value of its kind at each attribute of its heading
pub fits_heading-get : (heading : Heading) (row : Row) (i : ℕ) (name : Name) (kind : Kind) → IsTrue (fits_heading heading row) →
    slice_get heading i ≡ Some (name, kind) → (v : Value) × (slice_get row i ≡ Some v) × IsTrue (fits kind v)
fits_heading-get [] row i name kind h e = absurd cc
fits_heading-get (a ∷ rest) [] i name kind h e = absurd cc
fits_heading-get (a ∷ rest) (v ∷ vs) zero name kind h e =
    let same : a ≡ (name, kind) = cc in
    (v, refl, subst (λ (k : Kind). IsTrue (fits k v)) (ap (λ (x : Name × Kind). x.1) same) (and_left (fits a.1 v) (fits_heading rest vs) h))
fits_heading-get (a ∷ rest) (v ∷ vs) (suc i) name kind h e =
    fits_heading-get rest vs i name kind (and_right (fits a.1 v) (fits_heading rest vs) h) e

-- ---- the parts of answers

then_give-ok : {X Y F : Type 0} (m : Result X F) (f : X → Result Y F) (w : Y) → then_give m f ≡ Ok w → (v : X) × (m ≡ Ok v) × (f v ≡ Ok w)
then_give-ok (Ok v) f w e = (v, refl, e)
then_give-ok (Err x) f w e = absurd cc

-- a value where a test passes, else a fault
tested : {F : Type 0} (b : Bool) (x w : Value) (f : F) → (if b then Ok x else Err f) ≡ Ok w → (b ≡ true) × (x ≡ w)
tested true x w f e = (refl, cc)
tested false x w f e = absurd cc

past : {F : Type 0} (b : Bool) (m : Result Value F) (w : Value) (f : F) → (if b then Err f else m) ≡ Ok w → m ≡ Ok w
past true m w f e = absurd cc
past false m w f e = e

chosen : {F : Type 0} (b : Bool) (m : Result Value F) (a v : Value) → (if b then m else Ok a) ≡ Ok v → (m ≡ Ok v) ⊎ (a ≡ v)
chosen true m a v e = inl e
chosen false m a v e = inr cc

chosen_else : {F : Type 0} (b : Bool) (m : Result Value F) (a v : Value) → (if b then Ok a else m) ≡ Ok v → (m ≡ Ok v) ⊎ (a ≡ v)
chosen_else true m a v e = inr cc
chosen_else false m a v e = inl e

-- ---- the kinds of answers

pub integer-fits : (place : Place) (z : ℤ) (w : Value) → integer place z ≡ Ok w → IsTrue (fits (Point Integer) w)
integer-fits place z w e =
    let parts = tested (is_number Integer z) (point integers z) w _ e in
    subst (λ x. IsTrue (fits (Point Integer) x)) parts.1 parts.0

quotient-fits : (place : Place) (a b : ℤ) (w : Value) → quotient place a b ≡ Ok w → IsTrue (fits (Point Integer) w)
quotient-fits place a b w e = integer-fits place (int_div a b) w (past (int_eq b (pos 0)) (integer place (int_div a b)) w _ e)

-- the bytes of a text are one
text-fits : (v : Value) → IsTrue (fits Char v) → is_text (bytes_of v) ≡ true
text-fits (truth b) h = absurd cc
text-fits (text bytes) h = h
text-fits (point l p) h = absurd cc
text-fits (interval l i) h = absurd cc

joined_text-fits : (place : Place) (a b : List ℕ) (w : Value) → is_text a ≡ true → is_text b ≡ true → joined_text place (a ++ b) ≡ Ok w → IsTrue (fits Char w)
joined_text-fits place a b w is_a is_b e =
    let parts = tested (nat_le (length (a ++ b)) most_text_bytes) (text (a ++ b)) w _ e in
    subst (λ x. IsTrue (fits Char x)) parts.1 (joined-text a b is_a is_b parts.0)

point-in_line : (t : AnyType) (p : ℤ) → is_number t p ≡ true → IsTrue (fits (Point t) (point (line_of t) p))
point-in_line t p h = and_from (same_line (line_of t) (line_of t)) (is_number t p) (same_line-self (line_of t)) h

interval-in_line : (t : AnyType) (i : Ends) → is_interval t i ≡ true → IsTrue (fits (Span t) (interval (line_of t) i))
interval-in_line t i h = and_from (same_line (line_of t) (line_of t)) (is_interval t i) (same_line-self (line_of t)) h

point_or-fits : (place : Place) (t : AnyType) (o : Option ℤ) (w : Value) → ((p : ℤ) → o ≡ Some p → is_number t p ≡ true) →
    point_or place t o ≡ Ok w → IsTrue (fits (Point t) w)
point_or-fits place t None w within e = absurd cc
point_or-fits place t (Some p) w within e =
    subst (λ x. IsTrue (fits (Point t) x)) (let same : point (line_of t) p ≡ w = cc in same) (point-in_line t p (within p refl))

interval_or-fits : (place : Place) (t : AnyType) (o : Option Ends) (w : Value) → ((i : Ends) → o ≡ Some i → is_interval t i ≡ true) →
    interval_or place t o ≡ Ok w → IsTrue (fits (Span t) w)
interval_or-fits place t None w within e = absurd cc
interval_or-fits place t (Some i) w within e =
    subst (λ x. IsTrue (fits (Span t) x)) (let same : interval (line_of t) i ≡ w = cc in same) (interval-in_line t i (within i refl))

-- ---- the parts of values that fit

number_of-fits : (t : AnyType) (v : Value) → IsTrue (fits (Point t) v) → is_number t (number_of v) ≡ true
number_of-fits t (truth b) h = absurd cc
number_of-fits t (text bytes) h = absurd cc
number_of-fits t (point l p) h = and_right (same_line l (line_of t)) (is_number t p) h
number_of-fits t (interval l i) h = absurd cc

pub span_of-fits : (t : AnyType) (v : Value) → IsTrue (fits (Span t) v) → is_interval t (span_of v) ≡ true
span_of-fits t (truth b) h = absurd cc
span_of-fits t (text bytes) h = absurd cc
span_of-fits t (point l p) h = absurd cc
span_of-fits t (interval l i) h = and_right (same_line l (line_of t)) (is_interval t i) h

pub begin-number : (t : AnyType) (i : Ends) → is_interval t i ≡ true → is_number t i.0 ≡ true
begin-number t i h = and_left (is_number t i.0) (is_number t i.1 && int_le i.0 i.1) h

pub end-number : (t : AnyType) (i : Ends) → is_interval t i ≡ true → is_number t i.1 ≡ true
end-number t i h = and_left (is_number t i.1) (int_le i.0 i.1) (and_right (is_number t i.0) (is_number t i.1 && int_le i.0 i.1) h)

begin_of-fits : (t : AnyType) (v : Value) → IsTrue (fits (Span t) v) → IsTrue (fits (Point t) (begin_of v))
begin_of-fits t (truth b) h = absurd cc
begin_of-fits t (text bytes) h = absurd cc
begin_of-fits t (point l p) h = absurd cc
begin_of-fits t (interval l i) h =
    and_from (same_line l (line_of t)) (is_number t i.0) (and_left _ _ h) (begin-number t i (and_right (same_line l (line_of t)) (is_interval t i) h))

end_of-fits : (t : AnyType) (v : Value) → IsTrue (fits (Span t) v) → IsTrue (fits (Point t) (end_of v))
end_of-fits t (truth b) h = absurd cc
end_of-fits t (text bytes) h = absurd cc
end_of-fits t (point l p) h = absurd cc
end_of-fits t (interval l i) h =
    and_from (same_line l (line_of t)) (is_number t i.1) (and_left _ _ h) (end-number t i (and_right (same_line l (line_of t)) (is_interval t i) h))

-- ---- the numbers of answers

some_if : {X : Type 0} (b : Bool) (x q : X) → (if b then Some x else None) ≡ Some q → (b ≡ true) × (x ≡ q)
some_if true x q e = (refl, cc)
some_if false x q e = absurd cc

next-number : (t : AnyType) (p q : ℤ) → is_number t p ≡ true → next_of t p ≡ Some q → is_number t q ≡ true
next-number t p q h e =
    let parts = some_if (int_lt p (last_of t)) (p +ℤ pos 1) q e in
    let before_last = int_lt-lt p (last_of t) parts.0 in
    let low = (is_number-number t p h).0 in
    number-is_number t q (omega (arith, ints, parts.1), omega (arith, ints, parts.1))

prior-number : (t : AnyType) (p q : ℤ) → is_number t p ≡ true → prior_of t p ≡ Some q → is_number t q ≡ true
prior-number t p q h e =
    let parts = some_if (int_lt (first_of t) p) (p -ℤ pos 1) q e in
    let after_first = int_lt-lt (first_of t) p parts.0 in
    let high = (is_number-number t p h).1 in
    number-is_number t q (omega (arith, ints, parts.1), omega (arith, ints, parts.1))

-- ---- the ends of answers

picked : (t : AnyType) (b : Bool) (x y : ℤ) → is_number t x ≡ true → is_number t y ≡ true → is_number t (if b then x else y) ≡ true
picked t true x y h k = h
picked t false x y h k = k

least-number : (t : AnyType) (n : ℤ) (ns : List ℤ) → is_number t n ≡ true → ((x : ℤ) → In x ns → is_number t x ≡ true) → is_number t (fold int_min n ns) ≡ true
least-number t n [] h all = h
least-number t n (x ∷ xs) h all =
    least-number t (int_min n x) xs (picked t (int_lt x n) x n (all x (inl refl)) h) (λ y i. all y (inr i))

greatest-number : (t : AnyType) (n : ℤ) (ns : List ℤ) → is_number t n ≡ true → ((x : ℤ) → In x ns → is_number t x ≡ true) → is_number t (fold int_max n ns) ≡ true
greatest-number t n [] h all = h
greatest-number t n (x ∷ xs) h all =
    greatest-number t (int_max n x) xs (picked t (int_lt x n) n x h (all x (inl refl))) (λ y i. all y (inr i))

interval_of-fits : (t : AnyType) (ns : List ℤ) (i : Ends) → ((x : ℤ) → In x ns → is_number t x ≡ true) → interval_of ns ≡ Some i → is_interval t i ≡ true
interval_of-fits t [] i all e = absurd cc
interval_of-fits t (n ∷ ns) i all e =
    let parts = some_if (are_same int_cmp (members (hull_of n ns)) (n ∷ ns)) (hull_of n ns) i e in
    let first : is_number t n ≡ true = all n (inl refl) in
    let rest : (x : ℤ) → In x ns → is_number t x ≡ true = λ x j. all x (inr j) in
    let low = (fold-int_min_bounds n ns (fold int_min n ns) refl).0 in
    let high = (fold-int_max_bounds n ns (fold int_max n ns) refl).0 in
    subst (λ (j : Ends). is_interval t j ≡ true) parts.1
    (and_from _ _ (least-number t n ns first rest)
    (and_from _ _ (greatest-number t n ns first rest)
    (le-int_le (fold int_min n ns) (fold int_max n ns) (omega (arith, ints)))))

member-number : (t : AnyType) (i : Ends) (x : ℤ) → is_interval t i ≡ true → In x (members i) → is_number t x ≡ true
member-number t i x h j =
    let inside = (In-members i x).0 j in
    let low = (is_number-number t i.0 (begin-number t i h)).0 in
    let high = (is_number-number t i.1 (end-number t i h)).1 in
    number-is_number t x (omega (arith, ints, inside.0), omega (arith, ints, inside.1))

union-fits : (t : AnyType) (i j k : Ends) → is_interval t i ≡ true → is_interval t j ≡ true → union i j ≡ Some k → is_interval t k ≡ true
union-fits t i j k h g e =
    interval_of-fits t (members i ++ members j) k
    (λ x inside. elim ((In-append x (members i) (members j)).0 inside) [ inl m ↦ member-number t i x h m | inr m ↦ member-number t j x g m ]) e

intersect-fits : (t : AnyType) (i j k : Ends) → is_interval t i ≡ true → intersect i j ≡ Some k → is_interval t k ≡ true
intersect-fits t i j k h e =
    interval_of-fits t (filter (has_member j) (members i)) k (λ x inside. member-number t i x h ((In-filter (has_member j) x (members i)).0 inside).0) e

minus-fits : (t : AnyType) (i j k : Ends) → is_interval t i ≡ true → minus i j ≡ Some k → is_interval t k ≡ true
minus-fits t i j k h e =
    interval_of-fits t (filter (λ p. not (has_member j p)) (members i)) k
    (λ x inside. member-number t i x h ((In-filter (λ p. not (has_member j p)) x (members i)).0 inside).0) e

begin_member-number : (t : AnyType) (b : Bool) (p q : ℤ) → is_number t p ≡ true → (if b then next_of t p else Some p) ≡ Some q → is_number t q ≡ true
begin_member-number t true p q h e = next-number t p q h e
begin_member-number t false p q h e = subst (λ n. is_number t n ≡ true) (let same : p ≡ q = cc in same) h

end_member-number : (t : AnyType) (b : Bool) (p q : ℤ) → is_number t p ≡ true → (if b then prior_of t p else Some p) ≡ Some q → is_number t q ≡ true
end_member-number t true p q h e = prior-number t p q h e
end_member-number t false p q h e = subst (λ n. is_number t n ≡ true) (let same : p ≡ q = cc in same) h

ok_if : {X F : Type 0} (b : Bool) (x q : X) (f : F) → (if b then Ok x else Err f) ≡ Ok q → (b ≡ true) × (x ≡ q)
ok_if true x q f e = (refl, cc)
ok_if false x q f e = absurd cc

between-fits : (t : AnyType) (o p : Option ℤ) (i : Ends) → ((q : ℤ) → o ≡ Some q → is_number t q ≡ true) → ((q : ℤ) → p ≡ Some q → is_number t q ≡ true) →
    between o p ≡ Ok i → is_interval t i ≡ true
between-fits t None p i h g e = absurd cc
between-fits t (Some b) None i h g e = absurd cc
between-fits t (Some b) (Some e) i h g given =
    let parts = ok_if (int_le b e) (b, e) i Empty given in
    subst (λ (j : Ends). is_interval t j ≡ true) parts.1 (and_from _ _ (h b refl) (and_from _ _ (g e refl) parts.0))

selected-fits : (t : AnyType) (brackets : Brackets) (b e : ℤ) (i : Ends) → is_number t b ≡ true → is_number t e ≡ true →
    selected (first_of t) (last_of t) brackets b e ≡ Ok i → is_interval t i ≡ true
selected-fits t brackets b e i h g given =
    between-fits t (first_member (last_of t) brackets b) (last_member (first_of t) brackets e) i
    (λ q. begin_member-number t (opens_after brackets) b q h) (λ q. end_member-number t (stops_before brackets) e q g) given

selector_or-fits : (place : Place) (t : AnyType) (r : Result Ends SelectFault) (w : Value) → ((i : Ends) → r ≡ Ok i → is_interval t i ≡ true) →
    selector_or place t r ≡ Ok w → IsTrue (fits (Span t) w)
selector_or-fits place t (Ok i) w within e =
    subst (λ x. IsTrue (fits (Span t) x)) (let same : interval (line_of t) i ≡ w = cc in same) (interval-in_line t i (within i refl))
selector_or-fits place t (Err NoPoint) w within e = absurd cc
selector_or-fits place t (Err Empty) w within e = absurd cc

-- ---- operators

kind_as : (kind k : Kind) (w : Value) → kind ≡ k → IsTrue (fits k w) → IsTrue (fits kind w)
kind_as kind k w e h = subst (λ x. IsTrue (fits x w)) (sym e) h

part_as : (part k : Kind) (v : Value) → part ≡ k → IsTrue (fits part v) → IsTrue (fits k v)
part_as part k v e h = subst (λ x. IsTrue (fits x v)) e h

truth-fits : (place : Place) (b : Bool) (w : Value) (m : Meant) → m ≡ Ok (truth b) → m ≡ Ok w → IsTrue (fits Truth w)
truth-fits place b w m h e = subst (λ x. IsTrue (fits Truth x)) (let same : truth b ≡ w = cc in same) refl

-- an operator gives a value of its kind
pub one_of-fits : (op : OneOp) (place : Place) (part kind : Kind) (v w : Value) → OneKinds op part kind → IsTrue (fits part v) →
    one_of op place v ≡ Ok w → IsTrue (fits kind w)
one_of-fits Not place part kind v w kinds h e = kind_as kind Truth w kinds.1 (truth-fits place (not (is_true v)) w _ refl e)
one_of-fits Negate place part kind v w kinds h e = kind_as kind (Point Integer) w kinds.1 (integer-fits place (neg_ℤ (number_of v)) w e)
one_of-fits BeginOf place part kind v w kinds h e =
    kind_as kind (Point kinds.0) w kinds.2
    (subst (λ x. IsTrue (fits (Point kinds.0) x)) (let same : begin_of v ≡ w = cc in same) (begin_of-fits kinds.0 v (part_as part (Span kinds.0) v kinds.1 h)))
one_of-fits EndOf place part kind v w kinds h e =
    kind_as kind (Point kinds.0) w kinds.2
    (subst (λ x. IsTrue (fits (Point kinds.0) x)) (let same : end_of v ≡ w = cc in same) (end_of-fits kinds.0 v (part_as part (Span kinds.0) v kinds.1 h)))
one_of-fits (PreOf t) place part kind v w kinds h e =
    kind_as kind (Point t) w kinds.1
    (point_or-fits place t _ w (λ q. prior-number t (span_of v).0 q (begin-number t (span_of v) (span_of-fits t v (part_as part (Span t) v kinds.0 h)))) e)
one_of-fits (PostOf t) place part kind v w kinds h e =
    kind_as kind (Point t) w kinds.1
    (point_or-fits place t _ w (λ q. next-number t (span_of v).1 q (end-number t (span_of v) (span_of-fits t v (part_as part (Span t) v kinds.0 h)))) e)
one_of-fits (CountOf t) place part kind v w kinds h e = kind_as kind (Point Integer) w kinds.1 (integer-fits place (pos (count (span_of v))) w e)
one_of-fits (NextOf t) place part kind v w kinds h e =
    kind_as kind (Point t) w kinds.1 (point_or-fits place t _ w (λ q. next-number t (number_of v) q (number_of-fits t v (part_as part (Point t) v kinds.0 h))) e)
one_of-fits (PriorOf t) place part kind v w kinds h e =
    kind_as kind (Point t) w kinds.1 (point_or-fits place t _ w (λ q. prior-number t (number_of v) q (number_of-fits t v (part_as part (Point t) v kinds.0 h))) e)

pub pair_of-fits : (op : PairOp) (place : Place) (left right kind : Kind) (a b w : Value) → PairKinds op left right kind →
    IsTrue (fits left a) → IsTrue (fits right b) → pair_of op place a b ≡ Ok w → IsTrue (fits kind w)
pair_of-fits Add place left right kind a b w kinds h k e = kind_as kind (Point Integer) w kinds.2 (integer-fits place (number_of a +ℤ number_of b) w e)
pair_of-fits Subtract place left right kind a b w kinds h k e = kind_as kind (Point Integer) w kinds.2 (integer-fits place (number_of a -ℤ number_of b) w e)
pair_of-fits Multiply place left right kind a b w kinds h k e = kind_as kind (Point Integer) w kinds.2 (integer-fits place (number_of a *ℤ number_of b) w e)
pair_of-fits Divide place left right kind a b w kinds h k e = kind_as kind (Point Integer) w kinds.2 (quotient-fits place (number_of a) (number_of b) w e)
pair_of-fits Concat place left right kind a b w kinds h k e =
    kind_as kind Char w kinds.2 (joined_text-fits place (bytes_of a) (bytes_of b) w (text-fits a (part_as left Char a kinds.0 h)) (text-fits b (part_as right Char b kinds.1 k)) e)
pair_of-fits (Compare word) place left right kind a b w kinds h k e = kind_as kind Truth w kinds.2 (truth-fits place _ w _ refl e)
pair_of-fits (Allen word t) place left right kind a b w kinds h k e = kind_as kind Truth w kinds.2 (truth-fits place _ w _ refl e)
pair_of-fits (Member t) place left right kind a b w kinds h k e = kind_as kind Truth w kinds.2 (truth-fits place _ w _ refl e)
pair_of-fits (Select brackets t) place left right kind a b w kinds h k e =
    kind_as kind (Span t) w kinds.2
    (selector_or-fits place t (selected (first_of t) (last_of t) brackets (number_of a) (number_of b)) w
    (λ i. selected-fits t brackets (number_of a) (number_of b) i
    (number_of-fits t a (part_as left (Point t) a kinds.0 h)) (number_of-fits t b (part_as right (Point t) b kinds.1 k))) e)
pair_of-fits (UnionOf t) place left right kind a b w kinds h k e =
    kind_as kind (Span t) w kinds.2
    (interval_or-fits place t _ w (λ i. union-fits t (span_of a) (span_of b) i
    (span_of-fits t a (part_as left (Span t) a kinds.0 h)) (span_of-fits t b (part_as right (Span t) b kinds.1 k))) e)
pair_of-fits (IntersectOf t) place left right kind a b w kinds h k e =
    kind_as kind (Span t) w kinds.2
    (interval_or-fits place t _ w (λ i. intersect-fits t (span_of a) (span_of b) i (span_of-fits t a (part_as left (Span t) a kinds.0 h))) e)
pair_of-fits (MinusOf t) place left right kind a b w kinds h k e =
    kind_as kind (Span t) w kinds.2
    (interval_or-fits place t _ w (λ i. minus-fits t (span_of a) (span_of b) i (span_of-fits t a (part_as left (Span t) a kinds.0 h))) e)

-- an expression gives a value of its kind
pub value-fits : (heading : Heading) (row : Row) (e : Expr) (kind : Kind) (v : Value) → IsTrue (fits_heading heading row) →
    IsTyped heading e kind → value e row ≡ Ok v → IsTrue (fits kind v)
value-fits heading row (constant place k u) kind v h typed given =
    subst (λ x. IsTrue (fits kind x)) (let same : u ≡ v = cc in same) typed.1
value-fits heading row (attribute place i) kind v h typed given =
    let found = fits_heading-get heading row i typed.0 kind h typed.1 in
    let got : value_at row i ≡ found.0 = ap (λ o. unwrap_or o (truth false)) found.1 in
    let same : value_at row i ≡ v = cc in
    subst (λ x. IsTrue (fits kind x)) (sym got ∙ same) found.2
value-fits heading row (one op place e) kind v h typed given =
    let parts = then_give-ok (value e row) (one_of op place) v given in
    one_of-fits op place typed.0 kind parts.0 v typed.2 (value-fits heading row e typed.0 parts.0 h typed.1 parts.1) parts.2
value-fits heading row (pair op place l r) kind v h typed given =
    let first = then_give-ok (value l row) (λ a. then_give (value r row) (pair_of op place a)) v given in
    let second = then_give-ok (value r row) (pair_of op place first.0) v first.2 in
    pair_of-fits op place typed.0 typed.1 kind first.0 second.0 v typed.4
    (value-fits heading row l typed.0 first.0 h typed.2 first.1) (value-fits heading row r typed.1 second.0 h typed.3 second.1) second.2
value-fits heading row (and_expr place l r) kind v h typed given =
    let first = then_give-ok (value l row) (λ a. if is_true a then value r row else Ok a) v given in
    subst (λ k. IsTrue (fits k v)) (sym typed.2)
    (elim (chosen (is_true first.0) (value r row) first.0 v first.2) [
      | inl e ↦ value-fits heading row r Truth v h typed.1 e
      | inr e ↦ subst (λ x. IsTrue (fits Truth x)) e (value-fits heading row l Truth first.0 h typed.0 first.1)
    ])
value-fits heading row (or_expr place l r) kind v h typed given =
    let first = then_give-ok (value l row) (λ a. if is_true a then Ok a else value r row) v given in
    subst (λ k. IsTrue (fits k v)) (sym typed.2)
    (elim (chosen_else (is_true first.0) (value r row) first.0 v first.2) [
      | inl e ↦ value-fits heading row r Truth v h typed.1 e
      | inr e ↦ subst (λ x. IsTrue (fits Truth x)) e (value-fits heading row l Truth first.0 h typed.0 first.1)
    ])

-- ---- what the parts of a typed expression are

pub one-takes : (op : OneOp) (part kind : Kind) (v : Value) → OneKinds op part kind → IsTrue (fits part v) → OneTakes op v
one-takes Not part kind v kinds h = part_as part Truth v kinds.0 h
one-takes Negate part kind v kinds h = part_as part (Point Integer) v kinds.0 h
one-takes BeginOf part kind v kinds h = (kinds.0, part_as part (Span kinds.0) v kinds.1 h)
one-takes EndOf part kind v kinds h = (kinds.0, part_as part (Span kinds.0) v kinds.1 h)
one-takes (PreOf t) part kind v kinds h = part_as part (Span t) v kinds.0 h
one-takes (PostOf t) part kind v kinds h = part_as part (Span t) v kinds.0 h
one-takes (CountOf t) part kind v kinds h = part_as part (Span t) v kinds.0 h
one-takes (NextOf t) part kind v kinds h = part_as part (Point t) v kinds.0 h
one-takes (PriorOf t) part kind v kinds h = part_as part (Point t) v kinds.0 h

two_as : (left right k l : Kind) (a b : Value) → left ≡ k → right ≡ l → IsTrue (fits left a) → IsTrue (fits right b) → IsTrue (fits k a) × IsTrue (fits l b)
two_as left right k l a b e d h g = (part_as left k a e h, part_as right l b d g)

pub pair-takes : (op : PairOp) (left right kind : Kind) (a b : Value) → PairKinds op left right kind → IsTrue (fits left a) → IsTrue (fits right b) → PairTakes op a b
pair-takes Add left right kind a b kinds h g = two_as left right (Point Integer) (Point Integer) a b kinds.0 kinds.1 h g
pair-takes Subtract left right kind a b kinds h g = two_as left right (Point Integer) (Point Integer) a b kinds.0 kinds.1 h g
pair-takes Multiply left right kind a b kinds h g = two_as left right (Point Integer) (Point Integer) a b kinds.0 kinds.1 h g
pair-takes Divide left right kind a b kinds h g = two_as left right (Point Integer) (Point Integer) a b kinds.0 kinds.1 h g
pair-takes Concat left right kind a b kinds h g = two_as left right Char Char a b kinds.0 kinds.1 h g
pair-takes (Compare w) left right kind a b kinds h g = (right, part_as left right a kinds.0 h, g)
pair-takes (Allen w t) left right kind a b kinds h g = two_as left right (Span t) (Span t) a b kinds.0 kinds.1 h g
pair-takes (Member t) left right kind a b kinds h g = two_as left right (Point t) (Span t) a b kinds.0 kinds.1 h g
pair-takes (Select e t) left right kind a b kinds h g = two_as left right (Point t) (Point t) a b kinds.0 kinds.1 h g
pair-takes (UnionOf t) left right kind a b kinds h g = two_as left right (Span t) (Span t) a b kinds.0 kinds.1 h g
pair-takes (IntersectOf t) left right kind a b kinds h g = two_as left right (Span t) (Span t) a b kinds.0 kinds.1 h g
pair-takes (MinusOf t) left right kind a b kinds h g = two_as left right (Span t) (Span t) a b kinds.0 kinds.1 h g

-- each part is typed, and the operator takes their values
pub over-attribute : (row : Row) (place : Place) (i : ℕ) → IsTypedOver row (attribute place i) → (v : Value) × (slice_get row i ≡ Some v)
over-attribute row place i typed =
    let found = fits_heading-get typed.0 row i typed.3.0 typed.1 typed.2 typed.3.1 in (found.0, found.1)

pub over-one : (row : Row) (op : OneOp) (place : Place) (e : Expr) → IsTypedOver row (one op place e) → IsTypedOver row e
over-one row op place e typed = (typed.0, typed.3.0, typed.2, typed.3.1)

pub over-one_takes : (row : Row) (op : OneOp) (place : Place) (e : Expr) (v : Value) → IsTypedOver row (one op place e) → value e row ≡ Ok v → OneTakes op v
over-one_takes row op place e v typed given =
    one-takes op typed.3.0 typed.1 v typed.3.2 (value-fits typed.0 row e typed.3.0 v typed.2 typed.3.1 given)

pub over-left : (row : Row) (op : PairOp) (place : Place) (l r : Expr) → IsTypedOver row (pair op place l r) → IsTypedOver row l
over-left row op place l r typed = (typed.0, typed.3.0, typed.2, typed.3.2)

pub over-right : (row : Row) (op : PairOp) (place : Place) (l r : Expr) → IsTypedOver row (pair op place l r) → IsTypedOver row r
over-right row op place l r typed = (typed.0, typed.3.1, typed.2, typed.3.3)

pub over-pair_takes : (row : Row) (op : PairOp) (place : Place) (l r : Expr) (a b : Value) → IsTypedOver row (pair op place l r) →
    value l row ≡ Ok a → value r row ≡ Ok b → PairTakes op a b
over-pair_takes row op place l r a b typed left right =
    pair-takes op typed.3.0 typed.3.1 typed.1 a b typed.3.4
    (value-fits typed.0 row l typed.3.0 a typed.2 typed.3.2 left) (value-fits typed.0 row r typed.3.1 b typed.2 typed.3.3 right)

pub over-and_left : (row : Row) (place : Place) (l r : Expr) → IsTypedOver row (and_expr place l r) → IsTypedOver row l
over-and_left row place l r typed = (typed.0, Truth, typed.2, typed.3.0)

pub over-and_right : (row : Row) (place : Place) (l r : Expr) → IsTypedOver row (and_expr place l r) → IsTypedOver row r
over-and_right row place l r typed = (typed.0, Truth, typed.2, typed.3.1)

pub over-and_truth : (row : Row) (place : Place) (l r : Expr) (a : Value) → IsTypedOver row (and_expr place l r) → value l row ≡ Ok a → IsTrue (fits Truth a)
over-and_truth row place l r a typed given = value-fits typed.0 row l Truth a typed.2 typed.3.0 given

pub over-or_left : (row : Row) (place : Place) (l r : Expr) → IsTypedOver row (or_expr place l r) → IsTypedOver row l
over-or_left row place l r typed = (typed.0, Truth, typed.2, typed.3.0)

pub over-or_right : (row : Row) (place : Place) (l r : Expr) → IsTypedOver row (or_expr place l r) → IsTypedOver row r
over-or_right row place l r typed = (typed.0, Truth, typed.2, typed.3.1)

pub over-or_truth : (row : Row) (place : Place) (l r : Expr) (a : Value) → IsTypedOver row (or_expr place l r) → value l row ≡ Ok a → IsTrue (fits Truth a)
over-or_truth row place l r a typed given = value-fits typed.0 row l Truth a typed.2 typed.3.0 given

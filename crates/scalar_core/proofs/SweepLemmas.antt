-- The value of a sweepable expression is the same at any two places that lie beside the same cuts.
--     swept-alike      at places with a point for each listed attribute
--     swept-alike_within      at places within the row's intervals, by the cuts that part these
--     swept-steady      of one listed attribute, by its cuts within the row's interval
use Rattle.std.specs.Prelude.{◌≡◌, ◌↔◌, ℕ, zero, suc, ℤ, ◌≤ℤ◌, ◌<ℤ◌, Bool, true, false, ◌||◌, cond, List, [], ◌∷◌, ◌++◌, filter, length, set, nat_eq, int_le, int_lt, slice_index, Option, Some, None, Ok, Err, refl, if◌then◌else◌}
use Rattle.std.proofs.Common.{sym, ◌∙◌, ap, ap₂, subst, arith, inl, inr, eq-eqb}
use Rattle.std.proofs.lemmas.Bool.{or_parts, or_cases, and_parts, not-true, eqb-true, eqb-false, cases_Bool, cases_eq, and_from}
use Rattle.std.proofs.lemmas.Int.{ints, by_lt_z}
use Rattle.std.specs.Cmp.{int_cmp_total}
use Rattle.std.specs.FinMap.{int_cmp-IsAntisymmetric}
use Rattle.std.specs.Ordering.{int_cmp}
use Rattle.point_core.specs.declared.fault.Place.{Place}
use Rattle.base_core.specs.Outcomes.{then_give, both}
use Rattle.base_core.specs.Sets.{in_order}
use Rattle.base_core.proofs.SetLemmas.{In, In-in_order}
use Rattle.base_core.proofs.MemberLemmas.{In-filter}
use Rattle.base_core.proofs.IntLemmas.{le-int_le, lt-int_lt}
use Rattle.interval_core.specs.Members.{Span, at_point}
use Rattle.value_core.specs.Attributes.{span_of, value_at, among, with_span, put_span}
use Rattle.value_core.specs.Values.{Value, truth, text, point, interval, Row}
use Rattle.value_core.proofs.PlainLemmas.{set_elsewhere}
use Rattle.scalar_core.specs.declared.operators.OneOp.TheVariants.{BeginOf, EndOf}
use Rattle.scalar_core.specs.declared.operators.PairOp.{PairOp}
use Rattle.scalar_core.specs.Expressions.{Expr, constant, attribute, one, pair, and_expr, or_expr}
use Rattle.scalar_core.specs.Kinds.{IsTypedOver}
use Rattle.scalar_core.specs.Operations.{Meant, is_true, begin_of, end_of, one_of, pair_of}
use Rattle.scalar_core.specs.ScalarValues.{value}
use Rattle.scalar_core.specs.Sweeping.{names_any, is_comparison, swept_attribute, is_swept_by, is_swept, is_atom, unswept, first_place, IsSweepable}
use Rattle.scalar_core.specs.Cuts.{cuts_at, sweeps, side_cuts, atom_cuts, cuts, is_inside, inner_cuts, IsBeside}
use Rattle.scalar_core.specs.AtPlaces.{at_place, AreBeside, AreWithin, IsWithin, IsSteady}
use Rattle.scalar_core.proofs.KindLemmas.{value-fits, over-one, over-left, over-right, over-and_left, over-and_right, over-or_left, over-or_right}
use Rattle.scalar_core.proofs.AlikeLemmas.{IsPartOf, whole, begin, end, left-alike, right-alike}

-- ---- beside cuts

beside_parts : (cs ds : List ℤ) (p q : ℤ) → IsBeside (cs ++ ds) p q → IsBeside cs p q × IsBeside ds p q
beside_parts [] ds p q h = (tt, h)
beside_parts (c ∷ cs) ds p q h = let rest = beside_parts cs ds p q h.1 in ((h.0, rest.0), rest.1)

-- ---- rows at two places

-- two rows that have what the row has, but points of their own as the listed attributes, with no cut between the two
record AreAlike (commalist : List ℕ) (cs : ℕ → List ℤ) (row x y : Row) : Type 0 where
  others : (i : ℕ) → among commalist i ≡ false → (value_at x i ≡ value_at row i) × (value_at y i ≡ value_at row i)
  listed : (i : ℕ) → among commalist i ≡ true → (p : ℤ) × (q : ℤ) × (value_at x i ≡ with_span (value_at row i) (at_point p)) × (value_at y i ≡ with_span (value_at row i) (at_point q)) × IsBeside (cs i) p q

-- fewer cuts
fewer : (commalist : List ℕ) (cs ds : ℕ → List ℤ) (row x y : Row) → ((i : ℕ) (p q : ℤ) → IsBeside (cs i) p q → IsBeside (ds i) p q) → AreAlike commalist cs row x y → AreAlike commalist ds row x y
fewer commalist cs ds row x y less h =
    record {
      others = h.others;
      listed = λ i m. let w = h.listed i m in (w.0, w.1, w.2, w.3, less i w.0 w.1 w.4);
    }

-- ---- expressions that name no listed attribute

pub unnamed : (commalist : List ℕ) (row x : Row) (e : Expr) → ((i : ℕ) → among commalist i ≡ false → value_at x i ≡ value_at row i) → names_any commalist e ≡ false → value e x ≡ value e row
unnamed commalist row x (constant place kind v) same h = refl
unnamed commalist row x (attribute place i) same h = ap (λ v. Ok v) (same i h)
unnamed commalist row x (one op place e) same h = ap (λ m. then_give m (one_of op place)) (unnamed commalist row x e same h)
unnamed commalist row x (pair op place l r) same h =
    let parts = or_parts (names_any commalist l) (names_any commalist r) h in
    ap₂ (λ m n. both m n (pair_of op place)) (unnamed commalist row x l same parts.0) (unnamed commalist row x r same parts.1)
unnamed commalist row x (and_expr place l r) same h =
    let parts = or_parts (names_any commalist l) (names_any commalist r) h in
    ap₂ (λ m n. then_give m (λ a. if is_true a then n else Ok a)) (unnamed commalist row x l same parts.0) (unnamed commalist row x r same parts.1)
unnamed commalist row x (or_expr place l r) same h =
    let parts = or_parts (names_any commalist l) (names_any commalist r) h in
    ap₂ (λ m n. then_give m (λ a. if is_true a then Ok a else n)) (unnamed commalist row x l same parts.0) (unnamed commalist row x r same parts.1)

-- ---- atoms

-- the side of an atom is a part of the value of a listed attribute
record IsSide (commalist : List ℕ) (e : Expr) (i : ℕ) : Type 0 where
  part : Value → Value
  is_part : IsPartOf part
  named : among commalist i ≡ true
  gives : (z : Row) → value e z ≡ Ok (part (value_at z i))

listed_at : (b : Bool) (i j : ℕ) → cond b (Some i) None ≡ Some j → (b ≡ true) × (i ≡ j)
listed_at true i j h = (refl, cc)
listed_at false i j h = absurd cc

side_of : (commalist : List ℕ) (e : Expr) (i : ℕ) → swept_attribute commalist e ≡ Some i → IsSide commalist e i
side_of commalist (attribute place j) i h =
    let at = listed_at (among commalist j) j i h in
    subst (IsSide commalist (attribute place j)) at.1
    (record { part = λ v. v; is_part = whole (λ v. refl); named = at.0; gives = λ z. refl })
side_of commalist (one BeginOf place (attribute there j)) i h =
    let at = listed_at (among commalist j) j i h in
    subst (IsSide commalist (one BeginOf place (attribute there j))) at.1
    (record { part = begin_of; is_part = begin (λ v. refl); named = at.0; gives = λ z. refl })
side_of commalist (one EndOf place (attribute there j)) i h =
    let at = listed_at (among commalist j) j i h in
    subst (IsSide commalist (one EndOf place (attribute there j))) at.1
    (record { part = end_of; is_part = end (λ v. refl); named = at.0; gives = λ z. refl })
side_of commalist _ i h = absurd cc

-- the two sides of a comparison, one of them with the same fault or the same values
both-alike_left : (m : Meant) (a b : Value) (f : Value → Value → Meant) → ((w : Value) → m ≡ Ok w → f a w ≡ f b w) → both (Ok a) m f ≡ both (Ok b) m f
both-alike_left (Ok w) a b f h = h w refl
both-alike_left (Err e) a b f h = refl

both-alike_right : (m : Meant) (a b : Value) (f : Value → Value → Meant) → ((w : Value) → m ≡ Ok w → f w a ≡ f w b) → both m (Ok a) f ≡ both m (Ok b) f
both-alike_right (Ok w) a b f h = h w refl
both-alike_right (Err e) a b f h = refl

-- the cuts by the other side are among those of the attribute
swept_there : (commalist : List ℕ) (i : ℕ) (e other : Expr) → swept_attribute commalist e ≡ Some i → names_any commalist other ≡ false → sweeps commalist i (swept_attribute commalist e) other ≡ true
swept_there commalist i e other at none = rw (at, eq-eqb i i refl, none) refl

cuts_by : (commalist : List ℕ) (i : ℕ) (e other : Expr) (row : Row) (w : Value) → swept_attribute commalist e ≡ Some i → names_any commalist other ≡ false → value other row ≡ Ok w →
    side_cuts commalist i e other row ≡ cuts_at w
cuts_by commalist i e other row w at none given = rw (swept_there commalist i e other at none, given) refl

atom-alike_left : (commalist : List ℕ) (row x y : Row) (op : PairOp) (place : Place) (l r : Expr) (i : ℕ) → IsTypedOver row (pair op place l r) → is_comparison op ≡ true →
    swept_attribute commalist l ≡ Some i → names_any commalist r ≡ false → AreAlike commalist (λ a. atom_cuts commalist a l r row) row x y → value (pair op place l r) x ≡ value (pair op place l r) y
atom-alike_left commalist row x y op place l r i typed is at none alike =
    let side = side_of commalist l i at in
    let w = alike.listed i side.named in
    let v = value_at row i in
    let f = pair_of op place in
    let here : value l x ≡ Ok (side.part (with_span v (at_point w.0))) = side.gives x ∙ ap (λ u. Ok (side.part u)) w.2 in
    let there : value l y ≡ Ok (side.part (with_span v (at_point w.1))) = side.gives y ∙ ap (λ u. Ok (side.part u)) w.3 in
    let other_x : value r x ≡ value r row = unnamed commalist row x r (λ j n. (alike.others j n).0) none in
    let other_y : value r y ≡ value r row = unnamed commalist row y r (λ j n. (alike.others j n).1) none in
    let middle : both (Ok (side.part (with_span v (at_point w.0)))) (value r row) f ≡ both (Ok (side.part (with_span v (at_point w.1)))) (value r row) f =
    both-alike_left (value r row) _ _ f (λ u given.
    left-alike op place typed.3.0 typed.3.1 typed.1 side.part v u w.0 w.1 side.is_part is typed.3.4
    (value-fits typed.0 row r typed.3.1 u typed.2 typed.3.3 given)
    (subst (λ cs. IsBeside cs w.0 w.1) (cuts_by commalist i l r row u at none given) (beside_parts (side_cuts commalist i l r row) (side_cuts commalist i r l row) w.0 w.1 w.4).0)) in
    ap₂ (λ m n. both m n f) here other_x ∙ (middle ∙ ap₂ (λ m n. both m n f) (sym there) (sym other_y))

atom-alike_right : (commalist : List ℕ) (row x y : Row) (op : PairOp) (place : Place) (l r : Expr) (i : ℕ) → IsTypedOver row (pair op place l r) → is_comparison op ≡ true →
    swept_attribute commalist r ≡ Some i → names_any commalist l ≡ false → AreAlike commalist (λ a. atom_cuts commalist a l r row) row x y → value (pair op place l r) x ≡ value (pair op place l r) y
atom-alike_right commalist row x y op place l r i typed is at none alike =
    let side = side_of commalist r i at in
    let w = alike.listed i side.named in
    let v = value_at row i in
    let f = pair_of op place in
    let here : value r x ≡ Ok (side.part (with_span v (at_point w.0))) = side.gives x ∙ ap (λ u. Ok (side.part u)) w.2 in
    let there : value r y ≡ Ok (side.part (with_span v (at_point w.1))) = side.gives y ∙ ap (λ u. Ok (side.part u)) w.3 in
    let other_x : value l x ≡ value l row = unnamed commalist row x l (λ j n. (alike.others j n).0) none in
    let other_y : value l y ≡ value l row = unnamed commalist row y l (λ j n. (alike.others j n).1) none in
    let middle : both (value l row) (Ok (side.part (with_span v (at_point w.0)))) f ≡ both (value l row) (Ok (side.part (with_span v (at_point w.1)))) f =
    both-alike_right (value l row) _ _ f (λ u given.
    right-alike op place typed.3.0 typed.3.1 typed.1 side.part v u w.0 w.1 side.is_part is typed.3.4
    (value-fits typed.0 row l typed.3.0 u typed.2 typed.3.2 given)
    (subst (λ cs. IsBeside cs w.0 w.1) (cuts_by commalist i r l row u at none given) (beside_parts (side_cuts commalist i l r row) (side_cuts commalist i r l row) w.0 w.1 w.4).1)) in
    ap₂ (λ m n. both m n f) other_x here ∙ (middle ∙ ap₂ (λ m n. both m n f) (sym other_y) (sym there))

-- an attribute that is swept by a side
swept_by : (commalist : List ℕ) (o : Option ℕ) (other : Expr) → is_swept_by commalist o other ≡ true → (i : ℕ) × (o ≡ Some i) × (names_any commalist other ≡ false)
swept_by commalist None other h = absurd cc
swept_by commalist (Some i) other h = (i, refl, not-true (names_any commalist other) h)

atom-alike : (commalist : List ℕ) (row x y : Row) (op : PairOp) (place : Place) (l r : Expr) → IsTypedOver row (pair op place l r) → is_atom commalist op l r ≡ true →
    AreAlike commalist (λ a. atom_cuts commalist a l r row) row x y → value (pair op place l r) x ≡ value (pair op place l r) y
atom-alike commalist row x y op place l r typed h alike =
    let parts = and_parts (is_comparison op) (is_swept commalist l r) h in
    elim (or_cases (is_swept_by commalist (swept_attribute commalist l) r) (is_swept_by commalist (swept_attribute commalist r) l) parts.1) [
      | inl k ↦ let w = swept_by commalist (swept_attribute commalist l) r k in atom-alike_left commalist row x y op place l r w.0 typed parts.0 w.1 w.2 alike
      | inr k ↦ let w = swept_by commalist (swept_attribute commalist r) l k in atom-alike_right commalist row x y op place l r w.0 typed parts.0 w.1 w.2 alike
    ]

-- ---- sweepable expressions

both_none : {X : Type 0} (xs ys : List X) → xs ++ ys ≡ [] → (xs ≡ []) × (ys ≡ [])
both_none [] ys h = (refl, h)
both_none (x ∷ xs) ys h = absurd cc

not_listed : (b : Bool) (place : Place) → cond b (place ∷ []) [] ≡ [] → b ≡ false
not_listed true place h = absurd cc
not_listed false place h = refl

none_without : (commalist : List ℕ) (op : PairOp) (l r : Expr) → is_atom commalist op l r ≡ false → cond (is_atom commalist op l r) [] (unswept commalist l ++ unswept commalist r) ≡ [] →
    (unswept commalist l ≡ []) × (unswept commalist r ≡ [])
none_without commalist op l r e h = both_none (unswept commalist l) (unswept commalist r) (sym (ap (λ b. cond b [] (unswept commalist l ++ unswept commalist r)) e) ∙ h)

-- an atom's own cuts are among those of its comparison
atom_among : (b : Bool) (cs ds : List ℤ) (p q : ℤ) → b ≡ true → IsBeside (cond b cs [] ++ ds) p q → IsBeside cs p q
atom_among true cs ds p q is h = (beside_parts cs ds p q h).0
atom_among false cs ds p q is h = absurd cc

-- the value of each part, then that of the whole
alike : (commalist : List ℕ) (row x y : Row) (e : Expr) → IsTypedOver row e → unswept commalist e ≡ [] → AreAlike commalist (λ a. cuts commalist a e row) row x y → value e x ≡ value e y
alike commalist row x y (constant place kind v) typed none h = refl
alike commalist row x y (attribute place i) typed none h =
    let same = h.others i (not_listed (among commalist i) place none) in
    ap (λ v. Ok v) (same.0 ∙ sym same.1)
alike commalist row x y (one op place e) typed none h =
    ap (λ m. then_give m (one_of op place)) (alike commalist row x y e (over-one row op place e typed) none h)
alike commalist row x y (pair op place l r) typed none h =
    elim (is_atom commalist op l r) as (λ b. is_atom commalist op l r ≡ b → value (pair op place l r) x ≡ value (pair op place l r) y) [
      | true ↦ λ is.
          atom-alike commalist row x y op place l r typed is
          (fewer commalist (λ a. cuts commalist a (pair op place l r) row) (λ a. atom_cuts commalist a l r row) row x y
          (λ a p q. atom_among (is_comparison op) (atom_cuts commalist a l r row) (cuts commalist a l row ++ cuts commalist a r row) p q (and_parts (is_comparison op) (is_swept commalist l r) is).0) h)
      | false ↦ λ is.
          let parts = none_without commalist op l r is none in
          let own = λ (a : ℕ). cond (is_comparison op) (atom_cuts commalist a l r row) [] in
          ap₂ (λ m n. both m n (pair_of op place))
          (alike commalist row x y l (over-left row op place l r typed) parts.0
          (fewer commalist (λ a. cuts commalist a (pair op place l r) row) (λ a. cuts commalist a l row) row x y
          (λ a p q g. (beside_parts (cuts commalist a l row) (cuts commalist a r row) p q (beside_parts (own a) (cuts commalist a l row ++ cuts commalist a r row) p q g).1).0) h))
          (alike commalist row x y r (over-right row op place l r typed) parts.1
          (fewer commalist (λ a. cuts commalist a (pair op place l r) row) (λ a. cuts commalist a r row) row x y
          (λ a p q g. (beside_parts (cuts commalist a l row) (cuts commalist a r row) p q (beside_parts (own a) (cuts commalist a l row ++ cuts commalist a r row) p q g).1).1) h))
    ] refl
alike commalist row x y (and_expr place l r) typed none h =
    let parts = both_none (unswept commalist l) (unswept commalist r) none in
    ap₂ (λ m n. then_give m (λ a. if is_true a then n else Ok a))
    (alike commalist row x y l (over-and_left row place l r typed) parts.0
    (fewer commalist (λ a. cuts commalist a (and_expr place l r) row) (λ a. cuts commalist a l row) row x y (λ a p q g. (beside_parts (cuts commalist a l row) (cuts commalist a r row) p q g).0) h))
    (alike commalist row x y r (over-and_right row place l r typed) parts.1
    (fewer commalist (λ a. cuts commalist a (and_expr place l r) row) (λ a. cuts commalist a r row) row x y (λ a p q g. (beside_parts (cuts commalist a l row) (cuts commalist a r row) p q g).1) h))
alike commalist row x y (or_expr place l r) typed none h =
    let parts = both_none (unswept commalist l) (unswept commalist r) none in
    ap₂ (λ m n. then_give m (λ a. if is_true a then Ok a else n))
    (alike commalist row x y l (over-or_left row place l r typed) parts.0
    (fewer commalist (λ a. cuts commalist a (or_expr place l r) row) (λ a. cuts commalist a l row) row x y (λ a p q g. (beside_parts (cuts commalist a l row) (cuts commalist a r row) p q g).0) h))
    (alike commalist row x y r (over-or_right row place l r typed) parts.1
    (fewer commalist (λ a. cuts commalist a (or_expr place l r) row) (λ a. cuts commalist a r row) row x y (λ a p q g. (beside_parts (cuts commalist a l row) (cuts commalist a r row) p q g).1) h))

-- ---- the row at a place

pub span_there : (row : Row) (i : ℕ) (s : Span) → value_at (put_span row i s) i ≡ with_span (value_at row i) s
span_there [] i s = refl
span_there (v ∷ row) zero s = refl
span_there (v ∷ row) (suc i) s = span_there row i s

-- attributes that are not listed stay
pub at_place-other : (commalist : List ℕ) (ps : List ℤ) (row : Row) (i : ℕ) → among commalist i ≡ false → value_at (at_place commalist ps row) i ≡ value_at row i
at_place-other [] ps row i n = refl
at_place-other (a ∷ commalist) [] row i n = refl
at_place-other (a ∷ commalist) (p ∷ ps) row i n =
    let parts = or_parts (nat_eq i a) (among commalist i) n in
    at_place-other commalist ps (put_span row a (at_point p)) i parts.1
    ∙ set_elsewhere row a i (with_span (value_at row a) (at_point p)) (eqb-false i a parts.0)

span_again : (v : Value) (s t : Span) → with_span (with_span v s) t ≡ with_span v t
span_again (truth b) s t = refl
span_again (text bytes) s t = refl
span_again (point l n) s t = refl
span_again (interval l i) s t = refl

-- another row with intervals where the row has them
abbrev HasItsSpans : Row → Row → Type 0
HasItsSpans row x = (i : ℕ) (s : Span) → with_span (value_at x i) s ≡ with_span (value_at row i) s

put-has_its : (row x : Row) (a : ℕ) (s : Span) → HasItsSpans row x → HasItsSpans row (put_span x a s)
put-has_its row x a s has i t =
    elim (cases_eq i a) [
      | inl e ↦ subst (λ j. with_span (value_at (put_span x a s) j) t ≡ with_span (value_at row j) t) (sym e)
          (ap (λ v. with_span v t) (span_there x a s) ∙ (span_again (value_at x a) s t ∙ has a t))
      | inr other ↦ ap (λ v. with_span v t) (set_elsewhere x a i (with_span (value_at x a) s) other) ∙ has i t
    ]

-- a listed attribute has its point
put-point : (commalist : List ℕ) (ps : List ℤ) (row x : Row) (a i : ℕ) (p : ℤ) → HasItsSpans row x → among commalist i ≡ false → i ≡ a →
    value_at (at_place commalist ps (put_span x a (at_point p))) i ≡ with_span (value_at row i) (at_point p)
put-point commalist ps row x a i p has n e =
    at_place-other commalist ps (put_span x a (at_point p)) i n
    ∙ subst (λ j. value_at (put_span x a (at_point p)) j ≡ with_span (value_at row j) (at_point p)) (sym e) (span_there x a (at_point p) ∙ has a (at_point p))

first_of_two : (a b : Bool) → b ≡ false → (a || b) ≡ true → a ≡ true
first_of_two true b n h = refl
first_of_two false b n h = absurd cc

points_of : (commalist : List ℕ) (cs : ℕ → List ℤ) (ps qs : List ℤ) (row x y : Row) → HasItsSpans row x → HasItsSpans row y → AreBeside cs commalist ps qs → (i : ℕ) → among commalist i ≡ true →
    (p : ℤ) × (q : ℤ) × (value_at (at_place commalist ps x) i ≡ with_span (value_at row i) (at_point p)) × (value_at (at_place commalist qs y) i ≡ with_span (value_at row i) (at_point q)) × IsBeside (cs i) p q
points_of [] cs ps qs row x y has_x has_y h i m = absurd cc
points_of (a ∷ commalist) cs [] qs row x y has_x has_y h i m = absurd h
points_of (a ∷ commalist) cs (p ∷ ps) [] row x y has_x has_y h i m = absurd h
points_of (a ∷ commalist) cs (p ∷ ps) (q ∷ qs) row x y has_x has_y h i m =
    elim (cases_Bool (among commalist i)) [
      | inl later ↦
          points_of commalist cs ps qs row (put_span x a (at_point p)) (put_span y a (at_point q)) (put-has_its row x a (at_point p) has_x) (put-has_its row y a (at_point q) has_y) h.1 i later
      | inr last ↦
          let e : i ≡ a = eqb-true i a (first_of_two (nat_eq i a) (among commalist i) last m) in
          (p, q, put-point commalist ps row x a i p has_x last e, put-point commalist qs row y a i q has_y last e, subst (λ j. IsBeside (cs j) p q) (sym e) h.0)
    ]

places-alike : (commalist : List ℕ) (cs : ℕ → List ℤ) (ps qs : List ℤ) (row : Row) → AreBeside cs commalist ps qs → AreAlike commalist cs row (at_place commalist ps row) (at_place commalist qs row)
places-alike commalist cs ps qs row h =
    record {
      others = λ i n. (at_place-other commalist ps row i n, at_place-other commalist qs row i n);
      listed = points_of commalist cs ps qs row row row (λ i s. refl) (λ i s. refl) h;
    }

no_places : (places : List Place) → first_place places ≡ None → places ≡ []
no_places [] h = refl
no_places (p ∷ places) h = absurd cc

-- at two places with no cut between them on any listed attribute the expression has the same value, or the same fault
pub swept-alike : (e : Expr) (row : Row) (commalist : List ℕ) (ps qs : List ℤ) → IsTypedOver row e → IsSweepable commalist e → AreBeside (λ a. cuts commalist a e row) commalist ps qs →
    value e (at_place commalist ps row) ≡ value e (at_place commalist qs row)
swept-alike e row commalist ps qs typed sweepable h =
    alike commalist row (at_place commalist ps row) (at_place commalist qs row) e typed (no_places (unswept commalist e) sweepable) (places-alike commalist (λ a. cuts commalist a e row) ps qs row h)

-- ---- cuts within the row's interval

beside_each : (cs : List ℤ) (p q : ℤ) → ((c : ℤ) → In c cs → (c ≤ℤ p) ↔ (c ≤ℤ q)) → IsBeside cs p q
beside_each [] p q h = tt
beside_each (c ∷ cs) p q h = (h c (inl refl), beside_each cs p q (λ d i. h d (inr i)))

beside_one : (cs : List ℤ) (p q c : ℤ) → IsBeside cs p q → In c cs → (c ≤ℤ p) ↔ (c ≤ℤ q)
beside_one [] p q c h i = absurd i
beside_one (d ∷ cs) p q c h i = elim i [ inl e ↦ subst (λ n. (n ≤ℤ p) ↔ (n ≤ℤ q)) (sym e) h.0 | inr j ↦ beside_one cs p q c h.1 j ]

beside_itself : (cs : List ℤ) (p : ℤ) → IsBeside cs p p
beside_itself cs p = beside_each cs p p (λ c i. (λ h. h, λ h. h))

inside-true : (i : Span) (c : ℤ) → i.0 <ℤ c → c ≤ℤ i.1 → is_inside i c ≡ true
inside-true i c h k = and_from (int_lt i.0 c) (int_le c i.1) (lt-int_lt i.0 c h) (le-int_le c i.1 k)

-- a cut that does not part the interval is between no two of its points
beside_outside : (i : Span) (c p q : ℤ) → IsWithin i p → IsWithin i q → (i.0 <ℤ c → c ≤ℤ i.1 → (c ≤ℤ p) ↔ (c ≤ℤ q)) → (c ≤ℤ p) ↔ (c ≤ℤ q)
beside_outside i c p q in_p in_q h =
    let p0 = in_p.0 in let p1 = in_p.1 in let q0 = in_q.0 in let q1 = in_q.1 in
    by_lt_z i.0 c
    (λ u. by_lt_z i.1 c
    (λ v. (λ k. absurd (omega (arith, ints)), λ k. absurd (omega (arith, ints))))
    (λ v. h u v))
    (λ u. (λ k. omega (arith, ints), λ k. omega (arith, ints)))

-- no inner cut is between two points of the interval, so no cut is
pub inner-beside : (i : Span) (cs : List ℤ) (p q : ℤ) → IsWithin i p → IsWithin i q → IsBeside (in_order int_cmp (filter (is_inside i) cs)) p q → IsBeside cs p q
inner-beside i cs p q in_p in_q h =
    beside_each cs p q (λ c there. beside_outside i c p q in_p in_q (λ u v.
    beside_one (in_order int_cmp (filter (is_inside i) cs)) p q c h
    ((In-in_order int_cmp int_cmp_total int_cmp-IsAntisymmetric c (filter (is_inside i) cs)).1 ((In-filter (is_inside i) c cs).1 (there, inside-true i c u v)))))

inner-are_beside : (e : Expr) (row : Row) (all commalist : List ℕ) (ps qs : List ℤ) → AreWithin row commalist ps → AreWithin row commalist qs → AreBeside (λ a. inner_cuts all a e row) commalist ps qs →
    AreBeside (λ a. cuts all a e row) commalist ps qs
inner-are_beside e row all [] ps qs in_p in_q h = tt
inner-are_beside e row all (a ∷ commalist) [] qs in_p in_q h = absurd h
inner-are_beside e row all (a ∷ commalist) (p ∷ ps) [] in_p in_q h = absurd h
inner-are_beside e row all (a ∷ commalist) (p ∷ ps) (q ∷ qs) in_p in_q h =
    (inner-beside (span_of (value_at row a)) (cuts all a e row) p q in_p.0 in_q.0 h.0, inner-are_beside e row all commalist ps qs in_p.1 in_q.1 h.1)

pub swept-alike_within : (e : Expr) (row : Row) (commalist : List ℕ) (ps qs : List ℤ) → IsTypedOver row e → IsSweepable commalist e → AreWithin row commalist ps → AreWithin row commalist qs →
    AreBeside (λ a. inner_cuts commalist a e row) commalist ps qs → value e (at_place commalist ps row) ≡ value e (at_place commalist qs row)
swept-alike_within e row commalist ps qs typed sweepable in_p in_q h =
    swept-alike e row commalist ps qs typed sweepable (inner-are_beside e row commalist commalist ps qs in_p in_q h)

-- two places that differ in the point at one side
beside_set : (cs : ℕ → List ℤ) (commalist : List ℕ) (ps : List ℤ) (side : ℕ) (p q : ℤ) → length ps ≡ length commalist → IsBeside (cs (slice_index commalist side)) p q →
    AreBeside cs commalist (set ps side p) (set ps side q)
beside_set cs [] ps side p q e h = tt
beside_set cs (a ∷ commalist) [] side p q e h = absurd (omega arith)
beside_set cs (a ∷ commalist) (x ∷ ps) zero p q e h = (h, all_itself commalist ps (omega arith))
  where
    all_itself : (positions : List ℕ) (points : List ℤ) → length points ≡ length positions → AreBeside cs positions points points
    all_itself [] points e = tt
    all_itself (b ∷ positions) [] e = absurd (omega arith)
    all_itself (b ∷ positions) (y ∷ points) e = (beside_itself (cs b) y, all_itself positions points (omega arith))
beside_set cs (a ∷ commalist) (x ∷ ps) (suc side) p q e h = (beside_itself (cs a) x, beside_set cs commalist ps side p q (omega arith) h)

pub swept-steady : (e : Expr) (row : Row) (commalist : List ℕ) (side : ℕ) → IsTypedOver row e → IsSweepable commalist e → IsSteady e row commalist side (inner_cuts commalist (slice_index commalist side) e row)
swept-steady e row commalist side typed sweepable ps p q many in_p in_q h =
    swept-alike e row commalist (set ps side p) (set ps side q) typed sweepable
    (beside_set (λ a. cuts commalist a e row) commalist ps side p q many
    (inner-beside (span_of (value_at row (slice_index commalist side))) (cuts commalist (slice_index commalist side) e row) p q in_p in_q h))

-- What the rules give is typed for the heading.
use Rattle.std.specs.Prelude.{◌≡◌, Bool, true, false, ◌&&◌, Option, Some, None, IfOk, IfSome, option_map, if◌then◌else◌, refl}
use Rattle.std.proofs.Common.{sym, ◌∙◌, ap, subst}
use Rattle.base_core.proofs.BoolLemmas.{and_left, and_right}
use Rattle.point_core.specs.declared.fault.Place.{Place}
use Rattle.point_core.specs.declared.fault.Code.{Code}
use Rattle.point_core.specs.declared.any_type.AnyType.{AnyType}
use Rattle.point_core.specs.declared.any_type.AnyType.TheVariants.{Integer}
use Rattle.point_core.specs.Faults.{OrFault}
use Rattle.utd_syntax.specs.declared.words.ComparisonWord.{ComparisonWord}
use Rattle.utd_syntax.specs.declared.words.ComparisonWord.TheVariants as word
use Rattle.utd_syntax.specs.declared.words.SumWord.{SumWord}
use Rattle.utd_syntax.specs.declared.words.SumWord.TheVariants.{Plus, Minus, Concat}
use Rattle.utd_syntax.specs.declared.words.ProductWord.{ProductWord}
use Rattle.utd_syntax.specs.declared.words.ProductWord.TheVariants.{Times, Divide}
use Rattle.utd_syntax.specs.declared.words.FunctionWord.{FunctionWord}
use Rattle.utd_syntax.specs.declared.words.FunctionWord.TheVariants as function
use Rattle.utd_syntax.specs.declared.words.PairWord.{PairWord}
use Rattle.utd_syntax.specs.declared.words.PairWord.TheVariants as pairing
use Rattle.interval_core.specs.declared.selector.Ends.{Ends}
use Rattle.value_core.specs.declared.kind.Kind.{Kind}
use Rattle.value_core.specs.declared.kind.Kind.TheVariants.{Truth, Char, Point, Span}
use Rattle.value_core.specs.Values.{Heading}
use Rattle.scalar_core.specs.declared.operators.PairOp.{PairOp}
use Rattle.scalar_core.specs.declared.operators.OneOp.TheVariants as one_op
use Rattle.scalar_core.specs.declared.operators.PairOp.TheVariants as pair_op
use Rattle.scalar_core.specs.declared.tree.CompareWord.{CompareWord}
use Rattle.scalar_core.specs.declared.tree.CompareWord.TheVariants as compare
use Rattle.scalar_core.specs.declared.tree.AllenWord.{AllenWord}
use Rattle.scalar_core.specs.declared.tree.AllenWord.TheVariants as allen
use Rattle.scalar_core.specs.KindOf.{same_type, same_kind, compares}
use Rattle.scalar_core.specs.Kinds.{OneKinds, PairKinds, IsTyped}
use Rattle.scalar_typing.specs.Typings.{Typed, value_or}
use Rattle.scalar_typing.specs.Operators.{OneRule, PairRule, when, both_are, span_type, point_type, common, two_spans, two_points, point_and_span, not_rule, negate_rule, argument_type, function_on, function_rule, sum_rule, product_rule, compare_rule, allen_rule, member_rule, comparison_rule, pairing_on, pairing_rule, selector_rule, one_on, one_typed, pair_on, pair_typed}
use Rattle.scalar_core.proofs.KindOfLemmas.{same_type-same, same_kind-same, compares-Compares}

-- ---- kinds that are one

pub both-are : (kind l r : Kind) → both_are kind l r ≡ true → (l ≡ kind) × (r ≡ kind)
both-are kind l r h =
    (same_kind-same l kind (and_left (same_kind l kind) (same_kind r kind) h), same_kind-same r kind (and_right (same_kind l kind) (same_kind r kind) h))

span-type : (kind : Kind) (t : AnyType) → span_type kind ≡ Some t → kind ≡ Span t
span-type (Span u) t e = ap Span (let same : u ≡ t = cc in same)
span-type Truth t e = absurd cc
span-type Char t e = absurd cc
span-type (Point u) t e = absurd cc

point-type : (kind : Kind) (t : AnyType) → point_type kind ≡ Some t → kind ≡ Point t
point-type (Point u) t e = ap Point (let same : u ≡ t = cc in same)
point-type Truth t e = absurd cc
point-type Char t e = absurd cc
point-type (Span u) t e = absurd cc

common-if : (b : Bool) (u v t : AnyType) → same_type u v ≡ b → (if b then Some u else None) ≡ Some t → (Some u ≡ Some t) × (Some v ≡ Some t)
common-if true u v t same e = (e, ap Some (sym (same_type-same u v same)) ∙ e)
common-if false u v t same e = absurd cc

in-common : (o p : Option AnyType) (t : AnyType) → common o p ≡ Some t → (o ≡ Some t) × (p ≡ Some t)
in-common None p t e = absurd cc
in-common (Some u) None t e = absurd cc
in-common (Some u) (Some v) t e = common-if (same_type u v) u v t refl e

-- ---- the rules give operators that take such parts

pub when-holds : {Op : Type 0} (P : Op × Kind → Type 0) (b : Bool) (op : Op) (kind : Kind) → (b ≡ true → P (op, kind)) → IfSome (when b op kind) P
when-holds P true op kind h = h refl
when-holds P false op kind h = tt

pub mapped : {X Y : Type 0} (P : Y → Type 0) (o : Option X) (f : X → Y) → ((x : X) → o ≡ Some x → P (f x)) → IfSome (option_map f o) P
mapped P None f h = tt
mapped P (Some x) f h = h x refl

abbrev OneSound : OneRule → Kind → Type 0
OneSound rule part = IfSome rule (λ found. OneKinds found.0 part found.1)

abbrev PairSound : PairRule → Kind → Kind → Type 0
PairSound rule l r = IfSome rule (λ found. PairKinds found.0 l r found.1)

pub not-sound : (part : Kind) → OneSound (not_rule part) part
not-sound part = when-holds (λ found. OneKinds found.0 part found.1) (same_kind part Truth) one_op.Not Truth (λ h. (same_kind-same part Truth h, refl))

pub negate-sound : (part : Kind) → OneSound (negate_rule part) part
negate-sound part = when-holds (λ found. OneKinds found.0 part found.1) (same_kind part (Point Integer)) one_op.Negate (Point Integer) (λ h. (same_kind-same part (Point Integer) h, refl))

function-of : (w : FunctionWord) (part : Kind) (t : AnyType) → argument_type w part ≡ Some t → OneKinds (function_on w t).0 part (function_on w t).1
function-of function.Begin part t e = (t, span-type part t e, refl)
function-of function.End part t e = (t, span-type part t e, refl)
function-of function.Pre part t e = (span-type part t e, refl)
function-of function.Post part t e = (span-type part t e, refl)
function-of function.Count part t e = (span-type part t e, refl)
function-of function.Next part t e = (point-type part t e, refl)
function-of function.Prior part t e = (point-type part t e, refl)

pub function-sound : (w : FunctionWord) (part : Kind) → OneSound (function_rule w part) part
function-sound w part = mapped (λ found. OneKinds found.0 part found.1) (argument_type w part) (function_on w) (function-of w part)

of-both : (op : PairOp) (kind given l r : Kind) → ((l ≡ kind) × (r ≡ kind) → PairKinds op l r given) → PairSound (when (both_are kind l r) op given) l r
of-both op kind given l r h = when-holds (λ found. PairKinds found.0 l r found.1) (both_are kind l r) op given (λ e. h (both-are kind l r e))

pub sum-sound : (w : SumWord) (l r : Kind) → PairSound (sum_rule w l r) l r
sum-sound Plus l r = of-both pair_op.Add (Point Integer) (Point Integer) l r (λ h. (h.0, h.1, refl))
sum-sound Minus l r = of-both pair_op.Subtract (Point Integer) (Point Integer) l r (λ h. (h.0, h.1, refl))
sum-sound Concat l r = of-both pair_op.Concat Char Char l r (λ h. (h.0, h.1, refl))

pub product-sound : (w : ProductWord) (l r : Kind) → PairSound (product_rule w l r) l r
product-sound Times l r = of-both pair_op.Multiply (Point Integer) (Point Integer) l r (λ h. (h.0, h.1, refl))
product-sound Divide l r = of-both pair_op.Divide (Point Integer) (Point Integer) l r (λ h. (h.0, h.1, refl))

pub compare-sound : (w : CompareWord) (l r : Kind) → PairSound (compare_rule w l r) l r
compare-sound w l r = when-holds (λ found. PairKinds found.0 l r found.1) (same_kind l r && compares w l) (pair_op.Compare w) Truth
    (λ h. (same_kind-same l r (and_left (same_kind l r) (compares w l) h), compares-Compares w l (and_right (same_kind l r) (compares w l) h), refl))

spans : (l r : Kind) (t : AnyType) → two_spans l r ≡ Some t → (l ≡ Span t) × (r ≡ Span t)
spans l r t e = let both = in-common (span_type l) (span_type r) t e in (span-type l t both.0, span-type r t both.1)

points : (l r : Kind) (t : AnyType) → two_points l r ≡ Some t → (l ≡ Point t) × (r ≡ Point t)
points l r t e = let both = in-common (point_type l) (point_type r) t e in (point-type l t both.0, point-type r t both.1)

point-and-span : (l r : Kind) (t : AnyType) → point_and_span l r ≡ Some t → (l ≡ Point t) × (r ≡ Span t)
point-and-span l r t e = let both = in-common (point_type l) (span_type r) t e in (point-type l t both.0, span-type r t both.1)

pub allen-sound : (w : AllenWord) (l r : Kind) → PairSound (allen_rule w l r) l r
allen-sound w l r = mapped (λ found. PairKinds found.0 l r found.1) (two_spans l r) (λ t. (pair_op.Allen w t, Truth)) (λ t e. let h = spans l r t e in (h.0, h.1, refl))

pub member-sound : (l r : Kind) → PairSound (member_rule l r) l r
member-sound l r = mapped (λ found. PairKinds found.0 l r found.1) (point_and_span l r) (λ t. (pair_op.Member t, Truth)) (λ t e. let h = point-and-span l r t e in (h.0, h.1, refl))

pub comparison-sound : (w : ComparisonWord) (l r : Kind) → PairSound (comparison_rule w l r) l r
comparison-sound word.Equal l r = compare-sound compare.Equal l r
comparison-sound word.NotEqual l r = compare-sound compare.NotEqual l r
comparison-sound word.Less l r = compare-sound compare.Less l r
comparison-sound word.LessEqual l r = compare-sound compare.LessEqual l r
comparison-sound word.Greater l r = compare-sound compare.Greater l r
comparison-sound word.GreaterEqual l r = compare-sound compare.GreaterEqual l r
comparison-sound word.In l r = member-sound l r
comparison-sound word.Includes l r = allen-sound allen.Includes l r
comparison-sound word.IncludedIn l r = allen-sound allen.IncludedIn l r
comparison-sound word.Before l r = allen-sound allen.Before l r
comparison-sound word.After l r = allen-sound allen.After l r
comparison-sound word.Meets l r = allen-sound allen.Meets l r
comparison-sound word.Overlaps l r = allen-sound allen.Overlaps l r
comparison-sound word.Merges l r = allen-sound allen.Merges l r
comparison-sound word.Begins l r = allen-sound allen.Begins l r
comparison-sound word.Ends l r = allen-sound allen.Ends l r

pairing-of : (w : PairWord) (l r : Kind) (t : AnyType) → two_spans l r ≡ Some t → PairKinds (pairing_on w t).0 l r (pairing_on w t).1
pairing-of pairing.Union l r t e = let h = spans l r t e in (h.0, h.1, refl)
pairing-of pairing.Intersect l r t e = let h = spans l r t e in (h.0, h.1, refl)
pairing-of pairing.Minus l r t e = let h = spans l r t e in (h.0, h.1, refl)

pub pairing-sound : (w : PairWord) (l r : Kind) → PairSound (pairing_rule w l r) l r
pairing-sound w l r = mapped (λ found. PairKinds found.0 l r found.1) (two_spans l r) (pairing_on w) (pairing-of w l r)

pub selector-sound : (b : Ends) (l r : Kind) → PairSound (selector_rule b l r) l r
selector-sound b l r = mapped (λ found. PairKinds found.0 l r found.1) (two_points l r) (λ t. (pair_op.Select b t, Span t)) (λ t e. let h = points l r t e in (h.0, h.1, refl))

-- ---- expressions of typed parts

-- the expression is typed for the heading, and has the kind
abbrev pub IsTypedPart : Heading → Typed → Type 0
IsTypedPart heading t = IsTyped heading t.0 t.1

-- what is given is typed for the heading
abbrev pub Sound : Heading → OrFault Typed → Type 0
Sound heading t = IfOk t (IsTypedPart heading)

pub or-refused : {X : Type 0} (P : X → Type 0) (at : Place) (code : Code) (o : Option X) → IfSome o P → IfOk (value_or at code o) P
or-refused P at code None h = tt
or-refused P at code (Some x) h = h

pub one-part : (heading : Heading) (at : Place) (rule : Kind → OneRule) (part : Typed) → OneSound (rule part.1) part.1 → IsTypedPart heading part →
    Sound heading (one_typed at rule part)
one-part heading at rule part sound typed = or-refused (IsTypedPart heading) at _ (option_map (one_on at part.0) (rule part.1))
    (mapped (IsTypedPart heading) (rule part.1) (one_on at part.0) (λ found e. (part.1, typed, subst (λ o. OneSound o part.1) e sound)))

pub two-parts : (heading : Heading) (at : Place) (rule : Kind → Kind → PairRule) (l r : Typed) → PairSound (rule l.1 r.1) l.1 r.1 →
    IsTypedPart heading l → IsTypedPart heading r → Sound heading (pair_typed at rule l r)
two-parts heading at rule l r sound left right = or-refused (IsTypedPart heading) at _ (option_map (pair_on at l.0 r.0) (rule l.1 r.1))
    (mapped (IsTypedPart heading) (rule l.1 r.1) (pair_on at l.0 r.0) (λ found e. (l.1, r.1, left, right, subst (λ o. PairSound o l.1 r.1) e sound)))

-- Which kinds the operators of row expressions take, and which they give. Where the parts are not of such kinds there is
-- no operator, and the expression is E12 at the operator, the function word or the opening bracket.
use Rattle.std.specs.Prelude.{Bool, ◌&&◌, Option, Some, None, option_map, if◌then◌else◌}
use Rattle.point_core.specs.declared.fault.Place.{Place}
use Rattle.point_core.specs.declared.fault.Code.TheVariants.{E12}
use Rattle.point_core.specs.declared.any_type.AnyType.{AnyType}
use Rattle.point_core.specs.declared.any_type.AnyType.TheVariants.{Integer}
use Rattle.point_core.specs.Faults.{OrFault}
use Rattle.interval_core.specs.declared.selector.Ends.{Ends}
use Rattle.interval_core.specs.declared.selector.Ends.TheVariants as ends
use Rattle.utd_syntax.specs.declared.words.ComparisonWord.{ComparisonWord}
use Rattle.utd_syntax.specs.declared.words.ComparisonWord.TheVariants as word
use Rattle.utd_syntax.specs.declared.words.SumWord.{SumWord}
use Rattle.utd_syntax.specs.declared.words.SumWord.TheVariants.{Plus, Minus, Concat}
use Rattle.utd_syntax.specs.declared.words.ProductWord.{ProductWord}
use Rattle.utd_syntax.specs.declared.words.ProductWord.TheVariants.{Times, Divide}
use Rattle.utd_syntax.specs.declared.words.BeginBracket.{BeginBracket}
use Rattle.utd_syntax.specs.declared.words.BeginBracket.TheVariants as begins
use Rattle.utd_syntax.specs.declared.words.EndBracket.{EndBracket}
use Rattle.utd_syntax.specs.declared.words.EndBracket.TheVariants as finishes
use Rattle.utd_syntax.specs.declared.words.FunctionWord.{FunctionWord}
use Rattle.utd_syntax.specs.declared.words.FunctionWord.TheVariants as function
use Rattle.utd_syntax.specs.declared.words.PairWord.{PairWord}
use Rattle.utd_syntax.specs.declared.words.PairWord.TheVariants as pairing
use Rattle.value_core.specs.declared.kind.Kind.{Kind}
use Rattle.value_core.specs.declared.kind.Kind.TheVariants.{Truth, Char, Point, Span}
use Rattle.scalar_core.specs.declared.operators.OneOp.{OneOp}
use Rattle.scalar_core.specs.declared.operators.OneOp.TheVariants as one_op
use Rattle.scalar_core.specs.declared.operators.PairOp.{PairOp}
use Rattle.scalar_core.specs.declared.operators.PairOp.TheVariants as pair_op
use Rattle.scalar_core.specs.declared.tree.CompareWord.{CompareWord}
use Rattle.scalar_core.specs.declared.tree.CompareWord.TheVariants as compare
use Rattle.scalar_core.specs.declared.tree.AllenWord.{AllenWord}
use Rattle.scalar_core.specs.declared.tree.AllenWord.TheVariants as allen
use Rattle.scalar_core.specs.Expressions.{Expr, one, pair}
use Rattle.scalar_core.specs.KindOf.{same_type, same_kind, compares}
use Rattle.scalar_typing.specs.Typings.{Typed, value_or}

-- ---- kinds of parts

-- both parts are of the kind
abbrev pub both_are : Kind → Kind → Kind → Bool
both_are kind l r = same_kind l kind && same_kind r kind

-- the point type of an interval, and of a point
abbrev pub span_type : Kind → Option AnyType
span_type (Span t) = Some t
span_type _ = None

abbrev pub point_type : Kind → Option AnyType
point_type (Point t) = Some t
point_type _ = None

-- the type that two have in common
abbrev pub common : Option AnyType → Option AnyType → Option AnyType
common None other = None
common (Some t) None = None
common (Some t) (Some u) = if same_type t u then Some t else None

-- the type of two intervals of one type, of two points of one type, of a point and an interval over its type
abbrev pub two_spans : Kind → Kind → Option AnyType
two_spans l r = common (span_type l) (span_type r)

abbrev pub two_points : Kind → Kind → Option AnyType
two_points l r = common (point_type l) (point_type r)

abbrev pub point_and_span : Kind → Kind → Option AnyType
point_and_span l r = common (point_type l) (span_type r)

-- ---- the table: the operator on parts of these kinds, and the kind that it gives

abbrev pub OneRule : Type 0
OneRule = Option (OneOp × Kind)

abbrev pub PairRule : Type 0
PairRule = Option (PairOp × Kind)

abbrev pub when : {Op : Type 0} → Bool → Op → Kind → Option (Op × Kind)
when holds op kind = if holds then Some (op, kind) else None

-- `NOT`: BOOLEAN gives BOOLEAN; prefix `-`: INTEGER gives INTEGER
abbrev pub not_rule : Kind → OneRule
not_rule part = when (same_kind part Truth) one_op.Not Truth

abbrev pub negate_rule : Kind → OneRule
negate_rule part = when (same_kind part (Point Integer)) one_op.Negate (Point Integer)

-- BEGIN END PRE POST COUNT take an interval; NEXT PRIOR take a point
abbrev pub argument_type : FunctionWord → Kind → Option AnyType
argument_type function.Begin part = span_type part
argument_type function.End part = span_type part
argument_type function.Pre part = span_type part
argument_type function.Post part = span_type part
argument_type function.Count part = span_type part
argument_type function.Next part = point_type part
argument_type function.Prior part = point_type part

-- they give a point of its type; COUNT gives INTEGER
abbrev pub function_on : FunctionWord → AnyType → OneOp × Kind
function_on function.Begin t = (one_op.BeginOf, Point t)
function_on function.End t = (one_op.EndOf, Point t)
function_on function.Pre t = (one_op.PreOf t, Point t)
function_on function.Post t = (one_op.PostOf t, Point t)
function_on function.Count t = (one_op.CountOf t, Point Integer)
function_on function.Next t = (one_op.NextOf t, Point t)
function_on function.Prior t = (one_op.PriorOf t, Point t)

abbrev pub function_rule : FunctionWord → Kind → OneRule
function_rule w part = option_map (function_on w) (argument_type w part)

-- `+` `-` `*` `/`: two of INTEGER give INTEGER; `||`: two of CHAR give CHAR
abbrev pub sum_rule : SumWord → Kind → Kind → PairRule
sum_rule Plus l r = when (both_are (Point Integer) l r) pair_op.Add (Point Integer)
sum_rule Minus l r = when (both_are (Point Integer) l r) pair_op.Subtract (Point Integer)
sum_rule Concat l r = when (both_are Char l r) pair_op.Concat Char

abbrev pub product_rule : ProductWord → Kind → Kind → PairRule
product_rule Times l r = when (both_are (Point Integer) l r) pair_op.Multiply (Point Integer)
product_rule Divide l r = when (both_are (Point Integer) l r) pair_op.Divide (Point Integer)

-- `=` `<>`: two of one kind; `<` `<=` `>` `>=`: two of one kind, CHAR or a point type
abbrev pub compare_rule : CompareWord → Kind → Kind → PairRule
compare_rule w l r = when (same_kind l r && compares w l) (pair_op.Compare w) Truth

-- the nine words of intervals: two of one interval type
abbrev pub allen_rule : AllenWord → Kind → Kind → PairRule
allen_rule w l r = option_map (λ t. (pair_op.Allen w t, Truth)) (two_spans l r)

-- `p IN i`: a point and an interval over its type
abbrev pub member_rule : Kind → Kind → PairRule
member_rule l r = option_map (λ t. (pair_op.Member t, Truth)) (point_and_span l r)

-- each comparison gives BOOLEAN
abbrev pub comparison_rule : ComparisonWord → Kind → Kind → PairRule
comparison_rule word.Equal l r = compare_rule compare.Equal l r
comparison_rule word.NotEqual l r = compare_rule compare.NotEqual l r
comparison_rule word.Less l r = compare_rule compare.Less l r
comparison_rule word.LessEqual l r = compare_rule compare.LessEqual l r
comparison_rule word.Greater l r = compare_rule compare.Greater l r
comparison_rule word.GreaterEqual l r = compare_rule compare.GreaterEqual l r
comparison_rule word.In l r = member_rule l r
comparison_rule word.Includes l r = allen_rule allen.Includes l r
comparison_rule word.IncludedIn l r = allen_rule allen.IncludedIn l r
comparison_rule word.Before l r = allen_rule allen.Before l r
comparison_rule word.After l r = allen_rule allen.After l r
comparison_rule word.Meets l r = allen_rule allen.Meets l r
comparison_rule word.Overlaps l r = allen_rule allen.Overlaps l r
comparison_rule word.Merges l r = allen_rule allen.Merges l r
comparison_rule word.Begins l r = allen_rule allen.Begins l r
comparison_rule word.Ends l r = allen_rule allen.Ends l r

-- UNION INTERSECT MINUS: two of one interval type give the same
abbrev pub pairing_on : PairWord → AnyType → PairOp × Kind
pairing_on pairing.Union t = (pair_op.UnionOf t, Span t)
pairing_on pairing.Intersect t = (pair_op.IntersectOf t, Span t)
pairing_on pairing.Minus t = (pair_op.MinusOf t, Span t)

abbrev pub pairing_rule : PairWord → Kind → Kind → PairRule
pairing_rule w l r = option_map (pairing_on w) (two_spans l r)

-- the brackets of a selector
abbrev pub ends_of : BeginBracket → EndBracket → Ends
ends_of begins.Closed finishes.Closed = ends.Closed
ends_of begins.Closed finishes.Open = ends.ClosedOpen
ends_of begins.Open finishes.Closed = ends.OpenClosed
ends_of begins.Open finishes.Open = ends.Open

-- selectors: two of one point type give the interval type
abbrev pub selector_rule : Ends → Kind → Kind → PairRule
selector_rule e l r = option_map (λ t. (pair_op.Select e t, Span t)) (two_points l r)

-- ---- expressions of typed parts

-- the operator on its part, or on its parts, E12 at its place where there is none
abbrev pub one_on : Place → Expr → OneOp × Kind → Typed
one_on at part found = (one found.0 at part, found.1)

abbrev pub one_typed : Place → (Kind → OneRule) → Typed → OrFault Typed
one_typed at rule part = value_or at E12 (option_map (one_on at part.0) (rule part.1))

abbrev pub pair_on : Place → Expr → Expr → PairOp × Kind → Typed
pair_on at l r found = (pair found.0 at l r, found.1)

abbrev pub pair_typed : Place → (Kind → Kind → PairRule) → Typed → Typed → OrFault Typed
pair_typed at rule l r = value_or at E12 (option_map (pair_on at l.0 r.0) (rule l.1 r.1))

-- AND OR: two of BOOLEAN give BOOLEAN
abbrev pub logic_typed : Place → (Place → Expr → Expr → Expr) → Typed → Typed → OrFault Typed
logic_typed at connected l r = value_or at E12 (when (both_are Truth l.1 r.1) (connected at l.0 r.0) Truth)

-- What the operators of row expressions give: a value, or the fault at the operator's place.
use Rattle.std.specs.Prelude.{ℕ, ℤ, pos, neg_ℤ, ◌+ℤ◌, ◌-ℤ◌, ◌*ℤ◌, int_div, Bool, false, not, List, [], ◌++◌, length, nat_le, Option, Some, None, Result, Ok, Err, if◌then◌else◌}
use Rattle.std.specs.declared.cmp.Ordering.{Ordering}
use Rattle.std.specs.Ordering.{is_eq, is_ne, is_lt, is_le, is_gt, is_ge, int_eq}
use Rattle.point_core.specs.declared.fault.Place.{Place}
use Rattle.point_core.specs.declared.any_type.AnyType.{AnyType}
use Rattle.point_core.specs.declared.any_type.AnyType.TheVariants.{Integer as IntegerType}
use Rattle.point_core.specs.declared.fault.Code.TheVariants.{E30, E31, E32, E33, E34, E36}
use Rattle.point_core.specs.Points.{integers, line_of, first_of, last_of, is_number, next_of, prior_of}
use Rattle.point_core.specs.Faults.{OrFault, fault}
use Rattle.interval_core.specs.Members.{Span, has_member}
use Rattle.interval_core.specs.Comparisons.{includes, included_in, before, after, overlaps, meets, merges, begins, ends}
use Rattle.interval_core.specs.declared.selector.SelectFault.{SelectFault}
use Rattle.interval_core.specs.declared.selector.SelectFault.TheVariants.{NoPoint, Empty}
use Rattle.interval_core.specs.Operators.{count, union, intersect, minus}
use Rattle.interval_core.specs.Selector.{selected}
use Rattle.value_core.specs.Attributes.{span_of}
use Rattle.value_core.specs.Limits.{most_text_bytes}
use Rattle.value_core.specs.Values.{Value, truth, text, point, interval, value_cmp}
use Rattle.scalar_core.specs.declared.operators.OneOp.{OneOp}
use Rattle.scalar_core.specs.declared.operators.OneOp.TheVariants.{Not, Negate, BeginOf, EndOf, PreOf, PostOf, CountOf, NextOf, PriorOf}
use Rattle.scalar_core.specs.declared.operators.PairOp.{PairOp}
use Rattle.scalar_core.specs.declared.operators.PairOp.TheVariants.{Add, Subtract, Multiply, Divide, Concat, Compare, Allen, Member, Select, UnionOf, IntersectOf, MinusOf}
use Rattle.scalar_core.specs.declared.tree.CompareWord.{CompareWord}
use Rattle.scalar_core.specs.declared.tree.CompareWord.TheVariants.{Equal, NotEqual, Less, LessEqual, Greater, GreaterEqual}
use Rattle.scalar_core.specs.declared.tree.AllenWord.{AllenWord}
use Rattle.scalar_core.specs.declared.tree.AllenWord.TheVariants.{Includes, IncludedIn, Before, After, Meets, Overlaps, Merges, Begins, Ends as EndsWith}

-- a value, or the fault that comes in its place
abbrev pub Meant : Type 0
Meant = OrFault Value

-- ---- parts of values; a typed expression never meets the last cases

abbrev pub is_true : Value → Bool
is_true (truth b) = b
is_true _ = false

abbrev pub number_of : Value → ℤ
number_of (point l p) = p
number_of _ = pos 0

abbrev pub bytes_of : Value → List ℕ
bytes_of (text bytes) = bytes
bytes_of _ = []

-- ---- answers

-- the integer, where it has 64 bits
abbrev pub integer : Place → ℤ → Meant
integer place z = if is_number IntegerType z then Ok (point integers z) else Err (fault place E30)

-- the point, where there is one
abbrev pub point_or : Place → AnyType → Option ℤ → Meant
point_or place t None = Err (fault place E32)
point_or place t (Some p) = Ok (point (line_of t) p)

-- the interval, where there is one
abbrev pub interval_or : Place → AnyType → Option Span → Meant
interval_or place t None = Err (fault place E34)
interval_or place t (Some i) = Ok (interval (line_of t) i)

-- the interval of a selector, or the fault that comes: the begin's bracket is looked at first
abbrev pub selector_or : Place → AnyType → Result Span SelectFault → Meant
selector_or place t (Ok i) = Ok (interval (line_of t) i)
selector_or place t (Err NoPoint) = Err (fault place E32)
selector_or place t (Err Empty) = Err (fault place E33)

-- the quotient, cut off towards zero
abbrev pub quotient : Place → ℤ → ℤ → Meant
quotient place a b = if int_eq b (pos 0) then Err (fault place E31) else integer place (int_div a b)

-- the text, where it is not too long
abbrev pub joined_text : Place → List ℕ → Meant
joined_text place bytes = if nat_le (length bytes) most_text_bytes then Ok (text bytes) else Err (fault place E36)

-- ---- operators

abbrev pub compared : CompareWord → Ordering → Bool
compared Equal o = is_eq o
compared NotEqual o = is_ne o
compared Less o = is_lt o
compared LessEqual o = is_le o
compared Greater o = is_gt o
compared GreaterEqual o = is_ge o

abbrev pub related : AllenWord → Span → Span → Bool
related Includes i j = includes i j
related IncludedIn i j = included_in i j
related Before i j = before i j
related After i j = after i j
related Meets i j = meets i j
related Overlaps i j = overlaps i j
related Merges i j = merges i j
related Begins i j = begins i j
related EndsWith i j = ends i j

-- the first and the last point of an interval, on its own line
abbrev pub begin_of : Value → Value
begin_of (interval l i) = point l i.0
begin_of v = v

abbrev pub end_of : Value → Value
end_of (interval l i) = point l i.1
end_of v = v

abbrev pub one_of : OneOp → Place → Value → Meant
one_of Not place v = Ok (truth (not (is_true v)))
one_of Negate place v = integer place (neg_ℤ (number_of v))
one_of BeginOf place v = Ok (begin_of v)
one_of EndOf place v = Ok (end_of v)
one_of (PreOf t) place v = point_or place t (prior_of t (span_of v).0)
one_of (PostOf t) place v = point_or place t (next_of t (span_of v).1)
one_of (CountOf t) place v = integer place (pos (count (span_of v)))
one_of (NextOf t) place v = point_or place t (next_of t (number_of v))
one_of (PriorOf t) place v = point_or place t (prior_of t (number_of v))

abbrev pub pair_of : PairOp → Place → Value → Value → Meant
pair_of Add place a b = integer place (number_of a +ℤ number_of b)
pair_of Subtract place a b = integer place (number_of a -ℤ number_of b)
pair_of Multiply place a b = integer place (number_of a *ℤ number_of b)
pair_of Divide place a b = quotient place (number_of a) (number_of b)
pair_of Concat place a b = joined_text place (bytes_of a ++ bytes_of b)
pair_of (Compare w) place a b = Ok (truth (compared w (value_cmp a b)))
pair_of (Allen w t) place a b = Ok (truth (related w (span_of a) (span_of b)))
pair_of (Member t) place a b = Ok (truth (has_member (span_of b) (number_of a)))
pair_of (Select e t) place a b = selector_or place t (selected (first_of t) (last_of t) e (number_of a) (number_of b))
pair_of (UnionOf t) place a b = interval_or place t (union (span_of a) (span_of b))
pair_of (IntersectOf t) place a b = interval_or place t (intersect (span_of a) (span_of b))
pair_of (MinusOf t) place a b = interval_or place t (minus (span_of a) (span_of b))

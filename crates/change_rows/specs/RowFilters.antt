-- What tells of a row that a condition is FALSE at all of its points.
--     is_safe      whether an expression is seen to have a value on each row
--     row_filter      a condition that is FALSE only where the given one is, and that names no listed attribute
--     stays      whether what a condition gives is other than FALSE
--     AreTold      of none of the rows the row filter stays
use Rattle.std.specs.Prelude.{◌≡◌, ℕ, Bool, true, false, ◌&&◌, cond, List, [], Ok, Err, Option, Some, None}
use Rattle.std.specs.List.{All}
use Rattle.point_core.specs.Faults.{OrFault}
use Rattle.point_core.specs.declared.fault.Place.{Place}
use Rattle.value_core.specs.declared.kind.Kind.{Kind}
use Rattle.value_core.specs.Values.{Row, Heading}
use Rattle.scalar_core.specs.Expressions.{Expr, constant, attribute, one, pair, and_expr, or_expr}
use Rattle.scalar_core.specs.Kinds.{IsTyped}
use Rattle.scalar_core.specs.ScalarValues.{value}
use Rattle.scalar_core.specs.Sweeping.{names_any, is_comparison}
use Rattle.scalar_core.specs.declared.operators.OneOp.{OneOp}
use Rattle.scalar_core.specs.declared.operators.OneOp.TheVariants.{Not, BeginOf, EndOf}
use Rattle.meaning_core.specs.Meanings.{condition}

-- ---- expressions that have a value

-- the expression is typed for some heading
abbrev pub IsTypedSomewhere : Expr → Type 0
IsTypedSomewhere e = (heading : Heading) × (kind : Kind) × IsTyped heading e kind

-- the expression names no attribute
abbrev pub is_closed : Expr → Bool
is_closed (constant place kind v) = true
is_closed (attribute place i) = false
is_closed (one op place e) = is_closed e
is_closed (pair op place l r) = is_closed l && is_closed r
is_closed (and_expr place l r) = is_closed l && is_closed r
is_closed (or_expr place l r) = is_closed l && is_closed r

-- there is no fault
abbrev pub has_value : {X : Type 0} → OrFault X → Bool
has_value (Ok v) = true
has_value (Err e) = false

-- the expression names no attribute and has a value
abbrev pub is_valued : Expr → Bool
is_valued e = is_closed e && has_value (value e [])

-- the operator has no fault
abbrev pub is_faultless : OneOp → Bool
is_faultless Not = true
is_faultless BeginOf = true
is_faultless EndOf = true
is_faultless _ = false

-- the expression is seen to have a value on each row
abbrev pub is_safe : Expr → Bool
is_safe (constant place kind v) = true
is_safe (attribute place i) = true
is_safe (one op place e) = cond (is_faultless op) (is_safe e) (is_valued (one op place e))
is_safe (pair op place l r) = cond (is_comparison op) (is_safe l && is_safe r) (is_valued (pair op place l r))
is_safe (and_expr place l r) = is_safe l && is_safe r
is_safe (or_expr place l r) = is_safe l && is_safe r

-- ---- row filters

-- the row filter of AND, by those of its parts: the right part is asked only where the left one has a value
abbrev pub row_filter_of_and : Place → Bool → Option Expr → Option Expr → Option Expr
row_filter_of_and place false l r = l
row_filter_of_and place true None r = r
row_filter_of_and place true (Some l) None = Some l
row_filter_of_and place true (Some l) (Some r) = Some (and_expr place l r)

abbrev pub if_unnamed : List ℕ → Expr → Option Expr → Option Expr
if_unnamed commalist e otherwise = cond (names_any commalist e) otherwise (Some e)

abbrev pub row_filter : List ℕ → Expr → Option Expr
row_filter commalist (constant place kind v) = if_unnamed commalist (constant place kind v) None
row_filter commalist (attribute place i) = if_unnamed commalist (attribute place i) None
row_filter commalist (one op place e) = if_unnamed commalist (one op place e) None
row_filter commalist (pair op place l r) = if_unnamed commalist (pair op place l r) None
row_filter commalist (and_expr place l r) = if_unnamed commalist (and_expr place l r) (row_filter_of_and place (is_safe l) (row_filter commalist l) (row_filter commalist r))
row_filter commalist (or_expr place l r) = if_unnamed commalist (or_expr place l r) None

-- the row filter of two conditions: FALSE only where both are
abbrev pub row_filter_of_both : Place → Option Expr → Option Expr → Option Expr
row_filter_of_both place None d = None
row_filter_of_both place (Some c) None = None
row_filter_of_both place (Some c) (Some d) = Some (or_expr place c d)

-- ---- rows

-- other than FALSE
abbrev pub stays : OrFault Bool → Bool
stays (Ok b) = b
stays (Err e) = true

-- the row filter is FALSE of each of the rows; without one there are none
abbrev pub AreTold : Option Expr → List Row → Type 0
AreTold None rows = rows ≡ []
AreTold (Some g) rows = All (λ (row : Row). condition g row ≡ Ok false) rows

-- The values that a row has where a row filter is other than FALSE of it, where the row filter tells.
--     required      the value at one position
--     AreRequired      values at some positions
use Rattle.std.specs.Prelude.{◌≡◌, ℕ, Bool, true, false, nat_eq, List, map, Option, Some, None, if◌then◌else◌}
use Rattle.std.specs.Ordering.{eq_by_cmp}
use Rattle.value_core.specs.Values.{Value, Row, value_cmp}
use Rattle.scalar_core.specs.Expressions.{Expr, constant, attribute, one, pair, and_expr, or_expr}
use Rattle.scalar_core.specs.declared.operators.PairOp.{PairOp}
use Rattle.scalar_core.specs.declared.operators.PairOp.TheVariants.{Compare}
use Rattle.scalar_core.specs.declared.tree.CompareWord.TheVariants.{Equal}
use Rattle.change_rows.specs.RowFilters.{is_safe}

-- of the attribute at the position, compared with a constant
abbrev pub required_by_constant : Expr → Option Value
required_by_constant (constant place kind v) = Some v
required_by_constant _ = None

abbrev pub required_by_equal : ℕ → Expr → Expr → Option Value
required_by_equal position (attribute place i) r = if nat_eq i position then required_by_constant r else None
required_by_equal position _ r = None

abbrev pub if_equal : PairOp → Option Value → Option Value
if_equal (Compare Equal) v = v
if_equal _ v = None

-- of AND, by those of its parts: that of the right part counts where the left one has a value
abbrev pub required_by_and : Option Value → Bool → Option Value → Option Value
required_by_and (Some l) safe r = Some l
required_by_and None true r = r
required_by_and None false r = None

-- of OR, where both of its parts have the same
abbrev pub required_by_or : Option Value → Option Value → Option Value
required_by_or None r = None
required_by_or (Some l) None = None
required_by_or (Some l) (Some r) = if eq_by_cmp value_cmp l r then Some l else None

abbrev pub required : ℕ → Expr → Option Value
required position (constant place kind v) = None
required position (attribute place i) = None
required position (one op place e) = None
required position (pair op place l r) = if_equal op (required_by_equal position l r)
required position (and_expr place l r) = required_by_and (required position l) (is_safe l) (required position r)
required position (or_expr place l r) = required_by_or (required position l) (required position r)

-- each of the values is required at its position
abbrev pub AreRequired : Expr → List ℕ → Row → Type 0
AreRequired g positions values = map (λ i. required i g) positions ≡ map (λ v. Some v) values

-- The value of an expression on a row, or the first fault in the order: left part, right part, operator.
use Rattle.std.specs.Prelude.{Ok, if◌then◌else◌}
use Rattle.base_core.specs.Outcomes.{then_give, both}
use Rattle.value_core.specs.Attributes.{value_at}
use Rattle.value_core.specs.Values.{Row}
use Rattle.scalar_core.specs.Expressions.{Expr, constant, attribute, one, pair, and_expr, or_expr}
use Rattle.scalar_core.specs.Operations.{Meant, is_true, one_of, pair_of}

-- the right part of AND and OR is evaluated only where the left does not decide
abbrev pub value : Expr → Row → Meant
value (constant place kind v) row = Ok v
value (attribute place i) row = Ok (value_at row i)
value (one op place e) row = then_give (value e row) (one_of op place)
value (pair op place l r) row = both (value l row) (value r row) (pair_of op place)
value (and_expr place l r) row = then_give (value l row) (λ a. if is_true a then value r row else Ok a)
value (or_expr place l r) row = then_give (value l row) (λ a. if is_true a then Ok a else value r row)

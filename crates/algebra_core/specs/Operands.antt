-- The relations of operands.
--     held, held_in      the relation of an operand, and of an answer that gives one
--     IsKept      what stands for a name where it is kept
use Rattle.std.specs.Prelude.{◌≡◌, ◌≤◌, ℕ, length, Option, Some, None, Result, Ok, Err}
use Rattle.point_core.specs.declared.fault.Stop.{Stop}
use Rattle.value_core.specs.Values.{Name, Relation, most_rows}
use Rattle.tree_core.specs.Relvars.{PlainRelvar, base, view, log}
use Rattle.algebra_core.specs.declared.operand.Operand.{Operand}
use Rattle.algebra_core.specs.declared.operand.Operand.TheVariants.{Made, Kept}
use Rattle.algebra_core.specs.declared.scope.Scope.{Scope}
use Rattle.algebra_core.specs.Scopes.{with_of, value_of, current, stored_rows}

abbrev pub held : Operand → Relation
held (Made relation) = relation
held (Kept relation) = relation.now

abbrev pub held_in : Result Operand Stop → Result Relation Stop
held_in (Ok operand) = Ok (held operand)
held_in (Err stop) = Err stop

-- the value of a base relvar, or the one that stands for it; the rows that are stored of a view; none of a log
abbrev pub kept_value : Scope → Name → ℕ → PlainRelvar → Option Relation
kept_value s name at (base old constraints) = Some (current (with_of s) (value_of s) name old)
kept_value s name at (view t kind) = stored_rows s at t kind
kept_value s name at (log of side last value) = None

-- the relation stands for the name of the relvar at the place, and has not too many rows
pub record IsKept (s : Scope) (name : Name) (at : ℕ) (r : PlainRelvar) (relation : Relation) : Type 0 where
  pub is : kept_value s name at r ≡ Some relation
  pub few : length relation.rows ≤ most_rows

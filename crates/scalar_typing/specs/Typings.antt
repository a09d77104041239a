-- What typing gives: a typed part, or the refusal that comes in its place.
use Rattle.std.specs.Prelude.{Option, Some, None, Ok, Err}
use Rattle.base_core.specs.Outcomes.{then_give}
use Rattle.point_core.specs.declared.fault.Place.{Place}
use Rattle.point_core.specs.declared.fault.Code.{Code}
use Rattle.point_core.specs.Faults.{OrFault, fault}
use Rattle.value_core.specs.declared.kind.Kind.{Kind}
use Rattle.scalar_core.specs.Expressions.{Expr, read}
use Rattle.scalar_typing.specs.declared.typed.Typed.{Typed as TypedTree}

-- an expression, and the kind of its values
abbrev pub Typed : Type 0
Typed = Expr × Kind

-- f of the value; a refusal stays
infixl 10 ◌>>=◌
abbrev pub ◌>>=◌ : {X Y : Type 0} → OrFault X → (X → OrFault Y) → OrFault Y
x >>= f = then_give x f

-- a refusal with this code at this place
abbrev pub refused : {X : Type 0} → Place → Code → OrFault X
refused place code = Err (fault place code)

-- the value, or a refusal where there is none
abbrev pub value_or : {X : Type 0} → Place → Code → Option X → OrFault X
value_or place code None = refused place code
value_or place code (Some x) = Ok x

-- a typed tree as plain data
abbrev pub typed : TypedTree → Typed
typed t = (read t.scalar, t.kind)

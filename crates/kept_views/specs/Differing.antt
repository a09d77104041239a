-- Operands of a stored view before and after a change, where it is told what each gains and loses.
--     IsDifference      what one relation gains and loses that becomes another one
--     IsDifferenceIf      the same of operands that there may not be
use Rattle.std.specs.Prelude.{◌≡◌, Option, Some, None}
use Rattle.value_core.specs.Values.{Relation}
use Rattle.kept_views.specs.Kept.{IsMoved}
use Rattle.kept_views.specs.declared.group_moves.Moved.{Moved}

-- the new relation has the old one's heading, and the rows that come and go are told; where none are told, it is the old one
abbrev pub IsDifference : Relation → Relation → Option Moved → Type 0
IsDifference old new None = new ≡ old
IsDifference old new (Some m) = (old.heading ≡ new.heading) × IsMoved old.heading old.rows new.rows m

-- there is an operand before and after, or none, and then nothing is told
abbrev pub IsDifferenceIf : Option Relation → Option Relation → Option Moved → Type 0
IsDifferenceIf None None None = Unit {0}
IsDifferenceIf None None (Some m) = ⊥
IsDifferenceIf None (Some new) d = ⊥
IsDifferenceIf (Some old) None d = ⊥
IsDifferenceIf (Some old) (Some new) d = IsDifference old new d

-- How a refusal passes upward.
use Rattle.value_core.specs.declared.refuse.RowsRefuse.{RowsRefuse}
use Rattle.value_core.specs.declared.refuse.RowsRefuse.TheVariants.{TooMany as TooManyRows, Memory as RowsMemory}
use Rattle.value_core.specs.declared.refuse.RelationRefuse.{RelationRefuse}
use Rattle.value_core.specs.declared.refuse.RelationRefuse.TheVariants.{TooMany, Memory as RelationMemory}
use Rattle.value_core.specs.declared.refuse.Refuse.{Refuse}
use Rattle.value_core.specs.declared.refuse.Refuse.TheVariants.{At, Memory}
use Rattle.point_core.specs.declared.fault.Stop.{Stop}
use Rattle.point_core.specs.declared.fault.Stop.TheVariants.{Fault as StopFault, Memory as StopMemory}

-- a fault keeps its place and code
abbrev pub refusal_of : Stop → Refuse
refusal_of (StopFault fault) = At fault
refusal_of StopMemory = Memory

-- rows that fit are refused alike where it is not known that they do
abbrev pub relation_refusal_of : RowsRefuse → RelationRefuse
relation_refusal_of TooManyRows = TooMany
relation_refusal_of RowsMemory = RelationMemory

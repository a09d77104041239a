-- What the operators answer.
--     IsAnswer, IsRefusal      a relation with at most 100,000 rows, or why there is none
--     Answers      of a call that evaluates: a value, the fault that comes in its place, or want of memory
--     under      rows under a heading, or the fault that comes in their place
use Rattle.std.specs.Prelude.{◌≡◌, ◌≤◌, ◌<◌, List, length, Result, Ok, Err}
use Rattle.base_core.specs.Outcomes.{then_give}
use Rattle.point_core.specs.Faults.{OrFault}
use Rattle.point_core.specs.declared.fault.Stop.{Stop}
use Rattle.point_core.specs.declared.fault.Stop.TheVariants.{Fault as Faulted, Memory as OfMemory}
use Rattle.value_core.specs.Values.{Row, Heading, Relation, most_rows}
use Rattle.value_core.specs.declared.refuse.RowsRefuse.{RowsRefuse}
use Rattle.value_core.specs.declared.refuse.RowsRefuse.TheVariants.{TooMany, Memory}

-- the relation has the heading and the rows, which are not too many
pub record IsAnswer (heading : Heading) (rows : List Row) (relation : Relation) : Type 0 where
  pub few : length rows ≤ most_rows
  pub is : relation ≡ record { heading = heading; rows = rows }

-- rows that fit are refused only where they are too many
abbrev pub IsRefusal : List Row → RowsRefuse → Type 0
IsRefusal rows TooMany = most_rows < length rows
IsRefusal rows Memory = Unit {0}

-- the answer is what is meant, or want of memory
abbrev pub Answers : {A : Type 0} → Result A Stop → OrFault A → Type 0
Answers (Ok v) meant = meant ≡ Ok v
Answers (Err (Faulted f)) meant = meant ≡ Err f
Answers (Err OfMemory) meant = Unit {0}

-- the relation of the heading with the rows, or the fault
abbrev pub under : Heading → OrFault (List Row) → OrFault Relation
under heading rows = then_give rows (λ list. Ok (record { heading = heading; rows = list }))

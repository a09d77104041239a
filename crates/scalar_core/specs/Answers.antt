-- What an evaluation answers: a value, the fault that comes in its place, or want of memory.
use Rattle.std.specs.Prelude.{◌≡◌, Result, Ok, Err}
use Rattle.point_core.specs.declared.fault.Fault.{Fault}
use Rattle.point_core.specs.declared.fault.Stop.{Stop}
use Rattle.point_core.specs.declared.fault.Stop.TheVariants.{Fault as Faulted, Memory as OfMemory}
use Rattle.point_core.specs.Faults.{OrFault}

-- the answer, with its value seen as plain data
abbrev pub seen : {V X : Type 0} → (V → X) → Result V Fault → OrFault X
seen plain (Ok v) = Ok (plain v)
seen plain (Err f) = Err f

-- the answer is what is meant, or want of memory
abbrev pub Gives : {V X : Type 0} → (V → X) → Result V Stop → OrFault X → Type 0
Gives plain (Ok v) meant = meant ≡ Ok (plain v)
Gives plain (Err (Faulted f)) meant = meant ≡ Err f
Gives plain (Err OfMemory) meant = Unit {0}

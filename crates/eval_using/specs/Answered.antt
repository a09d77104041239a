-- What a call may answer that need not give a value.
--     AnswersIf      of a call that evaluates: nothing, a value, the fault that comes in its place, or want of memory
use Rattle.std.specs.Prelude.{◌≡◌, Result, Ok, Err, Option, Some, None}
use Rattle.point_core.specs.Faults.{OrFault}
use Rattle.point_core.specs.declared.fault.Stop.{Stop}
use Rattle.point_core.specs.declared.fault.Stop.TheVariants.{Fault as Faulted, Memory as OfMemory}

-- the answer, if there is one, is what is meant, or want of memory
abbrev pub AnswersIf : {A : Type 0} → Result (Option A) Stop → OrFault A → Type 0
AnswersIf (Ok (Some v)) meant = meant ≡ Ok v
AnswersIf (Ok None) meant = Unit {0}
AnswersIf (Err (Faulted f)) meant = meant ≡ Err f
AnswersIf (Err OfMemory) meant = Unit {0}

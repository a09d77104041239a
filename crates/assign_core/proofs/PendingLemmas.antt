-- New values of base relvars that are not checked yet.
--     value_stopped, gives_stopped      there are none
--     values_refused, values_admitted      they are refused, or stand ready
use Rattle.std.proofs.Common.{◌≡◌, sym, ap, ◌∙◌, Result, Ok, Err}
use Rattle.std.specs.Prelude.{IfOk}
use Rattle.base_core.specs.Outcomes.{then_give}
use Rattle.point_core.specs.Faults.{OrFault}
use Rattle.point_core.specs.declared.fault.Stop.{Stop}
use Rattle.point_core.specs.declared.fault.Stop.TheVariants.{Fault as Faulted, Memory as OfMemory}
use Rattle.value_core.specs.declared.refuse.Refuse.{Refuse}
use Rattle.value_core.specs.Refusals.{refusal_of}
use Rattle.value_core.specs.Values.{Relation}
use Rattle.relation_core.specs.Answers.{Answers}
use Rattle.scalar_core.specs.Answers.{Gives}
use Rattle.tree_core.specs.Relvars.{Entries}
use Rattle.assign_core.specs.Assignments.{kept_or_refused, of_values, IsRefusedFor}
use Rattle.assign_core.specs.declared.exchange.Ready.{Ready}
use Rattle.assign_core.specs.Exchanges.{with_ready}

-- the value that there is not
pub value_stopped : (m : OrFault Relation) (k : Relation → OrFault Entries) (stop : Stop) → Answers {A = Relation} (Err stop) m → Answers {A = Entries} (Err stop) (then_give m k)
value_stopped m k (Faulted f) told = ap (λ (r : OrFault Relation). then_give r k) told
value_stopped m k OfMemory told = tt

pub gives_stopped : {V : Type 0} (plain : V → Entries) (m : OrFault Entries) (stop : Stop) → Gives plain (Err stop) m → Answers {A = Entries} (Err stop) m
gives_stopped plain m (Faulted f) told = told
gives_stopped plain m OfMemory told = tt

-- the values that there are not
pub values_refused : (m : OrFault Entries) (stop : Stop) → Answers {A = Entries} (Err stop) m → IsRefusedFor (refusal_of stop) (of_values m)
values_refused m (Faulted f) told = ap of_values told
values_refused m OfMemory told = tt

-- what stands ready is what is meant
pub values_admitted : (r : Result Ready Refuse) (es new : Entries) (m : OrFault Entries) → m ≡ Ok new → IfOk r (λ z. with_ready z es ≡ new) → IfOk r (λ z. kept_or_refused new ≡ Ok new)
    → IfOk r (λ z. of_values m ≡ Ok (with_ready z es))
values_admitted (Ok z) es new m e made told = ap of_values e ∙ (told ∙ ap Ok (sym made))
values_admitted (Err refuse) es new m e made told = tt

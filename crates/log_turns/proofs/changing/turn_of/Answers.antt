use Rattle.std.proofs.Common.{◌≡◌, ap, subst, w64, to_z, of_z}
use Rattle.std.proofs.lemmas.Int.{to_z-of_z}
use Rattle.value_core.specs.declared.refuse.RowsRefuse.TheVariants.{TooMany}
use Rattle.value_core.specs.Values.{Relation}
use Rattle.relation_core.specs.Answers.{IsRefusal}
use Rattle.log_times.specs.Answers.{IsTurnOf}
use Rattle.log_times.specs.Turns.{gained}
use Rattle.log_turns.proofs.ChangingLemmas.{is_change, no_refusal}
use Rattle.log_turns.proofs.changing.turn_of.Goals as goal

pub returns-in-Ok : goal.returns-in-Ok
returns-in-Ok c =
    let n : to_z w64 (of_z w64 c.args.number) ≡ c.args.number = to_z-of_z w64 c.args.number c.ranges.number in
    let is : IsTurnOf c.args.log.now.side c.args.number c.args.come.now c.args.gone.now c.args.log.now.stored c.in-Ok.turn =
    subst (λ T. T) (λ t. IsTurnOf (c.side.ensures t) (n t) c.args.come.now c.args.gone.now (c.stored.ensures.rows t) c.in-Ok.turn) c.in-Ok.ensures in
    is_change c.args.log.now c.args.come.now c.args.gone.now c.args.number c.requires.next c.requires.few c.in-Ok.turn is

pub unreachable-requires : goal.unreachable-requires
unreachable-requires c =
    let n : to_z w64 (of_z w64 c.args.number) ≡ c.args.number = to_z-of_z w64 c.args.number c.ranges.number in
    let said = subst (λ e. IsRefusal (gained c.side.result (to_z w64 (of_z w64 c.args.number)) c.args.come.now.rows c.args.gone.now.rows c.stored.result.now.rows) e) c.in-Err-TooMany.field-0-is c.in-Err-TooMany.ensures in
    no_refusal c.args.log.now.side c.args.number c.args.come.now.rows c.args.gone.now.rows c.args.log.now.stored.rows c.requires.few
    (subst (λ T. T) (λ t. IsRefusal (gained (c.side.ensures t) (n t) c.args.come.now.rows c.args.gone.now.rows (ap (λ (r : Relation). r.rows) c.stored.ensures.rows t)) TooMany) said)

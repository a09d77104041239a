use Rattle.std.proofs.Common.{◌≡◌, ap, ap₂, sym, subst, ◌∙◌, w64, to_z, of_z, MatchResult}
use Rattle.std.proofs.lemmas.Int.{to_z-of_z}
use Rattle.value_core.specs.Values.{Relation, IsRelation}
use Rattle.relation_core.specs.Answers.{IsRefusal}
use Rattle.relation_core.specs.Operators.{subtracted}
use Rattle.log_times.specs.Answers.{IsTurnOf}
use Rattle.log_times.specs.Logs.{standing}
use Rattle.log_times.specs.Turns.{gained}
use Rattle.log_turns.proofs.TurnedLemmas.{exact_as, turn_answer}
use Rattle.log_turns.proofs.exchange.turn_to.Goals as goal

pub turned-requires-clause-exact : goal.turned-requires-clause-exact
turned-requires-clause-exact c =
    exact_as c.in_ok-before.before.rows (standing c.side.result c.stored.result.now.rows) c.args.now.now.rows c.in_ok-come.come.rows c.in_ok-gone.gone.rows c.in_ok-come.ensures.1 c.in_ok-gone.ensures.1
    (c.in_ok-before.ensures.rows ∙ ap₂ (λ s (r : Relation). standing s r.rows) (sym c.side.ensures) (sym c.stored.ensures.rows))

pub returns : goal.returns
returns c =
    let n : to_z w64 (of_z w64 c.args.number) ≡ c.args.number = to_z-of_z w64 c.args.number c.ranges.number in
    let came : IsRelation c.in_ok-come.come = subst IsRelation c.come.view_is c.come.invariant in
    let comes : c.in_ok-come.come.rows ≡ subtracted c.args.now.now.rows (standing c.args.log.now.side c.args.log.now.stored.rows) = c.in_ok-come.ensures.1 ∙ ap (subtracted c.args.now.now.rows) c.in_ok-before.ensures.rows in
    let goes : c.in_ok-gone.gone.rows ≡ subtracted (standing c.args.log.now.side c.args.log.now.stored.rows) c.args.now.now.rows = c.in_ok-gone.ensures.1 ∙ ap (λ l. subtracted l c.args.now.now.rows) c.in_ok-before.ensures.rows in
    let said : MatchResult c.turned.result (IsTurnOf c.args.log.now.side c.args.number c.in_ok-come.come c.in_ok-gone.gone c.args.log.now.stored)
    (IsRefusal (gained c.args.log.now.side c.args.number c.in_ok-come.come.rows c.in_ok-gone.gone.rows c.args.log.now.stored.rows)) =
    subst (λ T. T) (λ t. MatchResult c.turned.result (IsTurnOf (c.side.ensures t) (n t) c.in_ok-come.come c.in_ok-gone.gone (c.stored.ensures.rows t))
    (IsRefusal (gained (c.side.ensures t) (n t) c.in_ok-come.come.rows c.in_ok-gone.gone.rows (ap (λ (r : Relation). r.rows) c.stored.ensures.rows t)))) c.turned.ensures in
    turn_answer c.args.log.now c.args.now.now c.args.number c.in_ok-come.come c.in_ok-gone.gone c.stored.ensures.log c.in_ok-before.ensures.stored c.in_ok-before.ensures.relvar came c.requires.heading c.in_ok-come.ensures.0
    c.requires.first c.requires.next c.requires.last comes goes c.turned.result said

use Rattle.std.proofs.Common.{◌≡◌, List, ap, sym, subst, ◌∙◌, IsTrue, w64, to_z, of_z}
use Rattle.std.proofs.lemmas.Int.{to_z-of_z}
use Rattle.value_core.specs.Relations.{all_fit}
use Rattle.value_core.specs.Values.{Row, Heading, Relation, rows_of}
use Rattle.log_times.specs.Logs.{closed}
use Rattle.log_times.proofs.AnswerLemmas.{read_fit, read_is}
use Rattle.log_times.proofs.closing.closed.Goals as goal

pub of_few-requires-clause-fitting : goal.of_few-requires-clause-fitting
of_few-requires-clause-fitting c =
    let n : to_z w64 (of_z w64 c.args.number) ≡ c.args.number = to_z-of_z w64 c.args.number c.ranges.number in
    let items : c.in_ok-rows.rows.items ≡ closed c.args.side c.args.number c.args.log.now.rows =
    c.in_ok-rows.ensures ∙ (λ t. closed c.args.side (n t) (c.rows.ensures.rows t)) in
    let head : c.in_ok-heading.heading ≡ c.args.log.now.heading = c.in_ok-heading.ensures ∙ c.heading.ensures.heading in
    subst (λ (h : Heading). IsTrue (all_fit h c.in_ok-rows.rows.items)) (sym head)
    (subst (λ (l : List Row). IsTrue (all_fit c.args.log.now.heading l)) (sym items) (read_fit c.args.log.now c.args.side c.args.number c.rows.ensures.relation c.requires.heading c.requires.stored))

pub returns : goal.returns
returns c =
    let n : to_z w64 (of_z w64 c.args.number) ≡ c.args.number = to_z-of_z w64 c.args.number c.ranges.number in
    let items : c.in_ok-rows.rows.items ≡ closed c.args.side c.args.number c.args.log.now.rows =
    c.in_ok-rows.ensures ∙ (λ t. closed c.args.side (n t) (c.rows.ensures.rows t)) in (
      ap (λ (r : Relation). r.heading) c.in_ok-relation.ensures ∙ (c.in_ok-heading.ensures ∙ c.heading.ensures.heading),
      ap (λ (r : Relation). r.rows) c.in_ok-relation.ensures ∙ (ap (λ (l : List Row). rows_of l) items ∙ read_is c.args.log.now c.args.side c.args.number c.rows.ensures.relation c.requires.heading c.requires.stored),
    )

use Rattle.std.proofs.Common.{ap, ◌∙◌}
use Rattle.value_core.specs.Values.{Relation}
use Rattle.relation_core.proofs.FilterLemmas.{rows_ascend}
use Rattle.u_constraints.proofs.SearchLemmas.{found, found_few, found_fit}
use Rattle.u_constraints.proofs.search.rows_in_front.Goals as goal

pub relation_of-requires-clause-fitting : goal.relation_of-requires-clause-fitting
relation_of-requires-clause-fitting c =
    found_fit c.in_ok-heading.heading c.args.many.now c.args.keys.now c.in_ok-rows.rows.items c.heading.ensures.relation (c.in_ok-heading.ensures ∙ c.heading.ensures.heading) c.in_ok-rows.ensures.rows

pub relation_of-requires-clause-few : goal.relation_of-requires-clause-few
relation_of-requires-clause-few c = found_few c.args.many.now c.args.keys.now c.in_ok-rows.rows.items c.heading.ensures.relation c.in_ok-rows.ensures.rows

pub returns : goal.returns
returns c = (
  ap (λ (r : Relation). r.heading) c.in_ok-relation.ensures ∙ (c.in_ok-heading.ensures ∙ c.heading.ensures.heading),
  ap (λ (r : Relation). r.rows) c.in_ok-relation.ensures
      ∙ found c.args.many.now.rows c.args.keys.now c.in_ok-rows.rows.items (rows_ascend c.args.many.now c.heading.ensures.relation) c.in_ok-rows.ensures.rows,
)

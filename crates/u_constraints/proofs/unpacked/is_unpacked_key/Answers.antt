use Rattle.std.proofs.Common.{◌<◌, length, sym, ◌∙◌, subst}
use Rattle.value_core.specs.Values.{Heading}
use Rattle.relation_core.proofs.FilterLemmas.{rows_ascend}
use Rattle.u_set.proofs.RelationLemmas.{relation_shaped}
use Rattle.meaning_core.proofs.IntervalLemmas.{intervals_of_list}
use Rattle.u_constraints.proofs.WholeKeyLemmas.{whole_key}
use Rattle.u_constraints.proofs.unpacked.is_unpacked_key.Goals as goal

pub returns-then-are_all-clause-answer : goal.returns-then-are_all-clause-answer
returns-then-are_all-clause-answer g c =
    let r = c.args.r.now in
    let commalist = c.args.commalist.now in
    let is = c.heading.ensures.relation in
    let intervals = intervals_of_list r.heading commalist c.requires.list in
    whole_key r.heading commalist intervals r.rows (rows_ascend r is) (relation_shaped r is commalist intervals) c.args.key.now (λ i below.
    c.are_all.ensures c.if-are_all.true i (subst (λ (h : Heading). i < length h) (sym (c.attributes.ensures.list ∙ c.heading.ensures.heading)) below))

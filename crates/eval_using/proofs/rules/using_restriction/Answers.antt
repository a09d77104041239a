use Rattle.std.proofs.Common.{◌≤◌, ◌+◌, ◌∷◌, [], List, ℕ, length, subst}
use Rattle.point_core.specs.Faults.{OrFault}
use Rattle.value_core.specs.Values.{Heading, Relation}
use Rattle.scalar_core.specs.Expressions.{read}
use Rattle.relation_core.specs.Answers.{Answers}
use Rattle.relation_core.specs.Operators.{restricted}
use Rattle.cell_core.specs.Costs.{bound}
use Rattle.u_set.specs.Boxes.{AreIntervals}
use Rattle.meaning_core.specs.Meanings.{condition}
use Rattle.eval_using.specs.Cells.{cells_of_all}
use Rattle.meaning_core.proofs.IntervalLemmas.{intervals_of_list}
use Rattle.eval_using.proofs.UnderLemmas.{rule_meant, listed_back, sweepable_back}
use Rattle.eval_using.proofs.rules.using_restriction.Goals as goal

pub restricted_by_boxes-requires-clause-intervals : goal.restricted_by_boxes-requires-clause-intervals
restricted_by_boxes-requires-clause-intervals g c =
    subst (λ (h : Heading). AreIntervals h c.args.node.commalist.now) c.requires.restriction.1.headed (intervals_of_list c.args.node.heading.now c.args.node.commalist.now c.requires.list)

pub restricted_by_boxes-requires-clause-typed : goal.restricted_by_boxes-requires-clause-typed
restricted_by_boxes-requires-clause-typed g c = c.requires.restriction.1.condition.typed

pub restricted_by_boxes-requires-clause-sweepable : goal.restricted_by_boxes-requires-clause-sweepable
restricted_by_boxes-requires-clause-sweepable g c =
    sweepable_back c.args.node.place c.args.node.heading.now c.args.node.commalist.now c.attributes-attributes.ensures.heading c.requires.list c.args.r.now.heading c.requires.restriction.1.headed (read c.args.c.now) c.requires.swept

pub returns-clause-value : goal.returns-clause-value
returns-clause-value g c =
    let h = c.args.node.heading.now in
    let r = c.args.r.now in
    let commalist = c.args.node.commalist.now in
    let same = rule_meant c.args.node.place h commalist c.attributes-attributes.ensures.heading c.requires.list (restricted (condition (read c.args.c.now))) r.heading r.rows c.requires.restriction.1.headed in
    subst (λ (m : OrFault Relation). Answers c.restricted_by_boxes.result m) same c.restricted_by_boxes.ensures.value

pub returns-clause-cost : goal.returns-clause-cost
returns-clause-cost g c =
    let r = c.args.r.now in
    let commalist = c.args.node.commalist.now in
    let back = listed_back c.args.node.place c.args.node.heading.now commalist c.attributes-attributes.ensures.heading c.requires.list r.heading c.requires.restriction.1.headed in
    subst (λ (ps : List ℕ). c.restricted_by_boxes.new.steps ≤ c.args.steps.now + bound (cells_of_all ps (read c.args.c.now ∷ []) r.rows) (length commalist)) back c.restricted_by_boxes.ensures.cost

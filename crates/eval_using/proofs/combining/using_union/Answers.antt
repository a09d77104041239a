use Rattle.std.proofs.Common.{subst}
use Rattle.point_core.specs.Faults.{OrFault}
use Rattle.value_core.specs.RowPacking.{packed, unpacked}
use Rattle.value_core.specs.Values.{Relation}
use Rattle.relation_core.specs.Answers.{Answers}
use Rattle.relation_core.specs.Operators.{united}
use Rattle.eval_using.proofs.UnderLemmas.{set_meant}
use Rattle.eval_using.proofs.combining.using_union.Goals as goal

pub returns-clause-value : goal.returns-clause-value
returns-clause-value g c =
    let left = c.args.left.now in
    let right = c.args.right.now in
    let commalist = c.args.node.commalist.now in
    let same = set_meant c.args.node.place c.args.node.heading.now commalist c.attributes-attributes.ensures.heading c.requires.list united left.heading right.heading left.rows right.rows c.requires.left c.requires.right in
    subst (λ (m : OrFault Relation). Answers c.or_fault_at.result m) same
    (c.or_fault_at.ensures left.heading (packed commalist (united (unpacked commalist left.rows) (unpacked commalist right.rows))) c.united.ensures.rows)

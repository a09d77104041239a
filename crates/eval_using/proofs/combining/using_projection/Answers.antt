use Rattle.std.proofs.Common.{ap, ◌∙◌, subst}
use Rattle.point_core.specs.Faults.{OrFault}
use Rattle.value_core.specs.RowPacking.{packed, unpacked}
use Rattle.value_core.specs.Values.{Relation}
use Rattle.meaning_core.specs.Meanings.{limited}
use Rattle.relation_core.specs.Answers.{Answers, under}
use Rattle.relation_core.specs.Parts.{projected}
use Rattle.u_row.specs.Kept.{beneath}
use Rattle.u_row.proofs.PartLemmas.{positions_kept}
use Rattle.eval_using.specs.Using.{listed}
use Rattle.meaning_core.proofs.IntervalLemmas.{intervals_of_list}
use Rattle.eval_using.proofs.PartLemmas.{beneath_is}
use Rattle.eval_using.proofs.UnderLemmas.{rows_meant}
use Rattle.eval_using.proofs.combining.using_projection.Goals as goal

pub returns-clause-value : goal.returns-clause-value
returns-clause-value g c =
    let h = c.args.node.heading.now in
    let r = c.args.r.now in
    let commalist = c.args.node.commalist.now in
    let kept = c.args.kept.now in
    let below = positions_kept h r.heading kept commalist c.requires.projection.headed (intervals_of_list h commalist c.requires.list) in
    let is = beneath_is h r.heading kept commalist c.heading-own.ensures.relation.headed c.requires.projection.headed c.requires.projection.positions.within below in
    let same = rows_meant c.args.node.place h commalist c.attributes-attributes.ensures.heading c.requires.list (projected kept (unpacked (listed h commalist r.heading) r.rows)) in
    subst (λ (m : OrFault Relation). Answers c.or_fault_at.result m) (ap (λ ps. under h (limited c.args.node.place (packed commalist (projected kept (unpacked ps r.rows))))) is ∙ same)
    (c.or_fault_at.ensures h (packed commalist (projected kept (unpacked (beneath kept commalist) r.rows))) c.projected.ensures.rows)

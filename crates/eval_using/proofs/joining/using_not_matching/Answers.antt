use Rattle.std.proofs.Common.{List, ℕ, sym, ap, ap₂, ◌∙◌, subst}
use Rattle.point_core.specs.Faults.{OrFault}
use Rattle.value_core.specs.RowPacking.{packed, unpacked}
use Rattle.value_core.specs.Values.{Heading, Relation}
use Rattle.relation_core.specs.Agreement.{unmatched}
use Rattle.meaning_core.specs.Meanings.{limited}
use Rattle.relation_core.specs.Answers.{Answers, under}
use Rattle.relation_core.specs.Parts.{attributes_at}
use Rattle.u_set.specs.Boxes.{AreIntervals}
use Rattle.eval_using.specs.Using.{listed}
use Rattle.meaning_core.proofs.IntervalLemmas.{intervals_of_list}
use Rattle.eval_using.proofs.OperandLemmas.{same_attributes, operand_intervals}
use Rattle.eval_using.proofs.UnderLemmas.{pair_meant}
use Rattle.eval_using.proofs.joining.using_not_matching.Goals as goal

pub unmatched-requires-clause-same : goal.unmatched-requires-clause-same
unmatched-requires-clause-same g c =
    let h = c.args.node.heading.now in
    let commalist = c.args.node.commalist.now in
    let right = c.args.right.now.heading in
    let is = c.as_slice.ensures.value ∙ c.in_ok-there.ensures ∙ ap₂ (λ (u v : Heading). listed u commalist v) c.attributes-attributes.ensures.list (c.attributes.ensures.list ∙ c.heading.ensures.heading) in
    let same = same_attributes h commalist c.attributes-attributes.ensures.heading c.requires.list right c.requires.right in
    ap (attributes_at commalist) (sym c.requires.heading) ∙ sym same ∙ ap (λ (ps : List ℕ). attributes_at ps right) (sym is)

pub unmatched-requires-clause-left : goal.unmatched-requires-clause-left
unmatched-requires-clause-left g c = subst (λ (h : Heading). AreIntervals h c.args.node.commalist.now) c.requires.heading (intervals_of_list c.args.node.heading.now c.args.node.commalist.now c.requires.list)

pub unmatched-requires-clause-right : goal.unmatched-requires-clause-right
unmatched-requires-clause-right g c =
    let h = c.args.node.heading.now in
    let commalist = c.args.node.commalist.now in
    let right = c.args.right.now.heading in
    let is = c.as_slice.ensures.value ∙ c.in_ok-there.ensures ∙ ap₂ (λ (u v : Heading). listed u commalist v) c.attributes-attributes.ensures.list (c.attributes.ensures.list ∙ c.heading.ensures.heading) in
    subst (AreIntervals right) (sym is) (operand_intervals h commalist c.attributes-attributes.ensures.heading c.requires.list right c.requires.right)

pub returns-clause-value : goal.returns-clause-value
returns-clause-value g c =
    let h = c.args.node.heading.now in
    let left = c.args.left.now in
    let right = c.args.right.now in
    let commalist = c.args.node.commalist.now in
    let is = c.as_slice.ensures.value ∙ c.in_ok-there.ensures ∙ ap₂ (λ (u v : Heading). listed u commalist v) c.attributes-attributes.ensures.list (c.attributes.ensures.list ∙ c.heading.ensures.heading) in
    let same = pair_meant c.args.node.place h commalist c.attributes-attributes.ensures.heading c.requires.list (unmatched left.heading right.heading) left.heading right.heading left.rows right.rows c.requires.heading in
    let told = c.or_fault_at.ensures left.heading (packed commalist (unmatched left.heading right.heading (unpacked commalist left.rows) (unpacked c.as_slice.result.now right.rows))) c.unmatched.ensures.rows in
    subst (λ (m : OrFault Relation). Answers c.or_fault_at.result m) (ap (λ (ps : List ℕ). under left.heading (limited c.args.node.place (packed commalist (unmatched left.heading right.heading (unpacked commalist left.rows) (unpacked ps right.rows))))) is ∙ same) told

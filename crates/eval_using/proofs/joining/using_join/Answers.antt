use Rattle.std.proofs.Common.{List, ℕ, sym, ap, ap₂, ◌∙◌, subst}
use Rattle.point_core.specs.Faults.{OrFault}
use Rattle.value_core.specs.RowPacking.{packed, unpacked}
use Rattle.value_core.specs.Values.{Heading, Relation}
use Rattle.meaning_core.specs.Meanings.{limited}
use Rattle.relation_core.specs.Answers.{Answers, under}
use Rattle.relation_core.specs.Joins.{joined}
use Rattle.relation_core.specs.Parts.{attributes_at}
use Rattle.u_set.specs.Boxes.{AreIntervals}
use Rattle.eval_using.specs.Using.{listed}
use Rattle.eval_using.proofs.OperandLemmas.{same_attributes, operand_intervals}
use Rattle.eval_using.proofs.UnderLemmas.{rows_meant}
use Rattle.eval_using.proofs.joining.using_join.Goals as goal

pub joined-requires-clause-listed : goal.joined-requires-clause-listed
joined-requires-clause-listed g c =
    let h = c.args.node.heading.now in
    let commalist = c.args.node.commalist.now in
    let left = c.args.left.now.heading in
    let is = c.as_slice.ensures.value ∙ c.in_ok-here.ensures ∙ ap₂ (λ (u v : Heading). listed u commalist v) c.attributes-attributes.ensures.list (c.attributes.ensures.list ∙ c.heading.ensures.heading) in
    let same = same_attributes h commalist c.attributes-attributes.ensures.heading c.requires.list left c.requires.left in
    sym same ∙ ap (λ (ps : List ℕ). attributes_at ps left) (sym is)

pub joined-requires-clause-same : goal.joined-requires-clause-same
joined-requires-clause-same g c =
    let h = c.args.node.heading.now in
    let commalist = c.args.node.commalist.now in
    let left = c.args.left.now.heading in
    let right = c.args.right.now.heading in
    let here = c.as_slice.ensures.value ∙ c.in_ok-here.ensures ∙ ap₂ (λ (u v : Heading). listed u commalist v) c.attributes-attributes.ensures.list (c.attributes.ensures.list ∙ c.heading.ensures.heading) in
    let there = c.as_slice-2.ensures.value ∙ c.in_ok-there.ensures ∙ ap₂ (λ (u v : Heading). listed u commalist v) c.attributes-attributes.ensures.list (c.attributes-2.ensures.list ∙ c.heading-2.ensures.heading) in
    let one = same_attributes h commalist c.attributes-attributes.ensures.heading c.requires.list left c.requires.left in
    let two = same_attributes h commalist c.attributes-attributes.ensures.heading c.requires.list right c.requires.right in
    ap (λ (ps : List ℕ). attributes_at ps left) here ∙ one ∙ sym two ∙ ap (λ (ps : List ℕ). attributes_at ps right) (sym there)

pub joined-requires-clause-left : goal.joined-requires-clause-left
joined-requires-clause-left g c =
    let h = c.args.node.heading.now in
    let commalist = c.args.node.commalist.now in
    let left = c.args.left.now.heading in
    let is = c.as_slice.ensures.value ∙ c.in_ok-here.ensures ∙ ap₂ (λ (u v : Heading). listed u commalist v) c.attributes-attributes.ensures.list (c.attributes.ensures.list ∙ c.heading.ensures.heading) in
    subst (AreIntervals left) (sym is) (operand_intervals h commalist c.attributes-attributes.ensures.heading c.requires.list left c.requires.left)

pub joined-requires-clause-right : goal.joined-requires-clause-right
joined-requires-clause-right g c =
    let h = c.args.node.heading.now in
    let commalist = c.args.node.commalist.now in
    let right = c.args.right.now.heading in
    let is = c.as_slice-2.ensures.value ∙ c.in_ok-there.ensures ∙ ap₂ (λ (u v : Heading). listed u commalist v) c.attributes-attributes.ensures.list (c.attributes-2.ensures.list ∙ c.heading-2.ensures.heading) in
    subst (AreIntervals right) (sym is) (operand_intervals h commalist c.attributes-attributes.ensures.heading c.requires.list right c.requires.right)

pub returns-clause-value : goal.returns-clause-value
returns-clause-value g c =
    let h = c.args.node.heading.now in
    let left = c.args.left.now in
    let right = c.args.right.now in
    let commalist = c.args.node.commalist.now in
    let here = c.as_slice.ensures.value ∙ c.in_ok-here.ensures ∙ ap₂ (λ (u v : Heading). listed u commalist v) c.attributes-attributes.ensures.list (c.attributes.ensures.list ∙ c.heading.ensures.heading) in
    let there = c.as_slice-2.ensures.value ∙ c.in_ok-there.ensures ∙ ap₂ (λ (u v : Heading). listed u commalist v) c.attributes-attributes.ensures.list (c.attributes-2.ensures.list ∙ c.heading-2.ensures.heading) in
    let same = rows_meant c.args.node.place h commalist c.attributes-attributes.ensures.heading c.requires.list (joined left.heading right.heading (unpacked (listed h commalist left.heading) left.rows) (unpacked (listed h commalist right.heading) right.rows)) in
    let told = c.or_fault_at.ensures h (packed commalist (joined left.heading right.heading (unpacked c.as_slice.result.now left.rows) (unpacked c.as_slice-2.result.now right.rows))) c.joined.ensures.rows in
    subst (λ (m : OrFault Relation). Answers c.or_fault_at.result m) (ap₂ (λ (ps qs : List ℕ). under h (limited c.args.node.place (packed commalist (joined left.heading right.heading (unpacked ps left.rows) (unpacked qs right.rows))))) here there ∙ same) told

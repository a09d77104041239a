use Rattle.std.proofs.Common.{List, subst, ◌∙◌}
use Rattle.cell_boxes.specs.KeyNumbers.{HaveNumbers}
use Rattle.cell_boxes.specs.Rows.{PlainCellBox}
use Rattle.cell_boxes.proofs.NumberLemmas.{are_numbered, labels_rise}
use Rattle.cell_boxes.proofs.numbering.numbered_apart.Goals as goal

pub returns-clause-numbers : goal.returns-clause-numbers
returns-clause-numbers g c =
    let o = g.K.Label.order in
    let left = c.args.left.items in
    let right = c.args.right.items in
    let ln = c.in_ok-left_numbers.left_numbers.items in
    let rn = c.in_ok-right_numbers.right_numbers.items in
    let ls : HaveNumbers o left right ln = subst (λ (xs : List (PlainCellBox _)). HaveNumbers o xs right ln) c.as_slice.ensures.value (subst (λ (ys : List (PlainCellBox _)). HaveNumbers o c.as_slice.result.now ys ln) c.as_slice-2.ensures.value c.in_ok-left_numbers.ensures.numbers) in
    let rs : HaveNumbers o right left rn = subst (λ (xs : List (PlainCellBox _)). HaveNumbers o xs left rn) c.as_slice-3.ensures.value (subst (λ (ys : List (PlainCellBox _)). HaveNumbers o c.as_slice-3.result.now ys rn) c.as_slice-4.ensures.value c.in_ok-right_numbers.ensures.numbers) in
    are_numbered o g.met.K.Label.total g.met.K.Label.separates left right c.requires.left c.requires.right ln rn ls rs c.in_ok-lefts.lefts.items c.in_ok-rights.rights.items
    (c.in_ok-lefts.ensures.numbers ∙ c.as_slice-5.ensures.value) c.in_ok-lefts.ensures.boxes (c.in_ok-rights.ensures.numbers ∙ c.as_slice-6.ensures.value) c.in_ok-rights.ensures.boxes

pub returns-clause-alike : goal.returns-clause-alike
returns-clause-alike g c =
    let o = g.K.Label.order in
    let left = c.args.left.items in
    let right = c.args.right.items in
    let ln = c.in_ok-left_numbers.left_numbers.items in
    let ls : HaveNumbers o left right ln = subst (λ (xs : List (PlainCellBox _)). HaveNumbers o xs right ln) c.as_slice.ensures.value (subst (λ (ys : List (PlainCellBox _)). HaveNumbers o c.as_slice.result.now ys ln) c.as_slice-2.ensures.value c.in_ok-left_numbers.ensures.numbers) in
    labels_rise o g.met.K.Label.total g.met.K.Label.separates left right ln ls c.in_ok-lefts.lefts.items (c.in_ok-lefts.ensures.numbers ∙ c.as_slice-5.ensures.value) c.in_ok-lefts.ensures.boxes c.in_ok-lefts.keys.items c.in_ok-lefts.ensures.keys

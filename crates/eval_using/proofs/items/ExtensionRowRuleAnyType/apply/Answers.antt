use Rattle.std.proofs.Common.{◌≡◌, Ok, Err, ◌∙◌, subst}
use Rattle.std.specs.Result.{IfOk}
use Rattle.base_core.specs.Outcomes.{then_give}
use Rattle.point_core.specs.Points.{number}
use Rattle.point_core.specs.declared.fault.Fault.{Fault}
use Rattle.point_core.specs.declared.fault.Stop.TheVariants.{Fault as Faulted}
use Rattle.cell_packing.specs.Packed.{firsts}
use Rattle.value_core.specs.Values.{Row}
use Rattle.tree_core.specs.Trees.{read_sets}
use Rattle.cell_core.specs.Cells.{box_numbers}
use Rattle.eval_using.specs.Cells.{scalars_of}
use Rattle.eval_using.specs.Extended.{made_of}
use Rattle.eval_using.specs.Swept.{labelled_if}
use Rattle.eval_using.proofs.CellRowLemmas.{at_count, all_within, at_lines, fits_at, own_place}
use Rattle.eval_using.proofs.items.ExtensionRowRuleAnyType.apply.Goals as goal

pub row_at-requires-clause-count : goal.row_at-requires-clause-count
row_at-requires-clause-count c =
    let rule = c.args.self.now in
    let p = c.requires.points in
    at_count rule.items.commalist.now rule.rows.now rule.boxes.now c.args.row c.requires.can.boxed c.args.at.now p.0 p.1 p.2

pub row_at-requires-clause-within : goal.row_at-requires-clause-within
row_at-requires-clause-within c =
    let rule = c.args.self.now in
    let p = c.requires.points in
    all_within rule.items.commalist.now rule.rows.now rule.boxes.now c.args.row c.requires.can.boxed c.args.at.now p.0 p.1 p.2 c.index-self-row.result

pub row_at-requires-clause-lines : goal.row_at-requires-clause-lines
row_at-requires-clause-lines c =
    let rule = c.args.self.now in
    let p = c.requires.points in
    at_lines rule.items.commalist.now rule.rows.now rule.boxes.now c.args.row c.requires.can.boxed c.args.at.now p.0 p.1 p.2 c.index-self-row.result

pub made_label-requires : goal.made_label-requires
made_label-requires c =
    let rule = c.args.self.now in
    let p = c.requires.points in
    let h = c.requires.can in
    h.items.typed c.in_ok-there.there (fits_at rule.items.commalist.now rule.rows.now rule.boxes.now c.args.row h.boxed c.args.at.now p.0 p.1 p.2 (scalars_of (read_sets rule.items.sets.now)) c.index-self-row.result c.in_ok-there.there c.requires.cell c.in_ok-there.ensures)

pub returns-clause-answer : goal.returns-clause-answer
returns-clause-answer c =
    let rule = c.args.self.now in
    let same = c.in_ok-there.ensures ∙ own_place rule.items.commalist.now rule.rows.now rule.boxes.now c.args.row c.requires.can.boxed c.index-self-row.result (firsts (box_numbers number c.args.at.now)) in
    subst (λ (x : Row). IfOk c.made_label.result (λ o. then_give (made_of rule.items.places.now (read_sets rule.items.sets.now) x) (labelled_if rule.items.to.now) ≡ Ok o)) same c.made_label.ensures.answer

pub returns-clause-fault : goal.returns-clause-fault
returns-clause-fault c =
    let rule = c.args.self.now in
    let same = c.in_ok-there.ensures ∙ own_place rule.items.commalist.now rule.rows.now rule.boxes.now c.args.row c.requires.can.boxed c.index-self-row.result (firsts (box_numbers number c.args.at.now)) in
    subst (λ (x : Row). (e : Fault) → c.made_label.result ≡ Err (Faulted e) → then_give (made_of rule.items.places.now (read_sets rule.items.sets.now) x) (labelled_if rule.items.to.now) ≡ Err e) same c.made_label.ensures.fault

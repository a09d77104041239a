use Rattle.std.proofs.Common.{◌≡◌, ◌∷◌, [], Ok, Err, ◌∙◌, subst}
use Rattle.std.specs.Result.{IfOk}
use Rattle.base_core.specs.Outcomes.{then_give}
use Rattle.point_core.specs.Points.{number}
use Rattle.point_core.specs.declared.fault.Fault.{Fault}
use Rattle.point_core.specs.declared.fault.Stop.TheVariants.{Fault as Faulted}
use Rattle.cell_packing.specs.Packed.{firsts}
use Rattle.value_core.specs.Values.{Row}
use Rattle.scalar_core.specs.Expressions.{read}
use Rattle.cell_core.specs.Cells.{box_numbers}
use Rattle.eval_using.specs.Swept.{labelled_if, met}
use Rattle.eval_using.proofs.CellRowLemmas.{at_count, all_within, at_lines, fits_at, own_place}
use Rattle.eval_using.proofs.conditions.ConditionRowRuleAnyType.apply.Goals as goal

pub row_at-requires-clause-count : goal.row_at-requires-clause-count
row_at-requires-clause-count c =
    let rule = c.args.self.now in
    let p = c.requires.points in
    at_count rule.commalist.now rule.rows.now rule.boxes.now c.args.row c.requires.can.boxed c.args.at.now p.0 p.1 p.2

pub row_at-requires-clause-within : goal.row_at-requires-clause-within
row_at-requires-clause-within c =
    let rule = c.args.self.now in
    let p = c.requires.points in
    all_within rule.commalist.now rule.rows.now rule.boxes.now c.args.row c.requires.can.boxed c.args.at.now p.0 p.1 p.2 c.index-self-row.result

pub row_at-requires-clause-lines : goal.row_at-requires-clause-lines
row_at-requires-clause-lines c =
    let rule = c.args.self.now in
    let p = c.requires.points in
    at_lines rule.commalist.now rule.rows.now rule.boxes.now c.args.row c.requires.can.boxed c.args.at.now p.0 p.1 p.2 c.index-self-row.result

pub label_if-requires : goal.label_if-requires
label_if-requires c =
    let rule = c.args.self.now in
    let p = c.requires.points in
    record {
      heading = c.requires.can.boxed.heading;
      fits = fits_at rule.commalist.now rule.rows.now rule.boxes.now c.args.row c.requires.can.boxed c.args.at.now p.0 p.1 p.2 (read rule.c.now ∷ []) c.index-self-row.result c.in_ok-there.there c.requires.cell c.in_ok-there.ensures;
      typed = c.requires.can.typed;
    }

pub returns-clause-answer : goal.returns-clause-answer
returns-clause-answer c =
    let rule = c.args.self.now in
    let same = c.in_ok-there.ensures ∙ own_place rule.commalist.now rule.rows.now rule.boxes.now c.args.row c.requires.can.boxed c.index-self-row.result (firsts (box_numbers number c.args.at.now)) in
    subst (λ (x : Row). IfOk c.label_if.result (λ o. then_give (met (read rule.c.now) x) (labelled_if rule.commalist.now) ≡ Ok o)) same c.label_if.ensures.answer

pub returns-clause-fault : goal.returns-clause-fault
returns-clause-fault c =
    let rule = c.args.self.now in
    let same = c.in_ok-there.ensures ∙ own_place rule.commalist.now rule.rows.now rule.boxes.now c.args.row c.requires.can.boxed c.index-self-row.result (firsts (box_numbers number c.args.at.now)) in
    subst (λ (x : Row). (e : Fault) → c.label_if.result ≡ Err (Faulted e) → then_give (met (read rule.c.now) x) (labelled_if rule.commalist.now) ≡ Err e) same c.label_if.ensures.fault

use Rattle.std.proofs.Common.{◌≡◌, length, map, sym, subst}
use Rattle.value_core.specs.Order.{row_total, row_separates}
use Rattle.value_core.specs.Values.{row_cmp}
use Rattle.cell_packing.specs.Boxed.{packed_boxes}
use Rattle.point_core.specs.LeastFault.{IsLeast}
use Rattle.cell_core.specs.Cells.{row_numbers}
use Rattle.u_set.proofs.ApartLemmas.{if_ok}
use Rattle.u_row.specs.Cutting.{count_cells, count_cuts}
use Rattle.u_row.specs.Rules.{HasRuleFault, sides_numbers, IsRuleForm}
use Rattle.u_row.proofs.AllRowsLemmas.{sides_long, cells_have, rule_form, rule_bound, no_pack_bound, cuts_below}
use Rattle.u_row.proofs.all_rows.u_rule.Goals as goal

pub returns-in_err-cells-clause-cost : goal.returns-in_err-cells-clause-cost
returns-in_err-cells-clause-cost g c =
    let n = g.T.PointType.number_of in
    let cuts = g.R.RowRule.cuts_of c.args.rule.now in
    let types = c.args.types.now in
    let few = cuts_below (length types) cuts 0 (sides_numbers n c.args.rows.now) (sides_long g.T.PointType.IsPoint n types c.args.rows.now c.requires.boxes) in
    no_pack_bound (count_cells cuts 0 (sides_numbers n c.args.rows.now)) (length types) c.args.steps.now c.give_rows.new.steps (count_cuts cuts 0 (sides_numbers n c.args.rows.now)) c.give_rows.ensures.cost few

pub returns-in-Some-clause-cost : goal.returns-in-Some-clause-cost
returns-in-Some-clause-cost g c =
    let n = g.T.PointType.number_of in
    let cuts = g.R.RowRule.cuts_of c.args.rule.now in
    let types = c.args.types.now in
    let few = cuts_below (length types) cuts 0 (sides_numbers n c.args.rows.now) (sides_long g.T.PointType.IsPoint n types c.args.rows.now c.requires.boxes) in
    no_pack_bound (count_cells cuts 0 (sides_numbers n c.args.rows.now)) (length types) c.args.steps.now c.give_rows.new.steps (count_cuts cuts 0 (sides_numbers n c.args.rows.now)) c.give_rows.ensures.cost few

pub returns-in-None-clause-cost : goal.returns-in-None-clause-cost
returns-in-None-clause-cost g c =
    let n = g.T.PointType.number_of in
    let cuts = g.R.RowRule.cuts_of c.args.rule.now in
    let types = c.args.types.now in
    let few = cuts_below (length types) cuts 0 (sides_numbers n c.args.rows.now) (sides_long g.T.PointType.IsPoint n types c.args.rows.now c.requires.boxes) in
    rule_bound (length c.in_ok-cells.cells.items) (count_cells cuts 0 (sides_numbers n c.args.rows.now)) (length types) c.args.steps.now c.give_rows.new.steps c.pack.new.steps (count_cuts cuts 0 (sides_numbers n c.args.rows.now))
    c.give_rows.ensures.cost few c.in_ok-cells.ensures.few c.pack.ensures.numbering

pub returns-in-None-clause-rows : goal.returns-in-None-clause-rows
returns-in-None-clause-rows g c =
    let n = g.T.PointType.number_of in
    let types = c.args.types.now in
    let k = length types in
    let f = g.R.RowRule.means c.args.rule.now in
    let boxes = sides_numbers n c.args.rows.now in
    let cells = c.in_ok-cells.cells.items in
    let form = rule_form row_cmp row_total row_separates k f boxes (map (row_numbers n) cells) (cells_have g.T.PointType.IsPoint n types cells c.in_ok-cells.ensures.boxes) c.in_ok-cells.ensures.places in
    if_ok (λ v. map (row_numbers n) v.items ≡ packed_boxes row_cmp k (map (row_numbers n) cells)) (λ v. IsRuleForm row_cmp k f boxes (map (row_numbers n) v.items))
    (λ v e. subst (IsRuleForm row_cmp k f boxes) (sym e) form) c.pack.result c.pack.ensures.rows

pub returns-in-None-clause-limit : goal.returns-in-None-clause-limit
returns-in-None-clause-limit g c = λ e.
    let n = g.T.PointType.number_of in
    let types = c.args.types.now in
    let k = length types in
    let f = g.R.RowRule.means c.args.rule.now in
    let boxes = sides_numbers n c.args.rows.now in
    let cells = c.in_ok-cells.cells.items in
    let form = rule_form row_cmp row_total row_separates k f boxes (map (row_numbers n) cells) (cells_have g.T.PointType.IsPoint n types cells c.in_ok-cells.ensures.boxes) c.in_ok-cells.ensures.places in
    let none = subst (IsLeast (HasRuleFault f boxes)) c.in-None.is c.in_ok-cells.ensures.least in
    (none, (packed_boxes row_cmp k (map (row_numbers n) cells), form, c.pack.ensures.limit e))

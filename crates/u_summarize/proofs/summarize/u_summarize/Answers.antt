use Rattle.std.proofs.Common.{◌≡◌, ◌<◌, map, length, None, arith, sym, subst}
use Rattle.std.specs.List.{All}
use Rattle.std.proofs.lemmas.List.{length-map}
use Rattle.value_core.specs.Values.{row_cmp}
use Rattle.point_core.specs.LeastFault.{IsLeast}
use Rattle.cell_core.specs.Boxes.{IsBox}
use Rattle.cell_core.specs.Cells.{row_numbers}
use Rattle.u_set.proofs.ApartLemmas.{if_ok}
use Rattle.u_summarize.specs.Groups.{HasGroupFault, IsGroupForm}
use Rattle.u_summarize.proofs.summarize.u_summarize.Goals as goal

pub returns-in-None-clause-rows : goal.returns-in-None-clause-rows
returns-in-None-clause-rows g c =
    let n = g.T.PointType.number_of in
    let form = c.in_ok-form.form.items in
    if_ok (λ v. v.items ≡ form) (λ v. IsGroupForm row_cmp (length c.args.types.now) (g.G.GroupRule.means c.args.rule.now) c.args.by.now (map (row_numbers n) c.args.rows.now) (map (row_numbers n) v.items))
    (λ v e. subst (λ xs. IsGroupForm row_cmp (length c.args.types.now) (g.G.GroupRule.means c.args.rule.now) c.args.by.now (map (row_numbers n) c.args.rows.now) (map (row_numbers n) xs)) (sym e) c.in_ok-form.ensures.rows) c.in_limit.result c.in_limit.ensures.same

pub returns-in-None-clause-boxes : goal.returns-in-None-clause-boxes
returns-in-None-clause-boxes g c =
    let form = c.in_ok-form.form.items in
    if_ok (λ v. v.items ≡ form) (λ v. All (λ b. IsBox g.T.PointType.IsPoint c.args.types.now b.1) v.items)
    (λ v e. subst (λ xs. All (λ b. IsBox g.T.PointType.IsPoint c.args.types.now b.1) xs) (sym e) c.in_ok-form.ensures.boxes) c.in_limit.result c.in_limit.ensures.same

pub returns-in-None-clause-no_fault : goal.returns-in-None-clause-no_fault
returns-in-None-clause-no_fault g c =
    let form = c.in_ok-form.form.items in
    let faults = HasGroupFault (g.G.GroupRule.means c.args.rule.now) c.args.by.now (map (row_numbers g.T.PointType.number_of) c.args.rows.now) in
    if_ok (λ v. v.items ≡ form) (λ v. IsLeast faults None) (λ v e. subst (IsLeast faults) c.in-None.is c.in_ok-form.ensures.least) c.in_limit.result c.in_limit.ensures.same

pub returns-in-None-clause-limit : goal.returns-in-None-clause-limit
returns-in-None-clause-limit g c = λ e.
    let n = g.T.PointType.number_of in
    let form = c.in_ok-form.form.items in
    let faults = HasGroupFault (g.G.GroupRule.means c.args.rule.now) c.args.by.now (map (row_numbers n) c.args.rows.now) in
    let many = length-map form (row_numbers n) in
    let more : c.args.limit < length form = c.in_limit.ensures.limit e in
    (subst (IsLeast faults) c.in-None.is c.in_ok-form.ensures.least, (map (row_numbers n) form, c.in_ok-form.ensures.rows, omega (arith, many, more)))

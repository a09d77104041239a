use Rattle.std.proofs.Common.{◌≡◌, ◌≤◌, ◌+◌, ◌*◌, length, arith, sym, subst}
use Rattle.cell_core.specs.Costs.{bound, side_cost}
use Rattle.cell_core.proofs.StepLemmas.{looked_bound}
use Rattle.cell_core.proofs.packed.is_packed.Goals as goal

pub returns-clause-cost : goal.returns-clause-cost
returns-clause-cost g c =
    let k = length c.args.types.now in
    let f = c.if-types-ne1.false in
    let one : k ≡ 1 = omega arith in
    let n = length c.args.rows.now in
    let form = subst (λ j. c.is_form-2.new.steps ≤ c.are_apart.new.steps + j * side_cost n) one c.is_form-2.ensures.cost in
    subst (λ j. c.is_form-2.new.steps ≤ c.args.steps.now + bound n j) (sym one) (looked_bound n c.args.steps.now c.are_apart.new.steps c.is_form-2.new.steps c.are_apart.ensures.cost form)

use Rattle.std.proofs.Common.{List, sym, ◌∙◌}
use Rattle.value_core.specs.Values.{Row}
use Rattle.u_constraints.specs.Growth.{exchanged}
use Rattle.assign_core.specs.Insertions.{list_under}
use Rattle.assign_core.proofs.ToldLemmas.{are_packed}
use Rattle.assign_core.proofs.addition.new_rows.Goals as goal

pub coming-requires-clause-heading : goal.coming-requires-clause-heading
coming-requires-clause-heading c = c.in_ok-come.ensures.0 ∙ sym c.requires.addition.headed

pub coming-requires-clause-new : goal.coming-requires-clause-new
coming-requires-clause-new c = (c.args.addition.operand.now.rows, c.in_ok-come.ensures.1)

pub returns-clause-rows : goal.returns-clause-rows
returns-clause-rows c = c.in_ok-exchange.ensures.rows c.args.addition.operand.now.rows c.in_ok-come.ensures.1 ∙ sym c.requires.plain

pub returns-clause-packed : goal.returns-clause-packed
returns-clause-packed c =
    let a = c.args.addition in
    let k = c.requires.addition in
    let x = c.in_ok-exchange.exchange in
    let rows : List Row = exchanged a.target.value.now.rows x.gone.rows x.come.rows in
    are_packed a.target.value.now a.operand.now k.relation c.rows-rows.ensures.relation (sym k.headed) (list_under a) k.listed rows
    (c.in_ok-exchange.ensures.rows a.operand.now.rows c.in_ok-come.ensures.1 ∙ sym c.requires.plain)

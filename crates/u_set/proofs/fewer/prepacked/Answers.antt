use Rattle.std.proofs.Common.{get_or, inr}
use Rattle.cell_core.proofs.BackLemmas.{among_get}
use Rattle.u_set.proofs.fewer.prepacked.Goals as goal

pub returns-clause-rows : goal.returns-clause-rows
returns-clause-rows g c = inr (record {
  members = c.in_ok-packed.ensures.rows;
  sorted = c.in_ok-packed.ensures.sorted;
})

pub returns-clause-sides : goal.returns-clause-sides
returns-clause-sides g c = λ j d l. ((c.in_ok-packed.ensures.rows (get_or c.in_ok-packed.packed.items j d)).0 (among_get c.in_ok-packed.packed.items j d l)).0

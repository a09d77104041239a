use Rattle.u_set.proofs.cells.fewer_cells.Goals as goal

pub returns-clause-rows : goal.returns-clause-rows
returns-clause-rows g c = record {
  left_cells = c.in_ok-sides.field-0.left.items;
  right_cells = c.in_ok-sides.field-0.right.items;
  over = c.in_ok-sides.ensures.rows;
  lefts = c.in_ok-lefts.ensures.rows;
  rights = c.in_ok-rights.ensures.rows;
}

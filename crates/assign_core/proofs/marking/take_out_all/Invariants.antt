use Rattle.std.proofs.Common.{◌≡◌, take}
use Rattle.std.specs.List.{All}
use Rattle.relation_core.specs.Operators.{subtracted}
use Rattle.assign_core.specs.Hashed.{IsHashesOf}
use Rattle.assign_core.proofs.marking.take_out_all.Given as goal

abbrev pub ghost-take_out_one : goal.ghost-take_out_one
ghost-take_out_one g a = g.heading

abbrev pub invariant-loop-row : goal.invariant-loop-row
invariant-loop-row g l = record {
  rows : l.rows.items ≡ subtracted l.initial.rows.items (take l.row-index l.gone);
  hashes : All (IsHashesOf g.heading l.rows.items) l.hashes.items;
}

use Rattle.std.proofs.Common.{◌≡◌, ◌≤◌, length}
use Rattle.value_core.specs.Values.{row_cmp}
use Rattle.relation_core.specs.Agreement.{part_of}
use Rattle.relation_core.proofs.PartOrderLemmas.{rest_cmp}
use Rattle.relation_core.proofs.parts.compare_part.Given as goal

-- what is left decides, and the key has as many values as were equal
abbrev pub invariant-loop-at : goal.invariant-loop-at
invariant-loop-at l = record {
  rest : rest_cmp l.left l.row l.positions l.at ≡ row_cmp l.key (part_of l.positions l.row);
  within : l.at ≤ length l.left;
}

use Rattle.std.proofs.Common.{◌≡◌, drop, take, map}
use Rattle.base_core.specs.Sets.{is_set_after}
use Rattle.value_core.specs.Values.{row_cmp}
use Rattle.u_constraints.specs.Prefixes.{prefixes_ascend}
use Rattle.u_constraints.proofs.prefixes.prefixes_ascend.Given as goal

-- what is left goes on as all of the rows do
abbrev pub invariant-loop-row : goal.invariant-loop-row
invariant-loop-row l = is_set_after row_cmp (take l.count l.last) (map (take l.count) (drop l.row-index l.rest)) ≡ prefixes_ascend l.count l.fn.rows

use Rattle.std.proofs.Common.{◌≡◌, map, take}
use Rattle.scalar_core.specs.Expressions.{read}
use Rattle.tree_core.specs.Items.{read_portion}
use Rattle.update_core.specs.Updates.{all_of, lies_in}
use Rattle.update_core.proofs.conditions.all_of.Given as goal

abbrev pub invariant-loop-part : goal.invariant-loop-part
invariant-loop-part l = read l.all ≡ all_of l.place (read l.fn.first) (map (lies_in l.place l.heading) (read_portion (take l.part-index l.rest)))

use Rattle.std.proofs.Common.{◌≡◌, take}
use Rattle.tree_core.specs.Items.{read_portion}
use Rattle.meaning_core.specs.Updates.{attributes_of_portion}
use Rattle.update_core.proofs.items.attributes.Given as goal

abbrev pub invariant-loop-part : goal.invariant-loop-part
invariant-loop-part l = l.list.items ≡ attributes_of_portion (read_portion (take l.part-index l.part-items))

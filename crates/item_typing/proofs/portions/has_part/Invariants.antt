use Rattle.std.proofs.Common.{◌≡◌, drop}
use Rattle.value_core.specs.Attributes.{among}
use Rattle.tree_core.specs.Items.{read_portion}
use Rattle.meaning_core.specs.Updates.{attributes_of_portion}
use Rattle.item_typing.proofs.portions.has_part.Given as goal

abbrev pub invariant-loop-part : goal.invariant-loop-part
invariant-loop-part l = among (attributes_of_portion (read_portion (drop l.part-index l.portion))) l.at ≡ among (attributes_of_portion (read_portion l.portion)) l.at

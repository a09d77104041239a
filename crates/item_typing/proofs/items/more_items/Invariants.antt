use Rattle.std.proofs.Common.{◌≡◌, drop, map}
use Rattle.utd_syntax.specs.Read.{read_item_list}
use Rattle.tree_core.specs.Items.{read_item}
use Rattle.tree_core.specs.Relvars.{read_relvars}
use Rattle.item_typing.specs.Items.{items_typed}
use Rattle.item_typing.proofs.items.more_items.Given as goal

abbrev pub invariant-loop-item : goal.invariant-loop-item
invariant-loop-item l =
    items_typed (read_relvars l.relvars) (map read_item l.items.items) (read_item_list (drop l.item-index l.list)) ≡ items_typed (read_relvars l.relvars) (map read_item l.fn.before.items) (read_item_list l.list)

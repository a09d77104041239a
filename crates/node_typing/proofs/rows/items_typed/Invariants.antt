use Rattle.std.proofs.Common.{◌≡◌, ◌∷◌, drop}
use Rattle.utd_syntax.specs.Read.{read_set_item, read_set_item_list}
use Rattle.relation_typing.specs.Items.{made, none_made}
use Rattle.node_typing.specs.Rows.{items_typed}
use Rattle.node_typing.proofs.rows.items_typed.Given as goal

abbrev pub invariant-loop-item : goal.invariant-loop-item
invariant-loop-item l =
    items_typed l.types l.from (made l.before) (read_set_item_list (drop l.item-index l.more)) ≡ items_typed l.types l.from none_made (read_set_item l.first ∷ read_set_item_list l.more)

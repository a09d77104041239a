use Rattle.std.proofs.Common.{◌≡◌, ◌∷◌, drop}
use Rattle.utd_syntax.specs.Read.{read_set_item, read_set_item_list}
use Rattle.relation_typing.specs.Items.{made, none_made}
use Rattle.item_typing.specs.Sets.{sets_typed}
use Rattle.item_typing.proofs.sets.sets_typed.Given as goal

abbrev pub invariant-loop-item : goal.invariant-loop-item
invariant-loop-item l =
    sets_typed l.types l.heading (made l.before) (read_set_item_list (drop l.item-index l.more)) ≡ sets_typed l.types l.heading none_made (read_set_item l.first ∷ read_set_item_list l.more)

use Rattle.std.proofs.Common.{◌≡◌, ◌∷◌, drop}
use Rattle.utd_syntax.specs.Read.{read_set_item, read_set_item_list, read_some_elements}
use Rattle.node_typing.specs.Sweeps.{none_assigned}
use Rattle.item_typing.specs.Changes.{portion_names}
use Rattle.item_typing.proofs.portions.none_portioned.Given as goal

abbrev pub invariant-loop-item : goal.invariant-loop-item
invariant-loop-item l =
    none_assigned (portion_names (read_some_elements l.elements)) (read_set_item_list (drop l.item-index l.more)) ≡ none_assigned (portion_names (read_some_elements l.elements)) (read_set_item l.first ∷ read_set_item_list l.more)

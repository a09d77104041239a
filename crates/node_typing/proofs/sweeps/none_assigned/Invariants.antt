use Rattle.std.proofs.Common.{◌≡◌, ◌∷◌, drop}
use Rattle.utd_syntax.specs.Read.{read_name_list, read_set_item, read_set_item_list}
use Rattle.node_typing.specs.Lists.{names_of_words}
use Rattle.node_typing.specs.Sweeps.{none_assigned}
use Rattle.node_typing.proofs.sweeps.none_assigned.Given as goal

abbrev pub invariant-loop-item : goal.invariant-loop-item
invariant-loop-item l =
    none_assigned (names_of_words (read_name_list l.words)) (read_set_item_list (drop l.item-index l.more)) ≡ none_assigned (names_of_words (read_name_list l.words)) (read_set_item l.first ∷ read_set_item_list l.more)

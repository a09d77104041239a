use Rattle.std.proofs.Common.{◌≡◌, ◌∷◌, ◌++◌, map, drop}
use Rattle.utd_syntax.specs.Read.{read_element, read_element_list}
use Rattle.meaning_core.specs.Meanings.{positions_of}
use Rattle.item_typing.specs.Changes.{element_name}
use Rattle.item_typing.proofs.portions.positions_of_elements.Given as goal

abbrev pub invariant-loop-element : goal.invariant-loop-element
invariant-loop-element l =
    l.positions.items ++ positions_of l.attributes (map element_name (read_element_list (drop l.element-index l.more))) ≡ positions_of l.attributes (map element_name (read_element l.first ∷ read_element_list l.more))

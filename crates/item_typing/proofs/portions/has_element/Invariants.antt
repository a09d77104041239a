use Rattle.std.proofs.Common.{◌≡◌, map, drop}
use Rattle.utd_syntax.specs.Read.{read_element_list}
use Rattle.node_typing.specs.Lists.{named_in}
use Rattle.item_typing.specs.Changes.{element_name}
use Rattle.item_typing.proofs.portions.has_element.Given as goal

abbrev pub invariant-loop-element : goal.invariant-loop-element
invariant-loop-element l = named_in (map element_name (read_element_list (drop l.element-index l.elements))) l.name ≡ named_in (map element_name (read_element_list l.elements)) l.name

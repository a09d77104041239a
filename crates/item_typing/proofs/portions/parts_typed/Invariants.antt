use Rattle.std.proofs.Common.{◌≡◌, [], ◌∷◌, drop}
use Rattle.utd_syntax.specs.Read.{read_element, read_element_list}
use Rattle.tree_core.specs.Items.{read_portion}
use Rattle.item_typing.specs.Changes.{parts_typed}
use Rattle.item_typing.proofs.portions.parts_typed.Given as goal

abbrev pub invariant-loop-element : goal.invariant-loop-element
invariant-loop-element l =
    parts_typed l.types l.heading (read_portion l.parts.items) (read_element_list (drop l.element-index l.more)) ≡ parts_typed l.types l.heading [] (read_element l.first ∷ read_element_list l.more)

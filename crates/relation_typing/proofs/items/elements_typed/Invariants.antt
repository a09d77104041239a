use Rattle.std.proofs.Common.{◌≡◌, drop}
use Rattle.utd_syntax.specs.Read.{read_element_list}
use Rattle.relation_typing.specs.Items.{made, none_made, elements_typed}
use Rattle.relation_typing.proofs.items.elements_typed.Given as goal

abbrev pub invariant-loop-element : goal.invariant-loop-element
invariant-loop-element l =
    elements_typed l.types l.from (made l.before) (read_element_list (drop l.element-index l.fn.list)) ≡ elements_typed l.types l.from none_made (read_element_list l.fn.list)

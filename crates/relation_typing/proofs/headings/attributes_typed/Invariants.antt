use Rattle.std.proofs.Common.{◌≡◌, [], drop}
use Rattle.utd_syntax.specs.Read.{read_attribute_list}
use Rattle.relation_typing.specs.Headings.{attributes_typed}
use Rattle.relation_typing.proofs.headings.attributes_typed.Given as goal

abbrev pub invariant-loop-attribute : goal.invariant-loop-attribute
invariant-loop-attribute l =
    attributes_typed l.types l.before.entries (read_attribute_list (drop l.attribute-index l.fn.list)) ≡ attributes_typed l.types [] (read_attribute_list l.fn.list)

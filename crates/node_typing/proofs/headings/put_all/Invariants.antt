use Rattle.std.proofs.Common.{◌≡◌, drop}
use Rattle.node_typing.specs.Headings.{with_all}
use Rattle.node_typing.proofs.headings.put_all.Given as goal

abbrev pub invariant-loop-attribute : goal.invariant-loop-attribute
invariant-loop-attribute l = with_all l.attributes.entries (drop l.attribute-index l.list) ≡ with_all l.fn.attributes.entries l.fn.list

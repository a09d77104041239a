use Rattle.std.proofs.Common.{◌≡◌, ◌++◌, take, not}
use Rattle.std.specs.List.{filter}
use Rattle.value_core.specs.Headings.{has_name}
use Rattle.relation_core.proofs.attributes.append_new.Given as goal

abbrev pub invariant-loop-attribute : goal.invariant-loop-attribute
invariant-loop-attribute l = l.list.items ≡ l.fn.list.items ++ filter (λ a. not (has_name l.known a.0)) (take l.attribute-index l.more)

use Rattle.std.proofs.Common.{List, length, ap, ◌∙◌}
use Rattle.value_core.specs.Values.{Name, Heading}
use Rattle.node_typing.proofs.ListLemmas.{length-names_from}
use Rattle.node_typing.proofs.renamings.renaming_names.Goals as goal

pub returns-clause-one_each : goal.returns-clause-one_each
returns-clause-one_each c =
    ap (λ (l : List Name). length l) c.in_ok-list.ensures ∙ (length-names_from _ 0 c.attributes-2.result.now ∙ ap (λ (h : Heading). length h) c.attributes-2.ensures.list)

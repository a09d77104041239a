use Rattle.std.proofs.Common.{List, ℕ, ap, ◌∙◌}
use Rattle.value_core.specs.Values.{Name}
use Rattle.tree_core.specs.Relvars.{read_relvars}
use Rattle.tree_core.specs.Trees.{read_tree}
use Rattle.declaration_typing.specs.Nodes.{capped, count, nodes_of}
use Rattle.declaration_typing.proofs.CountLemmas.{nodes-capped, few-capped}
use Rattle.declaration_typing.proofs.nodes.are_few.Goals as goal

pub returns : goal.returns
returns c =
    let entries = (read_relvars c.args.relvars.now).relvars in
    let t = read_tree c.args.tree.now in
    few-capped c.count.result (nodes_of entries t)
    (c.count.ensures ∙ (ap (λ (k : List (Name × ℕ)). capped (count k t)) (c.as_slice.ensures.value ∙ c.in_ok-known.ensures) ∙ nodes-capped entries t))

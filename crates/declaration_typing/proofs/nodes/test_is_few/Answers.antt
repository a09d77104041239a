use Rattle.std.proofs.Common.{List, ℕ, ap, ◌∙◌}
use Rattle.value_core.specs.Values.{Name}
use Rattle.tree_core.specs.Relvars.{read_relvars}
use Rattle.tree_core.specs.Trees.{read_test}
use Rattle.declaration_typing.specs.Nodes.{capped, test_count, test_nodes}
use Rattle.declaration_typing.proofs.CountLemmas.{test-capped, few-capped}
use Rattle.declaration_typing.proofs.nodes.test_is_few.Goals as goal

pub returns : goal.returns
returns c =
    let entries = (read_relvars c.args.relvars.now).relvars in
    let t = read_test c.args.test.now in
    few-capped c.test_count.result (test_nodes entries t)
    (c.test_count.ensures ∙ (ap (λ (k : List (Name × ℕ)). capped (test_count k t)) (c.as_slice.ensures.value ∙ c.in_ok-known.ensures) ∙ test-capped entries t))

use Rattle.std.proofs.Common.{sym, subst}
use Rattle.utd_syntax.specs.declared.statement.Kept.{Kept}
use Rattle.utd_syntax.specs.Read.{read_kept, read_list, read_name}
use Rattle.scalar_core.specs.Answers.{Gives}
use Rattle.tree_core.specs.declared.tree.InfixWord.{InfixWord}
use Rattle.tree_core.specs.Trees.{read_tree}
use Rattle.tree_typing.specs.Kept.{infix_of_names, kept_rel}
use Rattle.tree_typing.specs.Scopes.{read_scope}
use Rattle.tree_typing.specs.Trees.{rel_typed}
use Rattle.tree_typing.proofs.kept.in_scope.Goals as goal

pub returns-in-Infix : goal.returns-in-Infix
returns-in-Infix c =
    let i = c.in-Infix in
    subst (λ (k : Kept). Gives read_tree c.infix.result (rel_typed (read_scope c.args.scope) (kept_rel (read_kept k)))) (sym i.is)
    (subst (λ (w : InfixWord). Gives read_tree c.infix.result (infix_of_names (read_scope c.args.scope) i.place (read_list i.list) i.at w (read_name i.l) (read_name i.r)))
    c.infix_named.ensures c.infix.ensures)

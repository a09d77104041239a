use Rattle.std.proofs.Common.{sym, subst}
use Rattle.base_core.specs.Outcomes.{then_give}
use Rattle.relation_core.specs.Answers.{Answers, under}
use Rattle.relation_core.specs.Operators.{extended}
use Rattle.tree_core.specs.Trees.{read_sets}
use Rattle.meaning_core.specs.Meanings.{opened, closed}
use Rattle.meaning_core.specs.Rows.{extended_row}
use Rattle.algebra_core.specs.Surroundings.{around_of}
use Rattle.algebra_core.specs.declared.surrounding.Surrounding.{Surrounding}
use Rattle.algebra_core.proofs.surrounded.extension.Goals as goal

pub returns-in-Plainly-clause-value : goal.returns-in-Plainly-clause-value
returns-in-Plainly-clause-value g c = λ place.
    let h = c.args.heading.now in
    let from = c.args.r.now.heading in
    let rows = c.args.r.now.rows in
    subst (λ (s : Surrounding). Answers c.extended.result (under h (then_give (extended (extended_row from h (read_sets c.args.sets.now)) (opened (around_of s h) from rows)) (closed (around_of s h) place h))))
    (sym c.in-Plainly.is) (c.extended.ensures place)

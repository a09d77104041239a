use Rattle.std.proofs.Common.{sym, subst}
use Rattle.base_core.specs.Outcomes.{then_give}
use Rattle.value_core.specs.Values.{Heading}
use Rattle.scalar_core.specs.Expressions.{read}
use Rattle.relation_core.specs.Answers.{Answers, under}
use Rattle.relation_core.specs.Operators.{restricted}
use Rattle.meaning_core.specs.Meanings.{condition, limited, opened, closed}
use Rattle.algebra_core.specs.Surroundings.{around_of}
use Rattle.algebra_core.specs.declared.surrounding.Surrounding.{Surrounding}
use Rattle.algebra_core.proofs.surrounded.restriction.Goals as goal

pub returns-in-Plainly-clause-value : goal.returns-in-Plainly-clause-value
returns-in-Plainly-clause-value g c = λ place.
    let h = c.args.heading.now in
    let from = c.args.r.now.heading in
    let rows = c.args.r.now.rows in
    let told = subst (λ (k : Heading). Answers c.restricted.result (under k (then_give (restricted (condition (read c.args.c.now)) rows) (limited place))))
    (sym c.requires.restriction.1.headed) (c.restricted.ensures place) in
    subst (λ (s : Surrounding). Answers c.restricted.result (under h (then_give (restricted (condition (read c.args.c.now)) (opened (around_of s h) from rows)) (closed (around_of s h) place h))))
    (sym c.in-Plainly.is) told

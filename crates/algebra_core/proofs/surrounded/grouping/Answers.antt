use Rattle.std.proofs.Common.{◌≡◌, ℕ, List, map, sym, subst, rules}
use Rattle.base_core.specs.Outcomes.{then_give}
use Rattle.relation_core.specs.Answers.{Answers, under}
use Rattle.relation_core.specs.Groups.{rows_at, summarized}
use Rattle.tree_core.specs.Trees.{read_aggregate}
use Rattle.meaning_core.specs.Meanings.{opened, closed}
use Rattle.meaning_core.specs.Rows.{group_row}
use Rattle.eval_using.specs.Using.{around}
use Rattle.algebra_core.specs.Surroundings.{around_of}
use Rattle.algebra_core.specs.declared.surrounding.Surrounding.{Surrounding}
use Rattle.algebra_core.proofs.surrounded.grouping.Goals as goal

pub returns-in-Plainly-clause-value : goal.returns-in-Plainly-clause-value
returns-in-Plainly-clause-value g c = λ place.
    let h = c.args.heading.now in
    let from = c.args.r.now.heading in
    let rows = c.args.r.now.rows in
    let aggregates = map read_aggregate c.args.aggregates.now in
    subst (λ (s : Surrounding). Answers c.summarized.result (under h (then_give
    (summarized c.args.by.now (λ numbers. group_row from h aggregates (rows_at (opened (around_of s h) from rows) numbers)) (opened (around_of s h) from rows))
    (closed (around_of s h) place h))))
    (sym c.in-Plainly.is) (c.summarized.ensures place)

pub returns-in-Using-clause-value : goal.returns-in-Using-clause-value
returns-in-Using-clause-value g c = λ place.
    let h = c.args.heading.now in
    let from = c.args.r.now.heading in
    let rows = c.args.r.now.rows in
    let aggregates = map read_aggregate c.args.aggregates.now in
    let by : c.as_slice.result.now ≡ c.args.by.now = search rules in
    subst (λ (s : Surrounding). Answers c.using_summary.result (under h (then_give
    (summarized c.args.by.now (λ numbers. group_row from h aggregates (rows_at (opened (around_of s h) from rows) numbers)) (opened (around_of s h) from rows))
    (closed (around_of s h) place h))))
    (sym c.in-Using.is)
    (subst (λ (l : List ℕ). Answers c.using_summary.result (under h (then_give
    (summarized l (λ numbers. group_row from h aggregates (rows_at (opened (around c.in-Using.place h c.in-Using.commalist.now) from rows) numbers)) (opened (around c.in-Using.place h c.in-Using.commalist.now) from rows))
    (closed (around c.in-Using.place h c.in-Using.commalist.now) place h))))
    by c.using_summary.ensures.value)

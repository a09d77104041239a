use Rattle.std.proofs.Common.{ℕ, List, [], ◌∷◌, sym, subst, arith}
use Rattle.scalar_core.specs.Expressions.{read}
use Rattle.relation_core.specs.Answers.{Answers, under}
use Rattle.eval_using.specs.Cells.{cells_of_all}
use Rattle.assign_core.specs.Portions.{portion_rows}
use Rattle.assign_core.proofs.reduction.portion_rows.Goals as goal

pub restricted-requires : goal.restricted-requires
restricted-requires g c = c.requires.condition.typed

pub returns-then-lists_none-clause-value : goal.returns-then-lists_none-clause-value
returns-then-lists_none-clause-value g c =
    let p = c.args.portion in
    let of = c.args.of.now in
    subst (λ (l : List ℕ). Answers c.restricted.result (under of.heading (portion_rows p.place l (read p.condition.now) of.rows))) (sym (c.lists_none.ensures.none c.if-lists_none.true))
    (c.restricted.ensures p.place)

pub returns-clause-cost : goal.returns-clause-cost
returns-clause-cost g c =
    let p = c.args.portion in
    let of = c.args.of.now in
    let same = c.lists_none.ensures.some c.if-lists_none.false (cells_of_all p.commalist.now (read p.condition.now ∷ []) of.rows) in
    let taken = c.rows_at_points.ensures.cost in
    omega (arith, same, taken)

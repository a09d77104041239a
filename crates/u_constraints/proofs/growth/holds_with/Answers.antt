use Rattle.std.proofs.Common.{◌∙◌, sym, option_map}
use Rattle.base_core.proofs.SetLemmas.{Ascends-from_sorted}
use Rattle.value_core.specs.Values.{row_cmp}
use Rattle.u_constraints.specs.Constraints.{rows_or_none}
use Rattle.u_constraints.proofs.GrowthLemmas.{none_broken, came_answer, came_cost}
use Rattle.u_constraints.proofs.TellingLemmas.{told_none}
use Rattle.u_constraints.proofs.growth.holds_with.Goals as goal

pub returns-then-is_empty-clause-answer : goal.returns-then-is_empty-clause-answer
returns-then-is_empty-clause-answer g c =
    none_broken c.args.c.now c.args.change.of.now c.args.change.gone.now.rows c.args.change.come.now.rows _ c.rows.result.now _ c.is_empty.result c.heading.ensures.relation c.requires.fits c.rows.ensures.rows
    c.is_empty.ensures c.if-is_empty.true c.requires.held

pub rest-requires-clause-few : goal.rest-requires-clause-few
rest-requires-clause-few g c = c.rows.ensures.relation.few

pub returns-in_ok-left-in-None-clause-answer : goal.returns-in_ok-left-in-None-clause-answer
returns-in_ok-left-in-None-clause-answer g c =
    let others = rows_or_none (option_map (λ r. r.now) c.args.other) in
    let names = told_none c.args.c.now _ (sym c.in-None.is ∙ c.in_ok-positions.ensures) in
    came_answer c.args.c.now c.args.change.of.now.rows c.args.change.gone.now.rows c.args.change.come.now.rows others _ c.in_ok-left-in-None.ensures.1 c.holds.result names c.requires.held c.holds.ensures.answer

pub returns-in_ok-left-in-None-clause-cost : goal.returns-in_ok-left-in-None-clause-cost
returns-in_ok-left-in-None-clause-cost g c =
    let others = rows_or_none (option_map (λ r. r.now) c.args.other) in
    came_cost c.args.c.now c.args.change.of.now.rows c.args.change.gone.now.rows c.args.change.come.now.rows others _ c.in_ok-left-in-None.ensures.1 (Ascends-from_sorted row_cmp c.args.change.come.now.rows c.rows.ensures.relation.ascending)
    _ _ c.holds.ensures.cost

use Rattle.std.proofs.Common.{◌≡◌, ◌∙◌, List, ap, arith, option_map}
use Rattle.value_core.specs.Values.{Row, most_rows}
use Rattle.relation_core.proofs.FilterLemmas.{rows_ascend}
use Rattle.relation_core.specs.Operators.{subtracted, united}
use Rattle.u_constraints.specs.Constraints.{rows_or_none, heading_or_none}
use Rattle.u_constraints.specs.Growth.{exchanged}
use Rattle.u_constraints.proofs.GrowthLemmas.{come_alone, all_few, moved_answer, moved_cost}
use Rattle.u_constraints.proofs.TellsLemmas.{tells_rows, tells_joined}
use Rattle.u_constraints.proofs.growth.holds_by.Goals as goal

pub rows_that_tell-requires-clause-fits : goal.rows_that_tell-requires-clause-fits
rows_that_tell-requires-clause-fits g c = (heading_or_none (option_map (λ r. r.now) c.args.other), c.requires.fits)

pub returns-then-are_both_empty-clause-answer : goal.returns-then-are_both_empty-clause-answer
returns-then-are_both_empty-clause-answer g c =
    let of = c.args.change.of.now.rows in
    let come = c.args.change.come.now.rows in
    let gone = c.args.change.gone.now.rows in
    let few = exchanged c.in_ok-part.part.rows gone come in
    let others = rows_or_none (option_map (λ r. r.now) c.args.other) in
    let none = c.are_both_empty.ensures c.if-are_both_empty.true in
    let rows : come ≡ few = come_alone come c.in_ok-part.part.rows gone (rows_ascend c.args.change.come.now c.requires.relation_come) none.0 none.1 in
    moved_answer c.args.c.now come few (exchanged of gone come) others rows c.holds.result (c.in_ok-part.ensures.1.same gone others c.requires.held) c.holds.ensures.answer

pub returns-then-are_both_empty-clause-cost : goal.returns-then-are_both_empty-clause-cost
returns-then-are_both_empty-clause-cost g c =
    let of = c.args.change.of.now.rows in
    let come = c.args.change.come.now.rows in
    let gone = c.args.change.gone.now.rows in
    let few = exchanged c.in_ok-part.part.rows gone come in
    let others = rows_or_none (option_map (λ r. r.now) c.args.other) in
    let none = c.are_both_empty.ensures c.if-are_both_empty.true in
    let rows : come ≡ few = come_alone come c.in_ok-part.part.rows gone (rows_ascend c.args.change.come.now c.requires.relation_come) none.0 none.1 in
    moved_cost c.args.c.now come few (exchanged of gone come) others rows _ _ (tells_rows c.args.c.now of come c.in_ok-part.part.rows c.in_ok-part.ensures.1 gone) c.holds.ensures.cost

pub joined-requires-clause-few : goal.joined-requires-clause-few
joined-requires-clause-few g c =
    let less = tells_joined c.args.c.now c.args.change.of.now.rows c.args.change.come.now.rows c.in_ok-part.part.rows c.in_ok-part.ensures.1 in
    let few = c.requires.few in
    omega (arith, less, few)

pub left_of-requires-clause-few : goal.left_of-requires-clause-few
left_of-requires-clause-few g c =
    let of = c.args.change.of.now.rows in
    let come = c.args.change.come.now.rows in
    all_few most_rows c.in_ok-all.all.rows (united c.in_ok-part.part.rows come) (united of come) c.in_ok-all.ensures.1 (tells_joined c.args.c.now of come c.in_ok-part.part.rows c.in_ok-part.ensures.1) c.requires.few

pub returns-clause-answer : goal.returns-clause-answer
returns-clause-answer g c =
    let of = c.args.change.of.now.rows in
    let come = c.args.change.come.now.rows in
    let gone = c.args.change.gone.now.rows in
    let few = exchanged c.in_ok-part.part.rows gone come in
    let others = rows_or_none (option_map (λ r. r.now) c.args.other) in
    let rows : c.in_ok-small.small.rows ≡ few = c.in_ok-small.ensures.1 ∙ ap (λ (rs : List Row). subtracted rs gone) c.in_ok-all.ensures.1 in
    moved_answer c.args.c.now c.in_ok-small.small.rows few (exchanged of gone come) others rows c.holds-2.result (c.in_ok-part.ensures.1.same gone others c.requires.held) c.holds-2.ensures.answer

pub returns-clause-cost : goal.returns-clause-cost
returns-clause-cost g c =
    let of = c.args.change.of.now.rows in
    let come = c.args.change.come.now.rows in
    let gone = c.args.change.gone.now.rows in
    let few = exchanged c.in_ok-part.part.rows gone come in
    let others = rows_or_none (option_map (λ r. r.now) c.args.other) in
    let rows : c.in_ok-small.small.rows ≡ few = c.in_ok-small.ensures.1 ∙ ap (λ (rs : List Row). subtracted rs gone) c.in_ok-all.ensures.1 in
    moved_cost c.args.c.now c.in_ok-small.small.rows few (exchanged of gone come) others rows _ _ (tells_rows c.args.c.now of come c.in_ok-part.part.rows c.in_ok-part.ensures.1 gone) c.holds-2.ensures.cost

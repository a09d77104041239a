use Rattle.std.proofs.Common.{◌≡◌, List, ap, ◌∙◌}
use Rattle.value_core.specs.Values.{Row, most_rows}
use Rattle.relation_core.specs.Operators.{subtracted, united}
use Rattle.u_set.proofs.ApartLemmas.{if_ok}
use Rattle.u_constraints.specs.Near.{with_keys}
use Rattle.u_constraints.proofs.AcrossLemmas.{near_joined}
use Rattle.u_constraints.proofs.GrowthLemmas.{all_few, few_enough}
use Rattle.u_constraints.proofs.across.left_near.Goals as goal

pub joined-requires-clause-few : goal.joined-requires-clause-few
joined-requires-clause-few c =
    few_enough most_rows _ _ _ _ c.in_ok-old.ensures.rows.1
    (near_joined c.args.positions.now c.args.keys.now c.args.change.of.now.rows c.args.change.gone.now.rows c.args.change.come.now.rows) c.requires.few

pub left_of-requires-clause-few : goal.left_of-requires-clause-few
left_of-requires-clause-few c =
    let of = c.args.change.of.now.rows in
    let come = c.args.change.come.now.rows in
    let all : c.in_ok-all.all.rows ≡ united (with_keys c.args.positions.now c.args.keys.now of) come = c.in_ok-all.ensures.1 ∙ ap (λ (rs : List Row). united rs come) c.in_ok-old.ensures.rows.1 in
    all_few most_rows _ _ (united of come) all (near_joined c.args.positions.now c.args.keys.now of c.args.change.gone.now.rows come) c.requires.few

pub returns : goal.returns
returns c =
    let of = c.args.change.of.now.rows in
    let come = c.args.change.come.now.rows in
    let gone = c.args.change.gone.now.rows in
    let heading = c.in_ok-all.ensures.0 ∙ c.in_ok-old.ensures.rows.0 in
    let rows = ap (λ (rs : List Row). subtracted rs gone) (c.in_ok-all.ensures.1 ∙ ap (λ (rs : List Row). united rs come) c.in_ok-old.ensures.rows.1) in
    if_ok _ _ (λ r e. (e.0 ∙ heading, e.1 ∙ rows)) c.left_of.result c.left_of.ensures

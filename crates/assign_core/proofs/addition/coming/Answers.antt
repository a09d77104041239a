use Rattle.std.proofs.Common.{◌≡◌, List, [], length, ap, ◌∙◌, arith}
use Rattle.base_core.proofs.SetLemmas.{Ascends-from_sorted}
use Rattle.value_core.specs.Values.{row_cmp, Row, Relation}
use Rattle.relation_core.specs.Operators.{united}
use Rattle.u_constraints.specs.Growth.{exchanged}
use Rattle.assign_core.proofs.TurnoverLemmas.{long_exchanged, none_go, united_new}
use Rattle.assign_core.proofs.addition.coming.Goals as goal

pub returns-clause-exchange : goal.returns-clause-exchange
returns-clause-exchange c =
    let value = c.args.value.now in
    let come = c.args.come in
    let none : c.in_ok-gone.gone.rows ≡ [] = ap (λ (r : Relation). r.rows) c.in_ok-gone.ensures in
    let long = long_exchanged value.rows c.requires.new.0 come.rows c.in_ok-gone.gone.rows (Ascends-from_sorted row_cmp value.rows c.rows-own.ensures.relation.ascending)
    (Ascends-from_sorted row_cmp come.rows c.rows-rows.ensures.relation.ascending) c.requires.new.1 none in
    let nothing : length c.in_ok-gone.gone.rows ≡ 0 = ap (λ (r : List Row). length r) none in
    record { come = c.requires.heading; gone = ap (λ (r : Relation). r.heading) c.in_ok-gone.ensures; counted = omega (arith, long, nothing) }

pub returns-clause-rows : goal.returns-clause-rows
returns-clause-rows c = λ rows new.
    let value = c.args.value.now in
    let none : c.in_ok-gone.gone.rows ≡ [] = ap (λ (r : Relation). r.rows) c.in_ok-gone.ensures in
    ap (λ (rs : List Row). exchanged value.rows rs c.args.come.rows) none ∙ none_go value.rows c.args.come.rows ∙ ap (united value.rows) new ∙ united_new value.rows rows

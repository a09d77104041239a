use Rattle.std.proofs.Common.{◌≡◌, ◌<◌, ◌≤◌, ◌+◌, length, sym, ap, subst, ◌∙◌, arith, Some, None}
use Rattle.std.specs.Result.{result_err}
use Rattle.value_core.specs.declared.constraint.Constraint.{Constraint}
use Rattle.u_constraints.specs.Constraints.{broken}
use Rattle.assign_core.specs.Breaches.{rows_named}
use Rattle.assign_core.specs.Costs.{cost_over}
use Rattle.assign_core.specs.Turnovers.{after_turnover, rows_after}
use Rattle.assign_core.proofs.CheckLemmas.{kept_turn, broken_turn, all_kept}
use Rattle.assign_core.proofs.CostLemmas.{left_kept}
use Rattle.assign_core.proofs.turnover.check_list.Goals as goal

pub returns-in-Err-clause-told : goal.returns-in-Err-clause-told
returns-in-Err-clause-told g c =
    let all = after_turnover c.args.turnover in
    let rows = rows_after c.args.turnover c.args.own.changes c.args.own.of.now.rows in
    let item = c.index-list-at.result in
    let within : c.loop-at.at < length c.args.list.now = omega arith in
    let here = sym (ap result_err c.in-Err.is) ∙ c.in_ok-answer.ensures.answer in
    let told = subst (λ (x : Constraint). Some c.in-Err.code ≡ broken x rows (rows_named all x)) c.index-list-at.is here in
    broken_turn all c.args.name.now rows c.loop-at.at c.args.list.now item c.in-Err.code c.breach.result within c.loop-at.invariant.kept told c.breach.ensures

pub loop-at-preserved : goal.loop-at-preserved
loop-at-preserved g c =
    let all = after_turnover c.args.turnover in
    let rows = rows_after c.args.turnover c.args.own.changes c.args.own.of.now.rows in
    let item = c.index-list-at.result in
    let within : c.loop-at.at < length c.args.list.now = omega arith in
    let here = sym (ap result_err c.in_default.is) ∙ c.in_ok-answer.ensures.answer in
    let told = subst (λ (x : Constraint). None ≡ broken x rows (rows_named all x)) c.index-list-at.is here in
    record {
      kept = kept_turn all c.args.name.now rows c.loop-at.at c.args.list.now item within c.loop-at.invariant.kept told;
      cost =
          let one = subst (λ (x : Constraint). c.check_one.new.steps ≤ c.loop-at.steps + cost_over all rows x) c.index-list-at.is c.check_one.ensures.cost in
          let left = left_kept all rows c.loop-at.at c.args.list.now item within told in
          let so_far = c.loop-at.invariant.cost in
          omega (arith, one, left, so_far);
    }

pub returns-clause-told : goal.returns-clause-told
returns-clause-told g c =
    all_kept (after_turnover c.args.turnover) c.args.name.now (rows_after c.args.turnover c.args.own.changes c.args.own.of.now.rows) c.loop-at.at c.args.list.now c.loop-at-test.false c.loop-at.invariant.kept

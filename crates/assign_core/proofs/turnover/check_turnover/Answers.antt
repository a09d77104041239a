use Rattle.std.proofs.Common.{◌<◌, ◌≤◌, [], length, map, ◌∙◌, arith}
use Rattle.std.proofs.lemmas.Result.{err_from_is_err_and}
use Rattle.value_core.specs.Values.{Name}
use Rattle.tree_core.specs.Relvars.{PlainRelvar, read_entry, base}
use Rattle.assign_core.specs.Turnovers.{after_turnover}
use Rattle.relvar_logs.proofs.EntryLemmas.{entries_length}
use Rattle.assign_core.proofs.CheckLemmas.{relvar_kept, relvar_broken, relvars_kept}
use Rattle.assign_core.proofs.CostLemmas.{relvar_left, relvars_left}
use Rattle.assign_core.proofs.TurnoverLemmas.{length_renewed}
use Rattle.assign_core.proofs.turnover.check_turnover.Goals as goal

none : Name × PlainRelvar
none = ([], base (record { heading = []; rows = [] }) [])

pub returns-in_err-check_at-clause-told : goal.returns-in_err-check_at-clause-told
returns-in_err-check_at-clause-told g c =
    let raw = c.args.turnover.relvars.now.list.entries in
    let es = after_turnover c.args.turnover in
    let long = length_renewed (map read_entry raw) c.args.turnover.at c.args.turnover.rows.now ∙ entries_length raw in
    let at : c.loop-at.at < length raw = omega arith in
    let within : c.loop-at.at < length es = omega (arith, long, at) in
    let p = err_from_is_err_and c.from_residual.result c.from_residual.ensures.1 in
    rw (p.1, p.2) (relvar_broken es c.loop-at.at es none c.in_err-check_at.field-0.0 within c.loop-at.invariant.kept (c.in_err-check_at.ensures.told none))

pub returns-in_err-check_at-clause-cost : goal.returns-in_err-check_at-clause-cost
returns-in_err-check_at-clause-cost g c =
    let raw = c.args.turnover.relvars.now.list.entries in
    let es = after_turnover c.args.turnover in
    let long = length_renewed (map read_entry raw) c.args.turnover.at c.args.turnover.rows.now ∙ entries_length raw in
    let at : c.loop-at.at < length raw = omega arith in
    let within : c.loop-at.at < length es = omega (arith, long, at) in
    let one = c.check_at.ensures.cost none in
    let left = relvar_left es c.loop-at.at es none within in
    let so_far = c.loop-at.invariant.cost in
    omega (arith, one, left, so_far)

pub loop-at-preserved : goal.loop-at-preserved
loop-at-preserved g c =
    let raw = c.args.turnover.relvars.now.list.entries in
    let es = after_turnover c.args.turnover in
    let long = length_renewed (map read_entry raw) c.args.turnover.at c.args.turnover.rows.now ∙ entries_length raw in
    let at : c.loop-at.at < length raw = omega arith in
    let within : c.loop-at.at < length es = omega (arith, long, at) in
    record {
      kept = relvar_kept es c.loop-at.at es none within c.loop-at.invariant.kept (c.in_ok-check_at.ensures.told none);
      cost =
          let one = c.check_at.ensures.cost none in
          let left = relvars_left es c.loop-at.at es none within (c.in_ok-check_at.ensures.told none) in
          let so_far = c.loop-at.invariant.cost in
          omega (arith, one, left, so_far);
    }

pub returns-clause-told : goal.returns-clause-told
returns-clause-told g c =
    let raw = c.args.turnover.relvars.now.list.entries in
    let es = after_turnover c.args.turnover in
    let long = length_renewed (map read_entry raw) c.args.turnover.at c.args.turnover.rows.now ∙ entries_length raw in
    let end : length raw ≤ c.loop-at.at = omega arith in
    relvars_kept es c.loop-at.at es (omega (arith, long, end)) c.loop-at.invariant.kept

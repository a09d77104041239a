use Rattle.std.proofs.Common.{◌≡◌, ◌<◌, ◌≤◌, [], length, map, ◌∙◌, arith}
use Rattle.std.proofs.lemmas.Result.{err_from_is_err_and}
use Rattle.value_core.specs.Values.{Name}
use Rattle.tree_core.specs.Relvars.{PlainRelvar, read_entry, base}
use Rattle.assign_core.specs.Checks.{after}
use Rattle.relvar_logs.proofs.EntryLemmas.{entries_length}
use Rattle.assign_core.proofs.ChangeLemmas.{same_length}
use Rattle.assign_core.proofs.CheckLemmas.{relvar_kept, relvar_broken, relvars_kept, checked_at}
use Rattle.assign_core.proofs.CostLemmas.{relvar_left, relvars_left}
use Rattle.assign_core.proofs.CountLemmas.{changed_length}
use Rattle.assign_core.proofs.checking.check.Goals as goal

none : Name × PlainRelvar
none = ([], base (record { heading = []; rows = [] }) [])

pub check_at-requires-clause-length : goal.check_at-requires-clause-length
check_at-requires-clause-length g c =
    let raw = c.args.new.relvars.now.list.entries in
    same_length c.args.new.changes.now (map read_entry raw) c.requires.changes ∙ entries_length raw

pub check_at-requires-clause-within : goal.check_at-requires-clause-within
check_at-requires-clause-within g c =
    let raw = c.args.new.relvars.now.list.entries in
    let long : length c.args.new.changes.now ≡ length raw = same_length c.args.new.changes.now (map read_entry raw) c.requires.changes ∙ entries_length raw in
    let at : c.loop-at.at < length c.args.new.changes.now = omega arith in
    omega (arith, long, at)

pub check_at-requires-clause-checked : goal.check_at-requires-clause-checked
check_at-requires-clause-checked g c d =
    let raw = c.args.new.relvars.now.list.entries in
    let es = after c.args.new in
    let same = same_length c.args.new.changes.now (map read_entry raw) c.requires.changes in
    let long = changed_length c.args.new.changes.now (map read_entry raw) same in
    let at : c.loop-at.at < length c.args.new.changes.now = omega arith in
    let within : c.loop-at.at < length es = omega (arith, long, same, at) in
    checked_at es es c.loop-at.at d within c.requires.checked

pub returns-in_err-check_at-clause-told : goal.returns-in_err-check_at-clause-told
returns-in_err-check_at-clause-told g c =
    let raw = c.args.new.relvars.now.list.entries in
    let es = after c.args.new in
    let same = same_length c.args.new.changes.now (map read_entry raw) c.requires.changes in
    let long = changed_length c.args.new.changes.now (map read_entry raw) same in
    let at : c.loop-at.at < length c.args.new.changes.now = omega arith in
    let within : c.loop-at.at < length es = omega (arith, long, same, at) in
    let p = err_from_is_err_and c.from_residual.result c.from_residual.ensures.1 in
    rw (p.1, p.2) (relvar_broken es c.loop-at.at es none c.in_err-check_at.field-0.0 within c.loop-at.invariant.kept (c.in_err-check_at.ensures.told none))

pub returns-in_err-check_at-clause-cost : goal.returns-in_err-check_at-clause-cost
returns-in_err-check_at-clause-cost g c =
    let raw = c.args.new.relvars.now.list.entries in
    let es = after c.args.new in
    let same = same_length c.args.new.changes.now (map read_entry raw) c.requires.changes in
    let long = changed_length c.args.new.changes.now (map read_entry raw) same in
    let at : c.loop-at.at < length c.args.new.changes.now = omega arith in
    let within : c.loop-at.at < length es = omega (arith, long, same, at) in
    let one = c.check_at.ensures.cost none in
    let left = relvar_left es c.loop-at.at es none within in
    let so_far = c.loop-at.invariant.cost in
    omega (arith, one, left, so_far)

pub loop-at-preserved : goal.loop-at-preserved
loop-at-preserved g c =
    let raw = c.args.new.relvars.now.list.entries in
    let es = after c.args.new in
    let same = same_length c.args.new.changes.now (map read_entry raw) c.requires.changes in
    let long = changed_length c.args.new.changes.now (map read_entry raw) same in
    let at : c.loop-at.at < length c.args.new.changes.now = omega arith in
    let within : c.loop-at.at < length es = omega (arith, long, same, at) in
    record {
      kept = relvar_kept es c.loop-at.at es none within c.loop-at.invariant.kept (c.in_ok-check_at.ensures.told none);
      cost =
          let one = c.check_at.ensures.cost none in
          let left = relvars_left es c.loop-at.at es none within (c.in_ok-check_at.ensures.told none) in
          let so_far = c.loop-at.invariant.cost in
          omega (arith, one, left, so_far);
    }

pub returns-clause-told : goal.returns-clause-told
returns-clause-told g c =
    let raw = c.args.new.relvars.now.list.entries in
    let es = after c.args.new in
    let same = same_length c.args.new.changes.now (map read_entry raw) c.requires.changes in
    let long = changed_length c.args.new.changes.now (map read_entry raw) same in
    let end : length c.args.new.changes.now ≤ c.loop-at.at = omega arith in
    relvars_kept es c.loop-at.at es (omega (arith, long, same, end)) c.loop-at.invariant.kept

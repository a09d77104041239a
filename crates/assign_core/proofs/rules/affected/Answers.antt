use Rattle.std.proofs.Common.{◌<◌, [], length, map, sym, ◌∙◌, arith}
use Rattle.value_core.specs.Values.{Name}
use Rattle.tree_core.specs.Relvars.{PlainRelvar, base, read_relvars}
use Rattle.relvar_logs.proofs.EntryLemmas.{entries_length}
use Rattle.assign_core.proofs.LeaningLemmas.{next_affected}
use Rattle.assign_core.proofs.rules.affected.Goals as goal

none : Name × PlainRelvar
none = ([], base (record { heading = []; rows = [] }) [])

pub loop-at-preserved : goal.loop-at-preserved
loop-at-preserved c =
    let es = (read_relvars c.args.relvars.now).relvars in
    let long = entries_length c.args.relvars.now.list.entries in
    let test = c.loop-at-test.true in
    let end = c.len-at-end.ensures.len in
    let within : c.loop-at.at < length es = omega (arith, long, test, end) in
    sym (next_affected c.args.ready.now (map (λ n. n.now) c.loop-at.names.items) (map (λ n. n.now) c.add_affected.new.names.items) es c.loop-at.at none within (c.in_ok-add_affected.ensures none))
    ∙ c.loop-at.invariant

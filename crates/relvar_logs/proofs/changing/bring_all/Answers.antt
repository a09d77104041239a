use Rattle.std.proofs.Common.{◌≡◌, ◌≤◌, ℤ, map, sym, subst, arith, w64, to_z, of_z}
use Rattle.std.proofs.lemmas.Int.{to_z-of_z}
use Rattle.tree_core.specs.Relvars.{read_entry}
use Rattle.meaning_core.specs.Logs.{AreInStep}
use Rattle.relvar_logs.specs.Passed.{ArePassed}
use Rattle.relvar_logs.proofs.EntryLemmas.{entries_length}
use Rattle.relvar_logs.proofs.PassedLemmas.{passed_logs, passed_step}
use Rattle.relvar_logs.proofs.changing.bring_all.Goals as goal

pub returns-clause-list : goal.returns-clause-list
returns-clause-list c es are =
    let number : to_z w64 (of_z w64 c.args.number) ≡ c.args.number = to_z-of_z w64 c.args.number c.ranges.number in
    let fs = map read_entry c.loop-at.relvars.list.entries in
    let len = c.len-count.ensures.len in
    let same = c.loop-at.invariant.length in
    let read = entries_length c.loop-at.relvars.list.entries in
    let end : c.len-count.result ≤ c.loop-at.at = omega arith in
    passed_logs (to_z w64 (of_z w64 c.args.number)) es fs c.loop-at.at (omega (arith, len, same, read, end)) (c.loop-at.invariant.passed es (subst (λ (k : ℤ). ArePassed k es 0 es (map read_entry c.args.relvars.now.list.entries)) (sym number) are))

pub returns-clause-step : goal.returns-clause-step
returns-clause-step c es are =
    let number : to_z w64 (of_z w64 c.args.number) ≡ c.args.number = to_z-of_z w64 c.args.number c.ranges.number in
    let fs = map read_entry c.loop-at.relvars.list.entries in
    let len = c.len-count.ensures.len in
    let same = c.loop-at.invariant.length in
    let read = entries_length c.loop-at.relvars.list.entries in
    let end : c.len-count.result ≤ c.loop-at.at = omega arith in
    subst (λ (k : ℤ). AreInStep k (map read_entry c.loop-at.relvars.list.entries)) number (passed_step (to_z w64 (of_z w64 c.args.number)) es fs c.loop-at.at (omega (arith, len, same, read, end)) (c.loop-at.invariant.passed es (subst (λ (k : ℤ). ArePassed k es 0 es (map read_entry c.args.relvars.now.list.entries)) (sym number) are)))

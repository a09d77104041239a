use Rattle.std.proofs.Common.{◌≡◌, ◌≤◌, ◌+◌, ◌-◌, ◌<◌, ℕ, suc, length, map, take, subst, arith}
use Rattle.tree_core.specs.Relvars.{read_entry}
use Rattle.relvar_logs.specs.Changes.{IsSoAt}
use Rattle.relvar_logs.specs.LoggedChanges.{logs_of}
use Rattle.relvar_logs.specs.Room.{rows_of_logs}
use Rattle.relvar_logs.proofs.EntryLemmas.{entries_length}
use Rattle.relvar_logs.proofs.FittingLemmas.{IsFit, rows_more, logs_more, fit_more, all_fit_in}
use Rattle.relvar_logs.proofs.changing.room_for_change.Goals as goal

pub loop-at-preserved : goal.loop-at-preserved
loop-at-preserved c =
    let es = map read_entry c.args.relvars.now.list.entries in
    let name = c.args.name.now in
    let more = c.args.more in
    let at = c.loop-at.at in
    let count = c.in_ok-count.count in
    let one : suc at ≡ at + 1 = omega arith in
    let less : c.in_ok-count.count ≤ c.loop-at.room = c.if-count-room.false in
    let single : c.loop-at.own + c.logs_at-own.result ≤ 1 = omega arith in
    let rows = rows_more name more es at count c.in_ok-count.ensures in
    let logs = logs_more name more es at c.logs_at-own.result c.logs_at-own.ensures.own in
    let before = c.loop-at.invariant.rows in
    let told = c.loop-at.invariant.logs in
    record {
      rows = subst (λ (k : ℕ). rows_of_logs (take k (map read_entry c.args.relvars.now.list.entries)) + c.args.more + (c.loop-at.room - c.in_ok-count.count) ≤ c.args.most) one (omega (arith, rows, less, before));
      logs = subst (λ (k : ℕ). length (logs_of c.args.name.now (take k (map read_entry c.args.relvars.now.list.entries))) ≤ c.loop-at.own + c.logs_at-own.result) one (omega (arith, logs, told));
      one = single;
      fit = subst (λ (k : ℕ). (i : ℕ) → i < k → IsSoAt i (IsFit c.args.name.now c.args.more) (map read_entry c.args.relvars.now.list.entries)) one (fit_more name more es at count c.loop-at.invariant.fit c.in_ok-count.ensures);
    }

pub returns : goal.returns
returns c =
    let raw = c.args.relvars.now.list.entries in
    let read = entries_length raw in
    let len = c.len-at-end.ensures.len in
    let end : length raw ≤ c.loop-at.at = omega (arith, len) in
    let i = c.loop-at.invariant in
    all_fit_in c.args.name.now c.args.more (map read_entry raw) c.loop-at.at c.args.most c.loop-at.room c.loop-at.own (omega (arith, read, end)) i.fit i.rows i.logs i.one

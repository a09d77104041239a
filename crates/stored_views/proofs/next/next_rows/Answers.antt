use Rattle.std.proofs.Common.{◌≡◌, ◌≤◌, ◌+◌, ℕ, suc, List, Option, length, map, drop, sym, ap, ◌∙◌, subst, arith}
use Rattle.value_core.specs.Values.{Relation}
use Rattle.tree_core.specs.Relvars.{read_entry}
use Rattle.relvar_logs.specs.Changes.{changed}
use Rattle.relvar_logs.proofs.EntryLemmas.{entries_length}
use Rattle.stored_views.specs.Moves.{moves_among}
use Rattle.stored_views.specs.NextRows.{renewed}
use Rattle.stored_views.proofs.KindLemmas.{stored-changed}
use Rattle.stored_views.proofs.MoveLemmas.{next_cost}
use Rattle.stored_views.proofs.NextLemmas.{AreNextOf, next_more, next_all, next_places, one_longer}
use Rattle.stored_views.proofs.next.next_rows.Goals as goal

pub returns-in_err-next-clause-cost : goal.returns-in_err-next-clause-cost
returns-in_err-next-clause-cost g c =
    let es = map read_entry c.args.relvars.now.list.entries in
    let all = changed c.args.changes.now es in
    let at = c.loop-at.at in
    let next = next_cost es all es at c.loop-at.steps c.next_at.new.steps (c.args.steps.now + moves_among es all es) c.next_at.ensures.cost c.loop-at.invariant.cost in
    omega (arith, next)

pub loop-at-preserved : goal.loop-at-preserved
loop-at-preserved g c =
    let es = map read_entry c.args.relvars.now.list.entries in
    let all = changed c.args.changes.now es in
    let rows = c.args.stored.now in
    let at = c.loop-at.at in
    let one : suc at ≡ at + 1 = omega arith in
    let len = c.len-at-end.ensures.len in
    let below : at + 1 ≤ length c.args.relvars.now.list.entries = omega (arith, len) in
    let next = next_cost es all es at c.loop-at.steps c.next_at.new.steps (c.args.steps.now + moves_among es all es) c.next_at.ensures.cost c.loop-at.invariant.cost in
    record {
      next = subst (λ (l : List (Option Relation)). AreNextOf all rows l es) (sym c.in_ok-push.ensures.items)
          (next_more all rows c.loop-at.list.items es at c.in_ok-next.next c.loop-at.invariant.many c.loop-at.invariant.next c.in_ok-next.ensures.next);
      many = ap length c.in_ok-push.ensures.items ∙ (one_longer c.loop-at.list.items c.in_ok-next.next ∙ ap (λ (k : ℕ). k + 1) c.loop-at.invariant.many);
      within = below;
      cost = subst (λ (k : ℕ). c.next_at.new.steps + moves_among es all (drop k es) ≤ c.args.steps.now + moves_among es all es) one next;
    }

pub returns-in_err-push-clause-cost : goal.returns-in_err-push-clause-cost
returns-in_err-push-clause-cost g c =
    let es = map read_entry c.args.relvars.now.list.entries in
    let all = changed c.args.changes.now es in
    let at = c.loop-at.at in
    let next = next_cost es all es at c.loop-at.steps c.next_at.new.steps (c.args.steps.now + moves_among es all es) c.next_at.ensures.cost c.loop-at.invariant.cost in
    omega (arith, next)

pub returns-clause-stored : goal.returns-clause-stored
returns-clause-stored g c =
    let raw = c.args.relvars.now.list.entries in
    let es = map read_entry raw in
    let all = changed c.args.changes.now es in
    let next = c.loop-at.list.items in
    let rows = c.args.stored.now in
    let read = entries_length raw in
    let many = c.loop-at.invariant.many in
    let within = c.loop-at.invariant.within in
    let len = c.len-at-end.ensures.len in
    let end : length raw ≤ c.loop-at.at = omega (arith, len) in
    stored-changed all c.args.changes.now es (renewed next rows) (next_all all rows next es (omega (arith, read, many, within, end)) c.loop-at.invariant.next)

pub returns-clause-places : goal.returns-clause-places
returns-clause-places g c =
    let es = map read_entry c.args.relvars.now.list.entries in
    next_places (changed c.args.changes.now es) c.args.stored.now c.loop-at.list.items es c.loop-at.invariant.next

use Rattle.std.proofs.Common.{◌≡◌, ◌+◌, ◌++◌, ◌∷◌, [], ℕ, suc, List, Option, map, length, take, sym, subst, ap, ◌∙◌, arith}
use Rattle.log_times.specs.Kept.{PlainLog}
use Rattle.tree_core.specs.Relvars.{read_entry, read_relvars}
use Rattle.relvar_logs.specs.Changes.{changed}
use Rattle.relvar_logs.specs.Turning.{AreNext}
use Rattle.relvar_logs.proofs.NextLemmas.{next_more, one_longer}
use Rattle.relvar_logs.proofs.next.next_logs.Goals as goal

pub loop-at-preserved : goal.loop-at-preserved
loop-at-preserved c =
    let es = map read_entry c.args.relvars.now.list.entries in
    let n = (read_relvars c.args.relvars.now).accepted in
    let all = changed c.args.changes.now es in
    let at = c.loop-at.at in
    let one : suc at ≡ at + 1 = omega arith in
    let more = next_more n all c.loop-at.list.items es at c.in_ok-next.next c.loop-at.invariant.many c.loop-at.invariant.next c.in_ok-next.ensures.next in
    record {
      next = subst (λ (ts : List (Option PlainLog)). AreNext n all ts (take (at + 1) es)) (sym c.in_ok-push.ensures.items)
          (subst (λ (k : ℕ). AreNext n all (c.loop-at.list.items ++ c.in_ok-next.next ∷ []) (take k es)) one more);
      many = ap length c.in_ok-push.ensures.items ∙ (one_longer c.loop-at.list.items c.in_ok-next.next ∙ ap (λ (k : ℕ). k + 1) c.loop-at.invariant.many);
    }

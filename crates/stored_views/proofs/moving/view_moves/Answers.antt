use Rattle.std.proofs.Common.{◌≡◌, ◌≤◌, ◌<◌, ◌+◌, ℕ, suc, List, Option, length, map, drop, sym, ap, ◌∙◌, subst, arith}
use Rattle.tree_core.specs.Relvars.{read_entry}
use Rattle.relvar_logs.specs.Changes.{changed}
use Rattle.relvar_logs.proofs.EntryLemmas.{entries_length}
use Rattle.kept_views.specs.declared.group_moves.Moved.{Moved}
use Rattle.stored_views.specs.Moves.{moves_among}
use Rattle.stored_views.specs.ViewMoves.{all_placed}
use Rattle.stored_views.proofs.KindLemmas.{stored-changed}
use Rattle.stored_views.proofs.MoveLemmas.{next_cost}
use Rattle.stored_views.proofs.ViewMoveLemmas.{AreMovesFor, move_more, move_all, move_places, one_move_longer}
use Rattle.stored_views.proofs.moving.view_moves.Goals as goal

pub move_at-requires : goal.move_at-requires
move_at-requires g c κs within =
    let len = c.len-at-end.ensures.len in
    let below : c.loop-at.at < length c.args.relvars.now.list.entries = omega (arith, len) in
    (within, (c.requires.1.0, (c.requires.1.1.0, (c.requires.1.1.1.0, (c.requires.1.1.1.1, below)))))

pub returns-in_err-moved-clause-cost : goal.returns-in_err-moved-clause-cost
returns-in_err-moved-clause-cost g c =
    let es = map read_entry c.args.relvars.now.list.entries in
    let all = changed g.after es in
    let at = c.loop-at.at in
    let next = next_cost es all es at c.loop-at.steps c.move_at.new.steps (c.args.steps.now + moves_among es all es) c.move_at.ensures.cost c.loop-at.invariant.cost in
    omega (arith, next)

pub loop-at-preserved : goal.loop-at-preserved
loop-at-preserved g c =
    let es = map read_entry c.args.relvars.now.list.entries in
    let all = changed g.after es in
    let rows = c.args.stored.now in
    let at = c.loop-at.at in
    let one : suc at ≡ at + 1 = omega arith in
    let len = c.len-at-end.ensures.len in
    let below : at + 1 ≤ length c.args.relvars.now.list.entries = omega (arith, len) in
    let next = next_cost es all es at c.loop-at.steps c.move_at.new.steps (c.args.steps.now + moves_among es all es) c.move_at.ensures.cost c.loop-at.invariant.cost in
    record {
      moves = subst (λ (l : List (Option Moved)). AreMovesFor all rows l es) (sym c.in_ok-push.ensures.items)
          (move_more all rows c.loop-at.list.items es at c.in_ok-moved.moved c.loop-at.invariant.many c.loop-at.invariant.moves c.in_ok-moved.ensures.moved);
      many = ap length c.in_ok-push.ensures.items ∙ (one_move_longer c.loop-at.list.items c.in_ok-moved.moved ∙ ap (λ (k : ℕ). k + 1) c.loop-at.invariant.many);
      within = below;
      cost = subst (λ (k : ℕ). c.move_at.new.steps + moves_among es all (drop k es) ≤ c.args.steps.now + moves_among es all es) one next;
    }

pub returns-in_err-push-clause-cost : goal.returns-in_err-push-clause-cost
returns-in_err-push-clause-cost g c =
    let es = map read_entry c.args.relvars.now.list.entries in
    let all = changed g.after es in
    let at = c.loop-at.at in
    let next = next_cost es all es at c.loop-at.steps c.move_at.new.steps (c.args.steps.now + moves_among es all es) c.move_at.ensures.cost c.loop-at.invariant.cost in
    omega (arith, next)

pub returns-clause-stored : goal.returns-clause-stored
returns-clause-stored g c =
    let raw = c.args.relvars.now.list.entries in
    let es = map read_entry raw in
    let all = changed g.after es in
    let moves = c.loop-at.list.items in
    let rows = c.args.stored.now in
    let read = entries_length raw in
    let many = c.loop-at.invariant.many in
    let within = c.loop-at.invariant.within in
    let len = c.len-at-end.ensures.len in
    let end : length raw ≤ c.loop-at.at = omega (arith, len) in
    stored-changed all g.after es (all_placed moves rows) (move_all all rows moves es (omega (arith, read, many, within, end)) c.loop-at.invariant.moves)

pub returns-clause-places : goal.returns-clause-places
returns-clause-places g c =
    let es = map read_entry c.args.relvars.now.list.entries in
    move_places (changed g.after es) c.args.stored.now c.loop-at.list.items es c.loop-at.invariant.moves

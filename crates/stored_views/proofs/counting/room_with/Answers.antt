use Rattle.std.proofs.Common.{◌≡◌, ◌≤◌, ◌<◌, ◌+◌, ◌-◌, ℕ, suc, length, map, ap, ◌∙◌, arith, drop}
use Rattle.tree_core.specs.Relvars.{read_entry}
use Rattle.relvar_logs.specs.Room.{left_of}
use Rattle.relvar_logs.proofs.EntryLemmas.{entries_length}
use Rattle.stored_views.specs.Stored.{rows_among}
use Rattle.stored_views.proofs.CountLemmas.{too_many, next_room, room_left}
use Rattle.stored_views.proofs.ViewMoveLemmas.{placed_there, place_there}
use Rattle.stored_views.proofs.counting.room_with.Goals as goal

pub moved_rows_at-count-requires : goal.moved_rows_at-count-requires
moved_rows_at-count-requires g c =
    let raw = c.args.relvars.now.list.entries in
    let read = entries_length raw in
    let len = c.len-at-end.ensures.len in
    let below : c.loop-at.at < length raw = omega (arith, len) in (
      below,
      (
        placed_there g.behind (map read_entry raw) c.args.moves.now c.args.stored.now c.loop-at.at c.requires.0 (omega (arith, read, below)),
        place_there c.args.moves.now c.args.stored.now c.loop-at.at c.requires.1,
      ),
    )

pub returns-then-count-room : goal.returns-then-count-room
returns-then-count-room g c =
    let es = map read_entry c.args.relvars.now.list.entries in
    let more : c.loop-at.room < c.moved_rows_at-count.result = omega arith in
    too_many g.behind es c.args.most c.loop-at.at c.loop-at.room c.moved_rows_at-count.result c.loop-at.invariant c.moved_rows_at-count.ensures more

pub loop-at-preserved : goal.loop-at-preserved
loop-at-preserved g c =
    let es = map read_entry c.args.relvars.now.list.entries in
    let at = c.loop-at.at in
    let less : c.moved_rows_at-count.result ≤ c.loop-at.room = omega arith in
    let one : suc at ≡ at + 1 = omega arith in
    next_room g.behind es c.args.most at c.loop-at.room c.moved_rows_at-count.result c.loop-at.invariant c.moved_rows_at-count.ensures less
    ∙ ap (λ (k : ℕ). left_of (c.loop-at.room - c.moved_rows_at-count.result) (rows_among g.behind (drop k es))) one

pub returns : goal.returns
returns g c =
    let raw = c.args.relvars.now.list.entries in
    let read = entries_length raw in
    let len = c.len-at-end.ensures.len in
    let end : length raw ≤ c.loop-at.at = omega (arith, len) in
    room_left g.behind (map read_entry raw) c.args.most c.loop-at.at c.loop-at.room c.loop-at.invariant (omega (arith, read, end))

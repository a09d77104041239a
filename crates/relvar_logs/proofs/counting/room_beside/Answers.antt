use Rattle.std.proofs.Common.{◌≡◌, ◌≤◌, ◌<◌, ◌+◌, ◌-◌, ℕ, suc, length, map, subst, ap, ◌∙◌, arith, drop}
use Rattle.tree_core.specs.Relvars.{read_entry}
use Rattle.meaning_core.specs.Logs.{turned_relvar}
use Rattle.relvar_logs.specs.Changes.{IsSoAt}
use Rattle.relvar_logs.specs.Room.{left_of, rows_of_logs}
use Rattle.relvar_logs.proofs.CountLemmas.{IsFew, too_many, next_room, room_left, few_more, all_few}
use Rattle.relvar_logs.proofs.EntryLemmas.{entries_length}
use Rattle.relvar_logs.proofs.TurningLemmas.{next_there}
use Rattle.relvar_logs.proofs.counting.room_beside.Goals as goal

pub rows_at-count-requires : goal.rows_at-count-requires
rows_at-count-requires g c =
    let raw = c.args.relvars.now.list.entries in
    let read = entries_length raw in
    let len = c.len-at-end.ensures.len in
    let below : c.loop-at.at < length raw = omega (arith, len) in
    (c.requires.0, (below, next_there g.behind.0 g.behind.1 c.args.next.now (map read_entry raw) c.loop-at.at c.requires.1 (omega (arith, read, below))))

pub returns-then-count-room-clause-left : goal.returns-then-count-room-clause-left
returns-then-count-room-clause-left g c =
    let es = map read_entry c.args.relvars.now.list.entries in
    let more : c.loop-at.room < c.rows_at-count.result = omega arith in
    too_many g.behind.1 es c.args.most c.loop-at.at c.loop-at.room c.rows_at-count.result c.loop-at.invariant.left c.rows_at-count.ensures more

pub loop-at-preserved : goal.loop-at-preserved
loop-at-preserved g c =
    let es = map read_entry c.args.relvars.now.list.entries in
    let at = c.loop-at.at in
    let less : c.rows_at-count.result ≤ c.loop-at.room = omega arith in
    let one : suc at ≡ at + 1 = omega arith in
    record {
      left = next_room g.behind.1 es c.args.most at c.loop-at.room c.rows_at-count.result c.loop-at.invariant.left c.rows_at-count.ensures less
          ∙ ap (λ (k : ℕ). left_of (c.loop-at.room - c.rows_at-count.result) (rows_of_logs (drop k (map (λ r. (r.0, turned_relvar g.behind.1 r.1)) es)))) one;
      few = subst (λ (k : ℕ). (i : ℕ) → i < k → IsSoAt i (IsFew g.behind.1) es) one (few_more g.behind.1 es c.args.most at c.rows_at-count.result c.loop-at.invariant.few c.rows_at-count.ensures);
    }

pub returns-clause-few : goal.returns-clause-few
returns-clause-few g c =
    let raw = c.args.relvars.now.list.entries in
    let read = entries_length raw in
    let len = c.len-at-end.ensures.len in
    let end : length raw ≤ c.loop-at.at = omega (arith, len) in
    all_few g.behind.1 (map read_entry raw) c.args.most c.loop-at.at c.loop-at.invariant.few (omega (arith, read, end))

pub returns-clause-left : goal.returns-clause-left
returns-clause-left g c =
    let raw = c.args.relvars.now.list.entries in
    let read = entries_length raw in
    let len = c.len-at-end.ensures.len in
    let end : length raw ≤ c.loop-at.at = omega (arith, len) in
    room_left g.behind.1 (map read_entry raw) c.args.most c.loop-at.at c.loop-at.room c.loop-at.invariant.left (omega (arith, read, end))

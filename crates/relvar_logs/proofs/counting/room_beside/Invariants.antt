use Rattle.std.proofs.Common.{◌≡◌, ◌<◌, ℕ, drop, map}
use Rattle.tree_core.specs.Relvars.{read_relvars}
use Rattle.meaning_core.specs.Logs.{turned_relvar}
use Rattle.relvar_logs.specs.Changes.{IsSoAt}
use Rattle.relvar_logs.specs.Room.{left_of, rows_of_logs}
use Rattle.relvar_logs.proofs.CountLemmas.{IsFew}
use Rattle.relvar_logs.proofs.counting.room_beside.Given as goal

abbrev pub ghost-rows_at : goal.ghost-rows_at
ghost-rows_at g a = g.behind

abbrev pub invariant-loop-at : goal.invariant-loop-at
invariant-loop-at g l =
    let es = (read_relvars l.relvars).relvars in
    let turned = map (λ r. (r.0, turned_relvar g.behind.1 r.1)) es in
    record {
      left : left_of l.initial.most (rows_of_logs turned) ≡ left_of l.room (rows_of_logs (drop l.at turned));
      few : (i : ℕ) → i < l.at → IsSoAt i (IsFew g.behind.1) es;
    }

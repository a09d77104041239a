use Rattle.std.proofs.Common.{◌≡◌, length, take}
use Rattle.tree_core.specs.Relvars.{read_relvars}
use Rattle.relvar_logs.specs.Changes.{changed}
use Rattle.relvar_logs.specs.Turning.{AreNext}
use Rattle.relvar_logs.proofs.next.next_logs.Given as goal

abbrev pub invariant-loop-at : goal.invariant-loop-at
invariant-loop-at l =
    let es = (read_relvars l.relvars).relvars in
    record {
      next : AreNext (read_relvars l.relvars).accepted (changed l.changes es) l.list.items (take l.at es);
      many : length l.list.items ≡ l.at;
    }

use Rattle.std.proofs.Common.{◌≡◌, ◌<◌, ◌≤◌, Bool, true, false, List, length, get_or, set}
use Rattle.u_summarize.specs.Figures.{AreKept}
use Rattle.u_summarize.proofs.FigureLemmas.{AreTurned}
use Rattle.u_summarize.proofs.figures.leave_all.Given as goal

abbrev pub invariant-loop-j : goal.invariant-loop-j
invariant-loop-j l = record {
  within : l.j ≤ length l.columns;
  turned : (f : List Bool) → AreKept l.columns l.fn.kept.items f → l.row < length f → get_or f l.row false ≡ true → AreTurned l.columns f (set f l.row false) l.j l.kept.items;
}

use Rattle.std.proofs.Common.{◌≡◌, ◌≤◌, Bool, List, take, length}
use Rattle.u_summarize.specs.Figures.{AreKept, figures_of}
use Rattle.u_summarize.proofs.figures.read_all.Given as goal

abbrev pub invariant-loop-j : goal.invariant-loop-j
invariant-loop-j l = record {
  within : l.j ≤ length l.columns;
  read : (f : List Bool) → AreKept l.columns l.kept f → l.list.items ≡ take l.j (figures_of l.columns f);
}

use Rattle.std.proofs.Common.{◌≡◌, ◌≤◌, ◌+◌, ℕ, length}
use Rattle.u_summarize.specs.Entries.{standing, AreDealt}
use Rattle.u_summarize.proofs.entries.numbers_standing.Given as goal

abbrev pub invariant-loop-i : goal.invariant-loop-i
invariant-loop-i l = record {
  within : l.i ≤ length l.labels;
  before : (j : ℕ) → l.i ≡ j + 1 → l.before ≡ standing l.labels j;
  many : length l.out.items ≡ l.count;
  each : AreDealt l.labels l.i l.out.items;
}

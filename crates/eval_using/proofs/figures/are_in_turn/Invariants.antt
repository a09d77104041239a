use Rattle.std.proofs.Common.{◌≡◌, ℕ, ◌<◌, ◌≤◌, ◌-◌, length, get_or}
use Rattle.eval_using.proofs.figures.are_in_turn.Given as goal

abbrev pub decreases-loop-turn : goal.decreases-loop-turn
decreases-loop-turn l = length l.places - l.turn

abbrev pub invariant-loop-turn : goal.invariant-loop-turn
invariant-loop-turn l = record {
  within : l.turn ≤ length l.places;
  each : (i : ℕ) → i < l.turn → get_or l.places i 0 ≡ i;
}

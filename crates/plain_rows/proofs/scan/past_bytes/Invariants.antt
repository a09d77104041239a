use Rattle.std.proofs.Common.{◌≡◌, ◌-◌, ◌≤◌, length, take}
use Rattle.plain_rows.proofs.scan.past_bytes.Given as goal

abbrev pub invariant-front : goal.invariant-front
invariant-front l = record {
  within : l.n ≤ length l.front;
  room : length l.front ≤ length l.text;
  same : take l.n l.text ≡ take l.n l.front;
}

abbrev pub decreases-front : goal.decreases-front
decreases-front l = length l.front - l.n

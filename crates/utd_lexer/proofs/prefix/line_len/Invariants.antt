use Rattle.std.proofs.Common.{◌-◌, ◌≤◌, length, drop}
use Rattle.utd_lexer.proofs.GapLemmas.{LineGoesOn}
use Rattle.utd_lexer.proofs.prefix.line_len.Given as goal

abbrev pub invariant-body : goal.invariant-body
invariant-body l = record { within : l.n ≤ length l.body; on : LineGoesOn (drop l.n l.body) l.body }

abbrev pub decreases-body : goal.decreases-body
decreases-body l = length l.body - l.n

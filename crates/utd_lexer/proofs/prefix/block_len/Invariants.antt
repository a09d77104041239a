use Rattle.std.proofs.Common.{◌-◌, ◌≤◌, length, drop}
use Rattle.utd_lexer.proofs.GapLemmas.{BlockGoesOn}
use Rattle.utd_lexer.proofs.prefix.block_len.Given as goal

abbrev pub invariant-body : goal.invariant-body
invariant-body l = record { within : l.n ≤ length l.body; on : BlockGoesOn (drop l.n l.body) l.body }

abbrev pub decreases-body : goal.decreases-body
decreases-body l = length l.body - l.n

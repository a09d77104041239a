use Rattle.std.proofs.Common.{[], length}
use Rattle.plain_rows.specs.Lexemes.{Begins}
use Rattle.plain_rows.proofs.scan.past_space.Given as goal

abbrev pub invariant-space : goal.invariant-space
invariant-space l = Begins l.text [] l.rest

abbrev pub decreases-space : goal.decreases-space
decreases-space l = length l.rest

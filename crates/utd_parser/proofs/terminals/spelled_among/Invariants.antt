use Rattle.std.proofs.Common.{◌≡◌, length}
use Rattle.utd_syntax.specs.Terminals.{spelled_among}
use Rattle.utd_parser.proofs.terminals.spelled_among.Given as goal

-- those that were passed are spelled otherwise
abbrev pub invariant-loop-first : goal.invariant-loop-first
invariant-loop-first l = spelled_among l.list l.other l.bytes ≡ spelled_among l.rest l.other l.bytes

abbrev pub decreases-loop-first : goal.decreases-loop-first
decreases-loop-first l = length l.rest

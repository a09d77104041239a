use Rattle.std.proofs.Common.{◌≡◌, length}
use Rattle.utd_syntax.specs.Table as table
use Rattle.utd_parser.specs.Forms.{rows_of}
use Rattle.utd_parser.proofs.table.find.Given as goal

-- the rows that are left say what all say
abbrev pub invariant-loop-row : goal.invariant-loop-row
invariant-loop-row l = table.find (rows_of l.rest) l.ends l.terminal l.bytes l.behind ≡ table.find (rows_of l.rows) l.ends l.terminal l.bytes l.behind

abbrev pub decreases-loop-row : goal.decreases-loop-row
decreases-loop-row l = length l.rest

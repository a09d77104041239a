use Rattle.std.proofs.Common.{◌≡◌, ◌≤◌, ◌-◌, length, drop}
use Rattle.utd_syntax.specs.Verdict.{verdict}
use Rattle.utd_ranges.specs.Limits.{limits}
use Rattle.utd_builder.specs.Building.{pieces}
use Rattle.utd_parser.specs.Frames.{load_of, symbols_of}
use Rattle.utd_parser.proofs.whole.read.Given as goal

-- the tokens that are left have the verdict of all
abbrev pub invariant-token : goal.invariant-token
invariant-token l = (l.at ≤ length l.tokens) × (verdict limits (pieces l.tokens) (symbols_of l.initial.reading.stack) (load_of l.initial.reading.load) ≡ verdict limits (pieces (drop l.at l.tokens)) (symbols_of l.reading.stack) (load_of l.reading.load))

abbrev pub decreases-token : goal.decreases-token
decreases-token l = length l.tokens - l.at

use Rattle.std.proofs.Common.{◌≡◌, length}
use Rattle.utd_syntax.specs.Verdict as verdict
use Rattle.utd_parser.specs.Frames.{load_of, symbols_of}
use Rattle.utd_parser.proofs.stack.advance.Given as goal

-- the forms that are passed change nothing
abbrev pub invariant-frame : goal.invariant-frame
invariant-frame l = verdict.reach (symbols_of l.initial.stack) (load_of l.initial.load) l.terminal l.bytes l.behind ≡ verdict.reach (symbols_of l.stack) (load_of l.load) l.terminal l.bytes l.behind

abbrev pub decreases-frame : goal.decreases-frame
decreases-frame l = length l.stack.frames.items

use Rattle.std.proofs.Common.{◌≡◌, ◌++◌, List, length}
use Rattle.utd_syntax.specs.Table as table
use Rattle.utd_syntax.specs.Verdict as verdict
use Rattle.utd_parser.specs.Forms.{forms_of}
use Rattle.utd_parser.proofs.stack.pass.Given as goal

-- the forms that are left take the token as all do
abbrev pub invariant-loop-form : goal.invariant-loop-form
invariant-loop-form l = (base : List table.Symbol) (load : table.Load) → verdict.reach (forms_of l.forms ++ base) load l.terminal l.bytes l.behind ≡ verdict.reach (forms_of l.rest ++ base) load l.terminal l.bytes l.behind

abbrev pub decreases-loop-form : goal.decreases-loop-form
decreases-loop-form l = length l.rest

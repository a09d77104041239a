use Rattle.std.proofs.Common.{◌≡◌, ◌++◌, ℕ, List, length, true}
use Rattle.utd_syntax.specs.declared.terminal.Terminal.{Terminal}
use Rattle.utd_syntax.specs.Table as table
use Rattle.utd_syntax.specs.Verdict as verdict
use Rattle.utd_builder.specs.Closing.{closes}
use Rattle.utd_parser.specs.Forms.{forms_of}
use Rattle.utd_parser.proofs.stack.behind_closed.Given as goal

-- the forms that are left take each token that closes as all do
abbrev pub invariant-loop-form : goal.invariant-loop-form
invariant-loop-form l = (x : Terminal) → closes x ≡ true → (base : List table.Symbol) (load : table.Load) (bytes : List ℕ) (behind : Terminal) → verdict.reach (forms_of l.forms ++ base) load x bytes behind ≡ verdict.reach (forms_of l.rest ++ base) load x bytes behind

abbrev pub decreases-loop-form : goal.decreases-loop-form
decreases-loop-form l = length l.rest

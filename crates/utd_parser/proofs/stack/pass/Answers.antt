use Rattle.std.proofs.Common.{sym, ◌∙◌, ap}
use Rattle.utd_syntax.specs.Table as table
use Rattle.utd_parser.specs.Forms.{forms_of, taking_of, turn_of}
use Rattle.utd_parser.proofs.Stacks.{pass-turn}
use Rattle.utd_parser.proofs.stack.pass.Goals as goal

pub returns-in-Never : goal.returns-in-Never
returns-in-Never c base load = c.loop-form.invariant base load ∙ pass-turn _ _ _ _ _ _ table.Never c.in-Some.ensures.cases.0 (sym (ap turn_of c.in-Never.is) ∙ c.turn.ensures) base load

pub loop-form-preserved : goal.loop-form-preserved
loop-form-preserved c base load = c.loop-form.invariant base load ∙ pass-turn _ _ _ _ _ _ table.Ends c.in-Some.ensures.cases.0 (sym (ap turn_of c.in-Ends.is) ∙ c.turn.ensures) base load

pub returns-in-Takes : goal.returns-in-Takes
returns-in-Takes c base load = c.loop-form.invariant base load ∙ pass-turn _ _ _ _ _ _ (table.Takes (taking_of c.in-Takes.how) (forms_of c.in-Takes.next.now)) c.in-Some.ensures.cases.0 (sym (ap turn_of c.in-Takes.is) ∙ c.turn.ensures) base load

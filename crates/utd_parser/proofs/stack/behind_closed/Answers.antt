use Rattle.std.proofs.Common.{sym, ◌∙◌}
use Rattle.utd_parser.proofs.Closed.{past-closed}
use Rattle.utd_parser.proofs.stack.behind_closed.Goals as goal

pub loop-form-preserved : goal.loop-form-preserved
loop-form-preserved c x closing base load bytes behind = c.loop-form.invariant x closing base load bytes behind ∙ past-closed _ _ _ x bytes behind c.in-Some.ensures.cases.0 (sym c.ends_at_closing.ensures ∙ c.if-not-ends_at_closing.false) closing base load

use Rattle.std.proofs.Common.{sym, ◌∙◌, ap}
use Rattle.utd_syntax.specs.Table.{same_bytes}
use Rattle.utd_parser.proofs.Spellings.{among-first, among-later}
use Rattle.utd_parser.proofs.terminals.spelled_among.Goals as goal

pub returns-then-is_same : goal.returns-then-is_same
returns-then-is_same c = among-first _ _ _ _ _ c.in-Some.ensures.cases.0 (ap (λ s. same_bytes s c.args.bytes.now) (sym c.spelling.ensures) ∙ sym c.is_same.ensures ∙ c.if-is_same.true) ∙ sym c.loop-first.invariant

pub loop-first-preserved : goal.loop-first-preserved
loop-first-preserved c = c.loop-first.invariant ∙ sym (among-later _ _ _ _ _ c.in-Some.ensures.cases.0 (ap (λ s. same_bytes s c.args.bytes.now) (sym c.spelling.ensures) ∙ sym c.is_same.ensures ∙ c.if-is_same.false))

use Rattle.utd_lexer.specs.Gaps.{without_gaps}
use Rattle.utd_statement.proofs.reply.answer_to_statement.Goals as goal

pub returns-clause-kept : goal.returns-clause-kept
returns-clause-kept g c = c.settle.ensures (without_gaps c.args.text.now) c.args.texts.now c.in_ok-begin.ensures

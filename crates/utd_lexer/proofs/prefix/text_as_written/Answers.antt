use Rattle.std.proofs.Common.{sym, ◌∙◌}
use Rattle.utd_lexer.proofs.WrittenLemmas.{text-written}
use Rattle.utd_lexer.proofs.prefix.text_as_written.Goals as goal

pub returns-in-Ends : goal.returns-in-Ends
returns-in-Ends c = text-written c.args.body.now c.split_behind.result.0.now c.in-Ends.ensures.0 c.before_quote-n.result c.before_quote-n.ensures (sym c.split_at.ensures.back ∙ c.in-Ends.ensures.1) c.in-Ends.ensures.2 c.split_behind.ensures.prefix

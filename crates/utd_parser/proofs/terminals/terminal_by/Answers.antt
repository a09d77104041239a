use Rattle.std.proofs.Common.{sym, ◌∙◌, ap}
use Rattle.utd_parser.specs.Tokens.{terminal_of}
use Rattle.utd_parser.proofs.terminals.terminal_by.Goals as goal

pub returns-in-Word : goal.returns-in-Word
returns-in-Word c = c.word_terminal.ensures ∙ ap (λ k. terminal_of k c.args.bytes.now) (sym c.in-Word.is)

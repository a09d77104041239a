use Rattle.std.proofs.Common.{sym}
use Rattle.utd_lexer.proofs.AsciiLemmas.{one-line}
use Rattle.utd_lexer.proofs.reading.place_in_line.Goals as goal

pub returns : goal.returns
returns c = sym (one-line c.args.place c.args.bytes.now c.requires.line)

use Rattle.utd_lexer.proofs.AsciiLemmas.{lacks-line}
use Rattle.utd_lexer.proofs.reading.place_past.Goals as goal

pub place_in_line-requires : goal.place_in_line-requires
place_in_line-requires c = record {
  fits = c.requires.fits;
  line = lacks-line c.args.kind c.args.bytes.now c.in_default.not-Text c.requires.line;
}

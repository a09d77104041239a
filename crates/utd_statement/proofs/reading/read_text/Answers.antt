use Rattle.utd_syntax.specs.Read.{read_statement}
use Rattle.utd_statement.specs.Readings.{Tree}
use Rattle.utd_statement.proofs.RangeLaws.{text_in_range, in_range_ok}
use Rattle.utd_statement.proofs.ReadingLemmas.{refused_ok}
use Rattle.utd_statement.proofs.reading.read_text.Goals as goal

pub returns-in-Err : goal.returns-in-Err
returns-in-Err c =
    let both = refused_ok c.args.start c.args.text.now c.in-Err.refuse c.refused.result c.in-Err.ensures.refused c.refused.ensures.same c.refused.ensures.memory in
    record { read = both.0; in_range = in_range_ok c.args.start c.args.text.now c.refused.result both.0; answered = both.1 }

pub returns-in-Ok-clause-in_range : goal.returns-in-Ok-clause-in_range
returns-in-Ok-clause-in_range c = text_in_range c.args.start c.args.text.now (Tree (read_statement c.in-Ok.statement)) c.in-Ok.ensures.read

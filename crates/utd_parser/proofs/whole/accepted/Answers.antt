use Rattle.utd_parser.proofs.Statements.{is-statement, no-statement, at-limit}
use Rattle.utd_parser.proofs.whole.accepted.Goals as goal

pub returns-clause-read : goal.returns-clause-read
returns-clause-read c = is-statement c.judged.result _ c.judged.ensures.verdict

pub returns-clause-no_statement : goal.returns-clause-no_statement
returns-clause-no_statement c = no-statement c.judged.result _ c.judged.ensures.verdict

pub returns-clause-limit : goal.returns-clause-limit
returns-clause-limit c = at-limit c.judged.result _ c.judged.ensures.verdict

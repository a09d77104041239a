use Rattle.std.proofs.Common.{◌∙◌, ap}
use Rattle.std.specs.Str.{chars}
use Rattle.utd_lexer.proofs.reading.characters.Goals as goal

pub returns-in_ok-list-in-Ok : goal.returns-in_ok-list-in-Ok
returns-in_ok-list-in-Ok c = (c.in-Ok.ensures.cases.1, c.in_ok-list-in-Ok.ensures ∙ ap chars c.in-Ok.ensures.cases.0)

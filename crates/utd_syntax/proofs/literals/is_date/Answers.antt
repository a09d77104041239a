use Rattle.std.proofs.Common.{◌∙◌}
use Rattle.point_core.specs.declared.date_type.Day.{Day}
use Rattle.utd_syntax.proofs.DateLemmas.{date-found}
use Rattle.utd_syntax.proofs.literals.is_date.Goals as goal

pub returns : goal.returns
returns c = c.is_some.ensures ∙ date-found c.args.text.now (λ (d : Day). d.number) c.read_date.result c.read_date.ensures.date c.read_date.ensures.none

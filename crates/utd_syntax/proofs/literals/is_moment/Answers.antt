use Rattle.std.proofs.Common.{◌∙◌}
use Rattle.point_core.specs.declared.moment_type.Second.{Second}
use Rattle.utd_syntax.proofs.MomentLemmas.{moment-found}
use Rattle.utd_syntax.proofs.literals.is_moment.Goals as goal

pub returns : goal.returns
returns c = c.is_some.ensures ∙ moment-found c.args.text.now (λ (m : Second). m.number) c.read_moment.result c.read_moment.ensures.moment c.read_moment.ensures.none

use Rattle.std.proofs.Common.{set, ap, ◌∙◌}
use Rattle.std.proofs.lemmas.List.{map-set}
use Rattle.value_core.specs.Plain.{plain}
use Rattle.u_set.proofs.coalescing.with_value.Goals as goal

pub returns : goal.returns
returns c =
    c.make.ensures ∙ map-set plain c.into_values-values.result.items c.args.at c.args.value ∙ ap (λ r. set r c.args.at (plain c.args.value)) c.into_values-values.ensures

use Rattle.std.proofs.Common.{◌∙◌}
use Rattle.log_turns.proofs.StandingLemmas.{taken_out}
use Rattle.log_turns.proofs.standing.unstamped.Goals as goal

pub returns : goal.returns
returns c =
    c.make.ensures ∙ taken_out c.into_values-values.result.items _ c.args.row.now c.args.side (c.into_values-values.ensures ∙ c.in_ok-same.ensures) c.remove.ensures.items

use Rattle.std.proofs.Common.{rules}
use Rattle.algebra_core.proofs.summary.summarized_at.Goals as goal

pub summarize-requires : goal.summarize-requires
summarize-requires c κs within = (search rules depth 24, (c.requires.within, (λ g m. search rules, (λ g y m r. search rules, λ g y m e. c.requires.fitting g y m e))))

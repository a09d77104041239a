use Rattle.std.proofs.Common.{◌≡◌, ◌∙◌}
use Rattle.eval_using.proofs.RunLemmas.{joined_numbers}
use Rattle.eval_using.proofs.runs.longer.Goals as goal

pub returns-clause-numbers : goal.returns-clause-numbers
returns-clause-numbers c = joined_numbers c.args.run.now c.args.part.now c.of.result c.begin.ensures.ordered c.end.ensures.ordered c.requires ends
  where
    ends : c.of.result ≡ (c.args.run.now.0, c.args.part.now.1)
    ends = c.of.ensures ∙ (λ t. (c.begin.ensures.point t, c.end.ensures.point t))

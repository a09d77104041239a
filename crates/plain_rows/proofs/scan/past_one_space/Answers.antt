use Rattle.std.proofs.Common.{[], sym, ◌∙◌, subst}
use Rattle.plain_rows.specs.Lexemes.{Begins}
use Rattle.plain_rows.proofs.BeginLemmas.{begins-space}
use Rattle.plain_rows.proofs.scan.past_one_space.Goals as goal

pub returns-then-is_space-clause-begins : goal.returns-then-is_space-clause-begins
returns-then-is_space-clause-begins c = subst (λ z. Begins z [] c.in_ok-first.rest.now) (sym c.in_ok-first.ensures.cases.0) (begins-space _ _ (sym c.is_space.ensures.value ∙ c.if-is_space.true) (c.is_space.ensures.small c.if-is_space.true))

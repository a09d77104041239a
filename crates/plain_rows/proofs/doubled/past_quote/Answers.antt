use Rattle.std.proofs.Common.{◌∷◌, ◌∙◌, ap}
use Rattle.plain_rows.proofs.doubled.past_quote.Goals as goal

pub returns-then-is_same : goal.returns-then-is_same
returns-then-is_same c = c.in_ok-first.ensures.cases.0 ∙ ap (λ z. z ∷ c.in_ok-first.rest.now) (c.is_same.ensures c.if-is_same.true)

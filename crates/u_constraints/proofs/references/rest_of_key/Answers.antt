use Rattle.std.proofs.Common.{ℕ, List, ap, ◌∙◌}
use Rattle.u_row.specs.Kept.{unlisted}
use Rattle.u_constraints.proofs.references.rest_of_key.Goals as goal

pub returns-clause-theirs : goal.returns-clause-theirs
returns-clause-theirs c = c.in_ok-theirs.ensures ∙ ap (λ (a : List ℕ). unlisted a c.args.there.now) (c.as_slice.ensures.value ∙ c.in_ok-commalist_there.ensures)

use Rattle.std.proofs.Common.{refl}
use Rattle.u_summarize.proofs.CellGroups.{least_alone}
use Rattle.u_summarize.proofs.cells.given_of_keys.Goals as goal

pub returns-clause-least : goal.returns-clause-least
returns-clause-least g c = least_alone _ _ _ refl c.in_ok-out.ensures.least

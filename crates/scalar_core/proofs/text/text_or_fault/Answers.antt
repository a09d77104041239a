use Rattle.std.proofs.Common.{subst}
use Rattle.value_core.specs.Lengths.{IsTextOf}
use Rattle.scalar_core.proofs.JoinedLemmas.{given-long}
use Rattle.scalar_core.proofs.text.text_or_fault.Goals as goal

pub returns-in-None : goal.returns-in-None
returns-in-None c = given-long c.args.place c.args.text.now c.utf8.text c.requires (subst (IsTextOf c.args.text.now) c.in-None.is c.in_ok-bytes.ensures)

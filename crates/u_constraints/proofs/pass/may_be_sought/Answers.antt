use Rattle.std.proofs.Common.{◌∙◌}
use Rattle.u_constraints.proofs.MarkLemmas.{sought_marked}
use Rattle.u_constraints.proofs.pass.may_be_sought.Goals as goal

pub returns : goal.returns
returns c t = c.is_marked.ensures ∙ sought_marked c.args.marks.now c.args.sought.now c.args.hash c.requires t

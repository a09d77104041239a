use Rattle.tree_core.specs.Relvars.{read_relvars}
use Rattle.assign_core.proofs.PlainLemmas.{any_deletion_told}
use Rattle.assign_core.proofs.reduction.deletion_at.Goals as goal

pub returns : goal.returns
returns c =
    any_deletion_told (read_relvars c.args.relvars.now) c.args.deletion c.base_at-at.result.0 c.base_at-at.result.1.now c.base_at-at.ensures.0 c.requires.typed c.requires.deletion
    c.base_at-at.ensures.1 c.rows-rows.ensures.relation

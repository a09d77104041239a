use Rattle.tree_core.specs.Relvars.{read_relvars}
use Rattle.assign_core.proofs.PlainLemmas.{any_revision_told}
use Rattle.assign_core.proofs.renewal.revision_at.Goals as goal

pub returns : goal.returns
returns c =
    any_revision_told (read_relvars c.args.relvars.now) c.args.revision c.base_at-at.result.0 c.base_at-at.result.1.now c.base_at-at.ensures.0 c.requires.typed c.requires.revision
    c.base_at-at.ensures.1 c.rows-rows.ensures.relation

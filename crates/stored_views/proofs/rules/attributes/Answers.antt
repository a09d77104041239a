use Rattle.std.proofs.Common.{◌∙◌}
use Rattle.meaning_core.proofs.LookupLemmas.{heading_read}
use Rattle.stored_views.proofs.rules.attributes.Goals as goal

pub returns : goal.returns
returns c = c.attributes.ensures.list ∙ heading_read c.args.tree.now

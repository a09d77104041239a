use Rattle.std.proofs.Common.{◌∙◌}
use Rattle.relation_typing.proofs.AttributeLemmas.{has-key}
use Rattle.relation_typing.proofs.attributes.has_name.Goals as goal

pub returns : goal.returns
returns c = c.contains_key.ensures ∙ has-key c.args.attributes.now.entries c.args.name.now

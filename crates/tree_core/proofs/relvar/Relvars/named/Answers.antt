use Rattle.std.proofs.Common.{ap, ◌∙◌}
use Rattle.std.specs.Option.{option_map}
use Rattle.tree_core.specs.Relvars.{read_relvar}
use Rattle.tree_core.proofs.NameLemmas.{looked-up, seen}
use Rattle.tree_core.proofs.relvar.Relvars.named.Goals as goal

pub returns : goal.returns
returns c =
    seen c.get.result ∙ (ap (option_map read_relvar) c.get.ensures.value ∙ looked-up c.args.self.now.list.entries c.args.name.now)

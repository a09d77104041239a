use Rattle.std.proofs.Common.{◌∙◌}
use Rattle.tree_core.specs.declared.relvar.Relvar.TheVariants.{Log}
use Rattle.relvar_logs.proofs.OpeningLemmas.{insert_new}
use Rattle.relvar_logs.proofs.opening.append.Goals as goal

pub returns-clause-ok : goal.returns-clause-ok
returns-clause-ok c =
    let declared = c.args.declared in
    c.in_ok-insert.ensures.entries ∙ insert_new c.args.relvars.now.list.entries declared.name (Log declared.of c.args.log) c.requires

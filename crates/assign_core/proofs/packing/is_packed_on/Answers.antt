use Rattle.std.proofs.Common.{sym, ◌∙◌}
use Rattle.assign_core.proofs.PackingLemmas.{target_packed}
use Rattle.assign_core.proofs.packing.is_packed_on.Goals as goal

pub returns-in-Some : goal.returns-in-Some
returns-in-Some c told =
    let a = c.args.addition in
    let k = c.requires.addition in
    target_packed a.target.relvars.now.list.entries a.target.name.now _ a.target.at a.target.value.now k.target.constraints c.in-Some.relvar.now c.args.commalist.now k.relation c.requires.kept.holds k.target.first
    (sym c.in-Some.ensures.entry) (sym c.is_kept_packed.ensures ∙ told)

use Rattle.std.proofs.Common.{map, sym, ◌∙◌}
use Rattle.tree_core.specs.Items.{read_assignment}
use Rattle.tree_core.specs.Relvars.{read_relvars}
use Rattle.assign_core.proofs.UnstoredLemmas.{told_unstored, unstored_after}
use Rattle.assign_core.proofs.assigning.assign.Goals as goal

pub returns-clause-assigned : goal.returns-clause-assigned
returns-clause-assigned g c =
    let s = read_relvars c.args.relvars.now in
    let list = map read_assignment c.args.list.now in
    let none = sym c.has_stored.ensures ∙ c.if-has_stored.false in
    let told = c.assign_unstored.ensures.assigned in
    (told.0, told_unstored c.assign_unstored.result s told.0 list none told.1, told.2)

pub returns-clause-stored : goal.returns-clause-stored
returns-clause-stored g c =
    let s = read_relvars c.args.relvars.now in
    let list = map read_assignment c.args.list.now in
    let none = sym c.has_stored.ensures ∙ c.if-has_stored.false in
    let told = c.assign_unstored.ensures.assigned in
    unstored_after c.assign_unstored.result s told.0 (read_relvars c.assign_unstored.new.relvars) list c.args.stored.now.items none c.assign_unstored.ensures.kept told.1 told.2
    c.requires.stored.places

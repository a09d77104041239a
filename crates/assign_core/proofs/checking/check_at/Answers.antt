use Rattle.std.proofs.Common.{◌≤◌, ◌+◌, [], subst, sym, map}
use Rattle.value_core.specs.Values.{Name}
use Rattle.tree_core.specs.Relvars.{PlainRelvar, base, read_entry}
use Rattle.assign_core.specs.Breaches.{first_in}
use Rattle.assign_core.specs.Changes.{Tells}
use Rattle.assign_core.specs.Checks.{after, AreChecked}
use Rattle.assign_core.specs.Costs.{looked_at_in}
use Rattle.assign_core.proofs.CountLemmas.{changed_entry}
use Rattle.assign_core.proofs.TouchLemmas.{held_entry}
use Rattle.assign_core.proofs.checking.check_at.Goals as goal

none : Name × PlainRelvar
none = ([], base (record { heading = []; rows = [] }) [])

pub check_relvar-requires-clause-checked : goal.check_relvar-requires-clause-checked
check_relvar-requires-clause-checked g c =
    let es = c.args.new.relvars.now.list.entries in
    let here = changed_entry c.args.new.changes.now es c.args.at c.in-Some.name.now c.in-Some.relvar.now c.index-new-at.result none c.requires.length (sym c.in-Some.ensures.entry) in
    subst (λ (r : Name × PlainRelvar). AreChecked (after c.args.new) r.1) (sym here) (c.requires.checked none)

pub returns-clause-told : goal.returns-clause-told
returns-clause-told g c d =
    let es = c.args.new.relvars.now.list.entries in
    let here = changed_entry c.args.new.changes.now es c.args.at c.in-Some.name.now c.in-Some.relvar.now c.index-new-at.result d c.requires.length (sym c.in-Some.ensures.entry) in
    subst (λ (e : Name × PlainRelvar). Tells c.check_relvar.result (first_in (after c.args.new) e.0 e.1)) here c.check_relvar.ensures.told

pub check_relvar-requires-clause-held : goal.check_relvar-requires-clause-held
check_relvar-requires-clause-held g c =
    let es = c.args.new.relvars.now.list.entries in
    held_entry (map read_entry es) es c.args.at c.in-Some.name.now c.in-Some.relvar.now c.requires.held (sym c.in-Some.ensures.entry)

pub returns-clause-cost : goal.returns-clause-cost
returns-clause-cost g c d =
    let es = c.args.new.relvars.now.list.entries in
    let here = changed_entry c.args.new.changes.now es c.args.at c.in-Some.name.now c.in-Some.relvar.now c.index-new-at.result d c.requires.length (sym c.in-Some.ensures.entry) in
    subst (λ (e : Name × PlainRelvar). c.check_relvar.new.steps ≤ c.args.steps.now + looked_at_in (after c.args.new) e.1) here c.check_relvar.ensures.cost

use Rattle.std.proofs.Common.{◌≡◌, ◌≤◌, ◌+◌, [], subst, sym, ap, ◌∙◌, map, arith}
use Rattle.std.proofs.lemmas.Bool.Decides.{nat_tests}
use Rattle.std.specs.Prelude.{slice_get}
use Rattle.value_core.specs.Values.{Name}
use Rattle.tree_core.specs.Relvars.{PlainRelvar, base, read_entry}
use Rattle.assign_core.specs.Breaches.{first_in, value_of}
use Rattle.assign_core.specs.Changes.{Tells}
use Rattle.assign_core.specs.Checks.{AreChecked}
use Rattle.assign_core.specs.Costs.{looked_at_in}
use Rattle.assign_core.specs.Turnovers.{after_turnover, before_turnover}
use Rattle.relvar_logs.proofs.EntryLemmas.{entries_length}
use Rattle.assign_core.proofs.CheckLemmas.{checked_at}
use Rattle.assign_core.proofs.TurnoverLemmas.{entry_left, entry_after, first_entry}
use Rattle.assign_core.proofs.TouchLemmas.{held_entry}
use Rattle.assign_core.proofs.turnover.check_at.Goals as goal

none : Name × PlainRelvar
none = ([], base (record { heading = []; rows = [] }) [])

pub check_relvar-requires-clause-own : goal.check_relvar-requires-clause-own
check_relvar-requires-clause-own g c own =
    let es = c.args.turnover.relvars.now.list.entries in
    let turnover = c.requires.turnover in
    let same : c.args.at ≡ c.args.turnover.at = grind (arith, nat_tests, own) in
    let there = ap (slice_get es) (sym same) ∙ sym c.in-Some.ensures.entry in
    ap value_of (first_entry es c.args.turnover.name.now c.args.turnover.at (base c.args.turnover.value.now turnover.constraints) c.in-Some.name.now c.in-Some.relvar.now turnover.first there)

pub check_relvar-requires-clause-checked : goal.check_relvar-requires-clause-checked
check_relvar-requires-clause-checked g c =
    let raw = c.args.turnover.relvars.now.list.entries in
    let es = before_turnover c.args.turnover in
    let long = entries_length raw in
    let at = c.requires.within in
    let here = entry_left raw c.args.at c.in-Some.name.now c.in-Some.relvar.now none (sym c.in-Some.ensures.entry) in
    subst (λ (r : Name × PlainRelvar). AreChecked es r.1) (sym here) (checked_at es es c.args.at none (omega (arith, long, at)) c.requires.checked)

pub check_relvar-requires-clause-held : goal.check_relvar-requires-clause-held
check_relvar-requires-clause-held g c =
    let es = c.args.turnover.relvars.now.list.entries in
    held_entry (map read_entry es) es c.args.at c.in-Some.name.now c.in-Some.relvar.now c.requires.held (sym c.in-Some.ensures.entry)

pub returns-clause-told : goal.returns-clause-told
returns-clause-told g c d =
    let es = c.args.turnover.relvars.now.list.entries in
    let here = entry_after es c.args.turnover.at c.args.at c.args.turnover.rows.now c.in-Some.name.now c.in-Some.relvar.now d (sym c.in-Some.ensures.entry) in
    subst (λ (e : Name × PlainRelvar). Tells c.check_relvar.result (first_in (after_turnover c.args.turnover) e.0 e.1)) here c.check_relvar.ensures.told

pub returns-clause-cost : goal.returns-clause-cost
returns-clause-cost g c d =
    let es = c.args.turnover.relvars.now.list.entries in
    let here = entry_after es c.args.turnover.at c.args.at c.args.turnover.rows.now c.in-Some.name.now c.in-Some.relvar.now d (sym c.in-Some.ensures.entry) in
    subst (λ (e : Name × PlainRelvar). c.check_relvar.new.steps ≤ c.args.steps.now + looked_at_in (after_turnover c.args.turnover) e.1) here c.check_relvar.ensures.cost

use Rattle.std.proofs.Common.{◌≡◌, ◌≤◌, ◌+◌, map, sym, ap, ◌∙◌, subst, arith, Option, Some, None, option_map}
use Rattle.value_core.specs.Values.{Name, Relation}
use Rattle.tree_core.specs.Relvars.{Entries, read_entry, read_relvars, relvar_named}
use Rattle.tree_core.specs.Trees.{read_tree}
use Rattle.meaning_core.specs.Names.{given}
use Rattle.meaning_core.proofs.LookupLemmas.{given_none}
use Rattle.algebra_core.specs.Costs.{cost_with}
use Rattle.relvar_logs.specs.Changes.{changed}
use Rattle.relvar_logs.proofs.EntryLemmas.{entries_length}
use Rattle.assign_core.specs.Assignments.{seen_by}
use Rattle.assign_core.specs.Renewed.{renewing}
use Rattle.assign_core.proofs.ChangeLemmas.{bare_changed, same_length}
use Rattle.assign_core.proofs.NameLemmas.{relvars_differ}
use Rattle.assign_core.proofs.RenewedNames.{new_value, seen_before}
use Rattle.assign_core.proofs.SourceLemmas.{newest_given, seen_newest, source_told}
use Rattle.assign_core.proofs.sources.source.Goals as goal

pub change_of-requires : goal.change_of-requires
change_of-requires g c =
    let es = c.args.relvars.now.list.entries in
    same_length c.args.changes.now (map read_entry es) c.requires.changes ∙ entries_length es

pub eval-requires-clause-given : goal.eval-requires-clause-given
eval-requires-clause-given g c =
    let es = map read_entry c.args.relvars.now.list.entries in
    let is = new_value c.args.changes.now es c.args.name.now c.in-Some.value.now c.requires.changes (sym c.in-Some.ensures) in
    newest_given es (changed c.args.changes.now es) c.args.name.now c.in-Some.value.now (bare_changed c.args.changes.now es c.requires.changes) (sym is)

pub returns-in-Some-clause-value : goal.returns-in-Some-clause-value
returns-in-Some-clause-value g c =
    let es = map read_entry c.args.relvars.now.list.entries in
    let is = new_value c.args.changes.now es c.args.name.now c.in-Some.value.now c.requires.changes (sym c.in-Some.ensures) in
    let seen = seen_newest es (changed c.args.changes.now es) c.args.name.now c.in-Some.value.now (sym is) in
    source_told _ c.args.tree.now _ _ seen c.eval.ensures.value

pub returns-in-Some-clause-cost : goal.returns-in-Some-clause-cost
returns-in-Some-clause-cost g c =
    let es = map read_entry c.args.relvars.now.list.entries in
    let name = c.args.name.now in
    let value = c.in-Some.value.now in
    let t = read_tree c.args.tree.now in
    let is = new_value c.args.changes.now es name value c.requires.changes (sym c.in-Some.ensures) in
    let seen = seen_newest es (changed c.args.changes.now es) name value (sym is) in
    let with : Some name ≡ renewing c.args.changes.now es name = ap (λ (o : Option Relation). option_map (λ v. name) o) c.in-Some.ensures in
    let same : cost_with (Some name) (given (Some name) (Some value) es) t ≡ cost_with (renewing c.args.changes.now es name) (seen_by es (changed c.args.changes.now es) name) t =
    λ i. cost_with (with i) (seen i) t in
    let cost = c.eval.ensures.cost in
    omega (arith, cost, same)

pub returns-in-None-clause-value : goal.returns-in-None-clause-value
returns-in-None-clause-value g c =
    let es = map read_entry c.args.relvars.now.list.entries in
    let differ = relvars_differ (read_relvars c.args.relvars.now) c.requires.well_made in
    let seen = given_none None es ∙ sym (seen_before es c.args.changes.now c.args.name.now differ (sym c.in-None.ensures)) in
    source_told _ c.args.tree.now _ _ seen c.eval-in-None.ensures.value

pub returns-in-None-clause-cost : goal.returns-in-None-clause-cost
returns-in-None-clause-cost g c =
    let es = map read_entry c.args.relvars.now.list.entries in
    let name = c.args.name.now in
    let t = read_tree c.args.tree.now in
    let differ = relvars_differ (read_relvars c.args.relvars.now) c.requires.well_made in
    let seen = given_none None es ∙ sym (seen_before es c.args.changes.now name differ (sym c.in-None.ensures)) in
    let with : None ≡ renewing c.args.changes.now es name = ap (λ (o : Option Relation). option_map (λ v. name) o) c.in-None.ensures in
    let same : cost_with None (given None None es) t ≡ cost_with (renewing c.args.changes.now es name) (seen_by es (changed c.args.changes.now es) name) t =
    λ i. cost_with (with i) (seen i) t in
    let cost = c.eval-in-None.ensures.cost in
    omega (arith, cost, same)

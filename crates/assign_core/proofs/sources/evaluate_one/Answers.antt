use Rattle.std.proofs.Common.{◌≡◌, length, map, ◌∙◌, subst, arith, Some, Ok}
use Rattle.tree_core.specs.Relvars.{read_entry, read_relvars}
use Rattle.tree_core.specs.Items.{read_assignment}
use Rattle.meaning_core.proofs.EntryLemmas.{named_first}
use Rattle.assign_core.specs.Assignments.{source_value}
use Rattle.relvar_logs.specs.Changes.{Changes, IsChange, changed}
use Rattle.std.specs.Prelude.{slice_set}
use Rattle.relvar_logs.proofs.EntryLemmas.{entries_length}
use Rattle.assign_core.proofs.ChangeLemmas.{same_length, is_change, put_change, put_given}
use Rattle.assign_core.proofs.NameLemmas.{relvars_differ}
use Rattle.assign_core.proofs.RenewedNames.{more_renewed}
use Rattle.assign_core.proofs.SourceLemmas.{source_heading, one_given}
use Rattle.assign_core.proofs.sources.evaluate_one.Goals as goal

pub index_mut-requires : goal.index_mut-requires
index_mut-requires g c =
    let raw = c.args.relvars.now.list.entries in
    let long : length c.args.changes.now.items ≡ length raw = same_length c.args.changes.now.items (map read_entry raw) c.requires.changes ∙ entries_length raw in
    let within = c.place-at.ensures.within in
    omega (arith, long, within)

told : (g : _) (c : goal.Joined-index_mut g) → source_value (map read_entry c.args.relvars.now.list.entries)
    (changed c.args.changes.now.items (map read_entry c.args.relvars.now.list.entries)) (read_assignment c.args.assignment.now) ≡ Ok c.in_ok-value.value
told g c =
    let es = map read_entry c.args.relvars.now.list.entries in
    subst (λ (cs : Changes). source_value es (changed cs es) (read_assignment c.args.assignment.now) ≡ Ok c.in_ok-value.value) c.as_slice.ensures.value c.in_ok-value.ensures.value

is_new : (g : _) (c : goal.Joined-index_mut g) → IsChange (Some c.in_ok-value.value) c.place-at.ensures.first.0
is_new g c =
    let es = map read_entry c.args.relvars.now.list.entries in
    let a = read_assignment c.args.assignment.now in
    let heading = source_heading es (changed c.args.changes.now.items es) a c.in_ok-value.value (told g c) in
    is_change c.place-at.ensures.first.0 c.in_ok-value.value _ (named_first es a.target c.place-at.result c.place-at.ensures.first.0 c.place-at.ensures.first.1) c.requires.typed.base
    (heading ∙ c.requires.typed.headed)

pub returns-clause-changes : goal.returns-clause-changes
returns-clause-changes g c =
    let es = map read_entry c.args.relvars.now.list.entries in
    put_change es c.args.changes.now.items c.args.assignment.now.target c.place-at.result c.place-at.ensures.first.0 c.in_ok-value.value c.requires.changes c.place-at.ensures.first.1
    (is_new g c)

pub returns-clause-value : goal.returns-clause-value
returns-clause-value g c =
    let es = map read_entry c.args.relvars.now.list.entries in
    let cs = c.args.changes.now.items in
    let a = read_assignment c.args.assignment.now in
    let after = changed (slice_set cs c.place-at.result (Some c.in_ok-value.value)) es in
    let different = relvars_differ (read_relvars c.args.relvars.now) c.requires.well_made in
    one_given es (changed cs es) after a c.in_ok-value.value (told g c)
    (put_given es cs a.target c.place-at.result c.place-at.ensures.first.0 c.in_ok-value.value different c.requires.changes c.place-at.ensures.first.1)

pub returns-clause-renewed : goal.returns-clause-renewed
returns-clause-renewed g c done renewed =
    let es = map read_entry c.args.relvars.now.list.entries in
    more_renewed es c.args.changes.now.items c.args.assignment.now.target c.place-at.result c.place-at.ensures.first.0 c.in_ok-value.value done c.requires.changes c.place-at.ensures.first.1 renewed

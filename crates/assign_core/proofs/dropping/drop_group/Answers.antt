use Rattle.std.proofs.Common.{◌≡◌, Option, Some, None, List, map, sym, ap, ◌∙◌}
use Rattle.value_core.specs.Values.{Name, Relation}
use Rattle.tree_core.specs.Relvars.{State, read_entry, read_relvars, relvar_named, history_if}
use Rattle.meaning_core.specs.Declarations.{with_history, without_group}
use Rattle.stored_views.specs.Without.{rows_without}
use Rattle.assign_core.proofs.DroppedLemmas.{distinct_next, three_dropped}
use Rattle.assign_core.proofs.StateLemmas.{all_removed, alone_removed, changed_state, history_found}
use Rattle.assign_core.proofs.dropping.drop_group.Goals as goal

pub drop_one-requires-in-Some : goal.drop_one-requires-in-Some
drop_one-requires-in-Some c = distinct_next c.args.relvars.now.list.entries c.drop_one.new.relvars.list.entries c.args.name.now c.requires c.drop_one.ensures.entries

pub drop_one-requires-in-Some-2 : goal.drop_one-requires-in-Some-2
drop_one-requires-in-Some-2 c =
    distinct_next c.drop_one.new.relvars.list.entries c.drop_one-in-Some.new.relvars.list.entries c.in-Some.during
    (distinct_next c.args.relvars.now.list.entries c.drop_one.new.relvars.list.entries c.args.name.now c.requires c.drop_one.ensures.entries) c.drop_one-in-Some.ensures.entries

pub returns-in-Some-clause-state : goal.returns-in-Some-clause-state
returns-in-Some-clause-state c =
    let s : State = read_relvars c.args.relvars.now in
    let es = c.args.relvars.now.list.entries in
    let name = c.args.name.now in
    let since = c.in-Some.since in
    let during = c.in-Some.during in
    let o : Option (Name × Name) = history_if (relvar_named (map read_entry es) name) in
    let some : o ≡ Some (since, during) = sym (history_found es name c.drop_one.result c.drop_one.ensures.value) ∙ (sym c.history_of.ensures ∙ c.in-Some.is) in
    let one = c.drop_one.ensures in
    let two = c.drop_one-in-Some.ensures in
    let three = c.drop_one-in-Some-2.ensures in
    changed_state c.args.relvars.now c.drop_one-in-Some-2.new.relvars (without_group name s).relvars
    (all_removed es c.drop_one.new.relvars.list.entries c.drop_one-in-Some.new.relvars.list.entries c.drop_one-in-Some-2.new.relvars.list.entries name since during o c.requires one.entries two.entries three.entries some)
    (three.ordinals ∙ (two.ordinals ∙ one.ordinals)) (three.rules ∙ (two.rules ∙ one.rules)) (three.accepted ∙ (two.accepted ∙ one.accepted))

pub returns-in-Some-clause-stored : goal.returns-in-Some-clause-stored
returns-in-Some-clause-stored c =
    let es = c.args.relvars.now.list.entries in
    let name = c.args.name.now in
    let since = c.in-Some.since in
    let during = c.in-Some.during in
    let rows : List (Option Relation) = c.args.stored.now.items in
    let o : Option (Name × Name) = history_if (relvar_named (map read_entry es) name) in
    let some : o ≡ Some (since, during) = sym (history_found es name c.drop_one.result c.drop_one.ensures.value) ∙ (sym c.history_of.ensures ∙ c.in-Some.is) in
    three_dropped es c.drop_one.new.relvars.list.entries c.drop_one-in-Some.new.relvars.list.entries name during since rows c.drop_one.new.stored.items c.drop_one-in-Some.new.stored.items c.drop_one-in-Some-2.new.stored.items c.requires
    c.drop_one.ensures.entries c.drop_one-in-Some.ensures.entries c.drop_one.ensures.stored c.drop_one-in-Some.ensures.stored c.drop_one-in-Some-2.ensures.stored
    ∙ ap (λ (p : Option (Name × Name)). rows_without (with_history name p) (map read_entry es) rows) (sym some)

pub returns-in-None-clause-state : goal.returns-in-None-clause-state
returns-in-None-clause-state c =
    let s : State = read_relvars c.args.relvars.now in
    let es = c.args.relvars.now.list.entries in
    let name = c.args.name.now in
    let o : Option (Name × Name) = history_if (relvar_named (map read_entry es) name) in
    let none : o ≡ None = sym (history_found es name c.drop_one.result c.drop_one.ensures.value) ∙ (sym c.history_of.ensures ∙ c.in-None.is) in
    let one = c.drop_one.ensures in
    changed_state c.args.relvars.now c.drop_one.new.relvars (without_group name s).relvars (alone_removed es c.drop_one.new.relvars.list.entries name o c.requires one.entries none) one.ordinals one.rules one.accepted

pub returns-in-None-clause-stored : goal.returns-in-None-clause-stored
returns-in-None-clause-stored c =
    let es = c.args.relvars.now.list.entries in
    let name = c.args.name.now in
    let rows : List (Option Relation) = c.args.stored.now.items in
    let o : Option (Name × Name) = history_if (relvar_named (map read_entry es) name) in
    let none : o ≡ None = sym (history_found es name c.drop_one.result c.drop_one.ensures.value) ∙ (sym c.history_of.ensures ∙ c.in-None.is) in
    c.drop_one.ensures.stored ∙ ap (λ (p : Option (Name × Name)). rows_without (with_history name p) (map read_entry es) rows) (sym none)

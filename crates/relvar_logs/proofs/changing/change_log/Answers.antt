use Rattle.std.proofs.Common.{rules, ◌≡◌, ◌<◌, ◌<ℤ◌, ◌+ℤ◌, ◌-ℤ◌, pos, zero, ℤ, true, length, map, sym, subst, arith, w64, to_z, of_z}
use Rattle.std.proofs.lemmas.Int.{ints}
use Rattle.point_core.specs.Whole.{greatest_whole, least_whole}
use Rattle.tree_core.specs.Relvars.{read_entry, read_rule, read_relvars}
use Rattle.meaning_core.specs.Logs.{turned_relvar, IsInStep}
use Rattle.relvar_logs.specs.Changes.{turned_at, IsSoAt}
use Rattle.relvar_logs.specs.LoggedChanges.{is_log_of, AreChanging}
use Rattle.relvar_logs.specs.Passed.{ArePassed, IsChangingLog}
use Rattle.relvar_logs.proofs.EntryLemmas.{entries_length, so_within}
use Rattle.relvar_logs.proofs.PassedLemmas.{changed_passed, changing_there, err_then, none_passed, ok_both}
use Rattle.relvar_logs.proofs.changing.change_log.Goals as goal

pub change_at-requires : goal.change_at-requires
change_at-requires g c =
    let old = c.args.relvars.now in
    let n = old.accepted +ℤ pos 1 in
    let number : to_z w64 (of_z w64 (to_z w64 (of_z w64 old.accepted) +ℤ pos 1)) ≡ old.accepted +ℤ pos 1 = search rules in
    let back : old.accepted ≡ ((old.accepted +ℤ pos 1) -ℤ pos 1) = omega (arith, ints) in
    let first : least_whole <ℤ (old.accepted +ℤ pos 1) = search rules in
    let raw = old.list.entries in
    let es = map read_entry raw in
    let read = entries_length raw in
    let below = so_within es c.in-Some.at (λ r. is_log_of c.args.name.now r ≡ true) c.in-Some.ensures in
    let within : c.in-Some.at < length c.args.relvars.now.list.entries = omega (arith, read, below) in
    let are = subst (λ (k : ℤ). AreChanging k g.all c.args.name.now c.args.come.now c.args.gone.now (map read_entry c.args.relvars.now.list.entries)) back c.requires.1.1 in
    subst (λ (k : ℤ). (least_whole <ℤ k) × ((k <ℤ greatest_whole) × ((c.in-Some.at < length c.args.relvars.now.list.entries) × IsSoAt c.in-Some.at (IsChangingLog (k -ℤ pos 1) g.all c.args.come.now c.args.gone.now) (map read_entry c.args.relvars.now.list.entries)))) (sym number)
    (first, (c.requires.0, (within, changing_there n g.all c.args.name.now c.args.come.now c.args.gone.now es c.in-Some.at are c.in-Some.ensures)))

pub returns-in-Some-clause-passed : goal.returns-in-Some-clause-passed
returns-in-Some-clause-passed g c =
    let old = c.args.relvars.now in
    let n = old.accepted +ℤ pos 1 in
    let number : to_z w64 (of_z w64 (to_z w64 (of_z w64 old.accepted) +ℤ pos 1)) ≡ old.accepted +ℤ pos 1 = search rules in
    let back : old.accepted ≡ ((old.accepted +ℤ pos 1) -ℤ pos 1) = omega (arith, ints) in
    let es = map read_entry c.args.relvars.now.list.entries in
    let fs = map read_entry c.change_at.new.relvars.list.entries in
    let are = subst (λ (k : ℤ). AreChanging k g.all c.args.name.now c.args.come.now c.args.gone.now (map read_entry c.args.relvars.now.list.entries)) back c.requires.1.1 in
    ok_both c.change_at.result (fs ≡ turned_at c.in-Some.at (turned_relvar g.all) es) (IsSoAt c.in-Some.at (IsInStep (to_z w64 (of_z w64 (to_z w64 (of_z w64 old.accepted) +ℤ pos 1))) g.all) fs) (ArePassed n g.all zero es fs)
    (λ e s. changed_passed n g.all c.args.name.now c.args.come.now c.args.gone.now es fs c.in-Some.at are c.requires.1.0 c.in-Some.ensures e
    (subst (λ (k : ℤ). IsSoAt c.in-Some.at (IsInStep k g.all) (map read_entry c.change_at.new.relvars.list.entries)) number s)) c.change_at.ensures.list c.change_at.ensures.step

pub returns-in-None-clause-passed : goal.returns-in-None-clause-passed
returns-in-None-clause-passed g c =
    let old = c.args.relvars.now in
    let n = old.accepted +ℤ pos 1 in
    let back : old.accepted ≡ ((old.accepted +ℤ pos 1) -ℤ pos 1) = omega (arith, ints) in
    let es = map read_entry c.args.relvars.now.list.entries in
    let are = subst (λ (k : ℤ). AreChanging k g.all c.args.name.now c.args.come.now c.args.gone.now (map read_entry c.args.relvars.now.list.entries)) back c.requires.1.1 in
    none_passed n g.all c.args.name.now c.args.come.now c.args.gone.now es are c.in-None.ensures

pub returns-in-Some-clause-err : goal.returns-in-Some-clause-err
returns-in-Some-clause-err g c =
    let old = c.args.relvars.now in
    let new = c.change_at.new.relvars in
    err_then c.change_at.result (map read_entry new.list.entries ≡ map read_entry old.list.entries) (read_relvars new ≡ read_relvars old)
    (λ e i. record { ordinals = c.change_at.ensures.ordinals i; relvars = e i; rules = map read_rule (c.change_at.ensures.rules i).entries; accepted = c.change_at.ensures.accepted i }) c.change_at.ensures.err

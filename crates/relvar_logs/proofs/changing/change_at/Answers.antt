use Rattle.std.proofs.Common.{◌≡◌, ◌<ℤ◌, ◌-ℤ◌, pos, ℤ, map, sym, subst, w64, to_z, of_z}
use Rattle.std.proofs.lemmas.Int.{to_z-of_z}
use Rattle.indexmap.specs.IndexMap.{set_value_at}
use Rattle.point_core.specs.Whole.{greatest_whole, least_whole}
use Rattle.tree_core.specs.Relvars.{read_entry, read_relvar}
use Rattle.meaning_core.specs.Logs.{turned_relvar, IsInStep}
use Rattle.relvar_logs.specs.Changes.{turned_at, IsSoAt}
use Rattle.relvar_logs.specs.Passed.{IsChangingLog}
use Rattle.relvar_logs.proofs.EntryLemmas.{set_same, set_turned, so_set, so_there}
use Rattle.relvar_logs.proofs.PassedLemmas.{err_then, ok_then}
use Rattle.relvar_logs.proofs.changing.change_at.Goals as goal

pub change_relvar-requires : goal.change_relvar-requires
change_relvar-requires g c =
    let number : to_z w64 (of_z w64 c.args.number) ≡ c.args.number = to_z-of_z w64 c.args.number c.ranges.number in
    let there = c.pair_mut-relvar in
    subst (λ (k : ℤ). (least_whole <ℤ k) × ((k <ℤ greatest_whole) × IsChangingLog (k -ℤ pos 1) g.all c.args.come.now c.args.gone.now (read_relvar c.pair_mut-relvar.result.1.now))) (sym number)
    (c.requires.0, (c.requires.1.0, so_there c.args.relvars.now.list.entries c.args.at (IsChangingLog (c.args.number -ℤ pos 1) g.all c.args.come.now c.args.gone.now) there.result.0.now there.result.1.now c.requires.1.1.1 there.ensures.value))

pub returns-clause-list : goal.returns-clause-list
returns-clause-list g c =
    let raw = c.args.relvars.now.list.entries in
    let there = c.pair_mut-relvar in
    let w = c.change_relvar.new.relvar in
    ok_then c.change_relvar.result (read_relvar w ≡ turned_relvar g.all (read_relvar there.result.1.now)) (map read_entry (set_value_at raw c.args.at w) ≡ turned_at c.args.at (turned_relvar g.all) (map read_entry raw))
    (set_turned raw c.args.at w (turned_relvar g.all) there.result.0.now there.result.1.now there.ensures.value) c.change_relvar.ensures.turned

pub returns-clause-step : goal.returns-clause-step
returns-clause-step g c =
    let number : to_z w64 (of_z w64 c.args.number) ≡ c.args.number = to_z-of_z w64 c.args.number c.ranges.number in
    let raw = c.args.relvars.now.list.entries in
    let there = c.pair_mut-relvar in
    let w = c.change_relvar.new.relvar in
    ok_then c.change_relvar.result (IsInStep (to_z w64 (of_z w64 c.args.number)) g.all (read_relvar w)) (IsSoAt c.args.at (IsInStep c.args.number g.all) (map read_entry (set_value_at raw c.args.at w)))
    (λ h. so_set raw c.args.at w (IsInStep c.args.number g.all) there.result.0.now there.result.1.now there.ensures.value (subst (λ (k : ℤ). IsInStep k g.all (read_relvar w)) number h)) c.change_relvar.ensures.step

pub returns-clause-err : goal.returns-clause-err
returns-clause-err g c =
    let raw = c.args.relvars.now.list.entries in
    let there = c.pair_mut-relvar in
    let w = c.change_relvar.new.relvar in
    err_then c.change_relvar.result (read_relvar w ≡ read_relvar there.result.1.now) (map read_entry (set_value_at raw c.args.at w) ≡ map read_entry raw)
    (set_same raw c.args.at w there.result.0.now there.result.1.now there.ensures.value) c.change_relvar.ensures.err

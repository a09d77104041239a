use Rattle.std.proofs.Common.{◌≡◌, ◌<ℤ◌, ◌-ℤ◌, pos, sym, subst, w64, to_z, of_z, ℤ}
use Rattle.std.proofs.lemmas.Int.{to_z-of_z}
use Rattle.point_core.specs.Whole.{greatest_whole}
use Rattle.tree_core.specs.Relvars.{read_relvar}
use Rattle.meaning_core.specs.Logs.{turned_relvar, IsInStep}
use Rattle.relvar_logs.specs.Turning.{IsNext}
use Rattle.relvar_logs.proofs.EntryLemmas.{set_turned, so_set, so_there}
use Rattle.relvar_logs.proofs.turning.turn_at.Goals as goal

pub turn-requires : goal.turn-requires
turn-requires g c =
    let number : to_z w64 (of_z w64 c.args.number) ≡ c.args.number = to_z-of_z w64 c.args.number c.ranges.number in
    let there = c.pair_mut-relvar in
    subst (λ (k : ℤ). (k <ℤ greatest_whole) × IsNext (k -ℤ pos 1) g.all c.args.next (read_relvar c.pair_mut-relvar.result.1.now)) (sym number)
    (c.requires.0, so_there c.args.relvars.now.list.entries c.args.at (IsNext (c.args.number -ℤ pos 1) g.all c.args.next) there.result.0.now there.result.1.now c.requires.1.1 there.ensures.value)

pub returns-clause-list : goal.returns-clause-list
returns-clause-list g c =
    let there = c.pair_mut-relvar in
    set_turned c.args.relvars.now.list.entries c.args.at c.turn.new.relvar (turned_relvar g.all) there.result.0.now there.result.1.now there.ensures.value c.turn.ensures.turned

pub returns-clause-step : goal.returns-clause-step
returns-clause-step g c =
    let number : to_z w64 (of_z w64 c.args.number) ≡ c.args.number = to_z-of_z w64 c.args.number c.ranges.number in
    let there = c.pair_mut-relvar in
    so_set c.args.relvars.now.list.entries c.args.at c.turn.new.relvar (IsInStep c.args.number g.all) there.result.0.now there.result.1.now there.ensures.value
    (subst (λ (k : ℤ). IsInStep k g.all (read_relvar c.turn.new.relvar)) number c.turn.ensures.step)

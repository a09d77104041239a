use Rattle.std.proofs.Common.{◌≡◌, ℤ, subst, w64, to_z, of_z}
use Rattle.std.proofs.lemmas.Int.{to_z-of_z}
use Rattle.tree_core.specs.Relvars.{read_relvar}
use Rattle.relvar_logs.specs.Passed.{IsBrought, IsOnTheWay}
use Rattle.relvar_logs.proofs.PassedLemmas.{passed_set, set_length}
use Rattle.relvar_logs.proofs.changing.bring_at.Goals as goal

pub returns-clause-passed : goal.returns-clause-passed
returns-clause-passed c all es are =
    let number : to_z w64 (of_z w64 c.args.number) ≡ c.args.number = to_z-of_z w64 c.args.number c.ranges.number in
    let there = c.pair_mut-relvar in
    let w = c.bring_log.new.relvar in
    passed_set c.args.number all es c.args.relvars.now.list.entries c.args.at w there.result.0.now there.result.1.now there.ensures.value
    (λ before way. subst (λ (k : ℤ). IsOnTheWay k all before (read_relvar c.pair_mut-relvar.result.1.now) → IsBrought k all before (read_relvar c.bring_log.new.relvar)) number (c.bring_log.ensures all before) way) are

pub returns-clause-length : goal.returns-clause-length
returns-clause-length c = set_length c.args.relvars.now.list.entries c.args.at c.bring_log.new.relvar

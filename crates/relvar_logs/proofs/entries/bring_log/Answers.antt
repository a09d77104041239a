use Rattle.std.proofs.Common.{◌≡◌, ℤ, subst, w64, to_z, of_z}
use Rattle.std.proofs.lemmas.Int.{to_z-of_z}
use Rattle.log_times.specs.Kept.{log_relation}
use Rattle.tree_core.specs.declared.relvar.Relvar.{Relvar}
use Rattle.tree_core.specs.Relvars.{log, read_relvar}
use Rattle.relvar_logs.specs.Passed.{IsBrought, IsOnTheWay}
use Rattle.relvar_logs.proofs.entries.bring_log.Goals as goal

pub returns-in-Log : goal.returns-in-Log
returns-in-Log c all before way =
    let l = c.in-Log.log in
    let t = c.bring.new.kept in
    let number : to_z w64 (of_z w64 c.args.number) ≡ c.args.number = to_z-of_z w64 c.args.number c.ranges.number in
    subst (λ (k : ℤ). IsOnTheWay k all before (log c.in-Log.of l.side l.last (log_relation l)) → IsBrought k all before (log c.in-Log.of t.side t.last (log_relation t))) number
    (c.bring.ensures all c.in-Log.of before)
    (subst (λ (r : Relvar). IsOnTheWay c.args.number all before (read_relvar r)) c.in-Log.is way)

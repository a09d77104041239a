use Rattle.std.proofs.Common.{◌≡◌, ◌-ℤ◌, pos, ap, sym, subst, ◌∙◌, ℤ, w64, to_z, of_z}
use Rattle.std.proofs.lemmas.Int.{to_z-of_z}
use Rattle.log_times.specs.Kept.{log_relation}
use Rattle.tree_core.specs.declared.relvar.Relvar.{Relvar}
use Rattle.tree_core.specs.Relvars.{log, read_relvar}
use Rattle.meaning_core.specs.Logs.{turned_relvar, IsInStep}
use Rattle.relvar_logs.specs.Passed.{IsChangingLog, IsChanged}
use Rattle.relvar_logs.proofs.ChangedLemmas.{changed_turned, changed_step}
use Rattle.relvar_logs.proofs.PassedLemmas.{ok_then}
use Rattle.relvar_logs.proofs.entries.change_relvar.Goals as goal

pub returns-in-Log-clause-turned : goal.returns-in-Log-clause-turned
returns-in-Log-clause-turned g c =
    let l = c.in-Log.log in
    let t = c.change_one.new.log in
    let number : to_z w64 (of_z w64 c.args.number) ≡ c.args.number = to_z-of_z w64 c.args.number c.ranges.number in
    let changing = subst (λ (r : Relvar). IsChangingLog (c.args.number -ℤ pos 1) g.all c.args.come.now c.args.gone.now (read_relvar r)) c.in-Log.is c.requires.1.1 in
    ok_then c.change_one.result (IsChanged l c.args.come.now c.args.gone.now (to_z w64 (of_z w64 c.args.number)) t) (log c.in-Log.of t.side t.last (log_relation t) ≡ turned_relvar g.all (read_relvar c.args.relvar.now))
    (λ h. changed_turned c.args.number g.all c.args.come.now c.args.gone.now c.in-Log.of l t changing (subst (λ (k : ℤ). IsChanged l c.args.come.now c.args.gone.now k t) number h) ∙ ap (λ (r : Relvar). turned_relvar g.all (read_relvar r)) (sym c.in-Log.is))
    c.change_one.ensures.changed

pub returns-in-Log-clause-step : goal.returns-in-Log-clause-step
returns-in-Log-clause-step g c =
    let l = c.in-Log.log in
    let t = c.change_one.new.log in
    let number : to_z w64 (of_z w64 c.args.number) ≡ c.args.number = to_z-of_z w64 c.args.number c.ranges.number in
    let changing = subst (λ (r : Relvar). IsChangingLog (c.args.number -ℤ pos 1) g.all c.args.come.now c.args.gone.now (read_relvar r)) c.in-Log.is c.requires.1.1 in
    ok_then c.change_one.result (IsChanged l c.args.come.now c.args.gone.now (to_z w64 (of_z w64 c.args.number)) t) (IsInStep c.args.number g.all (log c.in-Log.of t.side t.last (log_relation t)))
    (λ h. changed_step c.args.number g.all c.args.come.now c.args.gone.now c.in-Log.of l t changing (subst (λ (k : ℤ). IsChanged l c.args.come.now c.args.gone.now k t) number h)) c.change_one.ensures.changed

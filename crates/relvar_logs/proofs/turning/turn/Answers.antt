use Rattle.std.proofs.Common.{◌≡◌, ap, sym, subst, ◌∙◌, w64, to_z, of_z, ℤ}
use Rattle.std.proofs.lemmas.Int.{to_z-of_z}
use Rattle.log_times.specs.Kept.{PlainLog, log_relation}
use Rattle.tree_core.specs.declared.relvar.Relvar.{Relvar}
use Rattle.tree_core.specs.Relvars.{log, read_relvar}
use Rattle.meaning_core.specs.Logs.{turned_relvar, IsInStep}
use Rattle.relvar_logs.proofs.TurningLemmas.{idle_turned, idle_step, idle_next}
use Rattle.relvar_logs.proofs.turning.turn.Goals as goal

pub returns-in-None-clause-turned : goal.returns-in-None-clause-turned
returns-in-None-clause-turned g c =
    let l = c.in-Log.log in
    let number : to_z w64 (of_z w64 c.args.number) ≡ c.args.number = to_z-of_z w64 c.args.number c.ranges.number in
    let before = idle_next g.all c.args.number c.args.next c.args.relvar.now c.in-Log.of l c.in-None.is c.in-Log.is c.requires.1 in
    ap (λ (k : PlainLog). log c.in-Log.of k.side k.last (log_relation k)) (c.advance.ensures.later ∙ ap (λ (k : ℤ). record { side = l.side; last = k; stored = l.stored }) number)
    ∙ (idle_turned g.all c.in-Log.of l c.args.number c.advance.ensures.log c.advance.ensures.relation c.requires.0 before
    ∙ ap (λ (r : Relvar). turned_relvar g.all (read_relvar r)) (sym c.in-Log.is))

pub returns-in-None-clause-step : goal.returns-in-None-clause-step
returns-in-None-clause-step g c =
    let l = c.in-Log.log in
    let number : to_z w64 (of_z w64 c.args.number) ≡ c.args.number = to_z-of_z w64 c.args.number c.ranges.number in
    let before = idle_next g.all c.args.number c.args.next c.args.relvar.now c.in-Log.of l c.in-None.is c.in-Log.is c.requires.1 in
    let later = c.advance.ensures.later ∙ ap (λ (k : ℤ). record { side = l.side; last = k; stored = l.stored }) number in
    subst (λ (k : PlainLog). IsInStep c.args.number g.all (log c.in-Log.of k.side k.last (log_relation k))) (sym later)
    (idle_step g.all c.in-Log.of l c.args.number c.advance.ensures.log c.advance.ensures.relation c.requires.0 before)

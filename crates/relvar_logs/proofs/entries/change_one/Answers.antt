use Rattle.std.proofs.Common.{◌≡◌, subst, ℤ, w64, to_z, of_z}
use Rattle.std.proofs.lemmas.Int.{to_z-of_z}
use Rattle.log_turns.specs.Changed.{with_change}
use Rattle.log_turns.specs.Turned.{IsAfter}
use Rattle.relvar_logs.proofs.ChangedLemmas.{exact_standing, changed_after}
use Rattle.relvar_logs.proofs.entries.change_one.Goals as goal

pub change-requires-clause-exact : goal.change-requires-clause-exact
change-requires-clause-exact c = exact_standing c.args.log.now c.args.come.now.rows c.args.gone.now.rows c.stored.ensures.log c.requires.exact

pub returns-clause-changed : goal.returns-clause-changed
returns-clause-changed c =
    let l = c.args.log.now in
    let number : to_z w64 (of_z w64 c.args.number) ≡ c.args.number = to_z-of_z w64 c.args.number c.ranges.number in
    changed_after l c.change.new.log c.args.come.now c.args.gone.now c.args.number c.stored.ensures.log c.stored-2.ensures.log
    (subst (λ (k : ℤ). IsAfter l (with_change l c.args.come.now c.args.gone.now) k c.change.new.log) number c.in_ok-change.ensures.changed)

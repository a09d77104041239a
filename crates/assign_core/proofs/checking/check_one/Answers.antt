use Rattle.std.proofs.Common.{rules, ◌≡◌, false}
use Rattle.assign_core.specs.Checks.{can_break}
use Rattle.assign_core.proofs.TouchLemmas.{unbroken}
use Rattle.assign_core.proofs.checking.check_one.Goals as goal

pub returns-then-not-can_break-clause-answer : goal.returns-then-not-can_break-clause-answer
returns-then-not-can_break-clause-answer g c =
    let cannot : can_break c.args.new c.args.own.changes c.args.constraint.now ≡ false = search rules in
    unbroken c.args.new c.args.own.changes c.args.own.of.now.rows c.args.constraint.now cannot c.requires.held

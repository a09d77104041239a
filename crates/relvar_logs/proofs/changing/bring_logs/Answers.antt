use Rattle.std.proofs.Common.{rules, ◌≡◌, ◌+ℤ◌, pos, ℤ, map, sym, subst, w64, to_z, of_z}
use Rattle.tree_core.specs.Relvars.{read_entry, read_rule}
use Rattle.relvar_logs.specs.Passed.{ArePassed}
use Rattle.relvar_logs.proofs.changing.bring_logs.Goals as goal

pub returns-clause-counted : goal.returns-clause-counted
returns-clause-counted c es are =
    let old = c.args.relvars.now in
    let number : to_z w64 (of_z w64 (to_z w64 (of_z w64 old.accepted) +ℤ pos 1)) ≡ old.accepted +ℤ pos 1 = search rules in
    let list = c.bring_all.ensures.list es (subst (λ (k : ℤ). ArePassed k es 0 es (map read_entry c.args.relvars.now.list.entries)) (sym number) are) in
    λ i. record { ordinals = c.bring_all.ensures.ordinals i; relvars = list i; rules = map read_rule (c.bring_all.ensures.rules i).entries; accepted = number i }

pub returns-clause-step : goal.returns-clause-step
returns-clause-step c es are =
    let old = c.args.relvars.now in
    let number : to_z w64 (of_z w64 (to_z w64 (of_z w64 old.accepted) +ℤ pos 1)) ≡ old.accepted +ℤ pos 1 = search rules in
    c.bring_all.ensures.step es (subst (λ (k : ℤ). ArePassed k es 0 es (map read_entry c.args.relvars.now.list.entries)) (sym number) are)

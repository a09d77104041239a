use Rattle.std.proofs.Common.{rules, ◌≡◌, ◌+ℤ◌, pos, sym, ◌∙◌, w64, to_z, of_z}
use Rattle.tree_core.specs.Relvars.{read_relvars}
use Rattle.assign_core.proofs.LogLemmas.{alone_counted, alone_in_step}
use Rattle.assign_core.proofs.assigning.count_alone.Goals as goal

pub returns-clause-counted : goal.returns-clause-counted
returns-clause-counted c =
    let s = read_relvars c.args.relvars.now in
    let number : to_z w64 (of_z w64 (to_z w64 (of_z w64 s.accepted) +ℤ pos 1)) ≡ s.accepted +ℤ pos 1 = search rules in
    (λ i. record s { accepted = number i }) ∙ sym (alone_counted s c.requires.alone)

pub returns-clause-step : goal.returns-clause-step
returns-clause-step c =
    let s = read_relvars c.args.relvars.now in
    alone_in_step _ s.relvars s.relvars c.requires.alone

use Rattle.std.proofs.Common.{◌≡◌, drop, sym, ap, ◌∙◌, arith}
use Rattle.relation_core.specs.Operators.{united}
use Rattle.u_constraints.proofs.GrowthLemmas.{all_left}
use Rattle.assign_core.proofs.merging.put_many.Goals as goal

pub returns : goal.returns
returns g c =
    let rows = c.args.rows.now.items in
    let come = c.args.come.items in
    let none : 0 ≡ c.args.empty = omega (arith, c.if-empty-gt0.false) in
    c.exchange_each.ensures.rows ∙ (sym (all_left (united rows come)) ∙ ap (λ n. united (drop n rows) come) none)

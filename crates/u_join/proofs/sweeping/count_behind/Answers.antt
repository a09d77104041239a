use Rattle.std.proofs.Common.{◌≡◌, ℤ, arith, sym, subst, ◌∙◌, w64, to_z, of_z}
use Rattle.std.proofs.lemmas.Bool.{true≢false}
use Rattle.std.proofs.lemmas.Int.{ints, to_z-of_z}
use Rattle.u_join.specs.RowPairs.{seen, IsBehind}
use Rattle.u_join.proofs.SweepingLemmas.{ahead_here}
use Rattle.u_join.proofs.sweeping.count_behind.Goals as goal

pub returns-else-is_behind-clause-ahead : goal.returns-else-is_behind-clause-ahead
returns-else-is_behind-clause-ahead c =
    let key = (seen c.args.other.now).1 in
    let x = c.index-rows-count.result in
    let e : to_z w64 (of_z w64 c.args.point) ≡ c.args.point = grind (arith, ints, to_z-of_z) in
    ahead_here seen c.args.rows.now c.requires.order c.args.too key c.args.point c.loop-count.count x (omega arith, sym c.index-rows-count.is)
    (λ b. true≢false (sym (c.is_behind.ensures.1 (subst (λ (p : ℤ). IsBehind c.args.too key p (seen x)) (sym e) b)) ∙ c.if-is_behind.false))

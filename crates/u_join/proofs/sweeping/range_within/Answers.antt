use Rattle.std.proofs.Common.{◌≡◌, ℤ, true, subst, sym, arith, w64, to_z, of_z}
use Rattle.std.proofs.lemmas.Int.{ints, to_z-of_z}
use Rattle.u_join.specs.RowPairs.{seen, IsBehind, AreBehind, AreAhead}
use Rattle.u_join.proofs.SweepingLemmas.{behind_later, within_range}
use Rattle.u_join.proofs.sweeping.range_within.Goals as goal

pub count_behind-end-requires-clause-known : goal.count_behind-end-requires-clause-known
count_behind-end-requires-clause-known c = λ j y a l.
    let x = seen c.args.x.now in
    let b : to_z w64 (of_z w64 x.2.0) ≡ x.2.0 = grind (arith, ints, to_z-of_z) in
    let e : to_z w64 (of_z w64 x.2.1) ≡ x.2.1 = grind (arith, ints, to_z-of_z) in
    let before = subst (λ (p : ℤ). IsBehind c.args.strict x.1 p (seen y)) b (c.count_behind-first.ensures.behind j y a l) in
    subst (λ (p : ℤ). IsBehind true x.1 p (seen y)) (sym e) (behind_later c.args.strict x.1 x.2.0 x.2.1 (seen y) c.requires.interval before)

pub returns-clause-rows : goal.returns-clause-rows
returns-clause-rows c =
    let x = seen c.args.x.now in
    let b : to_z w64 (of_z w64 x.2.0) ≡ x.2.0 = grind (arith, ints, to_z-of_z) in
    let e : to_z w64 (of_z w64 x.2.1) ≡ x.2.1 = grind (arith, ints, to_z-of_z) in
    let rows = c.args.rows.now in
    let first = c.count_behind-first in
    let end = c.count_behind-end in
    within_range seen c.args.strict x rows first.result end.result
    (subst (λ (p : ℤ). AreBehind seen c.args.strict x.1 p rows first.result) b first.ensures.behind)
    (subst (λ (p : ℤ). AreAhead seen c.args.strict x.1 p rows first.result) b first.ensures.ahead)
    (subst (λ (p : ℤ). AreBehind seen true x.1 p rows end.result) e end.ensures.behind)
    (subst (λ (p : ℤ). AreAhead seen true x.1 p rows end.result) e end.ensures.ahead)

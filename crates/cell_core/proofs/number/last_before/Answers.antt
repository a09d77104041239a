use Rattle.std.proofs.Common.{◌≡◌, suc, pos, ◌+ℤ◌, ◌-ℤ◌, ◌<ℤ◌, ◌≤ℤ◌, length, get_or, arith, subst, sym, ◌∙◌}
use Rattle.std.specs.Option.{IfSome}
use Rattle.std.proofs.lemmas.Int.{ints}
use Rattle.std.proofs.lemmas.List.Elements.{All-get_or}
use Rattle.cell_core.proofs.Numbers.{some_from, read_before, read_next, read_end}
use Rattle.cell_core.proofs.number.last_before.Goals as goal

pub unwrap-requires : goal.unwrap-requires
unwrap-requires g c =
    let n = g.T.PointType.number_of in
    let x = c.index-cuts-i.result in
    let t = c.args.t.now in
    let below : n (get_or c.args.cuts.now c.args.i x) <ℤ n x = read_before n c.args.cuts.now (g.T.PointType.last_number t +ℤ pos 1) c.args.i x c.requires.rises c.if-i-cuts.true c.index-cuts-i.is in
    let low : g.T.PointType.first_number t ≤ℤ n (get_or c.args.cuts.now c.args.i x) = (g.met.T.PointType.within t (get_or c.args.cuts.now c.args.i x) (All-get_or (g.T.PointType.IsPoint t) c.args.cuts.now c.args.i x c.requires.within c.requires.points)).0 in
    some_from c.prior.result (λ h. let e = c.prior.ensures.first.0 h in omega (arith, ints))

pub returns-then-i-cuts-clause-number : goal.returns-then-i-cuts-clause-number
returns-then-i-cuts-clause-number g c =
    let n = g.T.PointType.number_of in
    let x = c.index-cuts-i.result in
    let t = c.args.t.now in
    let w = subst (λ o. IfSome o (λ q. g.T.PointType.IsPoint t q × (n q ≡ n x -ℤ pos 1))) c.unwrap.ensures c.prior.ensures.prior in
    let e = w.1 in
    let f : n c.unwrap.result +ℤ pos 1 ≡ n x = omega (arith, ints) in
    f ∙ sym (read_next n c.args.cuts.now (g.T.PointType.last_number t +ℤ pos 1) c.args.i x c.if-i-cuts.true c.index-cuts-i.is)

pub returns-else-i-cuts-clause-number : goal.returns-else-i-cuts-clause-number
returns-else-i-cuts-clause-number g c =
    let e = c.last.ensures.number in
    let top = g.T.PointType.last_number c.args.t.now +ℤ pos 1 in
    let f : g.T.PointType.number_of c.last.result +ℤ pos 1 ≡ top = omega (arith, ints) in
    let s : suc c.args.i ≡ length c.args.cuts.now = omega arith in
    f ∙ sym (read_end g.T.PointType.number_of c.args.cuts.now top c.args.i s)

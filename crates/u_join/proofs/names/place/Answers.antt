use Rattle.std.proofs.Common.{◌+◌, ◌<◌, ◌≤◌, length, sym, ap, ◌∙◌, subst, arith}
use Rattle.relation_core.specs.Agreement.{position_of}
use Rattle.u_join.proofs.NameLemmas.{position_first, position_second}
use Rattle.u_join.proofs.names.place.Goals as goal

pub returns-then-at-left : goal.returns-then-at-left
returns-then-at-left c =
    let e = c.position-at.ensures.value in
    let l : position_of c.args.left.now c.args.name.now < length c.args.left.now = subst (λ k. k < length c.args.left.now) e c.if-at-left.true in
    e ∙ sym (position_first c.args.left.now c.args.right.now c.args.name.now l)

pub returns : goal.returns
returns c =
    let e = c.position-at.ensures.value in
    let out : length c.args.left.now ≤ c.position-at.result = omega arith in
    let l : length c.args.left.now ≤ position_of c.args.left.now c.args.name.now = subst (λ k. length c.args.left.now ≤ k) e out in
    ap (λ k. length c.args.left.now + k) c.position.ensures.value ∙ sym (position_second c.args.left.now c.args.right.now c.args.name.now l)

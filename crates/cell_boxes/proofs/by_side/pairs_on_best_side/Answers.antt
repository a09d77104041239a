use Rattle.std.proofs.Common.{◌<◌, inl, inr}
use Rattle.cell_boxes.proofs.SideLemmas.{long_enough, first_candidates}
use Rattle.cell_boxes.proofs.by_side.pairs_on_best_side.Goals as goal

pub pairs_on_side-requires-clause-left : goal.pairs_on_side-requires-clause-left
pairs_on_side-requires-clause-left g c =
    let below : c.best_side-side.result < c.args.sides = elim c.best_side-side.ensures [ inl e ↦ absurd (c.if-side-eq0.false e) | inr l ↦ l ] in
    long_enough c.args.sides c.best_side-side.result c.args.left.now c.requires.left below

pub pairs_on_side-requires-clause-right : goal.pairs_on_side-requires-clause-right
pairs_on_side-requires-clause-right g c =
    let below : c.best_side-side.result < c.args.sides = elim c.best_side-side.ensures [ inl e ↦ absurd (c.if-side-eq0.false e) | inr l ↦ l ] in
    long_enough c.args.sides c.best_side-side.result c.args.right.now c.requires.right below

pub returns-then-side-eq0 : goal.returns-then-side-eq0
returns-then-side-eq0 g c = first_candidates g.P.Label.order g.met.P.Label.total c.args.left.now c.args.right.now c.args.sides c.requires.left c.requires.right c.in_ok-pairs.pairs.items c.in_ok-pairs.ensures

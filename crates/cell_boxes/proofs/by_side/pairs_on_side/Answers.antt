use Rattle.std.proofs.Common.{ℕ, ◌↔◌, ◌⊎◌, true, false, List, sym, subst}
use Rattle.cell_packing.specs.Covering.{Among}
use Rattle.cell_boxes.specs.Meetings.{IsLater, turned}
use Rattle.cell_boxes.specs.Rows.{Ascend, PlainCellBox}
use Rattle.cell_boxes.specs.Sides.{AreCandidates, AreOnSide}
use Rattle.cell_boxes.proofs.SideLemmas.{numbers_there, side_candidates}
use Rattle.cell_boxes.proofs.by_side.pairs_on_side.Goals as goal

pub pairs_on_first-requires-clause-left : goal.pairs_on_first-requires-clause-left
pairs_on_first-requires-clause-left g c = subst (Ascend g.P.Label.order) (sym c.as_slice.ensures.value) c.in_ok-lefts.ensures.order

pub pairs_on_first-requires-clause-right : goal.pairs_on_first-requires-clause-right
pairs_on_first-requires-clause-right g c = subst (Ascend g.P.Label.order) (sym c.as_slice-2.ensures.value) c.in_ok-rights.ensures.order

pub renumbered-requires : goal.renumbered-requires
renumbered-requires g c =
    let o = g.P.Label.order in
    let side : ℕ = c.args.side in
    let left = c.args.left.now in
    let right = c.args.right.now in
    let lefts = c.as_slice.result.now in
    let rights = c.as_slice-2.result.now in
    let ln = c.as_slice-4.result.now in
    let rn = c.as_slice-5.result.now in
    let ls = subst (λ (ks : List (PlainCellBox _)). AreOnSide side left ks ln) (sym c.as_slice.ensures.value) (subst (AreOnSide side left c.in_ok-lefts.lefts.items) (sym c.as_slice-4.ensures.value) c.in_ok-lefts.ensures.rows) in
    let rs = subst (λ (ks : List (PlainCellBox _)). AreOnSide side right ks rn) (sym c.as_slice-2.ensures.value) (subst (AreOnSide side right c.in_ok-rights.rights.items) (sym c.as_slice-5.ensures.value) c.in_ok-rights.ensures.rows) in
    let is = subst (λ (xs : List (ℕ × ℕ)). (p : ℕ × ℕ) → Among p xs ↔ IsLater o false lefts rights p ⊎ IsLater o true rights lefts (turned p)) (sym c.as_slice-3.ensures.value) c.in_ok-pairs.ensures in
    numbers_there o g.met.P.Label.total left right side lefts rights ln rn ls rs c.as_slice-3.result.now is

pub returns : goal.returns
returns g c =
    let o = g.P.Label.order in
    let side : ℕ = c.args.side in
    let left = c.args.left.now in
    let right = c.args.right.now in
    let lefts = c.as_slice.result.now in
    let rights = c.as_slice-2.result.now in
    let ln = c.as_slice-4.result.now in
    let rn = c.as_slice-5.result.now in
    let ls = subst (λ (ks : List (PlainCellBox _)). AreOnSide side left ks ln) (sym c.as_slice.ensures.value) (subst (AreOnSide side left c.in_ok-lefts.lefts.items) (sym c.as_slice-4.ensures.value) c.in_ok-lefts.ensures.rows) in
    let rs = subst (λ (ks : List (PlainCellBox _)). AreOnSide side right ks rn) (sym c.as_slice-2.ensures.value) (subst (AreOnSide side right c.in_ok-rights.rights.items) (sym c.as_slice-5.ensures.value) c.in_ok-rights.ensures.rows) in
    let is = subst (λ (xs : List (ℕ × ℕ)). (p : ℕ × ℕ) → Among p xs ↔ IsLater o false lefts rights p ⊎ IsLater o true rights lefts (turned p)) (sym c.as_slice-3.ensures.value) c.in_ok-pairs.ensures in
    subst (AreCandidates o left right) (sym c.in_ok-out.ensures) (side_candidates o g.met.P.Label.total left right side lefts rights ln rn ls rs c.as_slice-3.result.now is c.requires.left c.requires.right)

use Rattle.std.proofs.Common.{◌≡◌, ◌≤ℤ◌, pos, ◌+◌, ◌∷◌, ◌++◌, [], suc, length, get_or, map, take, arith, subst, sym, ap, ◌∙◌, inl, inr}
use Rattle.std.proofs.lemmas.Bool.{cases_lt}
use Rattle.std.proofs.lemmas.List.{get_or_append_left, get_or_push, length_push, get_or_read, get_or_default}
use Rattle.interval_core.specs.Members.{HasEndsIn, at_point}
use Rattle.cell_core.specs.Cells.{box_numbers}
use Rattle.cell_core.proofs.BackLemmas.{is_box}
use Rattle.cell_core.proofs.KeyLemmas.{take_whole}
use Rattle.cell_core.proofs.GridPointLemmas.{grid_point_count, grid_point_at, one_more_point, numbers_push}
use Rattle.cell_core.proofs.unpacking.box_at.Goals as goal

pub index-requires : goal.index-requires
index-requires g c =
    let e = ap length c.numbers.view_is in
    let n = grid_point_count g.T.PointType.first_number g.T.PointType.last_number c.args.types.now c.args.numbers.now c.requires in
    let h = c.loop-j-test.true in
    let l = c.numbers.inside.list.ok.0 in
    omega arith

pub at_number-requires-clause-low : goal.at_number-requires-clause-low
at_number-requires-clause-low g c =
    let first = g.T.PointType.first_number in
    let last = g.T.PointType.last_number in
    let types = c.args.types.now in
    let t = c.index-types-j.result in
    let j = c.loop-j.j in
    let p = c.index.result.now in
    let many = grid_point_count first last types c.args.numbers.now c.requires in
    let h = c.loop-j-test.true in
    let at : get_or c.args.numbers.now j (pos 0) ≡ p = get_or_default c.args.numbers.now j (pos 0) p (omega arith) ∙ ap (λ ys. get_or ys j p) (sym c.numbers.view_is) ∙ sym c.index.ensures in
    subst (λ u. first u ≤ℤ p) (sym c.index-types-j.is) (subst (λ q. first (get_or types j t) ≤ℤ q) at (grid_point_at first last types c.args.numbers.now c.requires j t h).0)

pub at_number-requires-clause-high : goal.at_number-requires-clause-high
at_number-requires-clause-high g c =
    let first = g.T.PointType.first_number in
    let last = g.T.PointType.last_number in
    let types = c.args.types.now in
    let t = c.index-types-j.result in
    let j = c.loop-j.j in
    let p = c.index.result.now in
    let many = grid_point_count first last types c.args.numbers.now c.requires in
    let h = c.loop-j-test.true in
    let at : get_or c.args.numbers.now j (pos 0) ≡ p = get_or_default c.args.numbers.now j (pos 0) p (omega arith) ∙ ap (λ ys. get_or ys j p) (sym c.numbers.view_is) ∙ sym c.index.ensures in
    subst (λ u. p ≤ℤ last u) (sym c.index-types-j.is) (subst (λ q. q ≤ℤ last (get_or types j t)) at (grid_point_at first last types c.args.numbers.now c.requires j t h).1)

pub loop-j-preserved : goal.loop-j-preserved
loop-j-preserved g c =
    let n = g.T.PointType.number_of in
    let has = g.T.PointType.IsPoint in
    let list = c.loop-j.list.items in
    let x = c.at_number.result in
    let p = c.index.result.now in
    let push = c.in_ok-push.ensures.items in
    let len = c.loop-j.invariant.length in
    let many = grid_point_count g.T.PointType.first_number g.T.PointType.last_number c.args.types.now c.args.numbers.now c.requires in
    let h = c.loop-j-test.true in
    let s : suc c.loop-j.j ≡ c.loop-j.j + 1 = omega arith in
    let at : p ≡ get_or c.args.numbers.now c.loop-j.j (pos 0) = c.index.ensures ∙ ap (λ ys. get_or ys c.loop-j.j p) c.numbers.view_is ∙ get_or_default c.args.numbers.now c.loop-j.j p (pos 0) (omega arith) in
    record {
      length = ap length push ∙ length_push list x ∙ ap (λ m. m + 1) len;
      numbers = ap (box_numbers n) push ∙ numbers_push n list x ∙ (λ t. c.loop-j.invariant.numbers t ++ c.at_number.ensures.numbers t ∷ []) ∙ sym (one_more_point c.args.numbers.now c.loop-j.j p (omega arith) at) ∙ ap (λ m. map at_point (take m c.args.numbers.now)) s;
      points = λ j t d b.
          elim (cases_lt j c.loop-j.j) [
            | inl l ↦ subst (HasEndsIn has (get_or c.args.types.now j t)) (sym (ap (λ ys. get_or ys j d) push ∙ get_or_append_left list (x ∷ []) d j (omega arith))) (c.loop-j.invariant.points j t d l)
            | inr l ↦
                let q : c.loop-j.j ≡ j = omega arith in
                let here : get_or c.push.new.self.items c.loop-j.j d ≡ x = ap (λ ys. get_or ys c.loop-j.j d) push ∙ get_or_push list x d c.loop-j.j len in
                let types = get_or_read c.args.types.now c.loop-j.j c.index-types-j.result c.loop-j-test.true c.index-types-j.is t in
                subst (λ m. HasEndsIn has (get_or c.args.types.now m t) (get_or c.push.new.self.items m d)) q
                (subst (HasEndsIn has (get_or c.args.types.now c.loop-j.j t)) (sym here)
                (subst (λ u. HasEndsIn has u x) types c.at_number.ensures.points))
          ];
    }

pub returns-clause-numbers : goal.returns-clause-numbers
returns-clause-numbers g c =
    let many = grid_point_count g.T.PointType.first_number g.T.PointType.last_number c.args.types.now c.args.numbers.now c.requires in
    let h = c.loop-j-test.false in
    c.loop-j.invariant.numbers ∙ ap (map at_point) (take_whole c.args.numbers.now c.loop-j.j (omega arith))

pub returns-clause-points : goal.returns-clause-points
returns-clause-points g c =
    let h = c.loop-j-test.false in
    let len = c.loop-j.invariant.length in
    let end = c.loop-j.auto.j-end in
    is_box g.T.PointType.IsPoint c.args.types.now c.loop-j.list.items (omega arith) (λ j t d b. c.loop-j.invariant.points j t d (omega arith))

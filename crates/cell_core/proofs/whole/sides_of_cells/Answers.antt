use Rattle.std.proofs.Common.{◌≡◌, ◌+◌, ◌∷◌, [], pos, ◌+ℤ◌, length, map, get_or, arith, subst, sym, ap, ◌∙◌, inl, inr}
use Rattle.std.proofs.lemmas.Bool.{cases_lt}
use Rattle.std.proofs.lemmas.List.{get_or_append_left, get_or_push, length_push, get_or_read}
use Rattle.interval_core.specs.Members.{HasEndsIn}
use Rattle.cell_core.specs.Numbering.{IsGrid, numbers_of, span_at}
use Rattle.cell_core.proofs.whole.sides_of_cells.Goals as goal

pub interval_of-i-requires-clause-side : goal.interval_of-i-requires-clause-side
interval_of-i-requires-clause-side g c =
    subst (λ u. IsGrid g.T.PointType.number_of (g.T.PointType.IsPoint u) (g.T.PointType.last_number u) c.index-sides-j.result) (sym c.index-types-j.is)
    (subst (λ v. IsGrid g.T.PointType.number_of (g.T.PointType.IsPoint (get_or c.args.types.now c.loop-j.j c.index-types-j.result)) (g.T.PointType.last_number (get_or c.args.types.now c.loop-j.j c.index-types-j.result)) v) (sym c.index-sides-j.is)
    (c.requires.grids c.loop-j.j c.index-types-j.result c.index-sides-j.result c.loop-j-test.true))

pub loop-j-preserved : goal.loop-j-preserved
loop-j-preserved g c =
    let n = g.T.PointType.number_of in
    let list = c.loop-j.list.items in
    let x = c.interval_of-i.result in
    let push = c.in_ok-push.ensures.items in
    let len = c.loop-j.invariant.length in
    record {
      length = ap length push ∙ length_push list x ∙ ap (λ m. m + 1) len;
      numbers = λ j t d e h.
          elim (cases_lt j c.loop-j.j) [
            | inl l ↦ ap (numbers_of n) (ap (λ ys. get_or ys j d) push ∙ get_or_append_left list (x ∷ []) d j (omega arith)) ∙ c.loop-j.invariant.numbers j t d e l
            | inr l ↦
                let q : c.loop-j.j ≡ j = omega arith in
                let here : get_or c.push.new.self.items c.loop-j.j d ≡ x = ap (λ ys. get_or ys c.loop-j.j d) push ∙ get_or_push list x d c.loop-j.j len in
                let types = get_or_read c.args.types.now c.loop-j.j c.index-types-j.result c.loop-j-test.true c.index-types-j.is t in
                let sides = get_or_read c.args.sides.now c.loop-j.j c.index-sides-j.result (omega arith) c.index-sides-j.is e in
                subst (λ m. numbers_of n (get_or c.push.new.self.items m d) ≡ span_at (map n (get_or c.args.sides.now m e).0) (g.T.PointType.last_number (get_or c.args.types.now m t) +ℤ pos 1) (get_or c.args.cells.now m (0, 0))) q
                (ap (numbers_of n) here ∙ c.interval_of-i.ensures.numbers ∙ (λ i. span_at (map n (sides i).0) (g.T.PointType.last_number (types i) +ℤ pos 1) (get_or c.args.cells.now c.loop-j.j (0, 0))))
          ];
      points = λ j t d h.
          let has = g.T.PointType.IsPoint in
          elim (cases_lt j c.loop-j.j) [
            | inl l ↦ subst (HasEndsIn has (get_or c.args.types.now j t)) (sym (ap (λ ys. get_or ys j d) push ∙ get_or_append_left list (x ∷ []) d j (omega arith))) (c.loop-j.invariant.points j t d l)
            | inr l ↦
                let q : c.loop-j.j ≡ j = omega arith in
                let here : get_or c.push.new.self.items c.loop-j.j d ≡ x = ap (λ ys. get_or ys c.loop-j.j d) push ∙ get_or_push list x d c.loop-j.j len in
                let types = get_or_read c.args.types.now c.loop-j.j c.index-types-j.result c.loop-j-test.true c.index-types-j.is t in
                subst (λ m. HasEndsIn has (get_or c.args.types.now m t) (get_or c.push.new.self.items m d)) q
                (subst (HasEndsIn has (get_or c.args.types.now c.loop-j.j t)) (sym here)
                (subst (λ u. HasEndsIn has u x) types (c.interval_of-i.ensures.begin, c.interval_of-i.ensures.end)))
          ];
    }

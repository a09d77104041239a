use Rattle.std.proofs.Common.{◌≡◌, ◌<◌, ◌≤◌, ◌+◌, ◌∷◌, [], length, get_or, arith, subst, sym, ap, ◌∙◌, inl, inr}
use Rattle.std.proofs.lemmas.Bool.{cases_lt}
use Rattle.std.proofs.lemmas.List.{get_or_append_left, get_or_push, length_push, get_or_read}
use Rattle.interval_core.specs.Members.{HasEndsIn}
use Rattle.cell_core.proofs.BackLemmas.{is_box}
use Rattle.operator_tests.proofs.boxes.sides_of.Goals as goal

pub loop-j-preserved : goal.loop-j-preserved
loop-j-preserved g c =
    let has = g.T.PointType.IsPoint in
    let list = c.loop-j.list.items in
    let x = c.interval-i.result in
    let push = c.in_ok-push.ensures.items in
    let len = c.loop-j.invariant.length in
    record {
      length = ap length push ∙ length_push list x ∙ ap (λ m. m + 1) len;
      points = λ j t d b.
          elim (cases_lt j c.loop-j.j) [
            | inl l ↦ subst (HasEndsIn has (get_or c.args.types.now j t)) (sym (ap (λ ys. get_or ys j d) push ∙ get_or_append_left list (x ∷ []) d j (omega arith))) (c.loop-j.invariant.points j t d l)
            | inr l ↦
                let q : c.loop-j.j ≡ j = omega arith in
                let here : get_or c.push.new.self.items c.loop-j.j d ≡ x = ap (λ ys. get_or ys c.loop-j.j d) push ∙ get_or_push list x d c.loop-j.j len in
                let types = get_or_read c.args.types.now c.loop-j.j c.index-types-j.result c.loop-j-test.true c.index-types-j.is t in
                subst (λ m. HasEndsIn has (get_or c.args.types.now m t) (get_or c.push.new.self.items m d)) q
                (subst (HasEndsIn has (get_or c.args.types.now c.loop-j.j t)) (sym here)
                (subst (λ u. HasEndsIn has u x) types c.interval-i.ensures))
          ];
    }

pub returns : goal.returns
returns g c =
    let h = c.loop-j-test.false in
    let len = c.loop-j.invariant.length in
    let end = c.loop-j.auto.j-end in
    is_box g.T.PointType.IsPoint c.args.types.now c.loop-j.list.items (omega arith) (λ j t d b. c.loop-j.invariant.points j t d (omega arith))

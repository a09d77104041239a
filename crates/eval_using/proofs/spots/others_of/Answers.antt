use Rattle.std.proofs.Common.{◌≡◌, ◌<◌, ◌+◌, ℕ, List, ◌++◌, drop, length, get_or, refl, sym, ◌∙◌, subst}
use Rattle.u_set.specs.Boxes.{others_from, others}
use Rattle.eval_using.proofs.SpotLemmas.{others_passed, others_kept}
use Rattle.eval_using.proofs.spots.others_of.Goals as goal
use Rattle.eval_using.proofs.spots.others_of.Goals.{then-not-is_listed+in_ok-push, else-not-is_listed}

pub loop-i-preserved : goal.loop-i-preserved
loop-i-preserved c =
    let commalist = c.args.commalist.now in
    let list = c.args.list.now in
    let i = c.loop-i.i in
    let l : i < length list = c.loop-i-test.true in
    elim c.if-not-is_listed.branch [
      | then-not-is_listed+in_ok-push w ↦ others_kept commalist list c.loop-i.kept.items c.if-not-is_listed.kept.items i (get_or list i 0) l refl (sym w.if-not-is_listed.ensures) ((λ t. (w.kept-is t).items) ∙ w.in_ok-push.ensures.items) c.loop-i.invariant
      | else-not-is_listed w ↦ subst (λ (ks : List ℕ). ks ++ others_from (i + 1) commalist (drop (i + 1) list) ≡ others commalist list) (λ t. (sym w.kept-is t).items) (others_passed commalist list c.loop-i.kept.items i (get_or list i 0) l refl (sym w.if-not-is_listed.ensures) c.loop-i.invariant)
    ]

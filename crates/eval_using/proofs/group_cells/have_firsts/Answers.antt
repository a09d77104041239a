use Rattle.std.proofs.Common.{◌+◌, [], ◌∷◌, ◌++◌, get_or, take, sym, ◌∙◌, subst}
use Rattle.std.proofs.lemmas.List.{take_more}
use Rattle.std.proofs.lemmas.List.Elements.{All-same, All-push}
use Rattle.std.specs.List.{All}
use Rattle.point_core.specs.Points.{number, IsPointOf}
use Rattle.cell_packing.specs.Packed.{Has, firsts}
use Rattle.cell_core.specs.Boxes.{IsBox}
use Rattle.cell_core.specs.Cells.{box_numbers}
use Rattle.cell_core.proofs.KeyLemmas.{take_whole}
use Rattle.eval_using.proofs.GroupCellLemmas.{has_firsts}
use Rattle.eval_using.proofs.group_cells.have_firsts.Goals as goal

pub loop-own-preserved : goal.loop-own-preserved
loop-own-preserved c =
    let boxes = c.args.boxes.now in
    let k = c.loop-own.own-index in
    let own = c.own-item.result in
    let lt = c.loop-own-test.true in
    let t = c.requires.0 in
    let box = subst (λ b. IsBox IsPointOf (t ∷ []) b.1) (sym c.own-item.is) (c.requires.1 k own lt) in
    let same = (λ i. (c.own-inside.view_is i).sides) ∙ (λ i. (c.own.view_is i).1) in
    let one = has_firsts t own.1 box c.index.result.now (c.index.ensures ∙ (λ i. get_or (same i) 0 c.index.result.now)) c.begin-begin.ensures.ordered in
    let more = take_more boxes k own lt ∙ (λ i. take k boxes ++ sym c.own-item.is i ∷ []) in
    All-same (λ b. Has (box_numbers number b.1) (firsts (box_numbers number b.1))) (take (k + 1) boxes) (take k boxes ++ own ∷ []) more
    (All-push (λ b. Has (box_numbers number b.1) (firsts (box_numbers number b.1))) (take k boxes) own c.loop-own.invariant one)

pub returns : goal.returns
returns c = subst (All (λ b. Has (box_numbers number b.1) (firsts (box_numbers number b.1)))) (take_whole c.args.boxes.now c.loop-own.own-index c.loop-own-test.false) c.loop-own.invariant

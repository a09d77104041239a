use Rattle.std.proofs.Common.{◌≡◌, ◌<◌, map, length, sym, ap, ◌∙◌, subst}
use Rattle.std.proofs.lemmas.Result.{IfOk-weaker}
use Rattle.std.proofs.lemmas.List.{length-map}
use Rattle.value_core.specs.Values.{row_cmp}
use Rattle.cell_packing.specs.Boxed.{packed_boxes, unpacked_boxes}
use Rattle.cell_core.specs.Cells.{row_numbers}
use Rattle.u_join.specs.Pairs.{joined_boxes}
use Rattle.u_join.specs.Shared.{beside}
use Rattle.u_join.proofs.joining.u_join.Goals as goal

pub returns-clause-rows : goal.returns-clause-rows
returns-clause-rows g c =
    let n = g.T.PointType.number_of in
    let here = c.as_slice.ensures.value ∙ c.in_ok-here.ensures.left in
    let positions = c.in_ok-here.ensures.right in
    let there = c.as_slice-2.ensures.value ∙ positions in
    let l = c.in_ok-l.ensures in
    let r = c.in_ok-r.ensures in
    let e = c.in_ok-form.ensures.rows ∙ (λ t. packed_boxes row_cmp (length c.args.types.now) (joined_boxes (here t) (there t) (beside (positions t))
    (unpacked_boxes row_cmp (length c.args.types.now) (map (row_numbers n) (l t))) (unpacked_boxes row_cmp (length c.args.types.now) (map (row_numbers n) (r t))))) in
    IfOk-weaker c.in_limit.result (λ v. v.items ≡ c.in_ok-form.form.items) _ (λ v same. ap (map (row_numbers n)) same ∙ e) c.in_limit.ensures.same

pub returns-clause-limit : goal.returns-clause-limit
returns-clause-limit g c =
    let n = g.T.PointType.number_of in
    let here = c.as_slice.ensures.value ∙ c.in_ok-here.ensures.left in
    let positions = c.in_ok-here.ensures.right in
    let there = c.as_slice-2.ensures.value ∙ positions in
    let l = c.in_ok-l.ensures in
    let r = c.in_ok-r.ensures in
    let e = c.in_ok-form.ensures.rows ∙ (λ t. packed_boxes row_cmp (length c.args.types.now) (joined_boxes (here t) (there t) (beside (positions t))
    (unpacked_boxes row_cmp (length c.args.types.now) (map (row_numbers n) (l t))) (unpacked_boxes row_cmp (length c.args.types.now) (map (row_numbers n) (r t))))) in
    λ h. subst (λ m. c.args.limit < m) (sym (length-map c.in_ok-form.form.items (row_numbers n)) ∙ ap length e) (c.in_limit.ensures.limit h)

use Rattle.std.proofs.Common.{◌≡◌, ◌≤◌, map, length, arith, subst, sym, ap, ◌∙◌}
use Rattle.std.proofs.lemmas.List.{length-map}
use Rattle.std.proofs.lemmas.List.Elements.{recursion_from_All, All-same}
use Rattle.cell_packing.specs.Boxed.{unpacked_boxes}
use Rattle.base_core.specs.Sets.{in_order}
use Rattle.cell_core.specs.Boxes.{IsBox}
use Rattle.cell_core.specs.Cells.{row_numbers}
use Rattle.cell_core.specs.GridPoints.{listing, total, placed_cmp, point_row}
use Rattle.cell_core.proofs.BackLemmas.{box_length}
use Rattle.cell_core.proofs.KeyLemmas.{rows_have}
use Rattle.cell_core.proofs.Listing.{unpacked_is, unpacked_length}
use Rattle.cell_core.proofs.GridPointLemmas.{more_than, not_more, listed_grid_point}
use Rattle.cell_core.proofs.unpacking.unpack.Goals as goal

pub returns-then-sum-limit-clause-limit : goal.returns-then-sum-limit-clause-limit
returns-then-sum-limit-clause-limit g c = λ e.
    more_than c.in_ok-sum.sum (total (map (row_numbers g.T.PointType.number_of) c.as_slice.result.now)) (length (unpacked_boxes g.P.Label.order (length c.args.types.now) (map (row_numbers g.T.PointType.number_of) c.args.rows.items))) c.args.limit 340282366920938463463374607431768211455 c.in_ok-sum.ensures
    (unpacked_length g.P.Label.order g.met.P.Label.total g.met.P.Label.separates (length c.args.types.now) (map (row_numbers g.T.PointType.number_of) c.args.rows.items) (rows_have g.T.PointType.number_of (length c.args.types.now) c.args.rows.items (recursion_from_All (λ r. length r.1 ≡ length c.args.types.now) c.args.rows.items (λ j d l. box_length g.T.PointType.IsPoint c.args.types.now _ (c.requires j d l))))
    ∙ ap total (sym c.in_ok-packed.ensures.rows) ∙ ap (λ xs. total (map (row_numbers g.T.PointType.number_of) xs)) (sym c.as_slice.ensures.value)) c.if-sum-limit.true

pub point_rows-requires : goal.point_rows-requires
point_rows-requires g c =
    listed_grid_point g.T.PointType.first_number g.T.PointType.last_number g.P.Label.order g.met.P.Label.total g.met.P.Label.separates g.T.PointType.number_of g.T.PointType.IsPoint g.met.T.PointType.within c.args.types.now c.as_slice-2.result.now
    (All-same (λ r. IsBox g.T.PointType.IsPoint c.args.types.now r.1) c.as_slice-2.result.now c.in_ok-packed.packed.items c.as_slice-2.ensures.value c.in_ok-packed.ensures.boxes)
    c.in_ok-set.set.items (c.in_ok-set.ensures ∙ ap (in_order (placed_cmp g.P.Label.order)) c.in_ok-list.ensures)

pub returns-clause-rows : goal.returns-clause-rows
returns-clause-rows g c =
    c.in_ok-answer.ensures.rows ∙ ap (map point_row) (c.in_ok-set.ensures ∙ ap (in_order (placed_cmp g.P.Label.order)) (c.in_ok-list.ensures ∙ ap listing (ap (map (row_numbers g.T.PointType.number_of)) c.as_slice-2.ensures.value ∙ c.in_ok-packed.ensures.rows)))
    ∙ unpacked_is g.P.Label.order g.met.P.Label.total g.met.P.Label.separates (length c.args.types.now) (map (row_numbers g.T.PointType.number_of) c.args.rows.items) (rows_have g.T.PointType.number_of (length c.args.types.now) c.args.rows.items (recursion_from_All (λ r. length r.1 ≡ length c.args.types.now) c.args.rows.items (λ j d l. box_length g.T.PointType.IsPoint c.args.types.now _ (c.requires j d l))))

pub returns-clause-few : goal.returns-clause-few
returns-clause-few g c =
    let w =
    not_more c.in_ok-sum.sum (total (map (row_numbers g.T.PointType.number_of) c.as_slice.result.now)) (length (unpacked_boxes g.P.Label.order (length c.args.types.now) (map (row_numbers g.T.PointType.number_of) c.args.rows.items))) c.args.limit 340282366920938463463374607431768211455 c.in_ok-sum.ensures
    (unpacked_length g.P.Label.order g.met.P.Label.total g.met.P.Label.separates (length c.args.types.now) (map (row_numbers g.T.PointType.number_of) c.args.rows.items) (rows_have g.T.PointType.number_of (length c.args.types.now) c.args.rows.items (recursion_from_All (λ r. length r.1 ≡ length c.args.types.now) c.args.rows.items (λ j d l. box_length g.T.PointType.IsPoint c.args.types.now _ (c.requires j d l))))
    ∙ ap total (sym c.in_ok-packed.ensures.rows) ∙ ap (λ xs. total (map (row_numbers g.T.PointType.number_of) xs)) (sym c.as_slice.ensures.value)) c.if-sum-limit.false (let r = c.ranges.limit in omega arith) in
    let rows = c.in_ok-answer.ensures.rows ∙ ap (map point_row) (c.in_ok-set.ensures ∙ ap (in_order (placed_cmp g.P.Label.order)) (c.in_ok-list.ensures ∙ ap listing (ap (map (row_numbers g.T.PointType.number_of)) c.as_slice-2.ensures.value ∙ c.in_ok-packed.ensures.rows)))
    ∙ unpacked_is g.P.Label.order g.met.P.Label.total g.met.P.Label.separates (length c.args.types.now) (map (row_numbers g.T.PointType.number_of) c.args.rows.items) (rows_have g.T.PointType.number_of (length c.args.types.now) c.args.rows.items (recursion_from_All (λ r. length r.1 ≡ length c.args.types.now) c.args.rows.items (λ j d l. box_length g.T.PointType.IsPoint c.args.types.now _ (c.requires j d l)))) in
    let l = sym (length-map c.in_ok-answer.answer.items (row_numbers g.T.PointType.number_of)) ∙ ap length rows in
    subst (λ m. m ≤ c.args.limit) (sym l) w.1

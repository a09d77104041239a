use Rattle.std.proofs.Common.{◌≡◌, map, length, arith, sym, ap, ◌∙◌}
use Rattle.std.proofs.lemmas.List.Elements.{recursion_from_All}
use Rattle.cell_packing.specs.Boxed.{unpacked_boxes}
use Rattle.cell_core.specs.Cells.{row_numbers}
use Rattle.cell_core.specs.GridPoints.{total}
use Rattle.cell_core.proofs.BackLemmas.{box_length}
use Rattle.cell_core.proofs.KeyLemmas.{rows_have}
use Rattle.cell_core.proofs.Listing.{unpacked_length}
use Rattle.cell_core.proofs.GridPointLemmas.{more_than, not_more}
use Rattle.cell_core.proofs.unpacking.unpack_count.Goals as goal

pub returns-then-sum-limit-clause-many : goal.returns-then-sum-limit-clause-many
returns-then-sum-limit-clause-many g c = λ e.
    more_than c.in_ok-sum.sum (total (map (row_numbers g.T.PointType.number_of) c.as_slice.result.now)) (length (unpacked_boxes g.P.Label.order (length c.args.types.now) (map (row_numbers g.T.PointType.number_of) c.args.rows.items))) c.args.limit 340282366920938463463374607431768211455 c.in_ok-sum.ensures
    (unpacked_length g.P.Label.order g.met.P.Label.total g.met.P.Label.separates (length c.args.types.now) (map (row_numbers g.T.PointType.number_of) c.args.rows.items) (rows_have g.T.PointType.number_of (length c.args.types.now) c.args.rows.items (recursion_from_All (λ r. length r.1 ≡ length c.args.types.now) c.args.rows.items (λ j d l. box_length g.T.PointType.IsPoint c.args.types.now _ (c.requires j d l))))
    ∙ ap total (sym c.in_ok-packed.ensures.rows) ∙ ap (λ xs. total (map (row_numbers g.T.PointType.number_of) xs)) (sym c.as_slice.ensures.value)) c.if-sum-limit.true

pub returns-clause-count : goal.returns-clause-count
returns-clause-count g c =
    let w =
    not_more c.in_ok-sum.sum (total (map (row_numbers g.T.PointType.number_of) c.as_slice.result.now)) (length (unpacked_boxes g.P.Label.order (length c.args.types.now) (map (row_numbers g.T.PointType.number_of) c.args.rows.items))) c.args.limit 340282366920938463463374607431768211455 c.in_ok-sum.ensures
    (unpacked_length g.P.Label.order g.met.P.Label.total g.met.P.Label.separates (length c.args.types.now) (map (row_numbers g.T.PointType.number_of) c.args.rows.items) (rows_have g.T.PointType.number_of (length c.args.types.now) c.args.rows.items (recursion_from_All (λ r. length r.1 ≡ length c.args.types.now) c.args.rows.items (λ j d l. box_length g.T.PointType.IsPoint c.args.types.now _ (c.requires j d l))))
    ∙ ap total (sym c.in_ok-packed.ensures.rows) ∙ ap (λ xs. total (map (row_numbers g.T.PointType.number_of) xs)) (sym c.as_slice.ensures.value)) c.if-sum-limit.false (let r = c.ranges.limit in omega arith) in
    w.0

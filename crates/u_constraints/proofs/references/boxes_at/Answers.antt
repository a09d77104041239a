use Rattle.std.proofs.Common.{◌≡◌, ◌<◌, ℕ, List, length, map, sym, ap, ◌∙◌, subst}
use Rattle.std.specs.List.{All}
use Rattle.std.proofs.lemmas.List.Elements.{All-same, All-map}
use Rattle.point_core.specs.declared.any_type.AnyPoint.{AnyPoint}
use Rattle.point_core.specs.Points.{number, IsPointOf}
use Rattle.value_core.specs.Values.{Row}
use Rattle.relation_core.specs.Agreement.{part_of}
use Rattle.cell_core.specs.Boxes.{IsBox}
use Rattle.cell_core.specs.Cells.{row_numbers}
use Rattle.u_set.specs.Boxes.{types_at, boxed}
use Rattle.u_set.proofs.RelationLemmas.{relation_shaped}
use Rattle.u_set.proofs.ApartLemmas.{if_ok}
use Rattle.u_row.specs.Kept.{inner}
use Rattle.u_row.specs.Labels.{relabelled}
use Rattle.u_row.proofs.PartLemmas.{labels_long}
use Rattle.u_row.proofs.PlaceLemmas.{numbers_relabelled}
use Rattle.u_constraints.proofs.references.boxes_at.Goals as goal

pub boxes_of_parts-requires : goal.boxes_of_parts-requires
boxes_of_parts-requires c =
    let r = c.args.r.now in
    let commalist = c.args.commalist.now in
    let boxes = (λ t. map (row_numbers number) (c.as_slice.ensures.value t)) ∙ c.in_ok-boxes.ensures.rows in
    subst (λ (ps : List ℕ). All (λ b. All (λ (i : ℕ). i < length b.0) ps) c.as_slice.result.now) (sym (c.as_slice-2.ensures.value ∙ c.in_ok-places.ensures))
    (labels_long r.heading commalist c.args.positions.now c.requires.within r.rows (relation_shaped r c.to_boxes.ensures.relation commalist c.requires.intervals) c.as_slice.result.now boxes)

pub returns-clause-rows : goal.returns-clause-rows
returns-clause-rows c =
    let f = part_of (inner c.args.commalist.now c.args.positions.now) in
    let places = c.as_slice-2.ensures.value ∙ c.in_ok-places.ensures in
    let boxes = (λ t. map (row_numbers number) (c.as_slice.ensures.value t)) ∙ c.in_ok-boxes.ensures.rows in
    let slice = c.as_slice.result.now in
    if_ok (λ v. v.items ≡ map (relabelled (part_of c.as_slice-2.result.now)) slice) (λ v. map (row_numbers number) v.items ≡ map (relabelled f) (map (boxed c.args.commalist.now) c.args.r.now.rows))
    (λ v e. ap (map (row_numbers number)) e ∙ (λ t. map (row_numbers number) (map (relabelled (part_of (places t))) slice)) ∙ numbers_relabelled f number slice ∙ ap (map (relabelled f)) boxes)
    c.boxes_of_parts.result c.boxes_of_parts.ensures

pub returns-clause-boxes : goal.returns-clause-boxes
returns-clause-boxes c =
    let types = types_at c.args.r.now.heading c.args.commalist.now in
    let f = part_of c.as_slice-2.result.now in
    let slice = c.as_slice.result.now in
    let own = All-same (λ (b : Row × List (AnyPoint × AnyPoint)). IsBox IsPointOf types b.1) slice c.in_ok-boxes.boxes.items c.as_slice.ensures.value c.in_ok-boxes.ensures.boxes in
    if_ok (λ v. v.items ≡ map (relabelled f) slice) (λ v. All (λ (b : Row × List (AnyPoint × AnyPoint)). IsBox IsPointOf types b.1) v.items)
    (λ v e. All-same (λ (b : Row × List (AnyPoint × AnyPoint)). IsBox IsPointOf types b.1) v.items (map (relabelled f) slice) e (All-map (λ (b : Row × List (AnyPoint × AnyPoint)). IsBox IsPointOf types b.1) (relabelled f) slice own))
    c.boxes_of_parts.result c.boxes_of_parts.ensures

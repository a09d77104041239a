use Rattle.std.proofs.Common.{◌≡◌, ◌↔◌, ◌∷◌, [], ℕ, ℤ, List, length, map, get_or, refl, sym, ap, ◌∙◌, subst}
use Rattle.std.specs.List.{All}
use Rattle.std.proofs.lemmas.List.{length-map}
use Rattle.point_core.specs.Points.{number, IsPointOf}
use Rattle.point_core.specs.declared.any_type.AnyType.{AnyType}
use Rattle.point_core.specs.declared.fault.Fault.{Fault}
use Rattle.point_core.specs.LeastFault.{IsLeast}
use Rattle.cell_packing.specs.Boxed.{Boxed, InBoxes}
use Rattle.value_core.specs.Values.{Row, Heading}
use Rattle.relation_core.specs.Parts.{kind_at}
use Rattle.tree_core.specs.Trees.{read_aggregate}
use Rattle.cell_core.specs.Boxes.{IsBox}
use Rattle.cell_core.specs.Cells.{row_numbers}
use Rattle.u_set.specs.Boxes.{AreIntervals, type_of, others, boxed}
use Rattle.u_set.proofs.KeptLemmas.{one_intervals}
use Rattle.u_row.specs.Kept.{inner}
use Rattle.u_summarize.specs.Groups.{InGroupRule, HasGroupFault, labels_in}
use Rattle.eval_using.specs.Labels.{group_label}
use Rattle.eval_using.proofs.GroupCellLemmas.{some_is, types_there}
use Rattle.eval_using.proofs.SummaryPartLemmas.{all_long, labels_of_boxes, fits_labels}
use Rattle.eval_using.proofs.group_cells.figured_cells.Goals as goal

pub u_tally_cells-requires-clause-takes : goal.u_tally_cells-requires-clause-takes
u_tally_cells-requires-clause-takes c =
    let r = c.args.r.now in
    let commalist = c.args.of.commalist.now in
    let same = c.in_ok-boxes.ensures.rows in
    let many : length c.in_ok-boxes.boxes.items ≡ length r.rows = sym (length-map c.in_ok-boxes.boxes.items (row_numbers number)) ∙ ap length same ∙ length-map r.rows (boxed commalist) in
    all_long r.rows (map read_aggregate c.args.of.aggregates.now) c.args.parts.columns.items (length c.in_ok-boxes.boxes.items) c.requires.figured.columns (sym many)

pub u_tally_cells-requires-clause-fits : goal.u_tally_cells-requires-clause-fits
u_tally_cells-requires-clause-fits c =
    let r = c.args.r.now in
    let commalist = c.args.of.commalist.now in
    let gs = map read_aggregate c.args.of.aggregates.now in
    let same = c.in_ok-boxes.ensures.rows in
    let labels = labels_of_boxes commalist r.rows c.in_ok-boxes.boxes.items same in
    let count : length (labels_in c.in_ok-boxes.boxes.items) ≡ length r.rows = ap length labels ∙ length-map r.rows (others commalist) in (
      fits_labels commalist c.args.parts.places.items c.args.to.now c.args.of.at.now (inner commalist c.args.of.by.now) c.as_slice.result.now gs r.rows c.rows.result.now (labels_in c.in_ok-boxes.boxes.items) c.args.parts.columns.items c.requires.figured
          (c.as_slice.ensures.value ∙ c.in_ok-keys.ensures) c.rows.ensures.rows labels,
      all_long r.rows gs c.args.parts.columns.items (length (labels_in c.in_ok-boxes.boxes.items)) c.requires.figured.columns (sym count),
    )

pub type_at-t-requires : goal.type_at-t-requires
type_at-t-requires c =
    let r = c.args.r.now in
    let commalist = c.args.of.commalist.now in
    subst (λ (h : Heading). AreIntervals h (get_or commalist 0 0 ∷ [])) (sym (c.attributes.ensures.list ∙ c.heading.ensures.heading)) (one_intervals r.heading commalist (get_or commalist 0 0) c.requires.side refl c.requires.intervals)

pub u_tally_cells-requires-clause-boxes : goal.u_tally_cells-requires-clause-boxes
u_tally_cells-requires-clause-boxes c =
    let r = c.args.r.now in
    let commalist = c.args.of.commalist.now in
    let type : c.type_at-t.result ≡ type_of (kind_at r.heading (get_or commalist 0 0)) = c.type_at-t.ensures ∙ ap (λ (h : Heading). type_of (kind_at h (get_or commalist 0 0))) (c.attributes.ensures.list ∙ c.heading.ensures.heading) in
    subst (λ (ts : List AnyType). All (λ b. IsBox IsPointOf ts b.1) c.in_ok-boxes.boxes.items) (types_there r.heading commalist c.requires.side c.type_at-t.result type) c.in_ok-boxes.ensures.boxes

pub returns-in-Some-clause-cells : goal.returns-in-Some-clause-cells
returns-in-Some-clause-cells c =
    let to = c.args.to.now in
    let at = c.args.of.at.now in
    let gs = map read_aggregate c.args.of.aggregates.now in
    let keys = c.as_slice.ensures.value ∙ c.in_ok-keys.ensures in
    let same = c.in_ok-boxes.ensures.rows in
    let cells = map (row_numbers number) c.in-Some.cells.items in
    let places = some_is _ c.in_ok-cells.field-0 (c.in-Some.cells, c.in-Some.least) c.in-Some.is c.in_ok-cells.ensures.places in
    let least = some_is _ c.in_ok-cells.field-0 (c.in-Some.cells, c.in-Some.least) c.in-Some.is c.in_ok-cells.ensures.least in
    record {
      places = subst (λ (w : List Row × List ℕ × List (Boxed Row)). (l : Row) (place : List ℤ) → InBoxes cells l place ↔ InGroupRule {F = Fault} (group_label to at gs w.0) w.1 w.2 l place) (λ t. (c.rows.ensures.rows t, keys t, same t)) places;
      least = subst (λ (w : List Row × List ℕ × List (Boxed Row)). IsLeast (HasGroupFault (group_label to at gs w.0) w.1 w.2) c.in-Some.least) (λ t. (c.rows.ensures.rows t, keys t, same t)) least;
    }

pub returns-in-Some-clause-boxes : goal.returns-in-Some-clause-boxes
returns-in-Some-clause-boxes c =
    let r = c.args.r.now in
    let commalist = c.args.of.commalist.now in
    let type : c.type_at-t.result ≡ type_of (kind_at r.heading (get_or commalist 0 0)) = c.type_at-t.ensures ∙ ap (λ (h : Heading). type_of (kind_at h (get_or commalist 0 0))) (c.attributes.ensures.list ∙ c.heading.ensures.heading) in
    let boxes = some_is _ c.in_ok-cells.field-0 (c.in-Some.cells, c.in-Some.least) c.in-Some.is c.in_ok-cells.ensures.boxes in
    subst (λ (ts : List AnyType). All (λ b. IsBox IsPointOf ts b.1) c.in-Some.cells.items) (sym (types_there r.heading commalist c.requires.side c.type_at-t.result type)) boxes

use Rattle.std.proofs.Common.{◌≡◌, ◌∷◌, [], ℕ, List, map, length, get_or, refl, sym, ◌∙◌, subst}
use Rattle.std.specs.Bool.{IsTrue}
use Rattle.std.specs.List.{All}
use Rattle.std.proofs.lemmas.List.{length-map}
use Rattle.point_core.specs.Faults.{OrFault}
use Rattle.point_core.specs.LeastFault.{IsLeast}
use Rattle.point_core.specs.Points.{number, IsPointOf}
use Rattle.value_core.specs.Values.{Relation, Heading, row_cmp, rows_of, fits_heading}
use Rattle.relation_core.specs.Parts.{kind_at}
use Rattle.cell_packing.specs.Boxed.{packed_boxes}
use Rattle.cell_core.specs.Boxes.{IsBox}
use Rattle.cell_core.specs.Cells.{row_numbers}
use Rattle.cell_core.proofs.PackedGridPoints.{AllHave}
use Rattle.tree_core.specs.Trees.{read_aggregate}
use Rattle.u_set.specs.Boxes.{AreIntervals, type_of, types_at, boxed, others, unboxed}
use Rattle.u_set.proofs.CoalescingLemmas.{answer_moved}
use Rattle.u_set.proofs.KeptLemmas.{one_listed, one_intervals}
use Rattle.u_row.specs.Kept.{inner}
use Rattle.u_row.proofs.AllRowsLemmas.{cells_have}
use Rattle.u_summarize.specs.Groups.{HasGroupFault}
use Rattle.eval_using.specs.Answered.{AnswersIf}
use Rattle.eval_using.specs.Labels.{group_label, AreGroupCells}
use Rattle.eval_using.proofs.CallLemmas.{own_intervals, typed, faulted, packed_by, count_by, intervals_by, sides_by}
use Rattle.eval_using.proofs.GroupCellLemmas.{some_is, labels_given, list_given}
use Rattle.eval_using.proofs.summary.summarized_by_cells.Goals as goal

pub summary_cells-requires-clause-intervals : goal.summary_cells-requires-clause-intervals
summary_cells-requires-clause-intervals c =
    intervals_by c.requires.summary.0 c.args.node.heading.now c.args.node.commalist.now c.args.of.by.now (map read_aggregate c.args.of.aggregates.now) c.args.r.now c.rows-rows.ensures.relation c.attributes-attributes.ensures.heading c.requires.summary.1 c.requires.list c.requires.listed c.requires.summed c.args.of.commalist.now c.args.of.at.now c.requires.here c.requires.places

pub summary_cells-requires-clause-typed : goal.summary_cells-requires-clause-typed
summary_cells-requires-clause-typed c =
    typed c.requires.summary.0 c.args.node.heading.now c.args.node.commalist.now c.args.of.by.now (map read_aggregate c.args.of.aggregates.now) c.args.r.now c.rows-rows.ensures.relation c.attributes-attributes.ensures.heading c.requires.summary.1 c.requires.list c.requires.listed c.requires.summed

pub coalesced_boxes-requires-clause-intervals : goal.coalesced_boxes-requires-clause-intervals
coalesced_boxes-requires-clause-intervals c =
    let h = c.args.node.heading.now in
    let commalist = c.args.node.commalist.now in
    let hs = c.args.of.commalist.now in
    let items = c.in-Some-default-None.cells.items in
    let side : length hs ≡ 1 = some_is _ c.in_ok-fault.field-0 (c.in-Some-default-None.cells, c.in-Some-default-None.field-0-1) c.in-Some-default-None.is c.in_ok-fault.ensures.side in
    let given = some_is _ c.in_ok-fault.field-0 (c.in-Some-default-None.cells, c.in-Some-default-None.field-0-1) c.in-Some-default-None.is c.in_ok-fault.ensures.cells in
    let sides = some_is _ c.in_ok-fault.field-0 (c.in-Some-default-None.cells, c.in-Some-default-None.field-0-1) c.in-Some-default-None.is c.in_ok-fault.ensures.boxes in
    let many : length (types_at c.args.r.now.heading hs) ≡ length hs = length-map hs (λ i. type_of (kind_at c.args.r.now.heading i)) in
    let have = subst (λ n. AllHave n (map (row_numbers number) items)) many (cells_have IsPointOf number (types_at c.args.r.now.heading hs) items sides) in
    let cells = subst (AreGroupCells (group_label commalist c.args.of.at.now (map read_aggregate c.args.of.aggregates.now) c.args.r.now.rows) (inner hs c.args.of.by.now) (map (boxed hs) c.args.r.now.rows) (map (row_numbers number) items)) c.in-Some-default-None.field-0-1-is given in
    let w = packed_by c.requires.summary.0 c.args.node.heading.now c.args.node.commalist.now c.args.of.by.now (map read_aggregate c.args.of.aggregates.now) c.args.r.now c.rows-rows.ensures.relation c.attributes-attributes.ensures.heading c.requires.summary.1 c.requires.list c.requires.listed c.requires.summed c.args.of.commalist.now c.args.of.at.now c.requires.here c.requires.places c.args.node.place items have cells in
    let one : length commalist ≡ 1 = sym (count_by c.requires.summary.0 c.args.node.heading.now c.args.node.commalist.now c.args.of.by.now (map read_aggregate c.args.of.aggregates.now) c.args.r.now c.rows-rows.ensures.relation c.attributes-attributes.ensures.heading c.requires.summary.1 c.requires.list c.requires.listed c.requires.summed c.args.of.commalist.now c.args.of.at.now c.requires.here c.requires.places) ∙ side in
    let back : get_or commalist 0 0 ∷ [] ≡ commalist = one_listed commalist (get_or commalist 0 0) one refl in
    subst (λ (k : Heading). AreIntervals k (get_or commalist 0 0 ∷ [])) (sym c.in_ok-whole.ensures)
    (one_intervals h commalist (get_or commalist 0 0) one refl (own_intervals c.requires.summary.0 c.args.node.heading.now c.args.node.commalist.now c.args.of.by.now (map read_aggregate c.args.of.aggregates.now) c.args.r.now c.rows-rows.ensures.relation c.attributes-attributes.ensures.heading c.requires.summary.1 c.requires.list c.requires.listed c.requires.summed))

pub coalesced_boxes-requires-clause-sides : goal.coalesced_boxes-requires-clause-sides
coalesced_boxes-requires-clause-sides c =
    let h = c.args.node.heading.now in
    let commalist = c.args.node.commalist.now in
    let hs = c.args.of.commalist.now in
    let items = c.in-Some-default-None.cells.items in
    let side : length hs ≡ 1 = some_is _ c.in_ok-fault.field-0 (c.in-Some-default-None.cells, c.in-Some-default-None.field-0-1) c.in-Some-default-None.is c.in_ok-fault.ensures.side in
    let given = some_is _ c.in_ok-fault.field-0 (c.in-Some-default-None.cells, c.in-Some-default-None.field-0-1) c.in-Some-default-None.is c.in_ok-fault.ensures.cells in
    let sides = some_is _ c.in_ok-fault.field-0 (c.in-Some-default-None.cells, c.in-Some-default-None.field-0-1) c.in-Some-default-None.is c.in_ok-fault.ensures.boxes in
    let many : length (types_at c.args.r.now.heading hs) ≡ length hs = length-map hs (λ i. type_of (kind_at c.args.r.now.heading i)) in
    let have = subst (λ n. AllHave n (map (row_numbers number) items)) many (cells_have IsPointOf number (types_at c.args.r.now.heading hs) items sides) in
    let cells = subst (AreGroupCells (group_label commalist c.args.of.at.now (map read_aggregate c.args.of.aggregates.now) c.args.r.now.rows) (inner hs c.args.of.by.now) (map (boxed hs) c.args.r.now.rows) (map (row_numbers number) items)) c.in-Some-default-None.field-0-1-is given in
    let w = packed_by c.requires.summary.0 c.args.node.heading.now c.args.node.commalist.now c.args.of.by.now (map read_aggregate c.args.of.aggregates.now) c.args.r.now c.rows-rows.ensures.relation c.attributes-attributes.ensures.heading c.requires.summary.1 c.requires.list c.requires.listed c.requires.summed c.args.of.commalist.now c.args.of.at.now c.requires.here c.requires.places c.args.node.place items have cells in
    let one : length commalist ≡ 1 = sym (count_by c.requires.summary.0 c.args.node.heading.now c.args.node.commalist.now c.args.of.by.now (map read_aggregate c.args.of.aggregates.now) c.args.r.now c.rows-rows.ensures.relation c.attributes-attributes.ensures.heading c.requires.summary.1 c.requires.list c.requires.listed c.requires.summed c.args.of.commalist.now c.args.of.at.now c.requires.here c.requires.places) ∙ side in
    let back : get_or commalist 0 0 ∷ [] ≡ commalist = one_listed commalist (get_or commalist 0 0) one refl in
    let own = sides_by c.requires.summary.0 c.args.node.heading.now c.args.node.commalist.now c.args.of.by.now (map read_aggregate c.args.of.aggregates.now) c.args.r.now c.rows-rows.ensures.relation c.attributes-attributes.ensures.heading c.requires.summary.1 c.requires.list c.requires.listed c.requires.summed c.args.of.commalist.now c.args.of.at.now c.requires.here c.requires.places items sides in
    subst (λ (k : Heading × List ℕ). All (λ b. IsBox IsPointOf (types_at k.0 k.1) b.1) items) (λ t. (sym c.in_ok-whole.ensures t, sym back t)) own

pub coalesced_boxes-requires-clause-labels : goal.coalesced_boxes-requires-clause-labels
coalesced_boxes-requires-clause-labels c =
    let h = c.args.node.heading.now in
    let commalist = c.args.node.commalist.now in
    let hs = c.args.of.commalist.now in
    let items = c.in-Some-default-None.cells.items in
    let side : length hs ≡ 1 = some_is _ c.in_ok-fault.field-0 (c.in-Some-default-None.cells, c.in-Some-default-None.field-0-1) c.in-Some-default-None.is c.in_ok-fault.ensures.side in
    let given = some_is _ c.in_ok-fault.field-0 (c.in-Some-default-None.cells, c.in-Some-default-None.field-0-1) c.in-Some-default-None.is c.in_ok-fault.ensures.cells in
    let sides = some_is _ c.in_ok-fault.field-0 (c.in-Some-default-None.cells, c.in-Some-default-None.field-0-1) c.in-Some-default-None.is c.in_ok-fault.ensures.boxes in
    let many : length (types_at c.args.r.now.heading hs) ≡ length hs = length-map hs (λ i. type_of (kind_at c.args.r.now.heading i)) in
    let have = subst (λ n. AllHave n (map (row_numbers number) items)) many (cells_have IsPointOf number (types_at c.args.r.now.heading hs) items sides) in
    let cells = subst (AreGroupCells (group_label commalist c.args.of.at.now (map read_aggregate c.args.of.aggregates.now) c.args.r.now.rows) (inner hs c.args.of.by.now) (map (boxed hs) c.args.r.now.rows) (map (row_numbers number) items)) c.in-Some-default-None.field-0-1-is given in
    let w = packed_by c.requires.summary.0 c.args.node.heading.now c.args.node.commalist.now c.args.of.by.now (map read_aggregate c.args.of.aggregates.now) c.args.r.now c.rows-rows.ensures.relation c.attributes-attributes.ensures.heading c.requires.summary.1 c.requires.list c.requires.listed c.requires.summed c.args.of.commalist.now c.args.of.at.now c.requires.here c.requires.places c.args.node.place items have cells in
    let one : length commalist ≡ 1 = sym (count_by c.requires.summary.0 c.args.node.heading.now c.args.node.commalist.now c.args.of.by.now (map read_aggregate c.args.of.aggregates.now) c.args.r.now c.rows-rows.ensures.relation c.attributes-attributes.ensures.heading c.requires.summary.1 c.requires.list c.requires.listed c.requires.summed c.args.of.commalist.now c.args.of.at.now c.requires.here c.requires.places) ∙ side in
    let back : get_or commalist 0 0 ∷ [] ≡ commalist = one_listed commalist (get_or commalist 0 0) one refl in
    let first = some_is _ c.in_ok-fault.field-0 (c.in-Some-default-None.cells, c.in-Some-default-None.field-0-1) c.in-Some-default-None.is c.in_ok-fault.ensures.firsts in
    subst (λ (k : Heading × List ℕ). All (λ b. IsTrue (fits_heading (others k.1 k.0) b.0)) items) (λ t. (sym c.in_ok-whole.ensures t, sym back t))
    (labels_given h commalist (length hs) w.0 items have first w.2)

pub or_fault_if-requires : goal.or_fault_if-requires
or_fault_if-requires c =
    let at = get_or c.args.node.commalist.now 0 0 in
    (c.in_ok-whole.whole, rows_of (map (unboxed c.in_ok-whole.whole (at ∷ [])) (packed_boxes row_cmp 1 (map (row_numbers number) c.in-Some-default-None.cells.items))), c.coalesced_boxes.ensures)

pub returns-in-Some-default-None : goal.returns-in-Some-default-None
returns-in-Some-default-None c =
    let h = c.args.node.heading.now in
    let commalist = c.args.node.commalist.now in
    let hs = c.args.of.commalist.now in
    let items = c.in-Some-default-None.cells.items in
    let side : length hs ≡ 1 = some_is _ c.in_ok-fault.field-0 (c.in-Some-default-None.cells, c.in-Some-default-None.field-0-1) c.in-Some-default-None.is c.in_ok-fault.ensures.side in
    let given = some_is _ c.in_ok-fault.field-0 (c.in-Some-default-None.cells, c.in-Some-default-None.field-0-1) c.in-Some-default-None.is c.in_ok-fault.ensures.cells in
    let sides = some_is _ c.in_ok-fault.field-0 (c.in-Some-default-None.cells, c.in-Some-default-None.field-0-1) c.in-Some-default-None.is c.in_ok-fault.ensures.boxes in
    let many : length (types_at c.args.r.now.heading hs) ≡ length hs = length-map hs (λ i. type_of (kind_at c.args.r.now.heading i)) in
    let have = subst (λ n. AllHave n (map (row_numbers number) items)) many (cells_have IsPointOf number (types_at c.args.r.now.heading hs) items sides) in
    let cells = subst (AreGroupCells (group_label commalist c.args.of.at.now (map read_aggregate c.args.of.aggregates.now) c.args.r.now.rows) (inner hs c.args.of.by.now) (map (boxed hs) c.args.r.now.rows) (map (row_numbers number) items)) c.in-Some-default-None.field-0-1-is given in
    let w = packed_by c.requires.summary.0 c.args.node.heading.now c.args.node.commalist.now c.args.of.by.now (map read_aggregate c.args.of.aggregates.now) c.args.r.now c.rows-rows.ensures.relation c.attributes-attributes.ensures.heading c.requires.summary.1 c.requires.list c.requires.listed c.requires.summed c.args.of.commalist.now c.args.of.at.now c.requires.here c.requires.places c.args.node.place items have cells in
    let one : length commalist ≡ 1 = sym (count_by c.requires.summary.0 c.args.node.heading.now c.args.node.commalist.now c.args.of.by.now (map read_aggregate c.args.of.aggregates.now) c.args.r.now c.rows-rows.ensures.relation c.attributes-attributes.ensures.heading c.requires.summary.1 c.requires.list c.requires.listed c.requires.summed c.args.of.commalist.now c.args.of.at.now c.requires.here c.requires.places) ∙ side in
    let back : get_or commalist 0 0 ∷ [] ≡ commalist = one_listed commalist (get_or commalist 0 0) one refl in
    let at = get_or commalist 0 0 in
    let whole = c.in_ok-whole.whole in
    let list = rows_of (map (unboxed whole (at ∷ [])) (packed_boxes row_cmp 1 (map (row_numbers number) items))) in
    let are : list ≡ w.0 = list_given h whole at commalist (length hs) w.0 (map (row_numbers number) items) c.in_ok-whole.ensures back side w.2 in
    let answered = answer_moved whole h list w.0 c.in_ok-whole.ensures are c.coalesced_boxes.result c.coalesced_boxes.ensures in
    record { value = subst (λ (m : OrFault Relation). AnswersIf c.or_fault_if.result m) w.1 (c.or_fault_if.ensures h w.0 answered) }

pub returns-in-Some-default-Some : goal.returns-in-Some-default-Some
returns-in-Some-default-Some c =
    let hs = c.args.of.commalist.now in
    let given = some_is _ c.in_ok-fault.field-0 (c.in-Some-default-Some.field-0-0, c.in-Some-default-Some.field-0-1) c.in-Some-default-Some.is c.in_ok-fault.ensures.cells in
    let least = subst (IsLeast (HasGroupFault (group_label c.args.node.commalist.now c.args.of.at.now (map read_aggregate c.args.of.aggregates.now) c.args.r.now.rows) (inner hs c.args.of.by.now) (map (boxed hs) c.args.r.now.rows))) c.in-Some-default-Some.field-0-1-is given.least in
    record { value = faulted c.requires.summary.0 c.args.node.heading.now c.args.node.commalist.now c.args.of.by.now (map read_aggregate c.args.of.aggregates.now) c.args.r.now c.rows-rows.ensures.relation c.attributes-attributes.ensures.heading c.requires.summary.1 c.requires.list c.requires.listed c.requires.summed c.args.of.commalist.now c.args.of.at.now c.requires.here c.requires.places c.args.node.place c.in-Some-default-Some.fault least }

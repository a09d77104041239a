-- What a call on a relation meets: the lemmas on summaries by the heading of the node and the positions of the list there.
use Rattle.std.proofs.Common.{◌≡◌, ℕ, ◌++◌, List, map, length, Err, Some, None, Option, refl, sym, ap, ◌∙◌, subst}
use Rattle.std.specs.Bool.{IsTrue}
use Rattle.std.specs.List.{All}
use Rattle.base_core.specs.Outcomes.{then_give}
use Rattle.point_core.specs.Faults.{OrFault}
use Rattle.point_core.specs.Points.{number, IsPointOf}
use Rattle.point_core.specs.declared.any_type.AnyPoint.{AnyPoint}
use Rattle.point_core.specs.declared.any_type.AnyType.{AnyType}
use Rattle.point_core.specs.declared.fault.Fault.{Fault}
use Rattle.point_core.specs.declared.fault.Place.{Place}
use Rattle.cell_packing.specs.Boxed.{Boxed, packed_boxes}
use Rattle.cell_core.proofs.PackedGridPoints.{AllHave}
use Rattle.cell_core.specs.Cells.{row_numbers}
use Rattle.value_core.specs.Order.{row_total, row_separates}
use Rattle.u_summarize.proofs.PointGroups.{packed_groups}
use Rattle.point_core.specs.LeastFault.{IsLeast}
use Rattle.value_core.specs.RowPacking.{packed, unpacked}
use Rattle.value_core.specs.Values.{Row, Relation, Heading, IsRelation, row_cmp, is_heading}
use Rattle.relation_core.specs.Agreement.{names_of}
use Rattle.relation_core.specs.Answers.{under}
use Rattle.relation_core.specs.Groups.{rows_at, summarized}
use Rattle.relation_core.specs.Parts.{attributes_at}
use Rattle.relation_core.proofs.FilterLemmas.{rows_ascend, rows_fit}
use Rattle.tree_core.specs.Trees.{PlainAggregate}
use Rattle.meaning_core.specs.Meanings.{limited, opened, closed}
use Rattle.meaning_core.specs.Places.{places}
use Rattle.meaning_core.specs.Rows.{aggregate_names, group_row}
use Rattle.meaning_core.specs.Scalars.{AreSummedOver}
use Rattle.meaning_core.specs.Typing.{IsSummary, IsList}
use Rattle.meaning_core.proofs.GroupFits.{summed_typed}
use Rattle.cell_core.specs.Boxes.{IsBox}
use Rattle.u_set.specs.Boxes.{AreIntervals, types_at, boxed}
use Rattle.u_set.proofs.BridgeLemmas.{AreRowsOf}
use Rattle.u_row.specs.Kept.{inner}
use Rattle.u_join.proofs.ListedLemmas.{same_types, same_count}
use Rattle.u_summarize.specs.Groups.{HasGroupFault, IsGroupForm}
use Rattle.eval_using.specs.Using.{around, listed, HasList, IsSummedBy}
use Rattle.meaning_core.proofs.IntervalLemmas.{intervals_of_list}
use Rattle.eval_using.proofs.ListLemmas.{positions_back}
use Rattle.eval_using.proofs.OperandLemmas.{operand_intervals, same_attributes}
use Rattle.eval_using.specs.Labels.{group_label, AreGroupCells}
use Rattle.eval_using.proofs.SummaryLemmas.{summary_fault, summary_given}

module _ (sizes : List ℕ) (heading : Heading) (commalist : List ℕ) (by : List ℕ) (aggregates : List PlainAggregate) (r : Relation) (is : IsRelation r) (headed : IsTrue (is_heading heading))
    (made : IsSummary sizes r.heading heading by aggregates) (list : IsList heading commalist) (held : HasList heading commalist r.heading) (summed : IsSummedBy heading commalist r.heading by aggregates) where
  abbrev pub here : List ℕ
  here = listed heading commalist r.heading

  abbrev pub at : List ℕ
  at = places (aggregate_names aggregates ++ names_of r.heading) heading

  abbrev pub label : List ℕ → OrFault Row
  label = group_label commalist at aggregates r.rows

  abbrev pub HasFault : Fault → Type 0
  HasFault = HasGroupFault label (inner here by) (map (boxed here) r.rows)

  abbrev pub IsForm : List (Boxed Row) → Type 0
  IsForm = IsGroupForm {F = Fault} row_cmp (length here) label (inner here by) (map (boxed here) r.rows)

  abbrev pub rows_meant : OrFault (List Row)
  rows_meant = summarized by (λ numbers. group_row r.heading heading aggregates (rows_at (unpacked here r.rows) numbers)) (unpacked here r.rows)

  pub own_intervals : AreIntervals heading commalist
  own_intervals = intervals_of_list heading commalist list

  pub here_intervals : AreIntervals r.heading here
  here_intervals = operand_intervals heading commalist headed list r.heading held

  attributes : attributes_at here r.heading ≡ attributes_at commalist heading
  attributes = same_attributes heading commalist headed list r.heading held

  pub count : length here ≡ length commalist
  count = sym (same_count r.heading heading here commalist attributes)

  pub types : types_at r.heading here ≡ types_at heading commalist
  types = sym (same_types r.heading heading here commalist attributes)

  pub typed : AreSummedOver r.rows aggregates
  typed = summed_typed sizes r.heading aggregates made.made r.rows made.makes is.fitting

  fault_rows : (e : Fault) → IsLeast HasFault (Some e) → rows_meant ≡ Err e
  fault_rows e h =
      summary_fault sizes r.heading heading by aggregates is.headed made commalist here own_intervals here_intervals refl attributes summed.grouped summed.unnamed r.rows (rows_ascend r is) (rows_fit r is) is.few e h

  abbrev pub whole : Place → OrFault (List Row)
  whole place = then_give rows_meant (λ rows. limited place (packed commalist rows))

  -- the least fault at places is that of the summary
  pub fault_meant : (place : Place) (e : Fault) → IsLeast HasFault (Some e) → whole place ≡ Err e
  fault_meant place e h = ap (λ (o : OrFault (List Row)). then_give o (λ rows. limited place (packed commalist rows))) (fault_rows e h)

  -- and without one the packed form is that of its rows
  pub given_meant : (place : Place) → IsLeast HasFault None → (rows : List Row) × (limited place rows ≡ whole place) × ((form : List (Boxed Row)) → IsForm form → AreRowsOf heading commalist rows form)
  given_meant place h =
      let w = summary_given sizes r.heading heading by aggregates is.headed made commalist here own_intervals here_intervals refl attributes summed.grouped summed.unnamed r.rows (rows_ascend r is) (rows_fit r is) is.few h in (
        packed commalist w.0,
        ap (λ (o : OrFault (List Row)). then_give o (λ rows. limited place (packed commalist rows))) (sym w.1),
        λ form f. w.2 form (subst (λ n. IsGroupForm {F = Fault} row_cmp n label (inner here by) (map (boxed here) r.rows) form) count f),
      )

  -- the answer of the node is this
  pub node_meant : (place : Place) → under heading (whole place)
      ≡ under heading (then_give (summarized by (λ numbers. group_row r.heading heading aggregates (rows_at (opened (around place heading commalist) r.heading r.rows) numbers)) (opened (around place heading commalist) r.heading r.rows))
      (closed (around place heading commalist) place heading))
  node_meant place = λ t. under heading (then_give rows_meant (λ rows. limited place (packed (sym (positions_back heading commalist headed list) t) rows)))

  abbrev pub node : Place → OrFault Relation
  node place =
      under heading (then_give (summarized by (λ numbers. group_row r.heading heading aggregates (rows_at (opened (around place heading commalist) r.heading r.rows) numbers)) (opened (around place heading commalist) r.heading r.rows))
      (closed (around place heading commalist) place heading))

  -- ---- the same by lists that are these

  module _ (hs ps : List ℕ) (hs_is : hs ≡ here) (ps_is : ps ≡ at) where
    abbrev pub HasFaultBy : Fault → Type 0
    HasFaultBy = HasGroupFault (group_label commalist ps aggregates r.rows) (inner hs by) (map (boxed hs) r.rows)

    abbrev pub IsFormBy : List (Boxed Row) → Type 0
    IsFormBy form = IsGroupForm {F = Fault} row_cmp (length hs) (group_label commalist ps aggregates r.rows) (inner hs by) (map (boxed hs) r.rows) form

    own_least : (o : Option Fault) → IsLeast HasFaultBy o → IsLeast HasFault o
    own_least o h = subst (λ (w : List ℕ × List ℕ). IsLeast (HasGroupFault (group_label commalist w.1 aggregates r.rows) (inner w.0 by) (map (boxed w.0) r.rows)) o) (λ t. (hs_is t, ps_is t)) h

    own_form : (form : List (Boxed Row)) → IsFormBy form → IsForm form
    own_form form h =
        subst (λ (w : List ℕ × List ℕ). IsGroupForm {F = Fault} row_cmp (length w.0) (group_label commalist w.1 aggregates r.rows) (inner w.0 by) (map (boxed w.0) r.rows) form) (λ t. (hs_is t, ps_is t)) h

    -- with a fault the node has it
    pub faulted : (place : Place) (e : Fault) → IsLeast HasFaultBy (Some e) → node place ≡ Err e
    faulted place e h = sym (node_meant place) ∙ ap (under heading) (fault_meant place e (own_least (Some e) h))

    -- and without one the rows of the packed form
    pub answered : (place : Place) → IsLeast HasFaultBy None → (rows : List Row) × (under heading (limited place rows) ≡ node place) × ((form : List (Boxed Row)) → IsFormBy form → AreRowsOf heading commalist rows form)
    answered place h =
        let w = given_meant place (own_least None h) in
        (w.0, ap (under heading) w.1 ∙ node_meant place, λ form f. w.2 form (own_form form f))

    pub intervals_by : AreIntervals r.heading hs
    intervals_by = subst (AreIntervals r.heading) (sym hs_is) here_intervals

    pub count_by : length hs ≡ length commalist
    count_by = ap length hs_is ∙ count

    -- the boxes have the types of the node
    pub sides_by : (boxes : List (Row × List (AnyPoint × AnyPoint))) → All (λ b. IsBox IsPointOf (types_at r.heading hs) b.1) boxes → All (λ b. IsBox IsPointOf (types_at heading commalist) b.1) boxes
    sides_by boxes h = subst (λ (ts : List AnyType). All (λ b. IsBox IsPointOf ts b.1) boxes) (ap (types_at r.heading) hs_is ∙ types) h

    -- the same by boxes with the labels of the groups, packed
    pub packed_by : (place : Place) (cells : List (Row × List (AnyPoint × AnyPoint))) → AllHave (length hs) (map (row_numbers number) cells)
        → AreGroupCells (group_label commalist ps aggregates r.rows) (inner hs by) (map (boxed hs) r.rows) (map (row_numbers number) cells) None
        → (rows : List Row) × (under heading (limited place rows) ≡ node place) × AreRowsOf heading commalist rows (packed_boxes row_cmp (length hs) (map (row_numbers number) cells))
    packed_by place cells have h =
        let w = answered place h.least in
        let form : List (Boxed Row) = packed_boxes row_cmp (length hs) (map (row_numbers number) cells) in
        (w.0, w.1, w.2 form (packed_groups row_cmp row_total row_separates (length hs) (group_label commalist ps aggregates r.rows) (inner hs by) (map (boxed hs) r.rows) (map (row_numbers number) cells) have h.places))

-- What a deletion by a condition makes of a packed target, from the rows that the condition concerns.
--     portion_told, portion_taken      what a portion of a relation is and takes, without the names of its list
--     deletion_meant, deletion_failed, deletion_headed, deletion_paid
use Rattle.std.proofs.Common.{◌≡◌, ◌+◌, ◌≤◌, ℕ, List, length, Ok, Err, Result, sym, ap, ◌∙◌, subst, arith}
use Rattle.std.specs.Bool.{IsTrue}
use Rattle.base_core.specs.Outcomes.{then_give}
use Rattle.base_core.specs.Sets.{is_within}
use Rattle.base_core.proofs.SetLemmas.{Ascends-from_sorted}
use Rattle.point_core.specs.Faults.{OrFault}
use Rattle.point_core.specs.declared.fault.Fault.{Fault}
use Rattle.point_core.specs.declared.fault.Place.{Place}
use Rattle.point_core.specs.declared.fault.Stop.{Stop}
use Rattle.point_core.specs.declared.fault.Stop.TheVariants.{Fault as Faulted, Memory as OfMemory}
use Rattle.value_core.specs.RowPacking.{packed, unpacked}
use Rattle.value_core.specs.Values.{Row, Heading, Relation, row_cmp, is_heading}
use Rattle.scalar_core.specs.Expressions.{Expr, read}
use Rattle.relation_core.specs.Answers.{Answers, under}
use Rattle.relation_core.specs.Operators.{subtracted, united}
use Rattle.cell_core.specs.Costs.{bound}
use Rattle.tree_core.specs.Items.{read_assignment}
use Rattle.tree_core.specs.Relvars.{Entries}
use Rattle.meaning_core.specs.Meanings.{RowsMeant, condition, limited, opened, closed}
use Rattle.meaning_core.specs.Typing.{IsList}
use Rattle.meaning_core.proofs.LookupLemmas.{under_ok}
use Rattle.u_set.specs.Boxes.{AreIntervals}
use Rattle.u_set.proofs.RelationLemmas.{relation_shaped}
use Rattle.change_rows.specs.Affected.{AreFalse, IsClosedPart}
use Rattle.change_rows.proofs.LabelLemmas.{IsSet}
use Rattle.change_rows.proofs.ChangeLemmas.{closed_within}
use Rattle.eval_using.specs.Cells.{cells_of_all}
use Rattle.eval_using.specs.Using.{around, listed}
use Rattle.meaning_core.proofs.IntervalLemmas.{intervals_of_list}
use Rattle.eval_using.proofs.ListLemmas.{positions_back}
use Rattle.assign_core.specs.declared.portion.Deletion.{Deletion}
use Rattle.assign_core.specs.declared.portion.Portion.{Portion}
use Rattle.assign_core.specs.Assignments.{source_value}
use Rattle.assign_core.specs.Costs.{source_cost}
use Rattle.assign_core.specs.Portions.{portion_rows, portion_cost, IsDeletionOf, IsAffected, IsPortionFor}
use Rattle.assign_core.proofs.PortionLemmas.{rule_rows}
use Rattle.assign_core.proofs.ReductionLemmas.{negated_passes, left_meant, left_failed, fewer_paid}

-- ---- a portion of a relation

-- the rule under USING, where its list and its heading are those of the relation
pub portion_told : (result : Result Relation Stop) (place : Place) (h g : Heading) (commalist l : List ℕ) (op : List Row → OrFault (List Row)) (rows : List Row) → IsTrue (is_heading h) → IsList h commalist → g ≡ h → l ≡ commalist
    → Answers result (under g (then_give (op (opened (around place g l) h rows)) (closed (around place g l) place g)))
    → Answers result (under h (then_give (op (unpacked commalist rows)) (λ points. limited place (packed commalist points))))
portion_told result place h g commalist l op rows one list same are told =
    subst (λ (m : RowsMeant). Answers result (under h m)) (rule_rows h commalist one list place op rows)
    (subst (λ (k : List ℕ). Answers result (under h (then_give (op (opened (around place h k) h rows)) (closed (around place h k) place h)))) are
    (subst (λ (k : Heading). Answers result (under k (then_give (op (opened (around place k l) h rows)) (closed (around place k l) place k)))) same told))

pub portion_taken : (old new : ℕ) (h g : Heading) (commalist l : List ℕ) (scalars : List Expr) (rows : List Row) → IsTrue (is_heading h) → IsList h commalist → g ≡ h → l ≡ commalist
    → new ≤ old + bound (cells_of_all (listed g l h) scalars rows) (length l) → new ≤ old + bound (cells_of_all commalist scalars rows) (length commalist)
portion_taken old new h g commalist l scalars rows one list same are taken =
    subst (λ (k : List ℕ). new ≤ old + bound (cells_of_all k scalars rows) (length commalist)) (positions_back h commalist one list)
    (subst (λ (k : List ℕ). new ≤ old + bound (cells_of_all (listed h k h) scalars rows) (length k)) are
    (subst (λ (k : Heading). new ≤ old + bound (cells_of_all (listed k l h) scalars rows) (length l)) same taken))

under_failed : (h : Heading) (m : RowsMeant) (e : Fault) → under h m ≡ Err e → m ≡ Err e
under_failed h (Ok rows) e told = absurd (cc)
under_failed h (Err g) e told = cc

-- the rows that a condition concerns, where they are asked of the list
pub affected_told : (commalist l : List ℕ) (c : Expr) (value part some : Relation) → l ≡ commalist → packed commalist value.rows ≡ value.rows → IsClosedPart l value part → AreFalse l c (subtracted value.rows part.rows) → some ≡ part
    → IsAffected commalist c value some
affected_told commalist l c value part some same are closed others is =
    subst (IsAffected commalist c value) (sym is) (record {
      packed = are;
      closed = subst (λ (k : List ℕ). IsClosedPart k value part) same closed;
      others = subst (λ (k : List ℕ). AreFalse k c (subtracted value.rows part.rows)) same others;
    })

pub part_for : (h g : Heading) (p : Portion) → g ≡ h → IsPortionFor h p → IsPortionFor g p
part_for h g p same is = subst (λ (k : Heading). IsPortionFor k p) (sym same) is

-- ---- a deletion

module _ (es : Entries) (d : Deletion) (at : ℕ) (value part : Relation) (k : IsDeletionOf es d at value) (w : IsAffected d.kept.commalist.now (read d.gone.now) value part) where
  abbrev h : Heading
  h = value.heading

  abbrev commalist : List ℕ
  commalist = d.kept.commalist.now

  abbrev e : Expr
  e = read d.kept.condition.now

  abbrev place : Place
  place = d.kept.place

  intervals : AreIntervals h commalist
  intervals = intervals_of_list h commalist k.kept.list

  set : IsSet h commalist intervals value.rows
  set = (Ascends-from_sorted row_cmp value.rows k.relation.ascending, relation_shaped value k.relation commalist intervals)

  pub deletion_within : IsTrue (is_within row_cmp part.rows value.rows)
  deletion_within = closed_within h commalist intervals value.rows part.rows set w.closed.closed

  abbrev of_part : OrFault Relation
  of_part = under part.heading (portion_rows place commalist e part.rows)

  pub deletion_meant : (left : Relation) → of_part ≡ Ok left
      → source_value es es (read_assignment d.assignment.now) ≡ under h (limited place (united (subtracted value.rows part.rows) left.rows))
  deletion_meant left told =
      k.meant ∙ ap (under h)
      (left_meant h commalist intervals value.rows part.rows set w.closed.closed w.packed (condition e) place
      (negated_passes commalist e (read d.gone.now) (subtracted value.rows part.rows) k.negates w.others) left.rows
      (under_ok part.heading (portion_rows place commalist e part.rows) left told).0)

  pub deletion_failed : (stop : Stop) → Answers {A = Relation} (Err stop) of_part → Answers {A = Relation} (Err stop) (source_value es es (read_assignment d.assignment.now))
  deletion_failed (Faulted f) told =
      k.meant ∙ ap (under h)
      (left_failed h commalist intervals value.rows part.rows set w.closed.closed w.packed (condition e) place
      (negated_passes commalist e (read d.gone.now) (subtracted value.rows part.rows) k.negates w.others) f
      (under_failed part.heading (portion_rows place commalist e part.rows) f told))
  deletion_failed OfMemory told = tt

  pub deletion_headed : (left : Relation) → of_part ≡ Ok left → left.heading ≡ h
  deletion_headed left told = sym (under_ok part.heading (portion_rows place commalist e part.rows) left told).1 ∙ w.closed.heading

  pub deletion_paid : (old new : ℕ) → new ≤ old + portion_cost commalist e part.rows → new ≤ old + source_cost es es (read_assignment d.assignment.now)
  deletion_paid old new taken =
      let less = fewer_paid h commalist e value.rows part.rows w.closed.closed in
      let paid = k.paid in
      omega (arith, taken, less, paid)

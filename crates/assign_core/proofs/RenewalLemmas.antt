-- What a revision by conditions makes of a packed target, from the rows that these concern.
--     changed_told      rows of a relation with new values, without the names of its list
--     after_some, after_stop, after_paid      such rows of a portion
--     left_told, left_over, left_stop, left_paid      what is left
--     added_told, added_stop, added_taken      what is added
--     revised_told, revised_over, revised_paid      both together
use Rattle.std.proofs.Common.{◌≡◌, ◌+◌, ◌≤◌, ◌<◌, ℕ, List, length, Ok, Err, Result, sym, ap, ◌∙◌, subst, arith}
use Rattle.std.specs.Bool.{IsTrue}
use Rattle.base_core.specs.Outcomes.{then_give}
use Rattle.base_core.specs.Sets.{is_within}
use Rattle.base_core.proofs.SetLemmas.{Ascends-from_sorted}
use Rattle.point_core.specs.Faults.{OrFault, fault}
use Rattle.point_core.specs.declared.fault.Code.TheVariants.{E35}
use Rattle.point_core.specs.declared.fault.Fault.{Fault}
use Rattle.point_core.specs.declared.fault.Place.{Place}
use Rattle.point_core.specs.declared.fault.Stop.{Stop}
use Rattle.point_core.specs.declared.fault.Stop.TheVariants.{Fault as Faulted, Memory as OfMemory}
use Rattle.value_core.specs.RowPacking.{packed, unpacked}
use Rattle.value_core.specs.Values.{Row, Heading, Relation, row_cmp, is_heading, most_rows}
use Rattle.scalar_core.specs.Expressions.{Expr, read}
use Rattle.relation_core.specs.Answers.{Answers, under}
use Rattle.relation_core.specs.Operators.{subtracted, united}
use Rattle.tree_core.specs.Items.{read_assignment}
use Rattle.tree_core.specs.Relvars.{Entries}
use Rattle.tree_core.specs.Trees.{PlainSets, read_sets}
use Rattle.meaning_core.specs.Meanings.{RowsMeant, condition, limited, opened, closed}
use Rattle.meaning_core.specs.Typing.{IsList}
use Rattle.meaning_core.proofs.LimitLemmas.{limited_few}
use Rattle.meaning_core.proofs.LookupLemmas.{under_ok}
use Rattle.u_set.specs.Boxes.{AreIntervals}
use Rattle.u_set.proofs.RelationLemmas.{relation_shaped}
use Rattle.change_rows.proofs.LabelLemmas.{IsSet}
use Rattle.change_rows.proofs.ChangeLemmas.{closed_within}
use Rattle.eval_using.specs.Using.{around}
use Rattle.meaning_core.proofs.IntervalLemmas.{intervals_of_list}
use Rattle.algebra_core.specs.Costs.{paid}
use Rattle.assign_core.specs.declared.renewal.Renewal.{Renewal}
use Rattle.assign_core.specs.Costs.{source_cost}
use Rattle.assign_core.specs.Portions.{portion_rows, point_cost, portion_cost}
use Rattle.assign_core.specs.Renewals.{entries_renewed, value_renewed, after_left, AreAdded, IsLeft, IsRenewal}
use Rattle.assign_core.specs.Revisions.{changed_rows, changed_cost, left_of, taken_of, added_of, revised_rows, IsChangedFor}
use Rattle.assign_core.proofs.AdditionLemmas.{limited_over}
use Rattle.assign_core.proofs.PortionLemmas.{rule_rows}
use Rattle.assign_core.proofs.ReductionLemmas.{negated_passes, left_meant, left_failed, left_labels, dropped_meant, fewer_paid}

-- ---- rows with new values

pub changed_told : (result : Result Relation Stop) (place : Place) (h g : Heading) (commalist l : List ℕ) (op : Heading → List Row → OrFault (List Row)) (rows : List Row) → IsTrue (is_heading h) → IsList h commalist → g ≡ h → l ≡ commalist
    → Answers result (under g (then_give (op g (opened (around place g l) h rows)) (closed (around place g l) place g)))
    → Answers result (under h (then_give (op h (unpacked commalist rows)) (λ points. limited place (packed commalist points))))
changed_told result place h g commalist l op rows one list same are told =
    subst (λ (m : RowsMeant). Answers result (under h m)) (rule_rows h commalist one list place (op h) rows)
    (subst (λ (k : List ℕ). Answers result (under h (then_give (op h (opened (around place h k) h rows)) (closed (around place h k) place h)))) are
    (subst (λ (k : Heading). Answers result (under k (then_give (op k (opened (around place k l) h rows)) (closed (around place k l) place k)))) same told))

pub under_failed : (h : Heading) (m : RowsMeant) (e : Fault) → under h m ≡ Err e → m ≡ Err e
under_failed h (Ok rows) e told = absurd (cc)
under_failed h (Err g) e told = cc

module _ (h : Heading) (m : RowsMeant) (f : Heading → List Row → RowsMeant) where
  pub after_some : (some : Relation) (result : Result Relation Stop) → under h m ≡ Ok some → Answers result (under some.heading (f some.heading some.rows)) → Answers result (under h (then_give m (f h)))
  after_some some result told answer =
      let w = under_ok h m some told in
      subst (λ (rows : RowsMeant). Answers result (under h (then_give rows (f h)))) (sym w.0)
      (subst (λ (g : Heading). Answers result (under g (f g some.rows))) (sym w.1) answer)

  pub after_stop : (stop : Stop) → Answers {A = Relation} (Err stop) (under h m) → Answers {A = Relation} (Err stop) (under h (then_give m (f h)))
  after_stop (Faulted e) told = ap (λ (rows : RowsMeant). under h (then_give rows (f h))) (under_failed h m e told)
  after_stop OfMemory told = tt

pub after_paid : (h : Heading) (m : RowsMeant) (some : Relation) (g : List Row → ℕ) → under h m ≡ Ok some → paid m g ≡ g some.rows
after_paid h m some g told = ap (λ (rows : RowsMeant). paid rows g) (under_ok h m some told).0

-- ---- a revision

module _ (r : Renewal) (k : IsRenewal r) where
  abbrev h : Heading
  h = r.value.now.heading

  abbrev commalist : List ℕ
  commalist = r.revision.commalist.now

  abbrev own : List Row
  own = r.value.now.rows

  abbrev part : List Row
  part = r.part.now.rows

  abbrev rest : List Row
  rest = subtracted own part

  abbrev not_c : Expr
  not_c = read r.revision.kept.condition.now

  abbrev d : Expr
  d = read r.revision.changed.portion.condition.now

  abbrev sets : PlainSets
  sets = read_sets r.revision.changed.sets.now

  abbrev es : Entries
  es = entries_renewed r

  pub intervals : AreIntervals h commalist
  intervals = intervals_of_list h commalist (subst (λ (l : List ℕ). IsList h l) k.revision.alike.kept k.revision.kept.list)

  set : IsSet h commalist intervals own
  set = (Ascends-from_sorted row_cmp own k.revision.relation.ascending, relation_shaped r.value.now k.revision.relation commalist intervals)

  pub part_within : IsTrue (is_within row_cmp part own)
  part_within = closed_within h commalist intervals own part set k.gone.closed.closed

  abbrev left_part : OrFault Relation
  left_part = under r.part.now.heading (portion_rows r.revision.kept.place r.revision.kept.commalist.now not_c part)

  left_alike : portion_rows r.revision.kept.place r.revision.kept.commalist.now not_c part ≡ left_of r.revision part
  left_alike = ap (λ (l : List ℕ). portion_rows r.revision.kept.place l not_c part) k.revision.alike.kept

  left_limited : (left : Relation) → left_part ≡ Ok left → left_of r.revision own ≡ limited r.revision.kept.place (united rest left.rows)
  left_limited left told =
      left_meant h commalist intervals own part set k.gone.closed.closed k.gone.packed (condition not_c) r.revision.kept.place
      (negated_passes commalist not_c (read r.revision.gone.now) rest k.revision.negates k.gone.others) left.rows
      (sym left_alike ∙ (under_ok r.part.now.heading (portion_rows r.revision.kept.place r.revision.kept.commalist.now not_c part) left told).0)

  pub left_headed : (left : Relation) → left_part ≡ Ok left → left.heading ≡ h
  left_headed left told = sym (under_ok r.part.now.heading (portion_rows r.revision.kept.place r.revision.kept.commalist.now not_c part) left told).1 ∙ k.gone.closed.heading

  pub left_told : (left : Relation) → left_part ≡ Ok left → length (united rest left.rows) ≤ most_rows → IsLeft r left
  left_told left told few = record {
    heading = left_headed left told;
    meant = left_limited left told ∙ limited_few r.revision.kept.place (united rest left.rows) few;
    few = few;
    labels =
        left_labels h commalist intervals own part set k.gone.closed.closed k.gone.packed (condition not_c) r.revision.kept.place left.rows
        (sym left_alike ∙ (under_ok r.part.now.heading (portion_rows r.revision.kept.place r.revision.kept.commalist.now not_c part) left told).0);
  }

  pub left_over : (left : Relation) → left_part ≡ Ok left → most_rows < length (united rest left.rows) → under h (left_of r.revision own) ≡ Err (fault r.revision.kept.place E35)
  left_over left told over = ap (under h) (left_limited left told ∙ limited_over r.revision.kept.place (united rest left.rows) over)

  pub left_stop : (stop : Stop) → Answers {A = Relation} (Err stop) left_part → Answers {A = Relation} (Err stop) (under h (left_of r.revision own))
  left_stop (Faulted e) told =
      ap (under h)
      (left_failed h commalist intervals own part set k.gone.closed.closed k.gone.packed (condition not_c) r.revision.kept.place
      (negated_passes commalist not_c (read r.revision.gone.now) rest k.revision.negates k.gone.others) e
      (sym left_alike ∙ under_failed r.part.now.heading (portion_rows r.revision.kept.place r.revision.kept.commalist.now not_c part) e told))
  left_stop OfMemory told = tt

  pub left_paid : (old new : ℕ) → new ≤ old + portion_cost r.revision.kept.commalist.now not_c part → new ≤ old + portion_cost commalist not_c own
  left_paid old new taken =
      let less = fewer_paid h commalist not_c own part k.gone.closed.closed in
      let same : portion_cost r.revision.kept.commalist.now not_c part ≡ portion_cost commalist not_c part = ap (λ (l : List ℕ). portion_cost l not_c part) k.revision.alike.kept in
      omega (arith, taken, less, same)

  -- ---- what is added

  pub changed_part : IsChangedFor r.part.now.heading r.revision.changed
  changed_part = subst (λ (g : Heading). IsChangedFor g r.revision.changed) (sym k.gone.closed.heading) k.revision.changed

  abbrev taken_part : RowsMeant
  taken_part = portion_rows r.revision.changed.portion.place r.revision.changed.portion.commalist.now d part

  alike : r.revision.changed.portion.commalist.now ≡ commalist
  alike = k.revision.alike.portion ∙ k.revision.alike.changed

  taken_is : taken_part ≡ taken_of r.revision own
  taken_is =
      ap (λ (l : List ℕ). portion_rows r.revision.changed.portion.place l d part) alike
      ∙ sym (dropped_meant h commalist intervals own part set k.gone.closed.closed k.gone.packed (condition d) r.revision.changed.portion.place k.changed.others)

  abbrev added_part : OrFault Relation
  added_part = under r.part.now.heading (then_give taken_part (changed_rows r.part.now.heading r.revision.changed.place r.revision.changed.commalist.now sets))

  abbrev added_all : RowsMeant
  added_all = then_give (taken_of r.revision own) (added_of h r.revision)

  added_is : added_part ≡ under h added_all
  added_is =
      ap (λ (g : Heading). under g (then_give taken_part (changed_rows g r.revision.changed.place r.revision.changed.commalist.now sets))) k.gone.closed.heading
      ∙ (ap (λ (l : List ℕ). under h (then_give taken_part (changed_rows h r.revision.changed.place l sets))) k.revision.alike.changed
      ∙ ap (λ (m : RowsMeant). under h (then_give m (added_of h r.revision))) taken_is)

  pub added_told : (added : Relation) → added_part ≡ Ok added → AreAdded r added
  added_told added told =
      let w = under_ok h added_all added (sym added_is ∙ told) in
      record { heading = sym w.1; meant = w.0 }

  pub added_taken : (old new : ℕ) → new ≤ old + (portion_cost r.revision.changed.portion.commalist.now d part + paid taken_part (changed_cost r.revision.changed.commalist.now sets))
      → new ≤ old + (portion_cost commalist d own + paid (taken_of r.revision own) (changed_cost commalist sets))
  added_taken old new taken =
      let less = fewer_paid h commalist d own part k.gone.closed.closed in
      let same : portion_cost r.revision.changed.portion.commalist.now d part ≡ portion_cost commalist d part = ap (λ (l : List ℕ). portion_cost l d part) alike in
      let more : paid taken_part (changed_cost r.revision.changed.commalist.now sets) ≡ paid (taken_of r.revision own) (changed_cost commalist sets) =
      ap (λ (l : List ℕ). paid taken_part (changed_cost l sets)) k.revision.alike.changed ∙ ap (λ (m : RowsMeant). paid m (changed_cost commalist sets)) taken_is in
      omega (arith, taken, less, same, more)

  -- ---- both

  abbrev closing : List Row → List Row → RowsMeant
  closing a b = limited r.revision.assignment.now.tree.place (packed commalist (united (unpacked commalist a) (unpacked commalist b)))

  stopped_before : (m : RowsMeant) (f : List Row → RowsMeant) (stop : Stop) → Answers {A = Relation} (Err stop) (under h m) → Answers {A = Relation} (Err stop) (under h (then_give m f))
  stopped_before m f (Faulted e) told = ap (λ (rows : RowsMeant). under h (then_give rows f)) (under_failed h m e told)
  stopped_before m f OfMemory told = tt

  given : (stop : Stop) → Answers {A = Relation} (Err stop) (under h (revised_rows h r.revision own)) → Answers {A = Relation} (Err stop) (value_renewed r)
  given stop told = subst (λ (m : OrFault Relation). Answers {A = Relation} (Err stop) m) (sym k.revision.meant) told

  pub no_left : (stop : Stop) → Answers {A = Relation} (Err stop) (under h (left_of r.revision own)) → Answers {A = Relation} (Err stop) (value_renewed r)
  no_left stop told = given stop (stopped_before (left_of r.revision own) (λ a. then_give added_all (closing a)) stop told)

  module _ (left : Relation) (is : IsLeft r left) where
    left_first : revised_rows h r.revision own ≡ then_give added_all (closing (united rest left.rows))
    left_first = ap (λ (m : RowsMeant). then_give m (λ a. then_give added_all (closing a))) is.meant

    pub no_added : (stop : Stop) → Answers {A = Relation} (Err stop) added_part → Answers {A = Relation} (Err stop) (value_renewed r)
    no_added stop told =
        given stop (subst (λ (m : RowsMeant). Answers {A = Relation} (Err stop) (under h m)) (sym left_first)
        (stopped_before added_all (closing (united rest left.rows)) stop (subst (λ (m : OrFault Relation). Answers {A = Relation} (Err stop) m) added_is told)))

    abbrev first_cost : ℕ
    first_cost = portion_cost commalist not_c own + (portion_cost commalist d own + paid (taken_of r.revision own) (changed_cost commalist sets))

    pub first_paid : first_cost ≤ source_cost es es (read_assignment r.revision.assignment.now)
    first_paid =
        let known = ap (λ (m : RowsMeant). portion_cost commalist not_c own + paid m (λ a. (portion_cost commalist d own + paid (taken_of r.revision own) (changed_cost commalist sets))
        + paid added_all (λ b. point_cost commalist (length a + length b)))) is.meant in
        let steps = k.revision.steps in
        omega (arith, known, steps)

    module _ (added : Relation) (are : AreAdded r added) where
      pub both_meant : value_renewed r ≡ under h (closing (united rest left.rows) added.rows)
      both_meant = k.revision.meant ∙ ap (under h) (left_first ∙ ap (λ (m : RowsMeant). then_give m (closing (united rest left.rows))) are.meant)

      pub all_paid : first_cost + after_left r left added ≤ source_cost es es (read_assignment r.revision.assignment.now)
      all_paid =
          let known = ap (λ (m : RowsMeant). portion_cost commalist not_c own + paid m (λ a. (portion_cost commalist d own + paid (taken_of r.revision own) (changed_cost commalist sets))
          + paid added_all (λ b. point_cost commalist (length a + length b)))) is.meant in
          let last : paid added_all (λ b. point_cost commalist (length (united rest left.rows) + length b)) ≡ after_left r left added =
          ap (λ (m : RowsMeant). paid m (λ b. point_cost commalist (length (united rest left.rows) + length b))) are.meant in
          let steps = k.revision.steps in
          omega (arith, known, last, steps)

-- What a target gains and loses where rows that are left and added are united as they are.
--     new_headed, new_meant, new_refused
use Rattle.std.proofs.Common.{◌≡◌, ◌↔◌, ◌⊎◌, inl, inr, ◌≤◌, ◌<◌, ℕ, List, [], length, Ok, Err, sym, ap, ◌∙◌, arith}
use Rattle.base_core.proofs.SetLemmas.{In, same_by_members}
use Rattle.base_core.proofs.SetOperatorLemmas.{In-union_of, Ascends-union_of}
use Rattle.point_core.specs.Faults.{OrFault}
use Rattle.point_core.specs.declared.fault.Place.{Place}
use Rattle.point_core.specs.declared.fault.Stop.{Stop}
use Rattle.point_core.specs.declared.fault.Stop.TheVariants.{Fault as Faulted, Memory as OfMemory}
use Rattle.value_core.specs.Order.{row_total, row_separates}
use Rattle.value_core.specs.RowPacking.{packed, unpacked}
use Rattle.value_core.specs.Values.{Row, Heading, Relation, row_cmp, most_rows}
use Rattle.relation_core.specs.Answers.{Answers, under}
use Rattle.relation_core.specs.Operators.{subtracted, united}
use Rattle.meaning_core.specs.Meanings.{limited}
use Rattle.meaning_core.proofs.LookupLemmas.{under_ok}
use Rattle.u_constraints.proofs.TouchedLemmas.{within_length}
use Rattle.assign_core.specs.declared.renewal.Renewal.{Renewal}
use Rattle.assign_core.specs.Renewals.{value_renewed, AreAdded, IsLeft, IsRenewal}
use Rattle.assign_core.proofs.AdditionLemmas.{limited_over}
use Rattle.assign_core.proofs.ReductionLemmas.{limited_told, limited_failed}
use Rattle.assign_core.proofs.RenewalLemmas.{both_meant, under_failed}

-- ---- rows of three relations

In-united : (x : Row) (a b : List Row) → In x (united a b) ↔ (In x a ⊎ In x b)
In-united x a b = In-union_of row_cmp row_total row_separates x a b

united_again : (a b c : List Row) → united (united a b) c ≡ united a (united b c)
united_again a b c =
    same_by_members row_cmp row_total row_separates (united (united a b) c) (united a (united b c))
    (Ascends-union_of row_cmp row_total row_separates (united a b) c) (Ascends-union_of row_cmp row_total row_separates a (united b c)) (λ x. (
      λ i. elim ((In-united x (united a b) c).0 i) [
        | inl j ↦ elim ((In-united x a b).0 j) [
          | inl k ↦ (In-united x a (united b c)).1 (inl k)
          | inr k ↦ (In-united x a (united b c)).1 (inr ((In-united x b c).1 (inl k)))
        ]
        | inr k ↦ (In-united x a (united b c)).1 (inr ((In-united x b c).1 (inr k)))
      ],
      λ i. elim ((In-united x a (united b c)).0 i) [
        | inl k ↦ (In-united x (united a b) c).1 (inl ((In-united x a b).1 (inl k)))
        | inr j ↦ elim ((In-united x b c).0 j) [
          | inl k ↦ (In-united x (united a b) c).1 (inl ((In-united x a b).1 (inr k)))
          | inr k ↦ (In-united x (united a b) c).1 (inr k)
        ]
      ],
    ))

more_rows : (a b c : List Row) → length (united b c) ≤ length (united a (united b c))
more_rows a b c =
    within_length row_cmp row_total row_separates (united b c) (united a (united b c)) (Ascends-union_of row_cmp row_total row_separates b c)
    (Ascends-union_of row_cmp row_total row_separates a (united b c)) (λ x i. (In-united x a (united b c)).1 (inr i))

-- ---- a renewal without USING

module _ (r : Renewal) (k : IsRenewal r) (none : r.revision.commalist.now ≡ []) (left added : Relation) (is : IsLeft r left) (are : AreAdded r added) where
  abbrev h : Heading
  h = r.value.now.heading

  abbrev place : Place
  place = r.revision.assignment.now.tree.place

  abbrev rest : List Row
  rest = subtracted r.value.now.rows r.part.now.rows

  abbrev both : List Row
  both = united left.rows added.rows

  all_meant : value_renewed r ≡ under h (limited place (united rest both))
  all_meant =
      both_meant r k left is added are
      ∙ (ap (λ (l : List ℕ). under h (limited place (packed l (united (unpacked l (united rest left.rows)) (unpacked l added.rows))))) none
      ∙ ap (λ (rows : List Row). under h (limited place rows)) (united_again rest left.rows added.rows))

  -- the rows that come in the place of the part
  abbrev new_rows : OrFault Relation
  new_rows = under left.heading (limited place both)

  pub new_headed : (new : Relation) → new_rows ≡ Ok new → new.heading ≡ h
  new_headed new told = sym (under_ok left.heading (limited place both) new told).1 ∙ is.heading

  pub new_meant : (new : Relation) → new_rows ≡ Ok new → value_renewed r ≡ under h (limited place (united rest new.rows))
  new_meant new told =
      all_meant ∙ ap (λ (rows : List Row). under h (limited place (united rest rows))) (limited_told place both new.rows (under_ok left.heading (limited place both) new told).0)

  pub new_refused : (stop : Stop) → Answers {A = Relation} (Err stop) new_rows → Answers {A = Relation} (Err stop) (value_renewed r)
  new_refused (Faulted e) told =
      let w = limited_failed place both e (under_failed left.heading (limited place both) e told) in
      let many = w.0 in
      let more = more_rows rest left.rows added.rows in
      let over : most_rows < length (united rest both) = omega (arith, many, more) in
      all_meant ∙ ap (under h) (limited_over place (united rest both) over ∙ ap Err w.1)
  new_refused OfMemory told = tt

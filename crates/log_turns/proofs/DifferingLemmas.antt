-- Any rows that come and go, and the ones among them that are new or were there.
--     differing_exact      those that come are new, and those that go were there
--     differing_same      they make the same of the rows
--     differing_fewer      they are no more
use Rattle.std.proofs.Common.{◌≡◌, inl, inr, ◌+◌, ◌≤◌, not, List, length, arith}
use Rattle.base_core.specs.Sets.{has}
use Rattle.base_core.proofs.SetLemmas.{In}
use Rattle.value_core.specs.Values.{Row, row_cmp}
use Rattle.relation_core.specs.Operators.{subtracted}
use Rattle.relation_core.proofs.FilterLemmas.{length-filter_at_most}
use Rattle.log_times.specs.Turns.{exchanged, IsExact}
use Rattle.log_times.proofs.TurnLemmas.{has_In, one_set}
use Rattle.log_turns.proofs.ExchangeLemmas.{In_exchanged, In_subtracted, exchanged_ascends, has_not, there_or_not}

module _ (rows come gone : List Row) where
  abbrev new : List Row
  new = subtracted (subtracted come rows) gone

  abbrev there : List Row
  there = subtracted gone (subtracted gone rows)

  new_is : (x : Row) → In x new → In x come × (In x rows → ⊥) × (In x gone → ⊥)
  new_is x i =
      let out = (In_subtracted (subtracted come rows) gone x).0 i in
      let k = (In_subtracted come rows x).0 out.0 in
      (k.0, k.1, out.1)

  there_is : (x : Row) → In x there → In x gone × In x rows
  there_is x i =
      let out = (In_subtracted gone (subtracted gone rows) x).0 i in
      elim (there_or_not rows x) [
        | inl k ↦ (out.0, k)
        | inr n ↦ absurd (out.1 ((In_subtracted gone rows x).1 (out.0, n)))
      ]

  pub differing_exact : IsExact rows new there
  differing_exact = record {
    new = λ x h. has_not rows x (new_is x ((has_In new x).0 h)).1;
    there = λ x h. (has_In rows x).1 (there_is x ((has_In there x).0 h)).1;
  }

  pub differing_same : exchanged rows new there ≡ exchanged rows come gone
  differing_same = one_set (exchanged rows new there) (exchanged rows come gone) (exchanged_ascends rows new there) (exchanged_ascends rows come gone) (λ x.
      let these = In_exchanged rows new there x in
      let all = In_exchanged rows come gone x in (
        λ h.
            let k = these.0 h in
            all.1 (elim k.0 [
              | inl i ↦ (inl i, λ g. k.1 ((In_subtracted gone (subtracted gone rows) x).1 (g, λ o. ((In_subtracted gone rows x).0 o).1 i)))
              | inr i ↦ let n = new_is x i in (inr n.0, n.2)
            ]),
        λ h.
            let k = all.0 h in
            let stays : In x there → ⊥ = λ t. k.1 (there_is x t).0 in
            these.1 (elim k.0 [
              | inl i ↦ (inl i, stays)
              | inr i ↦ elim (there_or_not rows x) [
                | inl old ↦ (inl old, stays)
                | inr n ↦ (inr ((In_subtracted (subtracted come rows) gone x).1 ((In_subtracted come rows x).1 (i, n), k.1)), stays)
              ]
            ]),
      ))

  pub differing_fewer : length new + length there ≤ length come + length gone
  differing_fewer =
      let once = length-filter_at_most (λ x. not (has row_cmp gone x)) (subtracted come rows) in
      let twice = length-filter_at_most (λ x. not (has row_cmp rows x)) come in
      let left = length-filter_at_most (λ x. not (has row_cmp (subtracted gone rows) x)) gone in
      omega (arith, once, twice, left)

-- What the insertion under USING by labels comes to, from what its calls answer.
--     refused_new, refused_come, refused_gone      a refusal on the way is one of all
--     insertion_cost, insertion_counted, insertion_rows
use Rattle.std.proofs.Common.{◌≡◌, ℕ, ◌+◌, ◌≤◌, List, length, sym, ap, ap₂, ◌∙◌, subst, arith}
use Rattle.base_core.proofs.SetLemmas.{Ascends-from_sorted}
use Rattle.value_core.specs.RowPacking.{packed, unpacked}
use Rattle.value_core.specs.Values.{Row, Relation, IsRelation, most_rows, row_cmp}
use Rattle.value_core.specs.declared.refuse.RowsRefuse.{RowsRefuse}
use Rattle.value_core.specs.declared.refuse.RowsRefuse.TheVariants.{TooMany, Memory}
use Rattle.relation_core.specs.Answers.{IsRefusal}
use Rattle.relation_core.specs.Growth.{touched}
use Rattle.relation_core.specs.Operators.{subtracted, united}
use Rattle.cell_core.specs.Costs.{bound}
use Rattle.u_set.specs.Apart.{outside}
use Rattle.u_set.specs.Boxes.{AreIntervals}
use Rattle.u_set.proofs.RelationLemmas.{relation_shaped, shaped_under}
use Rattle.u_constraints.specs.Growth.{exchanged}
use Rattle.u_constraints.proofs.BoundLemmas.{bound_grows}
use Rattle.change_rows.proofs.LabelLemmas.{IsSet}
use Rattle.change_rows.proofs.ExchangeLemmas.{is_counted, new_within, come_within, gone_within, old_within, exchanged_is}

-- ---- the positions of a label

-- ---- what the calls come to

pub smaller_refused : (few all : List Row) → length few ≤ length all → (e : RowsRefuse) → IsRefusal few e → IsRefusal all e
smaller_refused few all less TooMany h = omega (arith, less, h)
smaller_refused few all less Memory h = h

pub not_refused : (few all whole : List Row) → length few ≤ length all → length all ≤ most_rows → (e : RowsRefuse) → IsRefusal few e → IsRefusal whole e
not_refused few all whole less most TooMany h = absurd (omega (arith, less, most, h))
not_refused few all whole less most Memory h = h

module _ (value operand : Relation) (is : IsRelation value) (is' : IsRelation operand) (heading : operand.heading ≡ value.heading) (commalist : List ℕ) (intervals : AreIntervals value.heading commalist)
    (label : List ℕ) (at : label ≡ outside commalist value.heading) (part : List Row) (taken : part ≡ touched label operand.rows value.rows) where
  abbrev own : List Row
  own = value.rows

  abbrev others : List Row
  others = operand.rows

  abbrev old : List Row
  old = touched (outside commalist value.heading) others own

  abbrev packing : List Row → List Row
  packing rows = packed commalist (united (unpacked commalist rows) (unpacked commalist others))

  own_set : IsSet value.heading commalist intervals own
  own_set = (Ascends-from_sorted row_cmp own is.ascending, relation_shaped value is commalist intervals)

  others_set : IsSet value.heading commalist intervals others
  others_set = (Ascends-from_sorted row_cmp others is'.ascending, shaped_under value.heading operand (sym heading) is' commalist intervals)

  part_is : part ≡ old
  part_is = taken ∙ ap (λ (positions : List ℕ). touched positions others own) at

  pub refused_new : (e : RowsRefuse) → IsRefusal (packing part) e → IsRefusal (packing own) e
  refused_new e h =
      smaller_refused (packing old) (packing own) (new_within value.heading commalist intervals own others own_set others_set) e
      (subst (λ (rows : List Row). IsRefusal (packing rows) e) part_is h)

  pub insertion_cost : (now then : ℕ) → then ≤ now + bound (length part + length others) (length commalist) → then ≤ now + bound (length own + length others) (length commalist)
  insertion_cost now then h =
      let less = old_within value.heading commalist intervals own others own_set others_set in
      let long = ap (λ (rows : List Row). length rows) part_is in
      let grows = bound_grows (length part + length others) (length own + length others) (length commalist) (omega (arith, less, long)) in
      omega (arith, grows, h)

  module _ (new : List Row) (packed_new : new ≡ packing part) where
    new_is : new ≡ packing old
    new_is = packed_new ∙ ap packing part_is

    come_is : subtracted new part ≡ subtracted (packing old) old
    come_is = ap₂ subtracted new_is part_is

    gone_is : subtracted part new ≡ subtracted old (packing old)
    gone_is = ap₂ subtracted part_is new_is

    pub refused_come : (e : RowsRefuse) → IsRefusal (subtracted new part) e → IsRefusal (packing own) e
    refused_come e h =
        smaller_refused (subtracted (packing old) old) (packing own) (come_within value.heading commalist intervals own others own_set others_set) e
        (subst (λ (rows : List Row). IsRefusal rows e) come_is h)

    pub refused_gone : (e : RowsRefuse) → IsRefusal (subtracted part new) e → IsRefusal (packing own) e
    refused_gone e h =
        not_refused (subtracted old (packing old)) own (packing own) (gone_within value.heading commalist intervals own others own_set others_set) is.few e
        (subst (λ (rows : List Row). IsRefusal rows e) gone_is h)

    module _ (come gone : List Row) (come_are : come ≡ subtracted new part) (gone_are : gone ≡ subtracted part new) where
      pub insertion_counted : length (exchanged own gone come) + length gone ≡ length own + length come
      insertion_counted =
          subst (λ (rows : List Row). length (exchanged own gone rows) + length gone ≡ length own + length rows) (sym (come_are ∙ come_is))
          (subst (λ (rows : List Row). length (exchanged own rows (subtracted (packing old) old)) + length rows ≡ length own + length (subtracted (packing old) old)) (sym (gone_are ∙ gone_is))
          (is_counted value.heading commalist intervals own others own_set others_set))

      pub insertion_rows : packed commalist own ≡ own → exchanged own gone come ≡ packing own
      insertion_rows are =
          ap₂ (λ (g c : List Row). exchanged own g c) (gone_are ∙ gone_is) (come_are ∙ come_is) ∙ exchanged_is value.heading commalist intervals own others own_set others_set are

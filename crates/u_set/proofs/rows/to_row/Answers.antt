use Rattle.std.proofs.Common.{◌≡◌, ◌+◌, List, [], ◌∷◌, ◌++◌, map, take, drop, get_or, sym, ◌∙◌, subst}
use Rattle.std.specs.Bool.{IsTrue}
use Rattle.std.specs.Vec.Iter.{into_iter_items}
use Rattle.point_core.specs.Points.{number}
use Rattle.value_core.specs.declared.value.Value.{Value as Held}
use Rattle.value_core.specs.Plain.{plain}
use Rattle.value_core.specs.Values.{Row, fits_heading}
use Rattle.cell_core.specs.Cells.{box_numbers}
use Rattle.u_set.specs.Boxes.{others_from, unboxed_from, unboxed}
use Rattle.u_set.proofs.RowLemmas.{label_next, listed_more, unlisted_more, first_and_rest}
use Rattle.u_set.proofs.rows.to_row.Goals.{then-is_listed+in_ok-push, else-is_listed+in_ok-push-2}
use Rattle.u_set.proofs.rows.to_row.Goals as goal

pub loop-i-preserved : goal.loop-i-preserved
loop-i-preserved c =
    let heading = c.args.heading.now in
    let commalist = c.args.commalist.now in
    let i = c.loop-i.i in
    let spans = box_numbers number c.args.sides.now in
    let target : Row = unboxed heading commalist (map plain c.args.label.items, spans) in
    let left : List Held = into_iter_items c.loop-i.rest in
    let inv = c.loop-i.invariant in
    elim c.if-is_listed.branch [
      | then-is_listed+in_ok-push w ↦
          let v = w.side_value.result in
          let more = listed_more heading commalist i c.loop-i-test.true left spans target 0 c.loop-i.values.items v (sym c.is_listed.ensures ∙ w.if-is_listed.true) w.side_value.ensures.value w.side_value.ensures.fits inv.row inv.label inv.fits in
          let items : c.if-is_listed.values.items ≡ c.loop-i.values.items ++ w.side_value.result ∷ [] = (λ t. (w.values-is t).items) ∙ w.in_ok-push.ensures.items in
          let same : into_iter_items c.if-is_listed.rest ≡ left = λ t. into_iter_items (w.rest-is t) in
          record {
            row = (λ t. map plain (items t) ++ unboxed_from (i + 1) commalist (drop (i + 1) heading) (map plain (same t)) spans) ∙ more.0;
            label = subst (λ (xs : List Held). IsTrue (fits_heading (others_from (i + 1) commalist (drop (i + 1) heading)) (map plain xs))) (sym same) more.1;
            fits = subst (λ (xs : List Held). IsTrue (fits_heading (take (i + 1) heading) (map plain xs))) (sym items) more.2;
          }
      | else-is_listed+in_ok-push-2 w ↦
          let v = w.next_value.result in
          let e = sym c.is_listed.ensures ∙ w.if-is_listed.false in
          let some = (label_next heading commalist i c.loop-i-test.true 0 left e inv.label).0 in
          let x : Held = get_or left 0 v in
          let xs : List Held = drop 1 left in
          let next = w.next_value.ensures x xs (first_and_rest left v some) in
          let more = unlisted_more heading commalist i c.loop-i-test.true left spans target 0 c.loop-i.values.items v e next.0 inv.row inv.label inv.fits in
          let items : c.if-is_listed.values.items ≡ c.loop-i.values.items ++ w.next_value.result ∷ [] = (λ t. (w.values-is t).items) ∙ w.in_ok-push-2.ensures.items in
          let same : into_iter_items c.if-is_listed.rest ≡ xs = (λ t. into_iter_items (w.rest-is t)) ∙ next.1 in
          record {
            row = (λ t. map plain (items t) ++ unboxed_from (i + 1) commalist (drop (i + 1) heading) (map plain (same t)) spans) ∙ more.0;
            label = subst (λ (ys : List Held). IsTrue (fits_heading (others_from (i + 1) commalist (drop (i + 1) heading)) (map plain ys))) (sym same) more.1;
            fits = subst (λ (ys : List Held). IsTrue (fits_heading (take (i + 1) heading) (map plain ys))) (sym items) more.2;
          }
    ]

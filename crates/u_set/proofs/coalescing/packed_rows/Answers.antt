use Rattle.std.proofs.Common.{[], ◌∷◌, map, ◌≡◌, ◌∙◌}
use Rattle.std.specs.Bool.{IsTrue}
use Rattle.cell_packing.specs.Boxed.{packed_boxes}
use Rattle.value_core.specs.Relations.{all_fit}
use Rattle.value_core.specs.Values.{row_cmp, rows_of}
use Rattle.u_set.specs.Boxes.{boxed, unboxed}
use Rattle.u_set.proofs.ApartLemmas.{some_holds}
use Rattle.u_set.proofs.CoalescingLemmas.{all_moved, rows_moved}
use Rattle.u_set.proofs.coalescing.packed_rows.Goals as goal

pub returns-clause-fit : goal.returns-clause-fit
returns-clause-fit c =
    let fit = some_holds (λ v. IsTrue (all_fit c.args.heading.now v.items)) c.in_ok-packed.field-0 c.in-Some.packed c.in-Some.is c.in_ok-packed.ensures.fit in
    all_moved c.args.heading.now c.in-Some.packed.items c.in_ok-list.list.items c.in_ok-list.ensures fit

pub returns-clause-rows : goal.returns-clause-rows
returns-clause-rows c =
    let heading = c.args.heading.now in
    let rows = some_holds (λ v. rows_of (map (unboxed heading (c.args.at ∷ [])) (packed_boxes row_cmp 1 (map (boxed (c.args.at ∷ [])) c.args.rows.items))) ≡ rows_of v.items) c.in_ok-packed.field-0 c.in-Some.packed c.in-Some.is c.in_ok-packed.ensures.rows in
    rows ∙ rows_moved c.in-Some.packed.items c.in_ok-list.list.items c.in_ok-list.ensures

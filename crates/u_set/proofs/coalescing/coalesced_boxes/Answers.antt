use Rattle.std.proofs.Common.{◌≡◌, [], ◌∷◌, map, ap, ◌∙◌}
use Rattle.point_core.specs.Points.{number}
use Rattle.value_core.specs.Values.{Heading}
use Rattle.cell_core.specs.Cells.{row_numbers}
use Rattle.u_set.specs.Boxes.{unboxed}
use Rattle.u_set.proofs.UnboxedLemmas.{answer_back}
use Rattle.u_set.proofs.coalescing.coalesced_boxes.Goals as goal

pub returns : goal.returns
returns c =
    let are : c.in_ok-rows.rows.items ≡ map (unboxed c.args.heading (c.args.at ∷ [])) (map (row_numbers number) c.args.boxes.items) =
    c.in_ok-rows.ensures.rows ∙ ap (λ (h : Heading). map (unboxed h (c.args.at ∷ [])) (map (row_numbers number) c.args.boxes.items)) c.attributes.ensures.list in
    answer_back c.args.heading c.args.at c.requires.intervals c.args.boxes.items c.requires.sides c.requires.labels c.in_ok-rows.rows.items are c.coalesced_by.result c.coalesced_by.ensures.answer

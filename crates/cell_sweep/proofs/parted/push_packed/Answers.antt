use Rattle.std.proofs.Common.{◌++◌, ◌∙◌, ap, length, map, refl}
use Rattle.cell_packing.specs.Live.{box}
use Rattle.cell_sweep.specs.PackedRows.{bare}
use Rattle.cell_sweep.specs.Rows.{sides_of}
use Rattle.cell_sweep.proofs.Turns.{all_below}
use Rattle.cell_sweep.proofs.PartedLemmas.{copied_rows, copied_sorted, labelled_boxes}
use Rattle.cell_sweep.proofs.parted.push_packed.Goals as goal

pub are_apart-requires-clause-rows : goal.are_apart-requires-clause-rows
are_apart-requires-clause-rows g c = all_below (length c.args.boxes.now) c.args.live.now c.requires.rows

pub push_copies-requires : goal.push_copies-requires
push_copies-requires g c = record { rows = all_below (length c.args.boxes.now) c.args.live.now c.requires.rows }

pub returns-then-are_apart : goal.returns-then-are_apart
returns-then-are_apart g c =
    let boxes = sides_of c.args.boxes.now in
    let live = c.args.live.now in
    let rows = map (λ r. (bare, box boxes r)) live in
    let apart = c.are_apart.ensures c.if-are_apart.true in (
      rows,
      c.in_ok-push_copies.ensures ∙ ap (λ v. c.args.out.now.items ++ v) (labelled_boxes c.args.label.now boxes live),
      copied_rows boxes c.args.sides live apart rows refl,
      copied_sorted boxes c.args.sides live apart rows refl,
    )

pub returns : goal.returns
returns g c = (c.in_ok-rows.rows.items, c.in_ok-push_labelled.ensures, c.in_ok-rows.ensures.rows, c.in_ok-rows.ensures.sorted)

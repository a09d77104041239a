use Rattle.std.proofs.Common.{List, [], ◌∷◌, refl}
use Rattle.cell_sweep.specs.declared.inward.IndexBox.{IndexBox}
use Rattle.cell_boxes.proofs.LessLemmas.{whole, split_grid_points, split_sides, split_ends}
use Rattle.cell_boxes.proofs.remaining.push_rest.Goals as goal

pub returns-then-first-end : goal.returns-then-first-end
returns-then-first-end g c =
    let own = c.args.sides.items in
    let holes = c.args.holes.now in
    let first = c.args.first in
    let end = c.args.end in
    let pieces : List IndexBox = record { sides = c.args.sides } ∷ [] in
    let split = whole own holes first end pieces refl c.if-first-end.true in
    record {
      parts = pieces;
      made = c.in_ok-push.ensures.items;
      grid_points = split_grid_points own holes first end [] pieces pieces refl split;
      lengths = split_sides own holes first end [] pieces pieces refl split;
      ends = split_ends own holes first end [] pieces pieces refl split;
    }

pub returns : goal.returns
returns g c = record {
  parts = c.in_ok-parts.parts.items;
  made = c.in_ok-push_labelled.ensures;
  grid_points = c.in_ok-parts.ensures.grid_points;
  lengths = c.in_ok-parts.ensures.lengths;
  ends = c.in_ok-parts.ensures.ends;
}

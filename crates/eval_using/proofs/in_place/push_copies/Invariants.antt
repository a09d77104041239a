use Rattle.std.proofs.Common.{◌≡◌, ◌++◌, ◌∷◌, [], map, take}
use Rattle.std.specs.Bool.{IsTrue}
use Rattle.std.specs.List.{All}
use Rattle.point_core.specs.Points.{number, IsPointOf}
use Rattle.interval_core.specs.Members.{HasEndsIn}
use Rattle.value_core.specs.Attributes.{put_span}
use Rattle.value_core.specs.Relations.{all_fit}
use Rattle.value_core.specs.Values.{Heading, fits_heading}
use Rattle.relation_core.specs.Parts.{kind_at}
use Rattle.cell_core.specs.Cells.{box_numbers}
use Rattle.u_set.specs.Boxes.{AreIntervals, type_of}
use Rattle.eval_using.proofs.in_place.push_copies.Given as goal

abbrev pub invariant-loop-i : goal.invariant-loop-i
invariant-loop-i l = record {
  rows : l.out.items ≡ l.fn.out.items ++ map (put_span l.row l.at) (box_numbers number (take l.i-index l.intervals));
  fits : (heading : Heading) → AreIntervals heading (l.at ∷ []) → IsTrue (fits_heading heading l.row) → All (HasEndsIn IsPointOf (type_of (kind_at heading l.at))) l.intervals →
      IsTrue (all_fit heading l.fn.out.items) → IsTrue (all_fit heading l.out.items);
}

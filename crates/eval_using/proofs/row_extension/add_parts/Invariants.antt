use Rattle.std.proofs.Common.{◌≡◌, ◌⊎◌, ◌++◌, ◌∷◌, [], List, map, take, Err, Some}
use Rattle.std.specs.Bool.{IsTrue}
use Rattle.std.specs.List.{All}
use Rattle.point_core.specs.Points.{number}
use Rattle.point_core.specs.LeastFault.{IsLeast}
use Rattle.interval_core.specs.Members.{Span}
use Rattle.cell_packing.specs.Covering.{Among}
use Rattle.cell_packing.specs.Packed.{firsts}
use Rattle.value_core.specs.Relations.{all_fit}
use Rattle.value_core.specs.Values.{Heading}
use Rattle.tree_core.specs.Trees.{read_sets}
use Rattle.cell_core.specs.Cells.{box_numbers}
use Rattle.u_set.specs.Boxes.{boxed}
use Rattle.u_row.specs.Rules.{labelled}
use Rattle.eval_using.specs.Extended.{made_of, alone, CanMake}
use Rattle.eval_using.specs.Holding.{IsPart}
use Rattle.eval_using.specs.Moved.{IsMoved}
use Rattle.eval_using.specs.Swept.{swept}
use Rattle.eval_using.proofs.row_extension.add_parts.Given as goal

abbrev pub invariant-loop-part : goal.invariant-loop-part
invariant-loop-part l = record {
  rows : map (boxed (l.by.to ∷ [])) l.out.items ≡ map (boxed (l.by.to ∷ [])) l.fn.out.items
      ++ labelled (swept (l.by.at ∷ []) (l.by.to ∷ []) (made_of l.by.places.now (read_sets l.by.sets.now)) l.row) (alone (box_numbers number (take l.part-index l.parts)));
  fits : (from heading : Heading) → CanMake from heading l.by.at l.by.to (read_sets l.by.sets.now) l.by.places.now l.row → All (IsPart from l.by.at l.row) l.parts → IsTrue (all_fit heading l.fn.out.items) → IsTrue (all_fit heading l.out.items);
  moved : IsMoved l.by.at l.row l.there;
  least : IsLeast (λ e. (l.fn.least ≡ Some e) ⊎ ((c : List Span) × Among c (alone (box_numbers number (take l.part-index l.parts)))
      × (swept (l.by.at ∷ []) (l.by.to ∷ []) (made_of l.by.places.now (read_sets l.by.sets.now)) l.row (firsts c) ≡ Err e))) l.least;
}

-- Rows that have become fewer, where some were joined.
--     AreJoined      they fit, and have the places that the rows before had
--     IsFormByLabel      they are the packed rows, in the order of their labels
use Rattle.std.specs.Prelude.{◌↔◌, ℕ, ℤ, List, [], ◌∷◌, map, IsTrue}
use Rattle.cell_packing.specs.Boxed.{InBoxes}
use Rattle.value_core.specs.Relations.{all_fit}
use Rattle.value_core.specs.Values.{Row, Heading}
use Rattle.u_set.specs.declared.apart.Gap.TheVariants.{One}
use Rattle.u_set.specs.Apart.{AreBeyond, outside}
use Rattle.u_set.specs.Boxes.{boxed}

-- the rows fit the heading, and at each point of the attribute at the position they have the labels that the rows before have there
pub record AreJoined (heading : Heading) (at : ℕ) (before rows : List Row) : Type 0 where
  pub fit : IsTrue (all_fit heading rows)
  pub places : (l : Row) (place : List ℤ) → InBoxes (map (boxed (at ∷ [])) before) l place ↔ InBoxes (map (boxed (at ∷ [])) rows) l place

-- so joined that none overlaps or follows another one of its label, by their labels and then by the begins of their intervals
pub record IsFormByLabel (heading : Heading) (at : ℕ) (before rows : List Row) : Type 0 where
  pub joined : AreJoined heading at before rows
  pub beyond : AreBeyond (outside (at ∷ []) heading) at One rows

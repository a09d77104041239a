-- What items make of a row at a place.
--     made_of      the row with the values of the items
--     AreSweepable      sweepable items
--     IsFree      a value that does not hang on the place
--     AreItems      items that can be asked at each place of rows of a heading, and the rows that they make
--     CanExtend      items can be asked of a row at each place
--     CanMake      the same of a row with one listed attribute
--     label_made      the label of the row that is made
--     alone      boxes of one side
use Rattle.std.specs.Prelude.{◌≡◌, ℕ, ◌+◌, ◌<◌, ◌⊎◌, false, List, [], ◌∷◌, map, length, get_or, Ok, Option, Some, IsTrue}
use Rattle.base_core.specs.Outcomes.{then_give}
use Rattle.base_core.proofs.SetLemmas.{In}
use Rattle.point_core.specs.Faults.{OrFault}
use Rattle.point_core.specs.declared.any_type.AnyPoint.{AnyPoint}
use Rattle.interval_core.specs.Members.{Span}
use Rattle.value_core.specs.Attributes.{among}
use Rattle.value_core.specs.Values.{Name, Row, Heading, fits_heading}
use Rattle.scalar_core.specs.Expressions.{Expr}
use Rattle.scalar_core.specs.Sweeping.{IsSweepable}
use Rattle.tree_core.specs.Trees.{PlainSets}
use Rattle.u_set.specs.Boxes.{AreIntervals, types_at}
use Rattle.meaning_core.specs.Rows.{extended_at}
use Rattle.meaning_core.specs.Scalars.{AreTypedOver}
use Rattle.eval_using.specs.Swept.{AreBoxed, labelled_if}

abbrev pub made_of : List ℕ → PlainSets → Row → OrFault (Option Row)
made_of at sets x = then_give (extended_at at sets x) (λ y. Ok (Some y))

-- the place p, among n values of items and then a row's own, is an item's, or that of an own value at none of the positions
abbrev pub IsFree : List ℕ → ℕ → ℕ → Type 0
IsFree commalist n p = (p < n) ⊎ ((a : ℕ) × (p ≡ n + a) × (among commalist a ≡ false))

-- the items are sweepable for the positions
abbrev pub AreSweepable : List ℕ → PlainSets → Type 0
AreSweepable commalist sets = (s : Name × Expr) → In s sets → IsSweepable commalist s.1

-- the items are typed for rows of the heading `from` and sweepable for the positions `commalist`. With the row's values they make rows of the
-- heading `heading`, whose values at the positions `to` are those of the row at `commalist`; the others do not hang on the place
pub record AreItems (from heading : Heading) (commalist to : List ℕ) (sets : PlainSets) (at : List ℕ) : Type 0 where
  pub typed : (x : Row) → IsTrue (fits_heading from x) → AreTypedOver x sets
  pub sweepable : AreSweepable commalist sets
  pub fitting : (x y : Row) → IsTrue (fits_heading from x) → extended_at at sets x ≡ Ok y → IsTrue (fits_heading heading y)
  pub here : AreIntervals from commalist
  pub there : AreIntervals heading to
  pub types : types_at from commalist ≡ types_at heading to
  pub count : length to ≡ length commalist
  pub long : length at ≡ length heading
  pub kept : (j : ℕ) → j < length to → get_or at (get_or to j 0) 0 ≡ length sets + get_or commalist j 0
  pub free : (j : ℕ) → j < length at → among to j ≡ false → IsFree commalist (length sets) (get_or at j 0)

pub record CanExtend (commalist to : List ℕ) (sets : PlainSets) (at : List ℕ) (rows : List Row) (boxes : List (Row × List (AnyPoint × AnyPoint))) (row : ℕ) : Type 0 where
  pub boxed : AreBoxed commalist rows boxes row
  pub heading : Heading
  pub items : AreItems boxed.heading heading commalist to sets at

-- the items can be asked at each point of the row's interval at the position `at`; it stands at `to` in the rows that they make
pub record CanMake (from heading : Heading) (at to : ℕ) (sets : PlainSets) (places : List ℕ) (row : Row) : Type 0 where
  pub items : AreItems from heading (at ∷ []) (to ∷ []) sets places
  pub fits : IsTrue (fits_heading from row)

abbrev pub label_made : ℕ → PlainSets → List ℕ → Row → OrFault (Option Row)
label_made to sets places x = then_give (made_of places sets x) (labelled_if (to ∷ []))

-- the boxes of one side
abbrev pub alone : List Span → List (List Span)
alone spans = map (λ s. s ∷ []) spans

-- What a rule gives on groups of rows, point by point.
--     IsFirst      the first of the rows that have a place and its label
--     AreFirsts      those of them whose labels have one part
--     OfFirsts      what holds of those of some part
--     InGroupRule, HasGroupFault      what the rule gives at places of boxes
--     IsGroupForm      its packed form
use Rattle.std.specs.Prelude.{◌≡◌, ◌≢◌, ◌↔◌, ℕ, ◌<◌, ℤ, List, [], map, length, get_or, Result, Ok, Err}
use Rattle.std.specs.declared.cmp.Ordering.{Ordering}
use Rattle.std.specs.List.Sorted.{IsStrictlySortedBy}
use Rattle.value_core.specs.Values.{Row}
use Rattle.relation_core.specs.Agreement.{part_of}
use Rattle.cell_packing.specs.Boxed.{Boxed, boxed_cmp}
use Rattle.cell_packing.specs.Covering.{Among}
use Rattle.cell_packing.specs.Packed.{Has, packs, points_of}
use Rattle.cell_sweep.specs.Rows.{AreRows}

-- H holds of the row r, and of none before it that has its label
abbrev pub IsFirst : List Row → (ℕ → Type 0) → ℕ → Type 0
IsFirst labels H r = (r < length labels) × H r × ((s : ℕ) → s < r → H s → get_or labels s [] ≡ get_or labels r [] → ⊥)

-- the numbers of those of them whose labels have the part at the positions, ascending; so there is one such list
pub record AreFirsts (by : List ℕ) (labels : List Row) (H : ℕ → Type 0) (key : Row) (a : List ℕ) : Type 0 where
  pub order : AreRows 0 (length labels) a
  pub members : (r : ℕ) → Among r a ↔ (IsFirst labels H r × (part_of by (get_or labels r []) ≡ key))

-- V holds of them for some part, and there are some
abbrev pub OfFirsts : List ℕ → List Row → (ℕ → Type 0) → (List ℕ → Type 0) → Type 0
OfFirsts by labels H V = (key : Row) × (a : List ℕ) × AreFirsts by labels H key a × (a ≢ []) × V a

abbrev pub labels_in : {S : Type 0} → List (Row × S) → List Row
labels_in rows = map (λ x. x.0) rows

abbrev pub sides_in : {L S : Type 0} → List (L × S) → List S
sides_in rows = map (λ x. x.1) rows

-- the box of the row has the place
abbrev pub HasPlace : List (Boxed Row) → List ℤ → ℕ → Type 0
HasPlace rows place r = Has (get_or (sides_in rows) r []) place

-- the rule gives the label of some group at the place
abbrev pub InGroupRule : {F : Type 0} → (List ℕ → Result Row F) → List ℕ → List (Boxed Row) → Row → List ℤ → Type 0
InGroupRule f by rows l place = OfFirsts by (labels_in rows) (HasPlace rows place) (λ a. f a ≡ Ok l)

-- it gives the fault of some group at some place
abbrev pub HasGroupFault : {F : Type 0} → (List ℕ → Result Row F) → List ℕ → List (Boxed Row) → F → Type 0
HasGroupFault f by rows e = (place : List ℤ) × OfFirsts by (labels_in rows) (HasPlace rows place) (λ a. f a ≡ Err e)

-- the list has just the boxes over the labels that the rule gives at places, packed on the first side, then the second, up to the
-- k-th, each once and in order; so there is one such list
pub record IsGroupForm {F : Type 0} (order : Row → Row → Ordering) (k : ℕ) (f : List ℕ → Result Row F) (by : List ℕ) (rows form : List (Boxed Row)) : Type 0 where
  pub sorted : IsStrictlySortedBy (boxed_cmp order) form
  pub members : (x : Boxed Row) → Among x form ↔ ((length x.1 ≡ k) × packs k (points_of (InGroupRule f by rows x.0)) x.1)

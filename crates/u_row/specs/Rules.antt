-- What a rule gives on cells.
use Rattle.std.specs.Prelude.{◌≡◌, ◌↔◌, ℕ, ◌<◌, ℤ, List, [], ◌∷◌, map, flat_map, length, get_or, Result, Ok, Err, Option, Some, None}
use Rattle.std.specs.declared.cmp.Ordering.{Ordering}
use Rattle.std.specs.List.Sorted.{IsStrictlySortedBy}
use Rattle.interval_core.specs.Members.{Span}
use Rattle.cell_packing.specs.Boxed.{boxed_cmp}
use Rattle.cell_packing.specs.Covering.{Among}
use Rattle.cell_packing.specs.Packed.{Has, firsts, packs, points_of}
use Rattle.cell_core.specs.Cells.{box_numbers}

-- the sides under the label that is given, if one is
abbrev pub given : {L F S : Type 0} → Result (Option L) F → S → List (L × S)
given (Ok (Some l)) s = (l, s) ∷ []
given (Ok None) s = []
given (Err e) s = []

-- the fault that is given, if one is
abbrev pub fault_of : {X F : Type 0} → Result X F → Option F
fault_of (Ok x) = None
fault_of (Err e) = Some e

-- the cells under the labels that a function gives at their first places
abbrev pub labelled : {L F : Type 0} → (List ℤ → Result (Option L) F) → List (List Span) → List (L × List Span)
labelled f cells = flat_map (λ s. given (f (firsts s)) s) cells

-- some box has the place, and the function of its row gives the label there
abbrev pub InRule : {L F : Type 0} → (ℕ → List ℤ → Result (Option L) F) → List (List Span) → L → List ℤ → Type 0
InRule f boxes l place = (r : ℕ) × (r < length boxes) × Has (get_or boxes r []) place × (f r place ≡ Ok (Some l))

-- the function of some row gives the fault at a place of its box
abbrev pub HasRuleFault : {L F : Type 0} → (ℕ → List ℤ → Result (Option L) F) → List (List Span) → F → Type 0
HasRuleFault f boxes e = (r : ℕ) × (place : List ℤ) × (r < length boxes) × Has (get_or boxes r []) place × (f r place ≡ Err e)

-- the boxes of rows, by their numbers
abbrev pub sides_numbers : {L P : Type 0} → (P → ℤ) → List (L × List (P × P)) → List (List Span)
sides_numbers n rows = map (λ b. box_numbers n b.1) rows

-- the list has just the boxes over the labels that the functions give at the places of the rows' boxes, packed on the first side, then
-- the second, up to the k-th, each once and in order; so there is one such list
pub record IsRuleForm {L F : Type 0} (order : L → L → Ordering) (k : ℕ) (f : ℕ → List ℤ → Result (Option L) F) (boxes : List (List Span))
    (form : List (L × List Span)) : Type 0 where
  pub sorted : IsStrictlySortedBy (boxed_cmp order) form
  pub members : (x : L × List Span) → Among x form ↔ ((length x.1 ≡ k) × packs k (points_of (InRule f boxes x.0)) x.1)

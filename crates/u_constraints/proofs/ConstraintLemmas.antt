-- Constraints over no rows, and what a checked reference tells.
use Rattle.std.proofs.Common.{◌≡◌, ℕ, List, [], ◌∷◌, map, Option, None, Some, refl, sym, ap, ap₂, ◌∙◌, Bool, false, not, Ordering}
use Rattle.std.specs.List.{list_any}
use Rattle.point_core.specs.declared.fault.Code.{Code}
use Rattle.point_core.specs.declared.fault.Code.TheVariants.{E40, E41, E42, E43, E44}
use Rattle.base_core.specs.Sets.{is_within}
use Rattle.interval_core.specs.Packing.{Side, unpack, pack, pack_each}
use Rattle.value_core.specs.Values.{Name, Row, Relation, row_cmp, same_rows}
use Rattle.value_core.specs.declared.constraint.Constraint.{Constraint}
use Rattle.value_core.specs.declared.constraint.Constraint.TheVariants.{Key, Packed, WhenUnpacked, UKey, Foreign, History}
use Rattle.relation_core.specs.Parts.{projected}
use Rattle.value_core.specs.RowPacking.{attribute, unpacked, packed}
use Rattle.u_constraints.specs.Constraints.{is_key, is_referenced, counterpart, first_failed, broken, rows_or_none}

-- ---- over no rows

module _ {X : Type 0} (cmp : X → X → Ordering) where
  unpack_none : (sides : List (Side X)) → unpack cmp sides [] ≡ []
  unpack_none [] = refl
  unpack_none (a ∷ sides) = unpack_none sides

  pack_each_none : (sides : List (Side X)) → pack_each cmp sides [] ≡ []
  pack_each_none [] = refl
  pack_each_none (a ∷ sides) = pack_each_none sides

  pack_none : (sides : List (Side X)) → pack cmp sides [] ≡ []
  pack_none sides = ap (pack_each cmp sides) (unpack_none sides) ∙ pack_each_none sides

unpacked_none : (commalist : List ℕ) → unpacked commalist [] ≡ []
unpacked_none commalist = unpack_none row_cmp (map attribute commalist)

packed_none : (commalist : List ℕ) → packed commalist [] ≡ []
packed_none commalist = pack_none row_cmp (map attribute commalist)

none_found : {X : Type 0} (xs : List X) → list_any (λ x. false) xs ≡ false
none_found [] = refl
none_found (x ∷ xs) = none_found xs

-- every constraint holds over no rows, whatever rows the relvar has that it names
pub broken_none : (c : Constraint) (others : List Row) → broken c [] others ≡ None
broken_none (Key k) others = refl
broken_none (Packed commalist) others = ap (λ (ps : List Row). first_failed ((same_rows [] ps, E41) ∷ [])) (packed_none commalist)
broken_none (WhenUnpacked commalist k) others = ap (λ (us : List Row). first_failed ((is_key k us, E42) ∷ [])) (unpacked_none commalist)
broken_none (UKey commalist k) others =
    ap₂ (λ (ps us : List Row). first_failed ((same_rows [] ps, E41) ∷ (is_key k us, E42) ∷ (is_key k [], E40) ∷ [])) (packed_none commalist) (unpacked_none commalist)
broken_none (Foreign commalist here name there) others =
    ap (λ (us : List Row). first_failed ((is_within row_cmp (projected here us) (projected there (unpacked (map (counterpart here there) commalist) others)), E43) ∷ [])) (unpacked_none commalist)
broken_none (History h) others = ap (λ b. first_failed ((not b, E44) ∷ [])) (none_found others)

-- ---- a reference

pub referenced : (c : Constraint) (commalist here there a h t : List ℕ) (name : Name) (rows : List Row) (other : Option Relation) (r : Relation) (kept : Bool) (code : Option Code) → c ≡ Foreign commalist here name there
    → other ≡ Some r → a ≡ commalist → h ≡ here → t ≡ there → kept ≡ is_referenced a h t rows r.rows → code ≡ first_failed ((kept, E43) ∷ []) → code ≡ broken c rows (rows_or_none other)
referenced c commalist here there a h t name rows other r kept code form named d e f is told =
    let same = ap₂ (λ (l : List ℕ) (p : List ℕ × List ℕ). is_referenced l p.0 p.1 rows r.rows) d (ap₂ (λ (x y : List ℕ). (x, y)) e f) in
    told ∙ ap (λ k. first_failed ((k, E43) ∷ [])) (is ∙ same) ∙ ap₂ (λ z o. broken z rows (rows_or_none o)) (sym form) (sym named)

-- ---- steps

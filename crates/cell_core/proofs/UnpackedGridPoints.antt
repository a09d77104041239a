-- The places of unpacked boxes are those of the boxes.
use Rattle.std.proofs.Common.{◌≡◌, ◌↔◌, ℕ, ℤ, ◌≤ℤ◌, List, [], ◌∷◌, map, refl, sym, ◌∙◌, subst, arith, Ordering}
use Rattle.std.proofs.lemmas.Int.{ints}
use Rattle.std.specs.Cmp.{IsTotalOrder}
use Rattle.base_core.proofs.SetLemmas.{Separates}
use Rattle.interval_core.specs.Members.{Span, at_point}
use Rattle.cell_packing.specs.Boxed.{Boxed, unpacked_boxes, InBoxes}
use Rattle.cell_packing.specs.Packed.{ArePoints, firsts, Has}
use Rattle.cell_core.proofs.PackedGridPoints.{AllHave, grid_point_length}
use Rattle.cell_core.proofs.UnpackedLemmas.{firsts_at, are_points, length_at, in_unpacked_boxes}

pub has_grid_point : (grid_point : List ℤ) → Has (map at_point grid_point) grid_point
has_grid_point [] = tt
has_grid_point (p ∷ ps) = (omega (arith, ints), omega (arith, ints), has_grid_point ps)

grid_point_of_points : (y : List Span) (grid_point : List ℤ) → ArePoints y → Has y grid_point → firsts y ≡ grid_point
grid_point_of_points [] [] a h = refl
grid_point_of_points [] (p ∷ ps) a h = absurd h
grid_point_of_points (i ∷ is) [] a h = absurd h
grid_point_of_points (i ∷ is) (p ∷ ps) a h =
    let first : i.0 ≡ p = same i.0 i.1 p a.0 h.0 h.1 in
    let rest : firsts is ≡ ps = grid_point_of_points is ps a.1 h.2 in
    λ t. first t ∷ rest t
  where
    same : (b e p : ℤ) → b ≡ e → b ≤ℤ p → p ≤ℤ e → b ≡ p
    same b e p q l m = omega (arith, ints)

pub unpacked_grid_points : {P : Type 0} (order : P → P → Ordering) → IsTotalOrder order → Separates order → (k : ℕ) (r : List (Boxed P)) → AllHave k r → (l : P) (grid_point : List ℤ)
    → InBoxes (unpacked_boxes order k r) l grid_point ↔ InBoxes r l grid_point
unpacked_grid_points order o same k r h l grid_point = (
  λ w. let v = (in_unpacked_boxes order o same k r h (l, w.0)).0 w.1 in subst (InBoxes r l) (grid_point_of_points w.0 grid_point v.1.0 w.2) v.1.1,
  λ g. (
    map at_point grid_point,
    (in_unpacked_boxes order o same k r h (l, map at_point grid_point)).1 (length_at grid_point ∙ grid_point_length k r h l grid_point g, (are_points grid_point, subst (InBoxes r l) (sym (firsts_at grid_point)) g)),
    has_grid_point grid_point,
  ),
)

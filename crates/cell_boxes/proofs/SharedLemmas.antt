-- What left boxes have in common with right boxes of their keys.
use Rattle.std.proofs.Common.{◌≡◌, ℕ, ◌<◌, List, [], ◌∷◌, ◌++◌, length, get_or, map, ◌↔◌, inl, inr, arith, sym, ap, subst, refl, ◌∙◌, Ordering}
use Rattle.std.specs.declared.cmp.Ordering.TheVariants.{Equal}
use Rattle.std.specs.Cmp.{IsTotalOrder}
use Rattle.std.specs.List.{All}
use Rattle.std.proofs.lemmas.Cmp.{tied_itself}
use Rattle.cell_packing.specs.Covering.{Among}
use Rattle.cell_packing.proofs.AmongLemmas.{among_append}
use Rattle.cell_sweep.specs.PackedRows.{HasRow}
use Rattle.cell_boxes.specs.Common.{At, EndsBy, common, HaveCells}
use Rattle.cell_boxes.specs.Rows.{IsRow, PlainCellBox}
use Rattle.cell_boxes.specs.Meetings.{Met, IsMeeting, IsLabelled, IsShared}
use Rattle.cell_boxes.proofs.RowLemmas.{row_among, among_row, one_row, some_row, row_sides}
use Rattle.cell_boxes.proofs.GridPointLemmas.{at_common, common_length, common_ends, cells_from}

pub map_same : {X : Type 0} (xs : List X) → map (λ x. x) xs ≡ xs
map_same [] = refl
map_same (x ∷ xs) = ap (λ z. x ∷ z) (map_same xs)

-- one more meeting with the label of its left row
pub label_turn : {Q : Type 0} (labels : List Q) (done : List Met) (m : Met) (row : PlainCellBox Q) → IsRow labels m.0.0 row.0 → m.1 ≡ row.1 → (old new : List (PlainCellBox Q)) → new ≡ old ++ row ∷ []
    → ((z : PlainCellBox Q) → Among z old ↔ IsLabelled labels done z) → (z : PlainCellBox Q) → Among z new ↔ IsLabelled labels (done ++ m ∷ []) z
label_turn {Q = Q} labels done m row at sides old new made is z =
    let a = among_append z old (row ∷ []) in
    let b = λ (n : Met). among_append n done (m ∷ []) in
    subst (λ zs. Among z zs ↔ IsLabelled labels (done ++ m ∷ []) z) (sym made) (
      λ h. elim (a.0 h) [
        | inl w ↦ let v = (is z).0 w in (v.0, (b v.0).1 (inl v.1), v.2, v.3)
        | inr w ↦ elim w [
          | inl e ↦ (m, (b m).1 (inr (inl refl)), subst (λ (k : PlainCellBox Q). IsRow labels m.0.0 k.0) e at, sides ∙ ap (λ (k : PlainCellBox Q). k.1) e)
          | inr u ↦ absurd u
        ]
      ],
      λ h. elim ((b h.0).0 h.1) [
        | inl w ↦ a.1 (inl ((is z).1 (h.0, w, h.2, h.3)))
        | inr w ↦ elim w [
          | inl e ↦
              let f : row.0 ≡ z.0 = one_row labels m.0.0 row.0 z.0 at (subst (λ (n : Met). IsRow labels n.0.0 z.0) (sym e) h.2) in
              let g : row.1 ≡ z.1 = sym sides ∙ subst (λ (n : Met). n.1 ≡ z.1) (sym e) h.3 in
              a.1 (inr (inl (λ t. (f t, g t))))
          | inr u ↦ absurd u
        ]
      ],
    )

module _ {P : Type 0} (order : P → P → Ordering) (total : IsTotalOrder order) (separates : (a b : P) → order a b ≡ Equal → a ≡ b)
    (left right : List (PlainCellBox P)) (k : ℕ) (ls : All (λ x. length x.1 ≡ k) left) (rs : All (λ x. length x.1 ≡ k) right)
    (meetings : List Met) (is : (m : Met) → Among m meetings ↔ IsMeeting order left right m) where
  pub left_below : {Q : Type 0} (labels : List Q) → length labels ≡ length left → (m : Met) → Among m meetings → m.0.0 < length labels
  left_below labels e m h = let w = (is m).0 h in let l = w.2.0 in omega (arith, e)

  module _ {Q : Type 0} (labels : List Q) (parts : List (PlainCellBox Q)) (made : (z : PlainCellBox Q) → Among z parts ↔ IsLabelled labels meetings z) where
    pub shared_grid_points : (l : Q) (grid_point : List ℕ) → length grid_point ≡ k → HasRow parts l grid_point ↔ IsShared left labels right l grid_point
    shared_grid_points l grid_point f = (
      λ h.
          let w = (made (l, h.0)).0 h.1 in
          let m : Met = w.0 in
          let v = (is m).0 w.1 in
          let lx = row_sides k left ls m.0.0 v.0 v.2 in
          let ly = row_sides k right rs m.0.1 v.1 v.3 in
          let b = (at_common (v.0).1 v.1.1 grid_point (lx ∙ sym ly)).0 (subst (λ z. At z grid_point) (sym (v.5 ∙ w.3)) h.2) in
          let key : (v.0).0 ≡ v.1.0 = separates (v.0).0 v.1.0 v.4 in
          (m.0.0, v.0, v.2, w.2, b.0, (v.1.1, subst (λ z. Among (z, v.1.1) right) (sym key) (row_among right m.0.1 v.1 v.3), b.1)),
      λ h.
          let i : ℕ = h.0 in
          let x : PlainCellBox P = h.1 in
          let y : PlainCellBox P = (x.0, h.5.0) in
          let j = among_row right y h.5.1 in
          let lx = row_sides k left ls i x h.2 in
          let ly = row_sides k right rs j.0 y j.1 in
          let b : List (ℕ × ℕ) = common x.1 y.1 in
          let here : At b grid_point = (at_common x.1 y.1 grid_point (lx ∙ sym ly)).1 (h.4, h.5.2) in
          let cells : HaveCells b = cells_from b grid_point (f ∙ sym lx ∙ sym (common_length x.1 y.1 (lx ∙ sym ly))) here in
          let m : Met = ((i, j.0), b) in
          (b, (made (l, b)).1 (m, (is m).1 (x, y, h.2, j.1, tied_itself total x.0, refl, cells), h.3, refl), here),
    )

    pub shared_sides : All (λ (z : PlainCellBox Q). length z.1 ≡ k) parts
    shared_sides i d l =
        let z : PlainCellBox Q = get_or parts i d in
        let w = (made z).0 (row_among parts i z (some_row parts i d l)) in
        let v = (is w.0).0 w.1 in
        let lx = row_sides k left ls w.0.0.0 v.0 v.2 in
        let ly = row_sides k right rs w.0.0.1 v.1 v.3 in
        sym (ap length (v.5 ∙ w.3)) ∙ common_length (v.0).1 v.1.1 (lx ∙ sym ly) ∙ lx

    pub shared_ends : (z : PlainCellBox Q) → Among z parts → (x : PlainCellBox P) × Among x left × EndsBy x.1 z.1
    shared_ends z h =
        let w = (made z).0 h in
        let v = (is w.0).0 w.1 in
        (v.0, row_among left w.0.0.0 v.0 v.2, subst (EndsBy (v.0).1) (v.5 ∙ w.3) (common_ends (v.0).1 v.1.1))

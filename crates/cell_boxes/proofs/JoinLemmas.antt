-- Pairs of left and right boxes of one key, each with a label.
use Rattle.std.proofs.Common.{◌≡◌, ℕ, ◌<◌, List, [], ◌∷◌, ◌++◌, length, get_or, ◌↔◌, inl, inr, arith, sym, ap, subst, refl, ◌∙◌, Ordering}
use Rattle.std.specs.declared.cmp.Ordering.TheVariants.{Equal}
use Rattle.std.specs.Cmp.{IsTotalOrder}
use Rattle.std.specs.List.{All}
use Rattle.std.proofs.lemmas.Cmp.{tied_itself}
use Rattle.cell_packing.specs.Covering.{Among}
use Rattle.cell_packing.proofs.AmongLemmas.{among_append}
use Rattle.cell_sweep.specs.PackedRows.{HasRow}
use Rattle.cell_boxes.specs.Answers.{PlainKeyedCellBox, IsJoined}
use Rattle.cell_boxes.specs.Common.{At, EndsBy, common, HaveCells}
use Rattle.cell_boxes.specs.Keys.{ArePaired}
use Rattle.cell_boxes.specs.Meetings.{Met, IsMeeting, IsPair, IsPairLabelled}
use Rattle.cell_boxes.specs.Rows.{IsRow, PlainCellBox}
use Rattle.cell_boxes.proofs.GridPointLemmas.{at_common, common_length, common_ends, cells_from}
use Rattle.cell_boxes.proofs.RowLemmas.{row_among, one_row, some_row, row_sides}

-- one meeting more
pub pair_turn : {A B R : Type 0} (means : A → B → R) (lefts : List A) (rights : List B) (done : List Met) (m : Met) (row : PlainCellBox R) (a : A) (b : B) → IsRow lefts m.0.0 a → IsRow rights m.0.1 b → means a b ≡ row.0 → m.1 ≡ row.1
    → (old new : List (PlainCellBox R)) → new ≡ old ++ row ∷ []
    → ((z : PlainCellBox R) → Among z old ↔ IsPairLabelled means lefts rights done z) → (z : PlainCellBox R) → Among z new ↔ IsPairLabelled means lefts rights (done ++ m ∷ []) z
pair_turn {R = R} means lefts rights done m row a b at bt label sides old new made is z =
    let i = among_append z old (row ∷ []) in
    let j = λ (n : Met). among_append n done (m ∷ []) in
    subst (λ zs. Among z zs ↔ IsPairLabelled means lefts rights (done ++ m ∷ []) z) (sym made) (
      λ h. elim (i.0 h) [
        | inl w ↦ let v = (is z).0 w in (v.0, v.1, v.2, (j v.0).1 (inl v.3), v.4, v.5, v.6, v.7)
        | inr w ↦ elim w [
          | inl e ↦ (m, a, b, (j m).1 (inr (inl refl)), at, bt, label ∙ ap (λ (k : PlainCellBox R). k.0) e, sides ∙ ap (λ (k : PlainCellBox R). k.1) e)
          | inr u ↦ absurd u
        ]
      ],
      λ h. elim ((j h.0).0 h.3) [
        | inl w ↦ i.1 (inl ((is z).1 (h.0, h.1, h.2, w, h.4, h.5, h.6, h.7)))
        | inr w ↦ elim w [
          | inl e ↦
              let f : a ≡ h.1 = one_row lefts m.0.0 a h.1 at (subst (λ (n : Met). IsRow lefts n.0.0 h.1) (sym e) h.4) in
              let g : b ≡ h.2 = one_row rights m.0.1 b h.2 bt (subst (λ (n : Met). IsRow rights n.0.1 h.2) (sym e) h.5) in
              let k : row.0 ≡ z.0 = sym label ∙ (λ t. means (f t) (g t)) ∙ h.6 in
              let l : row.1 ≡ z.1 = sym sides ∙ subst (λ (n : Met). n.1 ≡ z.1) (sym e) h.7 in
              i.1 (inr (inl (λ t. (k t, l t))))
          | inr u ↦ absurd u
        ]
      ],
    )

module _ {P : Type 0} (order : P → P → Ordering) (total : IsTotalOrder order) (separates : (a b : P) → order a b ≡ Equal → a ≡ b)
    (left right : List (PlainCellBox P)) (k : ℕ) (ls : All (λ x. length x.1 ≡ k) left) (rs : All (λ x. length x.1 ≡ k) right)
    (meetings : List Met) (is : (m : Met) → Among m meetings ↔ IsMeeting order left right m) where
  pub left_below : {A : Type 0} (lefts : List A) → length lefts ≡ length left → (m : Met) → Among m meetings → m.0.0 < length lefts
  left_below lefts e m h = let w = (is m).0 h in let l = w.2.0 in omega (arith, e)

  pub right_below : {B : Type 0} (rights : List B) → length rights ≡ length right → (m : Met) → Among m meetings → m.0.1 < length rights
  right_below rights e m h = let w = (is m).0 h in let l = w.3.0 in omega (arith, e)

  module _ {A B R : Type 0} (means : A → B → R) (lefts : List A) (rights : List B) (parts : List (PlainCellBox R)) (made : (z : PlainCellBox R) → Among z parts ↔ IsPairLabelled means lefts rights meetings z) where
    pub pair_grid_points : (l : R) (grid_point : List ℕ) → length grid_point ≡ k → HasRow parts l grid_point ↔ IsPair means left lefts right rights l grid_point
    pair_grid_points l grid_point f = (
      λ h.
          let w = (made (l, h.0)).0 h.1 in
          let m : Met = w.0 in
          let v = (is m).0 w.3 in
          let lx = row_sides k left ls m.0.0 v.0 v.2 in
          let ly = row_sides k right rs m.0.1 v.1 v.3 in
          let b = (at_common (v.0).1 v.1.1 grid_point (lx ∙ sym ly)).0 (subst (λ z. At z grid_point) (sym (v.5 ∙ w.7)) h.2) in
          (m.0.0, m.0.1, v.0, v.1, w.1, w.2, v.2, v.3, w.4, w.5, separates (v.0).0 v.1.0 v.4, b.0, b.1, w.6),
      λ h.
          let i : ℕ = h.0 in
          let j : ℕ = h.1 in
          let x : PlainCellBox P = h.2 in
          let y : PlainCellBox P = h.3 in
          let lx = row_sides k left ls i x h.6 in
          let ly = row_sides k right rs j y h.7 in
          let b : List (ℕ × ℕ) = common x.1 y.1 in
          let here : At b grid_point = (at_common x.1 y.1 grid_point (lx ∙ sym ly)).1 (h.11, h.12) in
          let cells : HaveCells b = cells_from b grid_point (f ∙ sym lx ∙ sym (common_length x.1 y.1 (lx ∙ sym ly))) here in
          let same : order x.0 y.0 ≡ Equal = subst (λ z. order x.0 z ≡ Equal) h.10 (tied_itself total x.0) in
          let m : Met = ((i, j), b) in
          (b, (made (l, b)).1 (m, h.4, h.5, (is m).1 (x, y, h.6, h.7, same, refl, cells), h.8, h.9, h.13, refl), here),
    )

    pub pair_sides : All (λ (z : PlainCellBox R). length z.1 ≡ k) parts
    pair_sides i d l =
        let z : PlainCellBox R = get_or parts i d in
        let w = (made z).0 (row_among parts i z (some_row parts i d l)) in
        let v = (is w.0).0 w.3 in
        let lx = row_sides k left ls w.0.0.0 v.0 v.2 in
        let ly = row_sides k right rs w.0.0.1 v.1 v.3 in
        sym (ap length (v.5 ∙ w.7)) ∙ common_length (v.0).1 v.1.1 (lx ∙ sym ly) ∙ lx

    pub pair_ends : (z : PlainCellBox R) → Among z parts → (x : PlainCellBox P) × Among x left × EndsBy x.1 z.1
    pair_ends z h =
        let w = (made z).0 h in
        let v = (is w.0).0 w.3 in
        (v.0, row_among left w.0.0.0 v.0 v.2, subst (EndsBy (v.0).1) (v.5 ∙ w.7) (common_ends (v.0).1 v.1.1))

-- the same of rows that are paired with their keys
pub is_joined : {K A B R : Type 0} (means : A → B → R) (left : List (PlainKeyedCellBox K A)) (right : List (PlainKeyedCellBox K B)) (left_keys : List (PlainCellBox K)) (lefts : List A) (right_keys : List (PlainCellBox K)) (rights : List B)
    → ArePaired left left_keys lefts → ArePaired right right_keys rights → (l : R) (grid_point : List ℕ) → IsPair means left_keys lefts right_keys rights l grid_point ↔ IsJoined means left right l grid_point
is_joined {K = K} {A = A} {B = B} means left right left_keys lefts right_keys rights p q l grid_point = (
  λ h.
      let x : PlainCellBox K = h.2 in
      let y : PlainCellBox K = h.3 in
      (x.0, h.4, h.5, (x.1, p.from h.0 x h.4 h.6 h.8, h.11), (y.1, subst (λ k. Among (k, h.5, y.1) right) (sym h.10) (q.from h.1 y h.5 h.7 h.9), h.12), h.13),
  λ h.
      let i = p.to (h.0, h.1, h.3.0) h.3.1 in
      let j = q.to (h.0, h.2, h.4.0) h.4.1 in
      (i.0, j.0, (h.0, h.3.0), (h.0, h.4.0), h.1, h.2, i.1, j.1, i.2, j.2, refl, h.3.2, h.4.2, h.5),
)

-- Left boxes less the right boxes of their keys.
use Rattle.std.proofs.Common.{◌≡◌, ℕ, zero, suc, ◌+◌, ◌<◌, ◌≤◌, List, [], ◌∷◌, ◌++◌, drop, length, get_or, map, ◌↔◌, inl, inr, arith, sym, ap, subst, refl, ◌∙◌, Ordering}
use Rattle.std.specs.declared.cmp.Ordering.TheVariants.{Equal}
use Rattle.std.specs.Cmp.{IsTotalOrder}
use Rattle.std.specs.List.{All}
use Rattle.std.proofs.lemmas.Bool.{cases_lt}
use Rattle.std.proofs.lemmas.Cmp.{tied_itself}
use Rattle.std.proofs.lemmas.List.Elements.{All-append, All-map, All-same}
use Rattle.cell_packing.specs.Covering.{Among}
use Rattle.cell_packing.proofs.AmongLemmas.{among_append, among_map}
use Rattle.cell_sweep.specs.PackedRows.{HasRow}
use Rattle.cell_sweep.specs.Rows.{sides_of}
use Rattle.cell_sweep.specs.declared.inward.IndexBox.{IndexBox}
use Rattle.cell_boxes.specs.Common.{At, EndsBy, first_of, common, HaveCells}
use Rattle.cell_boxes.specs.Rows.{IsRow, PlainCellBox}
use Rattle.cell_boxes.specs.Meetings.{Met, IsMeeting, StandByLeft}
use Rattle.cell_boxes.specs.Outside.{HasBox, IsClear}
use Rattle.cell_boxes.proofs.RowLemmas.{row_among, among_row, one_row, some_row, row_sides}
use Rattle.cell_boxes.proofs.GridPointLemmas.{at_common, common_length, cells_from}

-- the rows from one on are that one and the later ones
pub drop_row : {X : Type 0} (xs : List X) (i : ℕ) (x : X) → IsRow xs i x → drop i xs ≡ x ∷ drop (i + 1) xs
drop_row xs i x h = let q : suc i ≡ i + 1 = omega arith in subst (λ n. drop i xs ≡ x ∷ drop n xs) q (more xs i x h)
  where
    more : {X : Type 0} (xs : List X) (i : ℕ) (x : X) → IsRow xs i x → drop i xs ≡ x ∷ drop (suc i) xs
    more [] i x h = absurd (let l = h.0 in omega arith)
    more (y ∷ ys) zero x h = ap (λ z. z ∷ ys) h.1
    more (y ∷ ys) (suc i) x h = more ys i x (let l = h.0 in omega arith, h.1)

-- the holes before `first` are in left rows before this one, and the others are not
pub record IsFrom (holes : List Met) (row first : ℕ) : Type 0 where
  pub within : first ≤ length holes
  pub passed : (q : ℕ) (m : Met) → IsRow holes q m → q < first → m.0.0 < row
  pub others : (q : ℕ) (m : Met) → IsRow holes q m → first ≤ q → row ≤ m.0.0

pub from_first : (holes : List Met) → IsFrom holes 0 0
from_first holes = record {
  within = omega arith;
  passed = λ q m h l. absurd (omega arith);
  others = λ q m h l. omega arith;
}

module _ {P : Type 0} (order : P → P → Ordering) (total : IsTotalOrder order) (separates : (a b : P) → order a b ≡ Equal → a ≡ b)
    (left right : List (PlainCellBox P)) (k : ℕ) (ls : All (λ x. length x.1 ≡ k) left) (rs : All (λ x. length x.1 ≡ k) right)
    (holes : List Met) (is : (m : Met) → Among m holes ↔ IsMeeting order left right m) (stand : StandByLeft holes) where
  module _ (row first end : ℕ) (now : IsFrom holes row first) (from : first ≤ end) (within : end ≤ length holes)
      (same : (q : ℕ) (m : Met) → IsRow holes q m → first ≤ q → q < end → m.0.0 ≡ row) (other : (m : Met) → IsRow holes end m → m.0.0 ≡ row → ⊥) where
    pub from_more : IsFrom holes (row + 1) end
    from_more = record {
      within = within;
      passed = λ q m h l. elim (cases_lt q first) [
        | inl w ↦ let a = now.passed q m h w in omega arith
        | inr w ↦ let a = same q m h w l in omega arith
      ];
      others = λ q m h l. after q m h l;
    }
      where
        after : (q : ℕ) (m : Met) → IsRow holes q m → end ≤ q → row + 1 ≤ m.0.0
        after q m h l =
            let below : end < length holes = let a = h.0 in omega arith in
            let n : Met = get_or holes end m in
            let r : IsRow holes end n = some_row holes end m below in
            let a = now.others end n r from in
            let b : n.0.0 ≡ row → ⊥ = other n r in
            let c : row < n.0.0 = elim (cases_lt row n.0.0) [ inl w ↦ w | inr w ↦ absurd (b (omega arith)) ] in
            elim (stand end q n m l r h) [ inl w ↦ omega arith | inr w ↦ let e = w.0 in omega arith ]

    module _ (x : PlainCellBox P) (at : IsRow left row x) where
      -- a hole of the row is the box that it has in common with a right row
      pub hole_sides : (q : ℕ) (m : Met) → IsRow holes q m → first ≤ q → q < end → length m.1 ≡ length x.1
      hole_sides q m h a b =
          let w = (is m).0 (row_among holes q m h) in
          let e = same q m h a b in
          let s : w.0 ≡ x = one_row left row w.0 x (subst (λ i. IsRow left i w.0) e w.2) at in
          let f = row_sides k left ls row x at in
          let g = row_sides k right rs m.0.1 w.1 w.3 in
          let c : common x.1 w.1.1 ≡ m.1 = subst (λ (z : PlainCellBox P). common z.1 w.1.1 ≡ m.1) s w.5 in
          sym (ap length c) ∙ common_length x.1 w.1.1 (f ∙ sym g)

      pub hole_order : (q r : ℕ) (m n : Met) → IsRow holes q m → IsRow holes r n → first ≤ q → q ≤ r → r < end → (first_of m.1).0 ≤ (first_of n.1).0
      hole_order q r m n h g a b c =
          let e = same q m h a (omega arith) in
          let f = same r n g (omega arith) c in
          elim (stand q r m n b h g) [ inl w ↦ omega arith | inr w ↦ w.1 ]

      -- outside the holes of the row no right row of its key has the place
      clear_is : (grid_point : List ℕ) → length grid_point ≡ k → At x.1 grid_point → IsClear holes first end grid_point ↔ (HasRow right x.0 grid_point → ⊥)
      clear_is grid_point f g = (
        λ c h.
            let y : PlainCellBox P = (x.0, h.0) in
            let j = among_row right y h.1 in
            let lx = row_sides k left ls row x at in
            let ly = row_sides k right rs j.0 y j.1 in
            let b : List (ℕ × ℕ) = common x.1 h.0 in
            let here : At b grid_point = (at_common x.1 h.0 grid_point (lx ∙ sym ly)).1 (g, h.2) in
            let cells : HaveCells b = cells_from b grid_point (f ∙ sym lx ∙ sym (common_length x.1 h.0 (lx ∙ sym ly))) here in
            let m : Met = ((row, j.0), b) in
            let found = among_row holes m ((is m).1 (x, y, at, j.1, tied_itself total x.0, refl, cells)) in
            let q : ℕ = found.0 in
            let low : first ≤ q = elim (cases_lt q first) [ inl w ↦ absurd (let a = now.passed q m found.1 w in omega arith) | inr w ↦ w ] in
            let high : q < end = elim (cases_lt q end) [ inl w ↦ w | inr w ↦ absurd (let a = from_more.others q m found.1 w in omega arith) ] in
            c q m found.1 low high here,
        λ n q m h a b here.
            let w = (is m).0 (row_among holes q m h) in
            let e = same q m h a b in
            let s : w.0 ≡ x = one_row left row w.0 x (subst (λ i. IsRow left i w.0) e w.2) at in
            let lx = row_sides k left ls row x at in
            let ly = row_sides k right rs m.0.1 w.1 w.3 in
            let c : common x.1 w.1.1 ≡ m.1 = subst (λ (z : PlainCellBox P). common z.1 w.1.1 ≡ m.1) s w.5 in
            let key : x.0 ≡ w.1.0 = separates x.0 w.1.0 (subst (λ (z : PlainCellBox P). order z.0 w.1.0 ≡ Equal) s w.4) in
            let v = (at_common x.1 w.1.1 grid_point (lx ∙ sym ly)).0 (subst (λ z. At z grid_point) (sym c) here) in
            n (w.1.1, subst (λ z. Among (z, w.1.1) right) (sym key) (row_among right m.0.1 w.1 w.3), v.1),
      )

      module _ {Q : Type 0} (labels : List Q) (l0 : Q) (named : IsRow labels row l0) (parts : List IndexBox) (old new : List (PlainCellBox Q))
          (made : new ≡ old ++ map (λ (z : IndexBox). (l0, z.sides.items)) parts)
          (grid_points : (grid_point : List ℕ) → length grid_point ≡ length x.1 → HasBox (sides_of parts) grid_point ↔ At x.1 grid_point × IsClear holes first end grid_point) where
        -- what is there of the rows before the n-th
        abbrev Done : ℕ → Q → List ℕ → Type 0
        Done n l grid_point = (i : ℕ) × (i < n) × (z : PlainCellBox P) × IsRow left i z × IsRow labels i l × At z.1 grid_point × (HasRow right z.0 grid_point → ⊥)

        in_parts : (l : Q) (grid_point : List ℕ) → HasRow (map (λ (z : IndexBox). (l0, z.sides.items)) parts) l grid_point ↔ (l0 ≡ l) × HasBox (sides_of parts) grid_point
        in_parts l grid_point = (
          λ h.
              let w = (among_map (λ (z : IndexBox). (l0, z.sides.items)) (l, h.0) parts).0 h.1 in
              let b : List (ℕ × ℕ) = (w.0).sides.items in
              let e : b ≡ h.0 = ap (λ (z : PlainCellBox Q). z.1) w.2 in
              (ap (λ (z : PlainCellBox Q). z.0) w.2, (b, (among_map (λ (z : IndexBox). z.sides.items) b parts).1 (w.0, w.1, refl), subst (λ z. At z grid_point) (sym e) h.2)),
          λ h.
              let w = (among_map (λ (z : IndexBox). z.sides.items) h.1.0 parts).0 h.1.1 in
              (h.1.0, (among_map (λ (z : IndexBox). (l0, z.sides.items)) (l, h.1.0) parts).1 (w.0, w.1, λ t. (h.0 t, w.2 t)), h.1.2),
        )

        pub rest_turn : ((l : Q) (grid_point : List ℕ) → length grid_point ≡ k → HasRow old l grid_point ↔ Done row l grid_point) → (l : Q) (grid_point : List ℕ) → length grid_point ≡ k → HasRow new l grid_point ↔ Done (row + 1) l grid_point
        rest_turn before l grid_point f =
            let b = before l grid_point f in
            let p = in_parts l grid_point in
            let lx = row_sides k left ls row x at in
            let q = grid_points grid_point (f ∙ sym lx) in
            subst (λ zs. HasRow zs l grid_point ↔ Done (row + 1) l grid_point) (sym made) (
              λ h. elim ((among_append (l, h.0) old (map (λ (z : IndexBox). (l0, z.sides.items)) parts)).0 h.1) [
                | inl w ↦ let v = b.0 (h.0, w, h.2) in let u = v.1 in (v.0, omega arith, v.2, v.3, v.4, v.5, v.6)
                | inr w ↦
                    let v = p.0 (h.0, w, h.2) in
                    let u = q.0 v.1 in
                    (row, omega arith, x, at, subst (IsRow labels row) v.0 named, u.0, (clear_is grid_point f u.0).0 u.1)
              ],
              λ h. elim (cases_lt h.0 row) [
                | inl w ↦
                    let v = b.1 (h.0, w, h.2, h.3, h.4, h.5, h.6) in
                    (v.0, (among_append (l, v.0) old (map (λ (z : IndexBox). (l0, z.sides.items)) parts)).1 (inl v.1), v.2)
                | inr w ↦
                    let u = h.1 in
                    let e : h.0 ≡ row = omega arith in
                    let s : h.2 ≡ x = one_row left row h.2 x (subst (λ i. IsRow left i h.2) e h.3) at in
                    let n : l0 ≡ l = one_row labels row l0 l named (subst (λ i. IsRow labels i l) e h.4) in
                    let here : At x.1 grid_point = subst (λ (z : PlainCellBox P). At z.1 grid_point) s h.5 in
                    let not : HasRow right x.0 grid_point → ⊥ = subst (λ (z : PlainCellBox P). HasRow right z.0 grid_point → ⊥) s h.6 in
                    let v = p.1 (n, q.1 (here, (clear_is grid_point f here).1 not)) in
                    (v.0, (among_append (l, v.0) old (map (λ (z : IndexBox). (l0, z.sides.items)) parts)).1 (inr v.1), v.2)
              ],
            )

        pub rest_sides : All (λ (z : PlainCellBox Q). length z.1 ≡ k) old → All (λ (z : IndexBox). length z.sides.items ≡ length x.1) parts → All (λ (z : PlainCellBox Q). length z.1 ≡ k) new
        rest_sides a b =
            let lx = row_sides k left ls row x at in
            All-same (λ (z : PlainCellBox Q). length z.1 ≡ k) new (old ++ map (λ (z : IndexBox). (l0, z.sides.items)) parts) made
            (All-append (λ (z : PlainCellBox Q). length z.1 ≡ k) old (map (λ (z : IndexBox). (l0, z.sides.items)) parts) a
            (All-map (λ (z : PlainCellBox Q). length z.1 ≡ k) (λ (z : IndexBox). (l0, z.sides.items)) parts (subst (λ n. All (λ (z : IndexBox). length z.sides.items ≡ n) parts) lx b)))

        pub rest_ends : ((z : PlainCellBox Q) → Among z old → (w : PlainCellBox P) × Among w left × EndsBy w.1 z.1) → ((z : List (ℕ × ℕ)) → Among z (sides_of parts) → EndsBy x.1 z) → (z : PlainCellBox Q) → Among z new → (w : PlainCellBox P) × Among w left × EndsBy w.1 z.1
        rest_ends a b z h = elim ((among_append z old (map (λ (p : IndexBox). (l0, p.sides.items)) parts)).0 (subst (Among z) made h)) [
          | inl w ↦ a z w
          | inr w ↦
              let v = (among_map (λ (p : IndexBox). (l0, p.sides.items)) z parts).0 w in
              let y : List (ℕ × ℕ) = (v.0).sides.items in
              let e : y ≡ z.1 = ap (λ (k : PlainCellBox Q). k.1) v.2 in
              (x, row_among left row x at, subst (EndsBy x.1) e (b y ((among_map (λ (p : IndexBox). p.sides.items) y parts).1 (v.0, v.1, refl))))
        ]

-- Rows of one key that have no place in common.
use Rattle.std.proofs.Common.{◌≡◌, ℕ, ◌+◌, ◌-◌, ◌<◌, ◌≤◌, List, [], ◌∷◌, Bool, true, false, length, ◌↔◌, inl, inr, arith, sym, ap, subst, refl, ◌∙◌, Ordering}
use Rattle.std.specs.declared.cmp.Ordering.TheVariants.{Equal}
use Rattle.std.specs.Cmp.{IsTotalOrder}
use Rattle.std.specs.List.{All, list_all}
use Rattle.std.proofs.lemmas.Bool.{cases_lt, cases_Bool, true≢false, and_parts, and_from}
use Rattle.std.proofs.lemmas.Cmp.{tied_back, alike_right}
use Rattle.base_core.proofs.OrderingLemmas.{tied-not_Less}
use Rattle.cell_packing.specs.Covering.{Among}
use Rattle.cell_packing.specs.Live.{span_has, has_grid_point}
use Rattle.cell_boxes.specs.Apartness.{AreApart, Follows, AllFollow, AreOwn}
use Rattle.cell_boxes.specs.Common.{At, first_of, common, has_cell, HaveCells}
use Rattle.cell_boxes.specs.Meetings.{Met, IsMeeting}
use Rattle.cell_boxes.specs.Rows.{IsRow, Ascend, PlainCellBox}
use Rattle.cell_boxes.proofs.GridPointLemmas.{at_common, common_length, cells_from, cell_parts, grid_point_of_cells}
use Rattle.cell_sweep.proofs.Sweeping.{cell_has, span_from}
use Rattle.cell_boxes.proofs.RowLemmas.{row_among, among_row, one_row, row_all, row_sides}

module _ {P : Type 0} (order : P → P → Ordering) (total : IsTotalOrder order) (rows : List (PlainCellBox P)) (up : Ascend order rows) where
  first_cell : (y : List (ℕ × ℕ)) → HaveCells y → 0 < length y → (first_of y).0 < (first_of y).1
  first_cell [] h l = absurd (omega arith)
  first_cell (x ∷ xs) h l = cell_parts x (and_parts (has_cell x) (list_all has_cell xs) h).0

  module _ (some : All (λ x. 0 < length x.1) rows) (cells : All (λ x. HaveCells x.1) rows) where
    -- one row more that follows the one before it
    pub follow_turn : (n : ℕ) (u v : PlainCellBox P) → 0 < n → IsRow rows (n - 1) u → IsRow rows n v → Follows order u v → AllFollow order n rows → AllFollow order (n + 1) rows
    follow_turn n u v s ru rv f old i j x y l m a b e = elim (cases_lt j n) [
      | inl w ↦ old i j x y l w a b e
      | inr w ↦
          let q : j ≡ n = omega arith in
          let same : y ≡ v = one_row rows n y v (subst (λ z. IsRow rows z y) q b) rv in
          let ev : order x.0 v.0 ≡ Equal = subst (λ (z : PlainCellBox P). order x.0 z.0 ≡ Equal) same e in
          subst (λ (z : PlainCellBox P). (first_of x.1).1 ≤ (first_of z.1).0) (sym same) (elim (cases_lt i (n - 1)) [
            | inl k ↦
                let xu : order x.0 u.0 ≡ Equal = elim (up i (n - 1) x u (omega arith) a ru) [
                  | inl p ↦ elim (up (n - 1) n u v (omega arith) ru rv) [
                    | inl r ↦ absurd (tied-not_Less order x.0 v.0 ev (total.trans x.0 u.0 v.0 p r))
                    | inr r ↦ absurd (tied-not_Less order x.0 v.0 ev (sym (alike_right total u.0 v.0 x.0 r.0) ∙ p))
                  ]
                  | inr p ↦ p.0
                ] in
                let uv : order u.0 v.0 ≡ Equal = sym (total.congr x.0 u.0 v.0 xu) ∙ ev in
                let c = old i (n - 1) x u k (omega arith) a ru xu in
                let d = first_cell u.1 (row_all (λ (z : PlainCellBox P). HaveCells z.1) rows cells (n - 1) u ru) (row_all (λ (z : PlainCellBox P). 0 < length z.1) rows some (n - 1) u ru) in
                let g = f uv in
                omega arith
            | inr k ↦
                let q' : i ≡ n - 1 = omega arith in
                let same' : x ≡ u = one_row rows (n - 1) x u (subst (λ z. IsRow rows z x) q' a) ru in
                subst (λ (z : PlainCellBox P). (first_of z.1).1 ≤ (first_of v.1).0) (sym same') (f (subst (λ (z : PlainCellBox P). order z.0 v.0 ≡ Equal) same' ev))
          ])
    ]

  -- ---- on one side

  module _ (one : All (λ x. length x.1 ≡ 1) rows) where
    follows_apart : (x y : List (ℕ × ℕ)) → (first_of x).1 ≤ (first_of y).0 → (grid_point : List ℕ) → length grid_point ≡ 1 → At x grid_point → At y grid_point → ⊥
    follows_apart x y l [] e a b = absurd (omega arith)
    follows_apart [] y l (p ∷ ps) e a b = absurd (true≢false (sym a))
    follows_apart (s ∷ x) [] l (p ∷ ps) e a b = absurd (true≢false (sym b))
    follows_apart (s ∷ x) (t ∷ y) l (p ∷ ps) e a b =
        let u = (cell_has s p (and_parts (span_has s p) (has_grid_point x ps) a).0).1 in
        let v = (cell_has t p (and_parts (span_has t p) (has_grid_point y ps) b).0).0 in
        omega arith

    at_one : (x : List (ℕ × ℕ)) (p : ℕ) → length x ≡ 1 → (first_of x).0 ≤ p → p < (first_of x).1 → At x (p ∷ [])
    at_one [] p e a b = absurd (omega arith)
    at_one (s ∷ x) p e a b = and_from (span_has s p) (has_grid_point x []) (span_from s p a b) refl

    pub all_apart : (b : Bool) → (b ≡ true → AllFollow order (length rows) rows)
        → (b ≡ false → (i : ℕ) × (x : PlainCellBox P) × (y : PlainCellBox P) × IsRow rows i x × IsRow rows (i + 1) y × (Follows order x y → ⊥))
        → All (λ x. HaveCells x.1) rows → (b ≡ true) ↔ AreApart order 1 rows
    all_apart b sure unsure cells = (
      λ h i j x y l a c e grid_point f g k. let r = c.0 in follows_apart x.1 y.1 (sure h i j x y l r a c e) grid_point f g k,
      λ apart. elim (cases_Bool b) [
        | inl t ↦ t
        | inr t ↦
            let w = unsure t in
            let i : ℕ = w.0 in
            let x : PlainCellBox P = w.1 in
            let y : PlainCellBox P = w.2 in
            elim (up i (i + 1) x y (omega arith) w.3 w.4) [
              | inl l ↦ absurd (w.5 (λ e. absurd (tied-not_Less order x.0 y.0 e l)))
              | inr e ↦ elim (cases_lt (first_of y.1).0 (first_of x.1).1) [
                | inl l ↦
                    let lx = row_sides 1 rows one i x w.3 in
                    let ly = row_sides 1 rows one (i + 1) y w.4 in
                    let c = first_cell y.1 (row_all (λ (z : PlainCellBox P). HaveCells z.1) rows cells (i + 1) y w.4) (omega (arith, ly)) in
                    absurd (apart i (i + 1) x y (omega arith) w.3 w.4 e.0 ((first_of y.1).0 ∷ []) refl (at_one x.1 (first_of y.1).0 lx e.1 l) (at_one y.1 (first_of y.1).0 ly (omega arith) c))
                | inr l ↦ absurd (w.5 (λ q. l))
              ]
            ]
      ],
    )

  -- ---- on any number of sides

  module _ (k : ℕ) (sides : All (λ x. length x.1 ≡ k) rows) (meetings : List Met) (is : (m : Met) → Among m meetings ↔ IsMeeting order rows rows m) where
    pub own_apart : (b : Bool) → (b ≡ true → AreOwn meetings) → (b ≡ false → (a : ℕ) × (m : Met) × IsRow meetings a m × (m.0.0 ≡ m.0.1 → ⊥)) → (b ≡ true) ↔ AreApart order k rows
    own_apart b sure unsure = (
      λ h i j x y l a c e grid_point f g n.
          let lx = row_sides k rows sides i x a in
          let ly = row_sides k rows sides j y c in
          let z : List (ℕ × ℕ) = common x.1 y.1 in
          let here : At z grid_point = (at_common x.1 y.1 grid_point (lx ∙ sym ly)).1 (g, n) in
          let cells : HaveCells z = cells_from z grid_point (f ∙ sym lx ∙ sym (common_length x.1 y.1 (lx ∙ sym ly))) here in
          let m : Met = ((i, j), z) in
          let q = among_row meetings m ((is m).1 (x, y, a, c, e, refl, cells)) in
          let same : i ≡ j = sure h q.0 m q.1 in
          omega arith,
      λ apart. elim (cases_Bool b) [
        | inl t ↦ t
        | inr t ↦
            let w = unsure t in
            let m : Met = w.1 in
            let v = (is m).0 (row_among meetings w.0 m w.2) in
            let x : PlainCellBox P = v.0 in
            let y : PlainCellBox P = v.1 in
            let lx = row_sides k rows sides m.0.0 x v.2 in
            let ly = row_sides k rows sides m.0.1 y v.3 in
            let p = grid_point_of_cells m.1 v.6 in
            let both = (at_common x.1 y.1 p.0 (lx ∙ sym ly)).0 (subst (λ z. At z p.0) (sym v.5) p.2) in
            let len : length p.0 ≡ k = p.1 ∙ sym (ap length v.5) ∙ common_length x.1 y.1 (lx ∙ sym ly) ∙ lx in
            elim (cases_lt m.0.0 m.0.1) [
              | inl l ↦ absurd (apart m.0.0 m.0.1 x y l v.2 v.3 v.4 p.0 len both.0 both.1)
              | inr l ↦ elim (cases_lt m.0.1 m.0.0) [
                | inl r ↦ absurd (apart m.0.1 m.0.0 y x r v.3 v.2 (tied_back total x.0 y.0 v.4) p.0 len both.1 both.0)
                | inr r ↦ absurd (w.3 (omega arith))
              ]
            ]
      ],
    )

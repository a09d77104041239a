-- Rows of one key that meet, from the pairs of which one begins within the other.
use Rattle.std.proofs.Common.{◌≡◌, ℕ, zero, suc, ◌+◌, ◌<◌, ◌≤◌, Bool, true, false, cond, flat_map, List, [], ◌∷◌, ◌++◌, length, get_or, ◌↔◌, ◌⊎◌, inl, inr, arith, sym, ap, subst, refl, ◌∙◌, Ordering}
use Rattle.std.specs.declared.cmp.Ordering.TheVariants.{Less, Equal}
use Rattle.std.specs.Cmp.{IsTotalOrder}
use Rattle.std.specs.Ordering.{nat_cmp, ordering_then, is_lt}
use Rattle.std.specs.List.{All, filter, list_all}
use Rattle.std.specs.List.Sorted.{IsSortedBy}
use Rattle.std.proofs.lemmas.Bool.{cases_lt, true≢false}
use Rattle.std.proofs.lemmas.Bool.Decides.{nat_tests}
use Rattle.std.proofs.lemmas.Cmp.{alike_right}
use Rattle.std.proofs.lemmas.List.{get_or_past, length-map, get_or_default}
use Rattle.std.proofs.lemmas.List.Sorted.{sorted_far, ranks_by}
use Rattle.cell_packing.specs.Covering.{Among}
use Rattle.cell_packing.specs.Live.{box}
use Rattle.cell_packing.proofs.AmongLemmas.{among_append, among_filter, among_flat}
use Rattle.cell_sweep.specs.Rows.{pair_cmp, pair_total}
use Rattle.cell_boxes.specs.Common.{At, first_of, common, has_cell, HaveCells}
use Rattle.cell_boxes.specs.Rows.{IsRow, IsBefore, Ascend, PlainCellBox}
use Rattle.cell_boxes.specs.Meetings.{Met, IsMeeting, IsLater, AreBehind, meets, met, boxes_in, StandByLeft}
use Rattle.cell_boxes.specs.Sides.{AreCandidates}
use Rattle.cell_boxes.proofs.RowLemmas.{row_among, among_row, one_row, some_row, map_row, row_sides}
use Rattle.cell_boxes.proofs.GridPointLemmas.{first_common, at_common, cells_from, common_length}

-- each stands so to those after it
abbrev pub Stand : {X : Type 0} → (X → X → Type 0) → List X → Type 0
Stand R [] = Unit {0}
Stand R (x ∷ xs) = ((y : _) → Among y xs → R x y) × Stand R xs

pub stand_rows : {X : Type 0} (R : X → X → Type 0) → ((x : X) → R x x) → (xs : List X) → Stand R xs → (i j : ℕ) (x y : X) → i ≤ j → IsRow xs i x → IsRow xs j y → R x y
stand_rows R same [] s i j x y h a b = absurd (let l = a.0 in omega arith)
stand_rows R same (z ∷ zs) s zero zero x y h a b = subst (R x) (sym a.1 ∙ b.1) (same x)
stand_rows R same (z ∷ zs) s zero (suc j) x y h a b = let l = b.0 in subst (λ w. R w y) a.1 (s.0 y (row_among zs j y (omega arith, b.1)))
stand_rows R same (z ∷ zs) s (suc i) zero x y h a b = absurd (omega arith)
stand_rows R same (z ∷ zs) s (suc i) (suc j) x y h a b = let l = a.0 in let m = b.0 in stand_rows R same zs s.1 i j x y (omega arith) (omega arith, a.1) (omega arith, b.1)

stand_from : {X : Type 0} (R : X → X → Type 0) (xs : List X) → ((i j : ℕ) (x y : X) → i ≤ j → IsRow xs i x → IsRow xs j y → R x y) → Stand R xs
stand_from R [] h = tt
stand_from R (x ∷ xs) h = (
  λ y m. let w = among_row xs y m in let l = w.1.0 in h 0 (suc w.0) x y (omega arith) (omega arith, refl) (omega arith, w.1.1),
  stand_from R xs (λ i j y z k a b. let l = a.0 in let m = b.0 in h (suc i) (suc j) y z (omega arith) (omega arith, a.1) (omega arith, b.1)),
)

stand_weaker : {X : Type 0} (R S : X → X → Type 0) (xs : List X) → ((x y : X) → Among x xs → Among y xs → R x y → S x y) → Stand R xs → Stand S xs
stand_weaker R S [] e h = tt
stand_weaker R S (x ∷ xs) e h = (λ y m. e x y (inl refl) (inr m) (h.0 y m), stand_weaker R S xs (λ y z a b. e y z (inr a) (inr b)) h.1)

-- pairs by the first number, and then by the second
abbrev PairsStand : ℕ × ℕ → ℕ × ℕ → Type 0
PairsStand p q = (p.0 < q.0) ⊎ ((p.0 ≡ q.0) × (p.1 ≤ q.1))

pairs_stand : (pairs : List (ℕ × ℕ)) → IsSortedBy (λ x y. is_lt (pair_cmp x y)) pairs → Stand PairsStand pairs
pairs_stand pairs s = stand_from PairsStand pairs (λ i j x y h a b.
    let f = sorted_far (λ x y. is_lt (pair_cmp x y)) (ranks_by pair_total (λ x. x)) pairs s i j x h b.0 in
    in_order x y (subst (λ z. is_lt (pair_cmp z x) ≡ false) (get_or_default pairs j x y b.0 ∙ b.1) (subst (λ z. is_lt (pair_cmp (get_or pairs j x) z) ≡ false) a.1 f)))
  where
    less_first : (a b : ℕ) (r : Ordering) → b < a → true ≡ is_lt (ordering_then (nat_cmp b a) r)
    less_first a b r l = grind (arith, nat_tests)

    less_second : (a b c d : ℕ) → b ≡ a → d < c → true ≡ is_lt (ordering_then (nat_cmp b a) (nat_cmp d c))
    less_second a b c d e l = grind (arith, nat_tests)

    in_order : (x y : ℕ × ℕ) → is_lt (pair_cmp y x) ≡ false → PairsStand x y
    in_order x y e =
        elim (cases_lt y.0 x.0) [
          | inl l ↦ absurd (true≢false (less_first x.0 y.0 (nat_cmp y.1 x.1) l ∙ e))
          | inr l ↦ elim (cases_lt x.0 y.0) [
            | inl m ↦ inl m
            | inr m ↦ elim (cases_lt y.1 x.1) [
              | inl k ↦ absurd (true≢false (less_second x.0 y.0 x.1 y.1 (omega arith) k ∙ e))
              | inr k ↦ inr (omega arith, k)
            ]
          ]
        ]

-- ---- what meets of a pair

-- without a row a pair is held to meet
pub meets_no_left : {P : Type 0} (left right : List (PlainCellBox P)) (p : ℕ × ℕ) → length left ≤ p.0 → true ≡ meets (boxes_in left) (boxes_in right) p
meets_no_left left right p l =
    let n : length (boxes_in left) ≡ length left = length-map left (λ x. x.1) in
    let e : box (boxes_in left) p.0 ≡ [] = get_or_past (boxes_in left) p.0 [] (omega (arith, n)) in
    λ t. list_all has_cell (common (sym e t) (box (boxes_in right) p.1))

pub meets_no_right : {P : Type 0} (left right : List (PlainCellBox P)) (p : ℕ × ℕ) → length right ≤ p.1 → true ≡ meets (boxes_in left) (boxes_in right) p
meets_no_right left right p l =
    let n : length (boxes_in right) ≡ length right = length-map right (λ x. x.1) in
    let e : box (boxes_in right) p.1 ≡ [] = get_or_past (boxes_in right) p.1 [] (omega (arith, n)) in
    no_side (box (boxes_in left) p.0) ∙ (λ t. list_all has_cell (common (box (boxes_in left) p.0) (sym e t)))
  where
    no_side : (xs : List (ℕ × ℕ)) → true ≡ list_all has_cell (common xs [])
    no_side [] = refl
    no_side (x ∷ xs) = refl

met_is : (lefts rights : List (List (ℕ × ℕ))) (p : ℕ × ℕ) (m : Met) → Among m (met lefts rights p) → (p ≡ m.0) × (common (box lefts p.0) (box rights p.1) ≡ m.1) × HaveCells m.1
met_is lefts rights p m h = go (common (box lefts p.0) (box rights p.1)) (list_all has_cell (common (box lefts p.0) (box rights p.1))) refl h
  where
    go : (b : List (ℕ × ℕ)) (t : Bool) → list_all has_cell b ≡ t → Among m (cond t ((p, b) ∷ []) []) → (p ≡ m.0) × (b ≡ m.1) × HaveCells m.1
    go b true e h = elim h [
      | inl q ↦ let f : b ≡ m.1 = ap (λ (z : Met). z.1) q in (ap (λ (z : Met). z.0) q, f, subst HaveCells f e)
      | inr w ↦ absurd w
    ]
    go b false e h = absurd h

met_from : (lefts rights : List (List (ℕ × ℕ))) (m : Met) → common (box lefts m.0.0) (box rights m.0.1) ≡ m.1 → HaveCells m.1 → Among m (met lefts rights m.0)
met_from lefts rights m e h = subst (λ t. Among m (cond t ((m.0, common (box lefts m.0.0) (box rights m.0.1)) ∷ []) [])) (sym (subst HaveCells (sym e) h)) (inl (λ t. (m.0, e t)))

stand_flat : (lefts rights : List (List (ℕ × ℕ))) (pairs : List (ℕ × ℕ)) → Stand PairsStand pairs → Stand (λ (m n : Met). PairsStand m.0 n.0) (flat_map (met lefts rights) pairs)
stand_flat lefts rights [] h = tt
stand_flat lefts rights (p ∷ ps) h = go (met lefts rights p) (λ m. met_is lefts rights p m) one (stand_flat lefts rights ps h.1)
  where
    one : length (met lefts rights p) ≤ 1
    one = at_most (common (box lefts p.0) (box rights p.1)) (list_all has_cell (common (box lefts p.0) (box rights p.1)))
      where
        at_most : (b : List (ℕ × ℕ)) (t : Bool) → length {A = Met} (cond t ((p, b) ∷ []) []) ≤ 1
        at_most b true = omega arith
        at_most b false = omega arith

    go : (ms : List Met) → ((m : Met) → Among m ms → (p ≡ m.0) × (common (box lefts p.0) (box rights p.1) ≡ m.1) × HaveCells m.1) → length ms ≤ 1
        → Stand (λ (m n : Met). PairsStand m.0 n.0) (flat_map (met lefts rights) ps) → Stand (λ (m n : Met). PairsStand m.0 n.0) (ms ++ flat_map (met lefts rights) ps)
    go [] is few rest = rest
    go (m ∷ []) is few rest = (
      λ n k.
          let w = (among_flat (met lefts rights) n ps).0 k in
          let e = (met_is lefts rights w.0 n w.2).0 in
          subst (λ z. PairsStand z n.0) (is m (inl refl)).0 (subst (PairsStand p) e (h.0 w.0 w.1)),
      rest,
    )
    go (m ∷ n ∷ ms) is few rest = absurd (omega arith)

-- one more number of a range
pub push_turn : (old out new : List (ℕ × ℕ)) (n first j : ℕ) → first ≤ j → new ≡ out ++ (n, j) ∷ []
    → ((p : ℕ × ℕ) → Among p out ↔ Among p old ⊎ ((p.0 ≡ n) × (first ≤ p.1) × (p.1 < j)))
    → (p : ℕ × ℕ) → Among p new ↔ Among p old ⊎ ((p.0 ≡ n) × (first ≤ p.1) × (p.1 < j + 1))
push_turn old out new n first j f made is p =
    let a = among_append p out ((n, j) ∷ []) in
    let b = is p in
    subst (λ xs. Among p xs ↔ Among p old ⊎ ((p.0 ≡ n) × (first ≤ p.1) × (p.1 < j + 1))) (sym made) (
      λ h. elim (a.0 h) [
        | inl w ↦ elim (b.0 w) [ inl v ↦ inl v | inr v ↦ let l = v.2 in inr (v.0, v.1, omega arith) ]
        | inr w ↦ elim w [
          | inl e ↦
              let e0 : n ≡ p.0 = ap (λ (z : ℕ × ℕ). z.0) e in
              let e1 : j ≡ p.1 = ap (λ (z : ℕ × ℕ). z.1) e in
              inr (sym e0, omega arith, omega arith)
          | inr u ↦ absurd u
        ]
      ],
      λ h. elim h [
        | inl w ↦ a.1 (inl (b.1 (inl w)))
        | inr w ↦ elim (cases_lt p.1 j) [
          | inl l ↦ a.1 (inl (b.1 (inr (w.0, w.1, l))))
          | inr l ↦ let k = w.2 in let e : j ≡ p.1 = omega arith in a.1 (inr (inl (λ t. (sym w.0 t, e t))))
        ]
      ],
    )

-- what is behind a row is behind the next
pub behind_more : {P : Type 0} (order : P → P → Ordering) → IsTotalOrder order → (strict : Bool) (from rows : List (PlainCellBox P)) → Ascend order from → (i n : ℕ) (x y : PlainCellBox P) → IsRow from i x → IsRow from (i + 1) y
    → AreBehind order strict x rows n → AreBehind order strict y rows n
behind_more order total strict from rows up i n x y a b old j z h l =
    elim (up i (i + 1) x y (omega arith) a b) [
      | inl s ↦ inl (elim (old j z h l) [ inl w ↦ total.trans z.0 x.0 y.0 w s | inr w ↦ total.congr z.0 x.0 y.0 w.0 ∙ s ])
      | inr s ↦ elim (old j z h l) [
        | inl w ↦ inl (sym (alike_right total x.0 y.0 z.0 s.0) ∙ w)
        | inr w ↦ inr (total.congr z.0 x.0 y.0 w.0 ∙ s.0, rises strict (first_of x.1).0 (first_of y.1).0 (first_of z.1).0 s.1 w.1)
      ]
    ]
  where
    rises : (t : Bool) (c d n : ℕ) → c ≤ d → n < cond t (c + 1) c → n < cond t (d + 1) d
    rises true c d n k m = omega arith
    rises false c d n k m = omega arith

-- what is before a cell is before a later one
pub before_later : {P : Type 0} (order : P → P → Ordering) (key : P) (c d : ℕ) (x : PlainCellBox P) → c ≤ d → IsBefore order key c x → IsBefore order key d x
before_later order key c d x l h = elim h [ inl w ↦ inl w | inr w ↦ let k = w.1 in inr (w.0, omega arith) ]

-- one more row with those that begin within it
pub later_turn : {P : Type 0} (order : P → P → Ordering) (strict : Bool) (from rows : List (PlainCellBox P)) (i : ℕ) (x : PlainCellBox P) → IsRow from i x
    → (first end : ℕ) → end ≤ length rows
    → ((j : ℕ) (y : PlainCellBox P) → IsRow rows j y → (first ≤ j) × (j < end) ↔ (order y.0 x.0 ≡ Equal) × (cond strict ((first_of x.1).0 + 1) (first_of x.1).0 ≤ (first_of y.1).0) × ((first_of y.1).0 < (first_of x.1).1))
    → (old new : List (ℕ × ℕ)) → ((p : ℕ × ℕ) → Among p new ↔ Among p old ⊎ ((p.0 ≡ i) × (first ≤ p.1) × (p.1 < end)))
    → ((p : ℕ × ℕ) → Among p old ↔ (p.0 < i) × IsLater order strict from rows p)
    → (p : ℕ × ℕ) → Among p new ↔ (p.0 < i + 1) × IsLater order strict from rows p
later_turn {P = P} order strict from rows i x at first end within range old new made before p =
    let m = made p in
    let b = before p in (
      λ h. elim (m.0 h) [
        | inl w ↦ let v = b.0 w in let l = v.0 in (omega arith, v.1)
        | inr w ↦
            let l = w.2 in
            let e = w.0 in
            let below : p.1 < length rows = omega arith in
            let y : PlainCellBox P = get_or rows p.1 x in
            let r : IsRow rows p.1 y = some_row rows p.1 x below in
            let v = (range p.1 y r).0 (w.1, w.2) in
            (omega arith, (x, y, subst (λ n. IsRow from n x) (sym w.0) at, r, v.0, v.1, v.2))
      ],
      λ h. elim (cases_lt p.0 i) [
        | inl l ↦ m.1 (inl (b.1 (l, h.1)))
        | inr l ↦
            let k = h.0 in
            let e : p.0 ≡ i = omega arith in
            let w = h.1 in
            let same : w.0 ≡ x = one_row from i w.0 x (subst (λ n. IsRow from n w.0) e w.2) at in
            let v = subst (λ (z : PlainCellBox P). (order w.1.0 z.0 ≡ Equal) × (cond strict ((first_of z.1).0 + 1) (first_of z.1).0 ≤ (first_of w.1.1).0) × ((first_of w.1.1).0 < (first_of z.1).1)) same (w.4, w.5, w.6) in
            let q = (range p.1 w.1 w.3).1 v in
            m.1 (inr (e, q.0, q.1))
      ],
    )

module _ {P : Type 0} (order : P → P → Ordering) (total : IsTotalOrder order) (left right : List (PlainCellBox P)) where
  box_is : (rows : List (PlainCellBox P)) (i : ℕ) (x : PlainCellBox P) → IsRow rows i x → box (boxes_in rows) i ≡ x.1
  box_is rows i x h = let w = map_row (λ (z : PlainCellBox P). z.1) rows i x h in get_or_default (boxes_in rows) i [] x.1 w.0 ∙ w.1

  -- candidates without the pairs that do not meet
  pub kept_candidates : (pairs kept : List (ℕ × ℕ)) → kept ≡ filter (meets (boxes_in left) (boxes_in right)) pairs → AreCandidates order left right pairs → AreCandidates order left right kept
  kept_candidates pairs kept made is =
      let test = meets (boxes_in left) (boxes_in right) in
      subst (AreCandidates order left right) (sym made) record {
        keys = λ p h. is.keys p ((among_filter test p pairs).0 h).0;
        all = λ i j x y a b e c.
            let here : meets (boxes_in left) (boxes_in right) (i, j) ≡ true = subst HaveCells (λ t. common (sym (box_is left i x a) t) (sym (box_is right j y b) t)) c in
            (among_filter test (i, j) pairs).1 (is.all i j x y a b e c, here);
      }

  module _ (k : ℕ) (ls : All (λ x. length x.1 ≡ k) left) (rs : All (λ x. length x.1 ≡ k) right) where
    pub alike : (i j : ℕ) (x y : PlainCellBox P) → IsRow left i x → IsRow right j y → length x.1 ≡ length y.1
    alike i j x y a b = let e = row_sides k left ls i x a in let f = row_sides k right rs j y b in omega (arith, e, f)

    -- a place is in the box of a pair exactly where the boxes of both rows have it
    pub meeting_grid_points : (ms : List Met) → ((m : Met) → Among m ms ↔ IsMeeting order left right m) → (i j : ℕ) (x y : PlainCellBox P) (grid_point : List ℕ) → IsRow left i x → IsRow right j y → order x.0 y.0 ≡ Equal → length grid_point ≡ k
        → ((b : List (ℕ × ℕ)) × Among ((i, j), b) ms × At b grid_point) ↔ At x.1 grid_point × At y.1 grid_point
    meeting_grid_points ms is i j x y grid_point a c e f =
        let both = at_common x.1 y.1 grid_point (alike i j x y a c) in (
          λ h.
              let v = (is ((i, j), h.0)).0 h.1 in
              let s : v.0 ≡ x = one_row left i v.0 x v.2 a in
              let t : v.1 ≡ y = one_row right j v.1 y v.3 c in
              both.0 (subst (λ z. At z grid_point) (sym v.5 ∙ (λ n. common (s n).1 (t n).1)) h.2),
          λ h.
              let b : List (ℕ × ℕ) = common x.1 y.1 in
              let here : At b grid_point = both.1 h in
              let lx = row_sides k left ls i x a in
              let cells : HaveCells b = cells_from b grid_point (f ∙ sym lx ∙ sym (common_length x.1 y.1 (alike i j x y a c))) here in
              (b, (is ((i, j), b)).1 (x, y, a, c, e, refl, cells), here),
        )

    module _ (pairs : List (ℕ × ℕ)) (is : AreCandidates order left right pairs) where
      pub pairs_below : All (λ (p : ℕ × ℕ). (p.0 < length left) × (p.1 < length right)) pairs
      pairs_below i d h = let w = is.keys (get_or pairs i d) (row_among pairs i (get_or pairs i d) (some_row pairs i d h)) in (w.2.0, w.3.0)

      met_meets : (p : ℕ × ℕ) (m : Met) → Among p pairs → Among m (met (boxes_in left) (boxes_in right) p) → IsMeeting order left right m
      met_meets p m h g =
          let w = met_is (boxes_in left) (boxes_in right) p m g in
          let r = is.keys p h in
          let e : common r.0.1 r.1.1 ≡ m.1 = λ t. (ap (λ (z : List (ℕ × ℕ)). common z r.1.1) (sym (box_is left p.0 r.0 r.2)) ∙ ap (common (box (boxes_in left) p.0)) (sym (box_is right p.1 r.1 r.3)) ∙ w.1) t in
          (r.0, r.1, subst (λ q. IsRow left q.0 r.0) w.0 r.2, subst (λ q. IsRow right q.1 r.1) w.0 r.3, r.4, e, w.2)

      meets_pair : (m : Met) → IsMeeting order left right m → Among m.0 pairs
      meets_pair m h = is.all m.0.0 m.0.1 h.0 h.1 h.2 h.3 h.4 (subst HaveCells (sym h.5) h.6)

      pub all_meetings : (m : Met) → Among m (flat_map (met (boxes_in left) (boxes_in right)) pairs) ↔ IsMeeting order left right m
      all_meetings m =
          let a = among_flat (met (boxes_in left) (boxes_in right)) m pairs in (
            λ h. let w = a.0 h in met_meets w.0 m w.1 w.2,
            λ h. a.1 (
              m.0,
              meets_pair m h,
              met_from (boxes_in left) (boxes_in right) m
                  (ap (λ (z : List (ℕ × ℕ)). common z (box (boxes_in right) m.0.1)) (box_is left m.0.0 h.0 h.2) ∙ ap (common h.0.1) (box_is right m.0.1 h.1 h.3) ∙ h.5) h.6,
            ),
          )

      -- ---- their order

      abbrev ByLeft : Met → Met → Type 0
      ByLeft m n = (m.0.0 < n.0.0) ⊎ ((m.0.0 ≡ n.0.0) × ((first_of m.1).0 ≤ (first_of n.1).0))

      by_left : Ascend order right → (m n : Met) → IsMeeting order left right m → IsMeeting order left right n → PairsStand m.0 n.0 → ByLeft m n
      by_left up m n a b h = elim h [
        | inl l ↦ inl l
        | inr e ↦
            let x = a.0 in
            let same : b.0 ≡ x = one_row left n.0.0 b.0 x b.2 (subst (λ i. IsRow left i x) e.0 a.2) in
            let k : order x.0 b.1.0 ≡ Equal = subst (λ (z : PlainCellBox P). order z.0 b.1.0 ≡ Equal) same b.4 in
            let c : common x.1 b.1.1 ≡ n.1 = subst (λ (z : PlainCellBox P). common z.1 b.1.1 ≡ n.1) same b.5 in
            let keys : order a.1.0 b.1.0 ≡ Equal = sym (total.congr x.0 a.1.0 b.1.0 a.4) ∙ k in
            let after : (first_of a.1.1).0 ≤ (first_of b.1.1).0 = elim (up m.0.1 n.0.1 a.1 b.1 e.1 a.3 b.3) [ inl u ↦ absurd (not_less a.1.0 b.1.0 keys u) | inr u ↦ u.1 ] in
            let f = first_common x.1 a.1.1 b.1.1 (alike m.0.0 m.0.1 x a.1 a.2 a.3) (alike n.0.0 n.0.1 x b.1 (subst (IsRow left n.0.0) same b.2) b.3) after in
            inr (e.0, subst (λ z. (first_of z).0 ≤ (first_of n.1).0) a.5 (subst (λ z. (first_of (common x.1 a.1.1)).0 ≤ (first_of z).0) c f))
      ]
        where
          not_less : (u v : P) → order u v ≡ Equal → order u v ≡ Less → ⊥
          not_less u v e l = cc

      pub meetings_stand : Ascend order right → IsSortedBy (λ x y. is_lt (pair_cmp x y)) pairs → StandByLeft (flat_map (met (boxes_in left) (boxes_in right)) pairs)
      meetings_stand up s =
          let ms = flat_map (met (boxes_in left) (boxes_in right)) pairs in
          stand_rows ByLeft (λ m. inr (refl, omega arith)) ms (stand_weaker (λ (m n : Met). PairsStand m.0 n.0) ByLeft ms (λ m n a b. by_left up m n ((all_meetings m).0 a) ((all_meetings n).0 b)) (stand_flat (boxes_in left) (boxes_in right) pairs (pairs_stand pairs s)))

-- Operators by what their parts have at each place.
use Rattle.std.proofs.Common.{◌≡◌, ℕ, false, List, [], map, length, get_or, ◌↔◌, arith, sym, ap, subst, ◌∙◌, Ordering}
use Rattle.std.specs.Cmp.{IsTotalOrder}
use Rattle.std.specs.Ordering.{is_lt}
use Rattle.std.specs.List.{All}
use Rattle.std.specs.List.Sorted.{IsSortedBy, IsPermutation}
use Rattle.std.proofs.lemmas.List.Elements.{All-same, All-map}
use Rattle.std.proofs.lemmas.List.Sorted.{All-permutation, sorted_far, ranks_by}
use Rattle.std.proofs.lemmas.List.{get_or_default}
use Rattle.cell_packing.specs.Covering.{Among}
use Rattle.cell_sweep.specs.PackedRows.{HasRow, IsPackedOf}
use Rattle.cell_sweep.specs.Rows.{key_cmp, key_total}
use Rattle.cell_boxes.specs.Answers.{IsPackedRow, IsPackedCover, IsBoxOf, IsBoxOfKeyed, IsMatched, IsUnmatched, PlainKeyedCellBox, HasKeyed}
use Rattle.cell_boxes.specs.Common.{At, EndsBy}
use Rattle.cell_boxes.specs.Keys.{key_of, label_of, keyed_cmp, ArePaired}
use Rattle.cell_boxes.specs.Meetings.{IsShared}
use Rattle.cell_boxes.specs.Outside.{IsRest}
use Rattle.cell_boxes.specs.Rows.{IsRow, Ascend, PlainCellBox}
use Rattle.cell_boxes.proofs.RowLemmas.{row_among, among_row, one_row, row_there, map_row, row_map, in_order}
use Rattle.cell_sweep.proofs.LabelRows.{map_length}
use Rattle.cell_sweep.proofs.MovedLemmas.{packed_alike, among_moved}

-- ---- packed rows of sets that are alike at the places of all sides

-- the packed parts are the packed form of what they have at each place
pub packed_rows : {P : Type 0} (k : ℕ) (S : P → List ℕ → Type 0) (parts out : List (PlainCellBox P)) → ((l : P) (grid_point : List ℕ) → length grid_point ≡ k → HasRow parts l grid_point ↔ S l grid_point)
    → ((x : PlainCellBox P) → Among x out ↔ (length x.1 ≡ k) × IsPackedOf k parts x) → (x : PlainCellBox P) → Among x out ↔ IsPackedRow k S x
packed_rows k S parts out e is x =
    let a = is x in
    let b = packed_alike k (HasRow parts x.0) (S x.0) (e x.0) k x.1 [] (omega arith) in (
      λ h. let w = a.0 h in (w.0, b.0 w.1),
      λ h. a.1 (h.0, b.1 h.1),
    )

-- the same set by other words
pub packed_same : {P : Type 0} (k : ℕ) (S S' : P → List ℕ → Type 0) (out : List (PlainCellBox P)) → ((l : P) (grid_point : List ℕ) → S l grid_point ↔ S' l grid_point)
    → ((x : PlainCellBox P) → Among x out ↔ IsPackedRow k S x) → (x : PlainCellBox P) → Among x out ↔ IsPackedRow k S' x
packed_same k S S' out e is x =
    let a = is x in
    let b = packed_alike k (S x.0) (S' x.0) (λ grid_point f. e x.0 grid_point) k x.1 [] (omega arith) in (
      λ h. let w = a.0 h in (w.0, b.0 w.1),
      λ h. a.1 (h.0, b.1 h.1),
    )

-- ---- what the packed parts cover

pub cover_of : {P K : Type 0} (k : ℕ) (S : P → List ℕ → Type 0) (left : List (PlainCellBox K)) (parts out : List (PlainCellBox P)) → All (λ (x : PlainCellBox P). length x.1 ≡ k) parts
    → ((z : PlainCellBox P) → Among z parts → (x : PlainCellBox K) × Among x left × EndsBy x.1 z.1) → ((l : P) (grid_point : List ℕ) → length grid_point ≡ k → HasRow parts l grid_point ↔ S l grid_point)
    → ((x : PlainCellBox P) → Among x out ↔ (length x.1 ≡ k) × IsPackedOf k parts x) → IsPackedCover k S (IsBoxOf left) out
cover_of k S left parts out a b c d = record {
  parts = parts;
  sides = a;
  ends = λ z h. let w = b z h in (w.0.1, (w.0.0, w.1), w.2);
  grid_points = c;
  packed = d;
}

-- the same set by other words, and more boxes
pub cover_same : {P : Type 0} (k : ℕ) (S S' : P → List ℕ → Type 0) (B B' : List (ℕ × ℕ) → Type 0) (out : List (PlainCellBox P)) → ((l : P) (grid_point : List ℕ) → S l grid_point ↔ S' l grid_point) → ((y : List (ℕ × ℕ)) → B y → B' y)
    → IsPackedCover k S B out → IsPackedCover k S' B' out
cover_same k S S' B B' out e f c = record {
  parts = c.parts;
  sides = c.sides;
  ends = λ z h. let w = c.ends z h in (w.0, f w.0 w.1, w.2);
  grid_points = λ l grid_point g. let a = c.grid_points l grid_point g in let b = e l grid_point in (λ h. b.0 (a.0 h), λ h. a.1 (b.1 h));
  packed = c.packed;
}

-- ---- rows in another order

pub has_alike : {P : Type 0} (rows others : List (PlainCellBox P)) → ((x : PlainCellBox P) → Among x others ↔ Among x rows) → (l : P) (grid_point : List ℕ) → HasRow others l grid_point ↔ HasRow rows l grid_point
has_alike rows others e l grid_point = (
  λ h. (h.0, (e (l, h.0)).0 h.1, h.2),
  λ h. (h.0, (e (l, h.0)).1 h.1, h.2),
)

-- ---- rows with a key and a label, by their numbers

module _ {K P : Type 0} (order : K → K → Ordering) (total : IsTotalOrder order) (rows sorted : List (PlainKeyedCellBox K P)) (moved : IsPermutation rows sorted)
    (keys : List (PlainCellBox K)) (labels : List P) (ks : keys ≡ map key_of sorted) (ls : labels ≡ map label_of sorted) where
  pub paired : ArePaired rows keys labels
  paired = record {
    count = ap length ls ∙ map_length label_of sorted ∙ sym (ap length ks ∙ map_length key_of sorted);
    from = λ i x l a b.
        let v = row_map key_of sorted i x (subst (λ zs. IsRow zs i x) ks a) in
        let w = row_map label_of sorted i l (subst (λ zs. IsRow zs i l) ls b) in
        let s : w.0 ≡ v.0 = one_row sorted i w.0 v.0 w.1 v.1 in
        let e0 : (v.0).0 ≡ x.0 = ap (λ (z : PlainCellBox K). z.0) v.2 in
        let e1 : (v.0).1 ≡ l = subst (λ (z : PlainKeyedCellBox K P). z.1 ≡ l) s w.2 in
        let e2 : (v.0).2 ≡ x.1 = ap (λ (z : PlainCellBox K). z.1) v.2 in
        let e : v.0 ≡ (x.0, l, x.1) = λ t. (e0 t, e1 t, e2 t) in
        (among_moved rows sorted moved (x.0, l, x.1)).0 (subst (λ z. Among z sorted) e (row_among sorted i v.0 v.1));
    to = λ z h.
        let i = among_row sorted z ((among_moved rows sorted moved z).1 h) in
        (i.0, subst (λ zs. IsRow zs i.0 (key_of z)) (sym ks) (map_row key_of sorted i.0 z i.1), subst (λ zs. IsRow zs i.0 (label_of z)) (sym ls) (map_row label_of sorted i.0 z i.1));
  }

  pub keys_ascend : IsSortedBy (λ x y. is_lt (keyed_cmp order x y)) sorted → Ascend order keys
  keys_ascend s i j x y h a b =
      let v = row_map key_of sorted i x (subst (λ zs. IsRow zs i x) ks a) in
      let w = row_map key_of sorted j y (subst (λ zs. IsRow zs j y) ks b) in
      let f = sorted_far (λ x y. is_lt (keyed_cmp order x y)) (ranks_by (key_total total) key_of) sorted s i j v.0 h w.1.0 in
      let g : is_lt (keyed_cmp order w.0 v.0) ≡ false = subst (λ z. is_lt (keyed_cmp order z v.0) ≡ false) (get_or_default sorted j v.0 w.0 w.1.0 ∙ w.1.1) (subst (λ z. is_lt (keyed_cmp order (get_or sorted j v.0) z) ≡ false) v.1.1 f) in
      in_order order total x y (subst (λ z. is_lt (key_cmp order z x) ≡ false) w.2 (subst (λ z. is_lt (key_cmp order (key_of w.0) z) ≡ false) v.2 g))

  pub keys_sides : (k : ℕ) → All (λ (x : PlainKeyedCellBox K P). length x.2 ≡ k) rows → All (λ (x : PlainCellBox K). length x.1 ≡ k) keys
  keys_sides k h = All-same (λ (x : PlainCellBox K). length x.1 ≡ k) keys (map key_of sorted) ks (All-map (λ (x : PlainCellBox K). length x.1 ≡ k) key_of sorted (All-permutation (λ (x : PlainKeyedCellBox K P). length x.2 ≡ k) rows sorted moved h))

-- the same of rows in another order
pub paired_moved : {K P : Type 0} (rows others : List (PlainKeyedCellBox K P)) → IsPermutation rows others → (keys : List (PlainCellBox K)) (labels : List P) → ArePaired others keys labels → ArePaired rows keys labels
paired_moved rows others moved keys labels p = record {
  count = p.count;
  from = λ i x l a b. (among_moved rows others moved (x.0, l, x.1)).0 (p.from i x l a b);
  to = λ z h. p.to z ((among_moved rows others moved z).1 h);
}

module _ {K P : Type 0} (rows : List (PlainKeyedCellBox K P)) (keys : List (PlainCellBox K)) (labels : List P) (pairs : ArePaired rows keys labels) where
  -- a box of the keys is one of the rows
  pub box_of_keyed : (y : List (ℕ × ℕ)) → IsBoxOf keys y → IsBoxOfKeyed rows y
  box_of_keyed y h =
      let x : PlainCellBox K = (h.0, y) in
      let i = among_row keys x h.1 in
      let l = row_there labels i.0 (let a = i.1.0 in omega (arith, pairs.count)) in
      (h.0, l.0, pairs.from i.0 x l.0 i.1 l.1)

  -- some row of the label has the place, and R holds of its key
  some_keyed : (R : K → Type 0) (l : P) (grid_point : List ℕ) → ((i : ℕ) × (x : PlainCellBox K) × IsRow keys i x × IsRow labels i l × At x.1 grid_point × R x.0) ↔ ((k : K) × HasKeyed rows k l grid_point × R k)
  some_keyed R l grid_point = (
    λ h. let x : PlainCellBox K = h.1 in (x.0, (x.1, pairs.from h.0 x l h.2 h.3, h.4), h.5),
    λ h. let i = pairs.to (h.0, l, h.1.0) h.1.1 in (i.0, (h.0, h.1.0), i.1, i.2, h.1.2, h.2),
  )

  module _ (right others : List (PlainCellBox K)) (same : (x : PlainCellBox K) → Among x others ↔ Among x right) where
    pub is_matched : (l : P) (grid_point : List ℕ) → IsShared keys labels others l grid_point ↔ IsMatched rows right l grid_point
    is_matched l grid_point =
        let a = some_keyed (λ k. HasRow others k grid_point) l grid_point in (
          λ h. let w = a.0 h in (w.0, w.1, (has_alike right others same w.0 grid_point).0 w.2),
          λ h. a.1 (h.0, h.1, (has_alike right others same h.0 grid_point).1 h.2),
        )

    pub is_unmatched : (l : P) (grid_point : List ℕ) → IsRest keys labels others l grid_point ↔ IsUnmatched rows right l grid_point
    is_unmatched l grid_point =
        let a = some_keyed (λ k. HasRow others k grid_point → ⊥) l grid_point in (
          λ h. let w = a.0 h in (w.0, w.1, λ g. w.2 ((has_alike right others same w.0 grid_point).1 g)),
          λ h. a.1 (h.0, h.1, λ g. h.2 ((has_alike right others same h.0 grid_point).0 g)),
        )

-- The steps of the recursion over slices.
use Rattle.std.proofs.Common.{◌≡◌, ℕ, zero, suc, ◌<◌, ◌≤◌, List, [], ◌∷◌, ◌++◌, map, length, ◌↔◌, ◌⊎◌, inl, inr, arith, sym, ap, subst, refl, ◌∙◌, Ordering, Result, Ok, Err}
use Rattle.std.specs.declared.cmp.Ordering.TheVariants.{Less, Equal, Greater}
use Rattle.std.specs.Cmp.{IsTotalOrder}
use Rattle.std.specs.Cmp.Lexicographic.{slice_cmp}
use Rattle.std.specs.Ordering.{nat_cmp, ordering_then}
use Rattle.std.specs.FinMap.{IsAntisymmetric, nat_cmp-IsAntisymmetric, slice_cmp-IsAntisymmetric}
use Rattle.std.specs.List.{AllByRecursion, filter}
use Rattle.std.specs.List.Sorted.{IsStrictlySortedBy}
use Rattle.std.proofs.lemmas.Cmp.{tied_itself}
use Rattle.std.proofs.lemmas.Bool.{cases_lt}
use Rattle.base_core.proofs.OrderingLemmas.{lt-nat_cmp, then-Equal}
use Rattle.base_core.proofs.ListLemmas.{length_more}
use Rattle.point_core.proofs.OrderLemmas.{then_same}
use Rattle.cell_packing.specs.Pieces.{Covers, HasPiece, AreApart, Apart}
use Rattle.cell_packing.specs.declared.Piece.{Piece}
use Rattle.cell_packing.specs.Covering.{Among}
use Rattle.cell_packing.specs.Live.{side_has, IsSliceRow}
use Rattle.cell_packing.proofs.Inward.{HasSides, slice_at, no_slice, slices_give}
use Rattle.cell_packing.proofs.AmongLemmas.{among_map}
use Rattle.cell_packing.proofs.Joined.{covers_append}
use Rattle.cell_sweep.specs.Rows.{pair_cmp, key_cmp, key_total, tag, with_last, no_sides, labels_of}

-- ---- the order of keys

pair_exact : IsAntisymmetric pair_cmp
pair_exact x y e =
    let w = then_same (nat_cmp x.0 y.0) (nat_cmp x.1 y.1) e in
    let a = nat_cmp-IsAntisymmetric x.0 y.0 w.0 in
    let b = nat_cmp-IsAntisymmetric x.1 y.1 w.1 in
    λ t. (a t, b t)

then_assoc : (r s t : Ordering) → ordering_then (ordering_then r s) t ≡ ordering_then r (ordering_then s t)
then_assoc Less s t = refl
then_assoc Equal s t = refl
then_assoc Greater s t = refl

-- one more of both
slice_cmp_end : (xs ys : List (ℕ × ℕ)) (x y : ℕ × ℕ) → length xs ≡ length ys → slice_cmp pair_cmp (xs ++ x ∷ []) (ys ++ y ∷ []) ≡ ordering_then (slice_cmp pair_cmp xs ys) (pair_cmp x y)
slice_cmp_end [] [] x y e = then-Equal (pair_cmp x y)
slice_cmp_end [] (b ∷ ys) x y e = absurd (omega arith)
slice_cmp_end (a ∷ xs) [] x y e = absurd (omega arith)
slice_cmp_end (a ∷ xs) (b ∷ ys) x y e = ap (ordering_then (pair_cmp a b)) (slice_cmp_end xs ys x y (omega arith)) ∙ sym (then_assoc (pair_cmp a b) _ _)

pub split_at : {X : Type 0} (y : List X) (n : ℕ) → length y ≡ suc n → (z : List X) × (v : X) × (length z ≡ n) × (z ++ v ∷ [] ≡ y)
split_at [] n e = absurd (omega arith)
split_at (x ∷ []) zero e = ([], x, refl, refl)
split_at (x ∷ []) (suc n) e = absurd (omega arith)
split_at (x ∷ w ∷ ws) zero e = absurd (omega arith)
split_at (x ∷ w ∷ ws) (suc n) e = let r = split_at (w ∷ ws) n (omega arith) in (x ∷ r.0, r.1, ap suc r.2, λ i. x ∷ r.3 i)

-- ---- pieces

module _ {K : Type 0} (R : K → K → Ordering) (o : IsTotalOrder R) (one : (a b : K) → R a b ≡ Equal → a ≡ b) where
  covers_tags : (a z : ℕ) (rows : List K) (k : K) (i : ℕ) → Covers R (map (tag a z) rows) k i ↔ ((a ≤ i) × (i < z)) × Among k rows
  covers_tags a z [] k i = (λ h. absurd h, λ h. absurd h.1)
  covers_tags a z (r ∷ rs) k i =
      let ih = covers_tags a z rs k i in (
        λ h. elim h [ inl w ↦ ((w.1, w.2), inl (one r k w.0)) | inr w ↦ let v = ih.0 w in (v.0, inr v.1) ],
        λ h. elim h.1 [ inl w ↦ inl (subst (λ q. R r q ≡ Equal) w (tied_itself o r), h.0.0, h.0.1) | inr w ↦ inr (ih.1 (h.0, w)) ],
      )

  pub covers_tagged : (old new : List (Piece K)) (a z : ℕ) (rows : List K) → new ≡ old ++ map (tag a z) rows → (k : K) (i : ℕ) → Covers R new k i ↔ Covers R old k i ⊎ (((a ≤ i) × (i < z)) × Among k rows)
  covers_tagged old new a z rows e k i =
      let c : Covers R new k i ↔ Covers R old k i ⊎ Covers R (map (tag a z) rows) k i = subst (λ ps. Covers R ps k i ↔ Covers R old k i ⊎ Covers R (map (tag a z) rows) k i) (sym e) (covers_append R o old (map (tag a z) rows) k i) in
      let b = covers_tags a z rows k i in (
        λ h. elim (c.0 h) [ inl w ↦ inl w | inr w ↦ inr (b.0 w) ],
        λ h. elim h [ inl w ↦ c.1 (inl w) | inr w ↦ c.1 (inr (b.1 w)) ],
      )

  pub piece_by : (ps : List (Piece K)) (k : K) (a z : ℕ) → HasPiece R ps k a z → (p : Piece K) × Among p ps × (p.key ≡ k) × (p.begin ≡ a) × (p.end ≡ z)
  piece_by [] k a z h = absurd h
  piece_by (p ∷ ps) k a z h = elim h [ inl w ↦ (p, inl refl, one p.key k w.0, w.1, w.2) | inr w ↦ let v = piece_by ps k a z w in (v.0, inr v.1, v.2, v.3, v.4) ]

  pub piece_from : (ps : List (Piece K)) (p : Piece K) → Among p ps → HasPiece R ps p.key p.begin p.end
  piece_from [] p h = absurd h
  piece_from (q ∷ ps) p h = elim h [
    | inl e ↦ inl (subst (λ k. R q.key k ≡ Equal) (ap (λ (w : Piece K). w.key) e) (tied_itself o q.key), ap (λ (w : Piece K). w.begin) e, ap (λ (w : Piece K). w.end) e)
    | inr w ↦ inr (piece_from ps p w)
  ]

  covers_own : (ps : List (Piece K)) (p : Piece K) → AreApart R ps → Among p ps → Covers R ps p.key p.begin
  covers_own [] p a h = absurd h
  covers_own (q ∷ ps) p a h = elim h [
    | inl e ↦
        let b : q.begin ≡ p.begin = ap (λ (w : Piece K). w.begin) e in
        let s = a.0 in
        inl (subst (λ k. R q.key k ≡ Equal) (ap (λ (w : Piece K). w.key) e) (tied_itself o q.key), omega arith, omega arith)
    | inr w ↦ inr (covers_own ps p a.2 w)
  ]

-- ---- rows

module _ {P : Type 0} (order : P → P → Ordering) (total : IsTotalOrder order) (separates : (a b : P) → order a b ≡ Equal → a ≡ b) where
  abbrev pub CellBox : Type 0
  CellBox = P × List (ℕ × ℕ)

  abbrev pub R : CellBox → CellBox → Ordering
  R = key_cmp order

  pub one_key : (a b : CellBox) → R a b ≡ Equal → a ≡ b
  one_key a b e =
      let w = then_same (order a.0 b.0) (slice_cmp pair_cmp a.1 b.1) e in
      let f = separates a.0 b.0 w.0 in
      let g = slice_cmp-IsAntisymmetric pair_exact a.1 b.1 w.1 in
      λ t. (f t, g t)

  end_cmp : (p q : Piece CellBox) → length p.key.1 ≡ length q.key.1 → R (with_last p) (with_last q) ≡ ordering_then (R p.key q.key) (pair_cmp (p.begin, p.end) (q.begin, q.end))
  end_cmp p q e = ap (ordering_then (order p.key.0 q.key.0)) (slice_cmp_end p.key.1 q.key.1 (p.begin, p.end) (q.begin, q.end) e) ∙ sym (then_assoc (order p.key.0 q.key.0) _ _)

  apart_less : (p q : Piece CellBox) → length p.key.1 ≡ length q.key.1 → p.begin < p.end → Apart R p q → R (with_last p) (with_last q) ≡ Less
  apart_less p q e s a = end_cmp p q e ∙ elim a as (λ _. ordering_then (R p.key q.key) (pair_cmp (p.begin, p.end) (q.begin, q.end)) ≡ Less) [
    | inl l ↦ ap (λ c. ordering_then c (pair_cmp (p.begin, p.end) (q.begin, q.end))) l
    | inr w ↦ ap (λ c. ordering_then c (pair_cmp (p.begin, p.end) (q.begin, q.end))) w.0 ∙ ap (λ c. ordering_then c (nat_cmp p.end q.end)) (lt-nat_cmp p.begin q.begin (omega (arith, w.1)))
  ]

  all_less : (j : ℕ) (p : Piece CellBox) (ps : List (Piece CellBox)) → length p.key.1 ≡ j → p.begin < p.end → AllByRecursion (λ q. length q.key.1 ≡ j) ps → AllByRecursion (Apart R p) ps → AllByRecursion (λ y. R (with_last p) y ≡ Less) (map with_last ps)
  all_less j p [] e s n a = tt
  all_less j p (q ∷ qs) e s n a = (apart_less p q (e ∙ sym n.0) s a.0, all_less j p qs e s n.1 a.1)

  pub sorted_last : (j : ℕ) (ps : List (Piece CellBox)) → AllByRecursion (λ q. length q.key.1 ≡ j) ps → AreApart R ps → IsStrictlySortedBy R (map with_last ps)
  unfolding IsStrictlySortedBy
  sorted_last j [] n a = tt
  sorted_last j (p ∷ ps) n a = (all_less j p ps n.0 a.0 n.1 a.1, sorted_last j ps n.1 a.2)

  less_alone : (l : P) (ls : List P) → AllByRecursion (λ m. order l m ≡ Less) ls → AllByRecursion (λ y. R (no_sides l) y ≡ Less) (map no_sides ls)
  less_alone l [] h = tt
  less_alone l (m ∷ ms) h = (ap (λ c. ordering_then c Equal) h.0, less_alone l ms h.1)

  pub sorted_alone : (ls : List P) → IsStrictlySortedBy order ls → IsStrictlySortedBy R (map no_sides ls)
  unfolding IsStrictlySortedBy
  sorted_alone [] h = tt
  sorted_alone (l ∷ ls) h = (less_alone l ls h.0, sorted_alone ls h.1)

  module _ (f : P → List ℕ → List ℕ → Type 0) (boxes : List (List (ℕ × ℕ))) (n side : ℕ) (below : side < n) (left right : List ℕ) (all_left : AllByRecursion (HasSides f boxes n) left) (all_right : AllByRecursion (HasSides f boxes n) right) where
    abbrev T : ℕ → CellBox → Type 0
    T i k = IsSliceRow side f boxes (filter (side_has boxes side i) left) (filter (side_has boxes side i) right) k.0 k.1

    module _ (count : ℕ) (none_left : (i : ℕ) → count ≤ i → filter (side_has boxes side i) left ≡ []) (none_right : (i : ℕ) → count ≤ i → filter (side_has boxes side i) right ≡ []) where
      outside : (i : ℕ) (k : CellBox) → T i k → i < count
      outside i k t =
          elim (cases_lt i count) [
            | inl w ↦ w
            | inr w ↦ absurd (no_slice f boxes n side below left right all_left all_right k.0 i k.1 (none_left i w) (none_right i w) (subst (λ U. U) (sym (slice_at f boxes n side below left right all_left all_right k.0 i k.1)) t))
          ]

      -- what is covered below the last cell is all that is covered
      pub covers_all : (pieces : List (Piece CellBox)) → ((k : CellBox) (i : ℕ) → Covers R pieces k i ↔ (i < count) × (length k.1 ≡ side) × T i k) → (k : CellBox) (i : ℕ) → Covers R pieces k i ↔ (length k.1 ≡ side) × T i k
      covers_all pieces covers k i = let c = covers k i in (λ h. let v = c.0 h in (v.1, v.2), λ h. c.1 (outside i k h.1, h.0, h.1))

    module _ (pieces runs : List (Piece CellBox)) (out : List CellBox)
        (covers : (k : CellBox) (i : ℕ) → Covers R pieces k i ↔ (length k.1 ≡ side) × T i k)
        (apart : AreApart R runs)
        (same : (k : CellBox) (i : ℕ) → Covers R runs k i ↔ Covers R pieces k i)
        (made : out ≡ map with_last runs) where
      slice : (i : ℕ) (m : P) (z : List (ℕ × ℕ)) (key : CellBox) → key ≡ (m, z) → length z ≡ side → Covers R runs key i ↔ T i (m, z)
      slice i m z key is q =
          let a = same key i in
          let b = covers key i in (
            λ h. subst (T i) is (b.0 (a.0 h)).1,
            λ t. let t' : T i key = subst (T i) (sym is) t in a.1 (b.1 (ap (λ (k : CellBox). length k.1) is ∙ q, t')),
          )

      give : (l : P) (y : List (ℕ × ℕ)) (v : ℕ × ℕ) → length y ≡ side → HasPiece R runs (l, y) v.0 v.1 ↔ IsSliceRow (suc side) f boxes left right l (y ++ v ∷ [])
      give l y v e = slices_give f boxes n side below left right all_left all_right R (key_total total) (λ m z key. key ≡ (m, z)) runs slice apart l y (l, y) v refl e

      own_length : (p : Piece CellBox) → Among p runs → length p.key.1 ≡ side
      own_length p h = ((covers p.key p.begin).0 ((same p.key p.begin).0 (covers_own R (key_total total) one_key runs p apart h))).0

      lengths : (ps : List (Piece CellBox)) → ((p : Piece CellBox) → Among p ps → length p.key.1 ≡ side) → AllByRecursion (λ q. length q.key.1 ≡ side) ps
      lengths [] h = tt
      lengths (p ∷ ps) h = (h p (inl refl), lengths ps (λ q w. h q (inr w)))

      pub rows_sorted : IsStrictlySortedBy R out
      rows_sorted = subst (IsStrictlySortedBy R) (sym made) (sorted_last side runs (lengths runs own_length) apart)

      pub rows_answer : (x : CellBox) → Among x out ↔ (length x.1 ≡ suc side) × IsSliceRow (suc side) f boxes left right x.0 x.1
      rows_answer x =
          let m = among_map with_last x runs in (
            λ h.
                let w = m.0 (subst (Among x) made h) in
                let p : Piece CellBox = w.0 in
                let len : length p.key.1 ≡ side = own_length p w.1 in
                let g = (give p.key.0 p.key.1 (p.begin, p.end) len).0 (piece_from R (key_total total) one_key runs p w.1) in
                subst (λ (k : CellBox). (length k.1 ≡ suc side) × IsSliceRow (suc side) f boxes left right k.0 k.1) w.2 (length_more p.key.1 (p.begin, p.end) ∙ ap suc len, g),
            λ h.
                let s = split_at x.1 side h.0 in
                let z : List (ℕ × ℕ) = s.0 in
                let v : ℕ × ℕ = s.1 in
                let r = (give x.0 z v s.2).1 (subst (λ w. IsSliceRow (suc side) f boxes left right x.0 w) (sym s.3) h.1) in
                let q = piece_by R (key_total total) one_key runs (x.0, z) v.0 v.1 r in
                let p : Piece CellBox = q.0 in
                let e : with_last p ≡ (x.0, x.1) = (λ t. ((q.2 t).0, (q.2 t).1 ++ (q.3 t, q.4 t) ∷ [])) ∙ (λ t. (x.0, s.3 t)) in
                subst (Among x) (sym made) (m.1 (p, q.1, e)),
          )

  pub sorted_nil : (xs : List CellBox) → xs ≡ [] → IsStrictlySortedBy R xs
  unfolding IsStrictlySortedBy
  sorted_nil xs e = subst (IsStrictlySortedBy R) (sym e) tt

  labels_sorted : {F : Type 0} (r : Result (List P) F) → ((v : List P) → r ≡ Ok v → IsStrictlySortedBy order v) → IsStrictlySortedBy order (labels_of r)
  unfolding IsStrictlySortedBy
  labels_sorted (Ok v) h = h v refl
  labels_sorted (Err e) h = tt

  pub leaf_sorted : {F : Type 0} (r : Result (List P) F) (rows : List CellBox) → rows ≡ map no_sides (labels_of r) → ((v : List P) → r ≡ Ok v → IsStrictlySortedBy order v) → IsStrictlySortedBy R rows
  leaf_sorted r rows e h = subst (IsStrictlySortedBy R) (sym e) (sorted_alone (labels_of r) (labels_sorted r h))

  -- a turn of the loop over the cells of a side: the rows of the cells from a up to before z
  pub covers_step : (T : ℕ → CellBox → Type 0) (side a z : ℕ) → a ≤ z → (old new : List (Piece CellBox)) (rows : List CellBox) → new ≡ old ++ map (tag a z) rows
      → ((i : ℕ) → a ≤ i → i < z → (k : CellBox) → Among k rows ↔ (length k.1 ≡ side) × T i k)
      → ((k : CellBox) (i : ℕ) → Covers R old k i ↔ (i < a) × (length k.1 ≡ side) × T i k)
      → (k : CellBox) (i : ℕ) → Covers R new k i ↔ (i < z) × (length k.1 ≡ side) × T i k
  covers_step T side a z az old new rows e r c k i =
      let d = covers_tagged R (key_total total) one_key old new a z rows e k i in
      let b = c k i in (
        λ h. elim (d.0 h) [
          | inl w ↦ let v = b.0 w in let l = v.0 in (omega arith, v.1, v.2)
          | inr w ↦ let v = (r i w.0.0 w.0.1 k).0 w.1 in (w.0.1, v.0, v.1)
        ],
        λ h. elim (cases_lt i a) [
          | inl l ↦ d.1 (inl (b.1 (l, h.1, h.2)))
          | inr l ↦ d.1 (inr ((l, h.0), (r i l h.0 k).1 (h.1, h.2)))
        ],
      )

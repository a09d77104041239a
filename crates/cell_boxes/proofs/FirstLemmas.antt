-- Rows under the numbers of the first rows of their keys, and under the labels of these.
use Rattle.std.proofs.Common.{◌≡◌, ℕ, ◌<◌, ◌≤◌, List, [], ◌∷◌, ◌++◌, map, length, get_or, ◌↔◌, inl, inr, arith, sym, ap, subst, refl, ◌∙◌, Ordering}
use Rattle.std.specs.declared.cmp.Ordering.TheVariants.{Less, Equal}
use Rattle.std.specs.Cmp.{IsTotalOrder}
use Rattle.std.specs.Cmp.Lexicographic.{slice_cmp}
use Rattle.std.specs.Ordering.{nat_cmp, ordering_then, ordering_reverse}
use Rattle.std.specs.List.{All, AllByRecursion}
use Rattle.std.specs.List.Sorted.{IsStrictlySortedBy}
use Rattle.std.proofs.lemmas.Bool.{cases_lt}
use Rattle.std.proofs.lemmas.Cmp.{tied_itself, tied_back, nat_cmp_total}
use Rattle.std.proofs.lemmas.List.Elements.{All-map}
use Rattle.std.proofs.lemmas.List.{get_or_default}
use Rattle.cell_packing.specs.Covering.{Among}
use Rattle.cell_packing.specs.Packed.{IsIndexPackedTo}
use Rattle.cell_packing.proofs.AmongLemmas.{among_map}
use Rattle.cell_packing.proofs.Inward.{some_grid_point}
use Rattle.cell_sweep.specs.PackedRows.{HasRow, IsPackedOf}
use Rattle.cell_sweep.specs.Rows.{key_cmp, pair_cmp}
use Rattle.cell_sweep.proofs.MovedLemmas.{packed_alike}
use Rattle.cell_boxes.specs.Answers.{IsPackedRow, IsPackedCover, IsBoxOf}
use Rattle.cell_boxes.specs.Common.{At, EndsBy}
use Rattle.cell_boxes.specs.KeyNumbers.{IsCount, HaveFirsts, RiseAlike, named, separates_numbers}
use Rattle.cell_boxes.specs.Rows.{IsRow, Ascend, PlainCellBox}
use Rattle.cell_boxes.proofs.NumberLemmas.{row_cases, same_order, less_tied, upward, count_rises, count_more}
use Rattle.cell_boxes.proofs.OperatorLemmas.{packed_rows}
use Rattle.cell_boxes.proofs.RowLemmas.{one_row, some_row, row_there}

-- ---- first rows

module _ {K : Type 0} (order : K → K → Ordering) (total : IsTotalOrder order) (rows : List (PlainCellBox K)) where
  pub firsts_more : (old new : List ℕ) (n next : ℕ) (x : PlainCellBox K) → IsRow rows next x → length old ≡ next → new ≡ old ++ n ∷ [] → IsCount order rows x.0 n → HaveFirsts order rows old → HaveFirsts order rows new
  firsts_more old new n next x at count made is was i y m hy hm = elim (row_cases old new n made i m hm) [
    | inl h ↦ was i y m hy h
    | inr h ↦
        let e : x ≡ y = one_row rows next x y at (subst (λ q. IsRow rows q y) (h.0 ∙ count) hy) in
        subst (λ (z : PlainCellBox K). IsCount order rows z.0 m) e (subst (IsCount order rows x.0) h.1 is)
  ]

  -- counts of lesser rows stand as the keys do
  count_order : (i j : ℕ) (x y : PlainCellBox K) (c d : ℕ) → IsRow rows i x → IsRow rows j y → IsCount order rows x.0 c → IsCount order rows y.0 d → order x.0 y.0 ≡ nat_cmp c d
  count_order i j x y c d hx hy p q = same_order (order x.0 y.0) c d
      (λ l. count_more order total rows i x hx y.0 c d p q l)
      (λ e. let u = count_rises order total rows x.0 y.0 c d p q (inr e) in let v = count_rises order total rows y.0 x.0 d c q p (inr (tied_back total x.0 y.0 e)) in omega arith)
      (λ g. count_more order total rows j y hy x.0 d c q p (total.antisymm y.0 x.0 ∙ ap ordering_reverse g))

  -- a first row is the first of its own key
  pub first_own : Ascend order rows → (firsts : List ℕ) → length firsts ≡ length rows → HaveFirsts order rows firsts → (i n : ℕ) → IsRow firsts i n → IsRow firsts n n
  first_own up firsts count have i n h =
      let l = h.0 in
      let y = row_there rows i (omega (arith, count)) in
      let p : IsCount order rows (y.0).0 n = have i y.0 n y.1 h in
      let low : n ≤ i = elim (cases_lt i n) [ inl w ↦ absurd (less_tied order total (y.0).0 (y.0).0 (p.lesser i y.0 y.1 w) (tied_itself total (y.0).0)) | inr w ↦ w ] in
      let z = row_there rows n (omega (arith, count)) in
      let e : order (z.0).0 (y.0).0 ≡ Equal = elim (upward order total rows up n i z.0 y.0 low z.1 y.1) [ inl m ↦ absurd (p.others n z.0 z.1 (omega arith) m) | inr m ↦ m ] in
      let f = row_there firsts n (omega arith) in
      let q : IsCount order rows (z.0).0 f.0 = have n z.0 f.0 z.1 f.1 in
      let u = count_rises order total rows (z.0).0 (y.0).0 f.0 n q p (inr e) in
      let v = count_rises order total rows (y.0).0 (z.0).0 n f.0 p q (inr (tied_back total (z.0).0 (y.0).0 e)) in
      let g : f.0 ≡ n = omega arith in
      subst (IsRow firsts n) g f.1

-- ---- one row more under its label

push_map : {X Y : Type 0} (f : X → Y) (xs : List X) (x : X) → map f xs ++ f x ∷ [] ≡ map f (xs ++ x ∷ [])
push_map f [] x = refl
push_map f (y ∷ ys) x = ap (λ zs. f y ∷ zs) (push_map f ys x)

pub named_turn : {P : Type 0} (labels : List P) (done : List (PlainCellBox ℕ)) (m : PlainCellBox ℕ) (row : PlainCellBox P) → IsRow labels m.0 row.0 → m.1 ≡ row.1 → (old new : List (PlainCellBox P)) → new ≡ old ++ row ∷ []
    → ((d : P) → old ≡ map (named labels d) done) → (d : P) → new ≡ map (named labels d) (done ++ m ∷ [])
named_turn {P} labels done m row at sides old new made was d =
    let a : row.0 ≡ get_or labels m.0 d = sym at.1 ∙ get_or_default labels m.0 row.0 d at.0 in
    let e : row ≡ named labels d m = λ t. (a t, sym sides t) in
    made ∙ ap (λ (zs : List (PlainCellBox P)). zs ++ row ∷ []) (was d) ∙ ap (λ (z : PlainCellBox P). map (named labels d) done ++ z ∷ []) e ∙ push_map (named labels d) done m

-- ---- labels that rise with the numbers

module _ {P : Type 0} (order : P → P → Ordering) (total : IsTotalOrder order) (separates : (a b : P) → order a b ≡ Equal → a ≡ b)
    (keys : List (PlainCellBox ℕ)) (up : Ascend nat_cmp keys) (labels : List P) (count : length labels ≡ length keys) (alike : RiseAlike order keys labels)
    (firsts : List ℕ) (as_many : length firsts ≡ length keys) (have : HaveFirsts nat_cmp keys firsts) where
  own : (i n : ℕ) → IsRow firsts i n → IsRow firsts n n
  own i n h = first_own nat_cmp nat_cmp_total keys up firsts as_many have i n h

  labels_there : (n : ℕ) → IsRow firsts n n → n < length labels
  labels_there n h = let l = h.0 in omega (arith, count, as_many)

  firsts_order : (i j n m : ℕ) (a b : P) → IsRow firsts i n → IsRow firsts j m → IsRow labels i a → IsRow labels j b → order a b ≡ nat_cmp n m
  firsts_order i j n m a b hn hm ha hb =
      let k = hn.0 in
      let l = hm.0 in
      let v = row_there keys i (omega (arith, as_many)) in
      let w = row_there keys j (omega (arith, as_many)) in
      alike i j v.0 w.0 a b v.1 w.1 ha hb ∙ count_order nat_cmp nat_cmp_total keys i j v.0 w.0 n m v.1 w.1 (have i v.0 n v.1 hn) (have j w.0 m w.1 hm)

  -- the first row of the key has the same label
  label_first : (i n : ℕ) (l : P) → IsRow firsts i n → IsRow labels i l → IsRow labels n l
  label_first i n l hn hl =
      let f = own i n hn in
      let m = row_there labels n (labels_there n f) in
      let e = firsts_order i n n n l m.0 hn f hl m.1 in
      subst (IsRow labels n) (sym (separates l m.0 (e ∙ tied_itself nat_cmp_total n))) m.1

  named_less : (d : P) (x y : PlainCellBox ℕ) → IsRow firsts x.0 x.0 → IsRow firsts y.0 y.0 → key_cmp nat_cmp x y ≡ Less → key_cmp order (named labels d x) (named labels d y) ≡ Less
  named_less d x y a b h =
      let e = firsts_order x.0 y.0 x.0 y.0 (get_or labels x.0 d) (get_or labels y.0 d) a b (some_row labels x.0 d (labels_there x.0 a)) (some_row labels y.0 d (labels_there y.0 b)) in
      ap (λ o. ordering_then o (slice_cmp pair_cmp x.1 y.1)) e ∙ h

  named_sorted : (d : P) (xs : List (PlainCellBox ℕ)) → ((x : PlainCellBox ℕ) → Among x xs → IsRow firsts x.0 x.0) → IsStrictlySortedBy (key_cmp nat_cmp) xs → IsStrictlySortedBy (key_cmp order) (map (named labels d) xs)
  unfolding IsStrictlySortedBy
  named_sorted d [] f h = tt
  named_sorted d (x ∷ xs) f h = (each xs (λ y m. f y (inr m)) h.0, named_sorted d xs (λ y m. f y (inr m)) h.1)
    where
      each : (ys : List (PlainCellBox ℕ)) → ((y : PlainCellBox ℕ) → Among y ys → IsRow firsts y.0 y.0) → AllByRecursion (λ y. key_cmp nat_cmp x y ≡ Less) ys → AllByRecursion (λ y. key_cmp order (named labels d x) y ≡ Less) (map (named labels d) ys)
      each [] g a = tt
      each (y ∷ ys) g a = (named_less d x y (f x (inl refl)) (g y (inl refl)) a.0, each ys (λ z m. g z (inr m)) a.1)

  -- ---- what rows under labels and under numbers have at places, where R holds of the key

  module _ (R : ℕ → List ℕ → Type 0) where
    abbrev pub Has : {Q : Type 0} → List Q → Q → List ℕ → Type 0
    Has ls l grid_point = (i : ℕ) × (x : PlainCellBox ℕ) × IsRow keys i x × IsRow ls i l × At x.1 grid_point × R x.0 grid_point

    has_first : (n : ℕ) (l : P) → IsRow firsts n n → IsRow labels n l → (grid_point : List ℕ) → Has firsts n grid_point ↔ Has labels l grid_point
    has_first n l f at grid_point = (
      λ h.
          let k = h.3.0 in
          let m = row_there labels h.0 (omega (arith, count, as_many)) in
          let e : m.0 ≡ l = one_row labels n m.0 l (label_first h.0 n m.0 h.3 m.1) at in
          (h.0, h.1, h.2, subst (IsRow labels h.0) e m.1, h.4, h.5),
      λ h.
          let k = h.3.0 in
          let m = row_there firsts h.0 (omega (arith, count, as_many)) in
          let e = firsts_order h.0 n m.0 n l l m.1 f h.3 at in
          let g : m.0 ≡ n = separates_numbers m.0 n (sym e ∙ tied_itself total l) in
          (h.0, h.1, h.2, subst (IsRow firsts h.0) g m.1, h.4, h.5),
    )

    module _ (k : ℕ) (parts packed : List (PlainCellBox ℕ)) (grid_points : (n : ℕ) (grid_point : List ℕ) → length grid_point ≡ k → HasRow parts n grid_point ↔ Has firsts n grid_point)
        (is : (x : PlainCellBox ℕ) → Among x packed ↔ (length x.1 ≡ k) × IsPackedOf k parts x) where
      -- a packed row is under the number of a first row
      packed_first : (x : PlainCellBox ℕ) → Among x packed → IsRow firsts x.0 x.0
      packed_first x h =
          let w : IsPackedRow k (Has firsts) x = (packed_rows k (Has firsts) parts packed grid_points is x).0 h in
          let g = (some_grid_point k (Has firsts x.0) x.1 [] w.1).1 in
          own g.0 x.0 g.3

      pub packed_below : (x : PlainCellBox ℕ) → Among x packed → x.0 < length labels
      packed_below x h = labels_there x.0 (packed_first x h)

      module _ (out : List (PlainCellBox P)) (made : (d : P) → out ≡ map (named labels d) packed) where
        pub labelled_rows : (x : PlainCellBox P) → Among x out ↔ IsPackedRow k (Has labels) x
        labelled_rows x =
            let e = made x.0 in
            let j = among_map (named labels x.0) x packed in (
              λ h.
                  let w = j.0 (subst (Among x) e h) in
                  let n : ℕ = (w.0).0 in
                  let f = packed_first w.0 w.1 in
                  let at : IsRow labels n x.0 = subst (IsRow labels n) (ap (λ (y : PlainCellBox P). y.0) w.2) (some_row labels n x.0 (labels_there n f)) in
                  let p : IsPackedRow k (Has firsts) w.0 = (packed_rows k (Has firsts) parts packed grid_points is w.0).0 w.1 in
                  let b = packed_alike k (Has firsts n) (Has labels x.0) (λ grid_point g. has_first n x.0 f at grid_point) k (w.0).1 [] (omega arith) in
                  let s : (w.0).1 ≡ x.1 = ap (λ (y : PlainCellBox P). y.1) w.2 in
                  (subst (λ (y : List (ℕ × ℕ)). length y ≡ k) s p.0, subst (λ (y : List (ℕ × ℕ)). IsIndexPackedTo k (Has labels x.0) y []) s (b.0 p.1)),
              λ h.
                  let g = (some_grid_point k (Has labels x.0) x.1 [] h.1).1 in
                  let low = g.3.0 in
                  let m = row_there firsts g.0 (omega (arith, count, as_many)) in
                  let n : ℕ = m.0 in
                  let f = own g.0 n m.1 in
                  let at = label_first g.0 n x.0 m.1 g.3 in
                  let z : PlainCellBox ℕ = (n, x.1) in
                  let b = packed_alike k (Has firsts n) (Has labels x.0) (λ grid_point l. has_first n x.0 f at grid_point) k x.1 [] (omega arith) in
                  let c : Among z packed = (packed_rows k (Has firsts) parts packed grid_points is z).1 (h.0, b.1 h.1) in
                  let u : get_or labels n x.0 ≡ x.0 = at.1 in
                  subst (Among x) (sym e) (j.1 (z, c, λ t. (u t, x.1))),
            )

        pub labelled_sorted : IsStrictlySortedBy (key_cmp nat_cmp) packed → IsStrictlySortedBy (key_cmp order) out
        unfolding IsStrictlySortedBy
        labelled_sorted s = go out made
          where
            go : (zs : List (PlainCellBox P)) → ((d : P) → zs ≡ map (named labels d) packed) → IsStrictlySortedBy (key_cmp order) zs
            go [] e = tt
            go (z ∷ zs) e = subst (IsStrictlySortedBy (key_cmp order)) (sym (e z.0)) (named_sorted z.0 packed packed_first s)

        module _ (sides : All (λ (x : PlainCellBox ℕ). length x.1 ≡ k) parts) (ends : (z : PlainCellBox ℕ) → Among z parts → (x : PlainCellBox ℕ) × Among x keys × EndsBy x.1 z.1) where
          -- boxes that have the labels at their places cover them
          cover_by : (own_parts : List (PlainCellBox P)) → All (λ (x : PlainCellBox P). length x.1 ≡ k) own_parts → ((z : PlainCellBox P) → Among z own_parts → (y : List (ℕ × ℕ)) × IsBoxOf keys y × EndsBy y z.1)
              → ((l : P) (grid_point : List ℕ) → length grid_point ≡ k → HasRow own_parts l grid_point ↔ Has labels l grid_point) → IsPackedCover k (Has labels) (IsBoxOf keys) out
          cover_by own_parts a b c = record {
            parts = own_parts;
            sides = a;
            ends = b;
            grid_points = c;
            packed = λ x.
                let p = labelled_rows x in
                let q = packed_alike k (HasRow own_parts x.0) (Has labels x.0) (c x.0) k x.1 [] (omega arith) in
                (λ h. let w = p.0 h in (w.0, q.1 w.1), λ h. p.1 (h.0, q.0 h.1));
          }

          named_grid_points : (d : P) (l : P) (grid_point : List ℕ) → length grid_point ≡ k → HasRow (map (named labels d) parts) l grid_point ↔ Has labels l grid_point
          named_grid_points d l grid_point e = (
            λ h.
                let w = (among_map (named labels d) (l, h.0) parts).0 h.1 in
                let n : ℕ = (w.0).0 in
                let s : (w.0).1 ≡ h.0 = ap (λ (y : PlainCellBox P). y.1) w.2 in
                let g = (grid_points n grid_point e).0 ((w.0).1, w.1, subst (λ y. At y grid_point) (sym s) h.2) in
                let f = own g.0 n g.3 in
                let at : IsRow labels n l = subst (IsRow labels n) (ap (λ (y : PlainCellBox P). y.0) w.2) (some_row labels n d (labels_there n f)) in
                (has_first n l f at grid_point).0 g,
            λ h.
                let low = h.3.0 in
                let m = row_there firsts h.0 (omega (arith, count, as_many)) in
                let n : ℕ = m.0 in
                let f = own h.0 n m.1 in
                let at = label_first h.0 n l m.1 h.3 in
                let r = (grid_points n grid_point e).1 ((has_first n l f at grid_point).1 h) in
                let u : get_or labels n d ≡ l = get_or_default labels n d l at.0 ∙ at.1 in
                (r.0, (among_map (named labels d) (l, r.0) parts).1 ((n, r.0), r.1, λ t. (u t, r.0)), r.2),
          )

          pub labelled_cover : IsPackedCover k (Has labels) (IsBoxOf keys) out
          labelled_cover = go labels refl
            where
              go : (ls : List P) → ls ≡ labels → IsPackedCover k (Has labels) (IsBoxOf keys) out
              go [] e = cover_by [] (λ i x h. absurd (omega arith)) (λ z h. absurd h) (λ l grid_point f. (λ h. absurd h.1, λ h. let low = h.3.0 in let n : length {A = P} [] ≡ length labels = ap length e in absurd (omega (arith, n))))
              go (d ∷ ls) e = cover_by (map (named labels d) parts)
                  (All-map (λ (x : PlainCellBox P). length x.1 ≡ k) (named labels d) parts sides)
                  (λ z h.
                  let w = (among_map (named labels d) z parts).0 h in
                  let v = ends w.0 w.1 in
                  ((v.0).1, ((v.0).0, v.1), subst (EndsBy (v.0).1) (ap (λ (y : PlainCellBox P). y.1) w.2) v.2))
                  (named_grid_points d)

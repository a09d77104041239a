-- The steps of loops that list and count the places of boxes.
use Rattle.std.proofs.Common.{◌≡◌, ℕ, zero, suc, ◌+◌, ◌-◌, ◌*◌, ◌<◌, ◌≤◌, min, ℤ, pos, negsuc, ◌+ℤ◌, ◌-ℤ◌, ◌≤ℤ◌, List, [], ◌∷◌, ◌++◌, map, take, drop, length, get_or, inl, inr, arith, sym, ap, subst, refl, ◌∙◌, Ordering}
use Rattle.std.specs.Cmp.{IsTotalOrder}
use Rattle.std.specs.List.{flat_map, All}
use Rattle.std.proofs.Math.Nat.{mul-le-mul_left, mul-le-mul_right, mul_assoc}
use Rattle.std.proofs.lemmas.Bool.{cases_lt}
use Rattle.std.proofs.lemmas.Int.{ints}
use Rattle.std.proofs.lemmas.List.{append_assoc, append-nil, get_or_default}
use Rattle.base_core.specs.Sets.{in_order}
use Rattle.base_core.proofs.SetLemmas.{Separates, In, In-in_order}
use Rattle.interval_core.specs.Members.{Span, at_point, members, numbers_from, count_of}
use Rattle.interval_core.proofs.OperatorLemmas.{length-numbers_from}
use Rattle.cell_packing.specs.Packed.{Has}
use Rattle.cell_packing.specs.Covering.{Among}
use Rattle.cell_packing.specs.Boxed.{Boxed}
use Rattle.cell_packing.proofs.AmongLemmas.{among_map}
use Rattle.cell_packing.proofs.PackedBoxes.{among_in}
use Rattle.cell_core.specs.Boxes.{IsBox}
use Rattle.cell_core.specs.Cells.{box_numbers, row_numbers}
use Rattle.cell_core.specs.GridPoints.{grid_points, listing, Placed, placed_cmp, volume, total, IsGridPointOf}
use Rattle.cell_core.proofs.OrderLemmas.{placed_total, placed_separates}
use Rattle.cell_core.proofs.Listing.{in_listing}

-- ---- the members of a span

pub length_members : (i : Span) → i.0 ≤ℤ i.1 → pos (length (members i)) ≡ (i.1 +ℤ pos 1) -ℤ i.0
unfolding members
length_members i h = go ((i.1 +ℤ pos 1) -ℤ i.0) refl
  where
    go : (d : ℤ) → (i.1 +ℤ pos 1) -ℤ i.0 ≡ d → pos (length (numbers_from (count_of d) i.0)) ≡ d
    go (pos n) e = ap pos (length-numbers_from n i.0)
    go (negsuc n) e = absurd (omega (arith, ints))

numbers_last : (n : ℕ) (b : ℤ) → numbers_from (suc n) b ≡ numbers_from n b ++ (b +ℤ pos n) ∷ []
numbers_last zero b = let e : b ≡ b +ℤ pos 0 = omega (arith, ints) in ap (λ p. p ∷ []) e
numbers_last (suc n) b =
    let e : (b +ℤ pos 1) +ℤ pos n ≡ b +ℤ pos (suc n) = omega (arith, ints) in
    ap (λ ps. b ∷ ps) (numbers_last n (b +ℤ pos 1) ∙ ap (λ p. numbers_from n (b +ℤ pos 1) ++ p ∷ []) e)

pub no_members : (b : ℤ) → members (b, b -ℤ pos 1) ≡ []
unfolding members
no_members b = let e : ((b -ℤ pos 1) +ℤ pos 1) -ℤ b ≡ pos 0 = omega (arith, ints) in ap (λ d. numbers_from (count_of d) b) e

pub one_more_member : (b n : ℤ) → b ≤ℤ n → members (b, n) ≡ members (b, n -ℤ pos 1) ++ n ∷ []
unfolding members
one_more_member b n h = go ((n +ℤ pos 1) -ℤ b) refl
  where
    go : (d : ℤ) → (n +ℤ pos 1) -ℤ b ≡ d → numbers_from (count_of d) b ≡ numbers_from (count_of (((n -ℤ pos 1) +ℤ pos 1) -ℤ b)) b ++ n ∷ []
    go (pos zero) e = absurd (omega (arith, ints))
    go (pos (suc m)) e =
        let d : ((n -ℤ pos 1) +ℤ pos 1) -ℤ b ≡ pos m = omega (arith, ints) in
        let l : b +ℤ pos m ≡ n = omega (arith, ints) in
        numbers_last m b ∙ (λ t. numbers_from (count_of (sym d t)) b ++ l t ∷ [])
    go (negsuc m) e = absurd (omega (arith, ints))

flat_append : {X Y : Type 0} (f : X → List Y) (xs ys : List X) → flat_map f (xs ++ ys) ≡ flat_map f xs ++ flat_map f ys
flat_append f [] ys = refl
flat_append f (x ∷ xs) ys = ap (λ zs. f x ++ zs) (flat_append f xs ys) ∙ sym (append_assoc (f x) (flat_map f xs) (flat_map f ys))

-- the places with one more number before them
pub one_more_number : {Y : Type 0} (f : ℤ → List Y) (b n : ℤ) (old new : List Y) → b ≤ℤ n → old ≡ flat_map f (members (b, n -ℤ pos 1)) → new ≡ old ++ f n → new ≡ flat_map f (members (b, n))
one_more_number f b n old new h inv push =
    push ∙ (λ t. inv t ++ sym (append-nil (f n)) t) ∙ sym (flat_append f (members (b, n -ℤ pos 1)) (n ∷ [])) ∙ ap (flat_map f) (sym (one_more_member b n h))

-- ---- counting

-- what is cut at m, times p and cut again
pub cut_times : (v p m : ℕ) → min (min v m * p) m ≡ min (v * p) m
cut_times v p m = elim (cases_lt m v) [
  | inr l ↦ let e : min v m ≡ v = omega arith in ap (λ w. min (w * p) m) e
  | inl l ↦ let e : min v m ≡ m = omega arith in ap (λ w. min (w * p) m) e ∙ over l p
]
  where
    over : m < v → (p : ℕ) → min (m * p) m ≡ min (v * p) m
    over l zero = let a : m * 0 ≡ 0 = omega arith in let b : v * 0 ≡ 0 = omega arith in omega arith
    over l (suc q) =
        let a : m * 1 ≤ m * suc q = mul-le-mul_left m (omega arith) in
        let b : m * suc q ≤ v * suc q = mul-le-mul_right (suc q) (omega arith) in
        let c : m * 1 ≡ m = omega arith in
        omega arith

pub cut_plus : (a b m : ℕ) → min (min a m + min b m) m ≡ min (a + b) m
cut_plus a b m = omega arith

pub one_more_factor : (spans : List Span) (j : ℕ) (i : Span) → j < length spans → i ≡ get_or spans j i → volume (take (suc j) spans) ≡ volume (take j spans) * length (members i)
one_more_factor [] j i h e = absurd (omega arith)
one_more_factor (x ∷ xs) zero i h e = let q : length (members x) ≡ length (members i) = ap (λ s. length (members s)) (sym e) in omega arith
one_more_factor (x ∷ xs) (suc j) i h e =
    ap (λ n. length (members x) * n) (one_more_factor xs j i (omega arith) e) ∙ sym (mul_assoc (length (members x)) (volume (take j xs)) (length (members i)))

pub one_more_volume : {X P : Type 0} (f : X → Boxed P) (rows : List X) (j : ℕ) (x : X) → j < length rows → x ≡ get_or rows j x → total (map f (take (suc j) rows)) ≡ total (map f (take j rows)) + volume (f x).1
one_more_volume f [] j x h e = absurd (omega arith)
one_more_volume f (y ∷ ys) zero x h e = let q : volume (f y).1 ≡ volume (f x).1 = ap (λ z. volume (f z).1) (sym e) in omega arith
one_more_volume f (y ∷ ys) (suc j) x h e = let ih = one_more_volume f ys j x (omega arith) e in omega arith

-- ---- listing

pub one_more_listing : {X P : Type 0} (f : X → Boxed P) (rows : List X) (j : ℕ) (x : X) → j < length rows → x ≡ get_or rows j x
    → listing (map f (take (suc j) rows)) ≡ listing (map f (take j rows)) ++ map (λ ps. ((f x).0, ps)) (grid_points (f x).1)
one_more_listing f [] j x h e = absurd (omega arith)
one_more_listing {P = P} f (y ∷ ys) zero x h e =
    append-nil (map (λ ps. ((f y).0, ps)) (grid_points (f y).1)) ∙ ap (λ z. map (λ ps. ((f z).0, ps)) (grid_points (f z).1)) (sym e)
one_more_listing {P = P} f (y ∷ ys) (suc j) x h e =
    let first : List (Placed P) = map (λ ps. ((f y).0, ps)) (grid_points (f y).1) in
    ap (λ zs. first ++ zs) (one_more_listing f ys j x (omega arith) e) ∙ sym (append_assoc first (listing (map f (take j ys))) (map (λ ps. ((f x).0, ps)) (grid_points (f x).1)))

-- the last j + 1 sides
drop_more : (xs : List Span) (j : ℕ) (i : Span) → j < length xs → i ≡ get_or xs j i → drop j xs ≡ i ∷ drop (suc j) xs
drop_more [] j i h e = absurd (omega arith)
drop_more (x ∷ xs) zero i h e = ap (λ y. y ∷ xs) (sym e)
drop_more (x ∷ xs) (suc j) i h e = drop_more xs j i (omega arith) e

pub one_more_side : (spans : List Span) (j at : ℕ) (i : Span) (old new : List (List ℤ)) → j < length spans → at ≡ length spans - 1 - j → i ≡ get_or spans at i
    → old ≡ grid_points (drop (length spans - j) spans) → new ≡ flat_map (λ p. map (λ ps. p ∷ ps) old) (members i) → new ≡ grid_points (drop (length spans - (j + 1)) spans)
one_more_side spans j at i old new h ea e inv step =
    let a : length spans - j ≡ suc at = omega arith in
    let b : at ≡ length spans - (j + 1) = omega arith in
    let d : drop at spans ≡ i ∷ drop (suc at) spans = drop_more spans at i (omega arith) e in
    step ∙ ap (λ ys. flat_map (λ p. map (λ ps. p ∷ ps) ys) (members i)) (inv ∙ ap (λ n. grid_points (drop n spans)) a) ∙ ap grid_points (sym d) ∙ ap (λ n. grid_points (drop n spans)) b

-- ---- places of types

module _ {T : Type 0} (first last : T → ℤ) where
  pub grid_point_count : (ts : List T) (ps : List ℤ) → IsGridPointOf first last ts ps → length ps ≡ length ts
  grid_point_count [] [] h = refl
  grid_point_count [] (p ∷ ps) h = absurd h
  grid_point_count (t ∷ ts) [] h = absurd h
  grid_point_count (t ∷ ts) (p ∷ ps) h = ap suc (grid_point_count ts ps h.1)

  pub grid_point_at : (ts : List T) (ps : List ℤ) → IsGridPointOf first last ts ps → (j : ℕ) (t : T) → j < length ts → (first (get_or ts j t) ≤ℤ get_or ps j (pos 0)) × (get_or ps j (pos 0) ≤ℤ last (get_or ts j t))
  grid_point_at [] ps h j t l = absurd (omega arith)
  grid_point_at (u ∷ ts) [] h j t l = absurd h
  grid_point_at (u ∷ ts) (p ∷ ps) h zero t l = h.0
  grid_point_at (u ∷ ts) (p ∷ ps) h (suc j) t l = grid_point_at ts ps h.1 j t (omega arith)

  -- the places of a box of the types
  pub grid_point_of_box : {P : Type 0} (n : P → ℤ) (has : T → P → Type 0) → ((t : T) (p : P) → has t p → (first t ≤ℤ n p) × (n p ≤ℤ last t)) → (ts : List T) (sides : List (P × P)) (ps : List ℤ) → IsBox has ts sides → Has (box_numbers n sides) ps → IsGridPointOf first last ts ps
  grid_point_of_box n has within [] [] [] b h = tt
  grid_point_of_box n has within [] [] (p ∷ ps) b h = absurd h
  grid_point_of_box n has within [] (i ∷ is) ps b h = absurd b
  grid_point_of_box n has within (t ∷ ts) [] ps b h = absurd b
  grid_point_of_box n has within (t ∷ ts) (i ∷ is) [] b h = absurd h
  grid_point_of_box n has within (t ∷ ts) (i ∷ is) (p ∷ ps) b h =
      let low = within t i.0 b.0.0 in
      let high = within t i.1 b.0.1 in
      let x : first t ≤ℤ n i.0 = low.0 in
      let y : n i.1 ≤ℤ last t = high.1 in
      let u : n i.0 ≤ℤ p = h.0 in
      let v : p ≤ℤ n i.1 = h.1 in
      ((omega (arith, ints), omega (arith, ints)), grid_point_of_box n has within ts is ps b.1 h.2)

  -- a listed place of boxes of the types
  pub listed_grid_point : {P L : Type 0} (order : L → L → Ordering) (o : IsTotalOrder order) (same : Separates order) (n : P → ℤ) (has : T → P → Type 0) → ((t : T) (p : P) → has t p → (first t ≤ℤ n p) × (n p ≤ℤ last t)) → (ts : List T) (rows : List (L × List (P × P)))
      → All (λ r. IsBox has ts r.1) rows → (list : List (Placed L)) → list ≡ in_order (placed_cmp order) (listing (map (row_numbers n) rows)) → (x : Placed L) → Among x list → IsGridPointOf first last ts x.1
  listed_grid_point {P = P} {L = L} order o same n has within ts rows boxes list e x m =
      let all : List (Placed L) = listing (map (row_numbers n) rows) in
      let i : In x all = (In-in_order (placed_cmp order) (placed_total o) (placed_separates same) x all).0 ((among_in x (in_order (placed_cmp order) all)).0 (subst (Among x) e m)) in
      let b = (in_listing (map (row_numbers n) rows) x.0 x.1).0 i in
      let r = (among_map (row_numbers n) (x.0, b.0) rows).0 b.1 in
      let q : box_numbers n (r.0).1 ≡ b.0 = ap (λ (z : Boxed L). z.1) r.2 in
      grid_point_of_box n has within ts (r.0).1 x.1 (at rows r.0 r.1 boxes) (subst (λ z. Has z x.1) (sym q) b.2)
    where
      at : (xs : List (L × List (P × P))) (y : L × List (P × P)) → Among y xs → All (λ r. IsBox has ts r.1) xs → IsBox has ts y.1
      at [] y m h = absurd m
      at (z ∷ zs) y m h = elim m [
        | inl e ↦ subst (λ (w : L × List (P × P)). IsBox has ts w.1) e (h 0 z (omega arith))
        | inr w ↦ at zs y w (λ k d l. h (suc k) d (omega arith))
      ]

-- boxes of one number on each side
pub one_more_span : {P : Type 0} (n : P → ℤ) (sides : List (P × P)) (j : ℕ) (i : P × P) → j < length sides → i ≡ get_or sides j i → box_numbers n (take (suc j) sides) ≡ box_numbers n (take j sides) ++ (n i.0, n i.1) ∷ []
one_more_span n [] j i h e = absurd (omega arith)
one_more_span n (x ∷ xs) zero i h e = ap (λ y. (n y.0, n y.1) ∷ []) (sym e)
one_more_span n (x ∷ xs) (suc j) i h e = ap (λ ys. (n x.0, n x.1) ∷ ys) (one_more_span n xs j i (omega arith) e)

pub one_more_point : (ps : List ℤ) (j : ℕ) (p : ℤ) → j < length ps → p ≡ get_or ps j (pos 0) → map at_point (take (suc j) ps) ≡ map at_point (take j ps) ++ at_point p ∷ []
one_more_point [] j p h e = absurd (omega arith)
one_more_point (q ∷ ps) zero p h e = ap (λ y. at_point y ∷ []) (sym e)
one_more_point (q ∷ ps) (suc j) p h e = ap (λ ys. at_point q ∷ ys) (one_more_point ps j p (omega arith) e)

pub numbers_push : {P : Type 0} (n : P → ℤ) (sides : List (P × P)) (i : P × P) → box_numbers n (sides ++ i ∷ []) ≡ box_numbers n sides ++ (n i.0, n i.1) ∷ []
numbers_push n [] i = refl
numbers_push n (x ∷ xs) i = ap (λ ys. (n x.0, n x.1) ∷ ys) (numbers_push n xs i)

-- one more side, at a step of the product
pub volume_step : (m : ℕ) (spans : List Span) (j product count new : ℕ) → j < length spans → All (λ i. i.0 ≤ℤ i.1) spans → pos count ≡ ((get_or spans j (pos 0, pos 0)).1 +ℤ pos 1) -ℤ (get_or spans j (pos 0, pos 0)).0
    → product ≡ min (volume (take j spans)) m → new ≡ min (product * count) m → new ≡ min (volume (take (j + 1) spans)) m
volume_step m spans j product count new h all ec inv step =
    let i : Span = get_or spans j (pos 0, pos 0) in
    let l : pos (length (members i)) ≡ (i.1 +ℤ pos 1) -ℤ i.0 = length_members i (all j (pos 0, pos 0) h) in
    let n : count ≡ length (members i) = omega (arith, ints) in
    let s : suc j ≡ j + 1 = omega arith in
    let f : volume (take (suc j) spans) ≡ volume (take j spans) * length (members i) = one_more_factor spans j i h (get_or_default spans j (pos 0, pos 0) i h) in
    step ∙ (λ t. min (inv t * n t) m) ∙ cut_times (volume (take j spans)) (length (members i)) m ∙ ap (λ v. min v m) (sym f) ∙ ap (λ k. min (volume (take k spans)) m) s

-- one more row, at a step of the sum
pub count_step : {X P : Type 0} (f : X → Boxed P) (m : ℕ) (rows : List X) (i : ℕ) (x : X) (sum v new : ℕ) (spans : List Span) → i < length rows → x ≡ get_or rows i x
    → sum ≡ min (total (map f (take i rows))) m → v ≡ min (volume spans) m → spans ≡ (f x).1 → new ≡ min (sum + v) m → new ≡ min (total (map f (take (i + 1) rows))) m
count_step f m rows i x sum v new spans h e inv ev es step =
    let s : suc i ≡ i + 1 = omega arith in
    let w : v ≡ min (volume (f x).1) m = ev ∙ ap (λ ys. min (volume ys) m) es in
    step ∙ (λ t. min (inv t + w t) m) ∙ cut_plus (total (map f (take i rows))) (volume (f x).1) m ∙ ap (λ n. min n m) (sym (one_more_volume f rows i x h e)) ∙ ap (λ n. min (total (map f (take n rows))) m) s

-- one more row, at a step of the listing
pub listing_step : {X P : Type 0} (f : X → Boxed P) (rows : List X) (i : ℕ) (x : X) (out new : List (Placed P)) (label : P) (list : List (List ℤ)) → i < length rows → x ≡ get_or rows i x
    → out ≡ listing (map f (take i rows)) → new ≡ out ++ map (λ ps. (label, ps)) list → label ≡ (f x).0 → list ≡ grid_points (f x).1 → new ≡ listing (map f (take (i + 1) rows))
listing_step f rows i x out new label list h e inv push el es =
    let s : suc i ≡ i + 1 = omega arith in
    push ∙ (λ t. inv t ++ map (λ ps. (el t, ps)) (es t)) ∙ sym (one_more_listing f rows i x h e) ∙ ap (λ n. listing (map f (take n rows))) s

-- a sum cut at m, against a limit below m
pub more_than : (sum t l limit m : ℕ) → sum ≡ min t m → l ≡ t → limit < sum → limit < l
more_than sum t l limit m e f h = omega arith

pub not_more : (sum t l limit m : ℕ) → sum ≡ min t m → l ≡ t → sum ≤ limit → limit < m → (sum ≡ l) × (l ≤ limit)
not_more sum t l limit m e f h g = (omega arith, omega arith)

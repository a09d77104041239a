-- From the slices over live rows to the cells of the function over points.
use Rattle.std.proofs.Common.{◌≡◌, ℕ, zero, suc, ◌+◌, ◌-◌, ◌<◌, ◌≤◌, Bool, true, false, cond, ◌≢◌, ℤ, pos, ◌-ℤ◌, ◌≤ℤ◌, ◌<ℤ◌, List, [], ◌∷◌, ◌++◌, map, length, get_or, ◌↔◌, ◌⊎◌, inl, inr, arith, sym, ap, subst, refl, ◌∙◌, Err}
use Rattle.std.specs.List.{filter, AllByRecursion}
use Rattle.std.specs.List.Sorted.{IsStrictlySortedBy}
use Rattle.std.specs.declared.cmp.Ordering.TheVariants.{Less, Equal, Greater}
use Rattle.std.specs.Ordering.{nat_cmp, int_cmp, ordering_then}
use Rattle.std.specs.Cmp.Lexicographic.{slice_cmp}
use Rattle.std.proofs.Common.{Ordering}
use Rattle.std.proofs.lemmas.Cmp.{int_ranked}
use Rattle.std.proofs.lemmas.Bool.{cases_lt}
use Rattle.std.proofs.lemmas.Bool.Decides.{nat_tests}
use Rattle.std.proofs.lemmas.Int.{ints}
use Rattle.interval_core.specs.Members.{Span, at_point}
use Rattle.cell_packing.specs.Packed.{packs, points_of, firsts, nowhere, onto}
use Rattle.std.proofs.Common.{set}
use Rattle.base_core.proofs.OrderingLemmas.{lt-nat_cmp}
use Rattle.cell_packing.specs.Covering.{Among, Gives, has, passing, covering, InCells, CellFunction}
use Rattle.cell_packing.specs.Live.{box, InLive, IsSliceRow, IsSomewhere}
use Rattle.cell_packing.proofs.Runs.{IsRun-iff}
use Rattle.cell_packing.proofs.AmongLemmas.{among_map}
use Rattle.cell_packing.proofs.Covered.{IsInGrid}
use Rattle.cell_packing.proofs.Whole.{onto_cells, cells_back, cuts_back, length_back, length_box}
use Rattle.cell_packing.proofs.Cells.{Cuts, OnGrid, grid_point_of, box_of, span_of, cell_of, rises_far}
use Rattle.cell_packing.proofs.Chain.{Fits, InGridPoints, on, same, slices_are_packed, packed_some, length_onto_cells}
use Rattle.cell_sweep.specs.Rows.{own_numbers, GivesLabel, GivesFault, key_cmp, pair_cmp}
use Rattle.cell_core.specs.Cells.{IsPackedRow, HasFault, rows_from}
use Rattle.cell_packing.specs.Boxed.{boxed_cmp, span_cmp}

-- ---- numbers of rows

passing_by : {X : Type 0} (t : X → Bool) (d : X) (pre xs : List X) → filter (λ r. t (get_or (pre ++ xs) r d)) (rows_from (length pre) (length xs)) ≡ passing t (length pre) xs
passing_by t d pre [] = refl
passing_by {X = X} t d pre (x ∷ xs) =
    let e : (pre ++ x ∷ []) ++ xs ≡ pre ++ x ∷ xs = assoc pre x xs in
    let n : length (pre ++ x ∷ []) ≡ suc (length pre) = longer pre x in
    let at : get_or (pre ++ x ∷ xs) (length pre) d ≡ x = here pre x xs in
    let ih : filter (λ r. t (get_or (pre ++ x ∷ xs) r d)) (rows_from (suc (length pre)) (length xs)) ≡ passing t (suc (length pre)) xs =
    subst (λ m. filter (λ r. t (get_or (pre ++ x ∷ xs) r d)) (rows_from m (length xs)) ≡ passing t m xs) n
    (subst (λ ys. filter (λ r. t (get_or ys r d)) (rows_from (length (pre ++ x ∷ [])) (length xs)) ≡ passing t (length (pre ++ x ∷ [])) xs) e (passing_by t d (pre ++ x ∷ []) xs)) in
    λ i. cond (t (at i)) (length pre ∷ ih i) (ih i)
  where
    assoc : (a : List X) (x : X) (b : List X) → (a ++ x ∷ []) ++ b ≡ a ++ x ∷ b
    assoc [] x b = refl
    assoc (y ∷ a) x b = ap (λ z. y ∷ z) (assoc a x b)

    longer : (a : List X) (x : X) → length (a ++ x ∷ []) ≡ suc (length a)
    longer [] x = refl
    longer (y ∷ a) x = ap suc (longer a x)

    here : (a : List X) (x : X) (b : List X) → get_or (a ++ x ∷ b) (length a) d ≡ x
    here [] x b = refl
    here (y ∷ a) x b = here a x b

-- numbers less the first ones
lowered_passing : {X : Type 0} (t : X → Bool) (n m : ℕ) (xs : List X) → own_numbers n (passing t (n + m) xs) ≡ passing t m xs
lowered_passing t n m [] = refl
lowered_passing t n m (x ∷ xs) =
    let e : suc (n + m) ≡ n + suc m = omega arith in
    let q : (n + m) - n ≡ m = omega arith in
    let ih : own_numbers n (passing t (suc (n + m)) xs) ≡ passing t (suc m) xs = ap (λ k. own_numbers n (passing t k xs)) e ∙ lowered_passing t n (suc m) xs in
    elim (t x) as (λ b. own_numbers n (cond b ((n + m) ∷ passing t (suc (n + m)) xs) (passing t (suc (n + m)) xs)) ≡ cond b (m ∷ passing t (suc m) xs) (passing t (suc m) xs)) [
      | true ↦ λ i. q i ∷ ih i
      | false ↦ ih
    ]

lowered_some : (n : ℕ) (xs : List ℕ) → (xs ≢ []) ↔ (own_numbers n xs ≢ [])
lowered_some n [] = (λ h. h, λ h. h)
lowered_some n (x ∷ xs) = (λ h e. cc, λ h e. cc)

-- ---- sets that are the same have the same packed form

pub packs-iff : (k : ℕ) (S S' : List Span → Type 0) → ((y : List Span) → S y ↔ S' y) → (y : List Span) → packs k S y ↔ packs k S' y
packs-iff zero S S' h y = h y
packs-iff (suc k) S S' h y = (
  IsRun-iff _ _ (λ p. packs-iff k S S' h (set y k (at_point p))) (get_or y k nowhere),
  IsRun-iff _ _ (λ p. let w = packs-iff k S S' h (set y k (at_point p)) in (w.1, w.0)) (get_or y k nowhere),
)

pub points-iff : (S S' : List ℤ → Type 0) → ((ps : List ℤ) → S ps ↔ S' ps) → (y : List Span) → points_of S y ↔ points_of S' y
points-iff S S' h y = (λ w. (w.0, (h (firsts y)).0 w.1), λ w. (w.0, (h (firsts y)).1 w.1))

-- ---- places

pub onto_twice : (ps rs : List ℤ) → onto (onto ps rs) [] ≡ onto rs ps
onto_twice [] rs = refl
onto_twice (p ∷ ps) rs = onto_twice ps (p ∷ rs)

pub length_onto : (ps rs : List ℤ) → length (onto ps rs) ≡ length ps + length rs
length_onto [] rs = omega arith
length_onto (p ∷ ps) rs = let w = length_onto ps (p ∷ rs) in omega arith

onto_cells_twice : (ps rs : List ℕ) → onto_cells (onto_cells ps rs) [] ≡ onto_cells rs ps
onto_cells_twice [] rs = refl
onto_cells_twice (p ∷ ps) rs = onto_cells_twice ps (p ∷ rs)

length_grid_point : (gs : List Cuts) (is : List ℕ) → length is ≡ length gs → length (grid_point_of gs is) ≡ length gs
length_grid_point [] is e = refl
length_grid_point (g ∷ gs) [] e = absurd (omega arith)
length_grid_point (g ∷ gs) (i ∷ is) e = ap suc (length_grid_point gs is (omega arith))

-- a place of the set has cells, and the first numbers of these cells are in the set
grid_cell : (gs : List Cuts) (S : List ℤ → Type 0) → OnGrid gs S → (ps : List ℤ) → length ps ≡ length gs → S ps → (is : List ℕ) × (length is ≡ length gs) × S (grid_point_of gs is)
grid_cell [] S o [] e h = ([], refl, h)
grid_cell [] S o (p ∷ ps) e h = absurd (omega arith)
grid_cell (g ∷ gs) S o [] e h = absurd (omega arith)
grid_cell (g ∷ gs) S o (p ∷ ps) e h =
    let w = (o.0 ps).inside p h in
    let c = cell_of g g.count p w.0 w.1 in
    let i : ℕ = c.0 in
    let a : g.at i ≤ℤ p = c.1 in
    let b : p <ℤ g.at (suc i) = c.2 in
    let s : S (g.at i ∷ ps) = (o.0 ps).alike i p (g.at i) a b (omega (arith, ints)) (g.rises i) h in
    let r = grid_cell gs (λ qs. S (g.at i ∷ qs)) (o.1 (g.at i)) ps (omega arith) s in
    (i ∷ r.0, ap suc r.1, r.2)

-- ---- the order of cells is the order of their numbers

int_less : (x y : ℤ) → x <ℤ y → int_cmp x y ≡ Less
int_less x y h = go (int_cmp x y) refl
  where
    go : (r : Ordering) → r ≡ int_cmp x y → int_cmp x y ≡ Less
    go Less e = sym e
    go Equal e = let w : x ≡ y = int_ranked x y Equal e in absurd (omega (arith, ints))
    go Greater e = let w : y <ℤ x = int_ranked x y Greater e in absurd (omega (arith, ints))

int_more : (x y : ℤ) → y <ℤ x → int_cmp x y ≡ Greater
int_more x y h = go (int_cmp x y) refl
  where
    go : (r : Ordering) → r ≡ int_cmp x y → int_cmp x y ≡ Greater
    go Less e = let w : x <ℤ y = int_ranked x y Less e in absurd (omega (arith, ints))
    go Equal e = let w : x ≡ y = int_ranked x y Equal e in absurd (omega (arith, ints))
    go Greater e = sym e

int_same : (x y : ℤ) → x ≡ y → int_cmp x y ≡ Equal
int_same x y h = go (int_cmp x y) refl
  where
    go : (r : Ordering) → r ≡ int_cmp x y → int_cmp x y ≡ Equal
    go Less e = let w : x <ℤ y = int_ranked x y Less e in absurd (omega (arith, ints))
    go Equal e = sym e
    go Greater e = let w : y <ℤ x = int_ranked x y Greater e in absurd (omega (arith, ints))

nat_more : (a b : ℕ) → b < a → nat_cmp a b ≡ Greater
nat_more a b h = grind (arith, nat_tests)

nat_same : (a b : ℕ) → a ≡ b → nat_cmp a b ≡ Equal
nat_same a b h = grind (arith, nat_tests)

at_cmp : (g : Cuts) (a b : ℕ) (c : ℤ) → int_cmp (g.at a -ℤ c) (g.at b -ℤ c) ≡ nat_cmp a b
at_cmp g a b c =
    elim (cases_lt a b) [
      | inl l ↦ let f = rises_far g (suc a) b l in let r = g.rises a in int_less (g.at a -ℤ c) (g.at b -ℤ c) (omega (arith, ints)) ∙ sym (lt-nat_cmp a b l)
      | inr l ↦ elim (cases_lt b a) [
        | inl m ↦ let f = rises_far g (suc b) a m in let r = g.rises b in int_more (g.at a -ℤ c) (g.at b -ℤ c) (omega (arith, ints)) ∙ sym (nat_more a b m)
        | inr m ↦ let e : a ≡ b = omega arith in int_same (g.at a -ℤ c) (g.at b -ℤ c) (ap (λ i. g.at i -ℤ c) e) ∙ sym (nat_same a b e)
      ]
    ]

at_cmp_first : (g : Cuts) (a b : ℕ) → int_cmp (g.at a) (g.at b) ≡ nat_cmp a b
at_cmp_first g a b =
    let e : g.at a -ℤ pos 0 ≡ g.at a = omega (arith, ints) in
    let f : g.at b -ℤ pos 0 ≡ g.at b = omega (arith, ints) in
    subst (λ x. int_cmp x (g.at b) ≡ nat_cmp a b) e (subst (λ y. int_cmp (g.at a -ℤ pos 0) y ≡ nat_cmp a b) f (at_cmp g a b (pos 0)))

span_order : (g : Cuts) (x y : ℕ × ℕ) → span_cmp (span_of g x) (span_of g y) ≡ pair_cmp x y
span_order g x y = λ t. ordering_then (at_cmp_first g x.0 y.0 t) (at_cmp g x.1 y.1 (pos 1) t)

pub box_order : (gs : List Cuts) (xs ys : List (ℕ × ℕ)) → length xs ≡ length gs → length ys ≡ length gs → slice_cmp span_cmp (box_of gs xs) (box_of gs ys) ≡ slice_cmp pair_cmp xs ys
box_order [] [] [] e f = refl
box_order [] [] (y ∷ ys) e f = absurd (omega arith)
box_order [] (x ∷ xs) ys e f = absurd (omega arith)
box_order (g ∷ gs) [] ys e f = absurd (omega arith)
box_order (g ∷ gs) (x ∷ xs) [] e f = absurd (omega arith)
box_order (g ∷ gs) (x ∷ xs) (y ∷ ys) e f = λ t. ordering_then (span_order g x y t) (box_order gs xs ys (omega arith) (omega arith) t)

-- a row of cells by its numbers
abbrev pub row_of : {L : Type 0} → List Cuts → L × List (ℕ × ℕ) → L × List Span
row_of gs x = (x.0, box_of gs x.1)

module _ {L : Type 0} (order : L → L → Ordering) (gs : List Cuts) where
  all_after : (x : L × List (ℕ × ℕ)) (xs : List (L × List (ℕ × ℕ))) → length x.1 ≡ length gs → AllByRecursion (λ y. length y.1 ≡ length gs) xs → AllByRecursion (λ y. key_cmp order x y ≡ Less) xs → AllByRecursion (λ y. boxed_cmp order (row_of gs x) y ≡ Less) (map (row_of gs) xs)
  all_after x [] e n h = tt
  all_after x (y ∷ ys) e n h = (ap (ordering_then (order x.0 y.0)) (box_order gs x.1 y.1 e n.0) ∙ h.0, all_after x ys e n.1 h.1)

  pub rows_in_order : (xs : List (L × List (ℕ × ℕ))) → AllByRecursion (λ y. length y.1 ≡ length gs) xs → IsStrictlySortedBy (key_cmp order) xs → IsStrictlySortedBy (boxed_cmp order) (map (row_of gs) xs)
  unfolding IsStrictlySortedBy
  rows_in_order [] n h = tt
  rows_in_order (x ∷ xs) n h = (all_after x xs n.0 n.1 h.0, rows_in_order xs n.1 h.1)

-- ---- the whole

module _ {L F : Type 0} (f : CellFunction L F) (d : Cuts) (gs : List Cuts) (boxes : List (List (ℕ × ℕ))) (lefts rights : List (List Span))
    (matches : (r : ℕ) → r < length lefts + length rights → box_of gs (box boxes r) ≡ get_or (lefts ++ rights) r [])
    (fits : (r : ℕ) → r < length lefts + length rights → (length (box boxes r) ≡ length gs) × IsInGrid (cuts_back d (length gs) gs) (cells_back (length gs) (box boxes r))) where
  abbrev k : ℕ
  k = length gs

  abbrev n : ℕ
  n = length lefts

  abbrev live_left : List ℕ
  live_left = rows_from 0 n

  abbrev live_right : List ℕ
  live_right = rows_from n (length rights)

  all_of : (P : ℕ → Type 0) (a m : ℕ) → ((r : ℕ) → a ≤ r → r < a + m → P r) → AllByRecursion P (rows_from a m)
  all_of P a zero h = tt
  all_of P a (suc m) h = (h a (omega arith) (omega arith), all_of P (suc a) m (λ r l b. h r (omega arith) (omega arith)))

  filter_same : (t u : ℕ → Bool) (a m : ℕ) → ((r : ℕ) → a ≤ r → r < a + m → t r ≡ u r) → filter t (rows_from a m) ≡ filter u (rows_from a m)
  filter_same t u a zero h = refl
  filter_same t u a (suc m) h =
      let e = h a (omega arith) (omega arith) in
      let ih = filter_same t u (suc a) m (λ r l b. h r (omega arith) (omega arith)) in
      λ i. cond (e i) (a ∷ ih i) (ih i)

  left_rows : (grid_point : List ℤ) → filter (λ r. has (box_of gs (box boxes r)) grid_point) live_left ≡ covering lefts grid_point
  left_rows grid_point =
      filter_same _ (λ r. has (get_or lefts r []) grid_point) 0 n (λ r l b. ap (λ y. has y grid_point) (matches r (omega arith) ∙ prefix lefts rights r (omega arith)))
      ∙ passing_by (λ x. has x grid_point) [] [] lefts
    where
      prefix : (xs ys : List (List Span)) (r : ℕ) → r < length xs → get_or (xs ++ ys) r [] ≡ get_or xs r []
      prefix [] ys r h = absurd (omega arith)
      prefix (x ∷ xs) ys zero h = refl
      prefix (x ∷ xs) ys (suc r) h = prefix xs ys r (omega arith)

  right_rows : (grid_point : List ℤ) → filter (λ r. has (box_of gs (box boxes r)) grid_point) live_right ≡ passing (λ x. has x grid_point) n rights
  right_rows grid_point =
      filter_same _ (λ r. has (get_or (lefts ++ rights) r []) grid_point) n (length rights) (λ r l b. ap (λ y. has y grid_point) (matches r b))
      ∙ passing_by (λ x. has x grid_point) [] lefts rights

  right_lowered : (grid_point : List ℤ) → own_numbers n (passing (λ x. has x grid_point) n rights) ≡ covering rights grid_point
  right_lowered grid_point =
      let e : n ≡ n + 0 = omega arith in
      ap (λ m. own_numbers n (passing (λ x. has x grid_point) m rights)) e ∙ lowered_passing (λ x. has x grid_point) n 0 rights

  -- any question asked of the covering rows
  asked : {Q : Type 0} (G : Q → List ℕ → List ℕ → Type 0) (q : Q) (grid_point : List ℤ) →
      InGridPoints d gs (λ q a b. G q a (own_numbers n b)) boxes live_left live_right q grid_point ↔ (((covering lefts grid_point ≢ []) ⊎ (covering rights grid_point ≢ [])) × G q (covering lefts grid_point) (covering rights grid_point))
  asked G q grid_point =
      let a = left_rows grid_point in
      let b = right_rows grid_point in
      let c : own_numbers n (filter (λ r. has (box_of gs (box boxes r)) grid_point) live_right) ≡ covering rights grid_point = ap (own_numbers n) b ∙ right_lowered grid_point in
      let B = filter (λ r. has (box_of gs (box boxes r)) grid_point) live_right in
      let s = lowered_some n B in (
        λ h. (
          elim h.0 [ inl w ↦ inl (subst (λ xs. xs ≢ []) a w) | inr w ↦ inr (subst (λ xs. xs ≢ []) c (s.0 w)) ],
          subst (λ xs. G q xs (covering rights grid_point)) a (subst (λ xs. G q (filter (λ r. has (box_of gs (box boxes r)) grid_point) live_left) xs) c h.1),
        ),
        λ h. (
          elim h.0 [ inl w ↦ inl (subst (λ xs. xs ≢ []) (sym a) w) | inr w ↦ inr (s.1 (subst (λ xs. xs ≢ []) (sym c) w)) ],
          subst (λ xs. G q (filter (λ r. has (box_of gs (box boxes r)) grid_point) live_left) xs) (sym c) (subst (λ xs. G q xs (covering rights grid_point)) (sym a) h.1),
        ),
      )

  fit_left : {Q : Type 0} (G : Q → List ℕ → List ℕ → Type 0) (q : Q) → AllByRecursion (Fits d gs G boxes live_left live_right q) live_left
  fit_left G q = all_of (Fits d gs G boxes live_left live_right q) 0 n (λ r l b. fits r (omega arith))

  fit_right : {Q : Type 0} (G : Q → List ℕ → List ℕ → Type 0) (q : Q) → AllByRecursion (Fits d gs G boxes live_left live_right q) live_right
  fit_right G q = all_of (Fits d gs G boxes live_left live_right q) n (length rights) (λ r l b. fits r b)

  abbrev G1 : L → List ℕ → List ℕ → Type 0
  G1 = GivesLabel f n

  set_same : (l : L) (y : List Span) → packs k (points_of (InGridPoints d gs G1 boxes live_left live_right l)) y ↔ packs k (points_of (InCells f lefts rights l)) y
  set_same l y = packs-iff k _ _ (points-iff _ _ (λ ps. asked (λ m a b. Gives (f a b) m) l ps)) y

  -- the rows of the slices, by their numbers, are the packed rows
  pub members : (v : List (L × List (ℕ × ℕ))) → ((x : L × List (ℕ × ℕ)) → Among x v ↔ (length x.1 ≡ k) × IsSliceRow k G1 boxes live_left live_right x.0 x.1)
      → (z : L × List Span) → Among z (map (row_of gs) v) ↔ IsPackedRow k f lefts rights z
  members v h z =
      let m = among_map (row_of gs) z v in
      let fl = fit_left G1 z.0 in
      let fr = fit_right G1 z.0 in (
        λ w.
            let u = m.0 w in
            let x : L × List (ℕ × ℕ) = u.0 in
            let a = (h x).0 u.1 in
            subst (IsPackedRow k f lefts rights) u.2 (
              length_box gs x.1 a.0,
              (set_same x.0 (box_of gs x.1)).0 ((slices_are_packed d gs G1 boxes live_left live_right x.0 (fit_left G1 x.0) (fit_right G1 x.0) x.1 a.0).1 a.1),
            ),
        λ w.
            let p = (set_same z.0 z.1).1 w.1 in
            let y = packed_some d gs G1 boxes live_left live_right z.0 fl fr z.1 w.0 p in
            let r = (slices_are_packed d gs G1 boxes live_left live_right z.0 fl fr y.0 y.1).0 (subst (λ u. packs k (points_of (InGridPoints d gs G1 boxes live_left live_right z.0)) u) y.2 p) in
            m.1 ((z.0, y.0), (h (z.0, y.0)).1 (y.1, r), λ t. (z.0, sym y.2 t)),
      )

  abbrev G2 : F → List ℕ → List ℕ → Type 0
  G2 = GivesFault f n

  -- the faults over the cells are those over the places
  pub faults : (e : F) → IsSomewhere k G2 boxes live_left live_right e ↔ HasFault k f lefts rights e
  faults e =
      let fl = fit_left G2 e in
      let fr = fit_right G2 e in
      let back = cuts_back d k gs in
      let lb = length_back d k gs in (
        λ h.
            let is : List ℕ = onto_cells h.0 [] in
            let n1 : length is ≡ k = length_onto_cells h.0 [] ∙ (let w = h.1 in omega arith) in
            let s = same d gs G2 boxes live_left live_right e fl fr is n1 in
            let w : InGridPoints d gs G2 boxes live_left live_right e (onto (grid_point_of back is) []) = subst (λ U. U) (sym s) (subst (InLive G2 boxes live_left live_right e) (sym (onto_cells_twice h.0 [])) h.2) in
            let grid_point : List ℤ = onto (grid_point_of back is) [] in
            let n2 : length (grid_point_of back is) ≡ k = length_grid_point back is (n1 ∙ sym lb) ∙ lb in
            let a = (asked (λ q a b. f a b ≡ Err q) e grid_point).0 w in
            (grid_point, length_onto (grid_point_of back is) [] ∙ (omega arith), a.0, a.1),
        λ h.
            let w = (asked (λ q a b. f a b ≡ Err q) e h.0).1 (h.2, h.3) in
            let ps : List ℤ = onto h.0 [] in
            let n1 : length ps ≡ k = length_onto h.0 [] ∙ (let u = h.1 in omega arith) in
            let w' : InGridPoints d gs G2 boxes live_left live_right e (onto ps []) = subst (InGridPoints d gs G2 boxes live_left live_right e) (sym (onto_twice h.0 [])) w in
            let c = grid_cell back (λ qs. InGridPoints d gs G2 boxes live_left live_right e (onto qs [])) (on d gs G2 boxes live_left live_right e fl fr) ps (n1 ∙ sym lb) w' in
            let n2 : length c.0 ≡ k = c.1 ∙ lb in
            (onto_cells c.0 [], length_onto_cells c.0 [] ∙ (omega arith), subst (λ U. U) (same d gs G2 boxes live_left live_right e fl fr c.0 n2) c.2),
      )

-- Pieces whose keys stand for rows, and pieces of two sides as such.
use Rattle.std.proofs.Common.{◌≡◌, ℕ, zero, suc, ◌+◌, ◌-◌, ◌<◌, ◌≤◌, true, false, cond, ltb, List, [], ◌∷◌, ◌++◌, map, length, get_or, take, ◌↔◌, ◌⊎◌, inl, inr, arith, sym, ap, subst, refl, ◌∙◌, Ordering}
use Rattle.std.specs.List.{All, AllByRecursion, filter}
use Rattle.std.specs.List.Sorted.{IsStrictlySortedBy}
use Rattle.std.proofs.lemmas.List.Elements.{recursion_from_All, All-from_recursion}
use Rattle.std.proofs.lemmas.List.{get_or_default}
use Rattle.base_core.proofs.OrderingLemmas.{then-Equal}
use Rattle.cell_packing.specs.Covering.{Among}
use Rattle.cell_packing.specs.Live.{side_has}
use Rattle.cell_packing.specs.Pieces.{Covers, Apart, AreApart}
use Rattle.cell_packing.specs.declared.Piece.{Piece}
use Rattle.cell_packing.proofs.Joined.{covers_append}
use Rattle.cell_sweep.specs.declared.bare.NoLabel.{NoLabel}
use Rattle.cell_sweep.specs.declared.inward.IndexBox.{IndexBox}
use Rattle.cell_sweep.specs.PackedRows.{IsUnitedRow, bare, span_of, alone}
use Rattle.cell_sweep.specs.Rows.{sides_of, pair_cmp, no_sides, tag, with_last}
use Rattle.cell_sweep.specs.TwoSides.{run_row, slab, slab_row, bare_cmp, bare_spans}
use Rattle.cell_sweep.proofs.Steps.{one_key}
use Rattle.cell_sweep.proofs.UnitedLemmas.{Row, R, order, total, separates, spans, spans_some, covers_spans, united_rows, united_sorted}

-- the piece under the row that its key stands for
abbrev pub lifted : {K : Type 0} → (K → Row) → Piece K → Piece Row
lifted g p = record { key = g p.key; begin = p.begin; end = p.end }

module _ {K : Type 0} (C : K → K → Ordering) (g : K → Row) (same : (a b : K) → R (g a) (g b) ≡ C a b) where
  covers_own : (ps : List (Piece K)) (k : K) (i : ℕ) → Covers R (map (lifted g) ps) (g k) i ↔ Covers C ps k i
  covers_own [] k i = (λ h. h, λ h. h)
  covers_own (x ∷ xs) k i =
      let e = same x.key k in
      let ih = covers_own xs k i in (
        λ h. elim h [ inl w ↦ inl (sym e ∙ w.0, w.1, w.2) | inr w ↦ inr (ih.0 w) ],
        λ h. elim h [ inl w ↦ inl (e ∙ w.0, w.1, w.2) | inr w ↦ inr (ih.1 w) ],
      )

  covers_some : (ps : List (Piece K)) (k : Row) (i : ℕ) → Covers R (map (lifted g) ps) k i → (s : K) × (g s ≡ k)
  covers_some [] k i h = absurd h
  covers_some (x ∷ xs) k i h = elim h [ inl w ↦ (x.key, one_key order total separates (g x.key) k w.0) | inr w ↦ covers_some xs k i w ]

  covers_there : (ps qs : List (Piece K)) → ((k : K) (i : ℕ) → Covers C ps k i → Covers C qs k i) → (k : Row) (i : ℕ) → Covers R (map (lifted g) ps) k i → Covers R (map (lifted g) qs) k i
  covers_there ps qs f k i w =
      let s = covers_some ps k i w in
      let own : Covers R (map (lifted g) ps) (g s.0) i = subst (λ y. Covers R (map (lifted g) ps) y i) (sym s.1) w in
      subst (λ y. Covers R (map (lifted g) qs) y i) s.1 ((covers_own qs s.0 i).1 (f s.0 i ((covers_own ps s.0 i).0 own)))

  -- lists that cover the same cover the same rows
  pub covers_lifted : (ps qs : List (Piece K)) → ((k : K) (i : ℕ) → Covers C ps k i ↔ Covers C qs k i) → (k : Row) (i : ℕ) → Covers R (map (lifted g) ps) k i ↔ Covers R (map (lifted g) qs) k i
  covers_lifted ps qs h k i = (covers_there ps qs (λ l j. (h l j).0) k i, covers_there qs ps (λ l j. (h l j).1) k i)

  apart_one : (x y : Piece K) → Apart C x y → Apart R (lifted g x) (lifted g y)
  apart_one x y h = let e = same x.key y.key in elim h [ inl w ↦ inl (e ∙ w) | inr w ↦ inr (e ∙ w.0, w.1) ]

  apart_all : (x : Piece K) (ys : List (Piece K)) → AllByRecursion (Apart C x) ys → AllByRecursion (Apart R (lifted g x)) (map (lifted g) ys)
  apart_all x [] h = tt
  apart_all x (y ∷ ys) h = (apart_one x y h.0, apart_all x ys h.1)

  pub apart_lifted : (ps : List (Piece K)) → AreApart C ps → AreApart R (map (lifted g) ps)
  apart_lifted [] h = tt
  apart_lifted (x ∷ xs) h = (h.0, apart_all x xs h.1, apart_lifted xs h.2)

-- ---- runs of one side

pub same_bare : (a b : NoLabel) → R (no_sides a) (no_sides b) ≡ bare_cmp a b
same_bare a b = refl

lifted_alone : (s : ℕ × ℕ) (ps : List (Piece NoLabel)) → map (lifted no_sides) (alone bare s ++ ps) ≡ alone (no_sides bare) s ++ map (lifted no_sides) ps
lifted_alone s ps = elim (ltb s.0 s.1) as (λ b. map (lifted no_sides) (cond b (record { key = bare; begin = s.0; end = s.1 } ∷ []) [] ++ ps) ≡ cond b (record { key = no_sides bare; begin = s.0; end = s.1 } ∷ []) [] ++ map (lifted no_sides) ps) [
  | true ↦ refl
  | false ↦ refl
]

pub lifted_spans : (boxes : List (List (ℕ × ℕ))) (live : List ℕ) → map (lifted no_sides) (bare_spans boxes live) ≡ spans boxes live
lifted_spans boxes [] = refl
lifted_spans boxes (r ∷ rs) = lifted_alone (span_of boxes 0 r) (bare_spans boxes rs) ∙ ap (λ ps. alone (no_sides bare) (span_of boxes 0 r) ++ ps) (lifted_spans boxes rs)

abbrev IsSome : {K : Type 0} → Piece K → Type 0
IsSome x = x.begin < x.end

some_back : {K : Type 0} (g : K → Row) (ps : List (Piece K)) → AllByRecursion IsSome (map (lifted g) ps) → AllByRecursion IsSome ps
some_back g [] h = tt
some_back g (p ∷ ps) h = (h.0, some_back g ps h.1)

pub bare_some : (boxes : List (List (ℕ × ℕ))) (live : List ℕ) → All (λ x. x.begin < x.end) (bare_spans boxes live)
bare_some boxes live =
    let all : All (λ (x : Piece Row). x.begin < x.end) (map (lifted no_sides) (bare_spans boxes live)) = subst (All (λ (x : Piece Row). x.begin < x.end)) (sym (lifted_spans boxes live)) (spans_some boxes live) in
    All-from_recursion IsSome (bare_spans boxes live) (some_back no_sides (bare_spans boxes live) (recursion_from_All (λ (x : Piece Row). x.begin < x.end) (map (lifted no_sides) (bare_spans boxes live)) all))

pub run_rows : (ps : List (Piece NoLabel)) → map run_row ps ≡ map with_last (map (lifted no_sides) ps)
run_rows [] = refl
run_rows (p ∷ ps) = ap (λ xs. run_row p ∷ xs) (run_rows ps)

covers_more : (boxes : List (List (ℕ × ℕ))) (rows : List ℕ) (n d : ℕ) → n < length rows → (k : NoLabel) (i : ℕ)
    → Covers bare_cmp (bare_spans boxes (take (suc n) rows)) k i ↔ Covers bare_cmp (bare_spans boxes (take n rows)) k i ⊎ Covers bare_cmp (alone bare (span_of boxes 0 (get_or rows n d))) k i
covers_more boxes [] n d l k i = absurd (omega arith)
covers_more boxes (r ∷ rs) zero d l k i =
    let a = covers_append bare_cmp total (alone bare (span_of boxes 0 r)) [] k i in (
      λ h. elim (a.0 h) [ inl w ↦ inr w | inr w ↦ absurd w ],
      λ h. elim h [ inl w ↦ absurd w | inr w ↦ a.1 (inl w) ],
    )
covers_more boxes (r ∷ rs) (suc n) d l k i =
    let a = covers_append bare_cmp total (alone bare (span_of boxes 0 r)) (bare_spans boxes (take (suc n) rs)) k i in
    let b = covers_append bare_cmp total (alone bare (span_of boxes 0 r)) (bare_spans boxes (take n rs)) k i in
    let ih = covers_more boxes rs n d (omega arith) k i in (
      λ h. elim (a.0 h) [ inl w ↦ inl (b.1 (inl w)) | inr w ↦ elim (ih.0 w) [ inl v ↦ inl (b.1 (inr v)) | inr v ↦ inr v ] ],
      λ h. elim h [ inl w ↦ elim (b.0 w) [ inl v ↦ a.1 (inl v) | inr v ↦ a.1 (inr (ih.1 (inl v))) ] | inr w ↦ a.1 (inr (ih.1 (inr w))) ],
    )

-- the spans of one row more
pub covers_next : (boxes : List (List (ℕ × ℕ))) (rows : List ℕ) (n d : ℕ) → n < length rows → (k : NoLabel) (i : ℕ)
    → Covers bare_cmp (bare_spans boxes (take (n + 1) rows)) k i ↔ Covers bare_cmp (bare_spans boxes (take n rows)) k i ⊎ Covers bare_cmp (alone bare (span_of boxes 0 (get_or rows n d))) k i
covers_next boxes rows n d l k i =
    let e : suc n ≡ n + 1 = omega arith in
    subst (λ m. Covers bare_cmp (bare_spans boxes (take m rows)) k i ↔ Covers bare_cmp (bare_spans boxes (take n rows)) k i ⊎ Covers bare_cmp (alone bare (span_of boxes 0 (get_or rows n d))) k i) e (covers_more boxes rows n d l k i)

-- numbers of which none is greater than the next one
pub in_turn : (f : ℕ → ℕ) (xs : List ℕ) → ((i : ℕ) (d e : ℕ) → suc i < length xs → f (get_or xs i d) ≤ f (get_or xs (suc i) e)) → (i j : ℕ) (d e : ℕ) → i ≤ j → j < length xs → f (get_or xs i d) ≤ f (get_or xs j e)
in_turn f xs h i j d e l m = go (j - i) i (omega (arith, l)) d
  where
    go : (n i : ℕ) → i + n ≡ j → (d : ℕ) → f (get_or xs i d) ≤ f (get_or xs j e)
    go zero i q d = let s : i ≡ j = omega (arith, q) in let k = get_or_default xs j d e m in subst (λ r. f (get_or xs r d) ≤ f (get_or xs j e)) (sym s) (let b = ap f k in omega (arith, b))
    go (suc n) i q d = let a = h i d d (omega (arith, q, m)) in let b = go n (suc i) (omega (arith, q)) d in omega (arith, a, b)

-- runs that cover what the spans of the live rows cover are their packed form on one side
module _ (bs : List IndexBox) (live : List ℕ) (h : All (λ x. 1 ≤ length x.sides.items) bs) (l : All (λ r. r < length bs) live)
    (runs : List (Piece NoLabel)) (apart : AreApart bare_cmp runs)
    (same : (k : NoLabel) (i : ℕ) → Covers bare_cmp runs k i ↔ Covers bare_cmp (bare_spans (sides_of bs) live) k i) where
  abbrev pieces : List (Piece Row)
  pieces = map (lifted no_sides) (bare_spans (sides_of bs) live)

  covers_live : (k : Row) (i : ℕ) → Covers R pieces k i ↔ (length k.1 ≡ 0) × IsUnitedRow 0 (sides_of bs) (filter (side_has (sides_of bs) 0 i) live) k
  covers_live = subst (λ (qs : List (Piece Row)). (k : Row) (i : ℕ) → Covers R qs k i ↔ (length k.1 ≡ 0) × IsUnitedRow 0 (sides_of bs) (filter (side_has (sides_of bs) 0 i) live) k) (sym (lifted_spans (sides_of bs) live)) (covers_spans (sides_of bs) live)

  pub runs_rows : (x : Row) → Among x (map run_row runs) ↔ (length x.1 ≡ 1) × IsUnitedRow 1 (sides_of bs) live x
  runs_rows = united_rows bs 1 0 (omega arith) live h l pieces (map (lifted no_sides) runs) (map run_row runs) covers_live
      (apart_lifted bare_cmp no_sides same_bare runs apart) (covers_lifted bare_cmp no_sides same_bare runs (bare_spans (sides_of bs) live) same) (run_rows runs)

  pub runs_sorted : IsStrictlySortedBy R (map run_row runs)
  runs_sorted = united_sorted bs 1 0 (omega arith) live h l pieces (map (lifted no_sides) runs) (map run_row runs) covers_live
      (apart_lifted bare_cmp no_sides same_bare runs apart) (covers_lifted bare_cmp no_sides same_bare runs (bare_spans (sides_of bs) live) same) (run_rows runs)

-- ---- slabs of two sides

abbrev pub span_row : ℕ × ℕ → Row
span_row s = (bare, s ∷ [])

pub same_span : (a b : ℕ × ℕ) → R (span_row a) (span_row b) ≡ pair_cmp a b
same_span a b = then-Equal (pair_cmp a b)

pub slab_rows : (ps : List (Piece (ℕ × ℕ))) → map slab_row ps ≡ map with_last (map (lifted span_row) ps)
slab_rows [] = refl
slab_rows (p ∷ ps) = ap (λ xs. slab_row p ∷ xs) (slab_rows ps)

tagged : (a z : ℕ) (runs : List (Piece NoLabel)) → map (lifted span_row) (map (slab a z) runs) ≡ map (tag a z) (map run_row runs)
tagged a z [] = refl
tagged a z (p ∷ ps) = ap (λ xs. lifted span_row (slab a z p) ∷ xs) (tagged a z ps)

-- a slab more
pub more_slab : (a z : ℕ) (old : List (Piece (ℕ × ℕ))) (runs : List (Piece NoLabel)) → map (lifted span_row) (old ++ map (slab a z) runs) ≡ map (lifted span_row) old ++ map (tag a z) (map run_row runs)
more_slab a z [] runs = tagged a z runs
more_slab a z (p ∷ ps) runs = ap (λ xs. lifted span_row p ∷ xs) (more_slab a z ps runs)

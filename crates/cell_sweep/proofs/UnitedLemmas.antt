-- Cuts of live boxes, and the packed form of boxes without labels.
use Rattle.std.proofs.Common.{◌≡◌, ℕ, suc, ◌<◌, ◌≤◌, Bool, true, false, cond, ◌&&◌, ◌≢◌, leb, ltb, List, [], ◌∷◌, ◌++◌, map, length, get_or, ◌↔◌, ◌⊎◌, inl, inr, arith, sym, ap, subst, refl, ◌∙◌, Ordering}
use Rattle.std.specs.declared.cmp.Ordering.TheVariants.{Equal}
use Rattle.std.specs.List.{All, AllByRecursion, filter, flat_map}
use Rattle.std.specs.Prelude.{◌==◌}
use Rattle.std.proofs.lemmas.Bool.{cases_lt, true≢false}
use Rattle.std.proofs.lemmas.Bool.Decides.{nat_tests}
use Rattle.std.proofs.lemmas.List.Elements.{recursion_from_All, All-from_recursion}
use Rattle.cell_packing.specs.Pieces.{Covers, AreApart}
use Rattle.std.specs.Cmp.{IsTotalOrder}
use Rattle.std.specs.List.Sorted.{IsStrictlySortedBy}
use Rattle.std.proofs.lemmas.List.{nil_from_length, get_or_default}
use Rattle.cell_packing.specs.Covering.{Among}
use Rattle.cell_packing.specs.Live.{span_has, side_has}
use Rattle.cell_packing.specs.declared.Piece.{Piece}
use Rattle.cell_packing.proofs.Inward.{HasSides, filter_where}
use Rattle.cell_packing.proofs.AmongLemmas.{among_filter}
use Rattle.cell_packing.proofs.Order.{among_contains}
use Rattle.cell_packing.proofs.Joined.{covers_append}
use Rattle.cell_sweep.specs.declared.bare.NoLabel.{NoLabel}
use Rattle.cell_sweep.specs.declared.inward.IndexBox.{IndexBox}
use Rattle.cell_sweep.specs.PackedRows.{AnyLabel, IsUnitedRow, bare, span_of, cuts_of, alone}
use Rattle.cell_sweep.specs.Rows.{sides_of, key_cmp, key_total, no_sides, tag, with_last}
use Rattle.cell_sweep.proofs.Steps.{one_key, rows_answer, rows_sorted, covers_all, covers_step}
use Rattle.cell_sweep.proofs.Turns.{rows_all, filter_none, side_none, live_alone, none_row}
use Rattle.cell_sweep.proofs.Sweeping.{cell_has, span_from}

-- ---- cuts

-- what holds of the cuts holds of the ends of each live row
cuts_live : (boxes : List (List (ℕ × ℕ))) (side : ℕ) (Q : ℕ → Type 0) (live : List ℕ) → ((c : ℕ) → Among c (flat_map (cuts_of boxes side) live) → Q c) → AllByRecursion (λ r. Q (span_of boxes side r).0 × Q (span_of boxes side r).1) live
cuts_live boxes side Q [] h = tt
cuts_live boxes side Q (r ∷ rs) h = ((h (span_of boxes side r).0 (inl refl), h (span_of boxes side r).1 (inr (inl refl))), cuts_live boxes side Q rs (λ c m. h c (inr (inr m))))

-- the number is not within the cells from a up to before z, but at their begin
abbrev pub IsBeside : ℕ → ℕ → ℕ → Type 0
IsBeside a z c = (c ≤ a) ⊎ (z ≤ c)

span_alike : (x : ℕ × ℕ) (a z i : ℕ) → a ≤ i → i < z → IsBeside a z x.0 → IsBeside a z x.1 → span_has x i ≡ span_has x a
span_alike x a z i l m b e = λ t. first t && last t
  where
    first : leb x.0 i ≡ leb x.0 a
    first = elim b [ inl w ↦ grind (arith, nat_tests) | inr w ↦ grind (arith, nat_tests) ]

    last : ltb i x.1 ≡ ltb a x.1
    last = elim e [ inl w ↦ grind (arith, nat_tests) | inr w ↦ grind (arith, nat_tests) ]

-- between two cuts the live rows are the same
pub live_alike : (boxes : List (List (ℕ × ℕ))) (side : ℕ) (live : List ℕ) (a z i : ℕ) → a ≤ i → i < z → ((c : ℕ) → Among c (flat_map (cuts_of boxes side) live) → IsBeside a z c) → filter (side_has boxes side i) live ≡ filter (side_has boxes side a) live
live_alike boxes side live a z i l m h =
    filter_where (side_has boxes side i) (side_has boxes side a) (λ r. IsBeside a z (span_of boxes side r).0 × IsBeside a z (span_of boxes side r).1) live
    (cuts_live boxes side (IsBeside a z) live h)
    (λ r w. span_alike (span_of boxes side r) a z i l m w.0 w.1)

-- no row is live after the last cut
pub none_after : (boxes : List (List (ℕ × ℕ))) (side : ℕ) (live : List ℕ) (count : ℕ) → ((c : ℕ) → Among c (flat_map (cuts_of boxes side) live) → c ≤ count) → (i : ℕ) → count ≤ i → filter (side_has boxes side i) live ≡ []
none_after boxes side live count h i l =
    filter_none (side_has boxes side i) (λ r. ((span_of boxes side r).0 ≤ count) × ((span_of boxes side r).1 ≤ count)) live
    (cuts_live boxes side (λ c. c ≤ count) live h)
    (λ r w. let v = w.1 in side_none (span_of boxes side r) i (omega arith))

-- a member by its index
pub index_of : (cuts : List ℕ) (c : ℕ) → Among c cuts → (j : ℕ) × (j < length cuts) × (get_or cuts j 0 ≡ c)
index_of cuts c h = let w = among_contains cuts c h in (w.0, w.1, get_or_default cuts w.0 0 c w.1 ∙ w.2)

-- a cut of a sorted list is not within the cells between two neighbours
pub beside : (cuts : List ℕ) (a i : ℕ) → i < length cuts → ((j k : ℕ) → j ≤ k → k < length cuts → get_or cuts j 0 ≤ get_or cuts k 0) → ((j : ℕ) → j < i → get_or cuts j 0 ≤ a) → (c : ℕ) → Among c cuts → IsBeside a (get_or cuts i 0) c
beside cuts a i l order passed c m =
    let w = index_of cuts c m in
    elim (cases_lt w.0 i) [
      | inl u ↦ let p = passed w.0 u in let e = w.2 in inl (omega arith)
      | inr u ↦ let p = order i w.0 u w.1 in let e = w.2 in inr (omega arith)
    ]

pub all_passed : (cuts : List ℕ) (a : ℕ) → ((j : ℕ) → j < length cuts → get_or cuts j 0 ≤ a) → (c : ℕ) → Among c cuts → c ≤ a
all_passed cuts a h c m = let w = index_of cuts c m in let p = h w.0 w.1 in let e = w.2 in omega arith

-- ---- what the function requires

pub has_sides : (bs : List IndexBox) (n : ℕ) (live : List ℕ) → All (λ x. n ≤ length x.sides.items) bs → All (λ r. r < length bs) live → AllByRecursion (HasSides {P = NoLabel} AnyLabel (sides_of bs) n) live
has_sides bs n live h l = rows_all (λ y. n ≤ length y) bs (recursion_from_All (λ (x : IndexBox). n ≤ length x.sides.items) bs h) live (recursion_from_All (λ r. r < length bs) live l)

pub filter_below : (t : ℕ → Bool) (n : ℕ) (live : List ℕ) → All (λ r. r < n) live → All (λ r. r < n) (filter t live)
filter_below t n live h = All-from_recursion (λ r. r < n) (filter t live) (go live (recursion_from_All (λ r. r < n) live h))
  where
    go : (xs : List ℕ) → AllByRecursion (λ r. r < n) xs → AllByRecursion (λ r. r < n) (filter t xs)
    go [] w = tt
    go (x ∷ xs) w = elim (t x) as (λ b. AllByRecursion (λ r. r < n) (cond b (x ∷ filter t xs) (filter t xs))) [ true ↦ (w.0, go xs w.1) | false ↦ go xs w.1 ]

-- ---- rows of no sides

some_from : (xs : List ℕ) → xs ≢ [] → (r : ℕ) × Among r xs
some_from [] h = absurd (h refl)
some_from (x ∷ xs) h = (x, inl refl)

not_nil : (xs : List ℕ) (r : ℕ) → Among r xs → xs ≢ []
not_nil [] r h e = h
not_nil (x ∷ xs) r h e = let n : length (x ∷ xs) ≡ 0 = ap length e in omega arith

abbrev pub Row : Type 0
Row = NoLabel × List (ℕ × ℕ)

pub none_united : (sides : ℕ) (boxes : List (List (ℕ × ℕ))) (live : List ℕ) (x : Row) → live ≡ [] → IsUnitedRow sides boxes live x → ⊥
none_united sides boxes live x e h = none_row sides AnyLabel boxes live [] x.0 x.1 e refl h

-- the row of no sides is there where some row is live
pub united_alone : (boxes : List (List (ℕ × ℕ))) (live : List ℕ) (x : Row) → IsUnitedRow 0 boxes live x ↔ ((r : ℕ) × Among r live)
united_alone boxes live x =
    let same = live_alone {P = NoLabel} AnyLabel boxes live [] x.0 in (
      λ h. elim (subst (λ U. U) same h).0 [ inl w ↦ some_from live w | inr w ↦ absurd (w refl) ],
      λ h. subst (λ U. U) (sym same) (inl (not_nil live h.0 h.1), tt),
    )

pub one_row_united : (boxes : List (List (ℕ × ℕ))) (live : List ℕ) (rows : List Row) (sides : ℕ) → sides ≡ 0 → live ≢ [] → rows ≡ no_sides bare ∷ [] → (x : Row) → Among x rows ↔ (length x.1 ≡ sides) × IsUnitedRow sides boxes live x
one_row_united boxes live rows sides z n e x =
    let u = united_alone boxes live x in
    let at : no_sides x.0 ∷ [] ≡ rows = sym e in
    subst (λ j. Among x rows ↔ (length x.1 ≡ j) × IsUnitedRow j boxes live x) (sym z)
    (subst (λ ys. Among x ys ↔ (length x.1 ≡ 0) × IsUnitedRow 0 boxes live x) at (
      λ h. elim h [ inl w ↦ (sym (ap (λ (y : Row). length y.1) w), u.1 (some_from live n)) | inr w ↦ absurd w ],
      λ h. inl (ap (λ ys. (x.0, ys)) (sym (nil_from_length x.1 h.0))),
    ))

-- ---- spans on the first side

abbrev pub order : NoLabel → NoLabel → Ordering
order a b = Equal

pub total : IsTotalOrder order
total = record { antisymm = λ a b. refl; trans = λ a b c h g. h; congr = λ a b c h. refl }

pub separates : (a b : NoLabel) → order a b ≡ Equal → a ≡ b
separates a b e = refl

abbrev pub R : Row → Row → Ordering
R = key_cmp order

pub one_sorted : (rows : List Row) → rows ≡ no_sides bare ∷ [] → IsStrictlySortedBy R rows
unfolding IsStrictlySortedBy
one_sorted rows e = subst (IsStrictlySortedBy R) (sym e) (tt, tt)

pub is_nil : (xs : List ℕ) (b : Bool) → b ≡ (length xs == 0) → b ≡ true → xs ≡ []
is_nil xs b e h = nil_from_length xs (zero (length xs) (sym e ∙ h))
  where
    zero : (n : ℕ) → (n == 0) ≡ true → n ≡ 0
    zero n q = grind (arith, nat_tests)

pub is_not_nil : (xs : List ℕ) (b : Bool) → b ≡ (length xs == 0) → b ≡ false → xs ≢ []
is_not_nil xs b e h q = true≢false (sym (e ∙ ap (λ ys. length ys == 0) q) ∙ h)

without_label : (k : Row) → R (no_sides bare) k ≡ Equal → k.1 ≡ []
without_label k e = ap (λ (y : Row). y.1) (sym (one_key order total separates (no_sides bare) k e))

key_without_label : (k : Row) → k.1 ≡ [] → R (no_sides bare) k ≡ Equal
key_without_label k e = subst (λ y. R (no_sides bare) (k.0, y) ≡ Equal) (sym e) refl

covers_alone : (s : ℕ × ℕ) (k : Row) (i : ℕ) → Covers R (alone (no_sides bare) s) k i ↔ (k.1 ≡ []) × (span_has s i ≡ true)
covers_alone s k i =
    elim (ltb s.0 s.1) as (λ b. ltb s.0 s.1 ≡ b → Covers R (cond b (record { key = no_sides bare; begin = s.0; end = s.1 } ∷ []) []) k i ↔ (k.1 ≡ []) × (span_has s i ≡ true)) [
      | true ↦ λ e. (
        λ h. elim h [ inl w ↦ (without_label k w.0, span_from s i w.1 w.2) | inr w ↦ absurd w ],
        λ h. let c = cell_has s i h.1 in inl (key_without_label k h.0, c.0, c.1),
      )
      | false ↦ λ e. (λ h. absurd h, λ h. let c = cell_has s i h.1 in absurd (empty s.0 s.1 e c.0 c.1))
    ] refl
  where
    empty : (a z : ℕ) → ltb a z ≡ false → a ≤ i → i < z → ⊥
    empty a z e l m = grind (arith, nat_tests)

abbrev pub spans : List (List (ℕ × ℕ)) → List ℕ → List (Piece Row)
spans boxes live = flat_map (λ r. alone (no_sides bare) (span_of boxes 0 r)) live

spans_cover : (boxes : List (List (ℕ × ℕ))) (live : List ℕ) (k : Row) (i : ℕ) → Covers R (spans boxes live) k i ↔ (k.1 ≡ []) × ((r : ℕ) × Among r live × (side_has boxes 0 i r ≡ true))
spans_cover boxes [] k i = (λ h. absurd h, λ h. absurd h.1.1)
spans_cover boxes (x ∷ xs) k i =
    let a = covers_append R (key_total total) (alone (no_sides bare) (span_of boxes 0 x)) (spans boxes xs) k i in
    let c = covers_alone (span_of boxes 0 x) k i in
    let ih = spans_cover boxes xs k i in (
      λ h. elim (a.0 h) [
        | inl w ↦ let v = c.0 w in (v.0, (x, inl refl, v.1))
        | inr w ↦ let v = ih.0 w in (v.0, (v.1.0, inr v.1.1, v.1.2))
      ],
      λ h. a.1 (elim h.1.1 [
        | inl e ↦ inl (c.1 (h.0, subst (λ r. side_has boxes 0 i r ≡ true) (sym e) h.1.2))
        | inr m ↦ inr (ih.1 (h.0, (h.1.0, m, h.1.2)))
      ]),
    )

pub covers_spans : (boxes : List (List (ℕ × ℕ))) (live : List ℕ) (k : Row) (i : ℕ) → Covers R (spans boxes live) k i ↔ (length k.1 ≡ 0) × IsUnitedRow 0 boxes (filter (side_has boxes 0 i) live) k
covers_spans boxes live k i =
    let c = spans_cover boxes live k i in
    let u = united_alone boxes (filter (side_has boxes 0 i) live) k in (
      λ h. let v = c.0 h in (ap length v.0, u.1 (v.1.0, (among_filter (side_has boxes 0 i) v.1.0 live).1 (v.1.1, v.1.2))),
      λ h. let v = u.0 h.1 in let m = (among_filter (side_has boxes 0 i) v.0 live).0 v.1 in c.1 (nil_from_length k.1 h.0, (v.0, m.0, m.1)),
    )

abbrev IsSome : Piece Row → Type 0
IsSome x = x.begin < x.end

pub spans_some : (boxes : List (List (ℕ × ℕ))) (live : List ℕ) → All (λ x. x.begin < x.end) (spans boxes live)
spans_some boxes live = All-from_recursion IsSome (spans boxes live) (go live)
  where
    both : (xs ys : List (Piece Row)) → AllByRecursion IsSome xs → AllByRecursion IsSome ys → AllByRecursion IsSome (xs ++ ys)
    both [] ys a b = b
    both (x ∷ xs) ys a b = (a.0, both xs ys a.1 b)

    one : (s : ℕ × ℕ) → AllByRecursion IsSome (alone (no_sides bare) s)
    one s = elim (ltb s.0 s.1) as (λ b. ltb s.0 s.1 ≡ b → AllByRecursion IsSome (cond b (record { key = no_sides bare; begin = s.0; end = s.1 } ∷ []) [])) [
      | true ↦ λ e. (below s.0 s.1 e, tt)
      | false ↦ λ e. tt
    ] refl
      where
        below : (a z : ℕ) → ltb a z ≡ true → a < z
        below a z e = grind (arith, nat_tests)

    go : (xs : List ℕ) → AllByRecursion IsSome (spans boxes xs)
    go [] = tt
    go (x ∷ xs) = both (alone (no_sides bare) (span_of boxes 0 x)) (spans boxes xs) (one (span_of boxes 0 x)) (go xs)

-- ---- one more side

module _ (bs : List IndexBox) (n side : ℕ) (below : side < n) (live : List ℕ) (h : All (λ x. n ≤ length x.sides.items) bs) (l : All (λ r. r < length bs) live) where
  abbrev b : List (List (ℕ × ℕ))
  b = sides_of bs

  abbrev T : ℕ → Row → Type 0
  T i k = IsUnitedRow side b (filter (side_has b side i) live) k

  pub covers_below : (count : ℕ) → ((c : ℕ) → Among c (flat_map (cuts_of b side) live) → c ≤ count) → (pieces : List (Piece Row))
      → ((k : Row) (i : ℕ) → Covers R pieces k i ↔ (i < count) × (length k.1 ≡ side) × T i k)
      → (k : Row) (i : ℕ) → Covers R pieces k i ↔ (length k.1 ≡ side) × T i k
  covers_below count last pieces covers = covers_all order total separates AnyLabel b n side below live [] (has_sides bs n live h l) tt count (none_after b side live count last) (λ i m. refl) pieces covers

  module _ (pieces runs : List (Piece Row)) (rows : List Row)
      (covers : (k : Row) (i : ℕ) → Covers R pieces k i ↔ (length k.1 ≡ side) × T i k)
      (apart : AreApart R runs)
      (same : (k : Row) (i : ℕ) → Covers R runs k i ↔ Covers R pieces k i)
      (made : rows ≡ map with_last runs) where
    pub united_rows : (x : Row) → Among x rows ↔ (length x.1 ≡ suc side) × IsUnitedRow (suc side) b live x
    united_rows = rows_answer order total separates AnyLabel b n side below live [] (has_sides bs n live h l) tt pieces runs rows covers apart same made

    pub united_sorted : IsStrictlySortedBy R rows
    united_sorted = rows_sorted order total separates AnyLabel b n side below live [] (has_sides bs n live h l) tt pieces runs rows covers apart same made

  -- a turn of the loop over the cuts: the rows of the cells from a up to before z
  pub united_turn : (a z : ℕ) → a ≤ z → ((c : ℕ) → Among c (flat_map (cuts_of b side) live) → IsBeside a z c) → (old new : List (Piece Row)) (rows : List Row) → new ≡ old ++ map (tag a z) rows
      → ((k : Row) → Among k rows ↔ (length k.1 ≡ side) × T a k)
      → ((k : Row) (i : ℕ) → Covers R old k i ↔ (i < a) × (length k.1 ≡ side) × T i k)
      → (k : Row) (i : ℕ) → Covers R new k i ↔ (i < z) × (length k.1 ≡ side) × T i k
  united_turn a z az cut old new rows e r c =
      covers_step order total separates T side a z az old new rows e
      (λ i f g k. subst (λ m. Among k rows ↔ (length k.1 ≡ side) × IsUnitedRow side b m k) (sym (live_alike b side live a z i f g cut)) (r k))
      c

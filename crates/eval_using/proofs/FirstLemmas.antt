-- The first rows of their labels at a place: they can be found.
--     first_alike      of each row at the place, the first one with its label
--     firsts_there      of each key the rows at the place
use Rattle.std.proofs.Common.{◌≡◌, ◌↔◌, ◌⊎◌, inl, inr, ℕ, zero, suc, ◌+◌, ◌<◌, ◌≤◌, ℤ, Bool, true, false, not, ◌&&◌, List, [], ◌∷◌, length, get_or, refl, sym, ap, ◌∙◌, arith, if◌then◌else◌}
use Rattle.std.specs.Prelude.{int_le}
use Rattle.std.specs.Bool.{IsTrue}
use Rattle.std.specs.Ordering.{eq_by_cmp}
use Rattle.std.proofs.lemmas.Bool.{and_parts, and_from, cases_lt, true≢false, not-true, cases_Bool}
use Rattle.base_core.proofs.MemberLemmas.{eq_by_cmp-≡}
use Rattle.base_core.proofs.IntLemmas.{int_le-le, le-int_le}
use Rattle.interval_core.specs.Members.{Span}
use Rattle.cell_packing.specs.Covering.{Among}
use Rattle.cell_packing.specs.Packed.{Has}
use Rattle.cell_sweep.specs.Rows.{AreRows}
use Rattle.value_core.specs.Order.{row_total, row_separates}
use Rattle.value_core.specs.Values.{Row, row_cmp}
use Rattle.relation_core.specs.Agreement.{part_of}
use Rattle.cell_sweep.proofs.Turns.{from_lower}
use Rattle.u_summarize.specs.Groups.{IsFirst, AreFirsts}

-- ---- a box that has a place

abbrev has_test : List Span → List ℤ → Bool
has_test [] [] = true
has_test [] (p ∷ ps) = false
has_test (i ∷ is) [] = false
has_test (i ∷ is) (p ∷ ps) = int_le i.0 p && (int_le p i.1 && has_test is ps)

pub has_tested : (is : List Span) (ps : List ℤ) → IsTrue (has_test is ps) ↔ Has is ps
has_tested [] [] = (λ h. tt, λ h. refl)
has_tested [] (p ∷ ps) = (λ h. absurd cc, λ h. absurd h)
has_tested (i ∷ is) [] = (λ h. absurd cc, λ h. absurd h)
has_tested (i ∷ is) (p ∷ ps) =
    let ih = has_tested is ps in (
      λ h.
          let w = and_parts (int_le i.0 p) (int_le p i.1 && has_test is ps) h in
          let v = and_parts (int_le p i.1) (has_test is ps) w.1 in
          (int_le-le i.0 p w.0, int_le-le p i.1 v.0, ih.0 v.1),
      λ h. and_from (int_le i.0 p) (int_le p i.1 && has_test is ps) (le-int_le i.0 p h.0) (and_from (int_le p i.1) (has_test is ps) (le-int_le p i.1 h.1) (ih.1 h.2)),
    )

-- ---- the least number that passes a test, and numbers that pass it

least_passing : (t : ℕ → Bool) (n : ℕ) → ((r : ℕ) × (r < n) × (t r ≡ true) × ((s : ℕ) → s < r → t s ≡ true → ⊥)) ⊎ ((s : ℕ) → s < n → t s ≡ true → ⊥)
least_passing t zero = inr (λ s l e. absurd (omega (arith, l)))
least_passing t (suc n) = elim (least_passing t n) [
  | inl w ↦ let l = w.1 in inl (w.0, omega (arith, l), w.2, w.3)
  | inr none ↦ elim (cases_Bool (t n)) [
    | inl e ↦ inl (n, omega arith, e, none)
    | inr f ↦ inr (λ s l e. elim (cases_lt s n) [
      | inl k ↦ none s k e
      | inr k ↦ let same : s ≡ n = omega (arith, l, k) in true≢false (sym e ∙ ap t same ∙ f)
    ])
  ]
]

none_below : (ℕ → Bool) → ℕ → Bool
none_below t zero = true
none_below t (suc n) = not (t n) && none_below t n

none_below-is : (t : ℕ → Bool) (n : ℕ) → IsTrue (none_below t n) ↔ ((s : ℕ) → s < n → t s ≡ true → ⊥)
unfolding none_below
none_below-is t zero = (λ h s l e. absurd (omega (arith, l)), λ h. refl)
none_below-is t (suc n) =
    let ih = none_below-is t n in (
      λ h s l e.
          let w = and_parts (not (t n)) (none_below t n) h in
          elim (cases_lt s n) [
            | inl k ↦ ih.0 w.1 s k e
            | inr k ↦ let same : s ≡ n = omega (arith, l, k) in true≢false (sym e ∙ ap t same ∙ not-true (t n) w.0)
          ],
      λ h. and_from (not (t n)) (none_below t n) (elim (cases_Bool (t n)) [ inl e ↦ absurd (h n (omega arith) e) | inr f ↦ ap not f ]) (ih.1 (λ s l e. h s (omega (arith, l)) e)),
    )

-- those of n numbers from b on
abbrev passing : (ℕ → Bool) → ℕ → ℕ → List ℕ
passing t b zero = []
passing t b (suc n) = if t b then b ∷ passing t (suc b) n else passing t (suc b) n

passing_rows : (t : ℕ → Bool) (b n z : ℕ) → b + n ≡ z → AreRows b z (passing t b n)
passing_rows t b zero z e = tt
passing_rows t b (suc n) z e =
    let rest = passing_rows t (suc b) n z (omega (arith, e)) in
    elim (t b) as (λ r. AreRows b z (if r then b ∷ passing t (suc b) n else passing t (suc b) n)) [
      | true ↦ (omega arith, omega (arith, e), rest)
      | false ↦ from_lower b (suc b) z (passing t (suc b) n) (omega arith) rest
    ]

passing_members : (t : ℕ → Bool) (b n r : ℕ) → Among r (passing t b n) ↔ ((b ≤ r) × (r < b + n) × (t r ≡ true))
passing_members t b zero r = (λ h. absurd h, λ h. let k = h.0 in let l = h.1 in absurd (omega (arith, k, l)))
passing_members t b (suc n) r =
    let ih = passing_members t (suc b) n r in
    let up : Among r (passing t (suc b) n) → (b ≤ r) × (r < b + suc n) × (t r ≡ true) = λ m. let w = ih.0 m in let k = w.0 in let l = w.1 in (omega (arith, k), omega (arith, l), w.2) in
    let down : (b ≤ r) → (r < b + suc n) → (t r ≡ true) → (b < r) → Among r (passing t (suc b) n) = λ k l e m. ih.1 (omega (arith, m), omega (arith, l), e) in
    elim (t b) as (λ q. t b ≡ q → Among r (if q then b ∷ passing t (suc b) n else passing t (suc b) n) ↔ ((b ≤ r) × (r < b + suc n) × (t r ≡ true))) [
      | true ↦ λ q. (
        λ h. elim h [
          | inl e ↦ (omega (arith, e), omega (arith, e), ap t (sym e) ∙ q)
          | inr m ↦ up m
        ],
        λ h. let k = h.0 in elim (cases_lt b r) [ inl m ↦ inr (down h.0 h.1 h.2 m) | inr m ↦ inl (omega (arith, k, m)) ],
      )
      | false ↦ λ q. (
        λ h. up h,
        λ h. let k = h.0 in elim (cases_lt b r) [ inl m ↦ down h.0 h.1 h.2 m | inr m ↦ let same : r ≡ b = omega (arith, k, m) in absurd (true≢false (sym h.2 ∙ ap t same ∙ q)) ],
      )
    ] refl

-- ---- first rows

module _ (labels : List Row) (sides : ℕ → List Span) (place : List ℤ) where
  abbrev Here : ℕ → Type 0
  Here r = Has (sides r) place

  like_test : Row → ℕ → Bool
  like_test l s = has_test (sides s) place && eq_by_cmp row_cmp (get_or labels s []) l

  like_parts : (l : Row) (s : ℕ) → IsTrue (like_test l s) ↔ (Here s × (get_or labels s [] ≡ l))
  unfolding like_test
  like_parts l s =
      let h = has_tested (sides s) place in
      let e = eq_by_cmp-≡ row_cmp row_total row_separates (get_or labels s []) l in (
        λ t. let w = and_parts (has_test (sides s) place) (eq_by_cmp row_cmp (get_or labels s []) l) t in (h.0 w.0, e.0 w.1),
        λ w. and_from (has_test (sides s) place) (eq_by_cmp row_cmp (get_or labels s []) l) (h.1 w.0) (e.1 w.1),
      )

  -- before each row at the place, or itself, stands the first one with its label
  pub first_alike : (s : ℕ) → s < length labels → Here s → (r : ℕ) × IsFirst labels Here r × (get_or labels r [] ≡ get_or labels s [])
  first_alike s l h =
      let own : Row = get_or labels s [] in
      elim (least_passing (like_test own) (length labels)) [
        | inl w ↦
            let v = (like_parts own w.0).0 w.2 in
            (w.0, (w.1, v.0, λ q k g e. w.3 q k ((like_parts own q).1 (g, e ∙ v.1))), v.1)
        | inr none ↦ absurd (none s l ((like_parts own s).1 (h, refl)))
      ]

  group_test : List ℕ → Row → ℕ → Bool
  group_test by key r =
      has_test (sides r) place && (eq_by_cmp row_cmp (part_of by (get_or labels r [])) key && none_below (like_test (get_or labels r [])) r)

  group_parts : (by : List ℕ) (key : Row) (r : ℕ) → IsTrue (group_test by key r)
      ↔ (Here r × (part_of by (get_or labels r []) ≡ key) × ((s : ℕ) → s < r → Here s → get_or labels s [] ≡ get_or labels r [] → ⊥))
  unfolding group_test
  group_parts by key r =
      let own : Row = get_or labels r [] in
      let h = has_tested (sides r) place in
      let e = eq_by_cmp-≡ row_cmp row_total row_separates (part_of by own) key in
      let n = none_below-is (like_test own) r in (
        λ t.
            let w = and_parts (has_test (sides r) place) (eq_by_cmp row_cmp (part_of by own) key && none_below (like_test own) r) t in
            let v = and_parts (eq_by_cmp row_cmp (part_of by own) key) (none_below (like_test own) r) w.1 in
            (h.0 w.0, e.0 v.0, λ s k g q. n.0 v.1 s k ((like_parts own s).1 (g, q))),
        λ w.
            and_from (has_test (sides r) place) (eq_by_cmp row_cmp (part_of by own) key && none_below (like_test own) r) (h.1 w.0)
            (and_from (eq_by_cmp row_cmp (part_of by own) key) (none_below (like_test own) r) (e.1 w.1) (n.1 (λ s k t. let v = (like_parts own s).0 t in w.2 s k v.0 v.1))),
      )

  -- each key has its rows at the place
  pub firsts_there : (by : List ℕ) (key : Row) → (a : List ℕ) × AreFirsts by labels Here key a
  firsts_there by key = (
    passing (group_test by key) 0 (length labels),
    record {
      order = passing_rows (group_test by key) 0 (length labels) (length labels) (omega arith);
      members = λ r.
          let m = passing_members (group_test by key) 0 (length labels) r in
          let g = group_parts by key r in (
            λ h. let w = m.0 h in let l = w.1 in let v = g.0 w.2 in ((omega (arith, l), v.0, v.2), v.1),
            λ h. let l = (h.0).0 in m.1 (omega arith, omega (arith, l), g.1 ((h.0).1, h.1, (h.0).2)),
          );
    },
  )

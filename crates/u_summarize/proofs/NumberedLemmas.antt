-- Rows with their numbers, one after the other.
use Rattle.std.proofs.Common.{◌≡◌, ◌↔◌, inl, inr, ℕ, ◌+◌, ◌<◌, ◌≤◌, List, [], ◌∷◌, ◌++◌, length, get_or, arith, sym, ap, ◌∙◌, subst}
use Rattle.std.specs.List.{All}
use Rattle.std.proofs.lemmas.Bool.{cases_lt}
use Rattle.value_core.specs.Values.{Row}
use Rattle.relation_core.specs.Agreement.{part_of}
use Rattle.cell_packing.specs.Covering.{Among}
use Rattle.cell_packing.proofs.AmongLemmas.{among_append, all_from_members}
use Rattle.cell_boxes.specs.Answers.{PlainKeyedCellBox}
use Rattle.cell_boxes.specs.Rows.{PlainCellBox}
use Rattle.cell_boxes.proofs.RowLemmas.{row_all, some_row}
use Rattle.u_summarize.specs.Asked.{IsNumbered}

-- the same of the first n rows
abbrev pub IsNumberedBelow : ℕ → List ℕ → List (PlainCellBox Row) → PlainKeyedCellBox Row ℕ → Type 0
IsNumberedBelow n by rows z = (z.1 < n) × (z.0 ≡ part_of by (get_or rows z.1 ([], [])).0) × (z.2 ≡ (get_or rows z.1 ([], [])).1)

module _ (by : List ℕ) (rows : List (PlainCellBox Row)) where
  pub numbered_none : (old : List (PlainKeyedCellBox Row ℕ)) → old ≡ [] → (z : PlainKeyedCellBox Row ℕ) → Among z old ↔ IsNumberedBelow 0 by rows z
  numbered_none old e z = (λ h. absurd (subst (Among z) e h), λ h. let l = h.0 in absurd (omega (arith, l)))

  pub numbered_more : (old new : List (PlainKeyedCellBox Row ℕ)) (r : ℕ) (x : PlainCellBox Row) (y : PlainKeyedCellBox Row ℕ) → get_or rows r ([], []) ≡ x → y ≡ (part_of by x.0, r, x.1) → new ≡ old ++ y ∷ []
      → ((z : PlainKeyedCellBox Row ℕ) → Among z old ↔ IsNumberedBelow r by rows z) → (z : PlainKeyedCellBox Row ℕ) → Among z new ↔ IsNumberedBelow (r + 1) by rows z
  numbered_more old new r x y at made e is z =
      let a = among_append z old (y ∷ []) in
      let b = is z in
      let key : y.0 ≡ part_of by (get_or rows r ([], [])).0 = ap (λ (w : PlainKeyedCellBox Row ℕ). w.0) made ∙ sym (ap (λ (w : PlainCellBox Row). part_of by w.0) at) in
      let number : y.1 ≡ r = ap (λ (w : PlainKeyedCellBox Row ℕ). w.1) made in
      let side : y.2 ≡ (get_or rows r ([], [])).1 = ap (λ (w : PlainKeyedCellBox Row ℕ). w.2) made ∙ sym (ap (λ (w : PlainCellBox Row). w.1) at) in (
        λ h. elim (a.0 (subst (Among z) e h)) [
          | inl m ↦ let w = b.0 m in let l = w.0 in (omega (arith, l), w.1, w.2)
          | inr m ↦ elim m [
            | inl q ↦
                let n : z.1 ≡ r = sym (ap (λ (w : PlainKeyedCellBox Row ℕ). w.1) q) ∙ number in (
                  omega (arith, n),
                  sym (ap (λ (w : PlainKeyedCellBox Row ℕ). w.0) q) ∙ key ∙ sym (ap (λ i. part_of by (get_or rows i ([], [])).0) n),
                  sym (ap (λ (w : PlainKeyedCellBox Row ℕ). w.2) q) ∙ side ∙ sym (ap (λ i. (get_or rows i ([], [])).1) n),
                )
            | inr q ↦ absurd q
          ]
        ],
        λ h.
            let l = h.0 in
            subst (Among z) (sym e) (a.1 (elim (cases_lt z.1 r) [
              | inl w ↦ inl (b.1 (w, h.1, h.2))
              | inr w ↦
                  let n : z.1 ≡ r = omega (arith, l, w) in
                  let first : y.0 ≡ z.0 = key ∙ sym (ap (λ i. part_of by (get_or rows i ([], [])).0) n) ∙ sym h.1 in
                  let second : y.1 ≡ z.1 = number ∙ sym n in
                  let third : y.2 ≡ z.2 = side ∙ sym (ap (λ i. (get_or rows i ([], [])).1) n) ∙ sym h.2 in
                  inr (inl (λ t. (first t, second t, third t)))
            ])),
      )

  pub numbered_all : (old : List (PlainKeyedCellBox Row ℕ)) (r : ℕ) → r ≤ length rows → length rows ≤ r → ((z : PlainKeyedCellBox Row ℕ) → Among z old ↔ IsNumberedBelow r by rows z) → (z : PlainKeyedCellBox Row ℕ) → Among z old ↔ IsNumbered by rows z
  numbered_all old r w d is =
      let e : r ≡ length rows = omega arith in
      subst (λ n. (z : PlainKeyedCellBox Row ℕ) → Among z old ↔ IsNumberedBelow n by rows z) e is

  pub numbered_sides : (k : ℕ) → All (λ (x : PlainCellBox Row). length x.1 ≡ k) rows → (old : List (PlainKeyedCellBox Row ℕ)) → ((z : PlainKeyedCellBox Row ℕ) → Among z old ↔ IsNumbered by rows z) → All (λ (z : PlainKeyedCellBox Row ℕ). length z.2 ≡ k) old
  numbered_sides k all old is = all_from_members (λ (z : PlainKeyedCellBox Row ℕ). length z.2 ≡ k) old (λ z m.
      let w = (is z).0 m in
      ap length w.2 ∙ row_all (λ (x : PlainCellBox Row). length x.1 ≡ k) rows all z.1 (get_or rows z.1 ([], [])) (some_row rows z.1 ([], []) w.0))

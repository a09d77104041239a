-- What is kept of columns, one after the other.
--     AreTurned      what is kept of the first columns is of the new flags, and of the others of the old
use Rattle.std.proofs.Common.{◌≡◌, ℕ, zero, suc, ◌+◌, ◌<◌, ◌≤◌, Bool, List, [], ◌∷◌, ◌++◌, take, set, length, get_or, inl, inr, arith, refl, sym, ap, ap₂, subst, ◌∙◌}
use Rattle.std.proofs.lemmas.Bool.{cases_lt}
use Rattle.std.proofs.lemmas.List.{get_or-set_other, get_or-set_same, length-set}
use Rattle.u_summarize.specs.Figures.{PlainColumn, IsKept, column_at, kept_at, figure_of, figures_of}
use Rattle.u_summarize.specs.declared.keeping.Kept.{Kept}
use Rattle.u_summarize.specs.declared.values.Figure.{Figure}
use Rattle.cell_boxes.proofs.TallyLemmas.{equal_or}

pub record AreTurned (columns : List PlainColumn) (f g : List Bool) (j : ℕ) (kept : List Kept) : Type 0 where
  pub many : length kept ≡ length columns
  pub done : (i : ℕ) → i < j → i < length columns → IsKept (column_at columns i) (kept_at kept i) g
  pub rest : (i : ℕ) → j ≤ i → i < length columns → IsKept (column_at columns i) (kept_at kept i) f

pub turned_more : (columns : List PlainColumn) (f g : List Bool) (j : ℕ) (kept : List Kept) (z : Kept) → AreTurned columns f g j kept → j < length columns → IsKept (column_at columns j) z g
    → AreTurned columns f g (j + 1) (set kept j z)
turned_more columns f g j kept z is l own = record {
  many = length-set kept j z ∙ is.many;
  done = λ i k m. elim (equal_or i j) [
    | inl e ↦
        let b : j < length kept = subst (λ n. j < n) (sym is.many) l in
        let q : kept_at (set kept j z) i ≡ z = ap (kept_at (set kept j z)) e ∙ get_or-set_same kept j z _ b in
        subst (λ y. IsKept (column_at columns i) y g) (sym q) (subst (λ n. IsKept (column_at columns n) z g) (sym e) own)
    | inr ne ↦ subst (λ y. IsKept (column_at columns i) y g) (sym (get_or-set_other kept j i z _ ne)) (is.done i (other i j k ne) m)
  ];
  rest = λ i k m. subst (λ y. IsKept (column_at columns i) y f) (sym (get_or-set_other kept j i z _ (λ e. absurd (omega (arith, e, k))))) (is.rest i (omega (arith, k)) m);
}
  where
    other : (i j : ℕ) → i < j + 1 → (i ≡ j → ⊥) → i < j
    other i j k ne = elim (cases_lt i j) [ inl w ↦ w | inr w ↦ absurd (ne (omega (arith, k, w))) ]

-- ---- of no rows

pub length_more : (old new : List Kept) (z : Kept) (j : ℕ) → length old ≡ j → new ≡ old ++ z ∷ [] → length new ≡ j + 1
length_more old new z j count made = ap length made ∙ go old j count
  where
    go : (xs : List Kept) (n : ℕ) → length xs ≡ n → length (xs ++ z ∷ []) ≡ n + 1
    go [] n e = omega (arith, e)
    go (x ∷ xs) zero e = absurd (omega (arith, e))
    go (x ∷ xs) (suc n) e = let w = go xs n (omega (arith, e)) in omega (arith, w)

pub started_more : (columns : List PlainColumn) (f : List Bool) (j : ℕ) (old new : List Kept) (z : Kept) → length old ≡ j → ((i : ℕ) → i < j → IsKept (column_at columns i) (kept_at old i) f)
    → IsKept (column_at columns j) z f → new ≡ old ++ z ∷ [] → (i : ℕ) → i < j + 1 → IsKept (column_at columns i) (kept_at new i) f
started_more columns f j old new z count is own made i l = subst (λ ks. IsKept (column_at columns i) (kept_at ks i) f) (sym made) (elim (cases_lt i j) [
  | inl k ↦ subst (λ x. IsKept (column_at columns i) x f) (before old i (omega (arith, k, count))) (is i k)
  | inr k ↦
      let e : i ≡ j = omega (arith, k, l) in
      subst (λ x. IsKept (column_at columns i) x f) (last old i (e ∙ sym count)) (subst (λ n. IsKept (column_at columns n) z f) (sym e) own)
])
  where
    before : (xs : List Kept) (n : ℕ) → n < length xs → kept_at xs n ≡ kept_at (xs ++ z ∷ []) n
    before [] n k = absurd (omega (arith, k))
    before (x ∷ xs) zero k = refl
    before (x ∷ xs) (suc n) k = before xs n (omega (arith, k))

    last : (xs : List Kept) (n : ℕ) → n ≡ length xs → z ≡ kept_at (xs ++ z ∷ []) n
    last [] zero e = refl
    last [] (suc n) e = absurd (omega (arith, e))
    last (x ∷ xs) zero e = absurd (omega (arith, e))
    last (x ∷ xs) (suc n) e = last xs n (omega (arith, e))

-- ---- what they give

pub figures_more : (columns : List PlainColumn) (f : List Bool) (i : ℕ) (column : PlainColumn) (old new : List Figure) (own : Figure) → i < length columns → column ≡ get_or columns i column → own ≡ figure_of column f
    → old ≡ take i (figures_of columns f) → new ≡ old ++ own ∷ [] → new ≡ take (i + 1) (figures_of columns f)
figures_more columns f i column old new own l at is so made =
    made ∙ ap₂ (λ (xs : List Figure) (y : Figure). xs ++ y ∷ []) so is ∙ go columns i l at ∙ ap (λ n. take n (figures_of columns f)) (one_up i)
  where
    one_up : (n : ℕ) → suc n ≡ n + 1
    one_up n = omega arith

    go : (cs : List PlainColumn) (j : ℕ) → j < length cs → column ≡ get_or cs j column → take j (figures_of cs f) ++ figure_of column f ∷ [] ≡ take (suc j) (figures_of cs f)
    go [] j l e = absurd (omega (arith, l))
    go (c ∷ cs) zero l e = ap (λ (x : PlainColumn). figure_of x f ∷ []) e
    go (c ∷ cs) (suc j) l e = ap (λ (xs : List Figure). figure_of c f ∷ xs) (go cs j (omega (arith, l)) e)

-- Columns of numbers, one row and one aggregate after the other.
use Rattle.std.proofs.Common.{◌≡◌, inl, inr, ℕ, zero, suc, ◌+◌, ◌<◌, ℤ, pos, List, [], ◌∷◌, ◌++◌, map, take, length, get_or, arith, refl, sym, ap, ◌∙◌, subst}
use Rattle.std.proofs.lemmas.Bool.{cases_lt}
use Rattle.point_core.specs.declared.any_type.AnyType.{AnyType}
use Rattle.value_core.specs.Values.{Row}
use Rattle.scalar_core.specs.Expressions.{Expr}
use Rattle.tree_core.specs.Trees.{read_aggregate, read_aggregate_form}
use Rattle.tree_core.specs.declared.tree.Aggregate.{Aggregate}
use Rattle.u_summarize.specs.Figures.{PlainColumn}
use Rattle.eval_using.specs.Columns.{HasPoint, IsColumn, AreColumns}

abbrev pub HasPointsBelow : ℕ → List Row → Expr → AnyType → List ℤ → Type 0
HasPointsBelow n rows e t numbers = (r : ℕ) → r < n → HasPoint (get_or rows r []) e t (get_or numbers r (pos 0))

before_end : (xs : List ℤ) (z : ℤ) (r : ℕ) → r < length xs → get_or xs r (pos 0) ≡ get_or (xs ++ z ∷ []) r (pos 0)
before_end [] z r l = absurd (omega (arith, l))
before_end (x ∷ xs) z zero l = refl
before_end (x ∷ xs) z (suc r) l = before_end xs z r (omega (arith, l))

at_end : (xs : List ℤ) (z : ℤ) (r : ℕ) → r ≡ length xs → z ≡ get_or (xs ++ z ∷ []) r (pos 0)
at_end [] z zero l = refl
at_end [] z (suc r) l = absurd (omega (arith, l))
at_end (x ∷ xs) z zero l = absurd (omega (arith, l))
at_end (x ∷ xs) z (suc r) l = at_end xs z r (omega (arith, l))

pub length_more : (old new : List ℤ) (z : ℤ) (n : ℕ) → length old ≡ n → new ≡ old ++ z ∷ [] → length new ≡ n + 1
length_more old new z n count made = ap length made ∙ go old n count
  where
    go : (xs : List ℤ) (n : ℕ) → length xs ≡ n → length (xs ++ z ∷ []) ≡ n + 1
    go [] n e = omega (arith, e)
    go (x ∷ xs) zero e = absurd (omega (arith, e))
    go (x ∷ xs) (suc n) e = let w = go xs n (omega (arith, e)) in omega (arith, w)

pub numbers_more : (n : ℕ) (rows : List Row) (e : Expr) (t : AnyType) (old new : List ℤ) (row : Row) (z : ℤ) → length old ≡ n → HasPointsBelow n rows e t old → row ≡ get_or rows n [] → HasPoint row e t z → new ≡ old ++ z ∷ [] → HasPointsBelow (n + 1) rows e t new
numbers_more n rows e t old new row z count is at own made r l = elim (cases_lt r n) [
  | inl k ↦ subst (HasPoint (get_or rows r []) e t) (before_end old z r (omega (arith, k, count)) ∙ sym (ap (λ xs. get_or xs r (pos 0)) made)) (is r k)
  | inr k ↦
      let q : r ≡ n = omega (arith, k, l) in
      subst (HasPoint (get_or rows r []) e t) (at_end old z r (q ∙ sym count) ∙ sym (ap (λ xs. get_or xs r (pos 0)) made)) (subst (λ x. HasPoint x e t z) (at ∙ ap (λ i. get_or rows i []) (sym q)) own)
]

pub columns_more : (rows : List Row) (aggregates : List Aggregate) (i : ℕ) (a : Aggregate) (old new : List PlainColumn) (c : PlainColumn) → i < length aggregates → a ≡ get_or aggregates i a
    → AreColumns rows (map read_aggregate (take i aggregates)) old → (length c.2 ≡ length rows) × IsColumn rows (read_aggregate_form a.form) c → new ≡ old ++ c ∷ []
    → AreColumns rows (map read_aggregate (take (i + 1) aggregates)) new
columns_more rows aggregates i a old new c l at is own made =
    subst (AreColumns rows (map read_aggregate (take (i + 1) aggregates))) (sym made) (subst (λ n. AreColumns rows (map read_aggregate (take n aggregates)) (old ++ c ∷ [])) (one_up i) (go aggregates i old l at is))
  where
    one_up : (n : ℕ) → suc n ≡ n + 1
    one_up n = omega arith

    go : (gs : List Aggregate) (n : ℕ) (cs : List PlainColumn) → n < length gs → a ≡ get_or gs n a → AreColumns rows (map read_aggregate (take n gs)) cs → AreColumns rows (map read_aggregate (take (suc n) gs)) (cs ++ c ∷ [])
    go [] n cs l e h = absurd (omega (arith, l))
    go (g ∷ gs) zero [] l e h = (own.0, subst (λ (b : Aggregate). IsColumn rows (read_aggregate_form b.form) c) e own.1, tt)
    go (g ∷ gs) zero (d ∷ cs) l e h = absurd h
    go (g ∷ gs) (suc n) [] l e h = absurd h
    go (g ∷ gs) (suc n) (d ∷ cs) l e h = (h.0, h.1, go gs n cs (omega (arith, l)) e h.2)

-- Lists without repeats, and what holds of each member, where one more is put in, or some are left out.
use Rattle.std.proofs.Common.{◌≡◌, ℕ, zero, suc, Bool, true, false, not, cond, List, [], ◌∷◌, ◌++◌, map, nat_eq, refl, sym, ◌∙◌, subst, arith}
use Rattle.std.proofs.lemmas.List.{append-nil}
use Rattle.std.proofs.lemmas.Bool.{or_parts, true≢false, eqb-true, eq-eqb}
use Rattle.std.specs.List.{All, AllByRecursion, IsDistinct, list_any}
use Rattle.std.specs.Str.{bytes_eq}
use Rattle.base_core.proofs.ListLemmas.{bytes_eq-sym}
use Rattle.value_core.specs.Attributes.{among}
use Rattle.value_core.specs.Values.{Name}
use Rattle.meaning_core.proofs.ElsewhereLemmas.{left}

pub all-between : {X : Type 0} (P : X → Type 0) (xs : List X) (n : X) (ys : List X) → AllByRecursion P (xs ++ ys) → P n → AllByRecursion P (xs ++ n ∷ ys)
all-between P [] n ys h p = (p, h)
all-between P (x ∷ xs) n ys h p = (h.0, all-between P xs n ys h.1 p)

-- one that differs from all of them
pub distinct-between : {X : Type 0} (e : X → X → Bool) (xs : List X) (n : X) (ys : List X) → IsDistinct e (xs ++ ys) → AllByRecursion (λ x. e x n ≡ false) xs
    → AllByRecursion (λ y. e n y ≡ false) ys → IsDistinct e (xs ++ n ∷ ys)
unfolding IsDistinct
distinct-between e [] n ys d before after = (after, d)
distinct-between e (x ∷ xs) n ys d before after =
    (all-between (λ y. e x y ≡ false) xs n ys d.0 before.0, distinct-between e xs n ys d.1 before.1 after)

pub no-distinct : {X : Type 0} (e : X → X → Bool) → IsDistinct e []
unfolding IsDistinct
no-distinct e = tt

-- what holds at each index
pub all-push : {X : Type 0} (P : X → Type 0) (xs : List X) (x : X) → All P xs → P x → All P (xs ++ x ∷ [])
all-push P [] x h p zero d l = p
all-push P [] x h p (suc k) d l = absurd (omega (arith, l))
all-push P (y ∷ ys) x h p zero d l = h zero d (omega arith)
all-push P (y ∷ ys) x h p (suc k) d l = all-push P ys x (λ i c m. h (suc i) c (omega (arith, m))) p k d (omega (arith, l))

-- ---- that differ

-- a name that is none of these
pub none-named : (names : List Name) (name : Name) → list_any (bytes_eq name) names ≡ false → AllByRecursion (λ n. bytes_eq n name ≡ false) names
none-named [] name e = tt
none-named (n ∷ names) name e =
    let parts = or_parts (bytes_eq name n) (list_any (bytes_eq name) names) e in
    (bytes_eq-sym n name ∙ parts.0, none-named names name parts.1)

same-numbers : (i j : ℕ) → nat_eq i j ≡ nat_eq j i
same-numbers i j =
    (elim (nat_eq i j) as (λ (b : Bool). nat_eq i j ≡ b → b ≡ nat_eq j i) [
      | true ↦ λ e. sym (eq-eqb j i (sym (eqb-true i j e)))
      | false ↦ λ e. (elim (nat_eq j i) as (λ (b : Bool). nat_eq j i ≡ b → false ≡ b) [
        | true ↦ λ f. absurd (true≢false (sym (eq-eqb i j (sym (eqb-true j i f))) ∙ e))
        | false ↦ λ f. refl
      ]) refl
    ]) refl

-- a position that is none of these
pub not-among : (before : List ℕ) (i : ℕ) → among before i ≡ false → AllByRecursion (λ j. nat_eq j i ≡ false) before
not-among [] i e = tt
not-among (j ∷ before) i e =
    let parts = or_parts (nat_eq i j) (among before i) e in
    (same-numbers j i ∙ parts.0, not-among before i parts.1)

-- ---- where some are left out

module _ {A : Type 0} (some : Name → Bool) where
  abbrev names_of : List (Name × A) → List Name
  names_of ks = map (λ k. k.0) ks

  others-left : (P : Name → Type 0) (ks : List (Name × A)) (after : List Name) → AllByRecursion P (names_of ks ++ after) → AllByRecursion P (names_of (left some ks) ++ after)
  others-left P [] after all = all
  others-left P (k ∷ ks) after all =
      elim (not (some k.0)) as (λ (b : Bool). AllByRecursion P (names_of (cond b (k ∷ left some ks) (left some ks)) ++ after)) [
        | true ↦ (all.0, others-left P ks after all.1)
        | false ↦ others-left P ks after all.1
      ]

  -- of the first names
  pub distinct-left : (ks : List (Name × A)) (after : List Name) → IsDistinct bytes_eq (names_of ks ++ after) → IsDistinct bytes_eq (names_of (left some ks) ++ after)
  unfolding IsDistinct
  distinct-left [] after d = d
  distinct-left (k ∷ ks) after d =
      elim (not (some k.0)) as (λ (b : Bool). IsDistinct bytes_eq (names_of (cond b (k ∷ left some ks) (left some ks)) ++ after)) [
        | true ↦ (others-left (λ (n : Name). bytes_eq k.0 n ≡ false) ks after d.0, distinct-left ks after d.1)
        | false ↦ distinct-left ks after d.1
      ]

  others-behind : (P : Name → Type 0) (before : List Name) (ks : List (Name × A)) → AllByRecursion P (before ++ names_of ks) → AllByRecursion P (before ++ names_of (left some ks))
  others-behind P [] ks all = subst (AllByRecursion P) (append-nil _) (others-left P ks [] (subst (AllByRecursion P) (sym (append-nil _)) all))
  others-behind P (n ∷ before) ks all = (all.0, others-behind P before ks all.1)

  -- of the last names
  pub distinct-behind : (before : List Name) (ks : List (Name × A)) → IsDistinct bytes_eq (before ++ names_of ks) → IsDistinct bytes_eq (before ++ names_of (left some ks))
  unfolding IsDistinct
  distinct-behind [] ks d = subst (IsDistinct bytes_eq) (append-nil _) (distinct-left ks [] (subst (IsDistinct bytes_eq) (sym (append-nil _)) d))
  distinct-behind (n ∷ before) ks d = (others-behind (λ (m : Name). bytes_eq n m ≡ false) before ks d.0, distinct-behind before ks d.1)

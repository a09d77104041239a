-- What names stand for in entries that go on, or that lack their views.
--     base-of      the base relvar that a name stands for
--     named-next      among entries with one more behind them
--     named-filtered, named-unfiltered, value-filtered      among the base relvars alone
--     distinct-front      names of the first entries differ where all do
use Rattle.std.proofs.Common.{◌≡◌, ◌⊎◌, inl, inr, true, false, cond, List, [], ◌∷◌, ◌++◌, filter, refl, sym, ap, ◌∙◌, subst, Option, Some, None}
use Rattle.std.specs.List.{AllByRecursion, IsDistinct}
use Rattle.std.specs.Str.{bytes_eq}
use Rattle.value_core.specs.declared.constraint.Constraint.{Constraint}
use Rattle.value_core.specs.Values.{Name, Relation}
use Rattle.tree_core.specs.Relvars.{PlainRelvar, base, view, Entries, relvar_named, log}
use Rattle.meaning_core.specs.WellMade.{IsBase}
use Rattle.meaning_core.proofs.MadeLemmas.{same_name}
use Rattle.assign_core.specs.Breaches.{value_if}
use Rattle.assign_core.specs.Parts.{names_in}
use Rattle.assign_core.proofs.NameLemmas.{distinct_earlier, names_more, turned}
use Rattle.part_laws.specs.Parts.{is_base}

-- ---- one entry

pub base-of : (o : Option PlainRelvar) → IsBase o → (v : Relation) × (c : List Constraint) × (o ≡ Some (base v c))
base-of None h = absurd h
base-of (Some (base v c)) h = (v, c, refl)
base-of (Some (view t kind)) h = absurd h
base-of (Some (log o k last w)) h = absurd h

-- ---- more entries

pub named-next : (before : Entries) (own name : Name) (r x : PlainRelvar) → relvar_named (before ++ (own, r) ∷ []) name ≡ Some x
    → (relvar_named before name ≡ Some x) ⊎ (bytes_eq own name ≡ true)
named-next [] own name r x e =
    elim (bytes_eq own name) as (λ b. bytes_eq own name ≡ b → cond b (Some r) None ≡ Some x → (None ≡ Some x) ⊎ (bytes_eq own name ≡ true)) [
      | true ↦ λ q h. inr q
      | false ↦ λ q h. inl h
    ] refl e
named-next (d ∷ before) own name r x e =
    let last : Entries = before ++ (own, r) ∷ [] in
    elim (bytes_eq d.0 name) as (λ b. cond b (Some d.1) (relvar_named last name) ≡ Some x → (cond b (Some d.1) (relvar_named before name) ≡ Some x) ⊎ (bytes_eq own name ≡ true)) [
      | true ↦ λ h. inl h
      | false ↦ named-next before own name r x
    ] e

-- ---- different names

pub distinct-front : (xs ys : Entries) → IsDistinct bytes_eq (names_in (xs ++ ys)) → IsDistinct bytes_eq (names_in xs)
distinct-front xs ys h = distinct_earlier (names_in xs) (names_in ys) (subst (IsDistinct bytes_eq) (names_more xs ys) h)

-- a name that is that of no entry
apart : (x name : Name) (y : Name) → bytes_eq x name ≡ true → bytes_eq x y ≡ false → bytes_eq y name ≡ false
apart x name y e d = ap (bytes_eq y) (sym (same_name x name e)) ∙ turned x y d

absent : (x name : Name) (es : Entries) → bytes_eq x name ≡ true → AllByRecursion (λ y. bytes_eq x y ≡ false) (names_in es) → relvar_named es name ≡ None
absent x name [] e h = refl
absent x name (d ∷ es) e h = ap (λ b. cond b (Some d.1) (relvar_named es name)) (apart x name d.0 e h.0) ∙ absent x name es e h.1

-- ---- base relvars alone

abbrev bases : Entries → Entries
bases es = filter is_base es

all-bases : (P : Name → Type 0) (es : Entries) → AllByRecursion P (names_in es) → AllByRecursion P (names_in (bases es))
all-bases P [] h = tt
all-bases P ((n, base v c) ∷ es) h = (h.0, all-bases P es h.1)
all-bases P ((n, view t g) ∷ es) h = all-bases P es h.1
all-bases P ((n, log o k last w) ∷ es) h = all-bases P es h.1

absent-base : (x name : Name) (es : Entries) → bytes_eq x name ≡ true → AllByRecursion (λ y. bytes_eq x y ≡ false) (names_in es) → relvar_named (bases es) name ≡ None
absent-base x name es e h = absent x name (bases es) e (all-bases (λ y. bytes_eq x y ≡ false) es h)

-- a base relvar stands among them
pub named-filtered : (es : Entries) (name : Name) (v : Relation) (c : List Constraint) → relvar_named es name ≡ Some (base v c) → relvar_named (bases es) name ≡ Some (base v c)
named-filtered [] name v c e = e
named-filtered ((n, base w d) ∷ es) name v c e =
    elim (bytes_eq n name) as (λ b. cond b (Some (base w d)) (relvar_named es name) ≡ Some (base v c) → cond b (Some (base w d)) (relvar_named (bases es) name) ≡ Some (base v c)) [
      | true ↦ λ h. h
      | false ↦ named-filtered es name v c
    ] e
named-filtered ((n, view t g) ∷ es) name v c e =
    elim (bytes_eq n name) as (λ b. cond b (Some (view t g)) (relvar_named es name) ≡ Some (base v c) → relvar_named (bases es) name ≡ Some (base v c)) [
      | true ↦ λ h. let never : IsBase (Some (view t g)) = subst IsBase (sym h) tt in absurd never
      | false ↦ named-filtered es name v c
    ] e
named-filtered ((n, log o k last w) ∷ es) name v c e =
    elim (bytes_eq n name) as (λ b. cond b (Some (log o k last w)) (relvar_named es name) ≡ Some (base v c) → relvar_named (bases es) name ≡ Some (base v c)) [
      | true ↦ λ h. let never : IsBase (Some (log o k last w)) = subst IsBase (sym h) tt in absurd never
      | false ↦ named-filtered es name v c
    ] e

-- what stands among them stands for the same among all
pub named-unfiltered : (es : Entries) (name : Name) (x : PlainRelvar) → IsDistinct bytes_eq (names_in es) → relvar_named (bases es) name ≡ Some x → relvar_named es name ≡ Some x
unfolding IsDistinct
named-unfiltered [] name x d e = e
named-unfiltered ((n, base w cs) ∷ es) name x d e =
    elim (bytes_eq n name) as (λ b. cond b (Some (base w cs)) (relvar_named (bases es) name) ≡ Some x → cond b (Some (base w cs)) (relvar_named es name) ≡ Some x) [
      | true ↦ λ h. h
      | false ↦ named-unfiltered es name x d.1
    ] e
named-unfiltered ((n, view t g) ∷ es) name x d e =
    elim (bytes_eq n name) as (λ b. bytes_eq n name ≡ b → cond b (Some (view t g)) (relvar_named es name) ≡ Some x) [
      | true ↦ λ q. let none = absent-base n name es q d.0 in let never : ⊥ = cc in absurd never
      | false ↦ λ q. named-unfiltered es name x d.1 e
    ] refl
named-unfiltered ((n, log o k last w) ∷ es) name x d e =
    elim (bytes_eq n name) as (λ b. bytes_eq n name ≡ b → cond b (Some (log o k last w)) (relvar_named es name) ≡ Some x) [
      | true ↦ λ q. let none = absent-base n name es q d.0 in let never : ⊥ = cc in absurd never
      | false ↦ λ q. named-unfiltered es name x d.1 e
    ] refl

-- so a base relvar has the same value
pub value-filtered : (es : Entries) (name : Name) → IsDistinct bytes_eq (names_in es) → value_if (relvar_named es name) ≡ value_if (relvar_named (bases es) name)
unfolding IsDistinct
value-filtered [] name d = refl
value-filtered ((n, base w cs) ∷ es) name d =
    elim (bytes_eq n name) as (λ b. value_if (cond b (Some (base w cs)) (relvar_named es name)) ≡ value_if (cond b (Some (base w cs)) (relvar_named (bases es) name))) [
      | true ↦ refl
      | false ↦ value-filtered es name d.1
    ]
value-filtered ((n, view t g) ∷ es) name d =
    elim (bytes_eq n name) as (λ b. bytes_eq n name ≡ b → value_if (cond b (Some (view t g)) (relvar_named es name)) ≡ value_if (relvar_named (bases es) name)) [
      | true ↦ λ q. sym (ap value_if (absent-base n name es q d.0))
      | false ↦ λ q. value-filtered es name d.1
    ] refl
value-filtered ((n, log o k last w) ∷ es) name d =
    elim (bytes_eq n name) as (λ b. bytes_eq n name ≡ b → value_if (cond b (Some (log o k last w)) (relvar_named es name)) ≡ value_if (relvar_named (bases es) name)) [
      | true ↦ λ q. sym (ap value_if (absent-base n name es q d.0))
      | false ↦ λ q. value-filtered es name d.1
    ] refl

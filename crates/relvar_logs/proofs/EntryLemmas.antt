-- Entries of a state at their places, as they are read.
--     entries_length      there are as many
--     set_turned, turned_to      one is turned into another one, and back
--     so_there, so_set      what is so of the entry at a place
use Rattle.std.proofs.Common.{◌≡◌, ℕ, zero, suc, ◌<◌, List, [], ◌∷◌, map, length, refl, ap, subst, ◌∙◌, arith, Some, None}
use Rattle.std.specs.Prelude.{slice_get}
use Rattle.indexmap.specs.IndexMap.{set_value_at}
use Rattle.value_core.specs.Values.{Name}
use Rattle.tree_core.specs.declared.relvar.Relvar.{Relvar}
use Rattle.tree_core.specs.Relvars.{PlainRelvar, Entries, read_entry, read_relvar}
use Rattle.relvar_logs.specs.Changes.{turned_at, IsSoAt}

pub entries_length : (es : List (Name × Relvar)) → length (map read_entry es) ≡ length es
entries_length [] = refl
entries_length (e ∷ es) = ap suc (entries_length es)

pub set_turned : (es : List (Name × Relvar)) (i : ℕ) (w : Relvar) (f : PlainRelvar → PlainRelvar) (k : Name) (r : Relvar) → slice_get es i ≡ Some (k, r) → read_relvar w ≡ f (read_relvar r)
    → map read_entry (set_value_at es i w) ≡ turned_at i f (map read_entry es)
set_turned [] i w f k r is e = refl
set_turned (x ∷ es) zero w f k r is e =
    let same : (k, r) ≡ x = cc in
    ap (λ (z : PlainRelvar). (x.0, z) ∷ map read_entry es) (e ∙ ap (λ (z : Name × Relvar). f (read_relvar z.1)) same)
set_turned (x ∷ es) (suc i) w f k r is e = ap (λ (z : Entries). read_entry x ∷ z) (set_turned es i w f k r is e)

pub set_same : (es : List (Name × Relvar)) (i : ℕ) (w : Relvar) (k : Name) (r : Relvar) → slice_get es i ≡ Some (k, r) → read_relvar w ≡ read_relvar r
    → map read_entry (set_value_at es i w) ≡ map read_entry es
set_same [] i w k r is e = refl
set_same (x ∷ es) zero w k r is e =
    let same : (k, r) ≡ x = cc in
    ap (λ (z : PlainRelvar). (x.0, z) ∷ map read_entry es) (e ∙ ap (λ (z : Name × Relvar). read_relvar z.1) same)
set_same (x ∷ es) (suc i) w k r is e = ap (λ (z : Entries). read_entry x ∷ z) (set_same es i w k r is e)

pub turned_to : (es : List (Name × Relvar)) (i : ℕ) (w : Relvar) (f : PlainRelvar → PlainRelvar) (k : Name) (r : Relvar) → slice_get es i ≡ Some (k, r) → f (read_relvar w) ≡ read_relvar r
    → turned_at i f (map read_entry (set_value_at es i w)) ≡ map read_entry es
turned_to [] i w f k r is e = refl
turned_to (x ∷ es) zero w f k r is e =
    let same : (k, r) ≡ x = cc in
    ap (λ (z : PlainRelvar). (x.0, z) ∷ map read_entry es) (e ∙ ap (λ (z : Name × Relvar). read_relvar z.1) same)
turned_to (x ∷ es) (suc i) w f k r is e = ap (λ (z : Entries). read_entry x ∷ z) (turned_to es i w f k r is e)

pub so_there : (es : List (Name × Relvar)) (i : ℕ) (P : PlainRelvar → Type 0) (k : Name) (r : Relvar) → IsSoAt i P (map read_entry es) → slice_get es i ≡ Some (k, r) → P (read_relvar r)
so_there [] i P k r h is = absurd h
so_there (x ∷ es) zero P k r h is = let same : x ≡ (k, r) = cc in subst (λ (z : Name × Relvar). P (read_relvar z.1)) same h
so_there (x ∷ es) (suc i) P k r h is = so_there es i P k r h is

pub so_set : (es : List (Name × Relvar)) (i : ℕ) (w : Relvar) (P : PlainRelvar → Type 0) (k : Name) (r : Relvar) → slice_get es i ≡ Some (k, r) → P (read_relvar w)
    → IsSoAt i P (map read_entry (set_value_at es i w))
so_set [] i w P k r is h = absurd (cc)
so_set (x ∷ es) zero w P k r is h = h
so_set (x ∷ es) (suc i) w P k r is h = so_set es i w P k r is h

pub so_put : (es : List (Name × Relvar)) (i : ℕ) (P : PlainRelvar → Type 0) (k : Name) (r : Relvar) → slice_get es i ≡ Some (k, r) → P (read_relvar r) → IsSoAt i P (map read_entry es)
so_put [] i P k r is h = absurd (cc)
so_put (x ∷ es) zero P k r is h = let same : (k, r) ≡ x = cc in subst (λ (z : Name × Relvar). P (read_relvar z.1)) same h
so_put (x ∷ es) (suc i) P k r is h = so_put es i P k r is h

pub not_there : (es : List (Name × Relvar)) (i : ℕ) (P : PlainRelvar → Type 0) → IsSoAt i P (map read_entry es) → slice_get es i ≡ None → ⊥
not_there [] i P h is = h
not_there (x ∷ es) zero P h is = absurd (cc)
not_there (x ∷ es) (suc i) P h is = not_there es i P h is

pub so_within : (es : Entries) (i : ℕ) (P : PlainRelvar → Type 0) → IsSoAt i P es → i < length es
so_within [] i P h = absurd h
so_within (e ∷ es) zero P h = omega arith
so_within (e ∷ es) (suc i) P h = let ih = so_within es i P h in omega (arith, ih)

pub so_weaker : (es : Entries) (i : ℕ) (P Q : PlainRelvar → Type 0) → ((r : PlainRelvar) → P r → Q r) → IsSoAt i P es → IsSoAt i Q es
so_weaker [] i P Q f h = absurd h
so_weaker (e ∷ es) zero P Q f h = f e.1 h
so_weaker (e ∷ es) (suc i) P Q f h = so_weaker es i P Q f h

-- Rows counted relvar by relvar.
use Rattle.std.proofs.Common.{◌≡◌, ℕ, zero, suc, ◌+◌, ◌<◌, ◌≤◌, Bool, true, false, List, [], ◌∷◌, map, take, length, refl, sym, ap, ◌∙◌, arith, nat_le, ◌-◌, Option, Some}
use Rattle.std.specs.Prelude.{slice_index_or, slice_get}
use Rattle.std.proofs.lemmas.Bool.Decides.{nat_tests}
use Rattle.relation_core.proofs.FilterLemmas.{take_all}
use Rattle.value_core.specs.Values.{Name, Relation}
use Rattle.tree_core.specs.declared.relvar.Relvar.{Relvar}
use Rattle.tree_core.specs.Relvars.{PlainRelvar, Entries, read_entry, read_relvar}
use Rattle.assign_core.specs.Breaches.{count_of, rows_of_all}
use Rattle.relvar_logs.specs.Changes.{Changes, changed, changed_relvar}

pub rows_more : (es : Entries) (i : ℕ) (d : Name × PlainRelvar) → i < length es → rows_of_all (take (i + 1) es) ≡ rows_of_all (take i es) + count_of (slice_index_or es i d)
rows_more es i d l = let one : i + 1 ≡ suc i = omega arith in ap (λ (n : ℕ). rows_of_all (take n es)) one ∙ by es i l
  where
    by : (xs : Entries) (k : ℕ) → k < length xs → rows_of_all (take (suc k) xs) ≡ rows_of_all (take k xs) + count_of (slice_index_or xs k d)
    by [] k l = absurd (omega arith)
    by (x ∷ xs) zero l = omega arith
    by (x ∷ xs) (suc k) l = let ih = by xs k (omega arith) in omega (arith, ih)

pub rows_part : (es : Entries) (n : ℕ) → rows_of_all (take n es) ≤ rows_of_all es
rows_part es zero = omega arith
rows_part [] (suc n) = omega arith
rows_part (e ∷ es) (suc n) = let ih = rows_part es n in omega (arith, ih)

pub changed_at_place : (cs : Changes) (es : List (Name × Relvar)) (i : ℕ) (k : Name) (r : Relvar) (d : Option Relation) (e : Name × PlainRelvar) → length cs ≡ length es → slice_get es i ≡ Some (k, r)
    → (slice_index_or (changed cs (map read_entry es)) i e).1 ≡ changed_relvar (slice_index_or cs i d) (read_relvar r)
changed_at_place [] [] i k r d e l is = absurd (cc)
changed_at_place [] (x ∷ es) i k r d e l is = absurd (omega (arith, l))
changed_at_place (c ∷ cs) [] i k r d e l is = absurd (omega (arith, l))
changed_at_place (c ∷ cs) (x ∷ es) zero k r d e l is = let same : x ≡ (k, r) = cc in ap (λ (z : Name × Relvar). changed_relvar c (read_relvar z.1)) same
changed_at_place (c ∷ cs) (x ∷ es) (suc i) k r d e l is = changed_at_place cs es i k r d e (omega (arith, l)) is

pub changed_entry : (cs : Changes) (es : List (Name × Relvar)) (i : ℕ) (k : Name) (r : Relvar) (d : Option Relation) (e : Name × PlainRelvar) → length cs ≡ length es → slice_get es i ≡ Some (k, r)
    → (k, changed_relvar (slice_index_or cs i d) (read_relvar r)) ≡ slice_index_or (changed cs (map read_entry es)) i e
changed_entry [] [] i k r d e l is = absurd (cc)
changed_entry [] (x ∷ es) i k r d e l is = absurd (omega (arith, l))
changed_entry (c ∷ cs) [] i k r d e l is = absurd (omega (arith, l))
changed_entry (c ∷ cs) (x ∷ es) zero k r d e l is =
    let same : (k, r) ≡ x = cc in
    ap (λ (z : Name × Relvar). (z.0, changed_relvar c (read_relvar z.1))) same
changed_entry (c ∷ cs) (x ∷ es) (suc i) k r d e l is = changed_entry cs es i k r d e (omega (arith, l)) is

pub changed_length : (cs : Changes) (es : Entries) → length cs ≡ length es → length (changed cs es) ≡ length es
changed_length [] es l = refl
changed_length (c ∷ cs) [] l = refl
changed_length (c ∷ cs) (e ∷ es) l = ap suc (changed_length cs es (omega (arith, l)))

-- ---- whether they are few

over : (a b : ℕ) → b < a → false ≡ nat_le a b
over a b l = by (nat_le a b) refl
  where
    by : (t : Bool) → nat_le a b ≡ t → false ≡ nat_le a b
    by false q = sym q
    by true q = let m : a ≤ b = grind (arith, nat_tests) in absurd (omega (arith, l, m))

under_most : (a b : ℕ) → a ≤ b → true ≡ nat_le a b
under_most a b l = by (nat_le a b) refl
  where
    by : (t : Bool) → nat_le a b ≡ t → true ≡ nat_le a b
    by true q = sym q
    by false q = let m : b < a = grind (arith, nat_tests) in absurd (omega (arith, l, m))

pub too_many : (es : Entries) (i : ℕ) (d : Name × PlainRelvar) (room count most : ℕ) → i < length es → room + rows_of_all (take i es) ≡ most
    → count ≡ count_of (slice_index_or es i d) → room < count → false ≡ nat_le (rows_of_all es) most
too_many es i d room count most l e is more =
    let next = rows_more es i d l in
    let part = rows_part es (i + 1) in
    over (rows_of_all es) most (omega (arith, e, is, more, next, part))

pub next_room : (es : Entries) (i : ℕ) (d : Name × PlainRelvar) (room count most : ℕ) → i < length es → room + rows_of_all (take i es) ≡ most
    → count ≡ count_of (slice_index_or es i d) → count ≤ room → (room - count) + rows_of_all (take (i + 1) es) ≡ most
next_room es i d room count most l e is less = let next = rows_more es i d l in omega (arith, e, is, less, next)

pub few_enough : (es : Entries) (i room most : ℕ) → length es ≤ i → room + rows_of_all (take i es) ≡ most → true ≡ nat_le (rows_of_all es) most
few_enough es i room most l e =
    let all : rows_of_all (take i es) ≡ rows_of_all es = ap rows_of_all (take_all i es l) in
    under_most (rows_of_all es) most (omega (arith, e, all))

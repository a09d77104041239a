-- Hashes of rows that come and go.
--     hash_put, hash_cut      the hashes of rows among which one is put, or from which one is taken
--     hash_kept      those of rows of which one takes the place of another with its hash
--     none_hashed      no hashes are right for each relvar
--     hashes_entry, hashes_put, set_hashed      hashes for an entry, and for what is put in its place
--     first_hashes, hashes_of_first      hashes for the first entry of a name
--     hashed_there, unmarked      where hashes of a place stand, and where there are none
--     hashed_removed, others_hashed      those that are left, and those of other places than the one that changes
use Rattle.std.proofs.Common.{◌≡◌, ◌≢◌, ℕ, zero, suc, ◌<◌, ◌≤◌, List, [], ◌∷◌, map, length, take, drop, get_or, refl, sym, ap, subst, ◌∙◌, arith, Some, None, Bool, true, false, nat_eq, nat_lt}
use Rattle.std.proofs.lemmas.Bool.Decides.{nat_tests}
use Rattle.std.proofs.lemmas.List.{length-map}
use Rattle.std.proofs.lemmas.List.Elements.{All-nil, All-weaker, All-append, All-take, All-drop}
use Rattle.std.proofs.lemmas.List.Quantifiers.{position-Some}
use Rattle.std.proofs.lemmas.List.Sums.{fails_before_first}
use Rattle.std.proofs.lemmas.Grind.{common_steps}
use Rattle.std.specs.Prelude.{slice_get}
use Rattle.std.specs.List.{All, HoldsAt, insert, remove, list_all, position, position_or_len}
use Rattle.std.specs.Bool.{IsTrue}
use Rattle.indexmap.specs.IndexMap.{set_value_at}
use Rattle.value_core.specs.declared.constraint.Constraint.{Constraint}
use Rattle.value_core.specs.Values.{Name, Row, Heading, Relation, IsRelation, fits_heading}
use Rattle.relation_core.proofs.AgreementLemmas.{length_of_fit}
use Rattle.relation_core.proofs.FilterLemmas.{passes_at}
use Rattle.relation_core.specs.Hashes.{HashList, AreHashesOf, hash_of}
use Rattle.tree_core.specs.declared.relvar.Relvar.{Relvar}
use Rattle.tree_core.specs.Relvars.{PlainRelvar, base, view, Entries, read_entry, read_relvar, log}
use Rattle.meaning_core.specs.Names.{IsFirstAt}
use Rattle.assign_core.specs.declared.hashed.Hashed.{Hashed}
use Rattle.assign_core.specs.declared.hashed.HashedRelvar.{HashedRelvar}
use Rattle.assign_core.specs.Hashed.{IsHashesOf, AreHashesIn, AreHashesAt, IsHashed, AreHashed, IsUnmarkedAt}

-- ---- one row

put_map : (f : Row → ℕ) (rows : List Row) (i : ℕ) (x : Row) → insert (map f rows) i (f x) ≡ map f (insert rows i x)
put_map f [] zero x = refl
put_map f [] (suc i) x = refl
put_map f (y ∷ ys) zero x = refl
put_map f (y ∷ ys) (suc i) x = ap (λ (ms : List ℕ). f y ∷ ms) (put_map f ys i x)

cut_map : (f : Row → ℕ) (rows : List Row) (i : ℕ) → remove (map f rows) i ≡ map f (remove rows i)
cut_map f [] zero = refl
cut_map f [] (suc i) = refl
cut_map f (y ∷ ys) zero = refl
cut_map f (y ∷ ys) (suc i) = ap (λ (ms : List ℕ). f y ∷ ms) (cut_map f ys i)

pub hash_put : (heading : Heading) (rows : List Row) (m new : HashList) (i : ℕ) (x : Row) → IsHashesOf heading rows m
    → new ≡ record { positions = m.positions; list = insert m.list i (hash_of m.positions x) } → IsHashesOf heading (insert rows i x) new
hash_put heading rows m new i x h is = subst (IsHashesOf heading (insert rows i x)) (sym is) (record {
  are = ap (λ (ms : List ℕ). insert ms i (hash_of m.positions x)) h.are ∙ put_map (hash_of m.positions) rows i x;
  within = h.within;
})

pub hash_cut : (heading : Heading) (rows : List Row) (m new : HashList) (i : ℕ) → IsHashesOf heading rows m
    → new ≡ record { positions = m.positions; list = remove m.list i } → IsHashesOf heading (remove rows i) new
hash_cut heading rows m new i h is = subst (IsHashesOf heading (remove rows i)) (sym is) (record {
  are = ap (λ (ms : List ℕ). remove ms i) h.are ∙ cut_map (hash_of m.positions) rows i;
  within = h.within;
})

-- a row that takes the place of one with its hash
same_hash : (hashes : List ℕ) (i : ℕ) (h : ℕ) → i < length hashes → HoldsAt (λ k. k ≡ h) hashes i → insert (remove hashes i) i h ≡ hashes
same_hash [] i h l e = absurd (omega (arith, l))
same_hash (k ∷ ks) zero h l e = ap (λ (m : ℕ). m ∷ ks) (sym (e h))
same_hash (k ∷ ks) (suc i) h l e = ap (λ (ms : List ℕ). k ∷ ms) (same_hash ks i h (omega (arith, l)) e)

pub hash_kept : (heading : Heading) (rows : List Row) (m : HashList) (from to : ℕ) (x : Row) → IsHashesOf heading rows m → from ≡ to → from < length rows
    → HoldsAt (λ k. k ≡ hash_of m.positions x) m.list from → IsHashesOf heading (insert (remove rows from) to x) m
hash_kept heading rows m from to x h same l there =
    let f = hash_of m.positions in
    let long : from < length m.list = subst (λ (ms : List ℕ). from < length ms) (sym h.are) (omega (arith, length-map rows f, l)) in
    let now : insert (remove m.list from) from (f x) ≡ m.list = same_hash m.list from (f x) long there in
    subst (λ (k : ℕ). IsHashesOf heading (insert (remove rows from) k x) m) same (record {
      are = sym now ∙ (ap (λ (ms : List ℕ). insert (remove ms from) from (f x)) h.are
          ∙ (ap (λ (ms : List ℕ). insert ms from (f x)) (cut_map f rows from) ∙ put_map f (remove rows from) from x));
      within = h.within;
    })

-- what is asked of a row and a place
pub hash_there : (heading : Heading) (rows : List Row) (m : HashList) (at : ℕ) → IsHashesOf heading rows m → at < length rows → at < length m.list
hash_there heading rows m at h l = subst (λ (ms : List ℕ). at < length ms) (sym h.are) (omega (arith, length-map rows (hash_of m.positions), l))

pub hash_within : (heading : Heading) (rows : List Row) (m : HashList) (x : Row) → IsHashesOf heading rows m → length x ≡ length heading → All (λ (i : ℕ). i < length x) m.positions
hash_within heading rows m x h long = subst (λ (n : ℕ). All (λ (i : ℕ). i < n) m.positions) (sym long) h.within

-- hashes that are new
pub own_hashes : (heading : Heading) (rows : List Row) (m : HashList) (positions : List ℕ) → m.positions ≡ positions → AreHashesOf rows m → All (λ (i : ℕ). i < length heading) positions → IsHashesOf heading rows m
own_hashes heading rows m positions same are within = record {
  are = are;
  within = subst (λ (ps : List ℕ). All (λ (i : ℕ). i < length heading) ps) (sym same) within;
}

-- positions that are tested
pub within_heading : (heading : Heading) (many : ℕ) (positions : List ℕ) → IsTrue (list_all (λ (i : ℕ). nat_lt i many) positions) → many ≡ length heading → All (λ (i : ℕ). i < length heading) positions
within_heading heading many positions passes same i d l =
    let h : nat_lt (get_or positions i d) many ≡ true = passes_at (λ (k : ℕ). nat_lt k many) positions i d passes l in
    let less : get_or positions i d < many = grind (arith, nat_tests) in
    subst (λ (n : ℕ). get_or positions i d < n) same less

-- ---- a relation

-- the rows of a relation have as many values as its heading attributes
pub rows_long : (r : Relation) (rows : List Row) (heading : Heading) → IsRelation r → rows ≡ r.rows → r.heading ≡ heading → All (λ (x : Row). length x ≡ length heading) rows
rows_long r rows heading is same headed i d l =
    let all : IsTrue (list_all (fits_heading r.heading) rows) = subst (λ (zs : List Row). IsTrue (list_all (fits_heading r.heading) zs)) (sym same) is.fitting in
    let fits : IsTrue (fits_heading r.heading (get_or rows i d)) = passes_at (fits_heading r.heading) rows i d all l in
    length_of_fit r.heading (get_or rows i d) fits ∙ ap (λ (h : Heading). length h) headed

-- ---- a relvar

none_in : (r : PlainRelvar) → AreHashesIn [] r
none_in (base value constraints) = All-nil (IsHashesOf value.heading value.rows)
none_in (view t kind) = tt
none_in (log of side last w) = tt

pub none_hashed : (i : ℕ) (es : Entries) → AreHashesAt i [] es
none_hashed i [] = tt
none_hashed zero (r ∷ es) = none_in r.1
none_hashed (suc i) (r ∷ es) = none_hashed i es

pub hashes_entry : (es : List (Name × Relvar)) (i : ℕ) (k : Name) (r : Relvar) (ms : List HashList) → slice_get es i ≡ Some (k, r) → AreHashesAt i ms (map read_entry es) → AreHashesIn ms (read_relvar r)
hashes_entry [] i k r ms is h = absurd (cc)
hashes_entry (x ∷ es) zero k r ms is h = let same : x ≡ (k, r) = cc in subst (λ (z : Name × Relvar). AreHashesIn ms (read_relvar z.1)) same h
hashes_entry (x ∷ es) (suc i) k r ms is h = hashes_entry es i k r ms is h

pub hashes_put : (es : List (Name × Relvar)) (i : ℕ) (k : Name) (r : Relvar) (ms : List HashList) → slice_get es i ≡ Some (k, r) → AreHashesIn ms (read_relvar r) → AreHashesAt i ms (map read_entry es)
hashes_put [] i k r ms is h = tt
hashes_put (x ∷ es) zero k r ms is h = let same : (k, r) ≡ x = cc in subst (λ (z : Name × Relvar). AreHashesIn ms (read_relvar z.1)) same h
hashes_put (x ∷ es) (suc i) k r ms is h = hashes_put es i k r ms is h

pub set_hashed : (es : List (Name × Relvar)) (i : ℕ) (w : Relvar) (ms : List HashList) → AreHashesIn ms (read_relvar w) → AreHashesAt i ms (map read_entry (set_value_at es i w))
set_hashed [] i w ms h = tt
set_hashed (x ∷ es) zero w ms h = h
set_hashed (x ∷ es) (suc i) w ms h = set_hashed es i w ms h

-- ---- the first entry of a name

pub first_hashes : (es : Entries) (name : Name) (i : ℕ) (value : Relation) (constraints : List Constraint) (ms : List HashList) → IsFirstAt es name i (base value constraints) → AreHashesAt i ms es
    → All (IsHashesOf value.heading value.rows) ms
first_hashes [] name i value constraints ms first h = absurd first
first_hashes (r ∷ es) name zero value constraints ms first h = subst (AreHashesIn ms) first.1 h
first_hashes (r ∷ es) name (suc i) value constraints ms first h = first_hashes es name i value constraints ms first.1 h

pub hashes_of_first : (es : Entries) (name : Name) (i : ℕ) (value : Relation) (constraints : List Constraint) (ms : List HashList) → IsFirstAt es name i (base value constraints) → AreHashesAt i ms es
    → All (AreHashesOf value.rows) ms
hashes_of_first es name i value constraints ms first h =
    All-weaker (IsHashesOf value.heading value.rows) (AreHashesOf value.rows) (λ m is. is.are) ms (first_hashes es name i value constraints ms first h)

-- ---- several relvars

-- those that stand where the place is found
pub hashed_there : (rs : List HashedRelvar) (at i : ℕ) (r : HashedRelvar) (es : Entries) → position (λ (z : HashedRelvar). nat_eq z.at at) rs ≡ Some i → r ≡ get_or rs i r → All (IsHashed es) rs → AreHashesAt at r.list.items es
hashed_there rs at i r es found is h =
    let there = position-Some (λ (z : HashedRelvar). nat_eq z.at at) rs i r found in
    let test : nat_eq (get_or rs i r).at at ≡ true = there.1 in
    let same : (get_or rs i r).at ≡ at = grind (arith, nat_tests) in
    subst (λ (z : HashedRelvar). AreHashesAt at z.list.items es) (sym is)
    (subst (λ (k : ℕ). AreHashesAt k (get_or rs i r).list.items es) same (h i r there.0))

-- there are none where it isn't found
pub unmarked : (rs : List HashedRelvar) (at : ℕ) → position (λ (z : HashedRelvar). nat_eq z.at at) rs ≡ None → All (λ (z : HashedRelvar). z.at ≢ at) rs
unmarked rs at none i d l same =
    let p : HashedRelvar → Bool = λ z. nat_eq z.at at in
    let all : length rs ≤ position_or_len p rs = grind (arith, common_steps) in
    let fails : nat_eq (get_or rs i d).at at ≡ false = fails_before_first p rs i d (omega (arith, all, l)) in
    grind (arith, nat_tests)

pub hashed_removed : (rs : List HashedRelvar) (i : ℕ) (es : Entries) → All (IsHashed es) rs → All (IsHashed es) (remove rs i)
hashed_removed rs i es h = All-append (IsHashed es) (take i rs) (drop (suc i) rs) (All-take (IsHashed es) i rs h) (All-drop (IsHashed es) (suc i) rs h)

-- a relvar's hashes are right after another one changes
set_other : (es : List (Name × Relvar)) (i j : ℕ) (w : Relvar) (ms : List HashList) → j ≢ i → AreHashesAt j ms (map read_entry es) → AreHashesAt j ms (map read_entry (set_value_at es i w))
set_other [] i j w ms other h = h
set_other (x ∷ es) zero zero w ms other h = absurd (other refl)
set_other (x ∷ es) zero (suc j) w ms other h = h
set_other (x ∷ es) (suc i) zero w ms other h = h
set_other (x ∷ es) (suc i) (suc j) w ms other h = set_other es i j w ms (λ same. other (ap suc same)) h

pub others_hashed : (es : List (Name × Relvar)) (i : ℕ) (w : Relvar) (m : Hashed) → IsUnmarkedAt i m → AreHashed m (map read_entry es) → AreHashed m (map read_entry (set_value_at es i w))
others_hashed es i w m other h k d l =
    let r = get_or m.entries.items k d in
    set_other es i r.at w r.list.items (other k d l) (h k d l)

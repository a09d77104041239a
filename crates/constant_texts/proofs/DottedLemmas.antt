-- Values of ordinal types, as they are printed: the type's name, a dot and the value's name.
--     MemberFound, member-found      the tokens of such a value
use Rattle.std.proofs.Common.{◌≡◌, ℕ, zero, suc, ◌+◌, ◌-◌, ◌<◌, true, false, cond, ℤ, ◌≤ℤ◌, pos, unsigned_abs, List, [], ◌∷◌, ◌++◌, map, length, get_or, Some, refl, sym, ◌∙◌, ap, subst}
use Rattle.std.proofs.Common.{arith, bytes_eq, append_assoc}
use Rattle.std.proofs.lemmas.Bool.{true≢false, eqb-true}
use Rattle.std.proofs.lemmas.Int.{ints}
use Rattle.std.proofs.lemmas.List.{get_or-map}
use Rattle.std.specs.List.{AllByRecursion, IsDistinct}
use Rattle.std.specs.Prelude.{slice_index_or, option_map}
use Rattle.point_core.specs.declared.any_type.AnyType.TheVariants.{Ordinal}
use Rattle.utd_lexer.specs.declared.cutter.Mode.TheVariants.{Between}
use Rattle.utd_lexer.specs.declared.token.TokenKind.TheVariants.{Word}
use Rattle.value_core.specs.declared.list.OrdinalNames.{OrdinalNames}
use Rattle.value_core.specs.Values.{Name}
use Rattle.meaning_core.specs.Typing.{is_ordinal}
use Rattle.meaning_core.specs.WellMade.{sizes_of}
use Rattle.meaning_core.proofs.MadeLemmas.{own_name}
use Rattle.scalar_typing.specs.Names.{first_from, value_of}
use Rattle.dump_core.specs.Values.{member_script, ordinal_script}
use Rattle.plain_rows.specs.Lexemes.{Lexeme, Begins}
use Rattle.plain_rows.specs.Written.{dot, IsDotted, IsValueOf}
use Rattle.plain_rows.proofs.BeginLemmas.{begins-then}
use Rattle.constant_texts.specs.Sayable.{IsSayableType}
use Rattle.constant_texts.proofs.FrontLemmas.{IsRead, NoEqual, behind-dot, symbol-begins}
use Rattle.constant_texts.proofs.NameLemmas.{IsWordName, word-name, name-begins, name-no-equal}
use Rattle.constant_texts.proofs.QuietLemmas.{IsQuiet, stays-then, plain-one, name-quiet}

-- ---- the first of the name

module _ {X : Type 0} (f : X → Name) where
  apart-at : (name : Name) (xs : List X) (i : ℕ) (d : X) → AllByRecursion (λ y. bytes_eq name y ≡ false) (map f xs) → i < length xs → bytes_eq name (f (get_or xs i d)) ≡ false
  apart-at name [] i d h lt = absurd (omega (arith, lt))
  apart-at name (x ∷ xs) zero d h lt = h.0
  apart-at name (x ∷ xs) (suc i) d h lt = apart-at name xs i d h.1 (omega (arith, lt))

  pub first-named : (xs : List X) (i n : ℕ) (d : X) → IsDistinct bytes_eq (map f xs) → i < length xs → first_from (λ x. bytes_eq (f x) (f (get_or xs i d))) n xs ≡ Some (n + i, get_or xs i d)
  unfolding IsDistinct
  first-named [] i n d h lt = absurd (omega (arith, lt))
  first-named (x ∷ xs) zero n d h lt =
      ap (λ b. cond b (Some (n, x)) (first_from (λ y. bytes_eq (f y) (f x)) (n + 1) xs)) (own_name (f x)) ∙ ap (λ m. Some (m, x)) (let e : n ≡ n + 0 = omega arith in e)
  first-named (x ∷ xs) (suc i) n d h lt =
      ap (λ b. cond b (Some (n, x)) (first_from (λ y. bytes_eq (f y) (f (get_or xs i d))) (n + 1) xs)) (apart-at (f x) xs i d h.0 (omega (arith, lt)))
      ∙ (first-named xs i (n + 1) d h.1 (omega (arith, lt)) ∙ ap (λ m. Some (m, get_or xs i d)) (let e : n + 1 + i ≡ n + suc i = omega arith in e))

  -- where the first stands at 0
  pub first-at : (xs : List X) (i : ℕ) (d : X) → IsDistinct bytes_eq (map f xs) → i < length xs → first_from (λ x. bytes_eq (f x) (f (get_or xs i d))) 0 xs ≡ Some (i, get_or xs i d)
  first-at xs i d h lt = first-named xs i 0 d h lt ∙ ap (λ m. Some (m, get_or xs i d)) (let e : 0 + i ≡ i = omega arith in e)

same-names : (names : List Name) → map (λ v. v) names ≡ names
same-names [] = refl
same-names (v ∷ names) = ap (λ vs. v ∷ vs) (same-names names)

value-found : (values : List Name) (at : ℕ) → IsDistinct bytes_eq values → at < length values → value_of values (get_or values at []) ≡ Some at
value-found values at h lt =
    ap (option_map (λ (found : ℕ × Name). found.0)) (first-at (λ v. v) values at [] (subst (IsDistinct bytes_eq) (sym (same-names values)) h) lt)

-- ---- the type

abbrev type_at : List OrdinalNames → ℕ → OrdinalNames
type_at types of = get_or types of (record { name = []; values = [] })

sized : (types : List OrdinalNames) (of last : ℕ) → is_ordinal (sizes_of types) of last ≡ true → (of < length types) × (length (type_at types of).values ≡ suc last)
sized [] of last h = absurd (true≢false (sym h))
sized (o ∷ types) zero last h = (omega arith, eqb-true (length o.values) (suc last) h)
sized (o ∷ types) (suc of) last h = let s = sized types of last h in (omega (arith, s.0), s.1)

-- ---- the tokens

-- the text of the value with this number of the type
pub record MemberFound (types : List OrdinalNames) (of last : ℕ) (n : ℤ) : Type 0 where
  pub lexemes : List Lexeme
  pub written : IsDotted types (Ordinal of last) n lexemes
  pub begins : IsRead (ordinal_script types of (unsigned_abs n)) lexemes
  pub no_equal : (rest : List ℕ) → NoEqual (ordinal_script types of (unsigned_abs n) ++ rest)
  pub quiet : IsQuiet (ordinal_script types of (unsigned_abs n))

both-begin : (name value : Name) → IsWordName name → IsWordName value → IsRead (name ++ 46 ∷ value) ((Word, name) ∷ dot ∷ (Word, value) ∷ [])
both-begin name value h k rest b =
    subst (λ z. Begins z ((Word, name) ∷ dot ∷ (Word, value) ∷ []) rest) (sym (append_assoc name (46 ∷ value) rest))
    (begins-then (name ++ 46 ∷ (value ++ rest)) (46 ∷ (value ++ rest)) rest ((Word, name) ∷ []) (dot ∷ (Word, value) ∷ []) (name-begins name h (46 ∷ (value ++ rest)) (behind-dot (value ++ rest)))
    (begins-then (46 ∷ (value ++ rest)) (value ++ rest) rest (dot ∷ []) ((Word, value) ∷ []) (symbol-begins 46 (value ++ rest) refl) (name-begins value k rest b)))

both-no-equal : (name value rest : List ℕ) → IsWordName name → NoEqual ((name ++ 46 ∷ value) ++ rest)
both-no-equal name value rest h = subst NoEqual (sym (append_assoc name (46 ∷ value) rest)) (name-no-equal name (46 ∷ (value ++ rest)) h)

both-quiet : (name value : Name) → IsWordName name → IsWordName value → IsQuiet (name ++ 46 ∷ value)
both-quiet name value h k = stays-then Between name (46 ∷ value) (name-quiet name h) (plain-one 46 value refl (name-quiet value k))

is-value : (types : List OrdinalNames) (of last at : ℕ) (n : ℤ) → IsDistinct bytes_eq (map (λ (o : OrdinalNames). o.name) types) → IsDistinct bytes_eq (type_at types of).values
    → of < length types
    → length (type_at types of).values ≡ suc last → at < suc last → n ≡ pos at → IsValueOf types (Ordinal of last) n (type_at types of).name (get_or (type_at types of).values at [])
is-value types of last at n different values lt size within is p q = record {
  found = (of, type_at types of);
  at = at;
  type_named = first-at (λ (o : OrdinalNames). o.name) types of (record { name = []; values = [] }) different lt;
  value_named = value-found (type_at types of).values at values (omega (arith, size, within));
  of_type = ap (λ l. Ordinal of l) (let e : last ≡ length (type_at types of).values - 1 = omega (arith, size) in e);
  numbered = is;
}

member-of : (types : List OrdinalNames) (of last at : ℕ) (n : ℤ) → IsDistinct bytes_eq (map (λ (o : OrdinalNames). o.name) types) → IsSayableType (type_at types of) → of < length types
    → length (type_at types of).values ≡ suc last → at < suc last → n ≡ pos at → unsigned_abs n ≡ at → MemberFound types of last n
member-of types of last at n different o lt size within is abs =
    let name = (type_at types of).name in
    let value = get_or (type_at types of).values at [] in
    let named = word-name name o.named in
    let valued = word-name value (o.values at [] (omega (arith, size, within))) in
    let script : ordinal_script types of (unsigned_abs n) ≡ name ++ 46 ∷ value =
    get_or-map (λ (x : OrdinalNames). member_script x (unsigned_abs n)) types of (record { name = []; values = [] }) [] lt
    ∙ ap (λ k. name ++ 46 ∷ slice_index_or (type_at types of).values k []) abs in
    record {
      lexemes = (Word, name) ∷ dot ∷ (Word, value) ∷ [];
      written = record { name = name; value = value; spelled = refl; names = (named.free, valued.free); written = is-value types of last at n different o.ordinal.different lt size within is };
      begins = subst (λ z. IsRead z ((Word, name) ∷ dot ∷ (Word, value) ∷ [])) (sym script) (both-begin name value named valued);
      no_equal = λ rest. subst (λ z. NoEqual (z ++ rest)) (sym script) (both-no-equal name value rest named);
      quiet = subst IsQuiet (sym script) (both-quiet name value named valued);
    }

pub member-found : (types : List OrdinalNames) (of last : ℕ) (n : ℤ) → IsDistinct bytes_eq (map (λ (o : OrdinalNames). o.name) types)
    → ((k : ℕ) (d : OrdinalNames) → k < length types → IsSayableType (get_or types k d))
    → is_ordinal (sizes_of types) of last ≡ true → pos 0 ≤ℤ n → n ≤ℤ pos last → MemberFound types of last n
member-found types of last n different all declared low high =
    let s = sized types of last declared in
    member-of types of last (unsigned_abs n) n different (all of (record { name = []; values = [] }) s.0) s.0 s.1 (omega (arith, ints, low, high)) (omega (arith, ints, low)) refl

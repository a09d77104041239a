-- Words, integers and symbols at the front of characters.
use Rattle.std.proofs.Common.{◌≡◌, ℕ, ◌+◌, ◌<◌, List, [], ◌∷◌, ◌++◌, length, take, Bool, true, false, cond, eqb, ◌==◌, ◌||◌, Some, refl, sym, ◌∙◌, ap, subst, arith, ◌⊎◌, inl, inr, lit<, encode_utf8_all}
use Rattle.std.proofs.lemmas.List.{take_at}
use Rattle.std.proofs.lemmas.Bool.{eqb-true}
use Rattle.std.specs.List.{prefix_len}
use Rattle.std.specs.Int.{is_in_range}
use Rattle.std.specs.Char.{is_ascii_digit, is_ascii_alphabetic, IsAsciiAlphabetic}
use Rattle.unicode_ident.specs.Ident.{is_xid_start, is_xid_continue}
use Rattle.unicode_ident.proofs.IdentLemmas.{is_xid_continue-ascii, is_xid_start-is_xid_continue}
use Rattle.utd_lexer.specs.declared.token.TokenKind.{TokenKind}
use Rattle.utd_lexer.specs.declared.token.TokenKind.TheVariants.{Word, Integer, Text, Symbol}
use Rattle.utd_lexer.specs.declared.prefix.Prefix.TheVariants.{Token as OfToken}
use Rattle.utd_lexer.specs.Tokens.{starts, continues, among, singles, seconds, opens_comment, AllOf, IsOfKind, EndsAt}
use Rattle.utd_lexer.specs.Prefixes.{TokenFront, PlainPrefix, PrefixIs}
use Rattle.utd_lexer.proofs.ListLemmas.{same-head}

-- the first of these does not pass
abbrev pub Stops : (ℕ → Bool) → List ℕ → Type 0
Stops p [] = Unit {0}
Stops p (x ∷ xs) = p x ≡ false

-- the longest front all of which pass
abbrev pub Taken : (ℕ → Bool) → List ℕ → ℕ → Type 0
Taken p xs n = (prefix : List ℕ) × (rest : List ℕ) × (xs ≡ prefix ++ rest) × AllOf p prefix × Stops p rest × (length prefix ≡ n)

taken-go : (p : ℕ → Bool) (x : ℕ) (xs : List ℕ) (n : ℕ) (b : Bool) → p x ≡ b → n ≡ cond b (1 + prefix_len p xs) 0 → Taken p xs (prefix_len p xs) → Taken p (x ∷ xs) n
taken-go p x xs n true is e (prefix, rest, split, all, stop, len) =
    (x ∷ prefix, rest, ap (λ z. x ∷ z) split, (is, all), stop, omega (arith, len, e))
taken-go p x xs n false is e r = ([], x ∷ xs, refl, tt, is, sym e)

pub taken : (p : ℕ → Bool) (xs : List ℕ) (n : ℕ) → n ≡ prefix_len p xs → Taken p xs n
taken p [] n e = ([], [], refl, tt, tt, sym e)
taken p (x ∷ xs) n e = taken-go p x xs n (p x) refl e (taken p xs (prefix_len p xs) refl)

pub or-cases : (a b : Bool) → (a || b) ≡ true → (a ≡ true) ⊎ (b ≡ true)
or-cases true b h = inl refl
or-cases false b h = inr h

one-of-four : (d u l e : Bool) → (u || l) ≡ true → true ≡ (((d || u) || l) || e)
one-of-four true u l e h = refl
one-of-four false true l e h = refl
one-of-four false false true e h = refl
one-of-four false false false e h = absurd cc

letter-below : (b : ℕ) → IsAsciiAlphabetic b → b < 128
letter-below b (inl h) = omega (arith, h.1)
letter-below b (inr h) = omega (arith, h.1)

-- a word goes on with a letter
pub letter-continues : (b : ℕ) → IsAsciiAlphabetic b → is_ascii_alphabetic b ≡ true → true ≡ continues b
letter-continues b within is =
    one-of-four (is_ascii_digit b) (is_in_range 65 90 b) (is_in_range 97 122 b) (b == 95) is ∙ sym (is_xid_continue-ascii b (letter-below b within))

underscore : continues 95 ≡ true
underscore = is_xid_continue-ascii 95 (lit< tt)

starts-continues : (c : ℕ) → starts c ≡ true → continues c ≡ true
starts-continues c h = elim (or-cases (is_xid_start c) (eqb c 95) h) [
  | inl s ↦ is_xid_start-is_xid_continue c s
  | inr e ↦ ap is_xid_continue (eqb-true c 95 e) ∙ underscore
]

word-kind : (prefix behind : List ℕ) (c : ℕ) (rest : List ℕ) → c ∷ rest ≡ prefix ++ behind → starts c ≡ true → AllOf continues prefix → Stops continues behind → IsOfKind Word prefix
word-kind [] behind c rest is s all stop =
    let f : continues c ≡ false = subst (Stops continues) (sym is) stop in
    let t : continues c ≡ true = starts-continues c s in cc
word-kind (d ∷ prefix) behind c rest is s all stop = (ap starts (sym (same-head c d rest _ is)) ∙ s, all.1)

word-ends : (cs rest : List ℕ) → Stops continues rest → EndsAt Word cs rest
word-ends cs [] h = tt
word-ends cs (d ∷ rest) h = h

pub word-found : (cs : List ℕ) (c : ℕ) (rest : List ℕ) (n : ℕ) → cs ≡ c ∷ rest → starts c ≡ true → n ≡ prefix_len continues cs → TokenFront Word cs (Some n)
word-found cs c rest n e s h =
    let (prefix, behind, split, all, stop, len) = taken continues cs n h in
    (prefix, behind, split, (word-kind prefix behind c rest (sym e ∙ split) s all stop, word-ends prefix behind stop), len)

pub integer-kind : (prefix : List ℕ) → 0 < length prefix → AllOf is_ascii_digit prefix → IsOfKind Integer prefix
integer-kind [] lt all = absurd (omega (arith, lt))
integer-kind (d ∷ prefix) lt all = all

integer-ends : (cs rest : List ℕ) → Stops is_ascii_digit rest → EndsAt Integer cs rest
integer-ends cs [] h = tt
integer-ends cs (d ∷ rest) h = h

pub integer-found : (cs : List ℕ) (n : ℕ) → n ≡ prefix_len is_ascii_digit cs → 0 < n → TokenFront Integer cs (Some n)
integer-found cs n h lt =
    let (prefix, behind, split, all, stop, len) = taken is_ascii_digit cs n h in
    (prefix, behind, split, (integer-kind prefix (omega (arith, len)) all, integer-ends prefix behind stop), len)

pair-ends : (a b : ℕ) (rest : List ℕ) → EndsAt Symbol (a ∷ (b ∷ [])) rest
pair-ends a b [] = tt
pair-ends a b (d ∷ rest) = refl

pub pair-found : (cs : List ℕ) (c d : ℕ) (rest body : List ℕ) → cs ≡ c ∷ rest → rest ≡ d ∷ body → among d (seconds c) ≡ true → TokenFront Symbol cs (Some 2)
pair-found cs c d rest body is on h = (c ∷ (d ∷ []), body, is ∙ ap (λ z. c ∷ z) on, (h, pair-ends c d body), refl)

pub single-found : (cs : List ℕ) (c d : ℕ) (rest body : List ℕ) → cs ≡ c ∷ rest → rest ≡ d ∷ body → among c singles ≡ true → among d (seconds c) ≡ false → opens_comment c d ≡ false → TokenFront Symbol cs (Some 1)
single-found cs c d rest body is on h p o =
    let ends : (among d (seconds c) || opens_comment c d) ≡ false = ap (λ b. b || opens_comment c d) p ∙ o in
    (c ∷ [], d ∷ body, is ∙ ap (λ z. c ∷ z) on, (h, ends), refl)

same-prefix : (cs v rest bytes : List ℕ) (n : ℕ) → cs ≡ v ++ rest → length v ≡ n → bytes ≡ encode_utf8_all (take n cs) → bytes ≡ encode_utf8_all v
same-prefix cs v rest bytes n is len h = h ∙ ap (λ z. encode_utf8_all (take n z)) is ∙ ap encode_utf8_all (take_at v rest n len)

pub plain-token : (cs : List ℕ) (k : TokenKind) (n : ℕ) (bytes : List ℕ) → PlainPrefix cs (Some (k, n)) → bytes ≡ encode_utf8_all (take n cs) → PrefixIs cs (OfToken k bytes n)
plain-token cs Text n bytes h e = absurd h
plain-token cs Word n bytes (v, rest, is, tok, len) e = (v, rest, is, tok, len, same-prefix cs v rest bytes n is len e)
plain-token cs Integer n bytes (v, rest, is, tok, len) e = (v, rest, is, tok, len, same-prefix cs v rest bytes n is len e)
plain-token cs Symbol n bytes (v, rest, is, tok, len) e = (v, rest, is, tok, len, same-prefix cs v rest bytes n is len e)

-- What the first character alone tells of the front.
use Rattle.std.proofs.Common.{◌≡◌, ℕ, ◌+◌, ◌<◌, ◌≤◌, List, [], ◌∷◌, ◌++◌, length, Bool, true, false, eqb, cond, ◌&&◌, ◌||◌, Some, refl, sym, ◌∙◌, ap, arith, length-append, inl, inr}
use Rattle.std.proofs.lemmas.Bool.{eqb-true}
use Rattle.std.proofs.lemmas.Bool.Decides.{eqb_tells}
use Rattle.std.specs.List.{prefix_len}
use Rattle.std.specs.Char.{is_ascii_digit}
use Rattle.utd_lexer.specs.declared.token.TokenKind.{TokenKind}
use Rattle.utd_lexer.specs.declared.token.TokenKind.TheVariants.{Word, Integer, Text, Symbol}
use Rattle.utd_lexer.specs.Tokens.{among, singles, seconds, opens_comment, EndsAt}
use Rattle.utd_lexer.specs.Prefixes.{lone, TokenFront, PlainPrefix}
use Rattle.utd_lexer.proofs.WordLemmas.{or-cases, integer-found}

abbrev pub every : (ℕ → Bool) → List ℕ → Bool
every p [] = true
every p (x ∷ xs) = p x && every p xs

both-true : (a b : Bool) → (a && b) ≡ true → (a ≡ true) × (b ≡ true)
both-true true b h = (refl, h)
both-true false b h = cc

-- what holds of all of these holds of one among them
among-all : (p : ℕ → Bool) (c : ℕ) (xs : List ℕ) → every p xs ≡ true → among c xs ≡ true → p c ≡ true
among-all p c [] all h = cc
among-all p c (x ∷ xs) all h = elim (or-cases (eqb c x) (among c xs) h) [
  | inl e ↦ ap p (eqb-true c x e) ∙ (both-true (p x) (every p xs) all).0
  | inr more ↦ among-all p c xs (both-true (p x) (every p xs) all).1 more
]

not-lone : (x c : ℕ) → among x lone ≡ false → among c lone ≡ true → eqb c x ≡ false
not-lone x c none h = elim (eqb_tells c x) [
  | inl p ↦ let t : among x lone ≡ true = ap (λ z. among z lone) (sym p.1) ∙ h in cc
  | inr p ↦ p.0
]

lone-single : (c : ℕ) → among c lone ≡ true → among c singles ≡ true
lone-single c h = among-all (λ x. among x singles) c lone refl h

lone-seconds : (c d : ℕ) → among c lone ≡ true → among d (seconds c) ≡ false
lone-seconds c d h = rw (not-lone 58 c refl h, not-lone 60 c refl h, not-lone 62 c refl h, not-lone 124 c refl h) refl

lone-comment : (c d : ℕ) → among c lone ≡ true → opens_comment c d ≡ false
lone-comment c d h = rw (not-lone 47 c refl h) refl

lone-ends : (c : ℕ) (rest : List ℕ) → among c lone ≡ true → EndsAt Symbol (c ∷ []) rest
lone-ends c [] h = tt
lone-ends c (d ∷ rest) h = ap (λ b. b || opens_comment c d) (lone-seconds c d h) ∙ lone-comment c d h

pub lone-found : (cs : List ℕ) (c : ℕ) (rest : List ℕ) → cs ≡ c ∷ rest → among c lone ≡ true → TokenFront Symbol cs (Some 1)
lone-found cs c rest is h = (c ∷ [], rest, is, (lone-single c h, lone-ends c rest h), refl)

some-digit : (b : Bool) (m : ℕ) → b ≡ true → 0 < cond b (1 + m) 0
some-digit true m h = omega arith
some-digit false m h = cc

pub integer-front : (cs : List ℕ) (c : ℕ) (rest : List ℕ) (n : ℕ) → cs ≡ c ∷ rest → is_ascii_digit c ≡ true → n ≡ prefix_len is_ascii_digit cs → TokenFront Integer cs (Some n)
integer-front cs c rest n is h e =
    let first : 0 < prefix_len is_ascii_digit (c ∷ rest) = some-digit (is_ascii_digit c) (prefix_len is_ascii_digit rest) h in
    let same : prefix_len is_ascii_digit cs ≡ prefix_len is_ascii_digit (c ∷ rest) = ap (prefix_len is_ascii_digit) is in
    integer-found cs n e (omega (arith, first, same, e))

front-within : (cs v rest : List ℕ) (n : ℕ) → cs ≡ v ++ rest → length v ≡ n → n ≤ length cs
front-within cs v rest n is len =
    let whole : length cs ≡ length v + length rest = ap length is ∙ length-append v rest in
    omega (arith, whole, len)

pub plain-within : (cs : List ℕ) (k : TokenKind) (n : ℕ) → PlainPrefix cs (Some (k, n)) → n ≤ length cs
plain-within cs Text n h = absurd h
plain-within cs Word n (v, rest, is, tok, len) = front-within cs v rest n is len
plain-within cs Integer n (v, rest, is, tok, len) = front-within cs v rest n is len
plain-within cs Symbol n (v, rest, is, tok, len) = front-within cs v rest n is len

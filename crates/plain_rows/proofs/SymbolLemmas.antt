-- Symbols at the front of bytes.
use Rattle.std.proofs.Common.{◌≡◌, ℕ, lit<, List, [], ◌∷◌, true, false, eqb, ltb, not, ◌||◌, ◌&&◌, refl, sym, ◌∙◌, ap, subst}
use Rattle.std.proofs.lemmas.Bool.{true≢false, ltb-true, and_parts, not-true}
use Rattle.std.proofs.lemmas.Str.{chars-nil}
use Rattle.std.proofs.lemmas.Str.Ascii.{IsAscii-cons}
use Rattle.std.specs.Str.{chars}
use Rattle.utd_lexer.specs.declared.token.TokenKind.TheVariants.{Symbol}
use Rattle.utd_lexer.specs.Tokens.{among, singles, seconds, opens_comment, EndsAt}
use Rattle.plain_rows.specs.Lexemes.{Begins, is_nothing, is_lone, ends_before, is_equal_sign}
use Rattle.plain_rows.proofs.BeginLemmas.{one-ascii, chars-one}
use Rattle.plain_rows.proofs.TokenLemmas.{begins-token}

no-seconds : (d : ℕ) (list : List ℕ) → is_nothing list ≡ true → among d list ≡ false
no-seconds d [] h = refl
no-seconds d (x ∷ xs) h = absurd (true≢false (sym h))

symbol-ends : (c : ℕ) (cs : List ℕ) → is_nothing (seconds c) ≡ true → eqb c 47 ≡ false → EndsAt Symbol (c ∷ []) cs
symbol-ends c [] h e = tt
symbol-ends c (d ∷ cs) h e = ap (λ b. b || opens_comment c d) (no-seconds d (seconds c) h) ∙ ap (λ b. b && (eqb d 47 || eqb d 42)) e

lone-begins : (c : ℕ) (rest : List ℕ) → is_lone c ≡ true → Begins (c ∷ rest) ((Symbol, c ∷ []) ∷ []) rest
lone-begins c rest lone =
    let halves = and_parts (among c singles && is_nothing (seconds c)) (not (eqb c 47) && ltb c 128) lone in
    let single = and_parts (among c singles) (is_nothing (seconds c)) halves.0 in
    let apart = and_parts (not (eqb c 47)) (ltb c 128) halves.1 in
    let small = one-ascii c (ltb-true c 128 apart.1) in
    begins-token Symbol (c ∷ []) rest small small (single.0, symbol-ends c (chars rest) single.1 (not-true (eqb c 47) apart.0))

pub begins-symbol : (text : List ℕ) (c d : ℕ) (rest : List ℕ) → text ≡ c ∷ rest → c ≡ d → is_lone d ≡ true → Begins text ((Symbol, d ∷ []) ∷ []) rest
begins-symbol text c d rest is same lone = subst (λ z. Begins z ((Symbol, d ∷ []) ∷ []) rest) (sym (is ∙ ap (λ z. z ∷ rest) same)) (lone-begins d rest lone)

-- ---- `:` and `:=`

colon-ends : (rest : List ℕ) → ends_before is_equal_sign rest ≡ true → EndsAt Symbol (58 ∷ []) (chars rest)
colon-ends [] h = subst (EndsAt Symbol (58 ∷ [])) (sym chars-nil) tt
colon-ends (d ∷ rest) h =
    let parts = and_parts (ltb d 128) (not (is_equal_sign d)) h in
    let none : (eqb d 61 || false) ≡ false = ap (λ b. b || false) (not-true (eqb d 61) parts.1) in
    subst (EndsAt Symbol (58 ∷ [])) (sym (chars-one d rest (ltb-true d 128 parts.0))) (ap (λ b. b || false) none)

pub begins-colon : (text : List ℕ) (c : ℕ) (rest : List ℕ) → text ≡ c ∷ rest → c ≡ 58 → ends_before is_equal_sign rest ≡ true → Begins text ((Symbol, 58 ∷ []) ∷ []) rest
begins-colon text c rest is same ends =
    let small = one-ascii 58 (lit< tt) in
    subst (λ z. Begins z ((Symbol, 58 ∷ []) ∷ []) rest) (sym (is ∙ ap (λ z. z ∷ rest) same)) (begins-token Symbol (58 ∷ []) rest small small (refl, colon-ends rest ends))

assign-ends : (cs : List ℕ) → EndsAt Symbol (58 ∷ (61 ∷ [])) cs
assign-ends [] = tt
assign-ends (d ∷ cs) = refl

pub begins-assign : (text : List ℕ) (c : ℕ) (behind : List ℕ) (d : ℕ) (rest : List ℕ) → text ≡ c ∷ behind → c ≡ 58 → behind ≡ d ∷ rest → d ≡ 61 → Begins text ((Symbol, 58 ∷ (61 ∷ [])) ∷ []) rest
begins-assign text c behind d rest is first on second =
    let small = IsAscii-cons 58 (61 ∷ []) (lit< tt) (one-ascii 61 (lit< tt)) in
    let whole = is ∙ ap (λ z. z ∷ behind) first ∙ ap (λ z. 58 ∷ z) (on ∙ ap (λ z. z ∷ rest) second) in
    subst (λ z. Begins z ((Symbol, 58 ∷ (61 ∷ [])) ∷ []) rest) (sym whole) (begins-token Symbol (58 ∷ (61 ∷ [])) rest small small (refl, assign-ends (chars rest)))

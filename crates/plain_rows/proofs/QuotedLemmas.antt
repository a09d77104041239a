-- Texts at the front of bytes.
use Rattle.std.proofs.Common.{◌≡◌, ℕ, ◌<◌, lit<, List, [], ◌∷◌, ◌++◌, take, drop, Bool, true, false, cond, eqb, ltb, not, ◌||◌, map, refl, sym, ◌∙◌, ap, subst, append_assoc, encode_utf8, encode_utf8_all}
use Rattle.std.proofs.lemmas.Bool.{true≢false, eqb-true, ltb-true, and_parts, not-true}
use Rattle.std.proofs.lemmas.List.{take_at, drop_at}
use Rattle.std.proofs.lemmas.Str.{IsUtf8-append, IsUtf8-from_ascii, chars-append, chars-nil, encodes-chars}
use Rattle.std.proofs.lemmas.Str.Ascii.{encode_ascii}
use Rattle.std.specs.List.{prefix_len}
use Rattle.std.specs.Str.{chars, IsUtf8}
use Rattle.utd_lexer.specs.declared.token.TokenKind.TheVariants.{Text}
use Rattle.utd_lexer.specs.Tokens.{Lexed, token, past, spelling, doubled, token_at, unquoted, AllOf, EndsAt}
use Rattle.utd_lexer.proofs.WordLemmas.{taken}
use Rattle.plain_rows.specs.Lexemes.{Begins, lexeme_of, ends_before, is_quote, is_text_byte}
use Rattle.plain_rows.specs.Written.{BeginsWithText}
use Rattle.value_core.specs.Lengths.{has_control}
use Rattle.plain_rows.proofs.BeginLemmas.{one-ascii, chars-one}

-- ---- characters without a quote

all-behind : (p : ℕ → Bool) (xs ys : List ℕ) → AllOf p (xs ++ ys) → AllOf p ys
all-behind p [] ys h = h
all-behind p (x ∷ xs) ys h = all-behind p xs ys h.1

quote-written : (cs : List ℕ) → AllOf unquoted (encode_utf8 39 ++ encode_utf8_all cs) → ⊥
quote-written cs h =
    let all : AllOf unquoted (39 ∷ encode_utf8_all cs) = subst (λ z. AllOf unquoted (z ++ encode_utf8_all cs)) (encode_ascii 39 (lit< tt)) h in
    true≢false (sym all.0)

doubled-go : (c : ℕ) (cs : List ℕ) (b : Bool) → eqb c 39 ≡ b → AllOf unquoted (encode_utf8 c ++ encode_utf8_all cs) → doubled cs ≡ cs → cond b (39 ∷ (39 ∷ doubled cs)) (c ∷ doubled cs) ≡ c ∷ cs
doubled-go c cs true e h ih = absurd (quote-written cs (subst (λ z. AllOf unquoted (encode_utf8 z ++ encode_utf8_all cs)) (eqb-true c 39 e) h))
doubled-go c cs false e h ih = ap (λ z. c ∷ z) ih

doubled-none : (cs : List ℕ) → AllOf unquoted (encode_utf8_all cs) → doubled cs ≡ cs
doubled-none [] h = refl
doubled-none (c ∷ cs) h = doubled-go c cs (eqb c 39) refl h (doubled-none cs (all-behind unquoted (encode_utf8 c) (encode_utf8_all cs) h))

-- ---- the token

pub text-ends : (v rest : List ℕ) → ends_before is_quote rest ≡ true → EndsAt Text v (chars rest)
text-ends v [] h = subst (EndsAt Text v) (sym chars-nil) tt
text-ends v (d ∷ rest) h =
    let parts = and_parts (ltb d 128) (not (is_quote d)) h in
    subst (EndsAt Text v) (sym (chars-one d rest (ltb-true d 128 parts.0))) (not-true (is_quote d) parts.1)

pub quote-small : 39 < 128
quote-small = lit< tt

pub part-chars : (front rest : List ℕ) → IsUtf8 front → AllOf unquoted front → chars (front ++ 39 ∷ rest) ≡ doubled (chars front) ++ 39 ∷ chars rest
part-chars front rest utf8 all =
    let v = chars front in
    let none : doubled v ≡ v = doubled-none v (subst (AllOf unquoted) (sym (encodes-chars front utf8)) all) in
    chars-append front (39 ∷ rest) utf8 ∙ (ap (λ z. v ++ z) (chars-one 39 rest quote-small) ∙ ap (λ z. z ++ 39 ∷ chars rest) (sym none))

text-chars : (front rest : List ℕ) → IsUtf8 front → AllOf unquoted front → chars (39 ∷ (front ++ 39 ∷ rest)) ≡ spelling Text (chars front) ++ chars rest
text-chars front rest utf8 all =
    chars-one 39 (front ++ 39 ∷ rest) quote-small ∙ ap (λ z. 39 ∷ z) (part-chars front rest utf8 all ∙ sym (append_assoc (doubled (chars front)) (39 ∷ []) (chars rest)))

text-begins : (front rest : List ℕ) → IsUtf8 front → AllOf unquoted front → ends_before is_quote rest ≡ true → Begins (39 ∷ (front ++ 39 ∷ rest)) ((Text, front) ∷ []) rest
text-begins front rest utf8 all ends = record {
  goes_on = λ ls r p.
      let v = chars front in
      let q = r (past p (spelling Text v)) in
      let quote = IsUtf8-from_ascii (39 ∷ []) (one-ascii 39 quote-small) in (
        token_at p Text v ∷ q.0,
        (
          IsUtf8-append (39 ∷ []) (front ++ 39 ∷ rest) quote (IsUtf8-append front (39 ∷ rest) utf8 (IsUtf8-append (39 ∷ []) rest quote q.1.0)),
          subst (λ z. Lexed p z (token_at p Text v ∷ q.0)) (sym (text-chars front rest utf8 all)) (token p Text v (chars rest) q.0 (tt, text-ends v rest ends) q.1.1),
        ),
        ap (λ b. (Text, b) ∷ map lexeme_of q.0) (encodes-chars front utf8) ∙ ap (λ l. (Text, front) ∷ l) q.2,
      );
}

pub all-unquoted : (cs : List ℕ) → AllOf is_text_byte cs → AllOf unquoted cs
all-unquoted [] h = tt
all-unquoted (c ∷ cs) h = ((and_parts (not (eqb c 39)) (not (ltb c 32)) h.0).0, all-unquoted cs h.1)

pub no-control : (cs : List ℕ) → AllOf is_text_byte cs → has_control cs ≡ false
no-control [] h = refl
no-control (c ∷ cs) h = ap (λ b. b || has_control cs) (not-true (ltb c 32) (and_parts (not (eqb c 39)) (not (ltb c 32)) h.0).1) ∙ no-control cs h.1

pub begins-text : (text : List ℕ) (c : ℕ) (body front behind : List ℕ) (n d : ℕ) (rest written : List ℕ) → text ≡ c ∷ body → c ≡ 39 → n ≡ prefix_len is_text_byte body → front ≡ take n body → behind ≡ drop n body → behind ≡ d ∷ rest → d ≡ 39 → written ≡ front → IsUtf8 front → ends_before is_quote rest ≡ true → BeginsWithText text written rest
begins-text text c body front behind n d rest written is first h t b on second same utf8 ends =
    let q = taken is_text_byte body n h in
    let front-is : front ≡ q.0 = t ∙ ap (take n) q.2 ∙ take_at q.0 q.1 n q.5 in
    let behind-is : behind ≡ q.1 = b ∙ ap (drop n) q.2 ∙ drop_at q.0 q.1 n q.5 in
    let body-is : body ≡ front ++ 39 ∷ rest = q.2 ∙ ap (λ z. z ++ q.1) (sym front-is) ∙ ap (λ z. front ++ z) (sym behind-is ∙ on ∙ ap (λ z. z ∷ rest) second) in
    let whole : text ≡ 39 ∷ (front ++ 39 ∷ rest) = is ∙ ap (λ z. z ∷ body) first ∙ ap (λ z. 39 ∷ z) body-is in
    let all : AllOf is_text_byte front = subst (AllOf is_text_byte) (sym front-is) q.3 in
    let begins = subst (λ z. Begins z ((Text, front) ∷ []) rest) (sym whole) (text-begins front rest utf8 (all-unquoted front all) ends) in
    record {
      begins = subst (λ z. Begins text ((Text, z) ∷ []) rest) (sym same) begins;
      utf8 = subst IsUtf8 (sym same) utf8;
      printed = ap has_control same ∙ no-control front all;
    }

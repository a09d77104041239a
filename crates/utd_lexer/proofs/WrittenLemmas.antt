-- Texts in which no quote is doubled.
use Rattle.std.proofs.Common.{◌≡◌, ℕ, ◌+◌, List, [], ◌∷◌, ◌++◌, length, take, drop, true, false, not, refl, sym, ◌∙◌, ap, arith, length-append, append_assoc, encode_utf8_all, inl, inr}
use Rattle.std.proofs.lemmas.List.{take_at, drop_at}
use Rattle.std.proofs.lemmas.Bool.Decides.{eqb_tells}
use Rattle.std.specs.List.{prefix_len}
use Rattle.utd_lexer.specs.declared.token.TokenKind.TheVariants.{Text}
use Rattle.utd_lexer.specs.declared.prefix.Prefix.TheVariants.{Token as OfToken}
use Rattle.utd_lexer.specs.Tokens.{unquoted, AllOf, doubled, EndsAt}
use Rattle.utd_lexer.specs.Prefixes.{PrefixIs}
use Rattle.utd_lexer.proofs.TextLemmas.{ends-any}
use Rattle.utd_lexer.proofs.WordLemmas.{taken}

same-doubled : (v : List ℕ) → AllOf unquoted v → doubled v ≡ v
same-doubled [] h = refl
same-doubled (c ∷ v) h = elim (eqb_tells c 39) [
  | inl p ↦ let e : false ≡ true = sym (ap not p.0) ∙ h.0 in cc
  | inr p ↦ rw p.0 (ap (λ z. c ∷ z) (same-doubled v h.1))
]

pub text-written : (body bytes r : List ℕ) (n : ℕ) → n ≡ prefix_len unquoted body → drop n body ≡ 39 ∷ r → EndsAt Text [] r → bytes ≡ encode_utf8_all (take n body) → PrefixIs (39 ∷ body) (OfToken Text bytes (n + 2))
text-written body bytes r n is at ends h =
    let (prefix, behind, split, all, stop, len) = taken unquoted body n is in
    let first : take n body ≡ prefix = ap (take n) split ∙ take_at prefix behind n len in
    let rest : behind ≡ 39 ∷ r = sym (ap (drop n) split ∙ drop_at prefix behind n len) ∙ at in
    let same : doubled prefix ≡ prefix = same-doubled prefix all in
    let written : body ≡ (doubled prefix ++ 39 ∷ []) ++ r =
    split ∙ ap (λ z. prefix ++ z) rest ∙ ap (λ z. z ++ 39 ∷ r) (sym same) ∙ sym (append_assoc (doubled prefix) (39 ∷ []) r) in
    let more : length (doubled prefix ++ 39 ∷ []) ≡ length (doubled prefix) + 1 = length-append (doubled prefix) (39 ∷ []) in
    let as_long : length (doubled prefix) ≡ length prefix = ap length same in
    (prefix, r, ap (λ z. 39 ∷ z) written, (tt, ends-any [] prefix r ends), omega (arith, more, as_long, len), h ∙ ap encode_utf8_all first)

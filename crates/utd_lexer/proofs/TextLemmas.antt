-- Texts at the front of characters.
use Rattle.std.proofs.Common.{◌≡◌, ◌≢◌, ℕ, ◌+◌, ◌≤◌, List, [], ◌∷◌, ◌++◌, length, drop, cond, refl, sym, ◌∙◌, ap, subst, arith, length-append, length-drop, append_assoc, append-nil, encode_utf8, encode_utf8_all, inl, inr}
use Rattle.std.proofs.lemmas.List.{drop-drop}
use Rattle.std.proofs.lemmas.Bool.{ne_eqb}
use Rattle.std.proofs.lemmas.Bool.Decides.{eqb_tells}
use Rattle.std.proofs.lemmas.Str.{encodes-append}
use Rattle.utd_lexer.specs.declared.token.TokenKind.TheVariants.{Text}
use Rattle.utd_lexer.specs.Tokens.{doubled, EndsAt}
use Rattle.utd_lexer.proofs.ListLemmas.{same-head, same-tail}

-- no text ends in these characters
abbrev pub NoText : List ℕ → Type 0
NoText cs = (v rest : List ℕ) → cs ≡ doubled v ++ 39 ∷ rest → EndsAt Text v rest → ⊥

-- these bytes are those of the text's first characters
abbrev pub TextTaken : List ℕ → ℕ → List ℕ → Type 0
TextTaken bytes n all = (v : List ℕ) × (bytes ≡ encode_utf8_all v) × (all ≡ doubled v ++ drop n all)

pub ends-any : (v w rest : List ℕ) → EndsAt Text v rest → EndsAt Text w rest
ends-any v w [] h = tt
ends-any v w (d ∷ rest) h = h

pub doubled-plain : (c : ℕ) (cs : List ℕ) → c ≢ 39 → doubled (c ∷ cs) ≡ c ∷ doubled cs
doubled-plain c cs h = rw (ne_eqb c 39 h) refl

pub doubled-append : (a b : List ℕ) → doubled (a ++ b) ≡ doubled a ++ doubled b
doubled-append [] b = refl
doubled-append (c ∷ a) b = elim (eqb_tells c 39) [
  | inl p ↦ rw p.0 (ap (λ z. 39 ∷ (39 ∷ z)) (doubled-append a b))
  | inr p ↦ rw p.0 (ap (λ z. c ∷ z) (doubled-append a b))
]

pub encode-snoc : (v : List ℕ) (c : ℕ) → encode_utf8_all (v ++ c ∷ []) ≡ encode_utf8_all v ++ encode_utf8 c
encode-snoc v c = encodes-append v (c ∷ []) ∙ ap (λ z. encode_utf8_all v ++ z) (append-nil (encode_utf8 c))

pub taken-more : (bytes now all written : List ℕ) (n m c : ℕ) → now ≡ bytes ++ encode_utf8 c → doubled (c ∷ []) ≡ written → drop n all ≡ written ++ drop m all → TextTaken bytes n all → TextTaken now m all
taken-more bytes now all written n m c grows spelled left (v, is, whole) = (
  v ++ c ∷ [],
  grows ∙ ap (λ z. z ++ encode_utf8 c) is ∙ sym (encode-snoc v c),
  whole ∙ ap (λ z. doubled v ++ z) left ∙ sym (append_assoc (doubled v) written (drop m all)) ∙ ap (λ z. (doubled v ++ z) ++ drop m all) (sym spelled) ∙ ap (λ z. z ++ drop m all) (sym (doubled-append v (c ∷ []))),
)

pub no-plain : (c : ℕ) (cs : List ℕ) → c ≢ 39 → NoText cs → NoText (c ∷ cs)
no-plain c cs h never [] rest is ends = h (same-head c 39 cs rest is)
no-plain c cs h never (d ∷ v) rest is ends = elim (eqb_tells d 39) [
  | inl p ↦ h (same-head c 39 cs _ (is ∙ ap (λ b. cond b (39 ∷ (39 ∷ doubled v)) (d ∷ doubled v) ++ 39 ∷ rest) p.0))
  | inr p ↦ never v rest (same-tail c d cs _ (is ∙ ap (λ b. cond b (39 ∷ (39 ∷ doubled v)) (d ∷ doubled v) ++ 39 ∷ rest) p.0)) (ends-any (d ∷ v) v rest ends)
]

pub no-quote : (cs : List ℕ) → NoText cs → NoText (39 ∷ (39 ∷ cs))
no-quote cs never [] rest is ends =
    let e : rest ≡ 39 ∷ cs = sym (same-tail 39 39 (39 ∷ cs) rest is) in
    let f : EndsAt Text [] (39 ∷ cs) = subst (EndsAt Text []) e ends in cc
no-quote cs never (d ∷ v) rest is ends = elim (eqb_tells d 39) [
  | inl p ↦ never v rest (same-tail 39 39 cs _ (same-tail 39 39 (39 ∷ cs) _ (is ∙ ap (λ b. cond b (39 ∷ (39 ∷ doubled v)) (d ∷ doubled v) ++ 39 ∷ rest) p.0))) (ends-any (d ∷ v) v rest ends)
  | inr p ↦ p.1 (sym (same-head 39 d (39 ∷ cs) _ (is ∙ ap (λ b. cond b (39 ∷ (39 ∷ doubled v)) (d ∷ doubled v) ++ 39 ∷ rest) p.0)))
]

-- one character further
drop-one : (all : List ℕ) (n x : ℕ) (r : List ℕ) → drop n all ≡ x ∷ r → drop (n + 1) all ≡ r
drop-one all n x r e = sym (drop-drop 1 n all) ∙ ap (drop 1) e

drop-two : (all : List ℕ) (n x y : ℕ) (r : List ℕ) → drop n all ≡ x ∷ (y ∷ r) → drop (n + 2) all ≡ r
drop-two all n x y r e = sym (drop-drop 2 n all) ∙ ap (drop 2) e

left-length : (all r : List ℕ) (n : ℕ) (w : List ℕ) → drop n all ≡ w ++ r → n ≤ length all → n + length w ≤ length all
left-length all r n w e le =
    let a : length (drop n all) ≡ length w + length r = ap length e ∙ length-append w r in
    omega (arith, a, length-drop n all)

pub plain-step : (bytes now all r : List ℕ) (n c : ℕ) → n ≤ length all → drop n all ≡ c ∷ r → c ≢ 39 → now ≡ bytes ++ encode_utf8 c → TextTaken bytes n all → (NoText (drop n all) → NoText all)
    → (n + 1 ≤ length all) × TextTaken now (n + 1) all × (NoText (drop (n + 1) all) → NoText all)
plain-step bytes now all r n c le is h grows taken on =
    let behind : drop (n + 1) all ≡ r = drop-one all n c r is in (
      left-length all r n (c ∷ []) is le,
      taken-more bytes now all (c ∷ []) n (n + 1) c grows (doubled-plain c [] h) (is ∙ ap (λ z. c ∷ z) (sym behind)) taken,
      λ never. on (subst NoText (sym is) (no-plain c r h (subst NoText behind never))),
    )

pub quote-step : (bytes now all r : List ℕ) (n : ℕ) → n ≤ length all → drop n all ≡ 39 ∷ (39 ∷ r) → now ≡ bytes ++ encode_utf8 39 → TextTaken bytes n all → (NoText (drop n all) → NoText all)
    → (n + 2 ≤ length all) × TextTaken now (n + 2) all × (NoText (drop (n + 2) all) → NoText all)
quote-step bytes now all r n le is grows taken on =
    let behind : drop (n + 2) all ≡ r = drop-two all n 39 39 r is in (
      left-length all r n (39 ∷ (39 ∷ [])) is le,
      taken-more bytes now all (39 ∷ (39 ∷ [])) n (n + 2) 39 grows refl (is ∙ ap (λ z. 39 ∷ (39 ∷ z)) (sym behind)) taken,
      λ never. on (subst NoText (sym is) (no-quote r (subst NoText behind never))),
    )

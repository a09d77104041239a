-- Texts between quotes, as they are printed.
--     text-begins      each quote twice
--     plain-begins      texts of ASCII in which none stands
use Rattle.std.proofs.Common.{◌≡◌, ℕ, ◌+◌, ◌/◌, ◌≤◌, lit<, Bool, true, false, List, [], ◌∷◌, ◌++◌, encode_utf8_all, refl, sym, ap, ap₂, ◌∙◌, arith, inl, inr, ltb, eqb, not, cond, subst}
use Rattle.std.proofs.Math.Utf8.{encode, next}
use Rattle.std.proofs.lemmas.Bool.{cases_lt, lt-ltb, le-ltb, eqb-true, and_parts, and_from, ltb-true, not-true}
use Rattle.std.proofs.lemmas.Bool.Decides.{nat_tests}
use Rattle.std.proofs.lemmas.Grind.{flat_map-append}
use Rattle.std.proofs.lemmas.Str.{encode_ascii, chars-encodes, encodes-chars, scalars-chars, chars-append, IsUtf8-append, IsUtf8-from_ascii, chars-IsAscii}
use Rattle.std.proofs.lemmas.Str.Ascii.{IsAscii-nil, IsAscii-cons}
use Rattle.std.specs.Str.{chars, IsUtf8, IsAscii, all_scalars}
use Rattle.utd_lexer.specs.declared.token.TokenKind.TheVariants.{Text}
use Rattle.utd_lexer.specs.Tokens.{AllOf, doubled}
use Rattle.utd_print.specs.Tables.{quoted, quotes_doubled}
use Rattle.plain_rows.proofs.BeginLemmas.{one-ascii, chars-one}
use Rattle.constant_texts.specs.Calm.{is_calm}
use Rattle.constant_texts.proofs.FrontLemmas.{IsRead, token-begins, text-stops}

-- a byte that is no quote is written as it is
plain-byte : (b : ℕ) → eqb b 39 ≡ false → quoted b ≡ b ∷ []
plain-byte b h = ap (λ (t : Bool). cond t (39 ∷ 39 ∷ []) (b ∷ [])) h

great-byte : (b : ℕ) → 40 ≤ b → quoted b ≡ b ∷ []
great-byte b h = plain-byte b (let small : eqb b 39 ≡ false = grind (arith, nat_tests) in small)

great-next : (n : ℕ) → 40 ≤ next n
great-next n = omega arith

-- so are the bytes of a character that is no quote
plain-character : (c : ℕ) → eqb c 39 ≡ false → quotes_doubled (encode c) ≡ encode c
unfolding encode
plain-character c h = elim (cases_lt c 128) [
  | inl i ↦ rw (lt-ltb c 128 i) (ap (λ (l : List ℕ). l ++ []) (plain-byte c h))
  | inr i ↦ rw (le-ltb c 128 i) (elim (cases_lt c 2048) [
    | inl j ↦ rw (lt-ltb c 2048 j) (two-bytes (192 + c / 64) (next c) (omega arith) (great-next c))
    | inr j ↦ rw (le-ltb c 2048 j) (elim (cases_lt c 65536) [
      | inl k ↦ rw (lt-ltb c 65536 k) (three-bytes (224 + c / 4096) (next (c / 64)) (next c) (omega arith) (great-next (c / 64)) (great-next c))
      | inr k ↦ rw (le-ltb c 65536 k) (four-bytes (240 + c / 262144) (next (c / 4096)) (next (c / 64)) (next c) (omega arith) (great-next (c / 4096)) (great-next (c / 64)) (great-next c))
    ])
  ])
]
  where
    two-bytes : (a b : ℕ) → 40 ≤ a → 40 ≤ b → quotes_doubled (a ∷ b ∷ []) ≡ a ∷ b ∷ []
    two-bytes a b x y = ap₂ (λ (l m : List ℕ). l ++ (m ++ [])) (great-byte a x) (great-byte b y)

    three-bytes : (a b d : ℕ) → 40 ≤ a → 40 ≤ b → 40 ≤ d → quotes_doubled (a ∷ b ∷ d ∷ []) ≡ a ∷ b ∷ d ∷ []
    three-bytes a b d x y z = ap₂ (λ (l m : List ℕ). l ++ m) (great-byte a x) (two-bytes b d y z)

    four-bytes : (a b d e : ℕ) → 40 ≤ a → 40 ≤ b → 40 ≤ d → 40 ≤ e → quotes_doubled (a ∷ b ∷ d ∷ e ∷ []) ≡ a ∷ b ∷ d ∷ e ∷ []
    four-bytes a b d e x y z w = ap₂ (λ (l m : List ℕ). l ++ m) (great-byte a x) (three-bytes b d e y z w)

one-quote : encode 39 ≡ 39 ∷ []
one-quote = encode_ascii 39 (lit< tt)

doubled-if : (t : Bool) (c : ℕ) (cs : List ℕ) → eqb c 39 ≡ t → quotes_doubled (encode_utf8_all cs) ≡ encode_utf8_all (doubled cs)
    → quotes_doubled (encode c ++ encode_utf8_all cs) ≡ encode_utf8_all (cond t (39 ∷ (39 ∷ doubled cs)) (c ∷ doubled cs))
doubled-if true c cs h more =
    ap (λ (k : ℕ). quotes_doubled (encode k ++ encode_utf8_all cs)) (eqb-true c 39 h)
    ∙ (ap (λ (l : List ℕ). quotes_doubled (l ++ encode_utf8_all cs)) one-quote
    ∙ (ap (λ (l : List ℕ). 39 ∷ 39 ∷ l) more
    ∙ sym (ap (λ (l : List ℕ). l ++ (l ++ encode_utf8_all (doubled cs))) one-quote)))
doubled-if false c cs h more = flat_map-append quoted (encode c) (encode_utf8_all cs) ∙ ap₂ (λ (l m : List ℕ). l ++ m) (plain-character c h) more

-- the bytes of a text with each quote doubled are those of its characters with each quote doubled
pub text-written : (cs : List ℕ) → quotes_doubled (encode_utf8_all cs) ≡ encode_utf8_all (doubled cs)
text-written [] = refl
text-written (c ∷ cs) = doubled-if (eqb c 39) c cs refl (text-written cs)

-- ---- the token

scalars-if : (t : Bool) (c : ℕ) (ds : List ℕ) → all_scalars (c ∷ []) ≡ true → all_scalars ds ≡ true → all_scalars (cond t (39 ∷ 39 ∷ ds) (c ∷ ds)) ≡ true
scalars-if true c ds h more = more
scalars-if false c ds h more = and_from _ _ (and_parts _ _ h).0 more

scalars-doubled : (cs : List ℕ) → all_scalars cs ≡ true → all_scalars (doubled cs) ≡ true
scalars-doubled [] h = refl
scalars-doubled (c ∷ cs) h = let parts = and_parts _ (all_scalars cs) h in scalars-if (eqb c 39) c (doubled cs) (and_from _ true parts.0 refl) (scalars-doubled cs parts.1)

quotes-utf8 : (bytes : List ℕ) → IsUtf8 bytes → IsUtf8 (quotes_doubled bytes) × (chars (quotes_doubled bytes) ≡ doubled (chars bytes))
quotes-utf8 bytes utf8 =
    let v = chars bytes in
    let is : quotes_doubled bytes ≡ encode_utf8_all (doubled v) = ap quotes_doubled (sym (encodes-chars bytes utf8)) ∙ text-written v in
    let good = scalars-doubled v (scalars-chars bytes utf8) in
    ((doubled v, (good, sym is)), ap chars is ∙ chars-encodes (doubled v) good)

-- between two quotes
between-quotes : (d : List ℕ) → IsUtf8 d → IsUtf8 (39 ∷ (d ++ 39 ∷ [])) × (chars (39 ∷ (d ++ 39 ∷ [])) ≡ 39 ∷ (chars d ++ 39 ∷ []))
between-quotes d utf8 = let quote = IsUtf8-from_ascii (39 ∷ []) (one-ascii 39 (lit< tt)) in (
  IsUtf8-append (39 ∷ []) (d ++ 39 ∷ []) quote (IsUtf8-append d (39 ∷ []) utf8 quote),
  chars-one 39 (d ++ 39 ∷ []) (lit< tt) ∙ ap (λ z. 39 ∷ z) (chars-append d (39 ∷ []) utf8 ∙ ap (λ z. chars d ++ z) (chars-IsAscii (39 ∷ []) (one-ascii 39 (lit< tt)))),
)

pub text-begins : (bytes : List ℕ) → IsUtf8 bytes → IsRead (39 ∷ (quotes_doubled bytes ++ 39 ∷ [])) ((Text, bytes) ∷ [])
text-begins bytes utf8 rest b =
    let d = quotes-utf8 bytes utf8 in
    let whole = between-quotes (quotes_doubled bytes) d.0 in
    token-begins Text (chars bytes) bytes (39 ∷ (quotes_doubled bytes ++ 39 ∷ [])) rest whole.0 (whole.1 ∙ ap (λ z. 39 ∷ (z ++ 39 ∷ [])) d.1) (encodes-chars bytes utf8)
    (tt, text-stops (chars bytes) rest b)

-- ---- texts of ASCII without quotes

pub calm-ascii : (bs : List ℕ) → AllOf is_calm bs → IsAscii bs
calm-ascii [] h = IsAscii-nil
calm-ascii (b ∷ bs) h = IsAscii-cons b bs (ltb-true b 128 (and_parts (ltb b 128) _ h.0).0) (calm-ascii bs h.1)

calm-quotes : (bs : List ℕ) → AllOf is_calm bs → quotes_doubled bs ≡ bs
calm-quotes [] h = refl
calm-quotes (b ∷ bs) h =
    let other : eqb b 39 ≡ false = not-true (eqb b 39) (and_parts (not (eqb b 39)) _ (and_parts (ltb b 128) _ h.0).1).0 in
    ap₂ (λ (l m : List ℕ). l ++ m) (plain-byte b other) (calm-quotes bs h.1)

pub plain-begins : (bs : List ℕ) → AllOf is_calm bs → IsRead (39 ∷ (bs ++ 39 ∷ [])) ((Text, bs) ∷ [])
plain-begins bs h = subst (λ z. IsRead (39 ∷ (z ++ 39 ∷ [])) ((Text, bs) ∷ [])) (calm-quotes bs h) (text-begins bs (IsUtf8-from_ascii bs (calm-ascii bs h)))

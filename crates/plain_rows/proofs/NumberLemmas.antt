-- Integers at the front of bytes.
use Rattle.std.proofs.Common.{◌≡◌, ℕ, ◌+◌, ◌-◌, ◌*◌, ◌<◌, ◌≤◌, leb, List, [], ◌∷◌, ◌++◌, length, take, drop, get_or, true, ltb, not, refl, sym, ◌∙◌, ap, subst, arith}
use Rattle.std.proofs.lemmas.Bool.{ltb-true, leb-true, and_parts, not-true}
use Rattle.std.proofs.lemmas.List.{take_at, drop_at, take_more}
use Rattle.std.proofs.lemmas.Str.{chars-nil}
use Rattle.std.proofs.lemmas.Str.Ascii.{IsAscii-nil, IsAscii-cons}
use Rattle.std.specs.Char.{is_ascii_digit}
use Rattle.std.specs.List.{prefix_len}
use Rattle.std.specs.Str.{chars, IsAscii}
use Rattle.utd_lexer.specs.declared.token.TokenKind.TheVariants.{Integer}
use Rattle.utd_lexer.specs.Tokens.{AllOf, EndsAt}
use Rattle.utd_lexer.proofs.WordLemmas.{taken, integer-kind}
use Rattle.utd_syntax.specs.Literals.{value_after, value_of}
use Rattle.plain_rows.specs.Lexemes.{Begins, ends_before}
use Rattle.plain_rows.specs.Numbers.{BeginsWithNumber}
use Rattle.plain_rows.proofs.BeginLemmas.{chars-one}
use Rattle.plain_rows.proofs.TokenLemmas.{begins-token}

-- ---- what digits write

value-snoc : (n : ℕ) (xs : List ℕ) (d : ℕ) → value_after n (xs ++ d ∷ []) ≡ 10 * value_after n xs + (d - 48)
value-snoc n [] d = refl
value-snoc n (x ∷ xs) d = value-snoc (10 * n + (x - 48)) xs d

pub number-step : (digits : List ℕ) (n number m : ℕ) → n < length digits → number ≡ value_of (take n digits) → m ≡ 10 * number + (get_or digits n 0 - 48) → m ≡ value_of (take (n + 1) digits)
number-step digits n number m lt is more =
    more ∙ ap (λ z. 10 * z + (get_or digits n 0 - 48)) is ∙ sym (ap value_of (take_more digits n 0 lt) ∙ value-snoc 0 (take n digits) (get_or digits n 0))

-- ---- the token

digit-small : (c : ℕ) → is_ascii_digit c ≡ true → c < 128
digit-small c h = let le : c ≤ 57 = leb-true c 57 (and_parts (leb 48 c) (leb c 57) h).1 in omega (arith, le)

all-small : (cs : List ℕ) → AllOf is_ascii_digit cs → IsAscii cs
all-small [] h = IsAscii-nil
all-small (c ∷ cs) h = IsAscii-cons c cs (digit-small c h.0) (all-small cs h.1)

digits-end : (v rest : List ℕ) → ends_before is_ascii_digit rest ≡ true → EndsAt Integer v (chars rest)
digits-end v [] h = subst (EndsAt Integer v) (sym chars-nil) tt
digits-end v (d ∷ rest) h =
    let parts = and_parts (ltb d 128) (not (is_ascii_digit d)) h in
    subst (EndsAt Integer v) (sym (chars-one d rest (ltb-true d 128 parts.0))) (not-true (is_ascii_digit d) parts.1)

begins-split : (v rest : List ℕ) → 0 < length v → AllOf is_ascii_digit v → ends_before is_ascii_digit rest ≡ true → Begins (v ++ rest) ((Integer, v) ∷ []) rest
begins-split v rest some all ends = begins-token Integer v rest (all-small v all) (all-small v all) (integer-kind v some all, digits-end v rest ends)

pub begins-digits : (text front rest : List ℕ) (n : ℕ) → 0 < n → n ≡ prefix_len is_ascii_digit text → front ≡ take n text → rest ≡ drop n text → ends_before is_ascii_digit rest ≡ true → Begins text ((Integer, front) ∷ []) rest
begins-digits text front rest n some h t d ends =
    let q = taken is_ascii_digit text n h in
    let same : front ≡ q.0 = t ∙ ap (take n) q.2 ∙ take_at q.0 q.1 n q.5 in
    let left : rest ≡ q.1 = d ∙ ap (drop n) q.2 ∙ drop_at q.0 q.1 n q.5 in
    let nonempty : 0 < length q.0 = subst (λ z. 0 < z) (sym q.5) some in
    let begins = begins-split q.0 q.1 nonempty q.3 (subst (λ z. ends_before is_ascii_digit z ≡ true) left ends) in
    let of_front = subst (λ z. Begins (q.0 ++ q.1) ((Integer, z) ∷ []) q.1) (sym same) begins in
    let to_rest = subst (λ z. Begins (q.0 ++ q.1) ((Integer, front) ∷ []) z) (sym left) of_front in
    subst (λ z. Begins z ((Integer, front) ∷ []) rest) (sym q.2) to_rest

pub has-number : (text front rest : List ℕ) (n number : ℕ) → 0 < n → n ≡ prefix_len is_ascii_digit text → front ≡ take n text → rest ≡ drop n text → ends_before is_ascii_digit rest ≡ true → number ≡ value_of front → BeginsWithNumber text number rest
has-number text front rest n number some h t d ends is = record { digits = front; begins = begins-digits text front rest n some h t d ends; written = is }

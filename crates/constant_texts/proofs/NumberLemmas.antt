-- Integers, as they are printed.
--     integer-written      the tokens are those of the integer
use Rattle.std.proofs.Common.{◌≡◌, inl, inr, ℕ, suc, ◌+◌, ◌-◌, ◌*◌, ◌^◌, ◌/◌, ◌%◌, ◌<◌, ◌≤◌, ◌≤ℤ◌, lit<, Bool, true, false, eqb, leb, List, [], ◌∷◌, ◌++◌, ℤ, pos, negsuc, neg_ℤ, cond}
use Rattle.std.proofs.Common.{refl, ap, ◌∙◌, arith, Some, None}
use Rattle.std.specs.Char.{is_ascii_digit}
use Rattle.std.specs.Fmt.{decimal, signed_decimal}
use Rattle.std.proofs.lemmas.Bool.{le-leb, leb-true, and_parts}
use Rattle.std.proofs.lemmas.Bool.Decides.{nat_tests}
use Rattle.std.proofs.lemmas.Int.{ints}
use Rattle.std.proofs.lemmas.Fmt.{decimal_by_steps, IsAscii-decimal}
use Rattle.utd_lexer.specs.declared.token.TokenKind.TheVariants.{Integer}
use Rattle.utd_lexer.specs.Tokens.{AllOf, IsOfKind}
use Rattle.utd_syntax.specs.Literals.{value_after, value_of}
use Rattle.scalar_typing.specs.Literals.{integer_of, negative_of}
use Rattle.plain_rows.specs.Lexemes.{Lexeme}
use Rattle.plain_rows.specs.Written.{dash, IsInteger}
use Rattle.plain_rows.proofs.BeginLemmas.{begins-then}
use Rattle.plain_rows.proofs.TokenLemmas.{begins-token}
use Rattle.constant_texts.proofs.FrontLemmas.{IsRead, NoEqual, no-equal, digits-stop, symbol-begins}
use Rattle.constant_texts.proofs.QuietLemmas.{IsQuiet, plain-one, digits-quiet}

-- digits, one at least, that write the number
pub record IsNumeral (n : ℕ) (ds : List ℕ) : Type 0 where
  pub value : value_of ds ≡ n
  pub digits : AllOf is_ascii_digit ds
  pub some : ds ≡ [] → ⊥

digit-is : (d : ℕ) → d < 10 → is_ascii_digit (48 + d) ≡ true
digit-is d h = grind (arith, nat_tests)

digits-push : (ds : List ℕ) (c : ℕ) → AllOf is_ascii_digit ds → is_ascii_digit c ≡ true → AllOf is_ascii_digit (ds ++ c ∷ [])
digits-push [] c h e = (e, tt)
digits-push (d ∷ ds) c h e = (h.0, digits-push ds c h.1 e)

some-push : (ds : List ℕ) (c : ℕ) → ds ++ c ∷ [] ≡ [] → ⊥
some-push [] c e = cc
some-push (d ∷ ds) c e = cc

one-digit : (n : ℕ) → n < 10 → IsNumeral n ((48 + n) ∷ [])
one-digit n h = record { value = omega arith; digits = (digit-is n h, tt); some = λ e. cc }

more-digits : (n : ℕ) (ds : List ℕ) → 10 ≤ n → IsNumeral (n / 10) ds → IsNumeral n (ds ++ (48 + n % 10) ∷ [])
more-digits n ds h is =
    let pushed = by-digits 0 ds (48 + n % 10) in
    let before = is.value in
    record {
      value = omega (arith, pushed, before);
      digits = digits-push ds (48 + n % 10) is.digits (digit-is (n % 10) (omega arith));
      some = some-push ds (48 + n % 10);
    }
  where
    by-digits : (m : ℕ) (xs : List ℕ) (c : ℕ) → value_after m (xs ++ c ∷ []) ≡ 10 * value_after m xs + (c - 48)
    by-digits m [] c = refl
    by-digits m (x ∷ xs) c = by-digits (10 * m + (x - 48)) xs c

pub numeral : (n : ℕ) → n < 2 ^ 64 → IsNumeral n (decimal n)
numeral n h = decimal_by_steps IsNumeral one-digit more-digits n h

-- ---- literals

within : (most n : ℕ) (z : ℤ) → n ≤ most → cond (leb n most) (Some z) None ≡ Some z
within most n z h = ap (λ (b : Bool). cond b (Some z) None) (le-leb n most h)

pub integer-read : (n : ℕ) → n < 2 ^ 64 → n ≤ 9223372036854775807 → integer_of (decimal n) ≡ Some (pos n)
integer-read n small h =
    ap (λ (m : ℕ). cond (leb m 9223372036854775807) (Some (pos m)) None) (numeral n small).value ∙ within 9223372036854775807 n (pos n) h

pub negative-read : (n : ℕ) → n < 2 ^ 64 → n ≤ 9223372036854775808 → negative_of (decimal n) ≡ Some (neg_ℤ (pos n))
negative-read n small h =
    ap (λ (m : ℕ). cond (leb m 9223372036854775808) (Some (neg_ℤ (pos m))) None) (numeral n small).value ∙ within 9223372036854775808 n (neg_ℤ (pos n)) h

-- ---- tokens

digits-kind : (ds : List ℕ) → AllOf is_ascii_digit ds → (ds ≡ [] → ⊥) → IsOfKind Integer ds
digits-kind [] h some = absurd (some refl)
digits-kind (d ∷ ds) h some = h

pub decimal-begins : (n : ℕ) → n < 2 ^ 64 → IsRead (decimal n) ((Integer, decimal n) ∷ [])
decimal-begins n small rest b =
    let is = numeral n small in
    let ascii = IsAscii-decimal n small in
    begins-token Integer (decimal n) rest ascii ascii (digits-kind (decimal n) is.digits is.some, digits-stop (decimal n) rest b)

digit-no-equal : (c : ℕ) (rest : List ℕ) → is_ascii_digit c ≡ true → NoEqual (c ∷ rest)
digit-no-equal c rest h =
    let high : c ≤ 57 = leb-true c 57 (and_parts (leb 48 c) (leb c 57) h).1 in
    no-equal c rest (omega (arith, high)) (let e : eqb c 61 ≡ false = grind (arith, nat_tests, high) in e)

digits-no-equal : (ds rest : List ℕ) → AllOf is_ascii_digit ds → (ds ≡ [] → ⊥) → NoEqual (ds ++ rest)
digits-no-equal [] rest h some = absurd (some refl)
digits-no-equal (d ∷ ds) rest h some = digit-no-equal d (ds ++ rest) h.0

pub integer-no-equal : (z : ℤ) (rest : List ℕ) → z ≤ℤ pos 9223372036854775807 → NoEqual (signed_decimal z ++ rest)
integer-no-equal (pos n) rest high = let is = numeral n (omega (arith, ints, high)) in digits-no-equal (decimal n) rest is.digits is.some
integer-no-equal (negsuc n) rest high = no-equal 45 (decimal (suc n) ++ rest) (lit< tt) refl

-- an integer of 64 bits
abbrev pub Is64 : ℤ → Type 0
Is64 z = (neg_ℤ (pos 9223372036854775808) ≤ℤ z) × (z ≤ℤ pos 9223372036854775807)

-- its tokens
abbrev pub integer_lexemes : ℤ → List Lexeme
integer_lexemes (pos n) = (Integer, decimal n) ∷ []
integer_lexemes (negsuc n) = dash ∷ (Integer, decimal (suc n)) ∷ []

pub integer-written : (z : ℤ) → Is64 z → IsInteger z (integer_lexemes z)
integer-written (pos n) h = inl (decimal n, refl, integer-read n (omega (arith, ints, h.1)) (omega (arith, ints, h.1)))
integer-written (negsuc n) h = inr (decimal (suc n), refl, negative-read (suc n) (omega (arith, ints, h.0)) (omega (arith, ints, h.0)))

pub integer-begins : (z : ℤ) → Is64 z → IsRead (signed_decimal z) (integer_lexemes z)
integer-begins (pos n) h rest b = decimal-begins n (omega (arith, ints, h.1)) rest b
integer-begins (negsuc n) h rest b =
    begins-then (45 ∷ (decimal (suc n) ++ rest)) (decimal (suc n) ++ rest) rest (dash ∷ []) ((Integer, decimal (suc n)) ∷ [])
    (symbol-begins 45 (decimal (suc n) ++ rest) refl) (decimal-begins (suc n) (omega (arith, ints, h.0)) rest b)

pub integer-quiet : (z : ℤ) → Is64 z → IsQuiet (signed_decimal z)
integer-quiet (pos n) h = digits-quiet (decimal n) (numeral n (omega (arith, ints, h.1))).digits
integer-quiet (negsuc n) h = plain-one 45 (decimal (suc n)) refl (digits-quiet (decimal (suc n)) (numeral (suc n) (omega (arith, ints, h.0))).digits)

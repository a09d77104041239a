-- In a text of UTF-8 each character has one byte that begins it.
use Rattle.std.proofs.Common.{◌≡◌, ℕ, ◌+◌, ◌/◌, ◌%◌, ◌<◌, ◌≤◌, cond, ltb, false, List, [], ◌∷◌, ◌++◌, length, encode_utf8_all, refl, sym, ◌∙◌, ap, arith, inl, inr}
use Rattle.std.proofs.Math.Utf8.{encode, next}
use Rattle.std.proofs.lemmas.Bool.{cases_lt, lt-ltb}
use Rattle.std.proofs.lemmas.Bool.Decides.{nat_tests}
use Rattle.std.proofs.lemmas.List.Sums.{sum_by-append}
use Rattle.std.proofs.lemmas.Str.{encodes-chars}
use Rattle.std.specs.Str.{IsUtf8, chars}
use Rattle.utd_print.specs.Tables.{begins_character, character_count}

-- one for a byte that begins a character, and else none
abbrev weight : ℕ → ℕ
weight b = cond (begins_character b) 1 0

begins-ascii : (c : ℕ) → c < 128 → weight c ≡ 1
begins-ascii c h = grind (arith, nat_tests)

begins-lead : (n : ℕ) → 192 ≤ n → weight n ≡ 1
begins-lead n h = grind (arith, nat_tests)

begins-next : (n : ℕ) → weight (next n) ≡ 0
begins-next n = let small : n % 64 < 64 = omega arith in grind (arith, nat_tests)

is-no-less : (c n : ℕ) → n ≤ c → ltb c n ≡ false
is-no-less c n h = grind (arith, nat_tests)

one-character : (c : ℕ) → character_count (encode c) ≡ 1
unfolding encode
one-character c = elim (cases_lt c 128) [
  | inl h ↦ rw (lt-ltb c 128 h) (omega (arith, begins-ascii c h))
  | inr h ↦ rw (is-no-less c 128 h) (elim (cases_lt c 2048) [
    | inl i ↦ rw (lt-ltb c 2048 i) (omega (arith, begins-lead (192 + c / 64) (omega arith), begins-next c))
    | inr i ↦ rw (is-no-less c 2048 i) (elim (cases_lt c 65536) [
      | inl j ↦ rw (lt-ltb c 65536 j) (omega (arith, begins-lead (224 + c / 4096) (omega arith), begins-next (c / 64), begins-next c))
      | inr j ↦ rw (is-no-less c 65536 j) (omega (arith, begins-lead (240 + c / 262144) (omega arith), begins-next (c / 4096), begins-next (c / 64), begins-next c))
    ])
  ])
]

character_count-encodes : (cs : List ℕ) → character_count (encode_utf8_all cs) ≡ length cs
character_count-encodes [] = refl
character_count-encodes (c ∷ cs) =
    let both : character_count (encode c ++ encode_utf8_all cs) ≡ character_count (encode c) + character_count (encode_utf8_all cs) =
    sum_by-append weight (encode c) (encode_utf8_all cs) in
    omega (arith, both, one-character c, character_count-encodes cs)

pub character_count-utf8 : (bytes : List ℕ) → IsUtf8 bytes → character_count bytes ≡ length (chars bytes)
character_count-utf8 bytes utf = ap character_count (sym (encodes-chars bytes utf)) ∙ character_count-encodes (chars bytes)

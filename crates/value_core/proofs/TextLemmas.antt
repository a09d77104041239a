-- What a text is.
--     text-bytes      bytes that are UTF-8 are a text where they are not too many and none is below the space
--     text-parts, text-short      a text is UTF-8, short, and printed
--     text-of-parts      bytes that are all this are a text
--     joined-text      two texts one behind the other are one, where that is not too long
use Rattle.std.proofs.Common.{◌≡◌, ℕ, ◌≤◌, zero, suc, Bool, true, false, cond, not, ◌&&◌, List, [], ◌∷◌, ◌++◌, length, take, refl, sym, ap, ◌∙◌, subst, arith, eq-eqb}
use Rattle.std.specs.Prelude.{◌||◌, nat_le, nat_lt, nat_eq}
use Rattle.std.specs.List.{list_any}
use Rattle.std.specs.Str.{IsUtf8, is_utf8 as is_encoded}
use Rattle.std.specs.Str.Lossy.{utf8_valid_len, valid_len_up_to}
use Rattle.std.proofs.lemmas.Bool.{and_from, and_parts, eqb-true, leb-true}
use Rattle.std.proofs.lemmas.List.{take_all}
use Rattle.std.proofs.lemmas.Str.{IsUtf8-append, IsUtf8-nil, IsUtf8-from_is_utf8, utf8_valid_len-IsUtf8}
use Rattle.value_core.specs.Lengths.{is_utf8, has_control, is_text}
use Rattle.value_core.specs.Limits.{most_text_bytes}

-- ---- UTF-8

pub utf8-known : (bytes : List ℕ) → IsUtf8 bytes → is_utf8 bytes ≡ true
utf8-known bytes valid = eq-eqb (utf8_valid_len bytes) (length bytes) (utf8_valid_len-IsUtf8 bytes valid)

-- the longest front that is UTF-8 is not longer than it may be
front-short : (bytes : List ℕ) (n : ℕ) → valid_len_up_to bytes n ≤ n
front-short bytes zero = omega arith
front-short bytes (suc n) = by (is_encoded (take (suc n) bytes)) (front-short bytes n)
  where
    by : (b : Bool) → valid_len_up_to bytes n ≤ n → cond b (suc n) (valid_len_up_to bytes n) ≤ suc n
    by true short = omega arith
    by false short = omega arith

whole-front : (bytes : List ℕ) (n : ℕ) → valid_len_up_to bytes (suc n) ≡ suc n → is_encoded (take (suc n) bytes) ≡ true
whole-front bytes n e = by (is_encoded (take (suc n) bytes)) refl e
  where
    by : (b : Bool) → is_encoded (take (suc n) bytes) ≡ b → cond b (suc n) (valid_len_up_to bytes n) ≡ suc n → is_encoded (take (suc n) bytes) ≡ true
    by true is whole = is
    by false is whole = let short = front-short bytes n in absurd (omega (arith, short, whole))

valid-whole : (bytes : List ℕ) → utf8_valid_len bytes ≡ length bytes → IsUtf8 bytes
unfolding utf8_valid_len
valid-whole [] e = IsUtf8-nil
valid-whole (b ∷ bytes) e =
    IsUtf8-from_is_utf8 (b ∷ bytes) (ap is_encoded (sym (take_all (length (b ∷ bytes)) (b ∷ bytes) (omega arith))) ∙ whole-front (b ∷ bytes) (length bytes) e)

pub utf8-valid : (bytes : List ℕ) → is_utf8 bytes ≡ true → IsUtf8 bytes
utf8-valid bytes e = valid-whole bytes (eqb-true (utf8_valid_len bytes) (length bytes) e)

-- ---- texts

pub text-bytes : (bytes : List ℕ) → IsUtf8 bytes → is_text bytes ≡ (nat_le (length bytes) most_text_bytes && not (has_control bytes))
text-bytes bytes valid = ap (λ (b : Bool). b && (nat_le (length bytes) most_text_bytes && not (has_control bytes))) (utf8-known bytes valid)

pub record IsTextOfParts (bytes : List ℕ) : Type 0 where
  pub utf8 : is_utf8 bytes ≡ true
  pub short : nat_le (length bytes) most_text_bytes ≡ true
  pub printed : has_control bytes ≡ false

not-true : (b : Bool) → not b ≡ true → b ≡ false
not-true true e = absurd cc
not-true false e = refl

pub text-parts : (bytes : List ℕ) → is_text bytes ≡ true → IsTextOfParts bytes
text-parts bytes e =
    let first = and_parts (is_utf8 bytes) (nat_le (length bytes) most_text_bytes && not (has_control bytes)) e in
    let second = and_parts (nat_le (length bytes) most_text_bytes) (not (has_control bytes)) first.1 in
    record { utf8 = first.0; short = second.0; printed = not-true (has_control bytes) second.1 }

pub text-short : (bytes : List ℕ) → is_text bytes ≡ true → length bytes ≤ most_text_bytes
text-short bytes e = leb-true (length bytes) most_text_bytes (text-parts bytes e).short

pub text-of-parts : (bytes : List ℕ) → is_utf8 bytes ≡ true → nat_le (length bytes) most_text_bytes ≡ true → has_control bytes ≡ false → is_text bytes ≡ true
text-of-parts bytes utf8 short printed =
    and_from (is_utf8 bytes) (nat_le (length bytes) most_text_bytes && not (has_control bytes)) utf8
    (and_from (nat_le (length bytes) most_text_bytes) (not (has_control bytes)) short (ap not printed))

control-next : (c : ℕ) (rest all : List ℕ) → (nat_lt c 32 || has_control rest) ≡ false → (has_control rest ≡ false → has_control all ≡ false) → (nat_lt c 32 || has_control all) ≡ false
control-next c rest all e more = by (nat_lt c 32) e
  where
    by : (t : Bool) → (t || has_control rest) ≡ false → (t || has_control all) ≡ false
    by true h = absurd cc
    by false h = more h

pub control-append : (a b : List ℕ) → has_control a ≡ false → has_control b ≡ false → has_control (a ++ b) ≡ false
control-append [] b p q = q
control-append (c ∷ a) b p q = control-next c a (a ++ b) p (λ r. control-append a b r q)

pub joined-text : (a b : List ℕ) → is_text a ≡ true → is_text b ≡ true → nat_le (length (a ++ b)) most_text_bytes ≡ true → is_text (a ++ b) ≡ true
joined-text a b is_a is_b short =
    let first = text-parts a is_a in
    let second = text-parts b is_b in
    text-of-parts (a ++ b) (utf8-known (a ++ b) (IsUtf8-append a b (utf8-valid a first.utf8) (utf8-valid b second.utf8))) short (control-append a b first.printed second.printed)

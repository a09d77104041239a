-- The numbers that digits write.
use Rattle.std.specs.Prelude.{◌≡◌, ◌≤◌, ◌<◌, ℕ, ◌+◌, ◌-◌, ◌*◌, Bool, true, false, not, nat_le, nat_lt, if◌then◌else◌, Option, Some, None, List, [], ◌∷◌, length, refl}
use Rattle.std.specs.Option.{is_none, is_some}
use Rattle.std.proofs.Common.{ap, arith, drop, get_or, sym, ◌∙◌}
use Rattle.std.proofs.lemmas.Bool.{leb-true, leb-false, ltb-true, ltb-false}
use Rattle.std.proofs.lemmas.List.{at_drop_more}
use Rattle.utd_syntax.specs.Literals.{value_after, value_of}

-- more digits make no less
grows : (n : ℕ) (digits : List ℕ) → n ≤ value_after n digits
grows n [] = omega arith
grows n (d ∷ ds) = omega (arith, grows (10 * n + (d - 48)) ds)

above-if : (b : Bool) (most n : ℕ) → most < n → nat_le n most ≡ b → b ≡ false
above-if true most n more e = absurd (omega (arith, leb-true n most e))
above-if false most n more e = refl

-- a number above the most is none
pub above : (most n : ℕ) → most < n → nat_le n most ≡ false
above most n more = above-if (nat_le n most) most n more refl

pub too-great : (most value : ℕ) (digits : List ℕ) (i : ℕ) → i < length digits → value_after value (drop i digits) ≡ value_of digits →
    most < 10 * value + (get_or digits i 0 - 48) → nat_le (value_of digits) most ≡ false
too-great most value digits i within e more =
    let turn = at_drop_more (value_after value) digits i 0 within in
    let less = grows (10 * value + (get_or digits i 0 - 48)) (drop (i + 1) digits) in
    let is : value_of digits ≡ value_after (10 * value + (get_or digits i 0 - 48)) (drop (i + 1) digits) = sym e ∙ turn in
    above most (value_of digits) (omega (arith, less, is, more))

none-if : (b c : Bool) (most n : ℕ) → nat_le n most ≡ b → nat_lt most n ≡ c → is_none (if b then Some n else None) ≡ c
none-if true false most n e f = refl
none-if false true most n e f = refl
none-if true true most n e f = absurd (omega (arith, leb-true n most e, ltb-true most n f))
none-if false false most n e f = absurd (omega (arith, leb-false n most e, ltb-false most n f))

not-back : (r s : Bool) → not r ≡ s → r ≡ not s
not-back true s e = ap not e
not-back false s e = ap not e

-- there is none up to the most where the number exceeds it
pub none-where-exceeds : (most n : ℕ) (o : Option ℕ) (none : Bool) → is_some o ≡ not none → o ≡ (if nat_le n most then Some n else None) → none ≡ nat_lt most n
none-where-exceeds most n o none is e = not-back none (is_some o) (sym is) ∙ ap is_none e ∙ none-if (nat_le n most) (nat_lt most n) most n refl refl

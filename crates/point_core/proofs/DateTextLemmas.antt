-- The text of a date, byte by byte.
use Rattle.std.proofs.Common.{◌≡◌, ℕ, ◌+◌, ◌*◌, ◌/◌, ◌%◌, ◌≤◌, ℤ, List, [], ◌∷◌, length, slice_index_or, refl, sym, ap, ◌∙◌, arith}
use Rattle.point_core.specs.Dates.{IsCalendarDate, IsDateText, date_text}

-- a list of ten is that of its elements
pub ten : (xs : List ℕ) → length xs ≡ 10
    → xs ≡ slice_index_or xs 0 0 ∷ slice_index_or xs 1 0 ∷ slice_index_or xs 2 0 ∷ slice_index_or xs 3 0 ∷ slice_index_or xs 4 0
    ∷ slice_index_or xs 5 0 ∷ slice_index_or xs 6 0 ∷ slice_index_or xs 7 0 ∷ slice_index_or xs 8 0 ∷ slice_index_or xs 9 0 ∷ []
ten [] e = absurd (omega (arith, e))
ten (a ∷ []) e = absurd (omega (arith, e))
ten (a ∷ b ∷ []) e = absurd (omega (arith, e))
ten (a ∷ b ∷ c ∷ []) e = absurd (omega (arith, e))
ten (a ∷ b ∷ c ∷ d ∷ []) e = absurd (omega (arith, e))
ten (a ∷ b ∷ c ∷ d ∷ p ∷ []) e = absurd (omega (arith, e))
ten (a ∷ b ∷ c ∷ d ∷ p ∷ f ∷ []) e = absurd (omega (arith, e))
ten (a ∷ b ∷ c ∷ d ∷ p ∷ f ∷ g ∷ []) e = absurd (omega (arith, e))
ten (a ∷ b ∷ c ∷ d ∷ p ∷ f ∷ g ∷ q ∷ []) e = absurd (omega (arith, e))
ten (a ∷ b ∷ c ∷ d ∷ p ∷ f ∷ g ∷ q ∷ h ∷ []) e = absurd (omega (arith, e))
ten (a ∷ b ∷ c ∷ d ∷ p ∷ f ∷ g ∷ q ∷ h ∷ i ∷ []) e = refl
ten (a ∷ b ∷ c ∷ d ∷ p ∷ f ∷ g ∷ q ∷ h ∷ i ∷ j ∷ xs) e = absurd (omega (arith, e))

-- the text of a date is told by its bytes
pub text_from_bytes : (text : List ℕ) (hundreds years month day : ℕ) → length text ≡ 10 → years ≤ 99
    → (slice_index_or text 0 0 ≡ 48 + hundreds / 10) × (slice_index_or text 1 0 ≡ 48 + hundreds % 10)
    → (slice_index_or text 2 0 ≡ 48 + years / 10) × (slice_index_or text 3 0 ≡ 48 + years % 10)
    → slice_index_or text 4 0 ≡ 45
    → (slice_index_or text 5 0 ≡ 48 + month / 10) × (slice_index_or text 6 0 ≡ 48 + month % 10)
    → slice_index_or text 7 0 ≡ 45
    → (slice_index_or text 8 0 ≡ 48 + day / 10) × (slice_index_or text 9 0 ≡ 48 + day % 10)
    → text ≡ date_text (100 * hundreds + years) month day
text_from_bytes text hundreds years month day long small h y p m q d =
    let prefix : (100 * hundreds + years) / 100 ≡ hundreds = omega arith in
    let back : (100 * hundreds + years) % 100 ≡ years = omega arith in
    rw (prefix, back) (ten text long ∙ rw (h.0, h.1, y.0, y.1, p, m.0, m.1, q, d.0, d.1) refl)

-- a text is that of one date
pub parts_from_text : (year month day year' month' day' : ℕ) → IsCalendarDate year month day → IsCalendarDate year' month' day'
    → date_text year month day ≡ date_text year' month' day' → (year ≡ year') × (month ≡ month') × (day ≡ day')
parts_from_text y m d y' m' d' here there e =
    let at : ℕ → List ℕ → ℕ = λ i xs. slice_index_or xs i 0 in
    let e0 : 48 + y / 100 / 10 ≡ 48 + y' / 100 / 10 = ap (at 0) e in
    let e1 : 48 + y / 100 % 10 ≡ 48 + y' / 100 % 10 = ap (at 1) e in
    let e2 : 48 + y % 100 / 10 ≡ 48 + y' % 100 / 10 = ap (at 2) e in
    let e3 : 48 + y % 100 % 10 ≡ 48 + y' % 100 % 10 = ap (at 3) e in
    let e5 : 48 + m / 10 ≡ 48 + m' / 10 = ap (at 5) e in
    let e6 : 48 + m % 10 ≡ 48 + m' % 10 = ap (at 6) e in
    let e8 : 48 + d / 10 ≡ 48 + d' / 10 = ap (at 8) e in
    let e9 : 48 + d % 10 ≡ 48 + d' % 10 = ap (at 9) e in
    (omega (arith, e0, e1, e2, e3), omega (arith, e5, e6), omega (arith, e8, e9))

-- and so has one number
pub number_from_text : (text : List ℕ) (n n' : ℤ) → IsDateText text n → IsDateText text n' → n ≡ n'
number_from_text text n n' (y, m, d, here, is, number) (y', m', d', there, is', number') =
    let same = parts_from_text y m d y' m' d' here there (sym is ∙ is') in
    rw (number, number', same.0, same.1, same.2) refl

-- Dates and moments as literals.
--     day-begins, second-begins      their tokens
use Rattle.std.proofs.Common.{◌≡◌, ℕ, zero, suc, ◌+◌, ◌-◌, ◌/◌, ◌%◌, ◌≤◌, lit<, Bool, true, false, cond, ℤ, List, [], ◌∷◌, ◌++◌, get_or, refl, sym, subst, arith, append_assoc}
use Rattle.std.proofs.lemmas.Bool.Decides.{nat_tests}
use Rattle.point_core.specs.Dates.{is_leap, month_days, days_of_month, two_digits, four_digits, date_text, IsCalendarDate, IsDay}
use Rattle.point_core.specs.Moments.{IsClock, clock_text, IsSecond}
use Rattle.utd_lexer.specs.declared.token.TokenKind.TheVariants.{Word, Text}
use Rattle.utd_lexer.specs.Tokens.{AllOf}
use Rattle.utd_print.specs.Dates.{day_text}
use Rattle.utd_print.specs.Moments.{second_text}
use Rattle.dump_core.specs.Values.{day_script, second_script}
use Rattle.plain_rows.specs.Lexemes.{Begins, is_word}
use Rattle.plain_rows.specs.Written.{date_word, moment_word}
use Rattle.plain_rows.proofs.BeginLemmas.{begins-then}
use Rattle.plain_rows.proofs.WordLemmas.{begins-known}
use Rattle.constant_texts.specs.Calm.{is_calm}
use Rattle.constant_texts.proofs.CalendarLemmas.{day-text, second-text}
use Rattle.constant_texts.proofs.FrontLemmas.{IsRead, NoEqual, no-equal, space-begins}
use Rattle.constant_texts.proofs.QuietLemmas.{IsQuiet, plain-one, calm-quiet}
use Rattle.constant_texts.proofs.QuotedLemmas.{plain-begins}

-- ---- digits

calm-digit : (c : ℕ) → 48 ≤ c → c ≤ 57 → is_calm c ≡ true
calm-digit c low high = grind (arith, nat_tests)

two-calm : (n : ℕ) → n ≤ 99 → AllOf is_calm (two_digits n)
two-calm n h = (calm-digit (48 + n / 10) (omega arith) (omega (arith, h)), (calm-digit (48 + n % 10) (omega arith) (omega arith), tt))

pub calm-append : (xs ys : List ℕ) → AllOf is_calm xs → AllOf is_calm ys → AllOf is_calm (xs ++ ys)
calm-append [] ys h k = k
calm-append (x ∷ xs) ys h k = (h.0, calm-append xs ys h.1 k)

four-calm : (n : ℕ) → n ≤ 9999 → AllOf is_calm (four_digits n)
four-calm n h = calm-append (two_digits (n / 100)) (two_digits (n % 100)) (two-calm (n / 100) (omega (arith, h))) (two-calm (n % 100) (omega arith))

-- ---- dates

abbrev Below : List ℕ → Type 0
Below [] = Unit {0}
Below (d ∷ ds) = (d ≤ 31) × Below ds

below-at : (ds : List ℕ) (i : ℕ) → Below ds → get_or ds i 0 ≤ 31
below-at [] i h = omega arith
below-at (d ∷ ds) zero h = h.0
below-at (d ∷ ds) (suc i) h = below-at ds i h.1

leap-few : (leap : Bool) → cond leap 29 28 ≤ 31
leap-few true = omega arith
leap-few false = omega arith

days-few : (year month : ℕ) → days_of_month year month ≤ 31
days-few year month =
    below-at (month_days year) (month - 1) (
      omega arith,
      (
        leap-few (is_leap year),
        (
          omega arith,
          (
            omega arith,
            (
              omega arith,
              (omega arith, (omega arith, (omega arith, (omega arith, (omega arith, (omega arith, (omega arith, tt))))))),
            ),
          ),
        ),
      ),
    )

date-calm : (year month day : ℕ) → IsCalendarDate year month day → AllOf is_calm (date_text year month day)
date-calm year month day h =
    let last = days-few year month in
    calm-append (four_digits year) (45 ∷ two_digits month ++ 45 ∷ two_digits day) (four-calm year h.1)
    (refl, calm-append (two_digits month) (45 ∷ two_digits day) (two-calm month (omega (arith, h.3))) (refl, two-calm day (omega (arith, h.5, last))))

pub day-calm : (n : ℤ) → IsDay n → AllOf is_calm (day_text n)
day-calm n h = let d = day-text n h in subst (AllOf is_calm) (sym d.4) (date-calm d.0 d.1 d.2 d.3)

-- ---- moments

clock-calm : (hour minute second : ℕ) → IsClock hour minute second → AllOf is_calm (clock_text hour minute second)
clock-calm hour minute second h =
    calm-append (two_digits hour) (58 ∷ two_digits minute ++ 58 ∷ two_digits second) (two-calm hour (omega (arith, h.0)))
    (refl, calm-append (two_digits minute) (58 ∷ two_digits second) (two-calm minute (omega (arith, h.1))) (refl, two-calm second (omega (arith, h.2))))

pub second-calm : (n : ℤ) → IsSecond n → AllOf is_calm (second_text n)
second-calm n h =
    let m = second-text n h in
    subst (AllOf is_calm) (sym m.8) (calm-append (date_text m.0 m.1 m.2) (84 ∷ clock_text m.3 m.4 m.5) (date-calm m.0 m.1 m.2 m.6) (refl, clock-calm m.3 m.4 m.5 m.7))

-- ---- tokens

-- a word, a space and a text between quotes
quoted-begins : (w bs : List ℕ) → is_word w ≡ true → AllOf is_calm bs → IsRead (w ++ 32 ∷ 39 ∷ (bs ++ 39 ∷ [])) ((Word, w) ∷ (Text, bs) ∷ [])
quoted-begins w bs h calm rest b =
    let t : List ℕ = 39 ∷ (bs ++ 39 ∷ []) in
    subst (λ z. Begins z ((Word, w) ∷ (Text, bs) ∷ []) rest) (sym (append_assoc w (32 ∷ t) rest))
    (begins-then (w ++ 32 ∷ (t ++ rest)) (32 ∷ (t ++ rest)) rest ((Word, w) ∷ []) ((Text, bs) ∷ [])
    (begins-known (w ++ 32 ∷ (t ++ rest)) w (32 ∷ (t ++ rest)) refl h refl)
    (begins-then (32 ∷ (t ++ rest)) (t ++ rest) rest [] ((Text, bs) ∷ []) (space-begins (t ++ rest)) (plain-begins bs calm rest b)))

pub day-begins : (n : ℤ) → IsDay n → IsRead (day_script n) (date_word ∷ (Text, day_text n) ∷ [])
day-begins n h = quoted-begins (68 ∷ 65 ∷ 84 ∷ 69 ∷ []) (day_text n) refl (day-calm n h)

pub second-begins : (n : ℤ) → IsSecond n → IsRead (second_script n) (moment_word ∷ (Text, second_text n) ∷ [])
second-begins n h = quoted-begins (77 ∷ 79 ∷ 77 ∷ 69 ∷ 78 ∷ 84 ∷ []) (second_text n) refl (second-calm n h)

pub day-no-equal : (n : ℤ) (rest : List ℕ) → NoEqual (day_script n ++ rest)
day-no-equal n rest = no-equal 68 _ (lit< tt) refl

pub second-no-equal : (n : ℤ) (rest : List ℕ) → NoEqual (second_script n ++ rest)
second-no-equal n rest = no-equal 77 _ (lit< tt) refl

pub day-quiet : (n : ℤ) → IsDay n → IsQuiet (day_script n)
day-quiet n h = plain-one 68 _ refl (plain-one 65 _ refl (plain-one 84 _ refl (plain-one 69 _ refl (plain-one 32 _ refl (calm-quiet (day_text n) (day-calm n h))))))

pub second-quiet : (n : ℤ) → IsSecond n → IsQuiet (second_script n)
second-quiet n h =
    plain-one 77 _ refl (plain-one 79 _ refl (plain-one 77 _ refl (plain-one 69 _ refl
    (plain-one 78 _ refl (plain-one 84 _ refl (plain-one 32 _ refl (calm-quiet (second_text n) (second-calm n h))))))))

-- The texts of moments: what a date and a clock write, and nothing else.
use Rattle.std.specs.Option.{is_some}
use Rattle.std.specs.Prelude.{◌≡◌, ◌≤◌, ℕ, ◌+◌, ◌*◌, ◌/◌, ◌%◌, ℤ, pos, ◌+ℤ◌, ◌*ℤ◌, Bool, true, false, ◌&&◌, ◌==◌, nat_le, Option, Some, None, IsNone, IfSome, List, [], ◌∷◌, ◌++◌, take, drop, refl}
use Rattle.std.proofs.Common.{arith, sym, ◌∙◌, ap}
use Rattle.std.proofs.lemmas.Bool.{le-leb, leb-true, eqb-true, and_parts}
use Rattle.std.proofs.lemmas.List.{take-append-drop}
use Rattle.point_core.specs.Dates.{IsCalendarDate, IsDateText, date_text, date_number, two_digits}
use Rattle.point_core.specs.Moments.{IsClock, IsMomentText, clock_number, clock_text, moment_number, moment_text}
use Rattle.utd_syntax.specs.Literals.{value_of, is_digit, are_digits, is_date, number_of_date, is_time, is_clock, second_of_clock, is_moment, number_of_moment}
use Rattle.utd_syntax.proofs.DateLemmas.{two-value, all, digit, dated, numbered, undated, two-digits, split, not-true}

time : (hour minute second : ℕ) → IsClock hour minute second → is_time hour minute second ≡ true
time hour minute second h =
    let a = le-leb hour 23 h.0 in
    let b = le-leb minute 59 h.1 in
    let c = le-leb second 59 h.2 in
    search (all)

are-six : (a b c d e f : ℕ) → a ≤ 9 → b ≤ 9 → c ≤ 9 → d ≤ 9 → e ≤ 9 → f ≤ 9 →
    are_digits ((48 + a) ∷ (48 + b) ∷ (48 + c) ∷ (48 + d) ∷ (48 + e) ∷ (48 + f) ∷ []) ≡ true
are-six a b c d e f i j k l m n =
    let ea = digit a i in let eb = digit b j in let ec = digit c k in
    let ed = digit d l in let ee = digit e m in let ef = digit f n in
    search (all) depth 10

clocked : (hour minute second : ℕ) → IsClock hour minute second → is_clock (84 ∷ clock_text hour minute second) ≡ true
clocked hour minute second h =
    let x = two-value hour (omega (arith, h.0)) in
    let y = two-value minute (omega (arith, h.1)) in
    let z = two-value second (omega (arith, h.2)) in
    let ds = are-six (hour / 10) (hour % 10) (minute / 10) (minute % 10) (second / 10) (second % 10)
    (omega (arith, h.0)) (omega arith) (omega (arith, h.1)) (omega arith) (omega (arith, h.2)) (omega arith) in
    let e : is_time (value_of (two_digits hour)) (value_of (two_digits minute)) (value_of (two_digits second)) ≡ true = rw (x, y, z) (time hour minute second h) in
    search (all)

seconds : (hour minute second : ℕ) → IsClock hour minute second → second_of_clock (84 ∷ clock_text hour minute second) ≡ clock_number hour minute second
seconds hour minute second h =
    let x = two-value hour (omega (arith, h.0)) in
    let y = two-value minute (omega (arith, h.1)) in
    let z = two-value second (omega (arith, h.2)) in
    rw (x, y, z)

three-parts : (a b c : Bool) → (a && b && c) ≡ true → (a ≡ true) × (b ≡ true) × (c ≡ true)
three-parts true true true e = (refl, refl, refl)
three-parts _ _ _ e = absurd cc

parts-of-five : (a b c d f : Bool) → (a && b && c && d && f) ≡ true → (a ≡ true) × (b ≡ true) × (c ≡ true) × (d ≡ true) × (f ≡ true)
parts-of-five true true true true true e = (refl, refl, refl, refl, refl)
parts-of-five _ _ _ _ _ e = absurd cc

-- the text is a letter and a clock that shows the second
abbrev IsBehind : List ℕ → ℕ → Type 0
IsBehind text n =
    (hour : ℕ) × (minute : ℕ) × (second : ℕ) × IsClock hour minute second × (text ≡ 84 ∷ clock_text hour minute second) × (n ≡ clock_number hour minute second)

written : (t a b p c d q e f hour minute second : ℕ) → is_clock (t ∷ a ∷ b ∷ p ∷ c ∷ d ∷ q ∷ e ∷ f ∷ []) ≡ true →
    hour ≡ value_of (a ∷ b ∷ []) → minute ≡ value_of (c ∷ d ∷ []) → second ≡ value_of (e ∷ f ∷ []) →
    IsClock hour minute second × (t ∷ a ∷ b ∷ p ∷ c ∷ d ∷ q ∷ e ∷ f ∷ [] ≡ 84 ∷ clock_text hour minute second)
written t a b p c d q e f hour minute second h is_hour is_minute is_second =
    let parts = parts-of-five (are_digits (a ∷ b ∷ c ∷ d ∷ e ∷ f ∷ [])) (t == 84) (p == 58) (q == 58) (is_time (value_of (a ∷ b ∷ [])) (value_of (c ∷ d ∷ [])) (value_of (e ∷ f ∷ []))) h in
    let sa = split a (b ∷ c ∷ d ∷ e ∷ f ∷ []) parts.0 in
    let sb = split b (c ∷ d ∷ e ∷ f ∷ []) sa.1 in
    let sc = split c (d ∷ e ∷ f ∷ []) sb.1 in
    let sd = split d (e ∷ f ∷ []) sc.1 in
    let se = split e (f ∷ []) sd.1 in
    let sf = split f [] se.1 in
    let x = two-digits a b hour sa.0 sb.0 is_hour in
    let y = two-digits c d minute sc.0 sd.0 is_minute in
    let z = two-digits e f second se.0 sf.0 is_second in
    let letter : t ≡ 84 = eqb-true t 84 parts.1 in
    let colon : p ≡ 58 = eqb-true p 58 parts.2 in
    let colon' : q ≡ 58 = eqb-true q 58 parts.3 in
    let is : is_time hour minute second ≡ true = rw (is_hour, is_minute, is_second) parts.4 in
    let three = three-parts (nat_le hour 23) (nat_le minute 59) (nat_le second 59) is in
    ((leb-true hour 23 three.0, leb-true minute 59 three.1, leb-true second 59 three.2), cc)

-- nine elements, or another number of them
unclocked : (bytes : List ℕ) → is_clock bytes ≡ true → IsBehind bytes (second_of_clock bytes)
unclocked [] h = absurd cc
unclocked (t ∷ []) h = absurd cc
unclocked (t ∷ a ∷ []) h = absurd cc
unclocked (t ∷ a ∷ b ∷ []) h = absurd cc
unclocked (t ∷ a ∷ b ∷ p ∷ []) h = absurd cc
unclocked (t ∷ a ∷ b ∷ p ∷ c ∷ []) h = absurd cc
unclocked (t ∷ a ∷ b ∷ p ∷ c ∷ d ∷ []) h = absurd cc
unclocked (t ∷ a ∷ b ∷ p ∷ c ∷ d ∷ q ∷ []) h = absurd cc
unclocked (t ∷ a ∷ b ∷ p ∷ c ∷ d ∷ q ∷ e ∷ []) h = absurd cc
unclocked (t ∷ a ∷ b ∷ p ∷ c ∷ d ∷ q ∷ e ∷ f ∷ []) h =
    let is = written t a b p c d q e f (value_of (a ∷ b ∷ [])) (value_of (c ∷ d ∷ [])) (value_of (e ∷ f ∷ [])) h refl refl refl in
    (value_of (a ∷ b ∷ []), value_of (c ∷ d ∷ []), value_of (e ∷ f ∷ []), is.0, is.1, refl)
unclocked (t ∷ a ∷ b ∷ p ∷ c ∷ d ∷ q ∷ e ∷ f ∷ g ∷ more) h = absurd cc

joined : (x x' y y' : List ℕ) → x ≡ x' → y ≡ y' → x ++ y ≡ x' ++ y'
joined x x' y y' e f = rw (e, f)

-- the number of a date and of the second of that day
summed : (m n : ℤ) (i j : ℕ) → m ≡ n → i ≡ j → m *ℤ pos 86400 +ℤ pos i ≡ n *ℤ pos 86400 +ℤ pos j
summed m n i j e f = rw (e, f)

-- a text that is one is the text of a moment
pub untimed : (bytes : List ℕ) → is_moment bytes ≡ true → IsMomentText bytes (number_of_moment bytes)
untimed bytes h =
    let parts = and_parts (is_date (take 10 bytes)) (is_clock (drop 10 bytes)) h in
    let day = undated (take 10 bytes) parts.0 in
    let clock = unclocked (drop 10 bytes) parts.1 in
    let text = joined (take 10 bytes) (date_text day.0 day.1 day.2) (drop 10 bytes) (84 ∷ clock_text clock.0 clock.1 clock.2) day.4 clock.4 in
    let number = summed (number_of_date (take 10 bytes)) (date_number day.0 day.1 day.2) (second_of_clock (drop 10 bytes)) (clock_number clock.0 clock.1 clock.2) day.5 clock.5 in
    (day.0, day.1, day.2, clock.0, clock.1, clock.2, day.3, clock.3, sym (take-append-drop 10 bytes) ∙ text, number)

-- the text of a moment is one, and has its number
pub moment-is : (bytes : List ℕ) (n : ℤ) → IsMomentText bytes n → is_moment bytes ≡ true
moment-is bytes n h = rw h.8 (all (is_date (date_text h.0 h.1 h.2)) (is_clock (84 ∷ clock_text h.3 h.4 h.5)) (dated h.0 h.1 h.2 h.6) (clocked h.3 h.4 h.5 h.7))

pub moment-number : (bytes : List ℕ) (n : ℤ) → IsMomentText bytes n → number_of_moment bytes ≡ n
moment-number bytes n h =
    rw h.8 (summed (number_of_date (date_text h.0 h.1 h.2)) (date_number h.0 h.1 h.2) (second_of_clock (84 ∷ clock_text h.3 h.4 h.5)) (clock_number h.3 h.4 h.5) (numbered h.0 h.1 h.2 h.6) (seconds h.3 h.4 h.5 h.7) ∙ sym h.9)

-- a text that is that of no moment is none
pub moment-not : (bytes : List ℕ) → ((n : ℤ) → ¬ IsMomentText bytes n) → is_moment bytes ≡ false
moment-not bytes never = not-true (is_moment bytes) (λ t. never (number_of_moment bytes) (untimed bytes t))

-- what is read of the text tells whether it is one
pub moment-found : {A : Type 0} (bytes : List ℕ) (f : A → ℤ) (found : Option A) → IfSome found (λ m. IsMomentText bytes (f m)) → (IsNone found → (n : ℤ) → ¬ IsMomentText bytes n) →
    is_some found ≡ is_moment bytes
moment-found bytes f (Some m) is none = sym (moment-is bytes (f m) is)
moment-found bytes f None is none = sym (moment-not bytes (none refl))

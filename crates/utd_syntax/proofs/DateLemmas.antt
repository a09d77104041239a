-- The texts of dates: what the calendar's dates write, and nothing else.
use Rattle.std.specs.Option.{is_some}
use Rattle.std.specs.Prelude.{◌≡◌, ◌≤◌, ℕ, ◌+◌, ◌-◌, ◌/◌, ◌%◌, ℤ, Bool, true, false, ◌&&◌, ◌==◌, nat_le, Option, Some, None, IsNone, IfSome, List, [], ◌∷◌, slice_index_or, if◌then◌else◌, zero, suc, refl}
use Rattle.std.proofs.Common.{arith, sym, ◌∙◌}
use Rattle.std.proofs.lemmas.Bool.{le-leb, leb-true, eqb-true, and_parts}
use Rattle.point_core.specs.Dates.{IsCalendarDate, IsDateText, date_text, date_number, four_digits, two_digits, days_of_month, month_days, is_leap}
use Rattle.utd_syntax.specs.Literals.{value_of, is_digit, are_digits, is_day, is_date, number_of_date}

pub two-value : (n : ℕ) → n ≤ 99 → value_of (two_digits n) ≡ n
two-value n h = omega arith

four-value : (n : ℕ) → n ≤ 9999 → value_of (four_digits n) ≡ n
four-value n h = omega arith

pub all : (a b : Bool) → a ≡ true → b ≡ true → (a && b) ≡ true
all true true e f = refl
all true false e f = absurd cc
all false b e f = absurd cc

pub digit : (n : ℕ) → n ≤ 9 → is_digit (48 + n) ≡ true
digit n h = all (nat_le 48 (48 + n)) (nat_le (48 + n) 57) (le-leb 48 (48 + n) (omega arith)) (le-leb (48 + n) 57 (omega arith))

digit-back : (c : ℕ) → is_digit c ≡ true → (48 ≤ c) × (c ≤ 57)
digit-back c h = (leb-true 48 c ((and_parts (nat_le 48 c) (nat_le c 57) h).0), leb-true c 57 ((and_parts (nat_le 48 c) (nat_le c 57) h).1))

day : (year month date : ℕ) → IsCalendarDate year month date → is_day year month date ≡ true
day year month date h =
    let a = le-leb 1 year h.0 in
    let b = le-leb 1 month h.2 in
    let c = le-leb month 12 h.3 in
    let d = le-leb 1 date h.4 in
    let e = le-leb date (days_of_month year month) h.5 in
    search (all)

pub split : (c : ℕ) (cs : List ℕ) → are_digits (c ∷ cs) ≡ true → (is_digit c ≡ true) × (are_digits cs ≡ true)
split c cs t = ((and_parts (is_digit c) (are_digits cs) t).0, (and_parts (is_digit c) (are_digits cs) t).1)

are-digits : (a b c d e f g h : ℕ) → a ≤ 9 → b ≤ 9 → c ≤ 9 → d ≤ 9 → e ≤ 9 → f ≤ 9 → g ≤ 9 → h ≤ 9 →
    are_digits ((48 + a) ∷ (48 + b) ∷ (48 + c) ∷ (48 + d) ∷ (48 + e) ∷ (48 + f) ∷ (48 + g) ∷ (48 + h) ∷ []) ≡ true
are-digits a b c d e f g h i j k l m n o p =
    let ea = digit a i in let eb = digit b j in let ec = digit c k in let ed = digit d l in
    let ee = digit e m in let ef = digit f n in let eg = digit g o in let eh = digit h p in
    search (all) depth 12

february : (b : Bool) → (if b then 29 else 28) ≤ 31
february true = omega arith
february false = omega arith

-- no month has more than 31 days
few-days : (year i : ℕ) → slice_index_or (month_days year) i 0 ≤ 31
few-days year zero = omega arith
few-days year (suc zero) = february (is_leap year)
few-days year (suc (suc zero)) = omega arith
few-days year (suc (suc (suc zero))) = omega arith
few-days year (suc (suc (suc (suc zero)))) = omega arith
few-days year (suc (suc (suc (suc (suc zero))))) = omega arith
few-days year (suc (suc (suc (suc (suc (suc zero)))))) = omega arith
few-days year (suc (suc (suc (suc (suc (suc (suc zero))))))) = omega arith
few-days year (suc (suc (suc (suc (suc (suc (suc (suc zero)))))))) = omega arith
few-days year (suc (suc (suc (suc (suc (suc (suc (suc (suc zero))))))))) = omega arith
few-days year (suc (suc (suc (suc (suc (suc (suc (suc (suc (suc zero)))))))))) = omega arith
few-days year (suc (suc (suc (suc (suc (suc (suc (suc (suc (suc (suc zero))))))))))) = omega arith
few-days year (suc (suc (suc (suc (suc (suc (suc (suc (suc (suc (suc (suc i)))))))))))) = omega arith

pub dated : (year month date : ℕ) → IsCalendarDate year month date → is_date (date_text year month date) ≡ true
dated year month date h =
    let small : date ≤ 99 = omega (arith, h.5, few-days year (month - 1)) in
    let y = four-value year h.1 in
    let m = two-value month (omega (arith, h.3)) in
    let d = two-value date small in
    let ds = are-digits (year / 100 / 10) (year / 100 % 10) (year % 100 / 10) (year % 100 % 10) (month / 10) (month % 10) (date / 10) (date % 10)
    (omega (arith, h.1)) (omega (arith, h.1)) (omega (arith, h.1)) (omega (arith, h.1)) (omega (arith, h.3)) (omega (arith, h.3)) (omega arith) (omega arith) in
    let e : is_day (value_of (four_digits year)) (value_of (two_digits month)) (value_of (two_digits date)) ≡ true = rw (y, m, d) (day year month date h) in
    search (all)

pub numbered : (year month date : ℕ) → IsCalendarDate year month date → number_of_date (date_text year month date) ≡ date_number year month date
numbered year month date h =
    let small : date ≤ 99 = omega (arith, h.5, few-days year (month - 1)) in
    let y = four-value year h.1 in
    let m = two-value month (omega (arith, h.3)) in
    let d = two-value date small in
    rw (y, m, d)

four-parts : (a b c d : Bool) → (a && b && c && d) ≡ true → (a ≡ true) × (b ≡ true) × (c ≡ true) × (d ≡ true)
four-parts true true true true e = (refl, refl, refl, refl)
four-parts _ _ _ _ e = absurd cc

five-parts : (a b c d f : Bool) → (a && b && c && d && f) ≡ true → (a ≡ true) × (b ≡ true) × (c ≡ true) × (d ≡ true) × (f ≡ true)
five-parts true true true true true e = (refl, refl, refl, refl, refl)
five-parts _ _ _ _ _ e = absurd cc

pub two-digits : (a b n : ℕ) → is_digit a ≡ true → is_digit b ≡ true → n ≡ value_of (a ∷ b ∷ []) → (a ≡ 48 + n / 10) × (b ≡ 48 + n % 10)
two-digits a b n i j e =
    let x = digit-back a i in let y = digit-back b j in
    (omega (arith, x, y, e), omega (arith, x, y, e))

four-digits : (a b c d n : ℕ) → is_digit a ≡ true → is_digit b ≡ true → is_digit c ≡ true → is_digit d ≡ true → n ≡ value_of (a ∷ b ∷ c ∷ d ∷ []) →
    (n ≤ 9999) × (a ≡ 48 + n / 100 / 10) × (b ≡ 48 + n / 100 % 10) × (c ≡ 48 + n % 100 / 10) × (d ≡ 48 + n % 100 % 10)
four-digits a b c d n i j k l e =
    let x = digit-back a i in let y = digit-back b j in let z = digit-back c k in let w = digit-back d l in
    (omega (arith, x, y, z, w, e), omega (arith, x, y, z, w, e), omega (arith, x, y, z, w, e), omega (arith, x, y, z, w, e), omega (arith, x, y, z, w, e))

written : (a b c d p e f q g h year month date : ℕ) → is_date (a ∷ b ∷ c ∷ d ∷ p ∷ e ∷ f ∷ q ∷ g ∷ h ∷ []) ≡ true →
    year ≡ value_of (a ∷ b ∷ c ∷ d ∷ []) → month ≡ value_of (e ∷ f ∷ []) → date ≡ value_of (g ∷ h ∷ []) →
    IsCalendarDate year month date × (a ∷ b ∷ c ∷ d ∷ p ∷ e ∷ f ∷ q ∷ g ∷ h ∷ [] ≡ date_text year month date)
written a b c d p e f q g h year month date t is_year is_month is_date =
    let parts = four-parts (are_digits (a ∷ b ∷ c ∷ d ∷ e ∷ f ∷ g ∷ h ∷ [])) (p == 45) (q == 45) (is_day (value_of (a ∷ b ∷ c ∷ d ∷ [])) (value_of (e ∷ f ∷ [])) (value_of (g ∷ h ∷ []))) t in
    let sa = split a (b ∷ c ∷ d ∷ e ∷ f ∷ g ∷ h ∷ []) parts.0 in
    let sb = split b (c ∷ d ∷ e ∷ f ∷ g ∷ h ∷ []) sa.1 in
    let sc = split c (d ∷ e ∷ f ∷ g ∷ h ∷ []) sb.1 in
    let sd = split d (e ∷ f ∷ g ∷ h ∷ []) sc.1 in
    let se = split e (f ∷ g ∷ h ∷ []) sd.1 in
    let sf = split f (g ∷ h ∷ []) se.1 in
    let sg = split g (h ∷ []) sf.1 in
    let sh = split h [] sg.1 in
    let y = four-digits a b c d year sa.0 sb.0 sc.0 sd.0 is_year in
    let m = two-digits e f month se.0 sf.0 is_month in
    let w = two-digits g h date sg.0 sh.0 is_date in
    let dash : p ≡ 45 = eqb-true p 45 parts.1 in
    let dash' : q ≡ 45 = eqb-true q 45 parts.2 in
    let is : is_day year month date ≡ true = rw (is_year, is_month, is_date) parts.3 in
    let five = five-parts (nat_le 1 year) (nat_le 1 month) (nat_le month 12) (nat_le 1 date) (nat_le date (days_of_month year month)) is in
    ((leb-true 1 year five.0, y.0, leb-true 1 month five.1, leb-true month 12 five.2, leb-true 1 date five.3, leb-true date (days_of_month year month) five.4), cc)

-- ten elements, or another number of them
pub undated : (bytes : List ℕ) → is_date bytes ≡ true → IsDateText bytes (number_of_date bytes)
undated [] t = absurd cc
undated (a ∷ []) t = absurd cc
undated (a ∷ b ∷ []) t = absurd cc
undated (a ∷ b ∷ c ∷ []) t = absurd cc
undated (a ∷ b ∷ c ∷ d ∷ []) t = absurd cc
undated (a ∷ b ∷ c ∷ d ∷ p ∷ []) t = absurd cc
undated (a ∷ b ∷ c ∷ d ∷ p ∷ e ∷ []) t = absurd cc
undated (a ∷ b ∷ c ∷ d ∷ p ∷ e ∷ f ∷ []) t = absurd cc
undated (a ∷ b ∷ c ∷ d ∷ p ∷ e ∷ f ∷ q ∷ []) t = absurd cc
undated (a ∷ b ∷ c ∷ d ∷ p ∷ e ∷ f ∷ q ∷ g ∷ []) t = absurd cc
undated (a ∷ b ∷ c ∷ d ∷ p ∷ e ∷ f ∷ q ∷ g ∷ h ∷ []) t =
    let is = written a b c d p e f q g h (value_of (a ∷ b ∷ c ∷ d ∷ [])) (value_of (e ∷ f ∷ [])) (value_of (g ∷ h ∷ [])) t refl refl refl in
    (value_of (a ∷ b ∷ c ∷ d ∷ []), value_of (e ∷ f ∷ []), value_of (g ∷ h ∷ []), is.0, is.1, refl)
undated (a ∷ b ∷ c ∷ d ∷ p ∷ e ∷ f ∷ q ∷ g ∷ h ∷ i ∷ more) t = absurd cc

-- the text of a date is one, and has its number
pub date-is : (bytes : List ℕ) (n : ℤ) → IsDateText bytes n → is_date bytes ≡ true
date-is bytes n h = rw h.4 (dated h.0 h.1 h.2 h.3)

pub date-number : (bytes : List ℕ) (n : ℤ) → IsDateText bytes n → number_of_date bytes ≡ n
date-number bytes n h = rw h.4 (numbered h.0 h.1 h.2 h.3 ∙ sym h.5)

pub not-true : (b : Bool) → (b ≡ true → ⊥) → b ≡ false
not-true true h = absurd (h refl)
not-true false h = refl

-- a text that is that of no date is none
pub date-not : (bytes : List ℕ) → ((n : ℤ) → ¬ IsDateText bytes n) → is_date bytes ≡ false
date-not bytes never = not-true (is_date bytes) (λ t. never (number_of_date bytes) (undated bytes t))

-- what is read of the text tells whether it is one
pub date-found : {A : Type 0} (bytes : List ℕ) (f : A → ℤ) (found : Option A) → IfSome found (λ day. IsDateText bytes (f day)) → (IsNone found → (n : ℤ) → ¬ IsDateText bytes n) →
    is_some found ≡ is_date bytes
date-found bytes f (Some day) is none = sym (date-is bytes (f day) is)
date-found bytes f None is none = sym (date-not bytes (none refl))

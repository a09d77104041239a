-- Dates, moments and texts.
use Rattle.std.specs.Prelude.{◌≡◌, ◌≤◌, ◌<◌, ℕ, ℤ, Bool, true, false, ◌&&◌, nat_le, nat_eq, List, Option, Some, None, if◌then◌else◌, IsNone, IfSome, IfOk, Result, Ok, Err, length, option_map, refl}
use Rattle.std.proofs.Common.{arith, sym, ◌∙◌, ap, cond, not}
use Rattle.std.proofs.lemmas.Bool.{eqb-true}
use Rattle.point_core.specs.Dates.{IsDateText}
use Rattle.point_core.specs.Moments.{IsMomentText}
use Rattle.utd_syntax.proofs.DateLemmas.{date-is, date-number, date-not}
use Rattle.utd_syntax.proofs.MomentLemmas.{moment-is, moment-number, moment-not}
use Rattle.std.specs.Str.{IsValidUpTo}
use Rattle.std.specs.Str.Lossy.{utf8_valid_len}
use Rattle.point_core.specs.declared.date_type.Day.{Day}
use Rattle.point_core.specs.declared.moment_type.Second.{Second}
use Rattle.value_core.specs.Lengths.{has_control, is_text, is_utf8, IsTextOf}
use Rattle.value_core.specs.Limits.{most_text_bytes}
use Rattle.scalar_typing.specs.Literals.{date_of, moment_of, text_of}

-- ---- dates

-- the date that is written, and none where none is
pub date-some : (bytes : List ℕ) (n : ℤ) → IsDateText bytes n → date_of bytes ≡ Some n
date-some bytes n h = rw (date-is bytes n h) (ap Some (date-number bytes n h))

pub date-none : (bytes : List ℕ) → ((n : ℤ) → ¬ IsDateText bytes n) → date_of bytes ≡ None
date-none bytes never = rw (date-not bytes never)

pub date-found : (bytes : List ℕ) (found : Option Day) → IfSome found (λ day. IsDateText bytes day.number) → (IsNone found → (n : ℤ) → ¬ IsDateText bytes n) →
    option_map (λ (d : Day). d.number) found ≡ date_of bytes
date-found bytes (Some day) is none = sym (date-some bytes day.number is)
date-found bytes None is none = sym (date-none bytes (none refl))

-- ---- moments

-- the moment that is written, and none where none is
pub moment-some : (bytes : List ℕ) (n : ℤ) → IsMomentText bytes n → moment_of bytes ≡ Some n
moment-some bytes n h = rw (moment-is bytes n h) (ap Some (moment-number bytes n h))

pub moment-none : (bytes : List ℕ) → ((n : ℤ) → ¬ IsMomentText bytes n) → moment_of bytes ≡ None
moment-none bytes never = rw (moment-not bytes never)

pub moment-found : (bytes : List ℕ) (found : Option Second) → IfSome found (λ m. IsMomentText bytes m.number) → (IsNone found → (n : ℤ) → ¬ IsMomentText bytes n) →
    option_map (λ (m : Second). m.number) found ≡ moment_of bytes
moment-found bytes (Some m) is none = sym (moment-some bytes m.number is)
moment-found bytes None is none = sym (moment-none bytes (none refl))

-- ---- texts

-- a text is taken, and what is none is left
taken-if : (b : Bool) (bytes : List ℕ) → b ≡ true → Some bytes ≡ (if b then Some bytes else None)
taken-if b bytes e = ap (λ (t : Bool). cond t (Some bytes) None) (sym e)

left-if : (b : Bool) (bytes : List ℕ) → b ≡ false → None ≡ (if b then Some bytes else None)
left-if b bytes e = ap (λ (t : Bool). cond t (Some bytes) None) (sym e)

less-than : (b : Bool) (m n : ℕ) → m < n → nat_eq m n ≡ b → b ≡ false
less-than true m n less e = absurd (omega (arith, eqb-true m n e))
less-than false m n less e = refl

pub no-text : (bytes : List ℕ) (n : ℕ) → n ≡ utf8_valid_len bytes → IsValidUpTo bytes n → None ≡ text_of bytes
no-text bytes n e valid =
    let short = valid.short in
    left-if (is_text bytes) bytes
    (ap (λ (b : Bool). b && (nat_le (length bytes) most_text_bytes && not (has_control bytes))) (less-than (is_utf8 bytes) (utf8_valid_len bytes) (length bytes) (omega arith) refl))

pub made-text : {E : Type 0} (bytes text : List ℕ) (r : Result (Option (List ℕ)) E) → text ≡ bytes → IfOk r (IsTextOf text) → IfOk r (λ t. t ≡ text_of bytes)
made-text bytes text (Ok None) same h = left-if (is_text bytes) bytes (ap is_text (sym same) ∙ h)
made-text bytes text (Ok (Some t)) same h = ap Some (h.0 ∙ same) ∙ taken-if (is_text bytes) bytes (ap is_text (sym same) ∙ h.1)
made-text bytes text (Err e) same h = tt

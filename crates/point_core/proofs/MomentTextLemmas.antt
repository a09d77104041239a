-- The date and the clock in the text of a moment.
use Rattle.std.proofs.Common.{◌≡◌, ℕ, ℤ, List, refl, sym, ap, ◌∙◌, take, drop}
use Rattle.std.specs.List.{IsFirstAndRest}
use Rattle.std.proofs.lemmas.List.{drop-drop}
use Rattle.point_core.specs.Dates.{IsDateText, date_number}
use Rattle.point_core.specs.Moments.{IsClockText, IsMomentText, clock_number}

pub date_in : (text : List ℕ) (n : ℤ) → IsMomentText text n → (day : ℤ) × IsDateText (take 10 text) day
date_in text n (y, mo, d, h, mi, s, date, clock, is, number) = (date_number y mo d, (y, mo, d, date, ap (take 10) is, refl))

pub clock_in : (text : List ℕ) (n : ℤ) → IsMomentText text n → (seconds : ℕ) × IsClockText (drop 11 text) seconds
clock_in text n (y, mo, d, h, mi, s, date, clock, is, number) = (clock_number h mi s, (h, mi, s, clock, ap (drop 11) is, refl))

-- what stands behind the date and the mark
pub behind_mark : (text rest : List ℕ) (mark : ℕ) (clock : List ℕ) → rest ≡ drop 10 text → IsFirstAndRest rest mark clock → clock ≡ drop 11 text
behind_mark text rest mark clock behind first = ap (drop 1) (sym first.0 ∙ behind) ∙ drop-drop 1 10 text

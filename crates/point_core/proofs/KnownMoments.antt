-- Numbers of moments that are known from elsewhere, so that a wrong rule in the definitions does not check.
use Rattle.std.proofs.Common.{◌≡◌, [], ◌∷◌, pos, negsuc, refl}
use Rattle.point_core.specs.Dates.{days_of_years, days_of_months, day_place, date_number}
use Rattle.point_core.specs.Moments.{moment_number, moment_text, first_second}

known_numbers : (moment_number 1970 1 1 0 0 0 ≡ pos 0) × (moment_number 1969 12 31 23 59 59 ≡ negsuc 0) × (moment_number 1 1 1 0 0 0 ≡ first_second)
    × (moment_number 2012 2 29 23 59 59 ≡ pos 1330559999) × (moment_number 2012 3 1 0 0 0 ≡ pos 1330560000)
unfolding date_number day_place days_of_years days_of_months
known_numbers = (refl, refl, refl, refl, refl)

-- 2012-02-29T23:59:59
known_text : moment_text 2012 2 29 23 59 59
    ≡ 50 ∷ 48 ∷ 49 ∷ 50 ∷ 45 ∷ 48 ∷ 50 ∷ 45 ∷ 50 ∷ 57 ∷ 84 ∷ 50 ∷ 51 ∷ 58 ∷ 53 ∷ 57 ∷ 58 ∷ 53 ∷ 57 ∷ []
known_text = refl

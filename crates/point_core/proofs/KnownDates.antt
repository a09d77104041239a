-- Numbers of dates that are known from elsewhere, so that a wrong rule in the definitions does not check.
use Rattle.std.proofs.Common.{◌≡◌, [], ◌∷◌, map, true, false, pos, negsuc, refl}
use Rattle.point_core.specs.Dates.{is_leap, days_of_years, days_of_months, day_place, date_number, date_text, first_day}

leap_years : map is_leap (4 ∷ 100 ∷ 400 ∷ 1900 ∷ 2000 ∷ 2023 ∷ 2024 ∷ 2100 ∷ []) ≡ true ∷ false ∷ true ∷ false ∷ true ∷ false ∷ true ∷ false ∷ []
leap_years = refl

known_numbers : (date_number 1970 1 1 ≡ pos 0) × (date_number 1969 12 31 ≡ negsuc 0) × (date_number 1 1 1 ≡ first_day)
    × (date_number 2000 2 29 ≡ pos 11016) × (date_number 2000 3 1 ≡ pos 11017) × (date_number 2004 2 29 ≡ pos 12477) × (date_number 2026 7 26 ≡ pos 20660)
unfolding date_number day_place days_of_years days_of_months
known_numbers = (refl, refl, refl, refl, refl, refl, refl)

-- 2004-02-29
known_text : date_text 2004 2 29 ≡ 50 ∷ 48 ∷ 48 ∷ 52 ∷ 45 ∷ 48 ∷ 50 ∷ 45 ∷ 50 ∷ 57 ∷ []
known_text = refl

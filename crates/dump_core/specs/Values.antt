-- Values as a script has them.
--     point_script      a point as a literal
--     value_script      a value
use Rattle.std.specs.Prelude.{ℕ, ℤ, unsigned_abs, Bool, List, [], ◌∷◌, ◌++◌, slice_index_or, map, codes}
use Rattle.std.specs.Fmt.{signed_decimal}
use Rattle.point_core.specs.declared.any_type.AnyPoint.{AnyPoint}
use Rattle.point_core.specs.Points.{Line, integers, days, values_of, seconds, line, number}
use Rattle.value_core.specs.declared.list.OrdinalNames.{OrdinalNames}
use Rattle.value_core.specs.Values.{Value, truth, text, point, interval}
use Rattle.utd_print.specs.Dates.{day_text}
use Rattle.utd_print.specs.Moments.{second_text}
use Rattle.utd_print.specs.Tables.{quotes_doubled, truth_text, interval_text}

-- DATE and the date between quotes
abbrev pub day_script : ℤ → List ℕ
day_script n = codes "DATE '" ++ day_text n ++ 39 ∷ []

-- MOMENT and the moment between quotes
abbrev pub second_script : ℤ → List ℕ
second_script n = codes "MOMENT '" ++ second_text n ++ 39 ∷ []

-- the type's name, a dot, and the name of its value with this number
abbrev pub member_script : OrdinalNames → ℕ → List ℕ
member_script ordinal at = ordinal.name ++ 46 ∷ slice_index_or ordinal.values at []

-- the value with this number of the n-th ordinal type
abbrev pub ordinal_script : List OrdinalNames → ℕ → ℕ → List ℕ
ordinal_script types n at = slice_index_or (map (λ (o : OrdinalNames). member_script o at) types) n []

abbrev pub point_script : List OrdinalNames → Line → ℤ → List ℕ
point_script types integers p = signed_decimal p
point_script types days p = day_script p
point_script types (values_of n) p = ordinal_script types n (unsigned_abs p)
point_script types seconds p = second_script p

-- an interval from one point to another
abbrev pub span_script : List OrdinalNames → AnyPoint → AnyPoint → List ℕ
span_script types begin end =
    interval_text (point_script types (line begin) (number begin)) (point_script types (line end) (number end))

-- a text between quotes, with each quote in it doubled
abbrev pub text_script : List ℕ → List ℕ
text_script bytes = 39 ∷ quotes_doubled bytes ++ 39 ∷ []

abbrev pub value_script : List OrdinalNames → Value → List ℕ
value_script types (truth b) = truth_text b
value_script types (text bytes) = text_script bytes
value_script types (point l p) = point_script types l p
value_script types (interval l i) = interval_text (point_script types l i.0) (point_script types l i.1)

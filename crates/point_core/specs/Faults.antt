-- Faults in their order: by place, and then by code.
use Rattle.std.specs.Prelude.{ℕ, Result}
use Rattle.std.specs.Ordering.{nat_cmp, ordering_then}
use Rattle.std.specs.declared.cmp.Ordering.{Ordering}
use Rattle.point_core.specs.declared.fault.Place.{Place}
use Rattle.point_core.specs.declared.fault.Fault.{Fault}
use Rattle.point_core.specs.declared.fault.Code.{Code}
use Rattle.point_core.specs.declared.fault.Code.TheVariants.{E01, E02, E03, E04, E05, E06, E10, E11, E12, E13, E14, E15, E16, E17, E18, E19, E20, E21, E22, E30, E31, E32, E33, E34, E35, E36, E40, E41, E42, E43, E44, E45, E46}

-- a value of X, or the fault that comes in its place
abbrev pub OrFault : Type 0 → Type 0
OrFault X = Result X Fault

abbrev pub fault : Place → Code → Fault
fault place code = record { place = place; code = code }

abbrev pub code_number : Code → ℕ
code_number E01 = 1
code_number E02 = 2
code_number E03 = 3
code_number E04 = 4
code_number E05 = 5
code_number E06 = 6
code_number E10 = 10
code_number E11 = 11
code_number E12 = 12
code_number E13 = 13
code_number E14 = 14
code_number E15 = 15
code_number E16 = 16
code_number E17 = 17
code_number E18 = 18
code_number E19 = 19
code_number E20 = 20
code_number E21 = 21
code_number E22 = 22
code_number E30 = 30
code_number E31 = 31
code_number E32 = 32
code_number E33 = 33
code_number E34 = 34
code_number E35 = 35
code_number E36 = 36
code_number E40 = 40
code_number E41 = 41
code_number E42 = 42
code_number E43 = 43
code_number E44 = 44
code_number E45 = 45
code_number E46 = 46

-- by line and then column
abbrev pub place_cmp : Place → Place → Ordering
place_cmp a b = ordering_then (nat_cmp a.line b.line) (nat_cmp a.column b.column)

-- by place and then code
abbrev pub fault_cmp : Fault → Fault → Ordering
fault_cmp a b = ordering_then (place_cmp a.place b.place) (nat_cmp (code_number a.code) (code_number b.code))

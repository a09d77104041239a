-- Faults are in the order of their places, line before column, and then of their codes' numbers: so their derived order says. Each
-- law is proved by its term.
use Rattle.std.specs.Prelude.{◌≡◌, refl}
use Rattle.std.proofs.Common.{ap}
use Rattle.std.specs.Ordering.{nat_cmp, ordering_then}
use Rattle.point_core.specs.declared.fault.Fault.{Fault}
use Rattle.point_core.specs.declared.fault.Code.{Code}
use Rattle.point_core.specs.declared.fault.Code.TheVariants.{E01, E02, E03, E04, E05, E06, E10, E11, E12, E13, E14, E15, E16, E17, E18, E19, E20, E21, E22, E30, E31, E32, E33, E34, E35, E36, E40, E41, E42, E43, E44, E45, E46}
use Rattle.point_core.specs.Faults.{code_number, place_cmp, fault_cmp}
use Rattle.point_core.specs.Orders.{code_order, fault_order}

-- codes are in the order of their numbers
pub code_by_number : (a b : Code) → code_order a b ≡ nat_cmp (code_number a) (code_number b)
code_by_number E01 E01 = refl
code_by_number E02 E01 = refl
code_by_number E03 E01 = refl
code_by_number E04 E01 = refl
code_by_number E05 E01 = refl
code_by_number E06 E01 = refl
code_by_number E10 E01 = refl
code_by_number E11 E01 = refl
code_by_number E12 E01 = refl
code_by_number E13 E01 = refl
code_by_number E14 E01 = refl
code_by_number E15 E01 = refl
code_by_number E16 E01 = refl
code_by_number E17 E01 = refl
code_by_number E18 E01 = refl
code_by_number E19 E01 = refl
code_by_number E20 E01 = refl
code_by_number E21 E01 = refl
code_by_number E22 E01 = refl
code_by_number E30 E01 = refl
code_by_number E31 E01 = refl
code_by_number E32 E01 = refl
code_by_number E33 E01 = refl
code_by_number E34 E01 = refl
code_by_number E35 E01 = refl
code_by_number E36 E01 = refl
code_by_number E40 E01 = refl
code_by_number E41 E01 = refl
code_by_number E42 E01 = refl
code_by_number E43 E01 = refl
code_by_number E44 E01 = refl
code_by_number E45 E01 = refl
code_by_number E46 E01 = refl
code_by_number a b = refl

-- faults are in the order of their places, and then of their codes
pub fault_by_place : (a b : Fault) → fault_order a b ≡ fault_cmp a b
fault_by_place a b = ap (λ o. ordering_then (place_cmp a.place b.place) o) (code_by_number a.code b.code)

-- Constraints of a relvar, and which of them its rows break.
--     agree_on      whether two rows have the same values at positions
--     is_key, is_packed, is_referenced, keeps_history      what each constraint asks
--     broken      the code of the first line of a constraint that does not hold
--     names_relvar      the relvar that a constraint names besides its own
--     IsNamed      what a call that checks a constraint asks
use Rattle.std.specs.Prelude.{ℕ, pos, ◌-ℤ◌, Bool, not, ◌&&◌, ◌||◌, List, [], ◌∷◌, map, nat_eq, int_lt, Option, Some, None, if◌then◌else◌}
use Rattle.std.specs.List.{list_any, list_all}
use Rattle.std.specs.Ordering.{eq_by_cmp}
use Rattle.point_core.specs.declared.fault.Code.{Code}
use Rattle.point_core.specs.declared.fault.Code.TheVariants.{E40, E41, E42, E43, E44}
use Rattle.interval_core.specs.Members.{has_member}
use Rattle.base_core.specs.Sets.{is_within}
use Rattle.value_core.specs.Attributes.{value_at, span_of}
use Rattle.value_core.specs.RowPacking.{packed, unpacked}
use Rattle.value_core.specs.Values.{Name, Row, Heading, Relation, row_cmp, same_rows}
use Rattle.value_core.specs.declared.constraint.Constraint.{Constraint}
use Rattle.value_core.specs.declared.constraint.Constraint.TheVariants.{Key, Packed, WhenUnpacked, UKey, Foreign, History}
use Rattle.value_core.specs.declared.constraint.HistoryRule.{HistoryRule}
use Rattle.scalar_core.specs.Operations.{number_of}
use Rattle.relation_core.specs.Agreement.{part_of}
use Rattle.relation_core.specs.Parts.{projected}

-- whether two rows have the same values, the one at positions here and the other at positions there
abbrev pub agree_on : List ℕ → List ℕ → Row → Row → Bool
agree_on here there x y = eq_by_cmp row_cmp (part_of here x) (part_of there y)

-- ---- keys

-- whether two rows are one row, or do not agree
abbrev pub are_apart : List ℕ → Row → Row → Bool
are_apart k x y = eq_by_cmp row_cmp x y || not (agree_on k k x y)

-- no two different rows agree at the positions
abbrev pub is_key : List ℕ → List Row → Bool
is_key k rows = list_all (λ x. list_all (are_apart k x) rows) rows

-- ---- packed rows

-- the rows are those that they are packed to
abbrev pub is_packed : List ℕ → List Row → Bool
is_packed commalist rows = same_rows rows (packed commalist rows)

-- ---- references

-- what stands there at the place of i in here
abbrev pub counterpart : List ℕ → List ℕ → ℕ → ℕ
counterpart [] there i = i
counterpart (k ∷ ks) [] i = i
counterpart (k ∷ ks) (t ∷ ts) i = if nat_eq k i then t else counterpart ks ts i

-- the values here of each of the unpacked rows are the values there of one of the other's rows, unpacked alike
abbrev pub is_referenced : List ℕ → List ℕ → List ℕ → List Row → List Row → Bool
is_referenced commalist here there rows others =
    is_within row_cmp (projected here (unpacked commalist rows)) (projected there (unpacked (map (counterpart here there) commalist) others))

-- ---- histories

-- a row x of the since relvar and a row y of the during relvar contradict each other: they agree on the key, and either y has not
-- ended before x began, or they agree on all shared attributes and the point directly before x began is in y
abbrev pub contradict : HistoryRule → Row → Row → Bool
contradict h x y =
    let began = number_of (value_at x h.point_there) in
    let lasted = span_of (value_at y h.span_here) in
    agree_on h.key_here h.key_there y x
    && (not (int_lt lasted.1 began) || (agree_on h.all_here h.all_there y x && has_member lasted (began -ℤ pos 1)))

-- no row of the during relvar contradicts a row of the since relvar
abbrev pub keeps_history : HistoryRule → List Row → List Row → Bool
keeps_history h rows others = not (list_any (λ x. list_any (contradict h x) rows) others)

-- ---- constraints

-- the code of the first line that does not hold
abbrev pub first_failed : List (Bool × Code) → Option Code
first_failed [] = None
first_failed (line ∷ lines) = if line.0 then first_failed lines else Some line.1

-- the code of the first line of the constraint that the rows break; others are the rows of the relvar that the constraint names,
-- if it names one
abbrev pub broken : Constraint → List Row → List Row → Option Code
broken (Key k) rows others = first_failed ((is_key k rows, E40) ∷ [])
broken (Packed commalist) rows others = first_failed ((is_packed commalist rows, E41) ∷ [])
broken (WhenUnpacked commalist k) rows others = first_failed ((is_key k (unpacked commalist rows), E42) ∷ [])
broken (UKey commalist k) rows others =
    first_failed ((is_packed commalist rows, E41) ∷ (is_key k (unpacked commalist rows), E42) ∷ (is_key k rows, E40) ∷ [])
broken (Foreign commalist here name there) rows others = first_failed ((is_referenced commalist here there rows others, E43) ∷ [])
broken (History h) rows others = first_failed ((keeps_history h rows others, E44) ∷ [])

-- the relvar that a constraint names besides its own
abbrev pub names_relvar : Constraint → Option Name
names_relvar (Foreign commalist here name there) = Some name
names_relvar (History h) = Some h.since
names_relvar _ = None

-- ---- what a call asks

-- the heading and the rows of the named relvar; none where no relvar is named
abbrev pub heading_or_none : Option Relation → Heading
heading_or_none None = []
heading_or_none (Some r) = r.heading

abbrev pub rows_or_none : Option Relation → List Row
rows_or_none None = []
rows_or_none (Some r) = r.rows

-- a constraint that names a relvar has it at hand
abbrev pub IsNamed : Constraint → Option Relation → Type 0
IsNamed (Foreign commalist here name there) None = ⊥
IsNamed (History h) None = ⊥
IsNamed _ _ = Unit {0}

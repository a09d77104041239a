-- The first broken constraint of a state, and how many rows a state has.
--     rows_of_all      the rows of all base relvars, counted
--     first_broken      the first broken constraint, by relvars in order of declaration and by number
--     first_rule_broken      the first broken database constraint, in order of declaration
use Rattle.std.specs.Prelude.{ℕ, suc, ◌+◌, List, [], ◌∷◌, length, Option, Some, None, option_map, if◌then◌else◌}
use Rattle.point_core.specs.declared.fault.Code.TheVariants.{E45}
use Rattle.value_core.specs.declared.constraint.Constraint.{Constraint}
use Rattle.value_core.specs.declared.refuse.Refuse.{Refuse}
use Rattle.value_core.specs.declared.refuse.Refuse.TheVariants.{Broken}
use Rattle.value_core.specs.Values.{Name, Row, Relation}
use Rattle.tree_core.specs.Relvars.{PlainRelvar, base, view, Entries, Rules, relvar_named, log}
use Rattle.meaning_core.specs.Truths.{holds_in}
use Rattle.u_constraints.specs.Constraints.{broken, names_relvar, rows_or_none}

-- ---- rows

-- the value of a base relvar
abbrev pub value_of : PlainRelvar → Option Relation
value_of (base value constraints) = Some value
value_of (view t kind) = None
value_of (log of side last w) = None

-- the value of a base relvar, if there is one
abbrev pub value_if : Option PlainRelvar → Option Relation
value_if None = None
value_if (Some r) = value_of r

abbrev pub count_of : Name × PlainRelvar → ℕ
count_of r = length (rows_or_none (value_of r.1))

abbrev pub rows_of_all : Entries → ℕ
rows_of_all [] = 0
rows_of_all (r ∷ rest) = count_of r + rows_of_all rest

-- ---- constraints

-- the relvar that a constraint names, if it names one
abbrev pub value_at : Entries → Option Name → Option Relation
value_at entries None = None
value_at entries (Some name) = value_if (relvar_named entries name)

-- the rows of the relvar that the constraint names
abbrev pub rows_named : Entries → Constraint → List Row
rows_named entries c = rows_or_none (value_at entries (names_relvar c))

abbrev pub or_later : Option Refuse → Option Refuse → Option Refuse
or_later None later = later
or_later (Some refuse) later = Some refuse

-- what is refused where the rows of the relvar break the constraint of this number
abbrev pub breach : Entries → Name → List Row → ℕ → Constraint → Option Refuse
breach entries name rows n c = option_map (λ code. Broken code name n) (broken c rows (rows_named entries c))

-- the first constraint that the rows break, by number from n on
abbrev pub first_of : Entries → Name → List Row → ℕ → List Constraint → Option Refuse
first_of entries name rows n [] = None
first_of entries name rows n (c ∷ rest) = or_later (breach entries name rows n c) (first_of entries name rows (suc n) rest)

abbrev pub first_in : Entries → Name → PlainRelvar → Option Refuse
first_in entries name (base value constraints) = first_of entries name value.rows 1 constraints
first_in entries name (view t kind) = None
first_in entries name (log of side last w) = None

-- the first broken one among those of some relvars
abbrev pub first_among : Entries → Entries → Option Refuse
first_among entries [] = None
first_among entries (r ∷ rest) = or_later (first_in entries r.0 r.1) (first_among entries rest)

-- the first broken constraint, by relvars in order of declaration and by number
abbrev pub first_broken : Entries → Option Refuse
first_broken entries = first_among entries entries

-- ---- database constraints

-- the first database constraint that does not hold
abbrev pub first_rule_broken : Entries → Rules → Option Refuse
first_rule_broken entries [] = None
first_rule_broken entries (r ∷ rest) = if holds_in entries r.1 then first_rule_broken entries rest else Some (Broken E45 r.0 0)

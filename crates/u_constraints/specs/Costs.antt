-- How many steps the check of a constraint may take: a bound by numbers of rows and not of points.
--     constraint_cost      over the rows of its relvar and of the one that it names
use Rattle.std.specs.Prelude.{ℕ, ◌+◌, ◌*◌, List, [], ◌∷◌, length}
use Rattle.cell_core.specs.Costs.{bound}
use Rattle.value_core.specs.Values.{Row}
use Rattle.value_core.specs.declared.constraint.Constraint.{Constraint}
use Rattle.value_core.specs.declared.constraint.Constraint.TheVariants.{Key, Packed, WhenUnpacked, UKey, Foreign, History}

-- a key and a history take no step, and a foreign key takes some only where a list is unpacked
abbrev pub constraint_cost : Constraint → List Row → List Row → ℕ
constraint_cost (Key k) rows others = 0
constraint_cost (Packed commalist) rows others = bound (length rows) (length commalist)
constraint_cost (WhenUnpacked commalist k) rows others = bound (length rows) (length commalist)
constraint_cost (UKey commalist k) rows others = 2 * bound (length rows) (length commalist)
constraint_cost (Foreign [] here name there) rows others = 0
constraint_cost (Foreign (i ∷ commalist) here name there) rows others = bound (length rows + length others) (length (i ∷ commalist))
constraint_cost (History rule) rows others = 0

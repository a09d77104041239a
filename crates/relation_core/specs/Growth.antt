-- What a few rows are beside many.
--     touched      the rows that agree with one of the few
--     IsSelection      some rows of a list, in its order
use Rattle.std.specs.Prelude.{◌≡◌, ℕ, Bool, List, filter}
use Rattle.base_core.specs.Sets.{has}
use Rattle.value_core.specs.Values.{Row, row_cmp}
use Rattle.relation_core.specs.Agreement.{part_of}
use Rattle.relation_core.specs.Parts.{projected}

-- the rows of many that have the values of some row of few at the positions
abbrev pub touched : List ℕ → List Row → List Row → List Row
touched positions few many = filter (λ x. has row_cmp (projected positions few) (part_of positions x)) many

-- the rows are those of all that pass some test
abbrev pub IsSelection : List Row → List Row → Type 0
IsSelection all rows = (p : Row → Bool) × (rows ≡ filter p all)

-- Positions among the values of two rows, one behind the other.
use Rattle.std.specs.Prelude.{ℕ, ◌+◌, List, ◌++◌, map}

-- the most attributes of two headings together, with room to spare
abbrev pub most_of_both : ℕ
most_of_both = 64

-- the positions of the first, which has n values, and those of the second behind it
abbrev pub positions_of_both : ℕ → List ℕ → List ℕ → List ℕ
positions_of_both n here there = here ++ map (λ i. n + i) there

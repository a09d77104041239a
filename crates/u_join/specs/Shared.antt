-- Positions that left and right labels share, in pairs.
--     left_positions, right_positions      those in left labels, and those in right ones
--     beside      a label, followed by what another one has outside some positions
--     joined_by      the label of a left and a right box that go together
use Rattle.std.specs.Prelude.{ℕ, List, ◌++◌, map}
use Rattle.value_core.specs.Values.{Row}
use Rattle.u_set.specs.Boxes.{others}

abbrev pub left_positions : List (ℕ × ℕ) → List ℕ
left_positions shared = map (λ p. p.0) shared

abbrev pub right_positions : List (ℕ × ℕ) → List ℕ
right_positions shared = map (λ p. p.1) shared

-- the one, followed by the values of the other that stand at none of the positions, in their order
abbrev pub beside : List ℕ → Row → Row → Row
beside positions a b = a ++ others positions b

-- the left label, followed by the values of the right one that it does not share
abbrev pub joined_by : List (ℕ × ℕ) → Row → Row → Row
joined_by shared a b = beside (right_positions shared) a b

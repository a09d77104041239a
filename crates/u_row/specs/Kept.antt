-- Where the values of a row that are not listed stand among the values of its label.
--     place_in_label      the place of one
--     inner      the places of those at positions
--     beneath      the positions of an operand that positions of its part stand for
use Rattle.std.specs.Prelude.{ℕ, zero, suc, not, List, map, slice_index_or, if◌then◌else◌}
use Rattle.std.specs.List.{filter}
use Rattle.value_core.specs.Attributes.{among}

-- how many of the positions before this one are not listed
abbrev pub place_in_label : List ℕ → ℕ → ℕ
place_in_label commalist zero = 0
place_in_label commalist (suc i) = if among commalist i then place_in_label commalist i else suc (place_in_label commalist i)

-- the positions that are not listed
abbrev pub unlisted : List ℕ → List ℕ → List ℕ
unlisted commalist kept = filter (λ i. not (among commalist i)) kept

-- where the values at the positions stand in the label, but for the listed ones
abbrev pub inner : List ℕ → List ℕ → List ℕ
inner commalist kept = map (place_in_label commalist) (unlisted commalist kept)

-- the positions under the positions
abbrev pub beneath : List ℕ → List ℕ → List ℕ
beneath kept commalist = map (λ j. slice_index_or kept j 0) commalist

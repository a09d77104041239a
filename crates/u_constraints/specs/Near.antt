-- Rows near others: those that have their values at positions.
--     with_keys      the rows whose values at the positions are one of the keys
--     begins_with_any      whether a row's first values are one of the keys
use Rattle.std.specs.Prelude.{ℕ, Bool, List, filter}
use Rattle.std.specs.List.{list_any}
use Rattle.base_core.specs.Sets.{has}
use Rattle.value_core.specs.Values.{Row, row_cmp}
use Rattle.relation_core.specs.Agreement.{part_of}
use Rattle.u_constraints.specs.Prefixes.{begins_with}

-- the rows whose values at the positions are one of the keys
abbrev pub with_keys : List ℕ → List Row → List Row → List Row
with_keys positions keys rows = filter (λ x. has row_cmp keys (part_of positions x)) rows

-- whether the first values of the row are one of the keys
abbrev pub begins_with_any : List Row → Row → Bool
begins_with_any keys row = list_any (λ values. begins_with values row) keys

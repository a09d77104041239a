-- Rows by their first values.
use Rattle.std.specs.Prelude.{ℕ, suc, Bool, true, ◌&&◌, List, [], ◌∷◌, length, map, take, nat_eq}
use Rattle.std.specs.Ordering.{eq_by_cmp}
use Rattle.base_core.specs.Sets.{is_set}
use Rattle.value_core.specs.Values.{Row, row_cmp}

-- whether the positions are n, the one after it, and so on
abbrev pub counts_from : ℕ → List ℕ → Bool
counts_from n [] = true
counts_from n (i ∷ is) = nat_eq i n && counts_from (suc n) is

-- whether each row has less first values than the next one
abbrev pub prefixes_ascend : ℕ → List Row → Bool
prefixes_ascend count rows = is_set row_cmp (map (take count) rows)

-- whether the first values of the row are these
abbrev pub begins_with : Row → Row → Bool
begins_with values row = eq_by_cmp row_cmp (take (length values) row) values

-- What a merge of two lists of rows in order keeps.
use Rattle.std.specs.Prelude.{Bool, List, filter, if◌then◌else◌}
use Rattle.base_core.specs.Sets.{has, union_of}
use Rattle.value_core.specs.Values.{Row, row_cmp}
use Rattle.relation_core.specs.declared.merging.Keeps.{Keeps}

-- whether a row is kept that is in the one list, in the other, or in both
abbrev pub is_kept : Keeps → Bool → Bool → Bool
is_kept keeps left right = if left then (if right then keeps.both else keeps.left) else keeps.right

-- the rows of two lists that are kept, in order
abbrev pub merged : Keeps → List Row → List Row → List Row
merged keeps left right = filter (λ x. is_kept keeps (has row_cmp left x) (has row_cmp right x)) (union_of row_cmp left right)

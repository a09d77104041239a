-- The form of views whose rows are stored: an operator of two relvars, or a projection of one, under USING; or PACK of one.
--     is_stored_form      whether an expression has it
use Rattle.std.specs.Prelude.{Bool, true, false, ◌&&◌}
use Rattle.tree_core.specs.Trees.{Tree, named, infix_of, project, pack, using}

abbrev pub is_name : Tree → Bool
is_name (named place heading name) = true
is_name _ = false

-- whether it may be the part of USING
abbrev pub is_stored_part : Tree → Bool
is_stored_part (infix_of place heading word l r) = is_name l && is_name r
is_stored_part (project place heading kept t) = is_name t
is_stored_part _ = false

abbrev pub is_stored_form : Tree → Bool
is_stored_form (using place heading commalist t) = is_stored_part t
is_stored_form (pack place heading commalist t) = is_name t
is_stored_form _ = false

-- The stored views among the entries of a state, and how many rows they have.
--     stored_tree      the expression of a stored view
--     is_stored, has_stored      whether an entry is one, and whether there is one
--     stored_rows, rows_of_stored      the rows of a stored view, counted, and those of all
--     are_stored_few      whether each of them means rows, and no fault of too many
--     IsCounted      so many rows an entry has
--     made_cost      what it takes to make the rows of a stored view
use Rattle.std.specs.Prelude.{◌≡◌, ℕ, ◌+◌, Bool, true, false, [], ◌∷◌, length, Option, Some, None, is_some, Ok, Err}
use Rattle.std.specs.List.{list_any, list_all}
use Rattle.tree_core.specs.Relvars.{PlainKind, derived, of_history, stored, PlainRelvar, base, view, log, Entries, relvar_named}
use Rattle.tree_core.specs.Trees.{Tree, named, infix_of, project, pack, using}
use Rattle.cell_core.specs.Costs.{bound}
use Rattle.meaning_core.specs.Logs.{base_rows}
use Rattle.meaning_core.specs.Meanings.{RowsMeant, meaning_in}

abbrev pub tree_of_kind : Tree → PlainKind → Option Tree
tree_of_kind t derived = None
tree_of_kind t (of_history names) = None
tree_of_kind t stored = Some t

-- the expression of a stored view; none of another entry
abbrev pub stored_tree : PlainRelvar → Option Tree
stored_tree (base value constraints) = None
stored_tree (view t kind) = tree_of_kind t kind
stored_tree (log of side last value) = None

abbrev pub is_stored : PlainRelvar → Bool
is_stored r = is_some (stored_tree r)

abbrev pub has_stored : Entries → Bool
has_stored entries = list_any (λ r. is_stored r.1) entries

-- ---- how many rows they have

abbrev pub count_meant : RowsMeant → ℕ
count_meant (Ok rows) = length rows
count_meant (Err e) = 0

abbrev pub is_meant : RowsMeant → Bool
is_meant (Ok rows) = true
is_meant (Err e) = false

abbrev pub count_if : Entries → Option Tree → ℕ
count_if all None = 0
count_if all (Some t) = count_meant (meaning_in all t)

abbrev pub is_meant_if : Entries → Option Tree → Bool
is_meant_if all None = true
is_meant_if all (Some t) = is_meant (meaning_in all t)

-- the rows of a stored view by what names mean among all entries; none of another entry, or for a fault
abbrev pub stored_rows : Entries → PlainRelvar → ℕ
stored_rows all r = count_if all (stored_tree r)

-- those of the stored views among some entries
abbrev pub rows_among : Entries → Entries → ℕ
rows_among all [] = 0
rows_among all (r ∷ rest) = stored_rows all r.1 + rows_among all rest

abbrev pub rows_of_stored : Entries → ℕ
rows_of_stored entries = rows_among entries entries

-- whether each stored view among some entries means rows
abbrev pub are_meant_among : Entries → Entries → Bool
are_meant_among all entries = list_all (λ r. is_meant_if all (stored_tree r.1)) entries

abbrev pub are_stored_few : Entries → Bool
are_stored_few entries = are_meant_among entries entries

-- so many rows the entry has as a stored view
pub record IsCounted (all : Entries) (count : ℕ) (r : PlainRelvar) : Type 0 where
  pub is : count ≡ stored_rows all r

-- ---- what it takes to make the rows of one

-- how many rows the base relvar has that an expression names
abbrev pub named_rows : Entries → Tree → ℕ
named_rows all (named place h name) = length (base_rows (relvar_named all name))
named_rows all _ = 0

-- what the part of USING takes with so many attributes listed
abbrev pub part_cost : Entries → ℕ → Tree → ℕ
part_cost all k (infix_of place h word l r) = bound (named_rows all l + named_rows all r) k
part_cost all k (project place h kept t) = bound (named_rows all t) k
part_cost all k _ = 0

-- what the expression of a stored view takes: the bound over the rows of its operands together
abbrev pub made_cost : Entries → Tree → ℕ
made_cost all (using place h commalist t) = part_cost all (length commalist) t
made_cost all (pack place h commalist t) = bound (named_rows all t) (length commalist)
made_cost all _ = 0

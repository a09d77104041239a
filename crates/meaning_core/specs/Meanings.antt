-- What a relational expression means: a set of rows, or a fault.
--     Known      what names mean so far
--     meaning      what an expression means where names mean that
--     known_in, meaning_in      what names and expressions mean in a state
use Rattle.std.specs.Prelude.{ℕ, Bool, List, [], map, length, nat_le, slice_index_or, Ok, Err, if◌then◌else◌}
use Rattle.base_core.specs.Outcomes.{then_give, both, first_of_all}
use Rattle.point_core.specs.Faults.{OrFault, fault}
use Rattle.point_core.specs.declared.fault.Place.{Place}
use Rattle.point_core.specs.declared.fault.Code.TheVariants.{E35}
use Rattle.value_core.specs.RowPacking.{packed, unpacked}
use Rattle.value_core.specs.Values.{most_rows, Name, Row, Heading, rows_of}
use Rattle.scalar_core.specs.Expressions.{Expr}
use Rattle.scalar_core.specs.Operations.{is_true}
use Rattle.scalar_core.specs.ScalarValues.{value}
use Rattle.relation_core.specs.Agreement.{position_of, matched, unmatched}
use Rattle.relation_core.specs.Groups.{rows_at, summarized}
use Rattle.relation_core.specs.Joins.{joined}
use Rattle.relation_core.specs.Operators.{united, intersected, subtracted, restricted, extended}
use Rattle.relation_core.specs.Parts.{no_attribute, projected, renamed, positions_in}
use Rattle.tree_core.specs.Relvars.{PlainRelvar, base, view, Entries, log}
use Rattle.tree_core.specs.Trees.{PlainSets, Tree, named, literal, infix_of, project, rename, restrict, extend, summarize, pack, unpack, using, heading_of}
use Rattle.tree_core.specs.declared.tree.InfixWord.{InfixWord}
use Rattle.tree_core.specs.declared.tree.InfixWord.TheVariants.{Union, Intersect, Minus, Join, Matching, NotMatching}
use Rattle.meaning_core.specs.Names.{found, each_in}
use Rattle.meaning_core.specs.Rows.{extended_row, literal_row, group_row}

-- the rows of a relation, or a fault
abbrev pub RowsMeant : Type 0
RowsMeant = OrFault (List Row)

-- what the names declared so far mean
abbrev pub Known : Type 0
Known = List (Name × RowsMeant)

-- a view's fault takes the place of its name
abbrev pub at_name : Place → RowsMeant → RowsMeant
at_name place (Ok rows) = Ok rows
at_name place (Err e) = Err (fault place e.code)

-- the rows, unless they are too many
abbrev pub limited : Place → List Row → RowsMeant
limited place rows = if nat_le (length rows) most_rows then Ok rows else Err (fault place E35)

-- ---- what surrounds an operator: nothing, or USING with its place and the names of its attributes

pub data Around : Type 0 where
  plainly : Around
  in_using : Place → List Name → Around

abbrev pub list_of : Around → List Name
list_of plainly = []
list_of (in_using place names) = names

-- where too many rows are told: at the operator, or at its USING
abbrev pub told_at : Around → Place → Place
told_at plainly place = place
told_at (in_using at names) place = at

-- the positions of names, and the names at positions
abbrev pub positions_of : Heading → List Name → List ℕ
positions_of heading names = map (position_of heading) names

abbrev pub names_at : Heading → List ℕ → List Name
names_at heading positions = map (λ i. (slice_index_or heading i no_attribute).0) positions

-- an operand as the operator sees it: unpacked under USING
abbrev pub opened : Around → Heading → List Row → List Row
opened around heading rows = unpacked (positions_of heading (list_of around)) rows

-- the operator's rows: packed under USING, and limited
abbrev pub closed : Around → Place → Heading → List Row → RowsMeant
closed around place heading rows = limited (told_at around place) (packed (positions_of heading (list_of around)) rows)

-- ---- operators

abbrev pub infix_rows : InfixWord → Heading → Heading → List Row → List Row → List Row
infix_rows Union left right r s = united r s
infix_rows Intersect left right r s = intersected r s
infix_rows Minus left right r s = subtracted r s
infix_rows Join left right r s = joined left right r s
infix_rows Matching left right r s = matched left right r s
infix_rows NotMatching left right r s = unmatched left right r s

-- the rows of attributes with new names, under the heading of these
abbrev pub renamed_rows : Heading → Heading → List Name → List Row → List Row
renamed_rows from to names rows = projected (positions_in (renamed names from) to) rows

-- whether a condition holds of a row
abbrev pub condition : Expr → Row → OrFault Bool
condition c row = then_give (value c row) (λ v. Ok (is_true v))

-- the rows of a literal's tuples, the first fault in their order counting
abbrev pub literal_rows : Heading → List PlainSets → RowsMeant
literal_rows heading tuples = then_give (first_of_all (map (literal_row heading) tuples)) (λ rows. Ok (rows_of rows))

-- ---- expressions

-- the meaning of an expression: its operands left to right, then the operator's least fault or its rows, then whether they are
-- too many
abbrev pub meaning : Known → Around → Tree → RowsMeant
meaning known around (named place heading name) = then_give (at_name place (found (Ok []) known name)) (limited place)
meaning known around (literal place heading tuples) = then_give (literal_rows heading tuples) (limited place)
meaning known around (infix_of place heading word l r) =
    both (meaning known plainly l) (meaning known plainly r) (λ a b.
    closed around place heading (infix_rows word (heading_of l) (heading_of r) (opened around (heading_of l) a) (opened around (heading_of r) b)))
meaning known around (project place heading kept t) =
    then_give (meaning known plainly t) (λ a. closed around place heading (projected kept (opened around (heading_of t) a)))
meaning known around (rename place heading names t) =
    then_give (meaning known plainly t) (λ a. limited place (renamed_rows (heading_of t) heading names a))
meaning known around (restrict place heading c t) =
    then_give (meaning known plainly t) (λ a. then_give (restricted (condition c) (opened around (heading_of t) a)) (closed around place heading))
meaning known around (extend place heading sets t) =
    then_give (meaning known plainly t) (λ a.
    then_give (extended (extended_row (heading_of t) heading sets) (opened around (heading_of t) a)) (closed around place heading))
meaning known around (summarize place heading by aggregates t) =
    then_give (meaning known plainly t) (λ a.
    let rows = opened around (heading_of t) a in
    then_give (summarized by (λ numbers. group_row (heading_of t) heading aggregates (rows_at rows numbers)) rows) (closed around place heading))
meaning known around (pack place heading commalist t) = then_give (meaning known plainly t) (λ a. limited place (packed commalist a))
meaning known around (unpack place heading commalist t) = then_give (meaning known plainly t) (λ a. limited place (unpacked commalist a))
meaning known around (using place heading commalist t) = meaning known (in_using place (names_at (heading_of t) commalist)) t

-- ---- in a state

-- what a relvar means, where the names before it mean that
abbrev pub relvar_meaning : Known → PlainRelvar → RowsMeant
relvar_meaning known (base value constraints) = Ok value.rows
relvar_meaning known (view t kind) = meaning known plainly t
relvar_meaning known (log of side last value) = Ok value.rows

-- the meanings of all relvars and views, each view's from those before it
abbrev pub known_in : Entries → Known
known_in entries = each_in relvar_meaning entries

-- the meaning of an expression where these are the relvars and views
abbrev pub meaning_in : Entries → Tree → RowsMeant
meaning_in entries t = meaning (known_in entries) plainly t

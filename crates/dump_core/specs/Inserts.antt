-- Rows as statements.
--     tuple_script      a row
--     insert_script      a statement that inserts rows
--     inserts, rows_of_state      the statements that insert the rows of a relvar, and of all
--     HaveRelations      the values of base relvars are relations
use Rattle.std.specs.Prelude.{ℕ, zero, suc, Bool, false, List, [], ◌∷◌, ◌++◌, map, length, take, drop, codes, if◌then◌else◌}
use Rattle.std.specs.List.{flat_map, list_any}
use Rattle.std.specs.Str.{bytes_eq}
use Rattle.value_core.specs.declared.constraint.Constraint.{Constraint}
use Rattle.value_core.specs.declared.constraint.Constraint.TheVariants.{Key, Packed, WhenUnpacked, UKey, Foreign, History}
use Rattle.value_core.specs.declared.list.OrdinalNames.{OrdinalNames}
use Rattle.value_core.specs.Limits.{most_rows}
use Rattle.value_core.specs.Values.{Name, Row, Heading, Relation, IsRelation}
use Rattle.tree_core.specs.Relvars.{PlainRelvar, base, view, State, Entries, log}
use Rattle.dump_core.specs.Values.{value_script}

-- ---- rows

-- the comma before what stands at this place of a list
abbrev pub comma_at : ℕ → List ℕ
comma_at zero = []
comma_at (suc at) = 44 ∷ 32 ∷ []

-- a text behind a comma and a space
abbrev pub behind_comma : List ℕ → List ℕ
behind_comma t = 44 ∷ 32 ∷ t

-- texts with commas between them
abbrev pub listed : List (List ℕ) → List ℕ
listed [] = []
listed (t ∷ rest) = t ++ flat_map behind_comma rest

-- each attribute's name, a space and its value
abbrev pub attribute_scripts : List OrdinalNames → Heading → Row → List (List ℕ)
attribute_scripts types [] row = []
attribute_scripts types (a ∷ rest) [] = []
attribute_scripts types (a ∷ rest) (v ∷ vs) = (a.0 ++ 32 ∷ value_script types v) ∷ attribute_scripts types rest vs

abbrev pub tuple_script : List OrdinalNames → Heading → Row → List ℕ
tuple_script types heading row = codes "TUPLE {" ++ listed (attribute_scripts types heading row) ++ 125 ∷ []

-- ---- statements

abbrev pub insert_script : List OrdinalNames → Name → Heading → List Row → List ℕ
insert_script types name heading rows =
    codes "INSERT " ++ name ++ codes " RELATION {" ++ listed (map (tuple_script types heading) rows) ++ codes "};"

-- a list in parts of so many elements; the last may have fewer. The first number is at least that of the parts
abbrev pub parts_in : {A : Type 0} → ℕ → ℕ → List A → List (List A)
parts_in zero size list = []
parts_in (suc most) size [] = []
parts_in (suc most) size (x ∷ rest) = take size (x ∷ rest) ∷ parts_in most size (drop size (x ∷ rest))

abbrev pub parts_of : {A : Type 0} → ℕ → List A → List (List A)
parts_of size list = parts_in (length list) size list

-- the constraint is a foreign key on the relvar of this name
abbrev pub references : Name → Constraint → Bool
references name (Key k) = false
references name (Packed commalist) = false
references name (WhenUnpacked commalist k) = false
references name (UKey commalist k) = false
references name (Foreign commalist k other there) = bytes_eq other name
references name (History rule) = false

-- how many rows a statement has at most: 100, and as many as a relvar may have where they may refer to each other
abbrev pub rows_a_statement : Name → List Constraint → ℕ
rows_a_statement name constraints = if list_any (references name) constraints then most_rows else 100

-- the statements that insert the rows of a relation, so many rows a statement
abbrev pub parts_inserted : List OrdinalNames → Name → Relation → ℕ → List (List ℕ)
parts_inserted types name value size = map (insert_script types name value.heading) (parts_of size value.rows)

-- the statements that insert the rows of a base relvar, in their order; a view or a log has none
abbrev pub inserts : List OrdinalNames → Name → PlainRelvar → List (List ℕ)
inserts types name (base value constraints) = parts_inserted types name value (rows_a_statement name constraints)
inserts types name (view t kind) = []
inserts types name (log of side last value) = []

-- those of all base relvars, in the order of declaration
abbrev pub rows_of_entries : List OrdinalNames → Entries → List (List ℕ)
rows_of_entries types entries = flat_map (λ e. inserts types e.0 e.1) entries

abbrev pub rows_of_state : State → List (List ℕ)
rows_of_state state = rows_of_entries state.ordinals state.relvars

-- ---- relations

-- the value of a base relvar is a relation, and those of all are
abbrev pub HasRelation : PlainRelvar → Type 0
HasRelation (base value constraints) = IsRelation value
HasRelation (view t kind) = Unit {0}
HasRelation (log of side last value) = Unit {0}

abbrev pub HaveRelations : Entries → Type 0
HaveRelations [] = Unit {0}
HaveRelations (e ∷ rest) = HasRelation e.1 × HaveRelations rest

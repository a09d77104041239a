-- The limits of the language. Each is the constant of the code that has its name in capitals.
use Rattle.std.specs.Prelude.{ℕ}
use Rattle.value_core.specs.declared.limits.TheConstants as constants

-- the most bytes of a name, and of a text
abbrev pub most_name_bytes : ℕ
most_name_bytes = constants.MOST_NAME_BYTES

abbrev pub most_text_bytes : ℕ
most_text_bytes = constants.MOST_TEXT_BYTES

-- the most attributes of a heading, and of a list of USING, PACK, UNPACK or of a constraint
abbrev pub most_attributes : ℕ
most_attributes = constants.MOST_ATTRIBUTES

abbrev pub most_listed : ℕ
most_listed = constants.MOST_LISTED

-- the most rows of a relation, and of all relvars together
abbrev pub most_rows : ℕ
most_rows = constants.MOST_ROWS

abbrev pub most_rows_in_all : ℕ
most_rows_in_all = constants.MOST_ROWS_IN_ALL

-- the most relvars and views, ordinal types, values of an ordinal type, constraints of a relvar and of the database, and nodes of a view
abbrev pub most_relvars : ℕ
most_relvars = constants.MOST_RELVARS

abbrev pub most_ordinal_types : ℕ
most_ordinal_types = constants.MOST_ORDINAL_TYPES

abbrev pub most_ordinal_values : ℕ
most_ordinal_values = constants.MOST_ORDINAL_VALUES

abbrev pub most_constraints : ℕ
most_constraints = constants.MOST_CONSTRAINTS

abbrev pub most_rules : ℕ
most_rules = constants.MOST_RULES

abbrev pub most_nodes : ℕ
most_nodes = constants.MOST_NODES

-- the most levels that are open, and operators in force, at a place of a statement
abbrev pub most_levels : ℕ
most_levels = constants.MOST_LEVELS

abbrev pub most_operators : ℕ
most_operators = constants.MOST_OPERATORS

-- the most bytes of a statement, and of a script
abbrev pub most_statement_bytes : ℕ
most_statement_bytes = constants.MOST_STATEMENT_BYTES

abbrev pub most_script_bytes : ℕ
most_script_bytes = constants.MOST_SCRIPT_BYTES

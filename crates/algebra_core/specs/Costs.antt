-- How many steps an expression or a test may take: a bound by numbers of rows and not of points.
--     tree_cost      of an expression, where names mean that and cost that
--     is_renewed      whether an expression names the relvar that has another value
--     cost_with      in a state in which this relvar has it
--     cost_in, test_cost      in a state in which none has
use Rattle.std.specs.Prelude.{ℕ, ◌+◌, Bool, false, List, [], ◌∷◌, map, length, Option, Some, None, Ok, Err, if◌then◌else◌}
use Rattle.std.specs.Str.{bytes_eq}
use Rattle.value_core.specs.Values.{Name, Heading, Row}
use Rattle.scalar_core.specs.Expressions.{Expr}
use Rattle.tree_core.specs.Relvars.{PlainKind, derived, of_history, stored, PlainRelvar, base, view, Entries, log}
use Rattle.tree_core.specs.Trees.{Tree, named, literal, infix_of, project, rename, restrict, extend, summarize, pack, unpack, using, heading_of, Test, relate, is_empty, is_not_empty}
use Rattle.tree_core.specs.Uses.{names_any}
use Rattle.cell_core.specs.Costs.{bound}
use Rattle.meaning_core.specs.Meanings.{Known, RowsMeant, Around, plainly, in_using, positions_of, names_at, meaning, relvar_meaning}
use Rattle.meaning_core.specs.Names.{found, each_in}
use Rattle.eval_using.specs.Cells.{cells_of_all, scalars_of}

-- what names mean, with the steps that they take
abbrev pub Priced : Type 0
Priced = RowsMeant × ℕ

abbrev pub Prices : Type 0
Prices = List (Name × Priced)

abbrev pub known_of : Prices → Known
known_of prices = map (λ p. (p.0, p.1.0)) prices

abbrev pub price_of : Prices → Name → ℕ
price_of prices name = (found (Ok [], 0) prices name).1

-- the steps that follow where there are rows; behind a fault nothing follows
abbrev pub paid : RowsMeant → (List Row → ℕ) → ℕ
paid (Ok rows) f = f rows
paid (Err e) f = 0

-- the steps of an operator over n rows: only under USING it takes some
abbrev pub operator_cost : Around → ℕ → ℕ
operator_cost plainly n = 0
operator_cost (in_using place names) n = bound n (length names)

-- the same where the rows' cells are counted
abbrev pub rule_cost : Around → Heading → List Expr → List Row → ℕ
rule_cost plainly heading scalars rows = 0
rule_cost (in_using place names) heading scalars rows = bound (cells_of_all (positions_of heading names) scalars rows) (length names)

-- the steps of the nodes that are evaluated
abbrev pub tree_cost : Prices → Around → Tree → ℕ
tree_cost prices around (named place heading name) = price_of prices name
tree_cost prices around (literal place heading tuples) = 0
tree_cost prices around (infix_of place heading word l r) =
    tree_cost prices plainly l + paid (meaning (known_of prices) plainly l) (λ a.
    tree_cost prices plainly r + paid (meaning (known_of prices) plainly r) (λ b. operator_cost around (length a + length b)))
tree_cost prices around (project place heading kept t) =
    tree_cost prices plainly t + paid (meaning (known_of prices) plainly t) (λ a. operator_cost around (length a))
tree_cost prices around (rename place heading names t) = tree_cost prices plainly t
tree_cost prices around (restrict place heading c t) =
    tree_cost prices plainly t + paid (meaning (known_of prices) plainly t) (rule_cost around (heading_of t) (c ∷ []))
tree_cost prices around (extend place heading sets t) =
    tree_cost prices plainly t + paid (meaning (known_of prices) plainly t) (rule_cost around (heading_of t) (scalars_of sets))
tree_cost prices around (summarize place heading by aggregates t) =
    tree_cost prices plainly t + paid (meaning (known_of prices) plainly t) (λ a. operator_cost around (length a))
tree_cost prices around (pack place heading commalist t) =
    tree_cost prices plainly t + paid (meaning (known_of prices) plainly t) (λ a. bound (length a) (length commalist))
tree_cost prices around (unpack place heading commalist t) =
    tree_cost prices plainly t + paid (meaning (known_of prices) plainly t) (λ a. bound (length a) (length commalist))
tree_cost prices around (using place heading commalist t) = tree_cost prices (in_using place (names_at (heading_of t) commalist)) t

-- ---- in a state

-- whether the expression names the relvar that has another value than when the rows of stored views were made
abbrev pub is_renewed : Option Name → Tree → Bool
is_renewed None t = false
is_renewed (Some with) t = names_any (λ name. bytes_eq name with) t

-- what a view takes: one whose rows are stored is evaluated only where it names that relvar
abbrev pub view_cost : Option Name → Prices → Tree → PlainKind → ℕ
view_cost with prices t derived = tree_cost prices plainly t
view_cost with prices t (of_history names) = tree_cost prices plainly t
view_cost with prices t stored = if is_renewed with t then tree_cost prices plainly t else 0

-- what a relvar's name takes: the value of a base relvar or a log stands there
abbrev pub relvar_cost : Option Name → Prices → PlainRelvar → ℕ
relvar_cost with prices (base value constraints) = 0
relvar_cost with prices (view t kind) = view_cost with prices t kind
relvar_cost with prices (log of side last value) = 0

-- what it means, and what it takes
abbrev pub priced : Option Name → Prices → PlainRelvar → Priced
priced with prices r = (relvar_meaning (known_of prices) r, relvar_cost with prices r)

-- in a state in which the named relvar has another value
abbrev pub prices_with : Option Name → Entries → Prices
prices_with with entries = each_in (priced with) entries

abbrev pub cost_with : Option Name → Entries → Tree → ℕ
cost_with with entries t = tree_cost (prices_with with entries) plainly t

-- and in one in which none has
abbrev pub prices_in : Entries → Prices
prices_in entries = prices_with None entries

abbrev pub cost_in : Entries → Tree → ℕ
cost_in entries t = cost_with None entries t

-- ---- tests

abbrev pub comparison_cost : Option (List ℕ) → ℕ → ℕ
comparison_cost None n = 0
comparison_cost (Some commalist) n = bound n (length commalist)

abbrev pub cost_of_test : Prices → Test → ℕ
cost_of_test prices (relate place word commalist l r) =
    tree_cost prices plainly l + paid (meaning (known_of prices) plainly l) (λ a.
    tree_cost prices plainly r + paid (meaning (known_of prices) plainly r) (λ b. comparison_cost commalist (length a + length b)))
cost_of_test prices (is_empty place t) = tree_cost prices plainly t
cost_of_test prices (is_not_empty place t) = tree_cost prices plainly t

abbrev pub test_cost : Entries → Test → ℕ
test_cost entries t = cost_of_test (prices_in entries) t

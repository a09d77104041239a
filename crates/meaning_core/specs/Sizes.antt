-- How many nodes expressions and views have.
--     nodes      of an expression
--     weight      of all views together
use Rattle.std.specs.Prelude.{ℕ, ◌+◌, [], ◌∷◌}
use Rattle.tree_core.specs.Relvars.{PlainRelvar, base, view, Entries, log}
use Rattle.tree_core.specs.Trees.{Tree, named, literal, infix_of, project, rename, restrict, extend, summarize, pack, unpack, using}

-- how many nodes the expression has
abbrev pub nodes : Tree → ℕ
nodes (named place h name) = 1
nodes (literal place h tuples) = 1
nodes (infix_of place h word l r) = nodes l + nodes r + 1
nodes (project place h kept t) = nodes t + 1
nodes (rename place h names t) = nodes t + 1
nodes (restrict place h c t) = nodes t + 1
nodes (extend place h sets t) = nodes t + 1
nodes (summarize place h by aggregates t) = nodes t + 1
nodes (pack place h commalist t) = nodes t + 1
nodes (unpack place h commalist t) = nodes t + 1
nodes (using place h commalist t) = nodes t + 1

abbrev pub relvar_nodes : PlainRelvar → ℕ
relvar_nodes (base value constraints) = 0
relvar_nodes (view t kind) = nodes t
relvar_nodes (log of side last value) = 0

-- how many nodes the views have together
abbrev pub weight : Entries → ℕ
weight [] = 0
weight (r ∷ rest) = relvar_nodes r.1 + weight rest

-- How many nodes an expression has, those of the views that it names counted in.
--     nodes_of entries tree      where these are the relvars and views
--     test_nodes entries test      of the expressions of a test together
--     capped_count      what a name counts for, as far as it is counted
use Rattle.std.specs.Prelude.{ℕ, ◌+◌, min, List}
use Rattle.value_core.specs.Limits.{most_nodes}
use Rattle.value_core.specs.Values.{Name}
use Rattle.tree_core.specs.Relvars.{PlainRelvar, base, view, Entries, log}
use Rattle.tree_core.specs.Trees.{Tree, named, literal, infix_of, project, rename, restrict, extend, summarize, pack, unpack, using, Test, relate, is_empty, is_not_empty}
use Rattle.meaning_core.specs.Names.{found, each_in}

-- the nodes of an expression, where it is known how many a name counts for
abbrev pub count : List (Name × ℕ) → Tree → ℕ
count known (named place h name) = found 1 known name
count known (literal place h tuples) = 1
count known (infix_of place h word l r) = count known l + count known r + 1
count known (project place h kept t) = count known t + 1
count known (rename place h names t) = count known t + 1
count known (restrict place h c t) = count known t + 1
count known (extend place h sets t) = count known t + 1
count known (summarize place h by aggregates t) = count known t + 1
count known (pack place h commalist t) = count known t + 1
count known (unpack place h commalist t) = count known t + 1
count known (using place h commalist t) = count known t + 1

-- the name of a relvar or a log counts for one node, and a view's name for as many as its expression has
abbrev pub relvar_count : List (Name × ℕ) → PlainRelvar → ℕ
relvar_count known (base value constraints) = 1
relvar_count known (view t kind) = count known t
relvar_count known (log of side last value) = 1

abbrev pub nodes_of : Entries → Tree → ℕ
nodes_of entries t = count (each_in relvar_count entries) t

-- ---- tests

-- how many nodes the expressions of a test have together, where it is known how many a name counts for
abbrev pub test_count : List (Name × ℕ) → Test → ℕ
test_count known (relate place word commalist l r) = count known l + count known r
test_count known (is_empty place t) = count known t
test_count known (is_not_empty place t) = count known t

abbrev pub test_nodes : Entries → Test → ℕ
test_nodes entries t = test_count (each_in relvar_count entries) t

-- ---- the same, as far as it is counted

-- the number, or one more than the most where it is greater
abbrev pub capped : ℕ → ℕ
capped n = min n (most_nodes + 1)

abbrev pub capped_count : List (Name × ℕ) → PlainRelvar → ℕ
capped_count known r = capped (relvar_count known r)

-- Typed trees with their places moved: each place is mapped, and all else stays.
--     moved_expr, moved_sets      of expressions over rows, and of the items of a node
--     moved_aggregate_form, moved_aggregate      of aggregates
--     moved_tree, moved_test      of relational expressions and tests
--     moved_around      of what surrounds an operator
--     moved_relvar, moved_entry, moved_rule      of what a state has: a view's expression, and a database constraint's test
use Rattle.std.specs.Prelude.{map}
use Rattle.point_core.specs.declared.fault.Place.{Place}
use Rattle.value_core.specs.Values.{Name}
use Rattle.scalar_core.specs.Expressions.{Expr, constant, attribute, one, pair, and_expr, or_expr}
use Rattle.tree_core.specs.Trees.{PlainSets, PlainAggregateForm, count_rows, sum_of, min_of, max_of, PlainAggregate, Tree, named, literal, infix_of, project, rename, restrict, extend, summarize, pack, unpack, using, Test, relate, is_empty, is_not_empty}
use Rattle.tree_core.specs.Relvars.{PlainRelvar, base, view, log}
use Rattle.meaning_core.specs.Meanings.{Around, plainly, in_using}

module _ (f : Place → Place) where
  -- ---- expressions over rows

  abbrev pub moved_expr : Expr → Expr
  moved_expr (constant place kind v) = constant (f place) kind v
  moved_expr (attribute place i) = attribute (f place) i
  moved_expr (one op place e) = one op (f place) (moved_expr e)
  moved_expr (pair op place l r) = pair op (f place) (moved_expr l) (moved_expr r)
  moved_expr (and_expr place l r) = and_expr (f place) (moved_expr l) (moved_expr r)
  moved_expr (or_expr place l r) = or_expr (f place) (moved_expr l) (moved_expr r)

  abbrev pub moved_set : Name × Expr → Name × Expr
  moved_set s = (s.0, moved_expr s.1)

  abbrev pub moved_sets : PlainSets → PlainSets
  moved_sets sets = map moved_set sets

  abbrev pub moved_aggregate_form : PlainAggregateForm → PlainAggregateForm
  moved_aggregate_form count_rows = count_rows
  moved_aggregate_form (sum_of e) = sum_of (moved_expr e)
  moved_aggregate_form (min_of e) = min_of (moved_expr e)
  moved_aggregate_form (max_of e) = max_of (moved_expr e)

  abbrev pub moved_aggregate : PlainAggregate → PlainAggregate
  moved_aggregate a = record { name = a.name; place = f a.place; form = moved_aggregate_form a.form }

  -- ---- relational expressions and tests

  abbrev pub moved_tree : Tree → Tree
  moved_tree (named place h name) = named (f place) h name
  moved_tree (literal place h tuples) = literal (f place) h (map moved_sets tuples)
  moved_tree (infix_of place h word l r) = infix_of (f place) h word (moved_tree l) (moved_tree r)
  moved_tree (project place h kept t) = project (f place) h kept (moved_tree t)
  moved_tree (rename place h names t) = rename (f place) h names (moved_tree t)
  moved_tree (restrict place h c t) = restrict (f place) h (moved_expr c) (moved_tree t)
  moved_tree (extend place h sets t) = extend (f place) h (moved_sets sets) (moved_tree t)
  moved_tree (summarize place h by aggregates t) = summarize (f place) h by (map moved_aggregate aggregates) (moved_tree t)
  moved_tree (pack place h commalist t) = pack (f place) h commalist (moved_tree t)
  moved_tree (unpack place h commalist t) = unpack (f place) h commalist (moved_tree t)
  moved_tree (using place h commalist t) = using (f place) h commalist (moved_tree t)

  abbrev pub moved_test : Test → Test
  moved_test (relate place word commalist l r) = relate (f place) word commalist (moved_tree l) (moved_tree r)
  moved_test (is_empty place t) = is_empty (f place) (moved_tree t)
  moved_test (is_not_empty place t) = is_not_empty (f place) (moved_tree t)

  abbrev pub moved_around : Around → Around
  moved_around plainly = plainly
  moved_around (in_using place names) = in_using (f place) names

  -- ---- what a state has

  abbrev pub moved_relvar : PlainRelvar → PlainRelvar
  moved_relvar (base value constraints) = base value constraints
  moved_relvar (view t kind) = view (moved_tree t) kind
  moved_relvar (log of side last value) = log of side last value

  abbrev pub moved_entry : Name × PlainRelvar → Name × PlainRelvar
  moved_entry e = (e.0, moved_relvar e.1)

  abbrev pub moved_rule : Name × Test → Name × Test
  moved_rule r = (r.0, moved_test r.1)

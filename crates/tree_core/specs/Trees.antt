-- Relational expressions and tests as plain data, without pointers.
--     Tree, Test      what trees and tests are read as. Each node has its place and its heading; attributes that a node reads are
--                     positions in the heading of its part
--     read_tree, read_test      how they are read
use Rattle.std.specs.Prelude.{ℕ, List, map, Option}
use Rattle.point_core.specs.declared.fault.Place.{Place}
use Rattle.value_core.specs.Values.{Name, Heading}
use Rattle.scalar_core.specs.declared.tree.Scalar.{Scalar}
use Rattle.scalar_core.specs.Expressions.{Expr, read, read_form as read_scalar}
use Rattle.tree_core.specs.declared.tree.InfixWord.{InfixWord}
use Rattle.tree_core.specs.declared.tree.AggregateForm.{AggregateForm}
use Rattle.tree_core.specs.declared.tree.AggregateForm.TheVariants.{Count, Sum, Min, Max}
use Rattle.tree_core.specs.declared.tree.Aggregate.{Aggregate}
use Rattle.tree_core.specs.declared.tree.RelTree.{RelTree}
use Rattle.tree_core.specs.declared.tree.RelForm.{RelForm, Named, Literal, Infix', Project', Rename', Restrict', Extend', Summarize', Pack', Unpack', Using'}
use Rattle.tree_core.specs.declared.test.RelateWord.{RelateWord}
use Rattle.tree_core.specs.declared.test.RelTest.{RelTest}
use Rattle.tree_core.specs.declared.test.TestForm.{TestForm}
use Rattle.tree_core.specs.declared.test.TestForm.TheVariants.{Relate, IsEmpty, IsNotEmpty}

-- names and what each is made of, in the order of the text
abbrev pub PlainSets : Type 0
PlainSets = List (Name × Expr)

-- what an aggregate counts: rows, or the values of an expression
pub data PlainAggregateForm : Type 0 where
  count_rows : PlainAggregateForm
  sum_of : Expr → PlainAggregateForm
  min_of : Expr → PlainAggregateForm
  max_of : Expr → PlainAggregateForm

pub record PlainAggregate : Type 0 where
  pub name : Name
  pub place : Place
  pub form : PlainAggregateForm

pub data Tree : Type 0 where
  named : Place → Heading → Name → Tree
  literal : Place → Heading → List PlainSets → Tree
  infix_of : Place → Heading → InfixWord → Tree → Tree → Tree
  project : Place → Heading → List ℕ → Tree → Tree
  rename : Place → Heading → List Name → Tree → Tree
  restrict : Place → Heading → Expr → Tree → Tree
  extend : Place → Heading → PlainSets → Tree → Tree
  summarize : Place → Heading → List ℕ → List PlainAggregate → Tree → Tree
  pack : Place → Heading → List ℕ → Tree → Tree
  unpack : Place → Heading → List ℕ → Tree → Tree
  using : Place → Heading → List ℕ → Tree → Tree

abbrev pub heading_of : Tree → Heading
heading_of (named place heading name) = heading
heading_of (literal place heading tuples) = heading
heading_of (infix_of place heading word l r) = heading
heading_of (project place heading kept t) = heading
heading_of (rename place heading names t) = heading
heading_of (restrict place heading c t) = heading
heading_of (extend place heading sets t) = heading
heading_of (summarize place heading by aggregates t) = heading
heading_of (pack place heading commalist t) = heading
heading_of (unpack place heading commalist t) = heading
heading_of (using place heading commalist t) = heading

-- a test: two relations compared, perhaps by their unpacked rows, or whether one is empty
pub data Test : Type 0 where
  relate : Place → RelateWord → Option (List ℕ) → Tree → Tree → Test
  is_empty : Place → Tree → Test
  is_not_empty : Place → Tree → Test

-- ---- reading

abbrev pub read_set : Name × Scalar → Name × Expr
read_set s = (s.0, read s.1)

abbrev pub read_sets : List (Name × Scalar) → PlainSets
read_sets sets = map read_set sets

abbrev pub read_aggregate_form : AggregateForm → PlainAggregateForm
read_aggregate_form Count = count_rows
read_aggregate_form (Sum e) = sum_of (read e)
read_aggregate_form (Min e) = min_of (read e)
read_aggregate_form (Max e) = max_of (read e)

abbrev pub read_aggregate : Aggregate → PlainAggregate
read_aggregate a = record { name = a.name; place = a.place; form = read_aggregate_form a.form }

-- the tree of a form at a place, with its heading
abbrev pub read_form : Place → Heading → RelForm → Tree
read_form at h (Named name) = named at h name
read_form at h (Literal tuples) = literal at h (map read_sets tuples)
read_form at h (Infix' word p place heading form q other_place other_heading other_form) =
    infix_of at h word (read_form place heading form) (read_form other_place other_heading other_form)
read_form at h (Project' kept p place heading form) = project at h kept (read_form place heading form)
read_form at h (Rename' names p place heading form) = rename at h names (read_form place heading form)
read_form at h (Restrict' c p place heading form) = restrict at h (read c) (read_form place heading form)
read_form at h (Extend' sets p place heading form) = extend at h (read_sets sets) (read_form place heading form)
read_form at h (Summarize' by aggregates p place heading form) =
    summarize at h by (map read_aggregate aggregates) (read_form place heading form)
read_form at h (Pack' commalist p place heading form) = pack at h commalist (read_form place heading form)
read_form at h (Unpack' commalist p place heading form) = unpack at h commalist (read_form place heading form)
read_form at h (Using' commalist p place heading form) = using at h commalist (read_form place heading form)

abbrev pub read_tree : RelTree → Tree
read_tree t = read_form t.place t.heading t.form

abbrev pub read_test_form : Place → TestForm → Test
read_test_form at (Relate word commalist l r) = relate at word commalist (read_tree l) (read_tree r)
read_test_form at (IsEmpty t) = is_empty at (read_tree t)
read_test_form at (IsNotEmpty t) = is_not_empty at (read_tree t)

abbrev pub read_test : RelTest → Test
read_test t = read_test_form t.place t.form

-- What does not change where places are moved, and how moves are put together.
--     heading-moved, names-moved, test-names-moved      the heading of an expression, and what it names
--     expr-same .. rule-same      a move that leaves each place where it is
--     expr-twice .. entry-twice      two moves one after the other
use Rattle.std.proofs.Common.{◌≡◌, Bool, List, [], ◌∷◌, map, refl, ap, ap₂}
use Rattle.std.specs.Prelude.{◌||◌}
use Rattle.point_core.specs.declared.fault.Place.{Place}
use Rattle.value_core.specs.Values.{Name}
use Rattle.scalar_core.specs.Expressions.{Expr, constant, attribute, one, pair, and_expr, or_expr}
use Rattle.tree_core.specs.Relvars.{PlainRelvar, base, view, relvar_heading, log}
use Rattle.tree_core.specs.Trees.{PlainSets, PlainAggregateForm, count_rows, sum_of, min_of, max_of, PlainAggregate, Tree, named, literal, infix_of, project, rename, restrict, extend, summarize, pack, unpack, using, heading_of, Test, relate, is_empty, is_not_empty}
use Rattle.tree_core.specs.Uses.{names_any, test_names_any}
use Rattle.meaning_laws.specs.Moved.{moved_expr, moved_set, moved_sets, moved_aggregate_form, moved_aggregate, moved_tree, moved_test, moved_relvar, moved_entry, moved_rule}

-- ---- what stays

module _ (f : Place → Place) where
  pub heading-moved : (t : Tree) → heading_of (moved_tree f t) ≡ heading_of t
  heading-moved (named place h name) = refl
  heading-moved (literal place h tuples) = refl
  heading-moved (infix_of place h word l r) = refl
  heading-moved (project place h kept t) = refl
  heading-moved (rename place h names t) = refl
  heading-moved (restrict place h c t) = refl
  heading-moved (extend place h sets t) = refl
  heading-moved (summarize place h by aggregates t) = refl
  heading-moved (pack place h commalist t) = refl
  heading-moved (unpack place h commalist t) = refl
  heading-moved (using place h commalist t) = refl

  pub relvar-heading-moved : (r : PlainRelvar) → relvar_heading (moved_relvar f r) ≡ relvar_heading r
  relvar-heading-moved (base value constraints) = refl
  relvar-heading-moved (view t kind) = heading-moved t
  relvar-heading-moved (log of side last value) = refl

  module _ (some : Name → Bool) where
    pub names-moved : (t : Tree) → names_any some (moved_tree f t) ≡ names_any some t
    names-moved (named place h name) = refl
    names-moved (literal place h tuples) = refl
    names-moved (infix_of place h word l r) = λ i. names-moved l i || names-moved r i
    names-moved (project place h kept t) = names-moved t
    names-moved (rename place h names t) = names-moved t
    names-moved (restrict place h c t) = names-moved t
    names-moved (extend place h sets t) = names-moved t
    names-moved (summarize place h by aggregates t) = names-moved t
    names-moved (pack place h commalist t) = names-moved t
    names-moved (unpack place h commalist t) = names-moved t
    names-moved (using place h commalist t) = names-moved t

    pub test-names-moved : (t : Test) → test_names_any some (moved_test f t) ≡ test_names_any some t
    test-names-moved (relate place word commalist l r) = λ i. names-moved l i || names-moved r i
    test-names-moved (is_empty place t) = names-moved t
    test-names-moved (is_not_empty place t) = names-moved t

-- ---- lists

map-same : {X : Type 0} (g : X → X) → ((x : X) → g x ≡ x) → (xs : List X) → map g xs ≡ xs
map-same g same [] = refl
map-same g same (x ∷ xs) = λ i. same x i ∷ map-same g same xs i

map-twice : {X : Type 0} (g h k : X → X) → ((x : X) → g (h x) ≡ k x) → (xs : List X) → map g (map h xs) ≡ map k xs
map-twice g h k twice [] = refl
map-twice g h k twice (x ∷ xs) = λ i. twice x i ∷ map-twice g h k twice xs i

-- ---- each place stays where it is

abbrev stay : Place → Place
stay p = p

pub expr-same : (e : Expr) → moved_expr (λ p. p) e ≡ e
expr-same (constant place kind v) = refl
expr-same (attribute place i) = refl
expr-same (one op place e) = ap (one op place) (expr-same e)
expr-same (pair op place l r) = ap₂ (pair op place) (expr-same l) (expr-same r)
expr-same (and_expr place l r) = ap₂ (and_expr place) (expr-same l) (expr-same r)
expr-same (or_expr place l r) = ap₂ (or_expr place) (expr-same l) (expr-same r)

pub sets-same : (sets : PlainSets) → moved_sets (λ p. p) sets ≡ sets
sets-same sets = map-same (moved_set stay) (λ s i. (s.0, expr-same s.1 i)) sets

pub form-same : (form : PlainAggregateForm) → moved_aggregate_form (λ p. p) form ≡ form
form-same count_rows = refl
form-same (sum_of e) = ap sum_of (expr-same e)
form-same (min_of e) = ap min_of (expr-same e)
form-same (max_of e) = ap max_of (expr-same e)

pub aggregate-same : (a : PlainAggregate) → moved_aggregate (λ p. p) a ≡ a
aggregate-same a = λ i. record { name = a.name; place = a.place; form = form-same a.form i }

pub aggregates-same : (aggregates : List PlainAggregate) → map (moved_aggregate (λ p. p)) aggregates ≡ aggregates
aggregates-same aggregates = map-same (moved_aggregate stay) aggregate-same aggregates

pub tree-same : (t : Tree) → moved_tree (λ p. p) t ≡ t
tree-same (named place h name) = refl
tree-same (literal place h tuples) = ap (literal place h) (map-same (moved_sets stay) sets-same tuples)
tree-same (infix_of place h word l r) = ap₂ (infix_of place h word) (tree-same l) (tree-same r)
tree-same (project place h kept t) = ap (project place h kept) (tree-same t)
tree-same (rename place h names t) = ap (rename place h names) (tree-same t)
tree-same (restrict place h c t) = ap₂ (restrict place h) (expr-same c) (tree-same t)
tree-same (extend place h sets t) = ap₂ (extend place h) (sets-same sets) (tree-same t)
tree-same (summarize place h by aggregates t) = ap₂ (summarize place h by) (aggregates-same aggregates) (tree-same t)
tree-same (pack place h commalist t) = ap (pack place h commalist) (tree-same t)
tree-same (unpack place h commalist t) = ap (unpack place h commalist) (tree-same t)
tree-same (using place h commalist t) = ap (using place h commalist) (tree-same t)

pub test-same : (t : Test) → moved_test (λ p. p) t ≡ t
test-same (relate place word commalist l r) = ap₂ (relate place word commalist) (tree-same l) (tree-same r)
test-same (is_empty place t) = ap (is_empty place) (tree-same t)
test-same (is_not_empty place t) = ap (is_not_empty place) (tree-same t)

pub relvar-same : (r : PlainRelvar) → moved_relvar (λ p. p) r ≡ r
relvar-same (base value constraints) = refl
relvar-same (view t kind) = ap (λ (u : Tree). view u kind) (tree-same t)
relvar-same (log of side last value) = refl

pub entry-same : (e : Name × PlainRelvar) → moved_entry (λ p. p) e ≡ e
entry-same e = λ i. (e.0, relvar-same e.1 i)

pub rule-same : (r : Name × Test) → moved_rule (λ p. p) r ≡ r
rule-same r = λ i. (r.0, test-same r.1 i)

-- ---- two moves are one

module _ (g f : Place → Place) where
  abbrev composed : Place → Place
  composed p = g (f p)

  pub expr-twice : (e : Expr) → moved_expr g (moved_expr f e) ≡ moved_expr (λ p. g (f p)) e
  expr-twice (constant place kind v) = refl
  expr-twice (attribute place i) = refl
  expr-twice (one op place e) = ap (one op (g (f place))) (expr-twice e)
  expr-twice (pair op place l r) = ap₂ (pair op (g (f place))) (expr-twice l) (expr-twice r)
  expr-twice (and_expr place l r) = ap₂ (and_expr (g (f place))) (expr-twice l) (expr-twice r)
  expr-twice (or_expr place l r) = ap₂ (or_expr (g (f place))) (expr-twice l) (expr-twice r)

  pub sets-twice : (sets : PlainSets) → moved_sets g (moved_sets f sets) ≡ moved_sets (λ p. g (f p)) sets
  sets-twice sets = map-twice (moved_set g) (moved_set f) (moved_set composed) (λ s i. (s.0, expr-twice s.1 i)) sets

  pub form-twice : (form : PlainAggregateForm) → moved_aggregate_form g (moved_aggregate_form f form) ≡ moved_aggregate_form (λ p. g (f p)) form
  form-twice count_rows = refl
  form-twice (sum_of e) = ap sum_of (expr-twice e)
  form-twice (min_of e) = ap min_of (expr-twice e)
  form-twice (max_of e) = ap max_of (expr-twice e)

  pub aggregate-twice : (a : PlainAggregate) → moved_aggregate g (moved_aggregate f a) ≡ moved_aggregate (λ p. g (f p)) a
  aggregate-twice a = λ i. record { name = a.name; place = g (f a.place); form = form-twice a.form i }

  pub aggregates-twice : (aggregates : List PlainAggregate) → map (moved_aggregate g) (map (moved_aggregate f) aggregates) ≡ map (moved_aggregate (λ p. g (f p))) aggregates
  aggregates-twice aggregates = map-twice (moved_aggregate g) (moved_aggregate f) (moved_aggregate composed) aggregate-twice aggregates

  pub tree-twice : (t : Tree) → moved_tree g (moved_tree f t) ≡ moved_tree (λ p. g (f p)) t
  tree-twice (named place h name) = refl
  tree-twice (literal place h tuples) = ap (literal (g (f place)) h) (map-twice (moved_sets g) (moved_sets f) (moved_sets composed) sets-twice tuples)
  tree-twice (infix_of place h word l r) = ap₂ (infix_of (g (f place)) h word) (tree-twice l) (tree-twice r)
  tree-twice (project place h kept t) = ap (project (g (f place)) h kept) (tree-twice t)
  tree-twice (rename place h names t) = ap (rename (g (f place)) h names) (tree-twice t)
  tree-twice (restrict place h c t) = ap₂ (restrict (g (f place)) h) (expr-twice c) (tree-twice t)
  tree-twice (extend place h sets t) = ap₂ (extend (g (f place)) h) (sets-twice sets) (tree-twice t)
  tree-twice (summarize place h by aggregates t) = ap₂ (summarize (g (f place)) h by) (aggregates-twice aggregates) (tree-twice t)
  tree-twice (pack place h commalist t) = ap (pack (g (f place)) h commalist) (tree-twice t)
  tree-twice (unpack place h commalist t) = ap (unpack (g (f place)) h commalist) (tree-twice t)
  tree-twice (using place h commalist t) = ap (using (g (f place)) h commalist) (tree-twice t)

  pub test-twice : (t : Test) → moved_test g (moved_test f t) ≡ moved_test (λ p. g (f p)) t
  test-twice (relate place word commalist l r) = ap₂ (relate (g (f place)) word commalist) (tree-twice l) (tree-twice r)
  test-twice (is_empty place t) = ap (is_empty (g (f place))) (tree-twice t)
  test-twice (is_not_empty place t) = ap (is_not_empty (g (f place))) (tree-twice t)

  pub relvar-twice : (r : PlainRelvar) → moved_relvar g (moved_relvar f r) ≡ moved_relvar (λ p. g (f p)) r
  relvar-twice (base value constraints) = refl
  relvar-twice (view t kind) = ap (λ (u : Tree). view u kind) (tree-twice t)
  relvar-twice (log of side last value) = refl

  pub entry-twice : (e : Name × PlainRelvar) → moved_entry g (moved_entry f e) ≡ moved_entry (λ p. g (f p)) e
  entry-twice e = λ i. (e.0, relvar-twice e.1 i)

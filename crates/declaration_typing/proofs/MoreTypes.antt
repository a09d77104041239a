-- What is typed stays typed where ordinal types are added behind those there are.
use Rattle.std.specs.Prelude.{ℕ, zero, suc, ◌&&◌, List, [], ◌∷◌, ◌++◌, IsTrue, refl}
use Rattle.std.proofs.Common.{sym}
use Rattle.std.specs.List.{list_all}
use Rattle.std.proofs.lemmas.Bool.{and_parts, and_from, true≢false}
use Rattle.point_core.specs.declared.any_type.AnyType.{AnyType}
use Rattle.point_core.specs.declared.any_type.AnyType.TheVariants.{Integer, Date, Ordinal, Moment}
use Rattle.value_core.specs.declared.kind.Kind.{Kind}
use Rattle.value_core.specs.declared.kind.Kind.TheVariants.{Truth, Char, Point, Span}
use Rattle.value_core.specs.Values.{Heading, is_heading}
use Rattle.scalar_core.specs.Expressions.{Expr, constant, attribute, one, pair, and_expr, or_expr}
use Rattle.tree_core.specs.Relvars.{PlainRelvar, base, view, Entries, log}
use Rattle.tree_core.specs.Trees.{PlainSets, PlainAggregateForm, count_rows, sum_of, min_of, max_of, PlainAggregate, Tree, named, literal, infix_of, project, rename, restrict, extend, summarize, pack, unpack, using, Test, relate, is_empty, is_not_empty}
use Rattle.meaning_core.specs.Typing.{is_ordinal, is_type, is_kind, is_declared, has_declared, IsScalar, Makes, HasKind, Sums, IsTuple, Headings, IsTypedTree, IsTypedTest}
use Rattle.meaning_core.specs.WellMade.{headings_of, IsRelvar, AreRelvars}

module _ (sizes more : List ℕ) where
  ordinal-more : (of last : ℕ) → IsTrue (is_ordinal sizes of last) → IsTrue (is_ordinal (sizes ++ more) of last)
  ordinal-more of last h = among sizes of h
    where
      among : (ns : List ℕ) (i : ℕ) → IsTrue (is_ordinal ns i last) → IsTrue (is_ordinal (ns ++ more) i last)
      among [] i h = absurd (true≢false (sym h))
      among (n ∷ ns) zero h = h
      among (n ∷ ns) (suc i) h = among ns i h

  type-more : (t : AnyType) → IsTrue (is_type sizes t) → IsTrue (is_type (sizes ++ more) t)
  type-more Integer h = refl
  type-more Date h = refl
  type-more (Ordinal of last) h = ordinal-more of last h
  type-more Moment h = refl

  kind-more : (k : Kind) → IsTrue (is_kind sizes k) → IsTrue (is_kind (sizes ++ more) k)
  kind-more Truth h = refl
  kind-more Char h = refl
  kind-more (Point t) h = type-more t h
  kind-more (Span t) h = type-more t h

  kinds-more : (h : Heading) → IsTrue (list_all (λ a. is_kind sizes a.1) h) → IsTrue (list_all (λ a. is_kind (sizes ++ more) a.1) h)
  kinds-more [] all = refl
  kinds-more (a ∷ h) all =
      let parts = and_parts (is_kind sizes a.1) (list_all (λ b. is_kind sizes b.1) h) all in
      and_from (is_kind (sizes ++ more) a.1) (list_all (λ b. is_kind (sizes ++ more) b.1) h) (kind-more a.1 parts.0) (kinds-more h parts.1)

  declared-more : (h : Heading) → IsTrue (is_declared sizes h) → IsTrue (is_declared (sizes ++ more) h)
  declared-more h declared =
      let parts = and_parts (is_heading h) (list_all (λ a. is_kind sizes a.1) h) declared in
      and_from (is_heading h) (list_all (λ a. is_kind (sizes ++ more) a.1) h) parts.0 (kinds-more h parts.1)

  -- ---- expressions over rows

  both-more : (l r : Expr) → (IsTrue (has_declared sizes l) → IsTrue (has_declared (sizes ++ more) l)) → (IsTrue (has_declared sizes r) → IsTrue (has_declared (sizes ++ more) r))
      → IsTrue (has_declared sizes l && has_declared sizes r) → IsTrue (has_declared (sizes ++ more) l && has_declared (sizes ++ more) r)
  both-more l r f g h =
      let parts = and_parts (has_declared sizes l) (has_declared sizes r) h in
      and_from (has_declared (sizes ++ more) l) (has_declared (sizes ++ more) r) (f parts.0) (g parts.1)

  expr-more : (e : Expr) → IsTrue (has_declared sizes e) → IsTrue (has_declared (sizes ++ more) e)
  expr-more (constant place kind v) h = kind-more kind h
  expr-more (attribute place i) h = refl
  expr-more (one op place e) h = expr-more e h
  expr-more (pair op place l r) h = both-more l r (expr-more l) (expr-more r) h
  expr-more (and_expr place l r) h = both-more l r (expr-more l) (expr-more r) h
  expr-more (or_expr place l r) h = both-more l r (expr-more l) (expr-more r) h

  scalar-more : (from : Heading) (e : Expr) (k : Kind) → IsScalar sizes from e k → IsScalar (sizes ++ more) from e k
  scalar-more from e k h = record { declared = expr-more e h.declared; typed = h.typed }

  makes-more : (from : Heading) (sets : PlainSets) (made : Heading) → Makes sizes from sets made → Makes (sizes ++ more) from sets made
  makes-more from [] [] h = tt
  makes-more from [] (a ∷ made) h = absurd h
  makes-more from (s ∷ sets) [] h = absurd h
  makes-more from (s ∷ sets) (a ∷ made) h = (h.0, scalar-more from s.1 a.1 h.1, makes-more from sets made h.2)

  form-more : (from : Heading) (form : PlainAggregateForm) (k : Kind) → HasKind sizes from form k → HasKind (sizes ++ more) from form k
  form-more from count_rows k h = h
  form-more from (sum_of e) k h = (scalar-more from e k h.0, h.1)
  form-more from (min_of e) k h = (scalar-more from e k h.0, h.1)
  form-more from (max_of e) k h = (scalar-more from e k h.0, h.1)

  sums-more : (from : Heading) (aggregates : List PlainAggregate) (made : Heading) → Sums sizes from aggregates made → Sums (sizes ++ more) from aggregates made
  sums-more from [] [] h = tt
  sums-more from [] (a ∷ made) h = absurd h
  sums-more from (g ∷ aggregates) [] h = absurd h
  sums-more from (g ∷ aggregates) (a ∷ made) h = (h.0, form-more from g.form a.1 h.1, sums-more from aggregates made h.2)

  -- ---- relational expressions

  tuple-more : (h : Heading) (tuple : PlainSets) → IsTuple sizes h tuple → IsTuple (sizes ++ more) h tuple
  tuple-more h tuple is = record { made = is.made; makes = makes-more [] tuple is.made is.makes; headed = is.headed }

  tree-more : (headings : Headings) (t : Tree) → IsTypedTree sizes headings t → IsTypedTree (sizes ++ more) headings t
  tree-more headings (named place h name) is = is
  tree-more headings (literal place h tuples) is = (declared-more h is.0, λ k d l. tuple-more h _ (is.1 k d l))
  tree-more headings (infix_of place h word l r) is = (tree-more headings l is.0, tree-more headings r is.1, is.2)
  tree-more headings (project place h kept t) is = (tree-more headings t is.0, is.1)
  tree-more headings (rename place h names t) is = (tree-more headings t is.0, is.1)
  tree-more headings (restrict place h c t) is =
      (tree-more headings t is.0, record { condition = scalar-more _ c Truth is.1.condition; headed = is.1.headed })
  tree-more headings (extend place h sets t) is =
      (tree-more headings t is.0, record { made = is.1.made; makes = makes-more _ sets is.1.made is.1.makes; headed = is.1.headed })
  tree-more headings (summarize place h by aggregates t) is =
      (tree-more headings t is.0, record { positions = is.1.positions; made = is.1.made; makes = sums-more _ aggregates is.1.made is.1.makes; headed = is.1.headed })
  tree-more headings (pack place h commalist t) is = (tree-more headings t is.0, is.1, is.2)
  tree-more headings (unpack place h commalist t) is = (tree-more headings t is.0, is.1, is.2)
  tree-more headings (using place h commalist t) is = (tree-more headings t is.0, is.1, is.2, is.3)

  pub test-more : (headings : Headings) (t : Test) → IsTypedTest sizes headings t → IsTypedTest (sizes ++ more) headings t
  test-more headings (relate place word commalist l r) is = (tree-more headings l is.0, tree-more headings r is.1, is.2, is.3)
  test-more headings (is_empty place t) is = tree-more headings t is
  test-more headings (is_not_empty place t) is = tree-more headings t is

  -- ---- relvars and views

  relvar-more : (before : Entries) (own : _) (r : PlainRelvar) → IsRelvar sizes before own r → IsRelvar (sizes ++ more) before own r
  relvar-more before own (base value constraints) is = (declared-more value.heading is.0, is.1)
  relvar-more before own (view t kind) is = (tree-more (headings_of before) t is.0, is.1)
  relvar-more before own (log of side last w) is = (declared-more w.heading is.0, is.1)

  pub relvars-more : (before entries : Entries) → AreRelvars sizes before entries → AreRelvars (sizes ++ more) before entries
  relvars-more before [] all = tt
  relvars-more before (r ∷ rest) all = (relvar-more before r.0 r.1 all.0, relvars-more (before ++ r ∷ []) rest all.1)

-- An expression or a test that is typed is typed at other places too.
--     typed-moved, test-typed-moved      the law
--     scalar-moved      of expressions over rows
--     has_declared-moved, expr-names-moved, swept-moved      what is asked of these
--     listed-moved, unswept-moved      places in these
--     makes-moved, tuple-moved, sums-moved      of items, tuples and aggregates
use Rattle.std.proofs.Common.{◌≡◌, ℕ, Bool, true, false, not, cond, List, [], ◌∷◌, ◌++◌, map, get_or, refl, sym, ap, ap₂, ◌∙◌, subst, Option, Some, None, IsTrue}
use Rattle.std.specs.Prelude.{◌&&◌, ◌||◌, is_none}
use Rattle.std.specs.List.{list_any, list_all}
use Rattle.std.specs.Str.{bytes_eq}
use Rattle.std.proofs.lemmas.List.{map-append}
use Rattle.std.proofs.lemmas.List.Elements.{All-map}
use Rattle.point_core.specs.declared.fault.Place.{Place}
use Rattle.value_core.specs.Attributes.{among}
use Rattle.value_core.specs.Values.{Name, Heading}
use Rattle.value_core.specs.declared.kind.Kind.{Kind}
use Rattle.scalar_core.specs.declared.operators.OneOp.{OneOp}
use Rattle.scalar_core.specs.declared.operators.OneOp.TheVariants.{BeginOf, EndOf}
use Rattle.scalar_core.specs.declared.operators.PairOp.{PairOp}
use Rattle.scalar_core.specs.Expressions.{Expr, constant, attribute, one, pair, and_expr, or_expr}
use Rattle.scalar_core.specs.Kinds.{IsTyped}
use Rattle.scalar_core.specs.Sweeping.{names_any as expr_names_any, attribute_of, end_attribute, swept_attribute, is_swept_by, is_comparison, is_atom, first_place, unswept}
use Rattle.tree_core.specs.Trees.{PlainSets, PlainAggregateForm, count_rows, sum_of, min_of, max_of, PlainAggregate, Tree, named, literal, infix_of, project, rename, restrict, extend, summarize, pack, unpack, using, heading_of, Test, relate, is_empty, is_not_empty}
use Rattle.meaning_core.specs.Meanings.{positions_of, names_at}
use Rattle.meaning_core.specs.Typing.{has_declared, IsScalar, Makes, HasKind, Sums, IsTuple, IsInfix, IsProjection, IsRenaming, IsRestriction, IsExtension, IsSummary, are_in, is_swept, names_none, is_part, Headings, IsListIf, IsTypedTree, IsTypedTest}
use Rattle.meaning_laws.specs.Moved.{moved_expr, moved_sets, moved_aggregate_form, moved_aggregate, moved_tree, moved_test}
use Rattle.meaning_laws.proofs.SameMoved.{heading-moved}

module _ (f : Place → Place) where
  -- ---- what is asked of expressions over rows

  pub has_declared-moved : (sizes : List ℕ) (e : Expr) → has_declared sizes (moved_expr f e) ≡ has_declared sizes e
  has_declared-moved sizes (constant place kind v) = refl
  has_declared-moved sizes (attribute place i) = refl
  has_declared-moved sizes (one op place e) = has_declared-moved sizes e
  has_declared-moved sizes (pair op place l r) = ap₂ (λ a b. a && b) (has_declared-moved sizes l) (has_declared-moved sizes r)
  has_declared-moved sizes (and_expr place l r) = ap₂ (λ a b. a && b) (has_declared-moved sizes l) (has_declared-moved sizes r)
  has_declared-moved sizes (or_expr place l r) = ap₂ (λ a b. a && b) (has_declared-moved sizes l) (has_declared-moved sizes r)

  pub expr-typed-moved : (heading : Heading) (e : Expr) (kind : Kind) → IsTyped heading e kind → IsTyped heading (moved_expr f e) kind
  expr-typed-moved heading (constant place k v) kind is = is
  expr-typed-moved heading (attribute place i) kind is = is
  expr-typed-moved heading (one op place e) kind is = (is.0, expr-typed-moved heading e is.0 is.1, is.2)
  expr-typed-moved heading (pair op place l r) kind is = (is.0, is.1, expr-typed-moved heading l is.0 is.2, expr-typed-moved heading r is.1 is.3, is.4)
  expr-typed-moved heading (and_expr place l r) kind is = (expr-typed-moved heading l _ is.0, expr-typed-moved heading r _ is.1, is.2)
  expr-typed-moved heading (or_expr place l r) kind is = (expr-typed-moved heading l _ is.0, expr-typed-moved heading r _ is.1, is.2)

  pub scalar-moved : (sizes : List ℕ) (heading : Heading) (e : Expr) (kind : Kind) → IsScalar sizes heading e kind → IsScalar sizes heading (moved_expr f e) kind
  scalar-moved sizes heading e kind is =
      record {
        declared = subst IsTrue (sym (has_declared-moved sizes e)) is.declared;
        typed = expr-typed-moved heading e kind is.typed;
      }

  -- ---- which attributes of a list they name, and where

  module _ (commalist : List ℕ) where
    pub expr-names-moved : (e : Expr) → expr_names_any commalist (moved_expr f e) ≡ expr_names_any commalist e
    expr-names-moved (constant place kind v) = refl
    expr-names-moved (attribute place i) = refl
    expr-names-moved (one op place e) = expr-names-moved e
    expr-names-moved (pair op place l r) = ap₂ (λ a b. a || b) (expr-names-moved l) (expr-names-moved r)
    expr-names-moved (and_expr place l r) = ap₂ (λ a b. a || b) (expr-names-moved l) (expr-names-moved r)
    expr-names-moved (or_expr place l r) = ap₂ (λ a b. a || b) (expr-names-moved l) (expr-names-moved r)

    attribute_of-moved : (e : Expr) → attribute_of commalist (moved_expr f e) ≡ attribute_of commalist e
    attribute_of-moved (constant place kind v) = refl
    attribute_of-moved (attribute place i) = refl
    attribute_of-moved (one op place e) = refl
    attribute_of-moved (pair op place l r) = refl
    attribute_of-moved (and_expr place l r) = refl
    attribute_of-moved (or_expr place l r) = refl

    end_attribute-moved : (op : OneOp) (e : Expr) → end_attribute commalist op (moved_expr f e) ≡ end_attribute commalist op e
    end_attribute-moved BeginOf e = attribute_of-moved e
    end_attribute-moved EndOf e = attribute_of-moved e
    end_attribute-moved _ e = refl

    swept_attribute-moved : (e : Expr) → swept_attribute commalist (moved_expr f e) ≡ swept_attribute commalist e
    swept_attribute-moved (constant place kind v) = refl
    swept_attribute-moved (attribute place i) = refl
    swept_attribute-moved (one op place e) = end_attribute-moved op e
    swept_attribute-moved (pair op place l r) = refl
    swept_attribute-moved (and_expr place l r) = refl
    swept_attribute-moved (or_expr place l r) = refl

    swept_by-moved : (o : Option ℕ) (e : Expr) → is_swept_by commalist o (moved_expr f e) ≡ is_swept_by commalist o e
    swept_by-moved None e = refl
    swept_by-moved (Some i) e = ap not (expr-names-moved e)

    side-moved : (e other : Expr) → is_swept_by commalist (swept_attribute commalist (moved_expr f e)) (moved_expr f other) ≡ is_swept_by commalist (swept_attribute commalist e) other
    side-moved e other =
        ap (λ (o : Option ℕ). is_swept_by commalist o (moved_expr f other)) (swept_attribute-moved e) ∙ swept_by-moved (swept_attribute commalist e) other

    atom-moved : (op : PairOp) (l r : Expr) → is_atom commalist op (moved_expr f l) (moved_expr f r) ≡ is_atom commalist op l r
    atom-moved op l r = λ i. is_comparison op && (side-moved l r i || side-moved r l i)

    pub listed-moved : (b : Bool) (place : Place) → cond b (f place ∷ []) [] ≡ map f (cond b (place ∷ []) [])
    listed-moved true place = refl
    listed-moved false place = refl

    both-moved : (xs ys zs ws : List Place) → xs ≡ map f zs → ys ≡ map f ws → xs ++ ys ≡ map f (zs ++ ws)
    both-moved xs ys zs ws d e = (λ i. d i ++ e i) ∙ sym (map-append f zs ws)

    unless-moved : (b c : Bool) (xs ys : List Place) → b ≡ c → xs ≡ map f ys → cond b [] xs ≡ map f (cond c [] ys)
    unless-moved b c xs ys d e = (λ i. cond (d i) [] (e i)) ∙ by c
      where
        by : (t : Bool) → cond t [] (map f ys) ≡ map f (cond t [] ys)
        by true = refl
        by false = refl

    pub unswept-moved : (e : Expr) → unswept commalist (moved_expr f e) ≡ map f (unswept commalist e)
    unswept-moved (constant place kind v) = refl
    unswept-moved (attribute place i) = listed-moved (among commalist i) place
    unswept-moved (one op place e) = unswept-moved e
    unswept-moved (pair op place l r) =
        unless-moved (is_atom commalist op (moved_expr f l) (moved_expr f r)) (is_atom commalist op l r) (unswept commalist (moved_expr f l) ++ unswept commalist (moved_expr f r))
        (unswept commalist l ++ unswept commalist r) (atom-moved op l r)
        (both-moved (unswept commalist (moved_expr f l)) (unswept commalist (moved_expr f r)) (unswept commalist l) (unswept commalist r) (unswept-moved l) (unswept-moved r))
    unswept-moved (and_expr place l r) =
        both-moved (unswept commalist (moved_expr f l)) (unswept commalist (moved_expr f r)) (unswept commalist l) (unswept commalist r) (unswept-moved l) (unswept-moved r)
    unswept-moved (or_expr place l r) =
        both-moved (unswept commalist (moved_expr f l)) (unswept commalist (moved_expr f r)) (unswept commalist l) (unswept commalist r) (unswept-moved l) (unswept-moved r)

    none-moved : (places : List Place) → is_none (first_place (map f places)) ≡ is_none (first_place places)
    none-moved [] = refl
    none-moved (place ∷ places) = refl

    pub swept-moved : (e : Expr) → is_swept commalist (moved_expr f e) ≡ is_swept commalist e
    swept-moved e = ap (λ (places : List Place). is_none (first_place places)) (unswept-moved e) ∙ none-moved (unswept commalist e)

    none-named-moved : (form : PlainAggregateForm) → names_none commalist (moved_aggregate_form f form) ≡ names_none commalist form
    none-named-moved count_rows = refl
    none-named-moved (sum_of e) = ap not (expr-names-moved e)
    none-named-moved (min_of e) = ap not (expr-names-moved e)
    none-named-moved (max_of e) = ap not (expr-names-moved e)

    all-swept-moved : (sets : PlainSets) → list_all (λ s. is_swept commalist s.1) (moved_sets f sets) ≡ list_all (λ s. is_swept commalist s.1) sets
    all-swept-moved [] = refl
    all-swept-moved (s ∷ sets) = ap₂ (λ a b. a && b) (swept-moved s.1) (all-swept-moved sets)

    all-none-moved : (aggregates : List PlainAggregate) → list_all (λ a. names_none commalist a.form) (map (moved_aggregate f) aggregates) ≡ list_all (λ a. names_none commalist a.form) aggregates
    all-none-moved [] = refl
    all-none-moved (a ∷ aggregates) = ap₂ (λ b c. b && c) (none-named-moved a.form) (all-none-moved aggregates)

  made-moved : (name : Name) (sets : PlainSets) → list_any (λ s. bytes_eq name s.0) (moved_sets f sets) ≡ list_any (λ s. bytes_eq name s.0) sets
  made-moved name [] = refl
  made-moved name (s ∷ sets) = ap (λ b. bytes_eq name s.0 || b) (made-moved name sets)

  any-made-moved : (names : List Name) (sets : PlainSets)
      → list_any (λ n. list_any (λ s. bytes_eq n s.0) (moved_sets f sets)) names ≡ list_any (λ n. list_any (λ s. bytes_eq n s.0) sets) names
  any-made-moved [] sets = refl
  any-made-moved (n ∷ names) sets = ap₂ (λ a b. a || b) (made-moved n sets) (any-made-moved names sets)

  -- ---- the part of a USING

  part-moved : (names : List Name) (t : Tree) → is_part names (moved_tree f t) ≡ is_part names t
  part-moved names (named place h name) = refl
  part-moved names (literal place h tuples) = refl
  part-moved names (infix_of place h word l r) = λ i. are_in h names (heading-moved f l i) && are_in h names (heading-moved f r i)
  part-moved names (project place h kept t) = λ i. are_in h names (heading-moved f t i)
  part-moved names (rename place h new t) = refl
  part-moved names (restrict place h c t) =
      ap (λ (g : Heading). is_swept (positions_of g names) (moved_expr f c)) (heading-moved f t) ∙ swept-moved (positions_of (heading_of t) names) c
  part-moved names (extend place h sets t) =
      ap
      (λ (g : Heading). are_in h names g
      && (list_all (λ s. is_swept (positions_of g names) s.1) (moved_sets f sets) && not (list_any (λ n. list_any (λ s. bytes_eq n s.0) (moved_sets f sets)) names)))
      (heading-moved f t)
      ∙ (λ i. are_in h names (heading_of t) && (all-swept-moved (positions_of (heading_of t) names) sets i && not (any-made-moved names sets i)))
  part-moved names (summarize place h by aggregates t) =
      ap
      (λ (g : Heading). are_in h names g
      && (list_all (among by) (positions_of g names) && list_all (λ a. names_none (positions_of g names) a.form) (map (moved_aggregate f) aggregates)))
      (heading-moved f t)
      ∙ (λ i. are_in h names (heading_of t) && (list_all (among by) (positions_of (heading_of t) names) && all-none-moved (positions_of (heading_of t) names) aggregates i))
  part-moved names (pack place h commalist t) = refl
  part-moved names (unpack place h commalist t) = refl
  part-moved names (using place h commalist t) = refl

  -- ---- items, tuples and aggregates

  module _ (sizes : List ℕ) where
    pub makes-moved : (from : Heading) (sets : PlainSets) (made : Heading) → Makes sizes from sets made → Makes sizes from (moved_sets f sets) made
    makes-moved from [] [] is = is
    makes-moved from [] (a ∷ made) is = is
    makes-moved from (s ∷ sets) [] is = is
    makes-moved from (s ∷ sets) (a ∷ made) is = (is.0, scalar-moved sizes from s.1 a.1 is.1, makes-moved from sets made is.2)

    kind-moved : (from : Heading) (form : PlainAggregateForm) (kind : Kind) → HasKind sizes from form kind → HasKind sizes from (moved_aggregate_form f form) kind
    kind-moved from count_rows kind is = is
    kind-moved from (sum_of e) kind is = (scalar-moved sizes from e kind is.0, is.1)
    kind-moved from (min_of e) kind is = (scalar-moved sizes from e kind is.0, is.1)
    kind-moved from (max_of e) kind is = (scalar-moved sizes from e kind is.0, is.1)

    pub sums-moved : (from : Heading) (aggregates : List PlainAggregate) (made : Heading) → Sums sizes from aggregates made → Sums sizes from (map (moved_aggregate f) aggregates) made
    sums-moved from [] [] is = is
    sums-moved from [] (a ∷ made) is = is
    sums-moved from (g ∷ aggregates) [] is = is
    sums-moved from (g ∷ aggregates) (a ∷ made) is = (is.0, kind-moved from g.form a.1 is.1, sums-moved from aggregates made is.2)

    pub tuple-moved : (heading : Heading) (tuple : PlainSets) → IsTuple sizes heading tuple → IsTuple sizes heading (moved_sets f tuple)
    tuple-moved heading tuple is = record { made = is.made; makes = makes-moved [] tuple is.made is.makes; headed = is.headed }

    restriction-moved : (from to : Heading) (c : Expr) → IsRestriction sizes from to c → IsRestriction sizes from to (moved_expr f c)
    restriction-moved from to c is = record { condition = scalar-moved sizes from c _ is.condition; headed = is.headed }

    extension-moved : (from to : Heading) (sets : PlainSets) → IsExtension sizes from to sets → IsExtension sizes from to (moved_sets f sets)
    extension-moved from to sets is = record { made = is.made; makes = makes-moved from sets is.made is.makes; headed = is.headed }

    summary-moved : (from to : Heading) (by : List ℕ) (aggregates : List PlainAggregate) → IsSummary sizes from to by aggregates → IsSummary sizes from to by (map (moved_aggregate f) aggregates)
    summary-moved from to by aggregates is = record { positions = is.positions; made = is.made; makes = sums-moved from aggregates is.made is.makes; headed = is.headed }

    -- ---- relational expressions and tests

    module _ (headings : Headings) where
      -- what is said of the heading of a part
      at_heading : (P : Heading → Type 0) (t : Tree) → P (heading_of t) → P (heading_of (moved_tree f t))
      at_heading P t is = subst P (sym (heading-moved f t)) is

      pub typed-moved : (t : Tree) → IsTypedTree sizes headings t → IsTypedTree sizes headings (moved_tree f t)
      typed-moved (named place h name) is = is
      typed-moved (literal place h tuples) is = (is.0, All-map (IsTuple sizes h) (moved_sets f) tuples (λ k d l. tuple-moved h (get_or tuples k d) (is.1 k d l)))
      typed-moved (infix_of place h word l r) is = (
        typed-moved l is.0,
        typed-moved r is.1,
        at_heading (λ g. IsInfix word g (heading_of (moved_tree f r)) h) l (at_heading (λ g. IsInfix word (heading_of l) g h) r is.2),
      )
      typed-moved (project place h kept t) is = (typed-moved t is.0, at_heading (λ g. IsProjection g h kept) t is.1)
      typed-moved (rename place h names t) is = (typed-moved t is.0, at_heading (λ g. IsRenaming g h names) t is.1)
      typed-moved (restrict place h c t) is = (typed-moved t is.0, at_heading (λ g. IsRestriction sizes g h (moved_expr f c)) t (restriction-moved (heading_of t) h c is.1))
      typed-moved (extend place h sets t) is = (typed-moved t is.0, at_heading (λ g. IsExtension sizes g h (moved_sets f sets)) t (extension-moved (heading_of t) h sets is.1))
      typed-moved (summarize place h by aggregates t) is =
          (typed-moved t is.0, at_heading (λ g. IsSummary sizes g h by (map (moved_aggregate f) aggregates)) t (summary-moved (heading_of t) h by aggregates is.1))
      typed-moved (pack place h commalist t) is = (typed-moved t is.0, is.1, at_heading (λ g. h ≡ g) t is.2)
      typed-moved (unpack place h commalist t) is = (typed-moved t is.0, is.1, at_heading (λ g. h ≡ g) t is.2)
      typed-moved (using place h commalist t) is =
          (typed-moved t is.0, is.1, at_heading (λ g. h ≡ g) t is.2, subst IsTrue (sym (part-moved (names_at h commalist) t)) is.3)

      pub test-typed-moved : (t : Test) → IsTypedTest sizes headings t → IsTypedTest sizes headings (moved_test f t)
      test-typed-moved (relate place word commalist l r) is = (
        typed-moved l is.0,
        typed-moved r is.1,
        at_heading (λ g. g ≡ heading_of (moved_tree f r)) l (at_heading (λ g. heading_of l ≡ g) r is.2),
        at_heading (λ g. IsListIf g commalist) l is.3,
      )
      test-typed-moved (is_empty place t) is = typed-moved t is
      test-typed-moved (is_not_empty place t) is = typed-moved t is

-- Typed expressions have headings: few enough attributes in order, of kinds there are.
use Rattle.std.specs.Prelude.{◌≡◌, ◌<◌, ◌≤◌, ℕ, Bool, true, false, not, List, [], ◌∷◌, ◌++◌, length, get_or, Some, IsTrue, refl, if◌then◌else◌}
use Rattle.std.proofs.Common.{sym, subst}
use Rattle.std.specs.List.{list_all, list_any, All}
use Rattle.std.specs.Str.{bytes_eq}
use Rattle.std.proofs.lemmas.Bool.{and_parts, and_from}
use Rattle.std.proofs.lemmas.List.{map-append}
use Rattle.base_core.proofs.SetLemmas.{In, Ascends}
use Rattle.base_core.proofs.MemberLemmas.{In-filter, In-map}
use Rattle.base_core.proofs.ListLemmas.{In-get_or}
use Rattle.value_core.specs.declared.kind.Kind.{Kind}
use Rattle.value_core.specs.Limits.{most_attributes}
use Rattle.value_core.specs.Values.{Name, Heading, attribute_cmp, is_heading}
use Rattle.value_core.proofs.HeadingLemmas.{attribute_total}
use Rattle.relation_core.specs.Agreement.{names_of}
use Rattle.relation_core.specs.Joins.{joined_heading}
use Rattle.relation_core.specs.Parts.{no_attribute, attributes_at, renamed}
use Rattle.relation_core.proofs.ApartLemmas.{from_in_order, ascends_in_order}
use Rattle.relation_core.proofs.HeadingLemmas.{part_ascends, part_is_few, within_by_members}
use Rattle.tree_core.specs.Relvars.{PlainRelvar, base, view, Entries, State, relvar_heading, log}
use Rattle.tree_core.specs.Trees.{PlainAggregateForm, count_rows, sum_of, min_of, max_of, PlainAggregate, Tree, named, literal, infix_of, project, rename, restrict, extend, summarize, pack, unpack, using, heading_of}
use Rattle.tree_core.specs.declared.tree.InfixWord.{InfixWord}
use Rattle.tree_core.specs.declared.tree.InfixWord.TheVariants.{Union, Intersect, Minus, Join, Matching, NotMatching}
use Rattle.meaning_core.specs.Typing.{is_kind, is_declared, HasKind, Sums, IsInfix, ArePositions, IsExtension, IsSummary, not_named, Headings, heading_named, IsTypedTree}
use Rattle.meaning_core.specs.WellMade.{sizes_of, headings_of, IsRelvar, AreRelvars, IsWellMade, IsTypedFor}
use Rattle.since_during.proofs.HistoryTypes.{is-heading}
use Rattle.type_check.proofs.PutLemmas.{all-in, all-both}
use Rattle.type_check.proofs.ScalarLemmas.{scalar-kind}
use Rattle.type_check.proofs.ItemLemmas.{makes-kinds, declared-of}

-- ---- parts of declared headings

-- attributes at positions in the heading are attributes of it
pub part-in : (heading : Heading) (kept : List ℕ) → All (λ (i : ℕ). i < length heading) kept → (a : Name × Kind) → In a (attributes_at kept heading) → In a heading
part-in heading kept within a i =
    let at = (In-map (λ j. get_or heading j no_attribute) a kept).0 i in
    subst (λ (z : Name × Kind). In z heading) (sym at.2) (In-get_or heading at.0 no_attribute (within_by_members (length heading) kept within at.0 at.1))

module _ (sizes : List ℕ) where
  pub declared-heading : (h : Heading) → IsTrue (is_declared sizes h) → IsTrue (is_heading h)
  declared-heading h declared = (and_parts (is_heading h) (list_all (λ a. is_kind sizes a.1) h) declared).0

  pub declared-kinds : (h : Heading) → IsTrue (is_declared sizes h) → IsTrue (list_all (λ a. is_kind sizes a.1) h)
  declared-kinds h declared = (and_parts (is_heading h) (list_all (λ a. is_kind sizes a.1) h) declared).1

  from-parts : (h : Heading) → IsTrue (is_heading h) → IsTrue (list_all (λ a. is_kind sizes a.1) h) → IsTrue (is_declared sizes h)
  from-parts h headed kinds = and_from (is_heading h) (list_all (λ a. is_kind sizes a.1) h) headed kinds

  same-declared : (h from : Heading) → h ≡ from → IsTrue (is_declared sizes from) → IsTrue (is_declared sizes h)
  same-declared h from e declared = subst (λ (z : Heading). IsTrue (is_declared sizes z)) (sym e) declared

  -- ---- by their nodes

  joined-declared : (left right h : Heading) → h ≡ joined_heading left right → length h ≤ most_attributes → IsTrue (is_declared sizes left) → IsTrue (is_declared sizes right) → IsTrue (is_declared sizes h)
  joined-declared left right h is few l r =
      let up : Ascends attribute_cmp h = subst (Ascends attribute_cmp) (sym is) (ascends_in_order attribute_cmp attribute_total (left ++ right)) in
      let both : IsTrue (list_all (λ a. is_kind sizes a.1) (left ++ right)) = all-both (λ a. is_kind sizes a.1) left right (declared-kinds left l) (declared-kinds right r) in
      from-parts h (is-heading h up few)
      (all-in (λ a. is_kind sizes a.1) (left ++ right) h (λ a i. from_in_order attribute_cmp a (left ++ right) (subst (λ (z : Heading). In a z) is i)) both)

  infix-declared : (word : InfixWord) (left right h : Heading) → IsInfix word left right h → IsTrue (is_declared sizes left) → IsTrue (is_declared sizes right) → IsTrue (is_declared sizes h)
  infix-declared Union left right h is l r = same-declared h left is.1 l
  infix-declared Intersect left right h is l r = same-declared h left is.1 l
  infix-declared Minus left right h is l r = same-declared h left is.1 l
  infix-declared Join left right h is l r = joined-declared left right h is.1 is.2 l r
  infix-declared Matching left right h is l r = same-declared h left is.1 l
  infix-declared NotMatching left right h is l r = same-declared h left is.1 l

  pub part-declared : (from : Heading) (kept : List ℕ) → ArePositions from kept → IsTrue (is_declared sizes from) → IsTrue (is_declared sizes (attributes_at kept from))
  part-declared from kept at declared =
      let headed = declared-heading from declared in
      from-parts (attributes_at kept from)
      (is-heading (attributes_at kept from) (part_ascends from kept headed at.ascending at.within) (part_is_few from kept headed at.ascending at.within))
      (all-in (λ a. is_kind sizes a.1) from (attributes_at kept from) (part-in from kept at.within) (declared-kinds from declared))

  renamed-kinds : (names : List Name) (from : Heading) → IsTrue (list_all (λ a. is_kind sizes a.1) from) → IsTrue (list_all (λ a. is_kind sizes a.1) (renamed names from))
  renamed-kinds [] from kinds = refl
  renamed-kinds (n ∷ names) [] kinds = refl
  renamed-kinds (n ∷ names) (a ∷ rest) kinds =
      let parts = and_parts (is_kind sizes a.1) (list_all (λ b. is_kind sizes b.1) rest) kinds in
      and_from (is_kind sizes a.1) (list_all (λ b. is_kind sizes b.1) (renamed names rest)) parts.0 (renamed-kinds names rest parts.1)

  kept-kinds : (names : List Name) (from : Heading) → IsTrue (list_all (λ a. is_kind sizes a.1) from) → IsTrue (list_all (λ a. is_kind sizes a.1) (not_named names from))
  kept-kinds names from kinds =
      all-in (λ a. is_kind sizes a.1) from (not_named names from) (λ a i. ((In-filter (λ (b : Name × Kind). not (list_any (bytes_eq b.0) names)) a from).0 i).0) kinds

  extension-declared : (from to : Heading) (sets : _) → IsExtension sizes from to sets → IsTrue (is_declared sizes from) → IsTrue (is_declared sizes to)
  extension-declared from to sets is declared =
      let kinds = declared-kinds from declared in
      declared-of sizes (is.made ++ not_named (names_of is.made) from) to is.headed
      (all-both (λ a. is_kind sizes a.1) is.made (not_named (names_of is.made) from) (makes-kinds sizes from sets is.made kinds is.makes) (kept-kinds (names_of is.made) from kinds))

  -- the kind of an aggregate's value is there
  pub form-kind : (from : Heading) (form : PlainAggregateForm) (kind : Kind) → IsTrue (list_all (λ a. is_kind sizes a.1) from) → HasKind sizes from form kind → IsTrue (is_kind sizes kind)
  form-kind from count_rows kind kinds h = subst (λ (k : Kind). IsTrue (is_kind sizes k)) (sym h) refl
  form-kind from (sum_of e) kind kinds h = scalar-kind sizes from e kind kinds h.0
  form-kind from (min_of e) kind kinds h = scalar-kind sizes from e kind kinds h.0
  form-kind from (max_of e) kind kinds h = scalar-kind sizes from e kind kinds h.0

  sums-kinds : (from : Heading) (aggregates : List PlainAggregate) (made : Heading) → IsTrue (list_all (λ a. is_kind sizes a.1) from) → Sums sizes from aggregates made
      → IsTrue (list_all (λ a. is_kind sizes a.1) made)
  sums-kinds from [] [] kinds h = refl
  sums-kinds from [] (a ∷ made) kinds h = absurd h
  sums-kinds from (g ∷ aggregates) [] kinds h = absurd h
  sums-kinds from (g ∷ aggregates) (a ∷ made) kinds h =
      and_from (is_kind sizes a.1) (list_all (λ b. is_kind sizes b.1) made) (form-kind from g.form a.1 kinds h.1) (sums-kinds from aggregates made kinds h.2)

  summary-declared : (from to : Heading) (by : List ℕ) (aggregates : List PlainAggregate) → IsSummary sizes from to by aggregates → IsTrue (is_declared sizes from) → IsTrue (is_declared sizes to)
  summary-declared from to by aggregates is declared =
      let kinds = declared-kinds from declared in
      declared-of sizes (is.made ++ attributes_at by from) to is.headed
      (all-both (λ a. is_kind sizes a.1) is.made (attributes_at by from) (sums-kinds from aggregates is.made kinds is.makes)
      (all-in (λ a. is_kind sizes a.1) from (attributes_at by from) (part-in from by is.positions.within) kinds))

  -- ---- names

  name-declared : (headings : Headings) (name : Name) (h : Heading) → IsTrue (list_all (λ k. is_declared sizes k.1) headings) → heading_named headings name ≡ Some h → IsTrue (is_declared sizes h)
  name-declared [] name h all e = absurd cc
  name-declared (k ∷ ks) name h all e =
      let parts = and_parts (is_declared sizes k.1) (list_all (λ j. is_declared sizes j.1) ks) all in
      by-name (bytes_eq k.0 name) parts.0 (λ f. name-declared ks name h parts.1 f) e
    where
      by-name : (b : Bool) → IsTrue (is_declared sizes k.1) → (heading_named ks name ≡ Some h → IsTrue (is_declared sizes h)) → (if b then Some k.1 else heading_named ks name) ≡ Some h
          → IsTrue (is_declared sizes h)
      by-name true here there e = subst (λ (z : Heading). IsTrue (is_declared sizes z)) (let same : k.1 ≡ h = cc in same) here
      by-name false here there e = there e

  -- ---- expressions

  pub tree-declared : (headings : Headings) (t : Tree) → IsTrue (list_all (λ k. is_declared sizes k.1) headings) → IsTypedTree sizes headings t → IsTrue (is_declared sizes (heading_of t))
  tree-declared headings (named place h name) all typed = name-declared headings name h all typed
  tree-declared headings (literal place h tuples) all typed = typed.0
  tree-declared headings (infix_of place h word l r) all typed =
      infix-declared word (heading_of l) (heading_of r) h typed.2 (tree-declared headings l all typed.0) (tree-declared headings r all typed.1)
  tree-declared headings (project place h kept t) all typed =
      same-declared h (attributes_at kept (heading_of t)) typed.1.headed (part-declared (heading_of t) kept typed.1.positions (tree-declared headings t all typed.0))
  tree-declared headings (rename place h names t) all typed =
      declared-of sizes (renamed names (heading_of t)) h typed.1.headed (renamed-kinds names (heading_of t) (declared-kinds (heading_of t) (tree-declared headings t all typed.0)))
  tree-declared headings (restrict place h c t) all typed = same-declared h (heading_of t) typed.1.headed (tree-declared headings t all typed.0)
  tree-declared headings (extend place h sets t) all typed = extension-declared (heading_of t) h sets typed.1 (tree-declared headings t all typed.0)
  tree-declared headings (summarize place h by aggregates t) all typed = summary-declared (heading_of t) h by aggregates typed.1 (tree-declared headings t all typed.0)
  tree-declared headings (pack place h commalist t) all typed = same-declared h (heading_of t) typed.2 (tree-declared headings t all typed.0)
  tree-declared headings (unpack place h commalist t) all typed = same-declared h (heading_of t) typed.2 (tree-declared headings t all typed.0)
  tree-declared headings (using place h commalist t) all typed = same-declared h (heading_of t) typed.2 (tree-declared headings t all typed.0)

  -- ---- relvars and views

  relvar-declared : (before : Entries) (own : Name) (r : PlainRelvar) → IsTrue (list_all (λ k. is_declared sizes k.1) (headings_of before)) → IsRelvar sizes before own r
      → IsTrue (is_declared sizes (relvar_heading r))
  relvar-declared before own (base value constraints) all h = h.0
  relvar-declared before own (view t kind) all h = tree-declared (headings_of before) t all h.0
  relvar-declared before own (log of side last value) all h = h.0

  pub all-append : (p : Name × Heading → Bool) (xs ys : Headings) → IsTrue (list_all p xs) → IsTrue (list_all p ys) → IsTrue (list_all p (xs ++ ys))
  all-append p [] ys h k = k
  all-append p (x ∷ xs) ys h k =
      let parts = and_parts (p x) (list_all p xs) h in
      and_from (p x) (list_all p (xs ++ ys)) parts.0 (all-append p xs ys parts.1 k)

  entries-declared : (before rest : Entries) → IsTrue (list_all (λ k. is_declared sizes k.1) (headings_of before)) → AreRelvars sizes before rest
      → IsTrue (list_all (λ k. is_declared sizes k.1) (headings_of rest))
  entries-declared before [] all h = refl
  entries-declared before (r ∷ rest) all h =
      let here : IsTrue (is_declared sizes (relvar_heading r.1)) = relvar-declared before r.0 r.1 all h.0 in
      let one : IsTrue (list_all (λ k. is_declared sizes k.1) (headings_of (r ∷ []))) = and_from (is_declared sizes (relvar_heading r.1)) true here refl in
      let more : IsTrue (list_all (λ k. is_declared sizes k.1) (headings_of (before ++ r ∷ []))) =
      subst (λ (z : Headings). IsTrue (list_all (λ k. is_declared sizes k.1) z)) (sym (map-append (λ (e : Name × PlainRelvar). (e.0, relvar_heading e.1)) before (r ∷ [])))
      (all-append (λ k. is_declared sizes k.1) (headings_of before) (headings_of (r ∷ [])) all one) in
      and_from (is_declared sizes (relvar_heading r.1)) (list_all (λ k. is_declared sizes k.1) (headings_of rest)) here (entries-declared (before ++ r ∷ []) rest more h.1)

-- the heading of what is typed for a well made state
pub typed-declared : (s : State) (t : Tree) → IsWellMade s → IsTypedFor s t → IsTrue (is_declared (sizes_of s.ordinals) (heading_of t))
typed-declared s t made typed =
    tree-declared (sizes_of s.ordinals) (headings_of s.relvars) t (entries-declared (sizes_of s.ordinals) [] s.relvars refl made.relvars) typed

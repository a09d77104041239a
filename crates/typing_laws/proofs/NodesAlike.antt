-- How many nodes an expression or a test has does not hang on places, nor on the order of the entries that it names.
--     nodes-alike, test-nodes-alike      the law, for entries that are alike
--     count-moved      the same where it is known how many nodes each name counts for
use Rattle.std.proofs.Common.{◌≡◌, ◌+◌, ℕ, Bool, false, List, [], refl, sym, ap, ◌∙◌}
use Rattle.std.proofs.lemmas.Bool.{or_parts}
use Rattle.point_core.specs.declared.fault.Place.{Place}
use Rattle.value_core.specs.Values.{Name}
use Rattle.tree_core.specs.Relvars.{PlainRelvar, base, view, Entries, log}
use Rattle.tree_core.specs.Trees.{Tree, named, literal, infix_of, project, rename, restrict, extend, summarize, pack, unpack, using, Test, relate, is_empty, is_not_empty}
use Rattle.tree_core.specs.Uses.{names_any, test_names_any}
use Rattle.meaning_core.specs.Names.{found, each_in}
use Rattle.meaning_core.specs.Typing.{IsTypedTree, IsTypedTest}
use Rattle.meaning_core.specs.WellMade.{headings_of, AreRelvars}
use Rattle.meaning_core.proofs.ElsewhereLemmas.{view_names, IsApart}
use Rattle.meaning_laws.specs.Likeness.{IsLike, Alike, unknown}
use Rattle.meaning_laws.specs.Moved.{moved_tree, moved_test}
use Rattle.meaning_laws.proofs.EachAlike.{each-known, names-known, test-names-known}
use Rattle.meaning_laws.proofs.LikeLemmas.{alike-same}
use Rattle.declaration_typing.specs.Nodes.{count, relvar_count, nodes_of, test_count, test_nodes}

abbrev pub Counts : Type 0
Counts = List (Name × ℕ)

module _ (known there : Counts) (out : Name → Bool) (agree : (name : Name) → out name ≡ false → found 1 known name ≡ found 1 there name) (f : Place → Place) where
  pub count-moved : (t : Tree) → names_any out t ≡ false → count known t ≡ count there (moved_tree f t)
  count-moved (named place h name) none = agree name none
  count-moved (literal place h tuples) none = refl
  count-moved (infix_of place h word l r) none =
      let parts = or_parts (names_any out l) (names_any out r) none in
      λ i. count-moved l parts.0 i + count-moved r parts.1 i + 1
  count-moved (project place h kept t) none = λ i. count-moved t none i + 1
  count-moved (rename place h names t) none = λ i. count-moved t none i + 1
  count-moved (restrict place h c t) none = λ i. count-moved t none i + 1
  count-moved (extend place h sets t) none = λ i. count-moved t none i + 1
  count-moved (summarize place h by aggregates t) none = λ i. count-moved t none i + 1
  count-moved (pack place h commalist t) none = λ i. count-moved t none i + 1
  count-moved (unpack place h commalist t) none = λ i. count-moved t none i + 1
  count-moved (using place h commalist t) none = λ i. count-moved t none i + 1

  pub test-count-moved : (t : Test) → test_names_any out t ≡ false → test_count known t ≡ test_count there (moved_test f t)
  test-count-moved (relate place word commalist l r) none =
      let parts = or_parts (names_any out l) (names_any out r) none in
      λ i. count-moved l parts.0 i + count-moved r parts.1 i
  test-count-moved (is_empty place t) none = count-moved t none
  test-count-moved (is_not_empty place t) none = count-moved t none

-- a relvar or view counts for as many as the like one
one-counts : (known there : Counts) (out : Name → Bool) (x y : PlainRelvar) → IsLike x y → ((name : Name) → out name ≡ false → found 1 known name ≡ found 1 there name) → view_names out x ≡ false
    → relvar_count known x ≡ relvar_count there y
one-counts known there out (base v c) (base u d) like agree none = refl
one-counts known there out (base v c) (view u g) like agree none = absurd like
one-counts known there out (view t h) (base u d) like agree none = absurd like
one-counts known there out (base v c) (log o i last w) like agree none = absurd like
one-counts known there out (view t h) (log o i last w) like agree none = absurd like
one-counts known there out (log o i last w) (base u d) like agree none = absurd like
one-counts known there out (log o i last w) (view u g) like agree none = absurd like
one-counts known there out (log o i last w) (log p j n v) like agree none = refl
one-counts known there out (view t h) (view u g) like agree none = count-moved known there out agree like.0.0 t none ∙ ap (count there) (sym like.0.1)

module _ (some : Name → Bool) (sizes more : List ℕ) (es fs : Entries) (made : AreRelvars sizes [] es) (others : AreRelvars more [] fs) (alike : Alike some es fs) (apart : IsApart some es) where
  agreed : (name : Name) → unknown some es name ≡ false → found 1 (each_in relvar_count es) name ≡ found 1 (each_in relvar_count fs) name
  agreed name q =
      each-known relvar_count 1 (λ (m n : ℕ). m ≡ n) IsLike (λ x y like. like) one-counts some sizes more es fs made others (alike-same some es fs alike) apart name q

  pub nodes-alike : (f : Place → Place) (kinds : List ℕ) (t : Tree) → names_any some t ≡ false → IsTypedTree kinds (headings_of es) t → nodes_of es t ≡ nodes_of fs (moved_tree f t)
  nodes-alike f kinds t none is = count-moved (each_in relvar_count es) (each_in relvar_count fs) (unknown some es) agreed f t (names-known es kinds some t none is)

  pub test-nodes-alike : (f : Place → Place) (kinds : List ℕ) (t : Test) → test_names_any some t ≡ false → IsTypedTest kinds (headings_of es) t → test_nodes es t ≡ test_nodes fs (moved_test f t)
  test-nodes-alike f kinds t none is = test-count-moved (each_in relvar_count es) (each_in relvar_count fs) (unknown some es) agreed f t (test-names-known es kinds some t none is)

-- What is typed where names have some headings is typed where those that it names have the same.
--     tree-stays, test-stays      where the names that are none of some have the same
--     tree-behind, test-behind      with more entries behind
--     tree-left, test-left      without entries that it does not name
--     rules-behind      database constraints, with one relvar or view more
use Rattle.std.proofs.Common.{◌≡◌, ℕ, Bool, true, false, cond, List, [], ◌∷◌, ◌++◌, get_or, sym, ap, ◌∙◌, Some}
use Rattle.std.specs.Prelude.{is_none, option_map}
use Rattle.std.specs.List.{All}
use Rattle.std.specs.Str.{bytes_eq}
use Rattle.std.proofs.lemmas.Bool.{or_parts}
use Rattle.value_core.specs.Values.{Name, Heading}
use Rattle.tree_core.specs.Relvars.{PlainRelvar, Entries, State, relvar_heading}
use Rattle.tree_core.specs.Trees.{Tree, named, literal, infix_of, project, rename, restrict, extend, summarize, pack, unpack, using, Test, relate, is_empty, is_not_empty}
use Rattle.tree_core.specs.Uses.{names_any, test_names_any}
use Rattle.meaning_core.specs.Declarations.{with_relvar}
use Rattle.meaning_core.specs.Typing.{Headings, heading_named, IsTypedTree, IsTypedTest}
use Rattle.meaning_core.specs.WellMade.{sizes_of, headings_of, IsTypedTestFor}
use Rattle.meaning_core.proofs.ElsewhereLemmas.{left, named-left, none-is, typed-names, typed-test-names}
use Rattle.meaning_core.proofs.RelvarLemmas.{heading_of_named}

module _ (sizes : List ℕ) (some : Name → Bool) (headings others : Headings) where
  -- names that are none of some have the same headings
  abbrev pub KeepHeadings : Type 0
  KeepHeadings = (name : Name) (h : Heading) → some name ≡ false → heading_named headings name ≡ Some h → heading_named others name ≡ Some h

  module _ (keep : KeepHeadings) where
    pub tree-stays : (t : Tree) → names_any some t ≡ false → IsTypedTree sizes headings t → IsTypedTree sizes others t
    tree-stays (named place h name) none is = keep name h none is
    tree-stays (literal place h tuples) none is = is
    tree-stays (infix_of place h word l r) none is =
        let parts = or_parts (names_any some l) (names_any some r) none in
        (tree-stays l parts.0 is.0, tree-stays r parts.1 is.1, is.2)
    tree-stays (project place h kept t) none is = (tree-stays t none is.0, is.1)
    tree-stays (rename place h names t) none is = (tree-stays t none is.0, is.1)
    tree-stays (restrict place h c t) none is = (tree-stays t none is.0, is.1)
    tree-stays (extend place h sets t) none is = (tree-stays t none is.0, is.1)
    tree-stays (summarize place h by aggregates t) none is = (tree-stays t none is.0, is.1)
    tree-stays (pack place h commalist t) none is = (tree-stays t none is.0, is.1, is.2)
    tree-stays (unpack place h commalist t) none is = (tree-stays t none is.0, is.1, is.2)
    tree-stays (using place h commalist t) none is = (tree-stays t none is.0, is.1, is.2, is.3)

    pub test-stays : (t : Test) → test_names_any some t ≡ false → IsTypedTest sizes headings t → IsTypedTest sizes others t
    test-stays (relate place word commalist l r) none is =
        let parts = or_parts (names_any some l) (names_any some r) none in
        (tree-stays l parts.0 is.0, tree-stays r parts.1 is.1, is.2, is.3)
    test-stays (is_empty place t) none is = tree-stays t none is
    test-stays (is_not_empty place t) none is = tree-stays t none is

-- ---- more entries behind

heading-behind : (es more : Entries) (name : Name) (h : Heading) → heading_named (headings_of es) name ≡ Some h → heading_named (headings_of (es ++ more)) name ≡ Some h
heading-behind [] more name h e = absurd (cc)
heading-behind (k ∷ es) more name h e = by-test (bytes_eq k.0 name) (heading-behind es more name h) e
  where
    by-test : (b : Bool) → (heading_named (headings_of es) name ≡ Some h → heading_named (headings_of (es ++ more)) name ≡ Some h)
        → cond b (Some (relvar_heading k.1)) (heading_named (headings_of es) name) ≡ Some h → cond b (Some (relvar_heading k.1)) (heading_named (headings_of (es ++ more)) name) ≡ Some h
    by-test true f g = g
    by-test false f g = f g

module _ (sizes : List ℕ) (es more : Entries) where
  abbrev has-none : Name → Bool
  has-none name = is_none (heading_named (headings_of es) name)

  pub tree-behind : (t : Tree) → IsTypedTree sizes (headings_of es) t → IsTypedTree sizes (headings_of (es ++ more)) t
  tree-behind t is =
      tree-stays sizes has-none (headings_of es) (headings_of (es ++ more)) (λ name h _ e. heading-behind es more name h e) t
      (typed-names has-none sizes (headings_of es) (λ name one. none-is (heading_named (headings_of es) name) one) t is) is

  pub test-behind : (t : Test) → IsTypedTest sizes (headings_of es) t → IsTypedTest sizes (headings_of (es ++ more)) t
  test-behind t is =
      test-stays sizes has-none (headings_of es) (headings_of (es ++ more)) (λ name h _ e. heading-behind es more name h e) t
      (typed-test-names has-none sizes (headings_of es) (λ name one. none-is (heading_named (headings_of es) name) one) t is) is

pub rules-behind : (s : State) (own : Name) (r : PlainRelvar) → All (λ k. IsTypedTestFor s k.1) s.rules → All (λ k. IsTypedTestFor (with_relvar s own r) k.1) s.rules
rules-behind s own r all = λ k d l. test-behind (sizes_of s.ordinals) s.relvars ((own, r) ∷ []) (get_or s.rules k d).1 (all k d l)

-- ---- without entries that are not named

module _ (sizes : List ℕ) (some : Name → Bool) (es : Entries) where
  heading-left : (name : Name) (h : Heading) → some name ≡ false → heading_named (headings_of es) name ≡ Some h → heading_named (headings_of (left some es)) name ≡ Some h
  heading-left name h none e =
      heading_of_named (left some es) name ∙ (ap (option_map relvar_heading) (named-left some es name none) ∙ (sym (heading_of_named es name) ∙ e))

  pub tree-left : (t : Tree) → names_any some t ≡ false → IsTypedTree sizes (headings_of es) t → IsTypedTree sizes (headings_of (left some es)) t
  tree-left t none is = tree-stays sizes some (headings_of es) (headings_of (left some es)) heading-left t none is

  pub test-left : (t : Test) → test_names_any some t ≡ false → IsTypedTest sizes (headings_of es) t → IsTypedTest sizes (headings_of (left some es)) t
  test-left t none is = test-stays sizes some (headings_of es) (headings_of (left some es)) heading-left t none is

-- An expression or a test that is typed is typed, at other places, in a state in which names stand for the like.
--     like-there      what a name stands for there
--     keep-headings      names have the same headings
--     typed-alike, test-typed-alike      the law
use Rattle.std.proofs.Common.{◌≡◌, ℕ, Bool, false, List, refl, sym, ap, ◌∙◌, subst, Option, Some, None}
use Rattle.std.specs.Prelude.{option_map}
use Rattle.point_core.specs.declared.fault.Place.{Place}
use Rattle.value_core.specs.Values.{Name, Heading}
use Rattle.tree_core.specs.Relvars.{PlainRelvar, Entries, relvar_named, relvar_heading}
use Rattle.tree_core.specs.Trees.{Tree, Test}
use Rattle.tree_core.specs.Uses.{names_any, test_names_any}
use Rattle.meaning_core.specs.Typing.{IsTypedTree, IsTypedTest}
use Rattle.meaning_core.specs.WellMade.{headings_of}
use Rattle.meaning_core.proofs.RelvarLemmas.{heading_of_named}
use Rattle.meaning_core.proofs.StaysTyped.{KeepHeadings, tree-stays, test-stays}
use Rattle.meaning_laws.specs.Likeness.{IsLike, LikeIf, Alike}
use Rattle.meaning_laws.specs.Moved.{moved_tree, moved_test}
use Rattle.meaning_laws.proofs.LikeLemmas.{like-heading}
use Rattle.meaning_laws.proofs.TypedMoved.{typed-moved, test-typed-moved}

-- what stands where the like of x is to stand
abbrev pub StandsLike : PlainRelvar → Option PlainRelvar → Type 0
StandsLike x o = (y : PlainRelvar) × (o ≡ Some y) × IsLike x y

stands : (x : PlainRelvar) (o : Option PlainRelvar) → LikeIf (Some x) o → StandsLike x o
stands x None l = absurd l
stands x (Some y) l = (y, refl, l)

module _ (some : Name → Bool) (es fs : Entries) (alike : Alike some es fs) where
  pub like-there : (name : Name) (x : PlainRelvar) → some name ≡ false → relvar_named es name ≡ Some x → StandsLike x (relvar_named fs name)
  like-there name x out e = stands x (relvar_named fs name) (subst (λ (o : Option PlainRelvar). LikeIf o (relvar_named fs name)) e (alike name out))

  heading-if : (o p : Option PlainRelvar) (h : Heading) → LikeIf o p → option_map relvar_heading o ≡ Some h → option_map relvar_heading p ≡ Some h
  heading-if None p h l e = absurd cc
  heading-if (Some x) None h l e = absurd l
  heading-if (Some x) (Some y) h l e = ap (λ (g : Heading). Some g) (like-heading x y l) ∙ e

  pub keep-headings : (sizes : List ℕ) → KeepHeadings sizes some (headings_of es) (headings_of fs)
  keep-headings sizes name h out e =
      heading_of_named fs name ∙ heading-if (relvar_named es name) (relvar_named fs name) h (alike name out) (sym (heading_of_named es name) ∙ e)

  module _ (f : Place → Place) (sizes : List ℕ) where
    pub typed-alike : (t : Tree) → names_any some t ≡ false → IsTypedTree sizes (headings_of es) t → IsTypedTree sizes (headings_of fs) (moved_tree f t)
    typed-alike t none is = typed-moved f sizes (headings_of fs) t (tree-stays sizes some (headings_of es) (headings_of fs) (keep-headings sizes) t none is)

    pub test-typed-alike : (t : Test) → test_names_any some t ≡ false → IsTypedTest sizes (headings_of es) t → IsTypedTest sizes (headings_of fs) (moved_test f t)
    test-typed-alike t none is = test-typed-moved f sizes (headings_of fs) t (test-stays sizes some (headings_of es) (headings_of fs) (keep-headings sizes) t none is)

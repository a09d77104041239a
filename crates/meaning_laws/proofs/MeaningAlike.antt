-- An expression that means rows means the same, at other places, in a state in which names stand for the same.
--     known-alike      what names mean there
--     meaning-alike      of expressions
--     truth-alike, holds-alike      of tests
use Rattle.std.proofs.Common.{◌≡◌, ℕ, Bool, true, false, List, [], sym, ap, ◌∙◌, subst, Ok, Err}
use Rattle.std.proofs.lemmas.Bool.{true≢false}
use Rattle.point_core.specs.declared.fault.Place.{Place}
use Rattle.point_core.specs.Faults.{OrFault}
use Rattle.value_core.specs.Values.{Name, Row, Relation}
use Rattle.tree_core.specs.Relvars.{base, view, Entries, log}
use Rattle.tree_core.specs.Trees.{Tree, Test}
use Rattle.tree_core.specs.Uses.{names_any, test_names_any}
use Rattle.meaning_core.specs.Meanings.{plainly, meaning, relvar_meaning, known_in, meaning_in}
use Rattle.meaning_core.specs.Names.{found}
use Rattle.meaning_core.specs.Truths.{truth_in, holds_in, is_held}
use Rattle.meaning_core.specs.Typing.{IsTypedTree, IsTypedTest}
use Rattle.meaning_core.specs.WellMade.{headings_of, AreRelvars}
use Rattle.meaning_core.proofs.ElsewhereLemmas.{IsApart}
use Rattle.meaning_laws.specs.Gives.{Gives}
use Rattle.meaning_laws.specs.Likeness.{Alike, HasValues, unknown}
use Rattle.meaning_laws.specs.Moved.{moved_tree, moved_test}
use Rattle.meaning_laws.proofs.EachAlike.{EntriesAgree, each-known, names-known, test-names-known}
use Rattle.meaning_laws.proofs.LikeLemmas.{IsLikeAndValued, both-same}
use Rattle.meaning_laws.proofs.MeaningMoved.{meaning-gives, truth-gives}

-- what a relvar or view means, where the names that it names mean the same
relvar-gives : EntriesAgree relvar_meaning (Ok []) Gives IsLikeAndValued
relvar-gives known there out (base v c) (base u d) same agree none = λ rows e. ap (λ (r : Relation). Ok r.rows) same.1 ∙ e
relvar-gives known there out (base v c) (view u g) same agree none = absurd same.0
relvar-gives known there out (view t h) (base u d) same agree none = absurd same.0
relvar-gives known there out (base v c) (log o i last w) same agree none = absurd same.0
relvar-gives known there out (view t h) (log o i last w) same agree none = absurd same.0
relvar-gives known there out (log o i last w) (base u d) same agree none = absurd same.0
relvar-gives known there out (log o i last w) (view u g) same agree none = absurd same.0
relvar-gives known there out (log o i last w) (log p j n v) same agree none = λ rows e. ap (λ (r : Relation). Ok r.rows) same.1 ∙ e
relvar-gives known there out (view t h) (view u g) same agree none =
    subst (λ (z : Tree). Gives (meaning known plainly t) (meaning there plainly z)) (sym same.0.0.1) (meaning-gives same.0.0.0 out known there agree plainly t none)

held-true : (m : OrFault Bool) → is_held m ≡ true → m ≡ Ok true
held-true (Ok b) e = ap (λ (z : Bool). Ok z) e
held-true (Err d) e = absurd (true≢false (sym e))

module _ (some : Name → Bool) (sizes more : List ℕ) (es fs : Entries) (made : AreRelvars sizes [] es) (others : AreRelvars more [] fs) (alike : Alike some es fs) (values : HasValues some es fs)
    (apart : IsApart some es)
  where
    pub known-alike : (name : Name) → unknown some es name ≡ false → Gives (found (Ok []) (known_in es) name) (found (Ok []) (known_in fs) name)
    known-alike =
        each-known relvar_meaning (Ok []) Gives IsLikeAndValued (λ x y same. same.0) relvar-gives some sizes more es fs made others (both-same some es fs alike values) apart

    module _ (f : Place → Place) (kinds : List ℕ) where
      pub meaning-alike : (t : Tree) (rows : List Row) → names_any some t ≡ false → IsTypedTree kinds (headings_of es) t → meaning_in es t ≡ Ok rows → meaning_in fs (moved_tree f t) ≡ Ok rows
      meaning-alike t rows none is e = meaning-gives f (unknown some es) (known_in es) (known_in fs) known-alike plainly t (names-known es kinds some t none is) rows e

      pub truth-alike : (t : Test) (b : Bool) → test_names_any some t ≡ false → IsTypedTest kinds (headings_of es) t → truth_in es t ≡ Ok b → truth_in fs (moved_test f t) ≡ Ok b
      truth-alike t b none is e = truth-gives f (unknown some es) (known_in es) (known_in fs) known-alike t (test-names-known es kinds some t none is) b e

      pub holds-alike : (t : Test) → test_names_any some t ≡ false → IsTypedTest kinds (headings_of es) t → holds_in es t ≡ true → holds_in fs (moved_test f t) ≡ true
      holds-alike t none is e = ap is_held (truth-alike t true none is (held-true (truth_in es t) e))

-- A typed node names what its operands name.
--     then-any, then-known, given-of      what holds of all that is given, and of what was given
--     infix-names, projection-names, ..      of each rule
--     literal-names      a literal names nothing
use Rattle.std.proofs.Common.{◌≡◌, ℕ, Bool, false, List, [], ◌∷◌, Ok, Err, refl, subst}
use Rattle.std.specs.Prelude.{◌||◌, IfOk}
use Rattle.base_core.specs.Outcomes.{then_give}
use Rattle.point_core.specs.declared.fault.Place.{Place}
use Rattle.point_core.specs.Faults.{OrFault}
use Rattle.utd_syntax.specs.declared.words.EmptinessWord.{EmptinessWord}
use Rattle.utd_syntax.specs.declared.words.EmptinessWord.TheVariants.{IsEmpty, IsNotEmpty}
use Rattle.utd_syntax.specs.declared.words.PackWord.{PackWord}
use Rattle.utd_syntax.specs.declared.words.PackWord.TheVariants.{Pack, Unpack}
use Rattle.utd_syntax.specs.Plain as syntax
use Rattle.utd_syntax.specs.Plain.{NameListP, ProjectionP, RenamingsP, ScalarP, SetsP, NamesP, AggregatesP, LiteralP}
use Rattle.value_core.specs.declared.list.OrdinalNames.{OrdinalNames}
use Rattle.value_core.specs.Values.{Name, Heading}
use Rattle.tree_core.specs.declared.test.RelateWord.{RelateWord}
use Rattle.tree_core.specs.declared.tree.InfixWord.{InfixWord}
use Rattle.tree_core.specs.Trees.{Tree, heading_of, Test}
use Rattle.tree_core.specs.Uses.{names_any, test_names_any}
use Rattle.point_core.specs.declared.fault.Code.TheVariants.{E13}
use Rattle.relation_core.specs.Parts.{attributes_at}
use Rattle.meaning_core.specs.Meanings.{positions_of}
use Rattle.relation_typing.specs.Headings.{heading_typed, same_heading}
use Rattle.relation_typing.specs.Literals.{tuple_typed, tuples_typed, literal_typed}
use Rattle.node_typing.specs.Infixes.{infix_heading}
use Rattle.node_typing.specs.Lists.{words_of, list_checked}
use Rattle.node_typing.specs.Positions.{check}
use Rattle.node_typing.specs.Projections.{projection_kept, renaming_names}
use Rattle.node_typing.specs.Rows.{item_list, condition_typed, extension_made}
use Rattle.node_typing.specs.Summaries.{groups_typed, aggregates_made}
use Rattle.node_typing.specs.Sweeps.{all_kept, none_assigned, swept, sets_swept, aggregates_name_no}
use Rattle.node_typing.specs.Nodes.{infix_rule, projection_rule, renaming_rule, restriction_rule, extension_rule, summary_rule, packed_by, packing_rule, comparison_rule, using_comparison_rule, emptiness_test}
use Rattle.node_typing.specs.Usings.{using_infix_rule, using_projection_rule, using_restriction_rule, using_extension_rule, using_summary_rule}

pub then-any : {A B : Type 0} → (P : B → Type 0) (m : OrFault A) (g : A → OrFault B) → ((a : A) → IfOk (g a) P) → IfOk (then_give m g) P
then-any P (Ok a) g h = h a
then-any P (Err e) g h = tt

pub then-known : {A B : Type 0} → (Q : A → Type 0) (P : B → Type 0) (m : OrFault A) (g : A → OrFault B) → IfOk m Q → ((a : A) → Q a → IfOk (g a) P) → IfOk (then_give m g) P
then-known Q P (Ok a) g q h = h a q
then-known Q P (Err e) g q h = tt

pub given-of : {B : Type 0} → (P : B → Type 0) (m : OrFault B) (b : B) → IfOk m P → m ≡ Ok b → P b
given-of {B = B} P m b h e = subst (λ (x : OrFault B). IfOk x P) e h

module _ (some : Name → Bool) where
  abbrev pub NamesAs : Bool → Tree → Type 0
  NamesAs b t = names_any some t ≡ b

  abbrev pub TestNamesAs : Bool → Test → Type 0
  TestNamesAs b t = test_names_any some t ≡ b

  pub infix-names : (p : Place) (word : InfixWord) (l r : Tree) → IfOk (infix_rule p word l r) (NamesAs (names_any some l || names_any some r))
  infix-names p word l r = then-any (NamesAs (names_any some l || names_any some r)) (infix_heading p word (heading_of l) (heading_of r)) _ (λ _. refl)

  module _ (t : Tree) where
    abbrev pub AsOperand : Tree → Type 0
    AsOperand u = NamesAs (names_any some t) u

    pub projection-names : (p : ProjectionP) → IfOk (projection_rule p t) AsOperand
    projection-names p = then-any AsOperand (projection_kept p (heading_of t)) _ (λ _. refl)

    pub renaming-names : (p : Place) (r : RenamingsP) → IfOk (renaming_rule p r t) AsOperand
    renaming-names p r = then-any AsOperand (renaming_names r (heading_of t)) _ (λ _. refl)

    packed-names : (p : Place) (word : PackWord) (h : Heading) (list : List ℕ) → AsOperand (packed_by word p h list t)
    packed-names p Pack h list = refl
    packed-names p Unpack h list = refl

    pub packing-names : (p : Place) (word : PackWord) (list : NameListP) → IfOk (packing_rule p word list t) AsOperand
    packing-names p word list = then-any AsOperand (list_checked (heading_of t) (heading_of t) list) _ (λ names. packed-names p word (heading_of t) (positions_of (heading_of t) names))

    pub using-projection-names : (p : Place) (list : NameListP) (x : ProjectionP) → IfOk (using_projection_rule p list x t) AsOperand
    using-projection-names p list x =
        then-any AsOperand (list_checked (heading_of t) (heading_of t) list) _ (λ _. then-any AsOperand (projection_kept x (heading_of t)) _ (λ kept.
        then-any AsOperand (all_kept (attributes_at kept (heading_of t)) (words_of list)) _ (λ _. refl)))

    module _ (types : List OrdinalNames) where
      pub restriction-names : (p : Place) (s : ScalarP) → IfOk (restriction_rule types p s t) AsOperand
      restriction-names p s = then-any AsOperand (condition_typed types p (heading_of t) s) _ (λ _. refl)

      pub extension-names : (p : Place) (sets : SetsP) → IfOk (extension_rule types p sets t) AsOperand
      extension-names p sets = then-any AsOperand (extension_made types p (heading_of t) sets) _ (λ _. refl)

      pub summary-names : (p : Place) (by : NamesP) (aggregates : AggregatesP) → IfOk (summary_rule types p by aggregates t) AsOperand
      summary-names p by aggregates = then-any AsOperand (groups_typed (heading_of t) by) _ (λ at. then-any AsOperand (aggregates_made types p (heading_of t) at aggregates) _ (λ _. refl))

      pub using-restriction-names : (p : Place) (list : NameListP) (at : Place) (s : ScalarP) → IfOk (using_restriction_rule types p list at s t) AsOperand
      using-restriction-names p list at s =
          then-any AsOperand (list_checked (heading_of t) (heading_of t) list) _ (λ names. then-any AsOperand (condition_typed types at (heading_of t) s) _ (λ c.
          then-any AsOperand (swept (positions_of (heading_of t) names) c) _ (λ _. refl)))

      pub using-extension-names : (p : Place) (list : NameListP) (at : Place) (sets : SetsP) → IfOk (using_extension_rule types p list at sets t) AsOperand
      using-extension-names p list at sets =
          then-any AsOperand (list_checked (heading_of t) (heading_of t) list) _ (λ names. then-any AsOperand (extension_made types at (heading_of t) sets) _ (λ made.
          then-any AsOperand (none_assigned names (item_list sets)) _ (λ _. then-any AsOperand (sets_swept (positions_of (heading_of t) names) made.0) _ (λ _. refl))))

      pub using-summary-names : (p : Place) (list : NameListP) (at : Place) (by : NamesP) (aggregates : AggregatesP) → IfOk (using_summary_rule types p list at by aggregates t) AsOperand
      using-summary-names p list at by aggregates =
          then-any AsOperand (list_checked (heading_of t) (heading_of t) list) _ (λ names. then-any AsOperand (groups_typed (heading_of t) by) _
          (λ groups. then-any AsOperand (aggregates_made types at (heading_of t) groups aggregates) _ (λ made.
          then-any AsOperand (all_kept (attributes_at groups (heading_of t)) (words_of list)) _
          (λ _. then-any AsOperand (aggregates_name_no (positions_of (heading_of t) names) made.0) _ (λ _. refl)))))

  module _ (l r : Tree) where
    abbrev pub AsBoth : Tree → Type 0
    AsBoth u = NamesAs (names_any some l || names_any some r) u

    abbrev pub TestAsBoth : Test → Type 0
    TestAsBoth u = TestNamesAs (names_any some l || names_any some r) u

    pub using-infix-names : (p : Place) (list : NameListP) (at : Place) (word : InfixWord) → IfOk (using_infix_rule p list at word l r) AsBoth
    using-infix-names p list at word =
        then-any AsBoth (list_checked (heading_of l) (heading_of r) list) _ (λ _. then-known AsBoth AsBoth (infix_rule at word l r) _ (infix-names at word l r) (λ _ e. e))

    pub comparison-names : (p : Place) (word : RelateWord) → IfOk (comparison_rule p word l r) TestAsBoth
    comparison-names p word = then-any TestAsBoth (check p E13 (same_heading (heading_of l) (heading_of r))) _ (λ _. refl)

    pub using-comparison-names : (list : NameListP) (p : Place) (word : RelateWord) → IfOk (using_comparison_rule list p word l r) TestAsBoth
    using-comparison-names list p word =
        then-any TestAsBoth (list_checked (heading_of l) (heading_of r) list) _ (λ _. then-any TestAsBoth (check p E13 (same_heading (heading_of l) (heading_of r))) _ (λ _. refl))

  pub emptiness-names : (p : Place) (word : EmptinessWord) (t : Tree) → test_names_any some (emptiness_test p word t) ≡ names_any some t
  emptiness-names p IsEmpty t = refl
  emptiness-names p IsNotEmpty t = refl

  pub literal-names : (types : List OrdinalNames) (l : LiteralP) → IfOk (literal_typed types l) (NamesAs false)
  literal-names types (syntax.Headed at heading tuples) =
      then-any (NamesAs false) (heading_typed types heading) _ (λ made. then-any (NamesAs false) (tuples_typed types made [] tuples) _ (λ _. refl))
  literal-names types (syntax.Tuples at first more) =
      then-any (NamesAs false) (tuple_typed types first) _ (λ made. then-any (NamesAs false) (tuples_typed types made.1 (made.0 ∷ []) more) _ (λ _. refl))

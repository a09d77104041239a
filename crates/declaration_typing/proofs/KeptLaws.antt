-- What VAR KEPT declares keeps a state well made: it has the form of a kept view, over base relvars.
use Rattle.std.specs.Prelude.{◌≡◌, Bool, true, false, not, Option, Some, None, Ok, Err, IfOk, IsTrue, refl}
use Rattle.std.proofs.Common.{ap}
use Rattle.std.proofs.lemmas.Bool.{and_from, or_from}
use Rattle.point_core.specs.declared.fault.Code.TheVariants.{E10, E20}
use Rattle.point_core.specs.declared.fault.Place.{Place}
use Rattle.point_core.specs.Faults.{OrFault}
use Rattle.utd_syntax.specs.declared.words.PackWord.TheVariants.{Pack}
use Rattle.utd_syntax.specs.Plain as syntax
use Rattle.utd_syntax.specs.Plain.{Word, NameListP, ProjectionP, KeptP}
use Rattle.value_core.specs.Values.{Name, Heading}
use Rattle.scalar_typing.specs.Typings.{◌>>=◌, value_or}
use Rattle.scalar_typing.proofs.SoundLemmas.{then-sound, any-given}
use Rattle.relation_core.specs.Parts.{attributes_at}
use Rattle.relation_typing.specs.Attributes.{name_typed}
use Rattle.tree_core.specs.Relvars.{State, PlainRelvar, base, view, log, stored, relvar_named, relvar_heading}
use Rattle.tree_core.specs.Trees.{Tree, named, heading_of}
use Rattle.tree_core.specs.Uses.{names_any}
use Rattle.tree_core.specs.declared.tree.InfixWord.{InfixWord}
use Rattle.tree_core.specs.declared.tree.InfixWord.TheVariants.{NotMatching}
use Rattle.meaning_core.specs.Declarations.{with_relvar}
use Rattle.meaning_core.specs.StoredViews.{is_name, is_stored_part}
use Rattle.meaning_core.specs.WellMade.{is_base, is_base_in, IsOfKind, IsTypedFor, IsWellMade}
use Rattle.node_typing.specs.Infixes.{infix_heading, infix_named}
use Rattle.node_typing.specs.Lists.{list_checked, words_of}
use Rattle.node_typing.specs.Nodes.{infix_rule, packing_rule}
use Rattle.node_typing.specs.Positions.{check}
use Rattle.node_typing.specs.Projections.{projection_kept}
use Rattle.node_typing.specs.Sweeps.{all_kept}
use Rattle.node_typing.specs.Usings.{using_infix_rule, using_projection_rule}
use Rattle.tree_typing.specs.Kept.{infix_of_names, kept_rel}
use Rattle.tree_typing.specs.Scopes.{scope_of}
use Rattle.tree_typing.specs.Trees.{relvar_typed, tree_typed}
use Rattle.declaration_typing.specs.Constraints.{base_heading}
use Rattle.declaration_typing.specs.KeptViews.{base_named, both_named, bases_named, kept_declared}
use Rattle.declaration_typing.specs.Names.{new_name}
use Rattle.declaration_typing.specs.Views.{room_for_view}
use Rattle.declaration_typing.proofs.StateLemmas.{IsFree, free-name, with-relvar}

module _ (s : State) where
  abbrev is_other : Name → Bool
  is_other name = not (is_base_in s.relvars name)

  -- an expression that is the name of a base relvar
  abbrev IsBaseName : Tree → Type 0
  IsBaseName t = IsTrue (is_name t) × (names_any is_other t ≡ false)

  -- ---- operands

  base-found : (w : Word) (name : Name) (h : Heading) (o : Option PlainRelvar) → relvar_named s.relvars name ≡ o → base_heading w.place o ≡ Ok h
      → IfOk (value_or w.place E10 o >>= (λ found. check w.place E20 true >>= (λ _. Ok (named w.place (relvar_heading found) name)))) IsBaseName
  base-found w name h None e p = tt
  base-found w name h (Some (base v cs)) e p = (refl, ap (λ (o : Option PlainRelvar). not (is_base o)) e)
  base-found w name h (Some (view t kind)) e p = absurd (cc)
  base-found w name h (Some (log of side last v)) e p = absurd (cc)

  base-operand : (w : Word) (h : Heading) → base_named s w ≡ Ok h → IfOk (relvar_typed (scope_of s) w) IsBaseName
  base-operand w h e = by (name_typed w) e
    where
      by : (n : OrFault Name) → (n >>= (λ name. base_heading w.place (relvar_named s.relvars name))) ≡ Ok h
          → IfOk (n >>= (λ name. value_or w.place E10 (relvar_named s.relvars name) >>= (λ found. check w.place E20 true >>= (λ _. Ok (named w.place (relvar_heading found) name))))) IsBaseName
      by (Ok name) p = base-found w name h (relvar_named s.relvars name) refl p
      by (Err f) p = tt

  -- what both give, each gives
  both-given : (x y : OrFault Heading) (h : Heading) → (x >>= (λ left. y)) ≡ Ok h → ((a : Heading) × (x ≡ Ok a)) × (y ≡ Ok h)
  both-given (Ok a) y h e = ((a, refl), e)
  both-given (Err f) y h e = absurd (cc)

  -- ---- the expression

  abbrev IsForm : Tree → Type 0
  IsForm t = IsOfKind s.relvars t stored

  -- a part of USING that has the form
  abbrev IsPart : Tree → Type 0
  IsPart t = IsTrue (is_stored_part t) × (names_any is_other t ≡ false)

  infix-form : (place : Place) (list : NameListP) (at : Place) (word : InfixWord) (l r : Tree) → IsBaseName l → IsBaseName r → IfOk (using_infix_rule place list at word l r) IsForm
  infix-form place list at word l r left right =
      then-sound (λ _. Unit {0}) IsForm (list_checked (heading_of l) (heading_of r) list) _ (any-given (list_checked (heading_of l) (heading_of r) list)) (λ names _.
      then-sound IsPart IsForm (infix_rule at word l r) _
      (then-sound (λ _. Unit {0}) IsPart (infix_heading at word (heading_of l) (heading_of r)) _ (any-given (infix_heading at word (heading_of l) (heading_of r))) (λ heading _.
      (and_from (is_name l) (is_name r) left.0 right.0, or_from (names_any is_other l) (names_any is_other r) left.1 right.1)))
      (λ part is. is))

  projection-form : (place : Place) (list : NameListP) (p : ProjectionP) (t : Tree) → IsBaseName t → IfOk (using_projection_rule place list p t) IsForm
  projection-form place list p t is =
      then-sound (λ _. Unit {0}) IsForm (list_checked (heading_of t) (heading_of t) list) _ (any-given (list_checked (heading_of t) (heading_of t) list)) (λ names _.
      then-sound (λ _. Unit {0}) IsForm (projection_kept p (heading_of t)) _ (any-given (projection_kept p (heading_of t))) (λ kept _.
      then-sound (λ _. Unit {0}) IsForm (all_kept (attributes_at kept (heading_of t)) (words_of list)) _ (any-given (all_kept (attributes_at kept (heading_of t)) (words_of list))) (λ _ _. is)))

  packing-form : (place : Place) (list : NameListP) (t : Tree) → IsBaseName t → IfOk (packing_rule place Pack list t) IsForm
  packing-form place list t is =
      then-sound (λ _. Unit {0}) IsForm (list_checked (heading_of t) (heading_of t) list) _ (any-given (list_checked (heading_of t) (heading_of t) list)) (λ names _. is)

  both-form : (place : Place) (list : NameListP) (at : Place) (word : InfixWord) (l r : Word) (h : Heading) → both_named s l r ≡ Ok h
      → IfOk (infix_of_names (scope_of s) place list at word l r) IsForm
  both-form place list at word l r h e =
      let both = both-given (base_named s l) (base_named s r) h e in
      then-sound IsBaseName IsForm (relvar_typed (scope_of s) l) _ (base-operand l both.0.0 both.0.1) (λ left here.
      then-sound IsBaseName IsForm (relvar_typed (scope_of s) r) _ (base-operand r h both.1) (λ right there. infix-form place list at word left right here there))

  kept-form : (kept : KeptP) (h : Heading) → bases_named s kept ≡ Ok h → IfOk (tree_typed s (kept_rel kept)) IsForm
  unfolding tree_typed
  kept-form (syntax.KeptInfix place list l at word r) h e = both-form place list at (infix_named word) l r h e
  kept-form (syntax.KeptNotMatching place list l at r) h e = both-form place list at NotMatching l r h e
  kept-form (syntax.KeptProject place list w p) h e =
      then-sound IsBaseName IsForm (relvar_typed (scope_of s) w) _ (base-operand w h e) (λ t is. projection-form place list p t is)
  kept-form (syntax.KeptPack place w list) h e =
      then-sound IsBaseName IsForm (relvar_typed (scope_of s) w) _ (base-operand w h e) (λ t is. packing-form place list t is)

  -- ---- the view

  both-sound : {X : Type 0} (P Q : X → Type 0) (x : OrFault X) → IfOk x P → IfOk x Q → IfOk x (λ a. P a × Q a)
  both-sound P Q (Ok a) p q = (p, q)
  both-sound P Q (Err e) p q = tt

  same-given : {X : Type 0} (x : OrFault X) → IfOk x (λ a. x ≡ Ok a)
  same-given (Ok a) = refl
  same-given (Err e) = tt

  abbrev IsKept : Name × Tree → Type 0
  IsKept d = IsWellMade (with_relvar s d.0 (view d.1 stored))

  -- where expressions are typed for the state
  pub kept-kept : (w : Word) (kept : KeptP) → IsWellMade s → IfOk (tree_typed s (kept_rel kept)) (IsTypedFor s) → IfOk (kept_declared s w kept) IsKept
  unfolding kept_declared
  kept-kept w kept made typed =
      then-sound (IsFree s) IsKept (new_name s w) _ (free-name s w) (λ name free.
      then-sound (λ h. bases_named s kept ≡ Ok h) IsKept (bases_named s kept) _ (same-given (bases_named s kept)) (λ h bases.
      then-sound (λ t. IsTypedFor s t × IsForm t) IsKept (tree_typed s (kept_rel kept)) _
      (both-sound (IsTypedFor s) IsForm (tree_typed s (kept_rel kept)) typed (kept-form kept h bases)) (λ t is.
      then-sound (λ (_ : Unit {0}). Unit {0}) IsKept (room_for_view s w.place t) _ (any-given (room_for_view s w.place t)) (λ _ _.
      with-relvar s name (view t stored) made free is))))

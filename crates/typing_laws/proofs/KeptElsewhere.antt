-- The operands of a stored view at other places, and in a state where the relvars that they name are alike.
--     bases-elsewhere      each is a base relvar there
--     kept-elsewhere      the expression over them is typed there, moved
use Rattle.std.proofs.Common.{◌≡◌, Bool, false, List, ◌++◌, Ok, refl, sym, ap, ◌∙◌, subst}
use Rattle.std.specs.Prelude.{◌||◌, IfOk}
use Rattle.std.proofs.lemmas.Bool.{or_parts}
use Rattle.base_core.specs.Outcomes.{then_give}
use Rattle.point_core.specs.declared.fault.Code.TheVariants.{E10}
use Rattle.point_core.specs.declared.fault.Place.{Place}
use Rattle.point_core.specs.Faults.{OrFault}
use Rattle.utd_syntax.specs.declared.words.PackWord.TheVariants.{Pack}
use Rattle.utd_syntax.specs.Plain as syntax
use Rattle.utd_syntax.specs.Plain.{Word, RelP, KeptP}
use Rattle.value_core.specs.declared.list.OrdinalNames.{OrdinalNames}
use Rattle.value_core.specs.Values.{Name, Heading}
use Rattle.scalar_typing.specs.Typings.{value_or}
use Rattle.relation_typing.specs.Attributes.{name_typed}
use Rattle.tree_core.specs.declared.tree.InfixWord.TheVariants.{NotMatching}
use Rattle.tree_core.specs.Relvars.{State, relvar_named, relvar_heading}
use Rattle.tree_core.specs.Trees.{Tree, named}
use Rattle.tree_core.specs.Uses.{names_any}
use Rattle.node_typing.specs.Infixes.{infix_named}
use Rattle.node_typing.specs.Nodes.{packing_rule}
use Rattle.node_typing.specs.Usings.{using_infix_rule, using_projection_rule}
use Rattle.tree_typing.specs.Kept.{kept_rel}
use Rattle.tree_typing.specs.Scopes.{scope_of}
use Rattle.tree_typing.specs.Trees.{relvar_typed, tree_typed}
use Rattle.tree_typing.proofs.NodeNames.{given-of, packing-names, using-infix-names, using-projection-names}
use Rattle.declaration_typing.specs.Constraints.{base_heading}
use Rattle.declaration_typing.specs.KeptViews.{base_named, both_named, bases_named}
use Rattle.place_laws.specs.Moved.{moved_word, moved_rel, moved_kept}
use Rattle.meaning_laws.specs.Likeness.{Alike}
use Rattle.meaning_laws.specs.Moved.{moved_tree}
use Rattle.row_typing_laws.proofs.ElsewhereNames.{word-follows}
use Rattle.row_typing_laws.proofs.Parts.{parts-of, joined-of}
use Rattle.typing_laws.proofs.SameGiven.{ok-same}
use Rattle.typing_laws.proofs.ConstraintsElsewhere.{base-elsewhere}
use Rattle.typing_laws.proofs.TreesElsewhere.{tree-elsewhere}

-- the expression of what is moved is the moved one
kept-moved : (f : Place → Place) (kept : KeptP) → moved_rel f (kept_rel kept) ≡ kept_rel (moved_kept f kept)
kept-moved f (syntax.KeptInfix place list l at word r) = refl
kept-moved f (syntax.KeptNotMatching place list l at r) = refl
kept-moved f (syntax.KeptProject place list w p) = refl
kept-moved f (syntax.KeptPack place w list) = refl

module _ (f : Place → Place) (some : Name → Bool) (s r : State) (alike : Alike some s.relvars r.relvars) where
  -- ---- operands

  -- one whose expression names none of some
  base-there : (w : Word) (t : Tree) (g : Heading) → names_any some t ≡ false → relvar_typed (scope_of s) w ≡ Ok t → base_named s w ≡ Ok g → base_named r (moved_word f w) ≡ Ok g
  base-there w t g none typed h =
      let name = parts-of (name_typed w) _ t typed in
      let found = parts-of (value_or w.place E10 (relvar_named s.relvars name.0)) _ t name.2 in
      let same : named w.place (relvar_heading found.0) name.0 ≡ t =
      ok-same (named w.place (relvar_heading found.0) name.0) t (Ok (named w.place (relvar_heading found.0) name.0)) refl found.2 in
      let other : some name.0 ≡ false = ap (names_any some) same ∙ none in
      let here : base_heading w.place (relvar_named s.relvars name.0) ≡ Ok g =
      sym (ap (λ (m : OrFault Name). then_give m (λ n. base_heading w.place (relvar_named s.relvars n))) name.1) ∙ h in
      joined-of (name_typed (moved_word f w)) _ name.0 g (word-follows f w name.0 name.1)
      (base-elsewhere w.place (f w.place) (relvar_named s.relvars name.0) (relvar_named r.relvars name.0) g (alike name.0 other) here)

  -- the operand of an expression that names none of some, and the two operands of one
  one-there : (w : Word) (rule : Tree → OrFault Tree) (t : Tree) (g : Heading) → ((a : Tree) → IfOk (rule a) (λ b. names_any some b ≡ names_any some a)) → names_any some t ≡ false
      → then_give (relvar_typed (scope_of s) w) rule ≡ Ok t → base_named s w ≡ Ok g → base_named r (moved_word f w) ≡ Ok g
  one-there w rule t g names none h bases =
      let part = parts-of (relvar_typed (scope_of s) w) rule t h in
      let same : names_any some t ≡ names_any some part.0 = given-of (λ b. names_any some b ≡ names_any some part.0) (rule part.0) t (names part.0) part.2 in
      base-there w part.0 g (sym same ∙ none) part.1 bases

  two-there : (l k : Word) (rule : Tree → Tree → OrFault Tree) (t : Tree) (g : Heading)
      → ((a b : Tree) → IfOk (rule a b) (λ c. names_any some c ≡ (names_any some a || names_any some b))) → names_any some t ≡ false
      → then_give (relvar_typed (scope_of s) l) (λ a. then_give (relvar_typed (scope_of s) k) (rule a)) ≡ Ok t → both_named s l k ≡ Ok g
      → both_named r (moved_word f l) (moved_word f k) ≡ Ok g
  two-there l k rule t g names none h bases =
      let left = parts-of (relvar_typed (scope_of s) l) (λ a. then_give (relvar_typed (scope_of s) k) (rule a)) t h in
      let right = parts-of (relvar_typed (scope_of s) k) (rule left.0) t left.2 in
      let same : names_any some t ≡ (names_any some left.0 || names_any some right.0) =
      given-of (λ c. names_any some c ≡ (names_any some left.0 || names_any some right.0)) (rule left.0 right.0) t (names left.0 right.0) right.2 in
      let parts = or_parts (names_any some left.0) (names_any some right.0) (sym same ∙ none) in
      let first = parts-of (base_named s l) _ g bases in
      joined-of (base_named r (moved_word f l)) _ first.0 g (base-there l left.0 first.0 parts.0 left.1 first.1) (base-there k right.0 g parts.1 right.1 first.2)

  pub bases-elsewhere : (kept : KeptP) (t : Tree) (g : Heading) → names_any some t ≡ false → tree_typed s (kept_rel kept) ≡ Ok t → bases_named s kept ≡ Ok g
      → bases_named r (moved_kept f kept) ≡ Ok g
  unfolding tree_typed
  bases-elsewhere (syntax.KeptInfix place list l at word k) t g none h bases =
      two-there l k (using_infix_rule place list at (infix_named word)) t g (λ a b. using-infix-names some a b place list at (infix_named word)) none h bases
  bases-elsewhere (syntax.KeptNotMatching place list l at k) t g none h bases =
      two-there l k (using_infix_rule place list at NotMatching) t g (λ a b. using-infix-names some a b place list at NotMatching) none h bases
  bases-elsewhere (syntax.KeptProject place list w p) t g none h bases =
      one-there w (using_projection_rule place list p) t g (λ a. using-projection-names some a place list p) none h bases
  bases-elsewhere (syntax.KeptPack place w list) t g none h bases = one-there w (packing_rule place Pack list) t g (λ a. packing-names some a place Pack list) none h bases

  -- ---- the expression

  pub kept-elsewhere : (more : List OrdinalNames) → r.ordinals ≡ s.ordinals ++ more → (kept : KeptP) (t : Tree) → names_any some t ≡ false → tree_typed s (kept_rel kept) ≡ Ok t
      → tree_typed r (kept_rel (moved_kept f kept)) ≡ Ok (moved_tree f t)
  kept-elsewhere more types kept t none h =
      subst (λ (rel : RelP). tree_typed r rel ≡ Ok (moved_tree f t)) (kept-moved f kept) (tree-elsewhere f some s r more alike types (kept_rel kept) t none h)

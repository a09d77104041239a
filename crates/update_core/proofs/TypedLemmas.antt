-- The assignments of an item other than TERMINATE that is typed for a well made state are typed for it.
use Rattle.std.specs.Prelude.{◌≡◌, ℕ, ◌<◌, List, [], length, Option, Some, None, IsTrue, refl}
use Rattle.std.specs.List.{list_all, All}
use Rattle.std.proofs.Common.{sym, ◌∙◌, subst}
use Rattle.std.proofs.lemmas.Bool.{and_parts}
use Rattle.std.proofs.lemmas.List.Elements.{All-cons, All-nil}
use Rattle.base_core.proofs.SetLemmas.{Ascends}
use Rattle.value_core.specs.Values.{Name, Heading, is_heading, attribute_cmp}
use Rattle.scalar_core.specs.Expressions.{Expr}
use Rattle.relation_core.proofs.HeadingLemmas.{heading_ascends}
use Rattle.tree_core.specs.declared.tree.InfixWord.{InfixWord}
use Rattle.tree_core.specs.declared.tree.InfixWord.TheVariants.{Union, Minus}
use Rattle.tree_core.specs.Items.{PlainChange, PlainItemForm, set_to, insert, delete, delete_rows, update, terminate, PlainItem}
use Rattle.tree_core.specs.Relvars.{State}
use Rattle.tree_core.specs.Trees.{PlainSets, Tree, infix_of, restrict, extend, heading_of}
use Rattle.meaning_core.specs.Meanings.{names_at}
use Rattle.meaning_core.specs.Typing.{IsList, IsListIf, IsInfix, IsExtension, is_kind, is_declared, is_part}
use Rattle.meaning_core.specs.Updates.{are_swept_sets, IsBaseOf, IsChange, IsTypedForm, IsTypedItem, IsTypedAssignment}
use Rattle.meaning_core.specs.WellMade.{IsWellMade, IsTypedFor, sizes_of}
use Rattle.update_core.specs.Updates.{negated, target_of, under_using, with_operand, rows_where, other_rows, changed_rows, updated, condition_of, condition_of_change, list_of_change, source_of, assigned_to, expanded, IsExpandable}
use Rattle.update_core.proofs.ConditionLemmas.{all-in, IsCondition, negated-typed, condition-typed, change-typed, change-list, IsSweptIf, condition-swept, negated-swept, change-swept}
use Rattle.update_core.proofs.NameLemmas.{base-heading, base-declared}
use Rattle.update_core.proofs.PartLemmas.{AreWithin, infix-part, restrict-part, extend-part}

-- the parts of an item other than TERMINATE are typed for a base relvar of its heading
form-base : (s : State) (target : Name) (heading : Heading) (form : PlainItemForm) → IsExpandable form → IsTypedForm s target heading form → IsBaseOf s target heading
form-base s target heading (set_to t) other h = h.0
form-base s target heading (insert commalist t) other h = h.0
form-base s target heading (delete commalist t) other h = h.0
form-base s target heading (delete_rows change) other h = h.0
form-base s target heading (update change sets) other h = h.0
form-base s target heading (terminate at place condition) other h = absurd other

module _ (s : State) (item : PlainItem) (made : IsWellMade s) (is : IsBaseOf s item.target item.heading) where
  -- typed, and of the target's heading
  abbrev IsSource : Tree → Type 0
  IsSource t = IsTypedFor s t × (heading_of t ≡ item.heading)

  up : Ascends attribute_cmp item.heading
  up =
      let declared = subst (λ (h : Heading). IsTrue (is_declared (sizes_of s.ordinals) h)) (sym is.1) (base-declared (sizes_of s.ordinals) [] s.relvars item.target made.relvars is.0) in
      heading_ascends item.heading ((and_parts (is_heading item.heading) (list_all (λ a. is_kind (sizes_of s.ordinals) a.1) item.heading) declared).0)

  within : (commalist : List ℕ) → IsList item.heading commalist → AreWithin item.heading commalist
  within commalist l i k = all-in (λ (j : ℕ). j < length item.heading) commalist i l.within k

  target-source : IsSource (target_of item)
  target-source = (base-heading s.relvars item.target item.heading is.0 is.1, refl)

  -- ---- under USING

  abbrev IsPartIf : Option (List ℕ) → Tree → Type 0
  IsPartIf None t = Unit {0}
  IsPartIf (Some commalist) t = IsTrue (is_part (names_at item.heading commalist) t)

  under-source : (commalist : Option (List ℕ)) (t : Tree) → IsListIf item.heading commalist → IsPartIf commalist t → IsSource t → IsSource (under_using item commalist t)
  under-source None t l p k = k
  under-source (Some commalist) t l p k = ((k.0, l, sym k.1, p), refl)

  infix-if : (commalist : Option (List ℕ)) (word : InfixWord) (l r : Tree) → IsListIf item.heading commalist → heading_of l ≡ item.heading → heading_of r ≡ item.heading → IsPartIf commalist (infix_of item.place item.heading word l r)
  infix-if None word l r list e f = tt
  infix-if (Some commalist) word l r list e f = infix-part item.heading commalist up (within commalist list) item.place word l r e f

  restrict-if : (commalist : Option (List ℕ)) (c : Expr) (t : Tree) → IsListIf item.heading commalist → heading_of t ≡ item.heading → IsSweptIf commalist c → IsPartIf commalist (restrict item.place item.heading c t)
  restrict-if None c t list e swept = tt
  restrict-if (Some commalist) c t list e swept = restrict-part item.heading commalist up (within commalist list) item.place c t e swept

  extend-if : (commalist : Option (List ℕ)) (sets : PlainSets) (t : Tree) → IsListIf item.heading commalist → heading_of t ≡ item.heading → IsTrue (are_swept_sets item.heading commalist sets) → IsPartIf commalist (extend item.place item.heading sets t)
  extend-if None sets t list e swept = tt
  extend-if (Some commalist) sets t list e swept = extend-part item.heading commalist up (within commalist list) item.place sets t e swept

  -- ---- expressions

  operand-source : (commalist : Option (List ℕ)) (word : InfixWord) (t : Tree) → IsListIf item.heading commalist → IsSource t → IsInfix word item.heading (heading_of t) item.heading → IsSource (with_operand item commalist word t)
  operand-source commalist word t list k joins =
      under-source commalist (infix_of item.place item.heading word (target_of item) t) list (infix-if commalist word (target_of item) t list refl k.1) ((target-source.0, k.0, joins), refl)

  module _ (commalist : Option (List ℕ)) (list : IsListIf item.heading commalist) where
    rows-source : (c : Expr) → IsCondition (sizes_of s.ordinals) item.heading item.place c → IsSweptIf commalist c → IsSource (rows_where item commalist c)
    rows-source c typed swept =
        under-source commalist (restrict item.place item.heading c (target_of item)) list (restrict-if commalist c (target_of item) list refl swept)
        ((target-source.0, record { condition = typed; headed = refl }), refl)

    module _ (c : Expr) (typed : IsCondition (sizes_of s.ordinals) item.heading item.place c) (swept : IsSweptIf commalist c) where
      others-source : IsSource (other_rows item commalist c)
      others-source = rows-source (negated item.place c) (negated-typed (sizes_of s.ordinals) item.heading item.place c typed) (negated-swept commalist item.place c swept)

      module _ (sets : PlainSets) (made_of : IsExtension (sizes_of s.ordinals) item.heading item.heading sets) (swept_sets : IsTrue (are_swept_sets item.heading commalist sets)) where
        changed-source : IsSource (changed_rows item commalist c sets)
        changed-source =
            let rows = rows-source c typed swept in
            under-source commalist (extend item.place item.heading sets (rows_where item commalist c)) list (extend-if commalist sets (rows_where item commalist c) list rows.1 swept_sets)
            ((rows.0, subst (λ (h : Heading). IsExtension (sizes_of s.ordinals) h item.heading sets) (sym rows.1) made_of), refl)

        updated-source : IsSource (updated item commalist c sets)
        updated-source =
            let others = others-source in
            let changed = changed-source in
            under-source commalist (infix_of item.place item.heading Union (other_rows item commalist c) (changed_rows item commalist c sets)) list
            (infix-if commalist Union (other_rows item commalist c) (changed_rows item commalist c sets) list others.1 changed.1)
            ((others.0, changed.0, (others.1 ∙ sym changed.1, sym others.1)), refl)

  -- ---- changes

  module _ (change : PlainChange) (h : IsChange (sizes_of s.ordinals) item.heading change) where
    list-of : IsListIf item.heading (list_of_change change)
    list-of = change-list (sizes_of s.ordinals) item.heading change.commalist change.portion h.commalist h.portion

    typed-of : IsCondition (sizes_of s.ordinals) item.heading item.place (condition_of_change item change)
    typed-of =
        change-typed (sizes_of s.ordinals) item.heading item.place change.commalist change.portion (condition_of item.place change.condition) h.portion
        (condition-typed (sizes_of s.ordinals) item.heading item.place change.condition h.condition)

    swept-of : IsSweptIf (list_of_change change) (condition_of_change item change)
    swept-of =
        change-swept (sizes_of s.ordinals) item.heading item.place change.commalist change.portion (condition_of item.place change.condition) h.portion
        (condition-swept (list_of_change change) item.place change.condition h.swept)

  -- ---- items

  one : (t : Tree) → IsSource t → All (IsTypedAssignment s) (assigned_to item (Some t))
  one t k = All-cons (IsTypedAssignment s) (record { target = item.target; tree = t }) [] (record { base = is.0; headed = k.1 ∙ is.1; typed = k.0 }) (All-nil (IsTypedAssignment s))

  of-form : (form : PlainItemForm) → IsExpandable form → IsTypedForm s item.target item.heading form → All (IsTypedAssignment s) (assigned_to item (source_of item form))
  of-form (set_to t) other h = one t (h.1, h.2)
  of-form (insert commalist t) other h = one (with_operand item commalist Union t) (operand-source commalist Union t h.3 (h.1, h.2) (sym h.2, refl))
  of-form (delete commalist t) other h = one (with_operand item commalist Minus t) (operand-source commalist Minus t h.3 (h.1, h.2) (sym h.2, refl))
  of-form (delete_rows change) other h =
      one (other_rows item (list_of_change change) (condition_of_change item change))
      (others-source (list_of_change change) (list-of change h.1) (condition_of_change item change) (typed-of change h.1) (swept-of change h.1))
  of-form (update change sets) other h =
      one (updated item (list_of_change change) (condition_of_change item change) sets)
      (updated-source (list_of_change change) (list-of change h.1) (condition_of_change item change) (typed-of change h.1) (swept-of change h.1) sets h.2 h.3)
  of-form (terminate at place condition) other h = absurd other

pub expanded-typed : (s : State) (item : PlainItem) → IsWellMade s → IsExpandable item.form → IsTypedItem s item → All (IsTypedAssignment s) (expanded item)
expanded-typed s item made other is = of-form s item made (form-base s item.target item.heading item.form other is) item.form other is

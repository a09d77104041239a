-- Typed items are typed for the state.
use Rattle.std.specs.Prelude.{◌≡◌, ℕ, Bool, true, not, List, [], ◌∷◌, ◌++◌, get_or, nat_eq, option_map, Option, Some, None, Ok, IfOk, IsTrue, refl}
use Rattle.std.proofs.Common.{sym, ◌∙◌, ap, subst, inl, inr}
use Rattle.std.specs.List.{list_any, list_all, All}
use Rattle.std.specs.Str.{bytes_eq}
use Rattle.std.proofs.lemmas.Bool.{and_from, not_from_false, false_from_ne_true, eqb-true}
use Rattle.base_core.proofs.SetLemmas.{In}
use Rattle.base_core.proofs.MemberLemmas.{In-append, In-map, list_any-In}
use Rattle.base_core.proofs.ListLemmas.{All-In}
use Rattle.point_core.specs.declared.fault.Place.{Place}
use Rattle.point_core.specs.declared.fault.Code.TheVariants.{E10, E13}
use Rattle.point_core.specs.Faults.{OrFault}
use Rattle.value_core.specs.Attributes.{among}
use Rattle.utd_syntax.specs.Plain as syntax
use Rattle.utd_syntax.specs.Plain.{Word, RelP, SetItemP, SetsP, NameListP, DeletionP, UsedDeletionP, UsedItemP, MaybePortionP, ConditionP, ItemP, AssignP}
use Rattle.value_core.specs.declared.kind.Kind.TheVariants.{Truth}
use Rattle.value_core.specs.Headings.{has_name}
use Rattle.value_core.specs.Values.{Name, Heading, is_heading}
use Rattle.scalar_core.specs.Expressions.{Expr}
use Rattle.relation_core.specs.Agreement.{position_of}
use Rattle.relation_core.specs.Parts.{no_attribute}
use Rattle.relation_core.proofs.HeadingLemmas.{heading_ascends}
use Rattle.relation_typing.specs.Attributes.{name_typed}
use Rattle.relation_typing.specs.Headings.{same_heading}
use Rattle.scalar_typing.specs.Typings.{◌>>=◌, value_or}
use Rattle.scalar_typing.proofs.SoundLemmas.{then-sound, any-given}
use Rattle.tree_core.specs.Relvars.{PlainRelvar, base, view, State, relvar_named, relvar_heading, heading_if, log}
use Rattle.tree_core.specs.Trees.{PlainSets, named, heading_of}
use Rattle.tree_core.specs.Items.{PlainPortion, PlainItemForm, update, PlainItem}
use Rattle.meaning_core.specs.Meanings.{positions_of}
use Rattle.meaning_core.specs.Typing.{IsScalar, IsExtension, is_swept, heading_named}
use Rattle.meaning_core.specs.Updates.{attributes_of_portion, IsPortionIf, IsConditionIf, IsChange, condition_is_swept, are_swept_sets, IsBaseOf, IsTypedForm, IsTypedItem}
use Rattle.meaning_core.specs.WellMade.{sizes_of, headings_of, IsBase, IsWellMade, IsTypedFor}
use Rattle.node_typing.specs.Lists.{list_checked}
use Rattle.node_typing.specs.Positions.{check}
use Rattle.node_typing.specs.Rows.{item_list, condition_typed}
use Rattle.node_typing.specs.Sweeps.{none_assigned, sets_swept}
use Rattle.tree_typing.specs.Trees.{tree_typed}
use Rattle.item_typing.specs.Changes.{change, condition_if, portion_typed, portion_if, portion_names, condition_swept, works_at_points}
use Rattle.item_typing.specs.Items.{deletion_typed, update_typed, used_deletion_typed, used_update_typed, used_item_typed, setting_typed, insertion_typed, item_typed, items_typed, listed_items, assignment_typed}
use Rattle.item_typing.specs.Sets.{sets_made}
use Rattle.item_typing.specs.Targets.{Target, base_heading, item_of, target_typed, rows_typed}
use Rattle.type_check.proofs.DeclaredLemmas.{declared-heading, typed-declared}
use Rattle.type_check.proofs.EndingTypedLemmas.{condition-if-sound, ending-sound}
use Rattle.type_check.proofs.InfixLemmas.{condition-sound}
use Rattle.type_check.proofs.KeptLemmas.{AreAssigned, AreOthers, others-assigned, swept-is, sets-swept}
use Rattle.type_check.proofs.ListLemmas.{AreListed, list-sound, left-list}
use Rattle.type_check.proofs.LiteralLemmas.{same_heading-same}
use Rattle.declaration_typing.proofs.PositionLemmas.{held, position-named}
use Rattle.meaning_core.proofs.MadeLemmas.{own_name as own}
use Rattle.meaning_core.proofs.RelvarLemmas.{heading_of_named}
use Rattle.type_check.proofs.TreeLemmas.{tree-sound}
use Rattle.type_check.proofs.SetTypedLemmas.{onward, IsUpdate, sets-made-sound}
use Rattle.type_check.proofs.PortionTypedLemmas.{AreNamed, portion-sound}

-- ---- changes that work point by point

condition-swept : (commalist : List ℕ) (c : Option Expr) → IfOk (condition_swept commalist c) (λ _. IsTrue (condition_is_swept (Some commalist) c))
condition-swept commalist None = refl
condition-swept commalist (Some c) = swept-is commalist c

-- items of other names assign no attribute at the positions of these names
others-at : (heading : Heading) (names : List Name) (sets : PlainSets) → ((name : Name) → In name names → IsTrue (has_name heading name))
    → ((s : Name × Expr) → In s sets → IsTrue (has_name heading s.0)) → AreOthers names sets
    → IsTrue (not (list_any (λ (s : Name × Expr). among (positions_of heading names) (position_of heading s.0)) sets))
others-at heading names sets listed known others =
    let p : Name × Expr → Bool = λ s. among (positions_of heading names) (position_of heading s.0) in
    not_from_false (list_any p sets) (false_from_ne_true (list_any p sets) (λ e.
    let s = (list_any-In p sets).0 e in
    let at = (list_any-In (nat_eq (position_of heading s.0.0)) (positions_of heading names)).0 s.2 in
    let n = (In-map (position_of heading) at.0 names).0 at.1 in
    let place : position_of heading s.0.0 ≡ position_of heading n.0 = eqb-true (position_of heading s.0.0) at.0 at.2 ∙ n.2 in
    let one : s.0.0 ≡ n.0 =
    sym (position-named heading s.0.0 (known s.0 s.1)).1
    ∙ (ap (λ (i : ℕ). (get_or heading i no_attribute).0) place ∙ (position-named heading n.0 (listed n.0 n.1)).1) in
    others n.0 s.0 n.1 s.1 (subst (λ (m : Name). bytes_eq n.0 m ≡ true) (sym one) (own n.0))))

-- the condition and the items are sweepable for the attributes, and the items assign none of them
abbrev pub WorksAtPoints : Heading → List Name → Option Expr → PlainSets → Type 0
WorksAtPoints heading names c sets =
    IsTrue (condition_is_swept (Some (positions_of heading names)) c) × IsTrue (are_swept_sets heading (Some (positions_of heading names)) sets)

pub points-sound : (heading : Heading) (names : List Name) (c : Option Expr) (items : List SetItemP) (sets : PlainSets) → ((name : Name) → In name names → IsTrue (has_name heading name))
    → ((s : Name × Expr) → In s sets → IsTrue (has_name heading s.0)) → AreAssigned items sets → IfOk (works_at_points heading (Some names) c items sets) (λ _. WorksAtPoints heading names c sets)
points-sound heading names c items sets listed known assigned =
    then-sound (λ _. AreOthers names sets) (λ _. WorksAtPoints heading names c sets) (none_assigned names items) _ (others-assigned names items sets assigned) (λ _ others.
    then-sound (λ _. IsTrue (condition_is_swept (Some (positions_of heading names)) c)) (λ _. WorksAtPoints heading names c sets) (condition_swept (positions_of heading names) c) _
    (condition-swept (positions_of heading names) c) (λ _ condition.
    onward (λ _. IsTrue (list_all (λ (s : Name × Expr). is_swept (positions_of heading names) s.1) sets)) (λ _. WorksAtPoints heading names c sets) (sets_swept (positions_of heading names) sets)
    (sets-swept (positions_of heading names) sets)
    (λ _ all. (condition, and_from (list_all (λ (s : Name × Expr). is_swept (positions_of heading names) s.1) sets) _ all (others-at heading names sets listed known others)))))

-- ---- targets

-- the name of a base relvar, with its heading
abbrev pub IsTarget : State → Target → Type 0
IsTarget s t = IsBaseOf s t.0 t.1

plain-change : (sizes : List ℕ) (heading : Heading) (c : Option Expr) → IsConditionIf sizes heading c → IsChange sizes heading (change None None c)
plain-change sizes heading None h = record { commalist = tt; portion = tt; condition = tt; swept = refl }
plain-change sizes heading (Some c) h = record { commalist = tt; portion = tt; condition = h; swept = refl }

module _ (state : State) (made : IsWellMade state) where
  pub target-sound : (w : Word) → IfOk (target_typed state w) (IsTarget state)
  target-sound w =
      then-sound (λ _. Unit {0}) (IsTarget state) (name_typed w) _ (any-given (name_typed w)) (λ name _. by-name name (relvar_named state.relvars name) refl)
    where
      by-name : (name : Name) (o : Option PlainRelvar) → relvar_named state.relvars name ≡ o
          → IfOk (value_or w.place E10 o >>= (λ found. base_heading w.place found >>= (λ heading. Ok (name, heading)))) (IsTarget state)
      by-name name None e = tt
      by-name name (Some (base value constraints)) e = (subst IsBase (sym e) tt, sym (ap heading_if e))
      by-name name (Some (view t kind)) e = tt
      by-name name (Some (log o k last w)) e = tt

  -- its heading is one
  target-heading : (place : Place) (t : Target) → IsTarget state t → IsTrue (is_heading t.1)
  target-heading place t is = by-found (relvar_named state.relvars t.0) (heading_of_named state.relvars t.0) is.0 is.1
    where
      by-found : (o : Option PlainRelvar) → heading_named (headings_of state.relvars) t.0 ≡ option_map relvar_heading o → IsBase o → t.1 ≡ heading_if o → IsTrue (is_heading t.1)
      by-found None e is same = absurd is
      by-found (Some r) e is same =
          subst (λ (h : Heading). IsTrue (is_heading h)) (sym same)
          (declared-heading (sizes_of state.ordinals) (relvar_heading r) (typed-declared state (named place (relvar_heading r) t.0) made e))

  -- an expression of the target's heading
  pub rows-sound : (w : Word) (heading : Heading) (rel : RelP) → IfOk (rows_typed state w heading rel) (λ t. IsTypedFor state t × (heading_of t ≡ heading))
  rows-sound w heading rel =
      then-sound (IsTypedFor state) _ (tree_typed state rel) _ (tree-sound state made rel) (λ t typed.
      then-sound (λ _. IsTrue (same_heading (heading_of t) heading)) _ (check w.place E13 (same_heading (heading_of t) heading)) _ (held w.place E13 (same_heading (heading_of t) heading))
      (λ _ same. (typed, same_heading-same (heading_of t) heading same)))

  -- a change of the points of a portion
  portion-change : (heading : Heading) (names : List Name) (m : PlainPortion) (c : Option Expr) (sets : PlainSets) → IsPortionIf (sizes_of state.ordinals) heading None (Some m)
      → AreNamed heading names (attributes_of_portion m) → IsConditionIf (sizes_of state.ordinals) heading c → WorksAtPoints heading names c sets
      → IsChange (sizes_of state.ordinals) heading (change None (Some m) c) × IsTrue (are_swept_sets heading (Some (attributes_of_portion m)) sets)
  portion-change heading names m c sets portion is h swept = (
    record {
      commalist = tt;
      portion = portion;
      condition = h;
      swept = subst (λ (commalist : List ℕ). IsTrue (condition_is_swept (Some commalist) c)) (sym is.positions) swept.0;
    },
    subst (λ (commalist : List ℕ). IsTrue (are_swept_sets heading (Some commalist) sets)) (sym is.positions) swept.1,
  )

  -- a portion of these names
  abbrev pub IsPortionOf : Heading → List Name → Option PlainPortion → Type 0
  IsPortionOf heading names None = ⊥
  IsPortionOf heading names (Some m) = IsPortionIf (sizes_of state.ordinals) heading None (Some m) × AreNamed heading names (attributes_of_portion m)

  names-known : (heading : Heading) (names : List Name) (o : Option PlainPortion) → IsPortionOf heading names o → (name : Name) → In name names → IsTrue (has_name heading name)
  names-known heading names None portion = absurd portion
  names-known heading names (Some m) portion = portion.1.known

  portion-update : (name : Name) (heading : Heading) (names : List Name) (o : Option PlainPortion) (c : Option Expr) (sets : PlainSets) → IsBaseOf state name heading → IsPortionOf heading names o
      → IsConditionIf (sizes_of state.ordinals) heading c → IsExtension (sizes_of state.ordinals) heading heading sets → WorksAtPoints heading names c sets
      → IsTypedForm state name heading (update (change None o c) sets)
  portion-update name heading names None c sets there portion h is swept = absurd portion
  portion-update name heading names (Some m) c sets there portion h is swept =
      let both = portion-change heading names m c sets portion.0 portion.1 h swept in
      (there, both.0, is, both.1)

  deletion-sound : (w : Word) (name : Name) (heading : Heading) (d : DeletionP) → IsBaseOf state name heading → IsTrue (is_heading heading) → IfOk (deletion_typed state w heading d) (IsTypedForm state name heading)
  deletion-sound w name heading (syntax.DeleteWhere at s) there headed =
      then-sound (λ (c : Expr). IsScalar (sizes_of state.ordinals) heading c Truth) (IsTypedForm state name heading) (condition_typed state.ordinals at heading s) _
      (condition-sound state.ordinals made.ordinals at heading s) (λ c is. (there, plain-change (sizes_of state.ordinals) heading (Some c) is))
  deletion-sound w name heading (syntax.DeletePortion (syntax.Portion at elements) condition) there headed =
      then-sound (λ (m : PlainPortion). IsPortionIf (sizes_of state.ordinals) heading None (Some m) × AreNamed heading (portion_names elements) (attributes_of_portion m)) (IsTypedForm state name heading)
      (portion_typed state.ordinals heading elements) _ (portion-sound state.ordinals made.ordinals heading (heading_ascends heading headed) elements) (λ m portion.
      then-sound (IsConditionIf (sizes_of state.ordinals) heading) (IsTypedForm state name heading) (condition_if state.ordinals heading condition) _ (condition-if-sound state made heading condition) (λ c h.
      then-sound (λ _. WorksAtPoints heading (portion_names elements) c []) (IsTypedForm state name heading) (works_at_points heading (Some (portion_names elements)) c [] []) _
      (points-sound heading (portion_names elements) c [] [] portion.1.known (λ s i. absurd i) (λ s i. absurd i))
      (λ _ swept. (there, (portion-change heading (portion_names elements) m c [] portion.0 portion.1 h swept).0))))
  deletion-sound w name heading (syntax.DeleteRows rel) there headed =
      then-sound (λ t. IsTypedFor state t × (heading_of t ≡ heading)) (IsTypedForm state name heading) (rows_typed state w heading rel) _ (rows-sound w heading rel) (λ t h. (there, h.0, h.1, tt))

  update-sound : (name : Name) (heading : Heading) (p : MaybePortionP) (c : ConditionP) (sets : SetsP) → IsBaseOf state name heading → IsTrue (is_heading heading) → IfOk (update_typed state heading p c sets) (IsTypedForm state name heading)
  update-sound name heading syntax.NoPortion c sets there headed =
      then-sound (IsConditionIf (sizes_of state.ordinals) heading) (IsTypedForm state name heading) (condition_if state.ordinals heading c) _ (condition-if-sound state made heading c) (λ e condition.
      then-sound (IsUpdate (sizes_of state.ordinals) heading (item_list sets)) (IsTypedForm state name heading) (sets_made state.ordinals heading sets) _
      (sets-made-sound state.ordinals made.ordinals heading sets headed) (λ s is. (there, plain-change (sizes_of state.ordinals) heading e condition, is.extension, refl)))
  update-sound name heading (syntax.OfPortion at elements) c sets there headed =
      then-sound (IsPortionOf heading (portion_names elements)) (IsTypedForm state name heading) (portion_if state.ordinals heading (syntax.OfPortion at elements)) _
      (then-sound (λ (m : PlainPortion). IsPortionIf (sizes_of state.ordinals) heading None (Some m) × AreNamed heading (portion_names elements) (attributes_of_portion m))
      (IsPortionOf heading (portion_names elements)) (portion_typed state.ordinals heading elements) _ (portion-sound state.ordinals made.ordinals heading (heading_ascends heading headed) elements)
      (λ m portion. portion)) (λ o portion.
      then-sound (IsConditionIf (sizes_of state.ordinals) heading) (IsTypedForm state name heading) (condition_if state.ordinals heading c) _ (condition-if-sound state made heading c) (λ e condition.
      then-sound (IsUpdate (sizes_of state.ordinals) heading (item_list sets)) (IsTypedForm state name heading) (sets_made state.ordinals heading sets) _
      (sets-made-sound state.ordinals made.ordinals heading sets headed) (λ s is.
      then-sound (λ _. WorksAtPoints heading (portion_names elements) e s) (IsTypedForm state name heading) (works_at_points heading (Some (portion_names elements)) e (item_list sets) s) _
      (points-sound heading (portion_names elements) e (item_list sets) s (names-known heading (portion_names elements) o portion) is.known is.assigned)
      (λ _ swept. portion-update name heading (portion_names elements) o e s there portion condition is.extension swept))))

  -- ---- items

  -- over USING
  used-change : (heading : Heading) (list : NameListP) (names : List Name) (c : Option Expr) → AreListed heading heading list names → IsConditionIf (sizes_of state.ordinals) heading c
      → IsTrue (condition_is_swept (Some (positions_of heading names)) c) → IsChange (sizes_of state.ordinals) heading (change (Some (positions_of heading names)) None c)
  used-change heading list names c is h swept = record { commalist = left-list heading heading list names is; portion = tt; condition = h; swept = swept }

  used-deletion-sound : (w : Word) (name : Name) (heading : Heading) (list : NameListP) (d : UsedDeletionP) → IsBaseOf state name heading → IfOk (used_deletion_typed state w heading list d) (IsTypedForm state name heading)
  used-deletion-sound w name heading list (syntax.UsedDeleteWhere at s) there =
      then-sound (AreListed heading heading list) (IsTypedForm state name heading) (list_checked heading heading list) _ (list-sound heading heading list) (λ names is.
      then-sound (λ (c : Expr). IsScalar (sizes_of state.ordinals) heading c Truth) (IsTypedForm state name heading) (condition_typed state.ordinals at heading s) _
      (condition-sound state.ordinals made.ordinals at heading s) (λ c condition.
      then-sound (λ _. WorksAtPoints heading names (Some c) []) (IsTypedForm state name heading) (works_at_points heading (Some names) (Some c) [] []) _
      (points-sound heading names (Some c) [] [] (λ n i. (is.shared n i).here) (λ s i. absurd i) (λ s i. absurd i))
      (λ _ swept. (there, used-change heading list names (Some c) is condition swept.0))))
  used-deletion-sound w name heading list (syntax.UsedDeleteRows rel) there =
      then-sound (λ t. IsTypedFor state t × (heading_of t ≡ heading)) (IsTypedForm state name heading) (rows_typed state w heading rel) _ (rows-sound w heading rel) (λ t h.
      then-sound (AreListed heading (heading_of t) list) (IsTypedForm state name heading) (list_checked heading (heading_of t) list) _ (list-sound heading (heading_of t) list)
      (λ names is. (there, h.0, h.1, left-list heading (heading_of t) list names is)))

  used-update-sound : (name : Name) (heading : Heading) (list : NameListP) (c : ConditionP) (sets : SetsP) → IsBaseOf state name heading → IsTrue (is_heading heading)
      → IfOk (used_update_typed state heading list c sets) (IsTypedForm state name heading)
  used-update-sound name heading list c sets there headed =
      then-sound (AreListed heading heading list) (IsTypedForm state name heading) (list_checked heading heading list) _ (list-sound heading heading list) (λ names is.
      then-sound (IsConditionIf (sizes_of state.ordinals) heading) (IsTypedForm state name heading) (condition_if state.ordinals heading c) _ (condition-if-sound state made heading c) (λ e condition.
      then-sound (IsUpdate (sizes_of state.ordinals) heading (item_list sets)) (IsTypedForm state name heading) (sets_made state.ordinals heading sets) _
      (sets-made-sound state.ordinals made.ordinals heading sets headed) (λ s update.
      then-sound (λ _. WorksAtPoints heading names e s) (IsTypedForm state name heading) (works_at_points heading (Some names) e (item_list sets) s) _
      (points-sound heading names e (item_list sets) s (λ n i. (is.shared n i).here) update.known update.assigned)
      (λ _ swept. (there, used-change heading list names e is condition swept.0, update.extension, swept.1)))))

  item-by : (place : Place) (w : Word) (f : Target → OrFault PlainItemForm) → ((target : Target) → IsTarget state target → IfOk (f target) (IsTypedForm state target.0 target.1))
      → IfOk (target_typed state w >>= (λ target. f target >>= (λ form. Ok (item_of place target form)))) (IsTypedItem state)
  item-by place w f typed =
      then-sound (IsTarget state) (IsTypedItem state) (target_typed state w) _ (target-sound w) (λ target is.
      then-sound (IsTypedForm state target.0 target.1) (IsTypedItem state) (f target) _ (typed target is) (λ form h. h))

  setting-sound : (w : Word) (rel : RelP) → IfOk (setting_typed state w rel) (IsTypedItem state)
  setting-sound w rel =
      then-sound (IsTarget state) (IsTypedItem state) (target_typed state w) _ (target-sound w) (λ target is.
      then-sound (λ t. IsTypedFor state t × (heading_of t ≡ target.1)) (IsTypedItem state) (rows_typed state w target.1 rel) _ (rows-sound w target.1 rel)
      (λ t h. (is, h.0, h.1)))

  insertion-sound : (place : Place) (w : Word) (rel : RelP) → IfOk (insertion_typed state place w rel) (IsTypedItem state)
  insertion-sound place w rel =
      then-sound (IsTarget state) (IsTypedItem state) (target_typed state w) _ (target-sound w) (λ target is.
      then-sound (λ t. IsTypedFor state t × (heading_of t ≡ target.1)) (IsTypedItem state) (rows_typed state w target.1 rel) _ (rows-sound w target.1 rel)
      (λ t h. (is, h.0, h.1, tt)))

  used-item-sound : (place : Place) (list : NameListP) (u : UsedItemP) → IfOk (used_item_typed state place list u) (IsTypedItem state)
  used-item-sound place list (syntax.UsedInsert at w rel) =
      then-sound (IsTarget state) (IsTypedItem state) (target_typed state w) _ (target-sound w) (λ target is.
      then-sound (λ t. IsTypedFor state t × (heading_of t ≡ target.1)) (IsTypedItem state) (rows_typed state w target.1 rel) _ (rows-sound w target.1 rel) (λ t h.
      then-sound (AreListed target.1 (heading_of t) list) (IsTypedItem state) (list_checked target.1 (heading_of t) list) _ (list-sound target.1 (heading_of t) list)
      (λ names listed. (is, h.0, h.1, left-list target.1 (heading_of t) list names listed))))
  used-item-sound place list (syntax.UsedDelete at w d) = item-by place w (λ target. used_deletion_typed state w target.1 list d) (λ target is. used-deletion-sound w target.0 target.1 list d is)
  used-item-sound place list (syntax.UsedUpdate at w c sets) =
      item-by place w (λ target. used_update_typed state target.1 list c sets) (λ target is. used-update-sound target.0 target.1 list c sets is (target-heading place target is))

  -- what is typed is typed for the state
  pub item-sound : (x : ItemP) → IfOk (item_typed state x) (IsTypedItem state)
  item-sound (syntax.SetRelvar w rel) = setting-sound w rel
  item-sound (syntax.Insert at w rel) = insertion-sound at w rel
  item-sound (syntax.Delete at w d) = item-by at w (λ target. deletion_typed state w target.1 d) (λ target is. deletion-sound w target.0 target.1 d is (target-heading at target is))
  item-sound (syntax.Update at w p c sets) = item-by at w (λ target. update_typed state target.1 p c sets) (λ target is. update-sound target.0 target.1 p c sets is (target-heading at target is))
  item-sound (syntax.Terminate place w at s c) = ending-sound state made place w at s c
  item-sound (syntax.UsingItem at list u) = used-item-sound at list u

  -- and so are all items
  items-sound : (before : List PlainItem) (list : List ItemP) → ((i : PlainItem) → In i before → IsTypedItem state i)
      → IfOk (items_typed state before list) (λ (items : List PlainItem). (i : PlainItem) → In i items → IsTypedItem state i)
  items-sound before [] h = h
  items-sound before (x ∷ rest) h =
      then-sound (IsTypedItem state) (λ (items : List PlainItem). (i : PlainItem) → In i items → IsTypedItem state i) (item_typed state x) _ (item-sound x) (λ item is.
      items-sound (before ++ item ∷ []) rest (λ i m.
      elim ((In-append i before (item ∷ [])).0 m) [ inl j ↦ h i j | inr j ↦ elim j [ inl k ↦ subst (IsTypedItem state) (sym k) is | inr k ↦ absurd k ] ]))

  pub assignment-sound : (a : AssignP) → IfOk (assignment_typed state a) (All (IsTypedItem state))
  assignment-sound a =
      onward (λ (items : List PlainItem). (i : PlainItem) → In i items → IsTypedItem state i) (All (IsTypedItem state)) (assignment_typed state a)
      (items-sound [] (listed_items a) (λ i m. absurd m)) (λ items h. All-In (IsTypedItem state) items h)

-- A statement that inserts constants, or sets a relvar to them, is typed without a refusal where the literal has the heading of the
-- relvar.
--     insertion-typed, insertion-under-typed, setting-typed      the items that typing gives
--     insertion-expands, insertion-under-expands, setting-expands      the assignments that these stand for
use Rattle.std.proofs.Common.{◌≡◌, ℕ, Bool, true, List, [], ◌∷◌, ◌++◌, Option, Some, None, Ok, refl, sym, ap, ◌∙◌}
use Rattle.std.specs.Prelude.{if◌then◌else◌}
use Rattle.base_core.specs.Outcomes.{then_give}
use Rattle.point_core.specs.declared.fault.Place.{Place}
use Rattle.point_core.specs.declared.fault.Code.TheVariants.{E06, E10, E13}
use Rattle.point_core.specs.Faults.{OrFault}
use Rattle.utd_syntax.specs.Plain as syntax
use Rattle.utd_syntax.specs.Plain.{Word, NameListP, LiteralP, RelP}
use Rattle.value_core.specs.declared.constraint.Constraint.{Constraint}
use Rattle.value_core.specs.Values.{Name, Row, Heading, Relation}
use Rattle.scalar_typing.specs.Typings.{refused, value_or}
use Rattle.relation_typing.specs.Attributes.{is_name}
use Rattle.relation_typing.specs.Headings.{same_heading}
use Rattle.relation_typing.specs.Literals.{literal_typed}
use Rattle.relation_typing.proofs.ShapeLemmas.{same-itself}
use Rattle.tree_core.specs.declared.tree.InfixWord.TheVariants.{Union}
use Rattle.tree_core.specs.Items.{PlainItem, PlainItemForm, set_to, insert}
use Rattle.tree_core.specs.Relvars.{State, PlainRelvar, base, Entries, relvar_named}
use Rattle.tree_core.specs.Trees.{PlainSets, Tree, named, literal, infix_of, using, heading_of}
use Rattle.meaning_core.specs.Meanings.{positions_of}
use Rattle.node_typing.specs.Lists.{listed_names, list_checked}
use Rattle.node_typing.specs.Positions.{check}
use Rattle.tree_typing.specs.Trees.{tree_typed}
use Rattle.item_typing.specs.Targets.{Target, base_heading, target_typed, rows_typed, item_of}
use Rattle.item_typing.specs.Items.{setting_typed, insertion_typed, used_item_typed, items_typed, assignment_typed}
use Rattle.update_core.specs.Endings.{meant_by}
use Rattle.constant_laws.specs.Insertions.{of_literal, IsListed}
use Rattle.constant_laws.proofs.TypedTuples.{literal_place, IsTypedLiteral}

-- a name that is written, of a base relvar of the state
pub record IsBaseNamed (state : State) (w : Word) (old : Relation) (constraints : List Constraint) : Type 0 where
  pub is_one : is_name w.bytes ≡ true
  pub there : relvar_named state.relvars w.bytes ≡ Some (base old constraints)

target-found : (state : State) (w : Word) (old : Relation) (constraints : List Constraint) → IsBaseNamed state w old constraints → target_typed state w ≡ Ok (w.bytes, old.heading)
target-found state w old constraints h =
    ap (λ (b : Bool). then_give (if b then Ok w.bytes else refused w.place E06) (λ name. then_give (value_or w.place E10 (relvar_named state.relvars name)) (λ found. then_give (base_heading w.place found) (λ heading. Ok (name, heading))))) h.is_one
    ∙ ap (λ (o : Option PlainRelvar). then_give (value_or w.place E10 o) (λ found. then_give (base_heading w.place found) (λ heading. Ok (w.bytes, heading)))) h.there

literal-tree : (state : State) (l : LiteralP) (t : Tree) → literal_typed state.ordinals l ≡ Ok t → tree_typed state (of_literal l) ≡ Ok t
unfolding tree_typed
literal-tree state l t h = h

rows-found : (state : State) (w : Word) (l : LiteralP) (t : Tree) → literal_typed state.ordinals l ≡ Ok t → rows_typed state w (heading_of t) (of_literal l) ≡ Ok t
rows-found state w l t h =
    ap (λ (m : OrFault Tree). then_give m (λ u. then_give (check w.place E13 (same_heading (heading_of u) (heading_of t))) (λ same. Ok u))) (literal-tree state l t h)
    ∙ ap (λ (b : Bool). then_give (check w.place E13 b) (λ same. Ok t)) (same-itself (heading_of t))

-- the tree of the literal, where these are the tuples that typing gives
abbrev pub literal_tree : Heading → LiteralP → List PlainSets → Tree
literal_tree heading l tuples = literal (literal_place l) heading tuples

-- the only item of an assignment
only-item : (state : State) (m : OrFault PlainItem) (i : PlainItem) → m ≡ Ok i
    → then_give m (λ item. items_typed state ([] ++ item ∷ []) []) ≡ Ok (i ∷ [])
only-item state m i h = ap (λ (n : OrFault PlainItem). then_give n (λ item. items_typed state ([] ++ item ∷ []) [])) h

item-typed : (state : State) (w : Word) (l : LiteralP) (old : Relation) (constraints : List Constraint) (rows : List Row) (form : Tree → PlainItemForm) (at : Place) → IsBaseNamed state w old constraints
    → (h : IsTypedLiteral state.ordinals old.heading rows l)
    → then_give (target_typed state w) (λ target. then_give (rows_typed state w target.1 (of_literal l)) (λ t. Ok (item_of at target (form t))))
    ≡ Ok (item_of at (w.bytes, old.heading) (form (literal_tree old.heading l h.tuples)))
item-typed state w l old constraints rows form at found h =
    ap (λ (m : OrFault Target). then_give m (λ target. then_give (rows_typed state w target.1 (of_literal l)) (λ t. Ok (item_of at target (form t))))) (target-found state w old constraints found)
    ∙ ap (λ (m : OrFault Tree). then_give m (λ t. Ok (item_of at (w.bytes, old.heading) (form t)))) (rows-found state w l (literal_tree old.heading l h.tuples) h.typed)

-- the item inserts the literal's tuples
pub insertion-typed : (state : State) (at : Place) (w : Word) (l : LiteralP) (old : Relation) (constraints : List Constraint) (rows : List Row) → IsBaseNamed state w old constraints
    → (h : IsTypedLiteral state.ordinals old.heading rows l)
    → assignment_typed state (syntax.Assign (syntax.Insert at w (of_literal l)) []) ≡ Ok (item_of at (w.bytes, old.heading) (insert None (literal_tree old.heading l h.tuples)) ∷ [])
insertion-typed state at w l old constraints rows found h =
    only-item state (insertion_typed state at w (of_literal l)) (item_of at (w.bytes, old.heading) (insert None (literal_tree old.heading l h.tuples)))
    (item-typed state w l old constraints rows (insert None) at found h)

under-item-typed : (state : State) (at : Place) (list : NameListP) (there : Place) (w : Word) (l : LiteralP) (old : Relation) (constraints : List Constraint) (commalist : List ℕ) (rows : List Row) → IsBaseNamed state w old constraints
    → IsListed old.heading commalist list → (h : IsTypedLiteral state.ordinals old.heading rows l)
    → used_item_typed state at list (syntax.UsedInsert there w (of_literal l)) ≡ Ok (item_of at (w.bytes, old.heading) (insert (Some commalist) (literal_tree old.heading l h.tuples)))
under-item-typed state at list there w l old constraints commalist rows found listed h =
    let t = literal_tree old.heading l h.tuples in
    ap (λ (m : OrFault Target). then_give m (λ target. then_give (rows_typed state w target.1 (of_literal l)) (λ t. then_give (list_checked target.1 (heading_of t) list) (λ names. Ok (item_of at target (insert (Some (positions_of target.1 names)) t))))))
    (target-found state w old constraints found)
    ∙ (ap (λ (m : OrFault Tree). then_give m (λ t. then_give (list_checked old.heading (heading_of t) list) (λ names. Ok (item_of at (w.bytes, old.heading) (insert (Some (positions_of old.heading names)) t))))) (rows-found state w l t h.typed)
    ∙ (ap (λ (m : OrFault (List Name)). then_give m (λ names. Ok (item_of at (w.bytes, old.heading) (insert (Some (positions_of old.heading names)) t)))) listed.is_fine
    ∙ ap (λ (c : List ℕ). Ok (item_of at (w.bytes, old.heading) (insert (Some c) t))) (sym listed.at)))

-- the item inserts them point by point
pub insertion-under-typed : (state : State) (at : Place) (list : NameListP) (there : Place) (w : Word) (l : LiteralP) (old : Relation) (constraints : List Constraint) (commalist : List ℕ) (rows : List Row) → IsBaseNamed state w old constraints
    → IsListed old.heading commalist list → (h : IsTypedLiteral state.ordinals old.heading rows l)
    → assignment_typed state (syntax.Assign (syntax.UsingItem at list (syntax.UsedInsert there w (of_literal l))) []) ≡ Ok (item_of at (w.bytes, old.heading) (insert (Some commalist) (literal_tree old.heading l h.tuples)) ∷ [])
insertion-under-typed state at list there w l old constraints commalist rows found listed h =
    only-item state (used_item_typed state at list (syntax.UsedInsert there w (of_literal l))) (item_of at (w.bytes, old.heading) (insert (Some commalist) (literal_tree old.heading l h.tuples)))
    (under-item-typed state at list there w l old constraints commalist rows found listed h)

-- the item sets the relvar to them
pub setting-typed : (state : State) (w : Word) (l : LiteralP) (old : Relation) (constraints : List Constraint) (rows : List Row) → IsBaseNamed state w old constraints
    → (h : IsTypedLiteral state.ordinals old.heading rows l)
    → assignment_typed state (syntax.Assign (syntax.SetRelvar w (of_literal l)) []) ≡ Ok (item_of w.place (w.bytes, old.heading) (set_to (literal_tree old.heading l h.tuples)) ∷ [])
setting-typed state w l old constraints rows found h =
    only-item state (setting_typed state w (of_literal l)) (item_of w.place (w.bytes, old.heading) (set_to (literal_tree old.heading l h.tuples)))
    (item-typed state w l old constraints rows set_to w.place found h)

-- ---- assignments

pub insertion-expands : (entries : Entries) (at : Place) (name : Name) (heading : Heading) (t : Tree)
    → meant_by entries (item_of at (name, heading) (insert None t)) ≡ record { target = name; tree = infix_of at heading Union (named at heading name) t } ∷ []
insertion-expands entries at name heading t = refl

pub insertion-under-expands : (entries : Entries) (at : Place) (name : Name) (heading : Heading) (commalist : List ℕ) (t : Tree)
    → meant_by entries (item_of at (name, heading) (insert (Some commalist) t)) ≡ record { target = name; tree = using at heading commalist (infix_of at heading Union (named at heading name) t) } ∷ []
insertion-under-expands entries at name heading commalist t = refl

pub setting-expands : (entries : Entries) (at : Place) (name : Name) (heading : Heading) (t : Tree) → meant_by entries (item_of at (name, heading) (set_to t)) ≡ record { target = name; tree = t } ∷ []
setting-expands entries at name heading t = refl

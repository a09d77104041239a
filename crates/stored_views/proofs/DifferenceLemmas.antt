-- What base relvars gain and lose that get new values, and what the operands of a stored view do.
--     difference_first, difference_none      of the relvar of a name, by its place
--     as_many      one is told for each entry
--     values_after      the operands have values then
--     operands_told      what they gain and lose
--     any_told      whether one does
use Rattle.std.proofs.Common.{◌≡◌, ℕ, zero, suc, ◌<◌, Bool, true, false, cond, List, [], ◌∷◌, map, get_or, length, refl, sym, ap, ◌∙◌, subst, arith, Option, Some, None}
use Rattle.std.specs.Prelude.{◌||◌, is_some}
use Rattle.std.specs.Str.{bytes_eq}
use Rattle.point_core.specs.declared.fault.Place.{Place}
use Rattle.value_core.specs.Values.{Name, Heading, Relation, IsRelation}
use Rattle.tree_core.specs.declared.relvar.Relvar.{Relvar}
use Rattle.tree_core.specs.Relvars.{PlainRelvar, base, view, log, Entries, relvar_named, heading_if, read_entry}
use Rattle.tree_core.specs.Trees.{Tree, named, literal, infix_of, project, rename, restrict, extend, summarize, pack, unpack, using}
use Rattle.meaning_core.specs.Names.{IsFirstAt}
use Rattle.meaning_core.specs.StoredViews.{is_name, is_stored_form, is_stored_part}
use Rattle.meaning_core.specs.WellMade.{IsBase}
use Rattle.std.specs.Bool.{IsTrue}
use Rattle.std.proofs.lemmas.Bool.{and_parts, true≢false}
use Rattle.relvar_logs.specs.Changes.{Changes, changed, changed_relvar, change_named, AreChanges, IsChange}
use Rattle.relvar_logs.proofs.NextLemmas.{turned-name}
use Rattle.kept_views.specs.Differing.{IsDifference}
use Rattle.kept_views.specs.Touched.{AreRelations}
use Rattle.kept_views.specs.declared.group_moves.Moved.{Moved}
use Rattle.stored_views.specs.Moves.{value_or_none, operand_value, left_value, right_value, is_touched}
use Rattle.stored_views.specs.Operands.{value_if, AreOperands, ArePartOperands, ArePartValues, AreValues, IsOperand, IsValue}
use Rattle.stored_views.specs.ViewMoves.{difference_named, left_difference, left_of_part, operand_difference, right_difference, right_of_part, AreDifferences, AreOperandMoves, AreTold, IsDifferenceOf}

-- ---- one relvar

pub difference_first : (es : Entries) (ds : List (Option Moved)) (name : Name) (i : ℕ) (r : PlainRelvar) → length ds ≡ length es → IsFirstAt es name i r → difference_named ds es name ≡ get_or ds i None
difference_first [] ds name i r l first = absurd first
difference_first (e ∷ es) [] name i r l first = absurd (omega (arith, l))
difference_first (e ∷ es) (d ∷ ds) name zero r l first = ap (λ (b : Bool). cond b d (difference_named ds es name)) first.0
difference_first (e ∷ es) (d ∷ ds) name (suc i) r l first =
    ap (λ (b : Bool). cond b d (difference_named ds es name)) first.0 ∙ difference_first es ds name i r (omega (arith, l)) first.1

pub difference_none : (es : List (Name × Relvar)) (ds : List (Option Moved)) (name : Name)
    → ((k : ℕ) → k < length (map (λ (e : Name × Relvar). e.0) es) → bytes_eq name (get_or (map (λ (e : Name × Relvar). e.0) es) k []) ≡ false) → difference_named ds (map read_entry es) name ≡ None
difference_none es [] name none = refl
difference_none [] (d ∷ ds) name none = refl
difference_none (e ∷ es) (d ∷ ds) name none =
    ap (λ (b : Bool). cond b d (difference_named ds (map read_entry es) name)) (turned-name name e.0 (none 0 (omega arith))) ∙ difference_none es ds name (λ k l. none (suc k) (omega (arith, l)))

pub as_many : (cs : Changes) (ds : List (Option Moved)) (es : Entries) → AreDifferences cs ds es → length ds ≡ length es
as_many [] [] [] are = refl
as_many [] [] (e ∷ es) are = absurd are
as_many [] (d ∷ ds) es are = absurd are
as_many (c ∷ cs) [] es are = absurd are
as_many (c ∷ cs) (d ∷ ds) [] are = absurd are
as_many (c ∷ cs) (d ∷ ds) (e ∷ es) are = ap suc (as_many cs ds es are.1)

-- the old value and the new one of a relvar
one_told : (c : Option Relation) (d : Option Moved) (r : PlainRelvar) (x y : Relation) → IsDifferenceOf c d r → IsRelation x → value_if (Some r) ≡ Some x → value_if (Some (changed_relvar c r)) ≡ Some y
    → IsDifference x y d × IsRelation y
one_told None None r x y is ix e f = let same : y ≡ x = cc in (same, subst IsRelation (sym same) ix)
one_told None (Some m) r x y is ix e f = absurd is
one_told (Some v) None r x y is ix e f = absurd is
one_told (Some v) (Some m) (base old constraints) x y is ix e f =
    let was : old ≡ x = cc in
    let new : v ≡ y = cc in
    subst (λ (T : Type 0). T) (λ i. IsDifference (was i) (new i) (Some m) × IsRelation (new i)) is
one_told (Some v) (Some m) (view t kind) x y is ix e f = absurd is
one_told (Some v) (Some m) (log of side last w) x y is ix e f = absurd is

module _ (name : Name) where
  pub named_told : (cs : Changes) (ds : List (Option Moved)) (es : Entries) (x y : Relation) → AreDifferences cs ds es → IsRelation x → value_if (relvar_named es name) ≡ Some x
      → value_if (relvar_named (changed cs es) name) ≡ Some y → IsDifference x y (difference_named ds es name) × IsRelation y
  named_told [] [] [] x y are ix e f = absurd (cc)
  named_told [] [] (r ∷ es) x y are ix e f = absurd are
  named_told [] (d ∷ ds) es x y are ix e f = absurd are
  named_told (c ∷ cs) [] es x y are ix e f = absurd are
  named_told (c ∷ cs) (d ∷ ds) [] x y are ix e f = absurd are
  named_told (c ∷ cs) (d ∷ ds) (r ∷ es) x y are ix e f = by (bytes_eq r.0 name) (named_told cs ds es x y are.1 ix) e f
    where
      by : (b : Bool) → (value_if (relvar_named es name) ≡ Some x → value_if (relvar_named (changed cs es) name) ≡ Some y → IsDifference x y (difference_named ds es name) × IsRelation y)
          → value_if (cond b (Some r.1) (relvar_named es name)) ≡ Some x → value_if (cond b (Some (changed_relvar c r.1)) (relvar_named (changed cs es) name)) ≡ Some y
          → IsDifference x y (cond b d (difference_named ds es name)) × IsRelation y
      by true more g h = one_told c d r.1 x y are.0 ix g h
      by false more g h = more g h

  one_any : (c : Option Relation) (d : Option Moved) (r : PlainRelvar) → IsDifferenceOf c d r → is_some d ≡ is_some c
  one_any None None r is = refl
  one_any None (Some m) r is = absurd is
  one_any (Some v) None r is = absurd is
  one_any (Some v) (Some m) r is = refl

  named_any : (cs : Changes) (ds : List (Option Moved)) (es : Entries) → AreDifferences cs ds es → is_some (difference_named ds es name) ≡ is_some (change_named cs es name)
  named_any [] [] [] are = refl
  named_any [] [] (r ∷ es) are = absurd are
  named_any [] (d ∷ ds) es are = absurd are
  named_any (c ∷ cs) [] es are = absurd are
  named_any (c ∷ cs) (d ∷ ds) [] are = absurd are
  named_any (c ∷ cs) (d ∷ ds) (r ∷ es) are = by (bytes_eq r.0 name) (named_any cs ds es are.1)
    where
      by : (b : Bool) → is_some (difference_named ds es name) ≡ is_some (change_named cs es name) → is_some (cond b d (difference_named ds es name)) ≡ is_some (cond b c (change_named cs es name))
      by true more = one_any c d r.1 are.0
      by false more = more

  one_after : (c : Option Relation) (r : PlainRelvar) (h : Heading) → IsChange c r → IsBase (Some r) → heading_if (Some r) ≡ h
      → (value_if (Some (changed_relvar c r)) ≡ Some (value_or_none (value_if (Some (changed_relvar c r))))) × ((value_or_none (value_if (Some (changed_relvar c r)))).heading ≡ h)
  one_after None (base old constraints) h is known e = (refl, e)
  one_after (Some v) (base old constraints) h is known e = (refl, is ∙ e)
  one_after c (view t kind) h is known e = absurd known
  one_after c (log of side last w) h is known e = absurd known

  named_after : (cs : Changes) (es : Entries) (h : Heading) → AreChanges cs es → IsBase (relvar_named es name) → heading_if (relvar_named es name) ≡ h
      → (value_if (relvar_named (changed cs es) name) ≡ Some (value_or_none (value_if (relvar_named (changed cs es) name)))) × ((value_or_none (value_if (relvar_named (changed cs es) name))).heading ≡ h)
  named_after [] [] h are is e = absurd is
  named_after [] (r ∷ es) h are is e = absurd are
  named_after (c ∷ cs) [] h are is e = absurd are
  named_after (c ∷ cs) (r ∷ es) h are is e = by (bytes_eq r.0 name) (named_after cs es h are.1) is e
    where
      by : (b : Bool) → (IsBase (relvar_named es name) → heading_if (relvar_named es name) ≡ h
          → (value_if (relvar_named (changed cs es) name) ≡ Some (value_or_none (value_if (relvar_named (changed cs es) name)))) × ((value_or_none (value_if (relvar_named (changed cs es) name))).heading ≡ h))
          → IsBase (cond b (Some r.1) (relvar_named es name)) → heading_if (cond b (Some r.1) (relvar_named es name)) ≡ h
          → (value_if (cond b (Some (changed_relvar c r.1)) (relvar_named (changed cs es) name)) ≡ Some (value_or_none (value_if (cond b (Some (changed_relvar c r.1)) (relvar_named (changed cs es) name)))))
          × ((value_or_none (value_if (cond b (Some (changed_relvar c r.1)) (relvar_named (changed cs es) name)))).heading ≡ h)
      by true more i f = one_after c r.1 h are.0 i f
      by false more i f = more i f

-- ---- operands

module _ (cs : Changes) (es : Entries) where
  operand_after : (t : Tree) → AreChanges cs es → IsOperand es t → IsValue (changed cs es) t (operand_value (changed cs es) t)
  operand_after (named place h name) are is = named_after name cs es h are is.0 is.1
  operand_after (literal place h tuples) are is = absurd is
  operand_after (infix_of place h word l r) are is = absurd is
  operand_after (project place h kept t) are is = absurd is
  operand_after (rename place h names t) are is = absurd is
  operand_after (restrict place h c t) are is = absurd is
  operand_after (extend place h sets t) are is = absurd is
  operand_after (summarize place h by aggregates t) are is = absurd is
  operand_after (pack place h commalist t) are is = absurd is
  operand_after (unpack place h commalist t) are is = absurd is
  operand_after (using place h commalist t) are is = absurd is

  part_after : (place : Place) (h : Heading) (commalist : List ℕ) (t : Tree) → AreChanges cs es → ArePartOperands es t
      → AreValues (changed cs es) (using place h commalist t) (left_value (changed cs es) (using place h commalist t)) (right_value (changed cs es) (using place h commalist t))
  part_after place h commalist (infix_of p g word l r) are is = (operand_after l are is.0, operand_after r are is.1)
  part_after place h commalist (project p g kept t) are is = operand_after t are is
  part_after place h commalist (named p g name) are is = absurd is
  part_after place h commalist (literal p g tuples) are is = absurd is
  part_after place h commalist (rename p g names t) are is = absurd is
  part_after place h commalist (restrict p g c t) are is = absurd is
  part_after place h commalist (extend p g sets t) are is = absurd is
  part_after place h commalist (summarize p g by aggregates t) are is = absurd is
  part_after place h commalist (pack p g list t) are is = absurd is
  part_after place h commalist (unpack p g list t) are is = absurd is
  part_after place h commalist (using p g list t) are is = absurd is

  pub values_after : (t : Tree) → AreChanges cs es → AreOperands es t → AreValues (changed cs es) t (left_value (changed cs es) t) (right_value (changed cs es) t)
  values_after (using place h commalist t) are is = part_after place h commalist t are is
  values_after (pack place h commalist t) are is = operand_after t are is
  values_after (named place h name) are is = absurd is
  values_after (literal place h tuples) are is = absurd is
  values_after (infix_of place h word l r) are is = absurd is
  values_after (project place h kept t) are is = absurd is
  values_after (rename place h names t) are is = absurd is
  values_after (restrict place h c t) are is = absurd is
  values_after (extend place h sets t) are is = absurd is
  values_after (summarize place h by aggregates t) are is = absurd is
  values_after (unpack place h commalist t) are is = absurd is

  module _ (ds : List (Option Moved)) (differ : AreDifferences cs ds es) where
    operand_told : (t : Tree) (x y : Relation) → IsRelation x → IsValue es t x → IsValue (changed cs es) t y → IsDifference x y (operand_difference ds es t) × IsRelation y
    operand_told (named place h name) x y ix v w = named_told name cs ds es x y differ ix v.0 w.0
    operand_told (literal place h tuples) x y ix v w = absurd v
    operand_told (infix_of place h word l r) x y ix v w = absurd v
    operand_told (project place h kept t) x y ix v w = absurd v
    operand_told (rename place h names t) x y ix v w = absurd v
    operand_told (restrict place h c t) x y ix v w = absurd v
    operand_told (extend place h sets t) x y ix v w = absurd v
    operand_told (summarize place h by aggregates t) x y ix v w = absurd v
    operand_told (pack place h commalist t) x y ix v w = absurd v
    operand_told (unpack place h commalist t) x y ix v w = absurd v
    operand_told (using place h commalist t) x y ix v w = absurd v

    alone_told : (t : Tree) (old new : Relation) → IsRelation old → IsValue es t old → IsValue (changed cs es) t new → AreOperandMoves old new None None (operand_difference ds es t) None
    alone_told t old new are v w = let a = operand_told t old new are v w in record { left = a.0; right = tt; relations = a.1 }

    part_told : (t : Tree) (old new : Relation) (old_right new_right : Option Relation) → AreRelations old old_right → ArePartValues es t old old_right → ArePartValues (changed cs es) t new new_right
        → AreOperandMoves old new old_right new_right (left_of_part ds es t) (right_of_part ds es t)
    part_told (infix_of place h word l r) old new None new_right are v w = absurd v
    part_told (infix_of place h word l r) old new (Some x) None are v w = absurd w
    part_told (infix_of place h word l r) old new (Some x) (Some y) are v w =
        let a = operand_told l old new are.0 v.0 w.0 in
        let b = operand_told r x y are.1 v.1 w.1 in
        record { left = a.0; right = b.0; relations = (a.1, b.1) }
    part_told (project place h kept t) old new (Some x) new_right are v w = absurd v
    part_told (project place h kept t) old new None (Some y) are v w = absurd w
    part_told (project place h kept t) old new None None are v w = alone_told t old new are v w
    part_told (named place h name) old new old_right new_right are v w = absurd v
    part_told (literal place h tuples) old new old_right new_right are v w = absurd v
    part_told (rename place h names t) old new old_right new_right are v w = absurd v
    part_told (restrict place h c t) old new old_right new_right are v w = absurd v
    part_told (extend place h sets t) old new old_right new_right are v w = absurd v
    part_told (summarize place h by aggregates t) old new old_right new_right are v w = absurd v
    part_told (pack place h commalist t) old new old_right new_right are v w = absurd v
    part_told (unpack place h commalist t) old new old_right new_right are v w = absurd v
    part_told (using place h commalist t) old new old_right new_right are v w = absurd v

    both_told : (t : Tree) (old new : Relation) (old_right new_right : Option Relation) → AreRelations old old_right → AreValues es t old old_right → AreValues (changed cs es) t new new_right
        → AreOperandMoves old new old_right new_right (left_difference ds es t) (right_difference ds es t)
    both_told (using place h commalist t) old new old_right new_right are v w = part_told t old new old_right new_right are v w
    both_told (pack place h commalist t) old new (Some x) new_right are v w = absurd v
    both_told (pack place h commalist t) old new None (Some y) are v w = absurd w
    both_told (pack place h commalist t) old new None None are v w = alone_told t old new are v w
    both_told (named place h name) old new old_right new_right are v w = absurd v
    both_told (literal place h tuples) old new old_right new_right are v w = absurd v
    both_told (infix_of place h word l r) old new old_right new_right are v w = absurd v
    both_told (project place h kept t) old new old_right new_right are v w = absurd v
    both_told (rename place h names t) old new old_right new_right are v w = absurd v
    both_told (restrict place h c t) old new old_right new_right are v w = absurd v
    both_told (extend place h sets t) old new old_right new_right are v w = absurd v
    both_told (summarize place h by aggregates t) old new old_right new_right are v w = absurd v
    both_told (unpack place h commalist t) old new old_right new_right are v w = absurd v

    pub operands_told : (t : Tree) (left right : Option Moved) → left ≡ left_difference ds es t → right ≡ right_difference ds es t → AreTold es (changed cs es) t left right
    operands_told t left right e f =
        subst (λ (T : Type 0). T) (λ i. AreTold es (changed cs es) t (sym e i) (sym f i)) (record { told = both_told t })

    -- ---- whether one gains or loses rows

    operand_any : (t : Tree) → IsTrue (is_name t) → is_some (operand_difference ds es t) ≡ is_touched cs es t
    operand_any (named place h name) is = named_any name cs ds es differ
    operand_any (literal place h tuples) is = absurd (true≢false (sym is))
    operand_any (infix_of place h word l r) is = absurd (true≢false (sym is))
    operand_any (project place h kept t) is = absurd (true≢false (sym is))
    operand_any (rename place h names t) is = absurd (true≢false (sym is))
    operand_any (restrict place h c t) is = absurd (true≢false (sym is))
    operand_any (extend place h sets t) is = absurd (true≢false (sym is))
    operand_any (summarize place h by aggregates t) is = absurd (true≢false (sym is))
    operand_any (pack place h commalist t) is = absurd (true≢false (sym is))
    operand_any (unpack place h commalist t) is = absurd (true≢false (sym is))
    operand_any (using place h commalist t) is = absurd (true≢false (sym is))

    alone_any : (a b : Bool) → a ≡ b → (a || false) ≡ b
    alone_any true b e = e
    alone_any false b e = e

    part_any : (t : Tree) → IsTrue (is_stored_part t) → (is_some (left_of_part ds es t) || is_some (right_of_part ds es t)) ≡ is_touched cs es t
    part_any (infix_of place h word l r) is =
        let names = and_parts (is_name l) (is_name r) is in
        λ i. operand_any l names.0 i || operand_any r names.1 i
    part_any (project place h kept t) is = alone_any (is_some (operand_difference ds es t)) (is_touched cs es t) (operand_any t is)
    part_any (named place h name) is = absurd (true≢false (sym is))
    part_any (literal place h tuples) is = absurd (true≢false (sym is))
    part_any (rename place h names t) is = absurd (true≢false (sym is))
    part_any (restrict place h c t) is = absurd (true≢false (sym is))
    part_any (extend place h sets t) is = absurd (true≢false (sym is))
    part_any (summarize place h by aggregates t) is = absurd (true≢false (sym is))
    part_any (pack place h commalist t) is = absurd (true≢false (sym is))
    part_any (unpack place h commalist t) is = absurd (true≢false (sym is))
    part_any (using place h commalist t) is = absurd (true≢false (sym is))

    both_any : (t : Tree) → IsTrue (is_stored_form t) → (is_some (left_difference ds es t) || is_some (right_difference ds es t)) ≡ is_touched cs es t
    both_any (using place h commalist t) is = part_any t is
    both_any (pack place h commalist t) is = alone_any (is_some (operand_difference ds es t)) (is_touched cs es t) (operand_any t is)
    both_any (named place h name) is = absurd (true≢false (sym is))
    both_any (literal place h tuples) is = absurd (true≢false (sym is))
    both_any (infix_of place h word l r) is = absurd (true≢false (sym is))
    both_any (project place h kept t) is = absurd (true≢false (sym is))
    both_any (rename place h names t) is = absurd (true≢false (sym is))
    both_any (restrict place h c t) is = absurd (true≢false (sym is))
    both_any (extend place h sets t) is = absurd (true≢false (sym is))
    both_any (summarize place h by aggregates t) is = absurd (true≢false (sym is))
    both_any (unpack place h commalist t) is = absurd (true≢false (sym is))

    pub any_told : (t : Tree) (left right : Option Moved) → IsTrue (is_stored_form t) → left ≡ left_difference ds es t → right ≡ right_difference ds es t → (is_some left || is_some right) ≡ is_touched cs es t
    any_told t left right is e f = (λ i. is_some (e i) || is_some (f i)) ∙ both_any t is

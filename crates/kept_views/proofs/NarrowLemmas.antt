-- The group of a key is that of the operands' rows of the key alone.
--     narrow_left, narrow_right      operands with the rows of a key alone
--     group_same      the view's group is that of them
use Rattle.std.proofs.Common.{◌≡◌, ℕ, ◌+◌, List, [], length, Option, None, Some, Result, refl, sym, ◌∙◌, subst}
use Rattle.std.specs.Result.{MatchResult}
use Rattle.cell_core.specs.Costs.{bound}
use Rattle.value_core.specs.declared.refuse.RowsRefuse.{RowsRefuse}
use Rattle.relation_core.specs.Answers.{IsRefusal}
use Rattle.kept_views.specs.declared.group_moves.Moved.{Moved}
use Rattle.std.specs.Bool.{IsTrue}
use Rattle.base_core.specs.Sets.{has}
use Rattle.base_core.proofs.MemberLemmas.{In-filter}
use Rattle.base_core.proofs.SetOperatorLemmas.{Ascends-filter}
use Rattle.value_core.specs.Values.{Row, Relation, IsRelation, row_cmp}
use Rattle.value_core.proofs.RelationLemmas.{sorted_from_ascending}
use Rattle.relation_core.specs.Growth.{IsSelection}
use Rattle.relation_core.proofs.FilterLemmas.{filter_all, rows_ascend}
use Rattle.relation_core.proofs.GrowthLemmas.{selection_fits, selection_few}
use Rattle.kept_views.specs.declared.rule.KeptRule.{KeptRule}
use Rattle.kept_views.specs.Kept.{heading_or_none, rows_or_none, rows_by, kept_rows, left_key, right_key, view_key, has_key, of_key, Fits, IsMoved}
use Rattle.kept_views.specs.declared.moving.SortedRows.{SortedRows}
use Rattle.kept_views.specs.Sorted.{rows_behind, with_rows, AreSorted, AreBehind, AreAllSorted, IsGroup}
use Rattle.kept_views.specs.Touched.{AreRelations, group_cost}
use Rattle.kept_views.proofs.GroupLemmas.{law}

pub of_key_again : (positions : List ℕ) (key : Row) (rows : List Row) → of_key positions key (of_key positions key rows) ≡ of_key positions key rows
of_key_again positions key rows = filter_all (has_key positions key) (of_key positions key rows) (λ z i. ((In-filter (has_key positions key) z rows).0 i).1)

abbrev pub narrow : List ℕ → Row → Relation → Relation
narrow positions key r = record { heading = r.heading; rows = of_key positions key r.rows }

narrow_is : (positions : List ℕ) (key : Row) (r : Relation) → IsRelation r → IsRelation (narrow positions key r)
narrow_is positions key r is =
    let rows : List Row = of_key positions key r.rows in
    let some : IsSelection r.rows rows = (has_key positions key, refl) in
    record {
      headed = is.headed;
      ascending = sorted_from_ascending rows (Ascends-filter row_cmp (has_key positions key) r.rows (rows_ascend r is));
      fitting = selection_fits r rows is some;
      few = selection_few r rows is some;
    }

abbrev pub narrow_left : KeptRule → Relation → Option Relation → Row → Relation
narrow_left rule left right key = narrow (left_key rule.op rule.left left.heading (heading_or_none right)) key left

abbrev pub narrow_right : KeptRule → Relation → Option Relation → Row → Option Relation
narrow_right rule left None key = None
narrow_right rule left (Some right) key = Some (narrow (right_key rule.op rule.left left.heading right.heading) key right)

pub group_same : (rule : KeptRule) (left : Relation) (right : Option Relation) (key : Row) → AreRelations left right → Fits rule left right
    → of_key (view_key rule.op rule.left left.heading (heading_or_none right)) key (kept_rows rule (narrow_left rule left right key) (narrow_right rule left right key))
    ≡ of_key (view_key rule.op rule.left left.heading (heading_or_none right)) key (kept_rows rule left right)
group_same rule left None key are fits =
    let here = left_key rule.op rule.left left.heading [] in
    let there = right_key rule.op rule.left left.heading [] in
    law rule (narrow here key left) None (narrow_is here key left are) tt fits key
    ∙ (λ t. rows_by rule.op rule.left rule.right left.heading [] (of_key_again here key left.rows t) (of_key there key []))
    ∙ sym (law rule left None are tt fits key)
group_same rule left (Some right) key are fits =
    let here = left_key rule.op rule.left left.heading right.heading in
    let there = right_key rule.op rule.left left.heading right.heading in
    law rule (narrow here key left) (Some (narrow there key right)) (narrow_is here key left are.0) (narrow_is there key right are.1) fits key
    ∙ (λ t. rows_by rule.op rule.left rule.right left.heading right.heading (of_key_again here key left.rows t) (of_key_again there key right.rows t))
    ∙ sym (law rule left (Some right) are.0 are.1 fits key)

-- ---- rows that are found by their key

behind_one : (positions : List ℕ) (keys rows : List Row) (list : List (Row × Row)) (key : Row) → IsTrue (has row_cmp keys key) → AreSorted positions keys rows list → AreBehind positions key rows list
behind_one positions keys rows list key i h = record { ascending = h.ascending; complete = h.complete key i }

pub group_of_all : (rule : KeptRule) (keys rows : List Row) (left : Relation) (right : Option Relation) (all : SortedRows) (key : Row) → IsTrue (has row_cmp keys key) → AreAllSorted rule keys rows left right all → IsGroup rule key rows left right all
group_of_all rule keys rows left right all key i h = record {
  of_view = behind_one _ keys rows all.view.items key i h.of_view;
  of_left = behind_one _ keys left.rows all.left.items key i h.of_left;
  of_right = behind_one _ keys (rows_or_none right) all.right.items key i h.of_right;
}

-- a relation of the rows behind a key
pub narrowed : (positions : List ℕ) (key : Row) (r x : Relation) (list : List (Row × Row)) → AreBehind positions key r.rows list → x.heading ≡ r.heading → x.rows ≡ rows_behind key list → x ≡ narrow positions key r
narrowed positions key r x list h e f = λ t. record { heading = e t; rows = (f ∙ h.complete) t }

pub narrowed_right : (rule : KeptRule) (left : Relation) (right : Option Relation) (key : Row) (list : List (Row × Row)) → AreBehind (right_key rule.op rule.left left.heading (heading_or_none right)) key (rows_or_none right) list
    → with_rows (rows_behind key list) right ≡ narrow_right rule left right key
narrowed_right rule left None key list h = refl
narrowed_right rule left (Some right) key list h = λ t. Some (record { heading = right.heading; rows = h.complete t })

-- what the group gains and loses is told by the rows of the key alone
pub narrowed_moved : (rule : KeptRule) (left : Relation) (right : Option Relation) (key : Row) → AreRelations left right → Fits rule left right → (view v l : Relation) (r : Option Relation)
    → v ≡ narrow (view_key rule.op rule.left left.heading (heading_or_none right)) key view → l ≡ narrow_left rule left right key → r ≡ narrow_right rule left right key → (result : Result Moved RowsRefuse)
    → MatchResult result (IsMoved v.heading (of_key (view_key rule.op rule.left l.heading (heading_or_none r)) key v.rows) (of_key (view_key rule.op rule.left l.heading (heading_or_none r)) key (kept_rows rule l r)))
    (IsRefusal (of_key (view_key rule.op rule.left l.heading (heading_or_none r)) key (kept_rows rule l r)))
    → MatchResult result (IsMoved view.heading (of_key (view_key rule.op rule.left left.heading (heading_or_none right)) key view.rows)
    (of_key (view_key rule.op rule.left left.heading (heading_or_none right)) key (kept_rows rule left right))) (IsRefusal (of_key (view_key rule.op rule.left left.heading (heading_or_none right)) key (kept_rows rule left right)))
narrowed_moved rule left None key are fits view v l r ev el er result h =
    let places = view_key rule.op rule.left left.heading [] in
    let e = of_key_again places key view.rows in
    let f = group_same rule left None key are fits in
    subst (λ T. T) (λ t. MatchResult result (IsMoved view.heading (e t) (f t)) (IsRefusal (f t)))
    (subst (λ T. T) (λ t. MatchResult result (IsMoved (ev t).heading (of_key (view_key rule.op rule.left (el t).heading (heading_or_none (er t))) key (ev t).rows)
    (of_key (view_key rule.op rule.left (el t).heading (heading_or_none (er t))) key (kept_rows rule (el t) (er t)))) (IsRefusal (of_key (view_key rule.op rule.left (el t).heading (heading_or_none (er t))) key (kept_rows rule (el t) (er t))))) h)
narrowed_moved rule left (Some right) key are fits view v l r ev el er result h =
    let places = view_key rule.op rule.left left.heading right.heading in
    let e = of_key_again places key view.rows in
    let f = group_same rule left (Some right) key are fits in
    subst (λ T. T) (λ t. MatchResult result (IsMoved view.heading (e t) (f t)) (IsRefusal (f t)))
    (subst (λ T. T) (λ t. MatchResult result (IsMoved (ev t).heading (of_key (view_key rule.op rule.left (el t).heading (heading_or_none (er t))) key (ev t).rows)
    (of_key (view_key rule.op rule.left (el t).heading (heading_or_none (er t))) key (kept_rows rule (el t) (er t)))) (IsRefusal (of_key (view_key rule.op rule.left (el t).heading (heading_or_none (er t))) key (kept_rows rule (el t) (er t))))) h)

-- and so is its cost
pub narrowed_cost : (rule : KeptRule) (left : Relation) (right : Option Relation) (key : Row) (l : Relation) (r : Option Relation) → l ≡ narrow_left rule left right key → r ≡ narrow_right rule left right key
    → group_cost rule l r key ≡ group_cost rule left right key
narrowed_cost rule left None key l r el er =
    (λ t. group_cost rule (el t) (er t) key)
    ∙ (λ t. bound (length (of_key_again (left_key rule.op rule.left left.heading []) key left.rows t) + length (of_key (right_key rule.op rule.left left.heading []) key [])) (length rule.left))
narrowed_cost rule left (Some right) key l r el er =
    (λ t. group_cost rule (el t) (er t) key)
    ∙ (λ t. bound (length (of_key_again (left_key rule.op rule.left left.heading right.heading) key left.rows t) + length (of_key_again (right_key rule.op rule.left left.heading right.heading) key right.rows t)) (length rule.left))

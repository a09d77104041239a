-- Rows with some keys alone: of these keys they have the groups of all rows.
--     again      a group of the rows with some keys
--     kept_left, kept_right      operands with the rows of some keys alone
--     group_part, cost_part      the view's group of such a key, and its cost
--     moves_part      what the groups of the keys gain and lose
use Rattle.std.proofs.Common.{◌≡◌, inl, inr, ℕ, ◌+◌, Bool, true, List, [], ◌∷◌, ◌++◌, length, sum_by, Option, None, Some, refl, sym, ap, ap₂, ◌∙◌}
use Rattle.std.specs.Bool.{IsTrue}
use Rattle.std.specs.List.{filter, flat_map}
use Rattle.std.proofs.lemmas.List.Sums.{sum_by-cons}
use Rattle.base_core.specs.Sets.{has}
use Rattle.base_core.proofs.MemberLemmas.{has-In, eq_by_cmp-≡}
use Rattle.base_core.proofs.SetLemmas.{In}
use Rattle.base_core.proofs.SetOperatorLemmas.{Ascends-filter}
use Rattle.cell_core.specs.Costs.{bound}
use Rattle.value_core.specs.Order.{row_total, row_separates}
use Rattle.value_core.specs.Values.{Row, Relation, IsRelation, row_cmp}
use Rattle.value_core.proofs.RelationLemmas.{sorted_from_ascending}
use Rattle.relation_core.specs.Agreement.{part_of}
use Rattle.relation_core.specs.Growth.{IsSelection}
use Rattle.relation_core.specs.Operators.{subtracted}
use Rattle.relation_core.proofs.FilterLemmas.{filter_all, rows_ascend}
use Rattle.relation_core.proofs.GrowthLemmas.{selection_fits, selection_few}
use Rattle.u_constraints.specs.Near.{with_keys}
use Rattle.kept_views.specs.declared.rule.KeptRule.{KeptRule}
use Rattle.kept_views.specs.Kept.{heading_or_none, rows_by, kept_rows, left_key, right_key, view_key, has_key, of_key, Fits}
use Rattle.kept_views.specs.Touched.{AreRelations, gained, group_cost, groups_cost}
use Rattle.kept_views.proofs.FilterLemmas.{filters_parted}
use Rattle.kept_views.proofs.GroupLemmas.{law}

-- ---- groups of rows with some keys

pub again : (positions : List ℕ) (keys : List Row) (key : Row) (rows : List Row) → IsTrue (has row_cmp keys key) → of_key positions key (with_keys positions keys rows) ≡ of_key positions key rows
again positions keys key rows sought =
    let p : Row → Bool = has_key positions key in
    let q : Row → Bool = λ x. has row_cmp keys (part_of positions x) in
    filters_parted p q (λ x. true) rows (λ x e. ap (has row_cmp keys) ((eq_by_cmp-≡ row_cmp row_total row_separates (part_of positions x) key).0 e) ∙ sought)
    ∙ filter_all (λ x. true) (filter p rows) (λ z i. refl)

abbrev pub kept : List ℕ → List Row → Relation → Relation
kept positions keys r = record { heading = r.heading; rows = with_keys positions keys r.rows }

pub kept_is : (positions : List ℕ) (keys : List Row) (r : Relation) → IsRelation r → IsRelation (kept positions keys r)
kept_is positions keys r is =
    let p : Row → Bool = λ x. has row_cmp keys (part_of positions x) in
    let rows : List Row = with_keys positions keys r.rows in
    let some : IsSelection r.rows rows = (p, refl) in
    record {
      headed = is.headed;
      ascending = sorted_from_ascending rows (Ascends-filter row_cmp p r.rows (rows_ascend r is));
      fitting = selection_fits r rows is some;
      few = selection_few r rows is some;
    }

abbrev pub kept_left : KeptRule → Relation → Option Relation → List Row → Relation
kept_left rule left right keys = kept (left_key rule.op rule.left left.heading (heading_or_none right)) keys left

abbrev pub kept_right : KeptRule → Relation → Option Relation → List Row → Option Relation
kept_right rule left None keys = None
kept_right rule left (Some right) keys = Some (kept (right_key rule.op rule.left left.heading right.heading) keys right)

pub kept_heading_same : (rule : KeptRule) (left : Relation) (right : Option Relation) (keys : List Row) → heading_or_none (kept_right rule left right keys) ≡ heading_or_none right
kept_heading_same rule left None keys = refl
kept_heading_same rule left (Some right) keys = refl

pub kept_fits : (rule : KeptRule) (left : Relation) (right : Option Relation) (keys : List Row) → Fits rule left right → Fits rule (kept_left rule left right keys) (kept_right rule left right keys)
kept_fits rule left None keys h = h
kept_fits rule left (Some right) keys h = h

-- ---- the view's group of such a key, and its cost

pub group_part : (rule : KeptRule) (left : Relation) (right : Option Relation) (keys : List Row) (key : Row) → IsTrue (has row_cmp keys key) → AreRelations left right → Fits rule left right
    → of_key (view_key rule.op rule.left left.heading (heading_or_none (kept_right rule left right keys))) key (kept_rows rule (kept_left rule left right keys) (kept_right rule left right keys))
    ≡ of_key (view_key rule.op rule.left left.heading (heading_or_none right)) key (kept_rows rule left right)
group_part rule left None keys key sought are fits =
    let here = left_key rule.op rule.left left.heading [] in
    let there = right_key rule.op rule.left left.heading [] in
    law rule (kept here keys left) None (kept_is here keys left are) tt fits key
    ∙ (λ t. rows_by rule.op rule.left rule.right left.heading [] (again here keys key left.rows sought t) (of_key there key []))
    ∙ sym (law rule left None are tt fits key)
group_part rule left (Some right) keys key sought are fits =
    let here = left_key rule.op rule.left left.heading right.heading in
    let there = right_key rule.op rule.left left.heading right.heading in
    law rule (kept here keys left) (Some (kept there keys right)) (kept_is here keys left are.0) (kept_is there keys right are.1) fits key
    ∙ (λ t. rows_by rule.op rule.left rule.right left.heading right.heading (again here keys key left.rows sought t) (again there keys key right.rows sought t))
    ∙ sym (law rule left (Some right) are.0 are.1 fits key)

cost_part : (rule : KeptRule) (left : Relation) (right : Option Relation) (keys : List Row) (key : Row) → IsTrue (has row_cmp keys key)
    → group_cost rule (kept_left rule left right keys) (kept_right rule left right keys) key ≡ group_cost rule left right key
cost_part rule left None keys key sought =
    λ t. bound (length (again (left_key rule.op rule.left left.heading []) keys key left.rows sought t) + length (of_key (right_key rule.op rule.left left.heading []) key [])) (length rule.left)
cost_part rule left (Some right) keys key sought =
    λ t. bound (length (again (left_key rule.op rule.left left.heading right.heading) keys key left.rows sought t) + length (again (right_key rule.op rule.left left.heading right.heading) keys key right.rows sought t)) (length rule.left)

sums_alike : {X : Type 0} (f g : X → ℕ) (xs : List X) → ((x : X) → In x xs → f x ≡ g x) → sum_by f xs ≡ sum_by g xs
sums_alike f g [] h = refl
sums_alike f g (x ∷ xs) h = sum_by-cons f x xs ∙ ap₂ (λ (a b : ℕ). a + b) (h x (inl refl)) (sums_alike f g xs (λ y i. h y (inr i))) ∙ sym (sum_by-cons g x xs)

pub costs_part : (rule : KeptRule) (left : Relation) (right : Option Relation) (keys : List Row) → groups_cost rule (kept_left rule left right keys) (kept_right rule left right keys) keys ≡ groups_cost rule left right keys
costs_part rule left right keys =
    sums_alike (group_cost rule (kept_left rule left right keys) (kept_right rule left right keys)) (group_cost rule left right) keys (λ key i.
    cost_part rule left right keys key ((has-In row_cmp row_total row_separates keys key).1 i))

-- ---- what groups gain

lists_alike : {X Y : Type 0} (f g : X → List Y) (xs : List X) → ((x : X) → In x xs → f x ≡ g x) → flat_map f xs ≡ flat_map g xs
lists_alike f g [] h = refl
lists_alike {Y = Y} f g (x ∷ xs) h = ap₂ (λ (a b : List Y). a ++ b) (h x (inl refl)) (lists_alike f g xs (λ y i. h y (inr i)))

pub gained_alike : (P Q : List ℕ) (keys old new old' new' : List Row) → ((key : Row) → IsTrue (has row_cmp keys key) → of_key P key old ≡ of_key Q key old') → ((key : Row) → IsTrue (has row_cmp keys key) → of_key P key new ≡ of_key Q key new')
    → gained P keys old new ≡ gained Q keys old' new'
gained_alike P Q keys old new old' new' e f =
    lists_alike (λ key. subtracted (of_key P key new) (of_key P key old)) (λ key. subtracted (of_key Q key new') (of_key Q key old')) keys (λ key i.
    let there = (has-In row_cmp row_total row_separates keys key).1 i in
    ap₂ subtracted (f key there) (e key there))

-- What is told of operands is what they gain and lose, and the rows with touched keys tell what the view gains and loses.
--     told_is, all_is      the keys of what is told are the touched ones
--     long      keys are as long as their places are many
--     part_is, part_few      the rows with some keys afterwards
--     sorted_view, moves_whole, cost_whole, refused_whole      of the rows with touched keys, and so of all
use Rattle.std.proofs.Common.{◌≡◌, ◌≤◌, inl, inr, ℕ, Bool, List, [], ◌∷◌, ◌++◌, map, length, Option, None, Some, refl, sym, ap, ◌∙◌, subst, arith}
use Rattle.std.specs.Bool.{IsTrue}
use Rattle.std.specs.List.{All}
use Rattle.std.proofs.lemmas.Bool.{cases_Bool, true≢false}
use Rattle.std.proofs.lemmas.List.{length-map}
use Rattle.base_core.specs.Sets.{has}
use Rattle.base_core.proofs.ListLemmas.{All-In}
use Rattle.base_core.proofs.MemberLemmas.{In-append, In-map, In-filter, has-In}
use Rattle.base_core.proofs.SetLemmas.{In, Ascends, In-in_order, same_by_members}
use Rattle.base_core.proofs.SetOperatorLemmas.{Ascends-filter, Ascends-union_of, In-union_of, In-difference_of}
use Rattle.value_core.specs.Order.{row_total, row_separates}
use Rattle.value_core.specs.Values.{Row, Heading, Relation, row_cmp, rows_of, most_rows}
use Rattle.value_core.specs.declared.refuse.RowsRefuse.{RowsRefuse}
use Rattle.relation_core.specs.Agreement.{part_of}
use Rattle.relation_core.specs.Answers.{IsRefusal}
use Rattle.relation_core.specs.Operators.{united, subtracted}
use Rattle.relation_core.specs.Parts.{projected}
use Rattle.relation_core.proofs.FilterLemmas.{length-filter_at_most, rows_ascend}
use Rattle.u_constraints.specs.Near.{with_keys}
use Rattle.kept_views.specs.declared.group_moves.Moved.{Moved}
use Rattle.kept_views.specs.declared.moving.Moves.{Moves}
use Rattle.kept_views.specs.declared.moving.SortedRows.{SortedRows}
use Rattle.kept_views.specs.declared.parting.Parts.{Parts}
use Rattle.kept_views.specs.declared.rule.KeptRule.{KeptRule}
use Rattle.kept_views.specs.Differing.{IsDifference, IsDifferenceIf}
use Rattle.kept_views.specs.Kept.{heading_or_none, rows_or_none, view_heading, kept_heading, kept_rows, key_names, left_key, right_key, view_key, has_key, of_key, Fits}
use Rattle.kept_views.specs.Parting.{HasHeading, HasHeadingIf, keys_told, all_told, rows_after, part_after_or_none, ArePartsAfter}
use Rattle.kept_views.specs.Sorted.{AreAllSorted}
use Rattle.kept_views.specs.Touched.{AreRelations, HaveOneHeading, changed_keys, touched_keys, AreMoves, IsRefusedGroup, groups_cost}
use Rattle.kept_views.proofs.GroupLemmas.{IsRelationOrNone}
use Rattle.kept_views.proofs.MovedLemmas.{small_refused}
use Rattle.kept_views.proofs.PartLemmas.{again, kept_left, kept_right, kept_heading_same, kept_fits, group_part, costs_part, gained_alike}
use Rattle.kept_views.proofs.TouchedLemmas.{there_unless, one_heading, left_is, right_is}

-- ---- what is told of one operand

none_in : (xs : List Row) → ((x : Row) → In x xs → ⊥) → xs ≡ []
none_in [] h = refl
none_in (x ∷ xs) h = absurd (h x (inl refl))

less_itself : (xs : List Row) → subtracted xs xs ≡ []
less_itself xs = none_in (subtracted xs xs) (λ x i. let w = (In-difference_of row_cmp row_total row_separates x xs xs).0 i in w.1 w.0)

pub told_is : (positions : List ℕ) (old new : Relation) (d : Option Moved) → IsDifference old new d → keys_told positions d ≡ changed_keys positions old.rows new.rows
told_is positions old new None h =
    sym ((λ t. projected positions (subtracted old.rows (h t).rows) ++ projected positions (subtracted (h t).rows old.rows))
    ∙ (λ t. projected positions (less_itself old.rows t) ++ projected positions (less_itself old.rows t)))
told_is positions old new (Some m) h = λ t. projected positions (h.1.gone t) ++ projected positions (h.1.come t)

pub told_if : (positions : List ℕ) (old new : Option Relation) (d : Option Moved) → IsDifferenceIf old new d → keys_told positions d ≡ changed_keys positions (rows_or_none old) (rows_or_none new)
told_if positions None None None h = refl
told_if positions None None (Some m) h = absurd h
told_if positions None (Some new) d h = absurd h
told_if positions (Some old) None d h = absurd h
told_if positions (Some old) (Some new) d h = told_is positions old new d h

pub heading_same : (old new : Relation) (d : Option Moved) → IsDifference old new d → old.heading ≡ new.heading
heading_same old new None h = λ t. (sym h t).heading
heading_same old new (Some m) h = h.0

pub heading_if : (old new : Option Relation) (d : Option Moved) → IsDifferenceIf old new d → HaveOneHeading old new
heading_if None None None h = tt
heading_if None None (Some m) h = absurd h
heading_if None (Some new) d h = absurd h
heading_if (Some old) None d h = absurd h
heading_if (Some old) (Some new) d h = heading_same old new d h

pub has_heading : (old new : Relation) (d : Option Moved) → IsDifference old new d → HasHeading old.heading d
has_heading old new None h = tt
has_heading old new (Some m) h = (h.1.gone_heading, h.1.come_heading)

pub has_heading_if : (old new : Option Relation) (d : Option Moved) → IsDifferenceIf old new d → HasHeadingIf old d
has_heading_if None None None h = tt
has_heading_if None None (Some m) h = absurd h
has_heading_if None (Some new) d h = absurd h
has_heading_if (Some old) None d h = absurd h
has_heading_if (Some old) (Some new) d h = has_heading old new d h

-- ---- how long keys are

part_long : (positions : List ℕ) (rows : List Row) (key : Row) → In key (projected positions rows) → length key ≡ length positions
part_long positions rows key i =
    let w = (In-map (part_of positions) key rows).0 ((In-in_order row_cmp row_total row_separates key (map (part_of positions) rows)).0 i) in
    ap (λ (k : Row). length k) w.2 ∙ length-map positions _

told_long : (positions : List ℕ) (d : Option Moved) (key : Row) → In key (keys_told positions d) → length key ≡ length positions
told_long positions None key i = absurd i
told_long positions (Some m) key i = elim ((In-append key (projected positions m.gone.rows) (projected positions m.come.rows)).0 i) [
  | inl j ↦ part_long positions m.gone.rows key j
  | inr j ↦ part_long positions m.come.rows key j
]

pub long : (rule : KeptRule) (left : Relation) (right : Option Relation) (d e : Option Moved) (keys : List Row) → keys ≡ all_told rule left right d e
    → All (λ (k : Row). length k ≡ length (key_names rule.op rule.left left.heading (heading_or_none right))) keys
long rule left right d e keys is =
    let here = left_key rule.op rule.left left.heading (heading_or_none right) in
    let there = right_key rule.op rule.left left.heading (heading_or_none right) in
    All-In _ keys (λ key i.
    let j : In key (keys_told here d ++ keys_told there e) = (In-in_order row_cmp row_total row_separates key (keys_told here d ++ keys_told there e)).0 (subst (λ (ks : List Row). In key ks) is i) in
    elim ((In-append key (keys_told here d) (keys_told there e)).0 j) [
      | inl k ↦ told_long here d key k ∙ length-map (key_names rule.op rule.left left.heading (heading_or_none right)) _
      | inr k ↦ told_long there e key k ∙ length-map (key_names rule.op rule.left left.heading (heading_or_none right)) _
    ])

-- ---- the rows with some keys afterwards

module _ (positions : List ℕ) (keys old new : List Row) (up' : Ascends row_cmp new) (cover : (key : Row) → In key (projected positions (subtracted new old)) → IsTrue (has row_cmp keys key)) where
  abbrev p : Row → Bool
  p x = has row_cmp keys (part_of positions x)

  covered : (x : Row) → In x (subtracted new old) → IsTrue (p x)
  covered x i = cover (part_of positions x) ((In-in_order row_cmp row_total row_separates (part_of positions x) (map (part_of positions) (subtracted new old))).1
      ((In-map (part_of positions) (part_of positions x) (subtracted new old)).1 (x, i, refl)))

  some_renewed : united (subtracted (with_keys positions keys old) (subtracted old new)) (subtracted new old) ≡ with_keys positions keys new
  some_renewed =
      same_by_members row_cmp row_total row_separates (united (subtracted (with_keys positions keys old) (subtracted old new)) (subtracted new old)) (with_keys positions keys new)
      (Ascends-union_of row_cmp row_total row_separates (subtracted (with_keys positions keys old) (subtracted old new)) (subtracted new old)) (Ascends-filter row_cmp p new up') (λ x.
      let a = In-union_of row_cmp row_total row_separates x (subtracted (with_keys positions keys old) (subtracted old new)) (subtracted new old) in
      let b = In-difference_of row_cmp row_total row_separates x (with_keys positions keys old) (subtracted old new) in
      let c = In-difference_of row_cmp row_total row_separates x old new in
      let d = In-difference_of row_cmp row_total row_separates x new old in
      let f = In-filter p x old in
      let g = In-filter p x new in (
        λ h. elim (a.0 h) [
          | inl i ↦
              let w = b.0 i in
              let v = f.0 w.0 in
              g.1 (there_unless new x (λ missing. w.1 (c.1 (v.0, missing))), v.1)
          | inr i ↦ g.1 ((d.0 i).0, covered x i)
        ],
        λ h.
            let v = g.0 h in
            let k = has-In row_cmp row_total row_separates old x in
            elim (cases_Bool (has row_cmp old x)) [
              | inl e ↦ a.1 (inl (b.1 (f.1 (k.0 e, v.1), λ j. (c.0 j).1 v.0)))
              | inr e ↦ a.1 (inr (d.1 (v.0, λ i. true≢false (sym (k.1 i) ∙ e))))
            ],
      ))

pub part_is : (positions : List ℕ) (keys : List Row) (old new : Relation) (d : Option Moved) → Ascends row_cmp new.rows → IsDifference old new d
    → ((key : Row) → In key (projected positions (subtracted new.rows old.rows)) → IsTrue (has row_cmp keys key)) → rows_after (with_keys positions keys old.rows) d ≡ with_keys positions keys new.rows
part_is positions keys old new None up' h cover = λ t. with_keys positions keys (sym h t).rows
part_is positions keys old new (Some m) up' h cover =
    (λ t. united (subtracted (with_keys positions keys old.rows) (h.1.gone t)) (h.1.come t)) ∙ some_renewed positions keys old.rows new.rows up' cover

pub part_if : (positions : List ℕ) (keys : List Row) (old new : Option Relation) (e : Option Moved) → Ascends row_cmp (rows_or_none new) → IsDifferenceIf old new e
    → ((key : Row) → In key (projected positions (subtracted (rows_or_none new) (rows_or_none old))) → IsTrue (has row_cmp keys key)) → rows_after (with_keys positions keys (rows_or_none old)) e ≡ with_keys positions keys (rows_or_none new)
part_if positions keys None None None up h cover = refl
part_if positions keys None None (Some m) up h cover = absurd h
part_if positions keys None (Some new) e up h cover = absurd h
part_if positions keys (Some old) None e up h cover = absurd h
part_if positions keys (Some old) (Some new) e up h cover = part_is positions keys old new e up h cover

part_or_none : (rule : KeptRule) (left : Relation) (old new : Option Relation) (e : Option Moved) (P : List ℕ) (keys : List Row) → P ≡ right_key rule.op rule.left left.heading (heading_or_none new)
    → rows_after (with_keys P keys (rows_or_none old)) e ≡ with_keys P keys (rows_or_none new) → IsDifferenceIf old new e → part_after_or_none P keys old e ≡ kept_right rule left new keys
part_or_none rule left None None e P keys is rows h = refl
part_or_none rule left None (Some new) e P keys is rows h = absurd h
part_or_none rule left (Some old) None e P keys is rows h = absurd h
part_or_none rule left (Some old) (Some new) e P keys is rows h = λ t. Some (record { heading = heading_same old new e h t; rows = (rows ∙ (λ s. with_keys (is s) keys new.rows)) t })

none_few : (right : Option Relation) → IsRelationOrNone right → length (rows_or_none right) ≤ most_rows
none_few None is = omega arith
none_few (Some r) is = is.few

none_up : (right : Option Relation) → IsRelationOrNone right → Ascends row_cmp (rows_or_none right)
none_up None is = tt
none_up (Some right) is = rows_ascend right is

with_few : (positions : List ℕ) (keys rows : List Row) → length rows ≤ most_rows → length (with_keys positions keys rows) ≤ most_rows
with_few positions keys rows few = let less = length-filter_at_most (λ x. has row_cmp keys (part_of positions x)) rows in omega (arith, few, less)

-- ---- operands before and after

module _ (rule : KeptRule) (old_left left : Relation) (old_right right : Option Relation) (are : AreRelations left right) (d e : Option Moved)
    (h : IsDifference old_left left d) (k : IsDifferenceIf old_right right e) where
  abbrev same : old_left.heading ≡ left.heading
  same = heading_same old_left left d h

  abbrev other : heading_or_none old_right ≡ heading_or_none right
  other = one_heading old_right right (heading_if old_right right e k)

  abbrev here : List ℕ
  here = left_key rule.op rule.left left.heading (heading_or_none right)

  abbrev there : List ℕ
  there = right_key rule.op rule.left left.heading (heading_or_none right)

  abbrev places : List ℕ
  places = view_key rule.op rule.left left.heading (heading_or_none right)

  here_same : left_key rule.op rule.left old_left.heading (heading_or_none old_right) ≡ here
  here_same = λ t. left_key rule.op rule.left (same t) (other t)

  there_same : right_key rule.op rule.left old_left.heading (heading_or_none old_right) ≡ there
  there_same = λ t. right_key rule.op rule.left (same t) (other t)

  places_same : view_key rule.op rule.left old_left.heading (heading_or_none old_right) ≡ places
  places_same = λ t. view_key rule.op rule.left (same t) (other t)

  pub all_is : all_told rule old_left old_right d e ≡ touched_keys rule old_left old_right left right
  all_is =
      (λ t. rows_of (keys_told (here_same t) d ++ keys_told (there_same t) e))
      ∙ (λ t. rows_of (told_is here old_left left d h t ++ told_if there old_right right e k t))

  module _ (keys : List Row) (told : keys ≡ all_told rule old_left old_right d e) where
    among : (key : Row) → In key (changed_keys here old_left.rows left.rows ++ changed_keys there (rows_or_none old_right) (rows_or_none right)) → IsTrue (has row_cmp keys key)
    among key i =
        (has-In row_cmp row_total row_separates keys key).1 (subst (λ (ks : List Row). In key ks) (sym (told ∙ all_is))
        ((In-in_order row_cmp row_total row_separates key (changed_keys here old_left.rows left.rows ++ changed_keys there (rows_or_none old_right) (rows_or_none right))).1 i))

    left_covered : (key : Row) → In key (projected here (subtracted left.rows old_left.rows)) → IsTrue (has row_cmp keys key)
    left_covered key i =
        among key ((In-append key (changed_keys here old_left.rows left.rows) (changed_keys there (rows_or_none old_right) (rows_or_none right))).1
        (inl ((In-append key (projected here (subtracted old_left.rows left.rows)) (projected here (subtracted left.rows old_left.rows))).1 (inr i))))

    right_covered : (key : Row) → In key (projected there (subtracted (rows_or_none right) (rows_or_none old_right))) → IsTrue (has row_cmp keys key)
    right_covered key i =
        among key ((In-append key (changed_keys here old_left.rows left.rows) (changed_keys there (rows_or_none old_right) (rows_or_none right))).1
        (inr ((In-append key (projected there (subtracted (rows_or_none old_right) (rows_or_none right))) (projected there (subtracted (rows_or_none right) (rows_or_none old_right)))).1 (inr i))))

    left_rows : rows_after (with_keys here keys old_left.rows) d ≡ with_keys here keys left.rows
    left_rows = part_is here keys old_left left d (rows_ascend left (left_is left right are)) h left_covered

    right_rows : rows_after (with_keys there keys (rows_or_none old_right)) e ≡ with_keys there keys (rows_or_none right)
    right_rows = part_if there keys old_right right e (none_up right (right_is left right are)) k right_covered

    left_before : rows_after (with_keys (left_key rule.op rule.left old_left.heading (heading_or_none old_right)) keys old_left.rows) d ≡ with_keys here keys left.rows
    left_before = (λ t. rows_after (with_keys (here_same t) keys old_left.rows) d) ∙ left_rows

    right_before : rows_after (with_keys (right_key rule.op rule.left old_left.heading (heading_or_none old_right)) keys (rows_or_none old_right)) e ≡ with_keys there keys (rows_or_none right)
    right_before = (λ t. rows_after (with_keys (there_same t) keys (rows_or_none old_right)) e) ∙ right_rows

    pub left_few : length (rows_after (with_keys (left_key rule.op rule.left old_left.heading (heading_or_none old_right)) keys old_left.rows) d) ≤ most_rows
    left_few = subst (λ (rows : List Row). length rows ≤ most_rows) (sym left_before) (with_few here keys left.rows ((left_is left right are).few))

    pub right_few : length (rows_after (with_keys (right_key rule.op rule.left old_left.heading (heading_or_none old_right)) keys (rows_or_none old_right)) e) ≤ most_rows
    right_few = subst (λ (rows : List Row). length rows ≤ most_rows) (sym right_before) (with_few there keys (rows_or_none right) (none_few right (right_is left right are)))

    pub long_all : All (λ (z : Row). length z ≡ length (key_names rule.op rule.left old_left.heading (heading_or_none old_right))) keys
    long_all = long rule old_left old_right d e keys told

    module _ (fits : Fits rule left right) (view : Relation) (parts : Parts) (w : ArePartsAfter rule keys view old_left old_right d e parts)
        (other_part : Option Relation) (is : other_part ≡ parts.right) where
      left_part : parts.left ≡ kept_left rule left right keys
      left_part = w.of_left ∙ (λ t. record { heading = same t; rows = left_before t })

      right_part : other_part ≡ kept_right rule left right keys
      right_part =
          is ∙ w.of_right ∙ (λ t. part_after_or_none (there_same t) keys old_right e)
          ∙ part_or_none rule left old_right right e there keys refl right_rows k

      abbrev own : List ℕ
      own = view_key rule.op rule.left parts.left.heading (heading_or_none other_part)

      own_same : own ≡ places
      own_same =
          (λ t. view_key rule.op rule.left (left_part t).heading (heading_or_none (right_part t)))
          ∙ (λ t. view_key rule.op rule.left left.heading (kept_heading_same rule left right keys t))

      pub fits_parts : Fits rule parts.left other_part
      fits_parts = subst (λ T. T) (λ t. Fits rule (sym left_part t) (sym right_part t)) (kept_fits rule left right keys fits)

      pub heading_parts : kept_heading rule old_left old_right ≡ kept_heading rule parts.left other_part
      heading_parts =
          (λ t. view_heading rule.op (same t) (other t))
          ∙ sym ((λ t. view_heading rule.op (left_part t).heading (heading_or_none (right_part t)))
          ∙ (λ t. view_heading rule.op left.heading (kept_heading_same rule left right keys t)))

      pub sorted_whole : (all : SortedRows) → AreAllSorted rule keys parts.view.rows parts.left other_part all → AreAllSorted rule keys view.rows parts.left other_part all
      sorted_whole all s = record {
        of_view = record {
          ascending = s.of_view.ascending;
          complete = λ key i.
              s.of_view.complete key i ∙ ap (of_key own key) w.view_rows ∙ (λ t. of_key own key (with_keys ((places_same ∙ sym own_same) t) keys view.rows))
              ∙ again own keys key view.rows i;
        };
        of_left = s.of_left;
        of_right = s.of_right;
      }

      group_whole : (key : Row) → IsTrue (has row_cmp keys key) → of_key own key (kept_rows rule parts.left other_part) ≡ of_key places key (kept_rows rule left right)
      group_whole key sought =
          (λ t. of_key (view_key rule.op rule.left (left_part t).heading (heading_or_none (right_part t))) key (kept_rows rule (left_part t) (right_part t)))
          ∙ group_part rule left right keys key sought are fits

      pub moves_whole : (heading : Heading) (rows : List Row) (moves : Moves) → AreMoves heading own keys rows (kept_rows rule parts.left other_part) moves
          → AreMoves heading places keys rows (kept_rows rule left right) moves
      moves_whole heading rows moves m = record {
        come = m.come ∙ gained_alike own places keys rows (kept_rows rule parts.left other_part) rows (kept_rows rule left right) (λ key i t. of_key (own_same t) key rows) group_whole;
        come_fit = m.come_fit;
        gone = m.gone ∙ gained_alike own places keys (kept_rows rule parts.left other_part) rows (kept_rows rule left right) rows group_whole (λ key i t. of_key (own_same t) key rows);
        gone_fit = m.gone_fit;
      }

      pub refused_whole : (e' : RowsRefuse) → IsRefusedGroup own keys (kept_rows rule parts.left other_part) e' → IsRefusal (kept_rows rule left right) e'
      refused_whole e' r =
          small_refused (has_key places r.key) (kept_rows rule left right) e' (subst (λ (rows : List Row). IsRefusal rows e') (group_whole r.key r.among) r.refused)

      pub cost_whole : groups_cost rule parts.left other_part keys ≡ groups_cost rule left right (touched_keys rule old_left old_right left right)
      cost_whole =
          (λ t. groups_cost rule (left_part t) (right_part t) keys) ∙ costs_part rule left right keys
          ∙ ap (λ (ks : List Row). groups_cost rule left right ks) (told ∙ all_is)

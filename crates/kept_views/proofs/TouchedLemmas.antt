-- Groups whose key is no touched one stay as they were; and the touched ones tell what the whole view gains and loses.
--     same_group      the rows of a key that no row has that goes or comes
--     rows_up, kept_up      the rows of a view are a set
--     settled      the groups of other keys stay
--     gathered      what the groups of the touched keys gain is what the view gains
--     counted, renewed      how many rows there are then, and which
use Rattle.std.proofs.Common.{◌≡◌, inl, inr, ℕ, ◌+◌, true, false, not, List, [], ◌∷◌, ◌++◌, map, length, Option, None, Some, refl, sym, ap, ap₂, ◌∙◌, subst, arith, cond}
use Rattle.std.specs.List.{list_any}
use Rattle.std.proofs.lemmas.Bool.{cases_Bool, true≢false}
use Rattle.base_core.specs.Sets.{has}
use Rattle.base_core.proofs.MemberLemmas.{In-append, In-map, In-flat_map, In-filter, has-In, eq_by_cmp-≡}
use Rattle.base_core.proofs.SetLemmas.{In, Ascends, In-in_order, Ascends-in_order, same_by_members}
use Rattle.base_core.proofs.SetOperatorLemmas.{Ascends-filter, Ascends-union_of, Ascends-common_of, Ascends-difference_of, In-union_of, In-common_of, In-difference_of}
use Rattle.value_core.specs.Order.{row_total, row_separates}
use Rattle.value_core.specs.RowPacking.{attribute}
use Rattle.value_core.specs.Values.{Row, Heading, Relation, IsRelation, row_cmp, rows_of}
use Rattle.relation_core.specs.Agreement.{part_of, agree}
use Rattle.relation_core.specs.Joins.{joined_pairs}
use Rattle.relation_core.specs.Operators.{united, subtracted, intersected}
use Rattle.relation_core.specs.Parts.{projected}
use Rattle.relation_core.proofs.FilterLemmas.{rows_ascend}
use Rattle.cell_core.proofs.UnpackedLemmas.{unpack_ascends}
use Rattle.u_set.proofs.ImageLemmas.{Ascends-pack}
use Rattle.kept_views.specs.declared.rule.KeptOp.{KeptOp}
use Rattle.kept_views.specs.declared.rule.KeptOp.TheVariants.{Union, Intersect, Minus, Join, Matching, NotMatching, Project, Pack}
use Rattle.kept_views.specs.declared.rule.KeptRule.{KeptRule}
use Rattle.kept_views.specs.Kept.{heading_or_none, rows_or_none, listed, plain_rows, opened, rows_by, kept_rows, left_key, right_key, view_key, has_key, of_key, IsParted, Fits}
use Rattle.kept_views.specs.Touched.{AreRelations, HaveOneHeading, changed_keys, touched_keys, gained}
use Rattle.kept_views.proofs.GroupLemmas.{IsRelationOrNone, law}

-- ---- members

-- what cannot be missing is there
pub there_unless : (rows : List Row) (x : Row) → ((In x rows → ⊥) → ⊥) → In x rows
there_unless rows x may =
    let w = has-In row_cmp row_total row_separates rows x in
    elim (cases_Bool (has row_cmp rows x)) [
      | inl e ↦ w.0 e
      | inr e ↦ absurd (may (λ i. true≢false (sym (w.1 i) ∙ e)))
    ]

-- ---- rows of a key that no row has that goes or comes

not_part : (positions : List ℕ) (key : Row) (rows : List Row) → (In key (projected positions rows) → ⊥) → (x : Row) → In x rows → part_of positions x ≡ key → ⊥
not_part positions key rows out x i e =
    out ((In-in_order row_cmp row_total row_separates key (map (part_of positions) rows)).1 ((In-map (part_of positions) key rows).1 (x, i, sym e)))

stays : (positions : List ℕ) (key : Row) (old new : List Row) → (In key (projected positions (subtracted old new)) → ⊥) → (x : Row) → In x (of_key positions key old) → In x (of_key positions key new)
stays positions key old new out x i =
    let w = (In-filter (has_key positions key) x old).0 i in
    let there : In x new = there_unless new x (λ missing.
    let gone : In x (subtracted old new) = (In-difference_of row_cmp row_total row_separates x old new).1 (w.0, missing) in
    not_part positions key (subtracted old new) out x gone ((eq_by_cmp-≡ row_cmp row_total row_separates (part_of positions x) key).0 w.1)) in
    (In-filter (has_key positions key) x new).1 (there, w.1)

pub same_group : (positions : List ℕ) (key : Row) (old new : List Row) → Ascends row_cmp old → Ascends row_cmp new → (In key (changed_keys positions old new) → ⊥) → of_key positions key old ≡ of_key positions key new
same_group positions key old new up up' out =
    let b = In-append key (projected positions (subtracted old new)) (projected positions (subtracted new old)) in
    same_by_members row_cmp row_total row_separates (of_key positions key old) (of_key positions key new)
    (Ascends-filter row_cmp (has_key positions key) old up) (Ascends-filter row_cmp (has_key positions key) new up') (λ x. (
      stays positions key old new (λ i. out (b.1 (inl i))) x,
      stays positions key new old (λ i. out (b.1 (inr i))) x,
    ))

-- a key that is among neither of two lists
other_key : (xs ys : List Row) (key : Row) → (In key (rows_of (xs ++ ys)) → ⊥) → (In key xs → ⊥) × (In key ys → ⊥)
other_key xs ys key out =
    let a = In-in_order row_cmp row_total row_separates key (xs ++ ys) in
    let b = In-append key xs ys in
    (λ i. out (a.1 (b.1 (inl i))), λ i. out (a.1 (b.1 (inr i))))

-- ---- the rows of a view are a set

plain_up : (op : KeptOp) (left right : Heading) (r s : List Row) → Ascends row_cmp r → Ascends row_cmp (plain_rows op left right r s)
plain_up Union left right r s up = Ascends-union_of row_cmp row_total row_separates r s
plain_up Intersect left right r s up = Ascends-common_of row_cmp row_total row_separates r s up
plain_up Minus left right r s up = Ascends-difference_of row_cmp row_total row_separates r s up
plain_up Join left right r s up = Ascends-in_order row_cmp row_total row_separates (joined_pairs left right r s)
plain_up Matching left right r s up = Ascends-filter row_cmp (λ x. list_any (agree left right x) s) r up
plain_up NotMatching left right r s up = Ascends-filter row_cmp (λ x. not (list_any (agree left right x) s)) r up
plain_up (Project kept) left right r s up = Ascends-in_order row_cmp row_total row_separates (map (part_of kept) r)
plain_up Pack left right r s up = up

opened_up : (op : KeptOp) (commalist : List ℕ) (rows : List Row) → Ascends row_cmp rows → Ascends row_cmp (opened op commalist rows)
opened_up Union commalist rows up = unpack_ascends row_cmp row_total row_separates (map attribute commalist) rows up
opened_up Intersect commalist rows up = unpack_ascends row_cmp row_total row_separates (map attribute commalist) rows up
opened_up Minus commalist rows up = unpack_ascends row_cmp row_total row_separates (map attribute commalist) rows up
opened_up Join commalist rows up = unpack_ascends row_cmp row_total row_separates (map attribute commalist) rows up
opened_up Matching commalist rows up = unpack_ascends row_cmp row_total row_separates (map attribute commalist) rows up
opened_up NotMatching commalist rows up = unpack_ascends row_cmp row_total row_separates (map attribute commalist) rows up
opened_up (Project kept) commalist rows up = unpack_ascends row_cmp row_total row_separates (map attribute commalist) rows up
opened_up Pack commalist rows up = up

pub rows_up : (op : KeptOp) (here there : List ℕ) (left right : Heading) (r s : List Row) → Ascends row_cmp r → Ascends row_cmp (rows_by op here there left right r s)
rows_up op here there left right r s up =
    Ascends-pack row_cmp row_total row_separates (map attribute (listed op here left right)) (plain_rows op left right (opened op here r) (opened op there s))
    (plain_up op left right (opened op here r) (opened op there s) (opened_up op here r up))

-- ---- operands

pub left_is : (left : Relation) (right : Option Relation) → AreRelations left right → IsRelation left
left_is left None is = is
left_is left (Some right) is = is.0

pub right_is : (left : Relation) (right : Option Relation) → AreRelations left right → IsRelationOrNone right
right_is left None is = tt
right_is left (Some right) is = is.1

other_up : (right : Option Relation) → IsRelationOrNone right → Ascends row_cmp (rows_or_none right)
other_up None is = tt
other_up (Some right) is = rows_ascend right is

pub one_heading : (old new : Option Relation) → HaveOneHeading old new → heading_or_none old ≡ heading_or_none new
one_heading None None h = refl
one_heading None (Some new) h = absurd h
one_heading (Some old) None h = absurd h
one_heading (Some old) (Some new) h = h

pub kept_up : (rule : KeptRule) (left : Relation) (right : Option Relation) → AreRelations left right → Ascends row_cmp (kept_rows rule left right)
kept_up rule left right is =
    rows_up rule.op rule.left rule.right left.heading (heading_or_none right) left.rows (rows_or_none right) (rows_ascend left (left_is left right is))

-- ---- the groups of other keys stay

group_stays : (op : KeptOp) (here there : List ℕ) (left right : Heading) (r s r' s' : List Row) (key : Row) → IsParted op here there left right r s → IsParted op here there left right r' s'
    → of_key (left_key op here left right) key r ≡ of_key (left_key op here left right) key r' → of_key (right_key op here left right) key s ≡ of_key (right_key op here left right) key s'
    → of_key (view_key op here left right) key (rows_by op here there left right r' s') ≡ of_key (view_key op here left right) key (rows_by op here there left right r s)
group_stays op here there left right r s r' s' key p p' e f = p' key ∙ ap₂ (rows_by op here there left right) (sym e) (sym f) ∙ sym (p key)

module _ (rule : KeptRule) (old_left left : Relation) (old_right right : Option Relation) (were : AreRelations old_left old_right) (are : AreRelations left right)
    (fitted : Fits rule old_left old_right) (fits : Fits rule left right) (same : old_left.heading ≡ left.heading) (same' : HaveOneHeading old_right right) where
  abbrev other : heading_or_none old_right ≡ heading_or_none right
  other = one_heading old_right right same'

  abbrev here : List ℕ
  here = left_key rule.op rule.left left.heading (heading_or_none right)

  abbrev there : List ℕ
  there = right_key rule.op rule.left left.heading (heading_or_none right)

  abbrev places : List ℕ
  places = view_key rule.op rule.left left.heading (heading_or_none right)

  pub settled : (key : Row) → (In key (touched_keys rule old_left old_right left right) → ⊥) → of_key places key (kept_rows rule left right) ≡ of_key places key (kept_rows rule old_left old_right)
  settled key out =
      let w = other_key (changed_keys here old_left.rows left.rows) (changed_keys there (rows_or_none old_right) (rows_or_none right)) key out in
      let law_before = law rule old_left old_right (left_is old_left old_right were) (right_is old_left old_right were) fitted in
      let law_after = law rule left right (left_is left right are) (right_is left right are) fits in
      let before : IsParted rule.op rule.left rule.right left.heading (heading_or_none right) old_left.rows (rows_or_none old_right) =
      subst (λ T. T) (λ t. IsParted rule.op rule.left rule.right (same t) (other t) old_left.rows (rows_or_none old_right)) law_before in
      let same_left = same_group here key old_left.rows left.rows (rows_ascend old_left (left_is old_left old_right were)) (rows_ascend left (left_is left right are)) w.0 in
      let same_right = same_group there key (rows_or_none old_right) (rows_or_none right) (other_up old_right (right_is old_left old_right were)) (other_up right (right_is left right are)) w.1 in
      group_stays rule.op rule.left rule.right left.heading (heading_or_none right) old_left.rows (rows_or_none old_right) left.rows (rows_or_none right) key before law_after same_left same_right
      ∙ (λ t. of_key places key (rows_by rule.op rule.left rule.right (sym same t) (sym other t) old_left.rows (rows_or_none old_right)))

-- ---- the touched groups tell all

module _ (places : List ℕ) (keys old new : List Row) (up' : Ascends row_cmp new) (settled : (key : Row) → (In key keys → ⊥) → of_key places key new ≡ of_key places key old) where
  pub gathered : rows_of (gained places keys old new) ≡ subtracted new old
  gathered =
      let f : Row → List Row = λ key. subtracted (of_key places key new) (of_key places key old) in
      same_by_members row_cmp row_total row_separates (rows_of (gained places keys old new)) (subtracted new old)
      (Ascends-in_order row_cmp row_total row_separates (gained places keys old new)) (Ascends-difference_of row_cmp row_total row_separates new old up') (λ x.
      let a = In-in_order row_cmp row_total row_separates x (gained places keys old new) in
      let b = In-flat_map f x keys in
      let c = In-difference_of row_cmp row_total row_separates x new old in (
        λ h.
            let w = b.0 (a.0 h) in
            let v = (In-difference_of row_cmp row_total row_separates x (of_key places w.0 new) (of_key places w.0 old)).0 w.2 in
            let m = (In-filter (has_key places w.0) x new).0 v.0 in
            c.1 (m.0, λ i. v.1 ((In-filter (has_key places w.0) x old).1 (i, m.1))),
        λ h.
            let w = c.0 h in
            let key : Row = part_of places x in
            let own = (eq_by_cmp-≡ row_cmp row_total row_separates key key).1 refl in
            let there : In x (of_key places key new) = (In-filter (has_key places key) x new).1 (w.0, own) in
            let out : In x (of_key places key old) → ⊥ = λ i. w.1 ((In-filter (has_key places key) x old).0 i).0 in
            let k : In key keys = there_unless keys key (λ missing. out (subst (λ (rows : List Row). In x rows) (settled key missing) there)) in
            a.1 (b.1 (key, k, (In-difference_of row_cmp row_total row_separates x (of_key places key new) (of_key places key old)).1 (there, out))),
      ))

-- ---- how many rows there are then, and which

-- those that stand in the other too, and those that do not
common_and_left : (rows other : List Row) → length (intersected rows other) + length (subtracted rows other) ≡ length rows
common_and_left [] other = refl
common_and_left (x ∷ rows) other =
    let more = common_and_left rows other in
    elim (has row_cmp other x) as (λ b. length (cond b (x ∷ intersected rows other) (intersected rows other)) + length (cond (not b) (x ∷ subtracted rows other) (subtracted rows other)) ≡ length (x ∷ rows)) [
      | true ↦ omega (arith, more)
      | false ↦ omega (arith, more)
    ]

module _ (old new : List Row) (up : Ascends row_cmp old) (up' : Ascends row_cmp new) where
  shared : intersected new old ≡ intersected old new
  shared =
      same_by_members row_cmp row_total row_separates (intersected new old) (intersected old new)
      (Ascends-common_of row_cmp row_total row_separates new old up') (Ascends-common_of row_cmp row_total row_separates old new up) (λ x.
      let a = In-common_of row_cmp row_total row_separates x new old in
      let b = In-common_of row_cmp row_total row_separates x old new in
      (λ h. let w = a.0 h in b.1 (w.1, w.0), λ h. let w = b.0 h in a.1 (w.1, w.0)))

  pub counted : length new + length (subtracted old new) ≡ length old + length (subtracted new old)
  counted =
      let a : length (intersected new old) + length (subtracted new old) ≡ length new = common_and_left new old in
      let b : length (intersected old new) + length (subtracted old new) ≡ length old = common_and_left old new in
      let c : length (intersected new old) ≡ length (intersected old new) = ap (λ (rows : List Row). length rows) shared in
      omega (arith, a, b, c)

  pub renewed : united (subtracted old (subtracted old new)) (subtracted new old) ≡ new
  renewed =
      same_by_members row_cmp row_total row_separates (united (subtracted old (subtracted old new)) (subtracted new old)) new
      (Ascends-union_of row_cmp row_total row_separates (subtracted old (subtracted old new)) (subtracted new old)) up' (λ x.
      let a = In-union_of row_cmp row_total row_separates x (subtracted old (subtracted old new)) (subtracted new old) in
      let b = In-difference_of row_cmp row_total row_separates x old (subtracted old new) in
      let c = In-difference_of row_cmp row_total row_separates x old new in
      let d = In-difference_of row_cmp row_total row_separates x new old in (
        λ h. elim (a.0 h) [
          | inl i ↦
              let w = b.0 i in
              there_unless new x (λ missing. w.1 (c.1 (w.0, missing)))
          | inr i ↦ (d.0 i).0
        ],
        λ h.
            let k = has-In row_cmp row_total row_separates old x in
            elim (cases_Bool (has row_cmp old x)) [
              | inl e ↦ a.1 (inl (b.1 (k.0 e, λ j. (c.0 j).1 h)))
              | inr e ↦ a.1 (inr (d.1 (h, λ i. true≢false (sym (k.1 i) ∙ e))))
            ],
      ))

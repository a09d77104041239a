-- The law of groups for each operator, and where the keys of groups stand.
--     pair_law, alone_law, law      the rows of a group of the view are those that its operands' rows of the group give
--     left_within, right_within      the key stands in the operands
--     law_of_group      so a relation made of the rows of a group is the group of the whole
use Rattle.std.proofs.Common.{◌≡◌, ◌⊎◌, inl, inr, ℕ, ◌<◌, List, [], map, length, get_or, Option, Some, None, refl, sym, ap, subst}
use Rattle.std.specs.Bool.{IsTrue}
use Rattle.std.specs.List.{All}
use Rattle.base_core.proofs.ListLemmas.{All-In, In-get_or}
use Rattle.base_core.proofs.MemberLemmas.{In-map, In-filter, list_all-In}
use Rattle.base_core.proofs.SetLemmas.{In}
use Rattle.value_core.specs.Attributes.{among}
use Rattle.value_core.specs.Headings.{has_name, position_of}
use Rattle.value_core.specs.RowPacking.{packed, unpacked}
use Rattle.value_core.specs.Values.{Name, Row, Heading, Relation, IsRelation, fits_heading, is_heading}
use Rattle.relation_core.specs.Agreement.{names_of, common_names}
use Rattle.relation_core.specs.Operators.{united, intersected, subtracted}
use Rattle.relation_core.specs.Parts.{no_attribute}
use Rattle.relation_core.proofs.AgreementLemmas.{length_of_fit, position_within}
use Rattle.relation_core.proofs.AttributeLemmas.{named_In, of_name}
use Rattle.relation_core.proofs.HeadingLemmas.{heading_ascends, part_ascends}
use Rattle.kept_views.specs.declared.rule.KeptOp.{KeptOp}
use Rattle.kept_views.specs.declared.rule.KeptOp.TheVariants.{Union, Intersect, Minus, Join, Matching, NotMatching, Project, Pack}
use Rattle.kept_views.specs.declared.rule.KeptRule.{KeptRule}
use Rattle.u_row.proofs.BeneathLemmas.{among_in, in_all}
use Rattle.kept_views.specs.Kept.{names_at, view_heading, kept_heading, telling_names, unlisted_names, key_names, left_key, right_key, view_key, heading_or_none, rows_or_none, of_key, IsParted, AreAlike, IsToldIn, IsPair, IsAlone, Fits}
use Rattle.kept_views.proofs.LawLemmas.{union_group, common_group, difference_group, packed_group, matched_group, unmatched_group, joined_group, part_group, in_both, part_named}
use Rattle.kept_views.proofs.NameLemmas.{unlisted_in}

-- ---- operands of one heading

module _ (op : List Row → List Row → List Row) (here there : List ℕ) (left right : Heading) (h : AreAlike here there left right) (names : List Name) (r s : List Row) (key : Row) where
  abbrev own : List ℕ
  own = map (position_of left) names

  as_alike : of_key own key (packed here (op (unpacked here r) (unpacked here s))) ≡ packed here (op (unpacked here (of_key own key r)) (unpacked here (of_key own key s)))
      → of_key own key (packed here (op (unpacked here r) (unpacked there s))) ≡ packed here (op (unpacked here (of_key own key r)) (unpacked there (of_key (map (position_of right) names) key s)))
  as_alike =
      subst (λ T. T) (λ t. of_key own key (packed here (op (unpacked here r) (unpacked (sym h.positions t) s)))
      ≡ packed here (op (unpacked here (of_key own key r)) (unpacked (sym h.positions t) (of_key (map (position_of (h.heading t)) names) key s))))

-- ---- each operator

module _ (here there : List ℕ) (left right : Heading) (headed : IsTrue (is_heading left)) (headed' : IsTrue (is_heading right)) (r s : List Row) (long : (x : Row) → In x r → length x ≡ length left) where
  pub pair_law : (op : KeptOp) → IsPair op here there left right → IsParted op here there left right r s
  pair_law Union h key = as_alike united here there left right h (key_names Union here left right) r s key (union_group left here r s key)
  pair_law Intersect h key = as_alike intersected here there left right h (key_names Intersect here left right) r s key (common_group left here r s key)
  pair_law Minus h key = as_alike subtracted here there left right h (key_names Minus here left right) r s key (difference_group left here r s key)
  pair_law Join h key =
      joined_group left right here there h.are.same (heading_ascends left headed) (heading_ascends right headed') h.are.kinds h.are.first r s key long
  pair_law Matching h key = matched_group left right here there h.same r s key
  pair_law NotMatching h key = unmatched_group left right here there h.same r s key
  pair_law (Project kept) h key = absurd h
  pair_law Pack h key = absurd h

pub alone_law : (op : KeptOp) (here there : List ℕ) (left right : Heading) (r s : List Row) → IsTrue (is_heading left) → IsAlone op here left → IsParted op here there left right r s
alone_law (Project kept) here there left right r s headed h key =
    part_group left kept here (heading_ascends left headed) h.within (part_ascends left kept headed h.ascending h.within)
    (λ i m. among_in kept i (in_all (λ (j : ℕ). IsTrue (among kept j)) here h.covered i m)) r key
alone_law Pack here there left right r s headed h key = packed_group left here r key
alone_law Union here there left right r s headed h key = absurd h
alone_law Intersect here there left right r s headed h key = absurd h
alone_law Minus here there left right r s headed h key = absurd h
alone_law Join here there left right r s headed h key = absurd h
alone_law Matching here there left right r s headed h key = absurd h
alone_law NotMatching here there left right r s headed h key = absurd h

-- ---- relations

abbrev pub IsRelationOrNone : Option Relation → Type 0
IsRelationOrNone None = Unit {0}
IsRelationOrNone (Some r) = IsRelation r

abbrev pub HasHeadingOrNone : Option Relation → Type 0
HasHeadingOrNone None = Unit {0}
HasHeadingOrNone (Some r) = IsTrue (is_heading r.heading)

pub rows_long : (r : Relation) → IsRelation r → (x : Row) → In x r.rows → length x ≡ length r.heading
rows_long r is x i = length_of_fit r.heading x ((list_all-In (fits_heading r.heading) r.rows).0 is.fitting x i)

pub law : (rule : KeptRule) (left : Relation) (right : Option Relation) → IsRelation left → IsRelationOrNone right → Fits rule left right
    → IsParted rule.op rule.left rule.right left.heading (heading_or_none right) left.rows (rows_or_none right)
law rule left None l r h = alone_law rule.op rule.left rule.right left.heading [] left.rows [] l.headed h
law rule left (Some right) l r h = pair_law rule.left rule.right left.heading right.heading l.headed r.headed left.rows right.rows (rows_long left l) rule.op h

-- ---- where keys stand

common_left : (left right : Heading) (n : Name) → In n (common_names left right) → IsTrue (has_name left n)
common_left left right n m = of_name left n ((In-filter (has_name right) n (names_of left)).0 m).0

common_right : (left right : Heading) (n : Name) → In n (common_names left right) → IsTrue (has_name right n)
common_right left right n m = ((In-filter (has_name right) n (names_of left)).0 m).1

telling_left : (op : KeptOp) (left right : Heading) → IsToldIn op left → (n : Name) → In n (telling_names op left right) → IsTrue (has_name left n)
telling_left Union left right h n m = of_name left n m
telling_left Intersect left right h n m = of_name left n m
telling_left Minus left right h n m = of_name left n m
telling_left Pack left right h n m = of_name left n m
telling_left Join left right h n m = common_left left right n m
telling_left Matching left right h n m = common_left left right n m
telling_left NotMatching left right h n m = common_left left right n m
telling_left (Project kept) left right h n m =
    let w = (In-map (λ i. (get_or left i no_attribute).0) n kept).0 m in
    let l = in_all (λ (i : ℕ). i < length left) kept h w.0 w.1 in
    subst (λ k. IsTrue (has_name left k)) (sym w.2) (named_In left (get_or left w.0 no_attribute) (In-get_or left w.0 no_attribute l))

telling_right : (op : KeptOp) (here there : List ℕ) (left right : Heading) → IsPair op here there left right → (n : Name) → In n (telling_names op left right) → IsTrue (has_name right n)
telling_right Union here there left right h n m = subst (λ (k : Heading). IsTrue (has_name k n)) h.heading (of_name left n m)
telling_right Intersect here there left right h n m = subst (λ (k : Heading). IsTrue (has_name k n)) h.heading (of_name left n m)
telling_right Minus here there left right h n m = subst (λ (k : Heading). IsTrue (has_name k n)) h.heading (of_name left n m)
telling_right Join here there left right h n m = common_right left right n m
telling_right Matching here there left right h n m = common_right left right n m
telling_right NotMatching here there left right h n m = common_right left right n m
telling_right (Project kept) here there left right h n m = absurd h
telling_right Pack here there left right h n m = absurd h

names_within : (heading : Heading) (listed names : List Name) → ((n : Name) → In n names → IsTrue (has_name heading n)) → All (λ (i : ℕ). i < length heading) (map (position_of heading) (unlisted_names listed names))
names_within heading listed names has =
    All-In (λ (i : ℕ). i < length heading) (map (position_of heading) (unlisted_names listed names)) (λ i m.
    let w = (In-map (position_of heading) i (unlisted_names listed names)).0 m in
    subst (λ k. k < length heading) (sym w.2) (position_within heading w.0 (has w.0 (unlisted_in listed names w.0 w.1))))

pub left_within : (op : KeptOp) (here : List ℕ) (left right : Heading) → IsToldIn op left → All (λ (i : ℕ). i < length left) (left_key op here left right)
left_within op here left right h = names_within left (names_at left here) (telling_names op left right) (telling_left op left right h)

pub right_within : (op : KeptOp) (here there : List ℕ) (left right : Heading) → IsPair op here there left right → All (λ (i : ℕ). i < length right) (right_key op here left right)
right_within op here there left right h = names_within right (names_at left here) (telling_names op left right) (telling_right op here there left right h)

-- they stand in the view
view_pair : (op : KeptOp) (here there : List ℕ) (left right : Heading) → IsTrue (is_heading left) → IsTrue (is_heading right) → IsPair op here there left right
    → (n : Name) → In n (telling_names op left right) → IsTrue (has_name (view_heading op left right) n)
view_pair Union here there left right u v h n m = of_name left n m
view_pair Intersect here there left right u v h n m = of_name left n m
view_pair Minus here there left right u v h n m = of_name left n m
view_pair Join here there left right u v h n m =
    in_both left right here there h.are.same (heading_ascends left u) (heading_ascends right v) h.are.kinds h.are.first n (common_left left right n m)
view_pair Matching here there left right u v h n m = common_left left right n m
view_pair NotMatching here there left right u v h n m = common_left left right n m
view_pair (Project kept) here there left right u v h n m = absurd h
view_pair Pack here there left right u v h n m = absurd h

view_alone : (op : KeptOp) (here : List ℕ) (left right : Heading) → IsTrue (is_heading left) → IsAlone op here left → (n : Name) → In n (telling_names op left right) → IsTrue (has_name (view_heading op left right) n)
view_alone (Project kept) here left right u h n m =
    part_named left kept here (heading_ascends left u) h.within (part_ascends left kept u h.ascending h.within)
    (λ i k. among_in kept i (in_all (λ (j : ℕ). IsTrue (among kept j)) here h.covered i k)) n m
view_alone Pack here left right u h n m = of_name left n m
view_alone Union here left right u h n m = absurd h
view_alone Intersect here left right u h n m = absurd h
view_alone Minus here left right u h n m = absurd h
view_alone Join here left right u h n m = absurd h
view_alone Matching here left right u h n m = absurd h
view_alone NotMatching here left right u h n m = absurd h

in_view : (rule : KeptRule) (left : Relation) (right : Option Relation) → IsTrue (is_heading left.heading) → HasHeadingOrNone right → Fits rule left right
    → All (λ (i : ℕ). i < length (kept_heading rule left right)) (view_key rule.op rule.left left.heading (heading_or_none right))
in_view rule left None u v h =
    names_within (kept_heading rule left None) (names_at left.heading rule.left) (telling_names rule.op left.heading []) (view_alone rule.op rule.left left.heading [] u h)
in_view rule left (Some right) u v h =
    names_within (kept_heading rule left (Some right)) (names_at left.heading rule.left) (telling_names rule.op left.heading right.heading) (view_pair rule.op rule.left rule.right left.heading right.heading u v h)

pub view_within : (rule : KeptRule) (left : Relation) (right : Option Relation) (view : Heading) → view ≡ kept_heading rule left right → IsTrue (is_heading left.heading) → HasHeadingOrNone right → Fits rule left right
    → All (λ (i : ℕ). i < length view) (map (position_of view) (key_names rule.op rule.left left.heading (heading_or_none right)))
view_within rule left right view e u v h =
    subst (λ (k : Heading). All (λ (i : ℕ). i < length k) (map (position_of k) (key_names rule.op rule.left left.heading (heading_or_none right)))) (sym e) (in_view rule left right u v h)

-- the key of a rule of one operand does not hang on the other
pub key_alone : (op : KeptOp) (here : List ℕ) (left right other : Heading) → IsAlone op here left → key_names op here left right ≡ key_names op here left other
key_alone (Project kept) here left right other h = refl
key_alone Pack here left right other h = refl
key_alone Union here left right other h = absurd h
key_alone Intersect here left right other h = absurd h
key_alone Minus here left right other h = absurd h
key_alone Join here left right other h = absurd h
key_alone Matching here left right other h = absurd h
key_alone NotMatching here left right other h = absurd h

pub told_pair : (op : KeptOp) (here there : List ℕ) (left right : Heading) → IsPair op here there left right → IsToldIn op left
told_pair Union here there left right h = tt
told_pair Intersect here there left right h = tt
told_pair Minus here there left right h = tt
told_pair Join here there left right h = tt
told_pair Matching here there left right h = tt
told_pair NotMatching here there left right h = tt
told_pair (Project kept) here there left right h = absurd h
told_pair Pack here there left right h = tt

pub told_alone : (op : KeptOp) (here : List ℕ) (left : Heading) → IsAlone op here left → IsToldIn op left
told_alone Union here left h = tt
told_alone Intersect here left h = tt
told_alone Minus here left h = tt
told_alone Join here left h = tt
told_alone Matching here left h = tt
told_alone NotMatching here left h = tt
told_alone (Project kept) here left h = h.within
told_alone Pack here left h = tt

-- ---- by operator

pub told_by_common : (op : KeptOp) (left right : Heading) → (op ≡ Join) ⊎ ((op ≡ Matching) ⊎ (op ≡ NotMatching)) → common_names left right ≡ telling_names op left right
told_by_common op left right h = elim h [
  | inl e ↦ sym (ap (λ o. telling_names o left right) e)
  | inr k ↦ elim k [ inl e ↦ sym (ap (λ o. telling_names o left right) e) | inr e ↦ sym (ap (λ o. telling_names o left right) e) ]
]

pub told_by_all : (op : KeptOp) (left right : Heading) → (op ≡ Union) ⊎ ((op ≡ Intersect) ⊎ ((op ≡ Minus) ⊎ (op ≡ Pack))) → names_of left ≡ telling_names op left right
told_by_all op left right h = elim h [
  | inl e ↦ sym (ap (λ o. telling_names o left right) e)
  | inr k ↦ elim k [
    | inl e ↦ sym (ap (λ o. telling_names o left right) e)
    | inr j ↦ elim j [ inl e ↦ sym (ap (λ o. telling_names o left right) e) | inr e ↦ sym (ap (λ o. telling_names o left right) e) ]
  ]
]

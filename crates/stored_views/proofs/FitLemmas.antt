-- The operands of a stored view fit its rule, and the rule gives what its operator gives under USING.
--     pair_fits, pair_rows, pair_headed      of two operands
--     part_fits, part_rows, part_headed      of a projection
use Rattle.std.proofs.Common.{◌≡◌, ℕ, ◌<◌, ◌≤◌, List, [], map, length, get_or, sym, ap, ◌∙◌, subst}
use Rattle.std.specs.Bool.{IsTrue}
use Rattle.std.specs.List.{All}
use Rattle.std.proofs.lemmas.List.{get_or-map, length-map}
use Rattle.base_core.proofs.ListLemmas.{All-In, In-get_or}
use Rattle.base_core.proofs.MemberLemmas.{In-map}
use Rattle.base_core.proofs.SetLemmas.{In, Ascends}
use Rattle.value_core.specs.Attributes.{among}
use Rattle.value_core.specs.Headings.{position_of, most_attributes}
use Rattle.value_core.specs.RowPacking.{packed, unpacked}
use Rattle.value_core.specs.Values.{Name, Row, Heading, attribute_cmp, is_heading}
use Rattle.value_core.specs.declared.kind.Kind.{Kind}
use Rattle.relation_core.specs.Joins.{HaveEqualKinds, joined_heading}
use Rattle.relation_core.specs.Parts.{no_attribute, attributes_at, projected}
use Rattle.relation_core.proofs.AttributeLemmas.{joined_ascends}
use Rattle.relation_core.proofs.HeadingLemmas.{heading_ascends, part_ascends}
use Rattle.tree_core.specs.declared.tree.InfixWord.{InfixWord}
use Rattle.tree_core.specs.declared.tree.InfixWord.TheVariants.{Union as UnionWord, Intersect as IntersectWord, Minus as MinusWord, Join as JoinWord, Matching as MatchingWord, NotMatching as NotMatchingWord}
use Rattle.meaning_core.specs.Meanings.{positions_of, names_at, infix_rows}
use Rattle.meaning_core.specs.Typing.{IsInfix, IsProjection, IsList, are_in}
use Rattle.u_row.proofs.BeneathLemmas.{in_all, in_among}
use Rattle.u_join.proofs.NameLemmas.{position_at}
use Rattle.kept_views.specs.Kept.{positions_beside, view_heading, rows_by, AreAlike, AreListed, IsPart, IsPair}
use Rattle.kept_views.specs.declared.rule.KeptOp.TheVariants.{Project}
use Rattle.stored_views.specs.Rules.{op_of}
use Rattle.stored_views.proofs.BesideLemmas.{there_same, there_intervals, there_names}

-- ---- two operands

module _ (h left right : Heading) (commalist : List ℕ) (l : IsTrue (is_heading left)) (r : IsTrue (is_heading right)) (list : IsList h commalist)
    (first : IsTrue (are_in h (names_at h commalist) left)) (second : IsTrue (are_in h (names_at h commalist) right)) where
  abbrev here : List ℕ
  here = positions_beside h left commalist

  abbrev other : List ℕ
  other = positions_beside h right commalist

  as-left : h ≡ left → Ascends attribute_cmp h
  as-left e = subst (Ascends attribute_cmp) (sym e) (heading_ascends left l)

  as-joined : HaveEqualKinds left right → h ≡ joined_heading left right → Ascends attribute_cmp h
  as-joined kinds e = subst (Ascends attribute_cmp) (sym e) (joined_ascends left right (heading_ascends left l) (heading_ascends right r) kinds)

  alike : left ≡ right → h ≡ left → AreAlike here other left right
  alike same e = record {
    heading = same;
    positions = ap (λ (g : Heading). positions_beside h g commalist) (sym same);
    intervals = there_intervals h left commalist (as-left e) (heading_ascends left l) list first;
  }

  listed : Ascends attribute_cmp h → HaveEqualKinds left right → AreListed here other left right
  listed up kinds = record {
    kinds = kinds;
    same = there_same h left commalist up (heading_ascends left l) list first ∙ sym (there_same h right commalist up (heading_ascends right r) list second);
    first = there_intervals h left commalist up (heading_ascends left l) list first;
    second = there_intervals h right commalist up (heading_ascends right r) list second;
  }

  pub pair_fits : (word : InfixWord) → IsInfix word left right h → IsPair (op_of word) here other left right
  pair_fits UnionWord is = alike is.0 is.1
  pair_fits IntersectWord is = alike is.0 is.1
  pair_fits MinusWord is = alike is.0 is.1
  pair_fits JoinWord is = record { are = listed (as-joined is.0 is.1) is.0; few = subst (λ (g : Heading). length g ≤ most_attributes) is.1 is.2 }
  pair_fits MatchingWord is = listed (as-left is.1) is.0
  pair_fits NotMatchingWord is = listed (as-left is.1) is.0

  pub pair_headed : (word : InfixWord) → IsInfix word left right h → view_heading (op_of word) left right ≡ h
  pair_headed UnionWord is = sym is.1
  pair_headed IntersectWord is = sym is.1
  pair_headed MinusWord is = sym is.1
  pair_headed JoinWord is = sym is.1
  pair_headed MatchingWord is = sym is.1
  pair_headed NotMatchingWord is = sym is.1

  -- the listed attributes of the node, where its heading is the left operand's
  own-left : h ≡ left → positions_of h (names_at h commalist) ≡ here
  own-left e = ap (λ (g : Heading). positions_of g (names_at h commalist)) e

  own-joined : HaveEqualKinds left right → h ≡ joined_heading left right → positions_of h (names_at h commalist) ≡ positions_beside left (joined_heading left right) here
  own-joined kinds e =
      ap (λ (g : Heading). positions_of g (names_at h commalist)) e
      ∙ ap (λ (ns : List Name). map (position_of (joined_heading left right)) ns) (sym (there_names h left commalist (as-joined kinds e) (heading_ascends left l) list first))

  pub pair_rows : (word : InfixWord) → IsInfix word left right h → (a b : List Row)
      → packed (positions_of h (names_at h commalist)) (infix_rows word left right (unpacked here a) (unpacked other b)) ≡ rows_by (op_of word) here other left right a b
  pair_rows UnionWord is a b = ap (λ ps. packed ps (infix_rows UnionWord left right (unpacked here a) (unpacked other b))) (own-left is.1)
  pair_rows IntersectWord is a b = ap (λ ps. packed ps (infix_rows IntersectWord left right (unpacked here a) (unpacked other b))) (own-left is.1)
  pair_rows MinusWord is a b = ap (λ ps. packed ps (infix_rows MinusWord left right (unpacked here a) (unpacked other b))) (own-left is.1)
  pair_rows JoinWord is a b = ap (λ ps. packed ps (infix_rows JoinWord left right (unpacked here a) (unpacked other b))) (own-joined is.0 is.1)
  pair_rows MatchingWord is a b = ap (λ ps. packed ps (infix_rows MatchingWord left right (unpacked here a) (unpacked other b))) (own-left is.1)
  pair_rows NotMatchingWord is a b = ap (λ ps. packed ps (infix_rows NotMatchingWord left right (unpacked here a) (unpacked other b))) (own-left is.1)

-- ---- a projection

module _ (h left : Heading) (kept commalist : List ℕ) (l : IsTrue (is_heading left)) (list : IsList h commalist) (held : IsTrue (are_in h (names_at h commalist) left)) (is : IsProjection left h kept) where
  abbrev own : List ℕ
  own = positions_beside h left commalist

  up-part : Ascends attribute_cmp h
  up-part = subst (Ascends attribute_cmp) (sym is.headed) (part_ascends left kept l is.positions.ascending is.positions.within)

  -- a listed attribute is a kept one
  kept_at : (c : ℕ) → In c commalist → IsTrue (among kept (position_of left (get_or h c no_attribute).0))
  kept_at c m =
      let low : c < length h = in_all (λ (j : ℕ). j < length h) commalist list.within c m in
      let many : length h ≡ length kept = ap (λ (g : Heading). length g) is.headed ∙ length-map kept (λ j. get_or left j no_attribute) in
      let k : c < length kept = subst (λ n. c < n) many low in
      let at : get_or h c no_attribute ≡ get_or left (get_or kept c 0) no_attribute =
      ap (λ (g : Heading). get_or g c no_attribute) is.headed ∙ get_or-map (λ j. get_or left j no_attribute) kept c 0 no_attribute k in
      let member : In (get_or kept c 0) kept = In-get_or kept c 0 k in
      let place : position_of left (get_or h c no_attribute).0 ≡ get_or kept c 0 =
      ap (λ (a : Name × Kind). position_of left a.0) at ∙ position_at left (get_or kept c 0) (heading_ascends left l) (in_all (λ (j : ℕ). j < length left) kept is.positions.within (get_or kept c 0) member) in
      subst (λ p. IsTrue (among kept p)) (sym place) (in_among kept (get_or kept c 0) member)

  covered : All (λ (i : ℕ). IsTrue (among kept i)) own
  covered = All-In (λ (i : ℕ). IsTrue (among kept i)) own (λ i m.
      let n = (In-map (position_of left) i (names_at h commalist)).0 m in
      let c = (In-map (λ j. (get_or h j no_attribute).0) n.0 commalist).0 n.1 in
      subst (λ p. IsTrue (among kept p)) (sym (n.2 ∙ ap (position_of left) c.2)) (kept_at c.0 c.1))

  pub part_fits : IsPart kept own left
  part_fits = record {
    ascending = is.positions.ascending;
    within = is.positions.within;
    covered = covered;
    intervals = there_intervals h left commalist up-part (heading_ascends left l) list held;
  }

  pub part_rows : (a : List Row) → packed (positions_of h (names_at h commalist)) (projected kept (unpacked own a)) ≡ rows_by (Project kept) own [] left [] a []
  part_rows a =
      let places : positions_of h (names_at h commalist) ≡ positions_beside left (attributes_at kept left) own =
      ap (λ (g : Heading). positions_of g (names_at h commalist)) is.headed
      ∙ ap (λ (ns : List Name). map (position_of (attributes_at kept left)) ns) (sym (there_names h left commalist up-part (heading_ascends left l) list held)) in
      ap (λ ps. packed ps (projected kept (unpacked own a))) places

-- Operators under USING are typed for evaluation.
use Rattle.std.specs.Prelude.{◌≡◌, ◌≤◌, ℕ, true, false, not, List, ◌++◌, length, get_or, nat_eq, IfOk, IsTrue, refl}
use Rattle.std.proofs.Common.{sym, ◌∙◌, ap, subst, inl, inr, eq-eqb}
use Rattle.std.specs.List.{list_all, list_any, All, IsDistinct}
use Rattle.std.specs.Str.{bytes_eq}
use Rattle.std.proofs.lemmas.Bool.{and_from, false_from_ne_true, not_from_false}
use Rattle.base_core.proofs.SetLemmas.{In, Ascends}
use Rattle.base_core.proofs.MemberLemmas.{In-append, In-map, In-filter, list_all-In, list_any-In}
use Rattle.base_core.proofs.SetOperatorLemmas.{In-permutation}
use Rattle.point_core.specs.declared.fault.Place.{Place}
use Rattle.value_core.specs.Attributes.{among}
use Rattle.utd_syntax.specs.Plain.{ScalarP, SetsP, NamesP, AggregatesP, NameListP, ProjectionP}
use Rattle.value_core.specs.declared.kind.Kind.{Kind}
use Rattle.value_core.specs.declared.kind.Kind.TheVariants.{Truth}
use Rattle.value_core.specs.declared.list.OrdinalNames.{OrdinalNames}
use Rattle.value_core.specs.Headings.{has_name}
use Rattle.value_core.specs.Limits.{most_listed}
use Rattle.value_core.specs.Values.{Name, Heading, attribute_cmp, is_heading}
use Rattle.scalar_core.specs.Expressions.{Expr}
use Rattle.relation_core.specs.Agreement.{names_of, position_of}
use Rattle.relation_core.specs.Joins.{joined_heading}
use Rattle.relation_core.specs.Parts.{no_attribute, attributes_at}
use Rattle.relation_core.proofs.AttributeLemmas.{In-joined, joined_ascends}
use Rattle.relation_core.proofs.HeadingLemmas.{heading_ascends, within_by_members}
use Rattle.relation_typing.specs.Items.{Made, none_made}
use Rattle.meaning_core.proofs.PositionLemmas.{position-back}
use Rattle.scalar_typing.proofs.SoundLemmas.{then-sound, any-given}
use Rattle.tree_core.specs.Trees.{PlainSets, PlainAggregate, Tree, infix_of, project, restrict, extend, summarize, heading_of}
use Rattle.tree_core.specs.declared.tree.InfixWord.{InfixWord}
use Rattle.tree_core.specs.declared.tree.InfixWord.TheVariants.{Union, Intersect, Minus, Join, Matching, NotMatching}
use Rattle.meaning_core.specs.Meanings.{positions_of}
use Rattle.meaning_core.specs.Typing.{is_span, IsScalar, IsInfix, ArePositions, IsExtension, IsSummary, not_named, are_in, is_swept, names_none, is_part, Headings, IsTypedTree}
use Rattle.meaning_core.specs.WellMade.{sizes_of, IsOrdinalType}
use Rattle.meaning_core.specs.Rows.{set_names}
use Rattle.meaning_core.proofs.MadeLemmas.{given_names}
use Rattle.node_typing.specs.Infixes.{infix_heading}
use Rattle.node_typing.specs.Lists.{words_of, names_of_words, kind_named, list_checked}
use Rattle.node_typing.specs.Nodes.{infix_rule}
use Rattle.node_typing.specs.Projections.{projection_place, projection_kept}
use Rattle.node_typing.specs.Rows.{item_list, items_typed, condition_typed, extension_made}
use Rattle.node_typing.specs.Summaries.{Summed, groups_typed, aggregates_made}
use Rattle.node_typing.specs.Sweeps.{all_kept, none_assigned, swept, sets_swept, aggregates_name_no}
use Rattle.node_typing.specs.Usings.{used, using_infix_rule, using_projection_rule, using_restriction_rule, using_extension_rule, using_summary_rule}
use Rattle.type_check.proofs.AggregateLemmas.{groups-sound, aggregates-made}
use Rattle.type_check.proofs.DeclaredLemmas.{part-in}
use Rattle.type_check.proofs.ExtensionLemmas.{extension-made}
use Rattle.type_check.proofs.InfixLemmas.{infix-heading, kept-sound, condition-sound}
use Rattle.type_check.proofs.KeptLemmas.{all-alike, all-kept, AreAssigned, AreOthers, others-assigned, others-none, items-assigned, swept-is, sets-swept, aggregates-none}
use Rattle.declaration_typing.proofs.FitLemmas.{both-hold}
use Rattle.type_check.proofs.ListLemmas.{AreListed, list-sound, list-of}
use Rattle.type_check.proofs.PositionLemmas.{attribute-named, named-in, kind-is, names-at-positions}
use Rattle.relation_typing.specs.Attributes.{few_attributes}
use Rattle.node_typing.specs.Headings.{made_beside}

-- ---- the whole of a part

-- the attributes of the names are intervals of the heading
abbrev pub AreSpans : Heading → List Name → Type 0
AreSpans h names = (name : Name) → In name names → IsTrue (has_name h name) × IsTrue (is_span (kind_named h name))

used-typed : (sizes : List ℕ) (headings : Headings) (place : Place) (names : List Name) (part : Tree) → IsTypedTree sizes headings part → AreSpans (heading_of part) names → IsDistinct bytes_eq names
    → length names ≤ most_listed → IsTrue (is_part names part) → IsTypedTree sizes headings (used place names part)
used-typed sizes headings place names part typed known apart few is = (
  typed,
  list-of (heading_of part) names known apart few,
  refl,
  subst (λ (ns : List Name). IsTrue (is_part ns part)) (sym (names-at-positions (heading_of part) names (λ n i. (known n i).0))) is,
)

-- where the attribute of the name has the same kind in another heading, it is an interval there too
abbrev pub StaysIn : Heading → Heading → List Name → Type 0
StaysIn h from names = (name : Name) → In name names → IsTrue (has_name h name) × (kind_named h name ≡ kind_named from name)

spans-stay : (left right h : Heading) (list : NameListP) (names : List Name) → AreListed left right list names → StaysIn h left names → AreSpans h names
spans-stay left right h list names is stays name i =
    let s = is.shared name i in
    ((stays name i).0, subst (λ (k : Kind). IsTrue (is_span k)) (sym (stays name i).1) s.span)

alike-left : (left right h : Heading) (list : NameListP) (names : List Name) → AreListed left right list names → StaysIn h left names → IsTrue (are_in h names left)
alike-left left right h list names is stays = all-alike h left names (λ name i. ((stays name i).0, (is.shared name i).here, (stays name i).1))

alike-right : (left right h : Heading) (list : NameListP) (names : List Name) → AreListed left right list names → StaysIn h left names → IsTrue (are_in h names right)
alike-right left right h list names is stays = all-alike h right names (λ name i. ((stays name i).0, (is.shared name i).there, (stays name i).1 ∙ (is.shared name i).same))

-- an attribute of the one heading that is one of the other
stays-by : (from h : Heading) (name : Name) → Ascends attribute_cmp h → In (name, kind_named from name) h → IsTrue (has_name h name) × (kind_named h name ≡ kind_named from name)
stays-by from h name up i = (named-in h name (kind_named from name) i, kind-is h name (kind_named from name) up i)

-- ---- between two relations

same-stays : (left h : Heading) (names : List Name) → ((name : Name) → In name names → IsTrue (has_name left name)) → h ≡ left → StaysIn h left names
same-stays left h names known is name i =
    (subst (λ (z : Heading). IsTrue (has_name z name)) (sym is) (known name i), ap (λ (z : Heading). kind_named z name) is)

infix-stays : (word : InfixWord) (left right h : Heading) (names : List Name) → Ascends attribute_cmp left → Ascends attribute_cmp right → ((name : Name) → In name names → IsTrue (has_name left name))
    → IsInfix word left right h → StaysIn h left names
infix-stays Union left right h names up up' known is = same-stays left h names known is.1
infix-stays Intersect left right h names up up' known is = same-stays left h names known is.1
infix-stays Minus left right h names up up' known is = same-stays left h names known is.1
infix-stays Matching left right h names up up' known is = same-stays left h names known is.1
infix-stays NotMatching left right h names up up' known is = same-stays left h names known is.1
infix-stays Join left right h names up up' known is = λ name i.
    let j : In (name, kind_named left name) (joined_heading left right) =
    (In-joined left right up up' is.0 (name, kind_named left name)).1 ((In-append (name, kind_named left name) left right).1 (inl (attribute-named left name (known name i)))) in
    let there = stays-by left (joined_heading left right) name (joined_ascends left right up up' is.0) j in
    subst (λ (z : Heading). IsTrue (has_name z name) × (kind_named z name ≡ kind_named left name)) (sym is.1) there

module _ (sizes : List ℕ) (headings : Headings) where
  pub using-infix-sound : (place : Place) (list : NameListP) (at : Place) (word : InfixWord) (l r : Tree) → IsTrue (is_heading (heading_of l)) → IsTrue (is_heading (heading_of r))
      → IsTypedTree sizes headings l → IsTypedTree sizes headings r → IfOk (using_infix_rule place list at word l r) (IsTypedTree sizes headings)
  using-infix-sound place list at word l r lh rh left right =
      then-sound (AreListed (heading_of l) (heading_of r) list) (IsTypedTree sizes headings) (list_checked (heading_of l) (heading_of r) list) _ (list-sound (heading_of l) (heading_of r) list) (λ names is.
      then-sound (λ (part : Tree). IsTypedTree sizes headings (used place names part)) (IsTypedTree sizes headings) (infix_rule at word l r) _
      (then-sound (IsInfix word (heading_of l) (heading_of r)) (λ (part : Tree). IsTypedTree sizes headings (used place names part)) (infix_heading at word (heading_of l) (heading_of r)) _
      (infix-heading at word (heading_of l) (heading_of r)) (λ h node.
      let stays : StaysIn h (heading_of l) names =
      infix-stays word (heading_of l) (heading_of r) h names (heading_ascends (heading_of l) lh) (heading_ascends (heading_of r) rh) (λ n i. (is.shared n i).here) node in
      used-typed sizes headings place names (infix_of at h word l r) (left, right, node) (spans-stay (heading_of l) (heading_of r) h list names is stays) is.different is.few
      (and_from (are_in h names (heading_of l)) (are_in h names (heading_of r)) (alike-left (heading_of l) (heading_of r) h list names is stays)
      (alike-right (heading_of l) (heading_of r) h list names is stays)))) (λ part p. p))

  -- ---- projections

  -- the attributes at positions have their kinds from the heading
  kept-stays : (from : Heading) (kept : List ℕ) (name : Name) → Ascends attribute_cmp from → ArePositions from kept → IsTrue (has_name (attributes_at kept from) name)
      → In (name, kind_named (attributes_at kept from) name) from × (kind_named (attributes_at kept from) name ≡ kind_named from name)
  kept-stays from kept name up at here =
      let i = part-in from kept at.within (name, kind_named (attributes_at kept from) name) (attribute-named (attributes_at kept from) name here) in
      (i, sym (kind-is from name (kind_named (attributes_at kept from) name) up i))

  written-names : (left right : Heading) (list : NameListP) (names : List Name) (P : Name → Type 0) → AreListed left right list names → ((name : Name) → In name (names_of_words (words_of list)) → P name)
      → (name : Name) → In name names → P name
  written-names left right list names P is h name i = h name (subst (λ (ns : List Name). In name ns) is.written i)

  pub using-projection-sound : (place : Place) (list : NameListP) (p : ProjectionP) (t : Tree) → IsTrue (is_heading (heading_of t)) → IsTypedTree sizes headings t
      → IfOk (using_projection_rule place list p t) (IsTypedTree sizes headings)
  using-projection-sound place list p t headed typed =
      then-sound (AreListed (heading_of t) (heading_of t) list) (IsTypedTree sizes headings) (list_checked (heading_of t) (heading_of t) list) _ (list-sound (heading_of t) (heading_of t) list) (λ names is.
      then-sound (ArePositions (heading_of t)) (IsTypedTree sizes headings) (projection_kept p (heading_of t)) _ (kept-sound p (heading_of t)) (λ kept at.
      then-sound (λ _. (name : Name) → In name (names_of_words (words_of list)) → IsTrue (has_name (attributes_at kept (heading_of t)) name)) (IsTypedTree sizes headings)
      (all_kept (attributes_at kept (heading_of t)) (words_of list)) _ (all-kept (attributes_at kept (heading_of t)) (words_of list)) (λ _ all.
      let here : (name : Name) → In name names → IsTrue (has_name (attributes_at kept (heading_of t)) name) =
      written-names (heading_of t) (heading_of t) list names (λ (name : Name). IsTrue (has_name (attributes_at kept (heading_of t)) name)) is all in
      let stays : StaysIn (attributes_at kept (heading_of t)) (heading_of t) names =
      λ name i. (here name i, (kept-stays (heading_of t) kept name (heading_ascends (heading_of t) headed) at (here name i)).1) in
      used-typed sizes headings place names (project (projection_place p) (attributes_at kept (heading_of t)) kept t) (typed, record { positions = at; headed = refl })
      (spans-stay (heading_of t) (heading_of t) (attributes_at kept (heading_of t)) list names is stays) is.different is.few
      (alike-left (heading_of t) (heading_of t) (attributes_at kept (heading_of t)) list names is stays))))

-- ---- over scalars

module _ (types : List OrdinalNames) (ordinals : All IsOrdinalType types) (headings : Headings) where
  pub using-restriction-sound : (place : Place) (list : NameListP) (at : Place) (s : ScalarP) (t : Tree) → IsTypedTree (sizes_of types) headings t
      → IfOk (using_restriction_rule types place list at s t) (IsTypedTree (sizes_of types) headings)
  using-restriction-sound place list at s t typed =
      then-sound (AreListed (heading_of t) (heading_of t) list) (IsTypedTree (sizes_of types) headings) (list_checked (heading_of t) (heading_of t) list) _ (list-sound (heading_of t) (heading_of t) list) (λ names is.
      then-sound (λ (c : Expr). IsScalar (sizes_of types) (heading_of t) c Truth) (IsTypedTree (sizes_of types) headings) (condition_typed types at (heading_of t) s) _
      (condition-sound types ordinals at (heading_of t) s) (λ c condition.
      then-sound (λ _. IsTrue (is_swept (positions_of (heading_of t) names) c)) (IsTypedTree (sizes_of types) headings) (swept (positions_of (heading_of t) names) c) _
      (swept-is (positions_of (heading_of t) names) c) (λ _ sweepable.
      used-typed (sizes_of types) headings place names (restrict at (heading_of t) c t) (typed, record { condition = condition; headed = refl })
      (λ name i. ((is.shared name i).here, (is.shared name i).span)) is.different is.few sweepable)))

  -- ---- extensions

  -- no item makes an attribute of the list
  unmade : (from to : Heading) (sets : PlainSets) (names : List Name) (e : IsExtension (sizes_of types) from to sets) → AreOthers names sets
      → (name : Name) → In name names → list_any (bytes_eq name) (names_of e.made) ≡ false
  unmade from to sets names e others name i =
      false_from_ne_true (list_any (bytes_eq name) (names_of e.made)) (λ made.
      let same : names_of e.made ≡ set_names sets = sym (given_names (sizes_of types) from sets e.made e.makes) in
      let w = (list_any-In (bytes_eq name) (set_names sets)).0 (subst (λ (ns : List Name). IsTrue (list_any (bytes_eq name) ns)) same made) in
      let s = (In-map (λ (s : Name × Expr). s.0) w.0 sets).0 w.1 in
      others name s.0 i s.1 (subst (λ (n : Name). bytes_eq name n ≡ true) s.2 w.2))

  extension-stays : (from to : Heading) (sets : PlainSets) (names : List Name) → IsExtension (sizes_of types) from to sets → AreOthers names sets → ((name : Name) → In name names → IsTrue (has_name from name))
      → StaysIn to from names
  extension-stays from to sets names e others known name i =
      let other = not_from_false (list_any (bytes_eq name) (names_of e.made)) (unmade from to sets names e others name i) in
      let kept : In (name, kind_named from name) (not_named (names_of e.made) from) =
      (In-filter (λ (b : Name × Kind). not (list_any (bytes_eq b.0) (names_of e.made))) (name, kind_named from name) from).1 (attribute-named from name (known name i), other) in
      stays-by from to name (heading_ascends to e.headed.ordered)
      (In-permutation (e.made ++ not_named (names_of e.made) from) to (name, kind_named from name) e.headed.same
      ((In-append (name, kind_named from name) e.made (not_named (names_of e.made) from)).1 (inr kept)))

  extension-assigned : (place : Place) (from : Heading) (sets : SetsP) → IfOk (extension_made types place from sets) (λ (m : Made). AreAssigned (item_list sets) m.0)
  extension-assigned place from sets =
      then-sound (λ (m : Made). AreAssigned (item_list sets) m.0) (λ (m : Made). AreAssigned (item_list sets) m.0) (items_typed types from none_made (item_list sets)) _
      (items-assigned types from (item_list sets) none_made (item_list sets) (λ name g. g) (λ s i. absurd i)) (λ made assigned.
      then-sound (λ _. Unit {0}) (λ (m : Made). AreAssigned (item_list sets) m.0) (few_attributes place (made_beside made.1 from)) _ (any-given (few_attributes place (made_beside made.1 from)))
      (λ to _. assigned))

  pub using-extension-sound : (place : Place) (list : NameListP) (at : Place) (sets : SetsP) (t : Tree) → IsTrue (is_heading (heading_of t)) → IsTypedTree (sizes_of types) headings t
      → IfOk (using_extension_rule types place list at sets t) (IsTypedTree (sizes_of types) headings)
  using-extension-sound place list at sets t headed typed =
      then-sound (AreListed (heading_of t) (heading_of t) list) (IsTypedTree (sizes_of types) headings) (list_checked (heading_of t) (heading_of t) list) _ (list-sound (heading_of t) (heading_of t) list) (λ names is.
      then-sound (λ (m : Made). IsExtension (sizes_of types) (heading_of t) m.1 m.0 × AreAssigned (item_list sets) m.0) (IsTypedTree (sizes_of types) headings) (extension_made types at (heading_of t) sets) _
      (both-hold (λ (m : Made). IsExtension (sizes_of types) (heading_of t) m.1 m.0) (λ (m : Made). AreAssigned (item_list sets) m.0) (extension_made types at (heading_of t) sets)
      (extension-made types ordinals at (heading_of t) sets (heading_ascends (heading_of t) headed)) (extension-assigned at (heading_of t) sets)) (λ made m.
      then-sound (λ _. AreOthers names made.0) (IsTypedTree (sizes_of types) headings) (none_assigned names (item_list sets)) _ (others-assigned names (item_list sets) made.0 m.1) (λ _ others.
      then-sound (λ _. IsTrue (list_all (λ (s : Name × Expr). is_swept (positions_of (heading_of t) names) s.1) made.0)) (IsTypedTree (sizes_of types) headings)
      (sets_swept (positions_of (heading_of t) names) made.0) _ (sets-swept (positions_of (heading_of t) names) made.0) (λ _ sweepable.
      let stays : StaysIn made.1 (heading_of t) names = extension-stays (heading_of t) made.1 made.0 names m.0 others (λ n i. (is.shared n i).here) in
      used-typed (sizes_of types) headings place names (extend at made.1 made.0 t) (typed, m.0) (spans-stay (heading_of t) (heading_of t) made.1 list names is stays) is.different is.few
      (and_from (are_in made.1 names (heading_of t)) _ (alike-left (heading_of t) (heading_of t) made.1 list names is stays)
      (and_from (list_all (λ (s : Name × Expr). is_swept (positions_of (heading_of t) names) s.1) made.0) _ sweepable (others-none names made.0 others)))))))

  -- ---- summaries

  among-by : (from : Heading) (by : List ℕ) (name : Name) → Ascends attribute_cmp from → ArePositions from by → IsTrue (has_name (attributes_at by from) name) → IsTrue (among by (position_of from name))
  among-by from by name up at here =
      let w = (In-map (λ (i : ℕ). get_or from i no_attribute) (name, kind_named (attributes_at by from) name) by).0 (attribute-named (attributes_at by from) name here) in
      let place : position_of from name ≡ w.0 =
      ap (λ (a : Name × Kind). position_of from a.0) w.2 ∙ position-back from w.0 no_attribute up (within_by_members (length from) by at.within w.0 w.1) in
      (list_any-In (nat_eq (position_of from name)) by).1 (w.0, w.1, eq-eqb (position_of from name) w.0 place)

  summary-stays : (from to : Heading) (by : List ℕ) (aggregates : List PlainAggregate) (name : Name) → Ascends attribute_cmp from → IsSummary (sizes_of types) from to by aggregates
      → IsTrue (has_name (attributes_at by from) name) → IsTrue (has_name to name) × (kind_named to name ≡ kind_named from name)
  summary-stays from to by aggregates name up s here =
      let i : In (name, kind_named (attributes_at by from) name) to =
      In-permutation (s.made ++ attributes_at by from) to (name, kind_named (attributes_at by from) name) s.headed.same
      ((In-append (name, kind_named (attributes_at by from) name) s.made (attributes_at by from)).1 (inr (attribute-named (attributes_at by from) name here))) in
      let there = stays-by (attributes_at by from) to name (heading_ascends to s.headed.ordered) i in (
        there.0,
        there.1 ∙ sym (kind-is from name (kind_named (attributes_at by from) name) up
            (part-in from by s.positions.within (name, kind_named (attributes_at by from) name) (attribute-named (attributes_at by from) name here))),
      )

  all-among : (from : Heading) (by : List ℕ) (names : List Name) → Ascends attribute_cmp from → ArePositions from by → ((name : Name) → In name names → IsTrue (has_name (attributes_at by from) name))
      → IsTrue (list_all (among by) (positions_of from names))
  all-among from by names up at here =
      (list_all-In (among by) (positions_of from names)).1 (λ i m.
      let w = (In-map (position_of from) i names).0 m in
      subst (λ (j : ℕ). IsTrue (among by j)) (sym w.2) (among-by from by w.0 up at (here w.0 w.1)))

  pub using-summary-sound : (place : Place) (list : NameListP) (at : Place) (by_names : NamesP) (aggregates : AggregatesP) (t : Tree) → IsTrue (is_heading (heading_of t)) → IsTypedTree (sizes_of types) headings t
      → IfOk (using_summary_rule types place list at by_names aggregates t) (IsTypedTree (sizes_of types) headings)
  using-summary-sound place list at by_names aggregates t headed typed =
      then-sound (AreListed (heading_of t) (heading_of t) list) (IsTypedTree (sizes_of types) headings) (list_checked (heading_of t) (heading_of t) list) _ (list-sound (heading_of t) (heading_of t) list) (λ names is.
      then-sound (ArePositions (heading_of t)) (IsTypedTree (sizes_of types) headings) (groups_typed (heading_of t) by_names) _ (groups-sound (heading_of t) by_names) (λ by positions.
      then-sound (λ (m : Summed). IsSummary (sizes_of types) (heading_of t) m.1 by m.0) (IsTypedTree (sizes_of types) headings) (aggregates_made types at (heading_of t) by aggregates) _
      (aggregates-made types ordinals (heading_of t) at by aggregates headed positions) (λ made s.
      then-sound (λ _. (name : Name) → In name (names_of_words (words_of list)) → IsTrue (has_name (attributes_at by (heading_of t)) name)) (IsTypedTree (sizes_of types) headings)
      (all_kept (attributes_at by (heading_of t)) (words_of list)) _ (all-kept (attributes_at by (heading_of t)) (words_of list)) (λ _ all.
      then-sound (λ _. IsTrue (list_all (λ (a : PlainAggregate). names_none (positions_of (heading_of t) names) a.form) made.0)) (IsTypedTree (sizes_of types) headings)
      (aggregates_name_no (positions_of (heading_of t) names) made.0) _ (aggregates-none (positions_of (heading_of t) names) made.0) (λ _ none.
      let up = heading_ascends (heading_of t) headed in
      let here : (name : Name) → In name names → IsTrue (has_name (attributes_at by (heading_of t)) name) =
      λ name i. all name (subst (λ (ns : List Name). In name ns) is.written i) in
      let stays : StaysIn made.1 (heading_of t) names = λ name i. summary-stays (heading_of t) made.1 by made.0 name up s (here name i) in
      used-typed (sizes_of types) headings place names (summarize at made.1 by made.0 t) (typed, s) (spans-stay (heading_of t) (heading_of t) made.1 list names is stays) is.different is.few
      (and_from (are_in made.1 names (heading_of t)) _ (alike-left (heading_of t) (heading_of t) made.1 list names is stays)
      (and_from (list_all (among by) (positions_of (heading_of t) names)) _ (all-among (heading_of t) by names up positions here) none)))))))

-- The parts of relational nodes at other places, beside more ordinal types: names, conditions, items, groups and aggregates.
--     infix-heading-follows, kept-follows, renaming-follows      headings of two operands, projections, renamings
--     condition-follows, extension-follows      conditions and items over rows
--     groups-follow, aggregates-follow      of a SUMMARIZE
use Rattle.std.proofs.Common.{◌≡◌, ℕ, List, [], ◌∷◌, ◌++◌, map, Ok, refl, sym, ap, ◌∙◌, subst}
use Rattle.std.proofs.lemmas.List.{map-append}
use Rattle.point_core.specs.declared.any_type.AnyType.TheVariants.{Integer}
use Rattle.point_core.specs.declared.fault.Code.TheVariants.{E12, E13, E15}
use Rattle.point_core.specs.declared.fault.Place.{Place}
use Rattle.utd_syntax.specs.declared.words.AggregateWord.{AggregateWord}
use Rattle.utd_syntax.specs.declared.words.AggregateWord.TheVariants.{Sum, Min, Max}
use Rattle.utd_syntax.specs.Plain as syntax
use Rattle.utd_syntax.specs.Plain.{Word, ProjectionP, RenamingP, RenamingsP, ScalarP, SetItemP, SetsP, NamesP, AggregateFormP, AggregateP, AggregatesP}
use Rattle.value_core.specs.declared.kind.Kind.TheVariants.{Truth, Point}
use Rattle.value_core.specs.declared.list.OrdinalNames.{OrdinalNames}
use Rattle.value_core.specs.Values.{Name, Heading}
use Rattle.scalar_core.specs.KindOf.{same_kind}
use Rattle.relation_core.specs.Joins.{joined_heading}
use Rattle.relation_core.specs.Parts.{attributes_at}
use Rattle.tree_core.specs.declared.tree.InfixWord.{InfixWord}
use Rattle.tree_core.specs.declared.tree.InfixWord.TheVariants.{Union, Intersect, Minus, Join, Matching, NotMatching}
use Rattle.tree_core.specs.Trees.{count_rows, PlainAggregate}
use Rattle.scalar_typing.specs.Scalars.{typed_scalar}
use Rattle.scalar_typing.specs.Typings.{Typed, ◌>>=◌}
use Rattle.relation_typing.specs.Attributes.{name_typed, new_name, with_attribute, few_attributes}
use Rattle.relation_typing.specs.Headings.{same_heading}
use Rattle.relation_typing.specs.Items.{Made, none_made, item_typed}
use Rattle.node_typing.specs.Headings.{made_beside}
use Rattle.node_typing.specs.Infixes.{kinds_agree, infix_heading}
use Rattle.node_typing.specs.Positions.{check, new_position, positions_typed}
use Rattle.node_typing.specs.Projections.{projection_kept, NewNames, renamed_positions, renaming_typed, renamings_typed, names_from, stands_once, new_names_once, renaming_names}
use Rattle.node_typing.specs.Rows.{condition_typed, items_typed, extension_made}
use Rattle.node_typing.specs.Summaries.{FormMade, takes, form_over, form_typed, Summed, aggregate_of, form_place, aggregate_typed, aggregates_typed, groups_typed, aggregates_made}
use Rattle.place_laws.specs.Moved as written
use Rattle.place_laws.specs.Moved.{moved_word, moved_scalar, moved_projection, moved_renaming, moved_renamings, moved_set_item, moved_names, moved_aggregates}
use Rattle.meaning_laws.specs.Moved.{moved_expr, moved_aggregate_form, moved_aggregate}
use Rattle.row_typing_laws.specs.Followings.{Follows, moved_typed, moved_made}
use Rattle.row_typing_laws.proofs.ElsewhereHeadings.{few-elsewhere}
use Rattle.row_typing_laws.proofs.ElsewhereLiterals.{item-follows}
use Rattle.row_typing_laws.proofs.ElsewhereNames.{word-follows, new-word-follows}
use Rattle.row_typing_laws.proofs.ElsewhereScalars.{scalar-follows}
use Rattle.row_typing_laws.proofs.Parts.{given-follows, then-follows}
use Rattle.typing_laws.proofs.PositionsElsewhere.{check-follows, new-position-follows, positions-follows}

module _ (f : Place → Place) where
  -- ---- headings of two operands

  pub infix-heading-follows : (p : Place) (word : InfixWord) (a b : Heading) → Follows (λ h. h) (infix_heading p word a b) (infix_heading (f p) word a b)
  infix-heading-follows p Union a b = then-follows (λ u. u) (λ h. h) (check p E13 (same_heading a b)) (check (f p) E13 (same_heading a b)) _ _ (check-follows f p E13 (same_heading a b)) (λ _ h e. e)
  infix-heading-follows p Intersect a b =
      then-follows (λ u. u) (λ h. h) (check p E13 (same_heading a b)) (check (f p) E13 (same_heading a b)) _ _ (check-follows f p E13 (same_heading a b)) (λ _ h e. e)
  infix-heading-follows p Minus a b = then-follows (λ u. u) (λ h. h) (check p E13 (same_heading a b)) (check (f p) E13 (same_heading a b)) _ _ (check-follows f p E13 (same_heading a b)) (λ _ h e. e)
  infix-heading-follows p Join a b =
      then-follows (λ u. u) (λ h. h) (check p E12 (kinds_agree a b)) (check (f p) E12 (kinds_agree a b)) _ _ (check-follows f p E12 (kinds_agree a b))
      (λ _. few-elsewhere p (f p) (joined_heading a b))
  infix-heading-follows p Matching a b = then-follows (λ u. u) (λ h. h) (check p E12 (kinds_agree a b)) (check (f p) E12 (kinds_agree a b)) _ _ (check-follows f p E12 (kinds_agree a b)) (λ _ h e. e)
  infix-heading-follows p NotMatching a b =
      then-follows (λ u. u) (λ h. h) (check p E12 (kinds_agree a b)) (check (f p) E12 (kinds_agree a b)) _ _ (check-follows f p E12 (kinds_agree a b)) (λ _ h e. e)

  -- ---- projections and renamings

  pub kept-follows : (p : ProjectionP) (h : Heading) → Follows (λ k. k) (projection_kept p h) (projection_kept (moved_projection f p) h)
  kept-follows (syntax.Onto at words) h =
      then-follows (λ n. n) (λ k. k) (positions_typed h [] words) (positions_typed h [] (map (moved_word f) words)) _ _ (positions-follows f h [] words) (λ _ k e. e)
  kept-follows (syntax.AllBut at first more) h =
      then-follows (λ n. n) (λ k. k) (positions_typed h [] (first ∷ more)) (positions_typed h [] (moved_word f first ∷ map (moved_word f) more)) _ _
      (positions-follows f h [] (first ∷ more)) (λ _ k e. e)

  one-renaming-follows : (h : Heading) (before : NewNames) (x : RenamingP) → Follows (λ n. n) (renaming_typed h before x) (renaming_typed h before (moved_renaming f x))
  one-renaming-follows h before (syntax.Renaming old new) =
      then-follows (λ i. i) (λ n. n) (new_position h (renamed_positions before) old) (new_position h (renamed_positions before) (moved_word f old)) _ _
      (new-position-follows f h (renamed_positions before) old) (λ at.
      then-follows (λ n. n) (λ n. n) (name_typed new) (name_typed (moved_word f new)) _ _ (word-follows f new) (λ _ n e. e))

  renamings-follow : (h : Heading) (before : NewNames) (xs : List RenamingP) → Follows (λ n. n) (renamings_typed h before xs) (renamings_typed h before (map (moved_renaming f) xs))
  renamings-follow h before [] n e = e
  renamings-follow h before (x ∷ xs) n e =
      then-follows (λ b. b) (λ b. b) (renaming_typed h before x) (renaming_typed h before (moved_renaming f x)) _ _ (one-renaming-follows h before x) (λ next. renamings-follow h next xs) n e

  once-follows : (names : List Name) (xs : List RenamingP) → Follows (λ n. n) (new_names_once names xs) (new_names_once names (map (moved_renaming f) xs))
  once-follows names [] n e = e
  once-follows names (syntax.Renaming old new ∷ xs) n e =
      then-follows (λ u. u) (λ b. b) (check new.place E15 (stands_once names new.bytes)) (check (f new.place) E15 (stands_once names new.bytes)) _ _
      (check-follows f new.place E15 (stands_once names new.bytes)) (λ _. once-follows names xs) n e

  pub renaming-follows : (r : RenamingsP) (h : Heading) → Follows (λ n. n) (renaming_names r h) (renaming_names (moved_renamings f r) h)
  renaming-follows (syntax.Renamings at first more) h =
      then-follows (λ n. n) (λ n. n) (renamings_typed h [] (first ∷ more)) (renamings_typed h [] (moved_renaming f first ∷ map (moved_renaming f) more)) _ _ (renamings-follow h [] (first ∷ more))
      (λ pairs. once-follows (names_from pairs 0 h) (first ∷ more))

  -- ---- groups

  pub groups-follow : (from : Heading) (by : NamesP) → Follows (λ n. n) (groups_typed from by) (groups_typed from (moved_names f by))
  groups-follow from (syntax.Names at words) =
      then-follows (λ n. n) (λ n. n) (positions_typed from [] words) (positions_typed from [] (map (moved_word f) words)) _ _ (positions-follows f from [] words) (λ _ n e. e)

  -- ---- aggregates

  abbrev pub moved_form_made : FormMade → FormMade
  moved_form_made m = (moved_aggregate_form f m.0, m.1)

  abbrev pub moved_summed : Summed → Summed
  moved_summed m = (map (moved_aggregate f) m.0, m.1)

  form-given : (word : AggregateWord) (e : Typed) → Follows moved_form_made (Ok (form_over word e.0, e.1)) (Ok (form_over word (moved_expr f e.0), e.1))
  form-given Sum e = given-follows moved_form_made (form_over Sum e.0, e.1)
  form-given Min e = given-follows moved_form_made (form_over Min e.0, e.1)
  form-given Max e = given-follows moved_form_made (form_over Max e.0, e.1)

  one-aggregate-given : (before : Summed) (name : Name) (at : Place) (made : FormMade)
      → Follows moved_summed (Ok (before.0 ++ aggregate_of name at made.0 ∷ [], with_attribute before.1 name made.1))
      (Ok (map (moved_aggregate f) before.0 ++ aggregate_of name (f at) (moved_aggregate_form f made.0) ∷ [], with_attribute before.1 name made.1))
  one-aggregate-given before name at made d h =
      ap (λ (l : List PlainAggregate). Ok (l, with_attribute before.1 name made.1)) (sym (map-append (moved_aggregate f) before.0 (aggregate_of name at made.0 ∷ [])))
      ∙ given-follows moved_summed (before.0 ++ aggregate_of name at made.0 ∷ [], with_attribute before.1 name made.1) d h

  form-place-moved : (form : AggregateFormP) → form_place (written.moved_aggregate_form f form) ≡ f (form_place form)
  form-place-moved (syntax.CountRows at) = refl
  form-place-moved (syntax.AggregateOf at word s) = refl

module _ (f : Place → Place) (types more : List OrdinalNames) where
  -- ---- conditions and items

  pub condition-follows : (p : Place) (h : Heading) (s : ScalarP) → Follows (moved_expr f) (condition_typed types p h s) (condition_typed (types ++ more) (f p) h (moved_scalar f s))
  condition-follows p h s =
      then-follows (moved_typed f) (moved_expr f) (typed_scalar types h s) (typed_scalar (types ++ more) h (moved_scalar f s)) _
      (λ e. check (f p) E12 (same_kind e.1 Truth) >>= (λ _. Ok e.0)) (scalar-follows f types more h s) (λ e.
      then-follows (λ u. u) (moved_expr f) (check p E12 (same_kind e.1 Truth)) (check (f p) E12 (same_kind e.1 Truth)) _ _ (check-follows f p E12 (same_kind e.1 Truth))
      (λ _. given-follows (moved_expr f) e.0))

  items-follow : (from : Heading) (before : Made) (xs : List SetItemP)
      → Follows (moved_made f) (items_typed types from before xs) (items_typed (types ++ more) from (moved_made f before) (map (moved_set_item f) xs))
  items-follow from before [] = given-follows (moved_made f) before
  items-follow from before (syntax.SetItem w s ∷ xs) =
      then-follows (moved_made f) (moved_made f) (item_typed types from before w s) (item_typed (types ++ more) from (moved_made f before) (moved_word f w) (moved_scalar f s)) _
      (λ next. items_typed (types ++ more) from next (map (moved_set_item f) xs)) (item-follows f types more from before w s) (λ next. items-follow from next xs)

  pub extension-follows : (p : Place) (from : Heading) (sets : SetsP)
      → Follows (moved_made f) (extension_made types p from sets) (extension_made (types ++ more) (f p) from (written.moved_sets f sets))
  extension-follows p from (syntax.Sets at first rest) =
      then-follows (moved_made f) (moved_made f) (items_typed types from none_made (first ∷ rest))
      (items_typed (types ++ more) from none_made (moved_set_item f first ∷ map (moved_set_item f) rest)) _
      (λ made. few_attributes (f p) (made_beside made.1 from) >>= (λ to. Ok (made.0, to))) (items-follow from none_made (first ∷ rest)) (λ made.
      then-follows (λ h. h) (moved_made f) (few_attributes p (made_beside made.1 from)) (few_attributes (f p) (made_beside made.1 from)) _ _ (few-elsewhere p (f p) (made_beside made.1 from))
      (λ to. given-follows (moved_made f) (made.0, to)))

  -- ---- aggregates

  form-follows : (from : Heading) (form : AggregateFormP) → Follows (moved_form_made f) (form_typed types from form) (form_typed (types ++ more) from (written.moved_aggregate_form f form))
  form-follows from (syntax.CountRows at) = given-follows (moved_form_made f) (count_rows, Point Integer)
  form-follows from (syntax.AggregateOf at word s) =
      then-follows (moved_typed f) (moved_form_made f) (typed_scalar types from s) (typed_scalar (types ++ more) from (moved_scalar f s)) _
      (λ e. check (f at) E12 (takes word e.1) >>= (λ _. Ok (form_over word e.0, e.1))) (scalar-follows f types more from s) (λ e.
      then-follows (λ u. u) (moved_form_made f) (check at E12 (takes word e.1)) (check (f at) E12 (takes word e.1)) _ _ (check-follows f at E12 (takes word e.1)) (λ _. form-given f word e))

  one-aggregate-follows : (from : Heading) (before : Summed) (x : AggregateP)
      → Follows (moved_summed f) (aggregate_typed types from before x) (aggregate_typed (types ++ more) from (moved_summed f before) (written.moved_aggregate f x))
  one-aggregate-follows from before (syntax.Aggregate w form) =
      let there = form_place (written.moved_aggregate_form f form) in
      then-follows (λ n. n) (moved_summed f) (new_name before.1 w) (new_name before.1 (moved_word f w)) _ _ (new-word-follows f before.1 w) (λ name.
      then-follows (moved_form_made f) (moved_summed f) (form_typed types from form) (form_typed (types ++ more) from (written.moved_aggregate_form f form)) _
      (λ made. Ok (map (moved_aggregate f) before.0 ++ aggregate_of name there made.0 ∷ [], with_attribute before.1 name made.1)) (form-follows from form) (λ made.
      subst (λ (at : Place). Follows (moved_summed f) (Ok (before.0 ++ aggregate_of name (form_place form) made.0 ∷ [], with_attribute before.1 name made.1))
      (Ok (map (moved_aggregate f) before.0 ++ aggregate_of name at (moved_aggregate_form f made.0) ∷ [], with_attribute before.1 name made.1))) (sym (form-place-moved f form))
      (one-aggregate-given f before name (form_place form) made)))

  all-aggregates-follow : (from : Heading) (before : Summed) (xs : List AggregateP)
      → Follows (moved_summed f) (aggregates_typed types from before xs) (aggregates_typed (types ++ more) from (moved_summed f before) (map (written.moved_aggregate f) xs))
  all-aggregates-follow from before [] = given-follows (moved_summed f) before
  all-aggregates-follow from before (x ∷ xs) =
      then-follows (moved_summed f) (moved_summed f) (aggregate_typed types from before x) (aggregate_typed (types ++ more) from (moved_summed f before) (written.moved_aggregate f x)) _
      (λ next. aggregates_typed (types ++ more) from next (map (written.moved_aggregate f) xs)) (one-aggregate-follows from before x) (λ next. all-aggregates-follow from next xs)

  pub aggregates-follow : (p : Place) (from : Heading) (by : List ℕ) (aggregates : AggregatesP)
      → Follows (moved_summed f) (aggregates_made types p from by aggregates) (aggregates_made (types ++ more) (f p) from by (moved_aggregates f aggregates))
  aggregates-follow p from by (syntax.Aggregates at first rest) =
      let start : Summed = ([], attributes_at by from) in
      then-follows (moved_summed f) (moved_summed f) (aggregates_typed types from start (first ∷ rest))
      (aggregates_typed (types ++ more) from start (written.moved_aggregate f first ∷ map (written.moved_aggregate f) rest)) _
      (λ made. few_attributes (f p) made.1 >>= (λ to. Ok (made.0, to))) (all-aggregates-follow from start (first ∷ rest)) (λ made.
      then-follows (λ h. h) (moved_summed f) (few_attributes p made.1) (few_attributes (f p) made.1) _ _ (few-elsewhere p (f p) made.1) (λ to. given-follows (moved_summed f) (made.0, to)))

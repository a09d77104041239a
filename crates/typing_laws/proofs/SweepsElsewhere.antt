-- What USING asks of expressions and items, at other places.
--     all-kept-follows, none-assigned-follows      listed attributes that are kept
--     swept-follows, sets-swept-follow, aggregates-name-no-follow      expressions that are sweepable for them
use Rattle.std.proofs.Common.{◌≡◌, ℕ, not, List, [], ◌∷◌, ◌++◌, map, refl, sym, ap, ◌∙◌}
use Rattle.std.proofs.lemmas.List.{map-append}
use Rattle.point_core.specs.declared.fault.Code.TheVariants.{E18, E19}
use Rattle.point_core.specs.declared.fault.Place.{Place}
use Rattle.utd_syntax.specs.Plain as syntax
use Rattle.utd_syntax.specs.Plain.{Word, SetItemP}
use Rattle.value_core.specs.Attributes.{among}
use Rattle.value_core.specs.Headings.{has_name}
use Rattle.value_core.specs.Values.{Name, Heading}
use Rattle.scalar_core.specs.Expressions.{Expr, constant, attribute, one, pair, and_expr, or_expr}
use Rattle.scalar_core.specs.Sweeping.{first_place, named_places, unswept}
use Rattle.tree_core.specs.Trees.{PlainSets, PlainAggregateForm, count_rows, sum_of, min_of, max_of, PlainAggregate}
use Rattle.node_typing.specs.Lists.{named_in}
use Rattle.node_typing.specs.Positions.{check}
use Rattle.node_typing.specs.Sweeps.{all_kept, none_assigned, refused_if, swept, sets_swept, names_no, form_names_no, aggregates_name_no}
use Rattle.place_laws.specs.Moved.{moved_word, moved_set_item}
use Rattle.meaning_laws.specs.Moved.{moved_expr, moved_sets, moved_aggregate_form, moved_aggregate}
use Rattle.meaning_laws.proofs.TypedMoved.{listed-moved, unswept-moved}
use Rattle.row_typing_laws.specs.Followings.{Follows}
use Rattle.row_typing_laws.proofs.Parts.{then-follows}
use Rattle.typing_laws.proofs.PositionsElsewhere.{check-follows}

module _ (f : Place → Place) where
  -- ---- attributes that are kept

  pub all-kept-follows : (h : Heading) (words : List Word) → Follows (λ u. u) (all_kept h words) (all_kept h (map (moved_word f) words))
  all-kept-follows h [] u e = e
  all-kept-follows h (w ∷ words) u e =
      then-follows (λ v. v) (λ v. v) (check w.place E19 (has_name h w.bytes)) (check (f w.place) E19 (has_name h w.bytes)) _ _ (check-follows f w.place E19 (has_name h w.bytes))
      (λ _. all-kept-follows h words) u e

  pub none-assigned-follows : (names : List Name) (xs : List SetItemP) → Follows (λ u. u) (none_assigned names xs) (none_assigned names (map (moved_set_item f) xs))
  none-assigned-follows names [] u e = e
  none-assigned-follows names (syntax.SetItem w s ∷ xs) u e =
      then-follows (λ v. v) (λ v. v) (check w.place E19 (not (named_in names w.bytes))) (check (f w.place) E19 (not (named_in names w.bytes))) _ _
      (check-follows f w.place E19 (not (named_in names w.bytes))) (λ _. none-assigned-follows names xs) u e

  -- ---- places in expressions

  module _ (commalist : List ℕ) where
    places-moved : (e : Expr) → named_places commalist (moved_expr f e) ≡ map f (named_places commalist e)
    places-moved (constant place kind v) = refl
    places-moved (attribute place i) = listed-moved f commalist (among commalist i) place
    places-moved (one op place e) = places-moved e
    places-moved (pair op place l r) = (λ i. places-moved l i ++ places-moved r i) ∙ sym (map-append f (named_places commalist l) (named_places commalist r))
    places-moved (and_expr place l r) = (λ i. places-moved l i ++ places-moved r i) ∙ sym (map-append f (named_places commalist l) (named_places commalist r))
    places-moved (or_expr place l r) = (λ i. places-moved l i ++ places-moved r i) ∙ sym (map-append f (named_places commalist l) (named_places commalist r))

    none-stays : (code : _) (ps : List Place) → Follows (λ u. u) (refused_if code (first_place ps)) (refused_if code (first_place (map f ps)))
    none-stays code [] u e = e
    none-stays code (p ∷ ps) u e = absurd cc

    -- ---- sweepable expressions

    pub swept-follows : (e : Expr) → Follows (λ u. u) (swept commalist e) (swept commalist (moved_expr f e))
    swept-follows e u h = ap (λ (ps : List Place). refused_if E18 (first_place ps)) (unswept-moved f commalist e) ∙ none-stays E18 (unswept commalist e) u h

    pub sets-swept-follow : (sets : PlainSets) → Follows (λ u. u) (sets_swept commalist sets) (sets_swept commalist (moved_sets f sets))
    sets-swept-follow [] u e = e
    sets-swept-follow (s ∷ sets) u e =
        then-follows (λ v. v) (λ v. v) (swept commalist s.1) (swept commalist (moved_expr f s.1)) _ _ (swept-follows s.1) (λ _. sets-swept-follow sets) u e

    names-no-follows : (e : Expr) → Follows (λ u. u) (names_no commalist e) (names_no commalist (moved_expr f e))
    names-no-follows e u h = ap (λ (ps : List Place). refused_if E18 (first_place ps)) (places-moved e) ∙ none-stays E18 (named_places commalist e) u h

    form-no-follows : (form : PlainAggregateForm) → Follows (λ u. u) (form_names_no commalist form) (form_names_no commalist (moved_aggregate_form f form))
    form-no-follows count_rows u h = h
    form-no-follows (sum_of e) u h = names-no-follows e u h
    form-no-follows (min_of e) u h = names-no-follows e u h
    form-no-follows (max_of e) u h = names-no-follows e u h

    pub aggregates-name-no-follow : (aggregates : List PlainAggregate) → Follows (λ u. u) (aggregates_name_no commalist aggregates) (aggregates_name_no commalist (map (moved_aggregate f) aggregates))
    aggregates-name-no-follow [] u e = e
    aggregates-name-no-follow (g ∷ aggregates) u e =
        then-follows (λ v. v) (λ v. v) (form_names_no commalist g.form) (form_names_no commalist (moved_aggregate_form f g.form)) _ _ (form-no-follows g.form)
        (λ _. aggregates-name-no-follow aggregates) u e

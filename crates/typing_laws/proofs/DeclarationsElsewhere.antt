-- What the texts of ordinal types and histories say at other places, beside more ordinal types.
--     few-values-follows      the values of an ordinal type
--     facts-follow, ends-follow      the facts of a history with their key, and the attributes beside them
use Rattle.std.proofs.Common.{◌-◌, not, List, [], ◌∷◌, ◌++◌, map, length}
use Rattle.std.specs.Prelude.{nat_le}
use Rattle.std.specs.Str.{bytes_eq}
use Rattle.point_core.specs.declared.fault.Code.TheVariants.{E15, E17, E22}
use Rattle.point_core.specs.declared.fault.Place.{Place}
use Rattle.utd_syntax.specs.Plain as syntax
use Rattle.utd_syntax.specs.Plain.{Word, SomeNamesP, HeadingP, KeyP}
use Rattle.value_core.specs.declared.list.OrdinalNames.{OrdinalNames}
use Rattle.value_core.specs.Limits.{most_attributes, most_ordinal_values}
use Rattle.value_core.specs.Values.{Name, Heading}
use Rattle.relation_typing.specs.Attributes as attributes
use Rattle.relation_typing.specs.Attributes.{name_typed}
use Rattle.relation_typing.specs.Headings.{heading_typed}
use Rattle.node_typing.specs.Lists.{named_in}
use Rattle.node_typing.specs.Positions.{check}
use Rattle.declaration_typing.specs.Constraints.{names_typed}
use Rattle.declaration_typing.specs.Histories.{facts_typed, attributes_named}
use Rattle.declaration_typing.specs.Ordinals.{with_value, values_typed, few_values}
use Rattle.place_laws.specs.Moved.{moved_word, moved_some_names, moved_heading, moved_names, moved_key}
use Rattle.row_typing_laws.specs.Followings.{Follows}
use Rattle.row_typing_laws.proofs.ElsewhereHeadings.{heading-follows}
use Rattle.row_typing_laws.proofs.ElsewhereNames.{word-follows, new-word-follows}
use Rattle.row_typing_laws.proofs.Parts.{then-follows}
use Rattle.typing_laws.proofs.PositionsElsewhere.{check-follows, names-follows}

module _ (f : Place → Place) where
  value-follows : (before : List Name) (w : Word) → Follows (λ n. n) (with_value before w) (with_value before (moved_word f w))
  value-follows before w =
      then-follows (λ n. n) (λ n. n) (name_typed w) (name_typed (moved_word f w)) _ _ (word-follows f w) (λ name.
      then-follows (λ u. u) (λ n. n) (check w.place E15 (not (named_in before name))) (check (f w.place) E15 (not (named_in before name))) _ _
      (check-follows f w.place E15 (not (named_in before name))) (λ _ n e. e))

  values-follow : (before : List Name) (words : List Word) → Follows (λ n. n) (values_typed before words) (values_typed before (map (moved_word f) words))
  values-follow before [] n e = e
  values-follow before (w ∷ words) n e =
      then-follows (λ b. b) (λ b. b) (with_value before w) (with_value before (moved_word f w)) _ _ (value-follows before w) (λ next. values-follow next words) n e

  pub few-values-follows : (list : SomeNamesP) → Follows (λ n. n) (few_values list) (few_values (moved_some_names f list))
  few-values-follows (syntax.SomeNames at first more) =
      then-follows (λ n. n) (λ n. n) (values_typed [] (first ∷ more)) (values_typed [] (moved_word f first ∷ map (moved_word f) more)) _ _ (values-follow [] (first ∷ more)) (λ values.
      then-follows (λ u. u) (λ n. n) (check at E22 (nat_le (length values) most_ordinal_values)) (check (f at) E22 (nat_le (length values) most_ordinal_values)) _ _
      (check-follows f at E22 (nat_le (length values) most_ordinal_values)) (λ _ n e. e))

  pub ends-follow : (heading : Heading) (p i : Word) → Follows (λ n. n) (attributes_named heading p i) (attributes_named heading (moved_word f p) (moved_word f i))
  ends-follow heading p i =
      then-follows (λ n. n) (λ n. n) (attributes.new_name heading p) (attributes.new_name heading (moved_word f p)) _ _ (new-word-follows f heading p) (λ point.
      then-follows (λ n. n) (λ n. n) (attributes.new_name heading i) (attributes.new_name heading (moved_word f i)) _ _ (new-word-follows f heading i) (λ span.
      then-follows (λ u. u) (λ n. n) (check i.place E15 (not (bytes_eq point span))) (check (f i.place) E15 (not (bytes_eq point span))) _ _
      (check-follows f i.place E15 (not (bytes_eq point span))) (λ _ n e. e)))

  pub facts-follow : (types more : List OrdinalNames) (h : HeadingP) (key : KeyP) → Follows (λ x. x) (facts_typed types h key) (facts_typed (types ++ more) (moved_heading f h) (moved_key f key))
  facts-follow types more (syntax.Heading at list) (syntax.Key there names) =
      let h = syntax.Heading at list in
      then-follows (λ g. g) (λ x. x) (heading_typed types h) (heading_typed (types ++ more) (moved_heading f h)) _ _ (heading-follows f types more h) (λ heading.
      then-follows (λ u. u) (λ x. x) (check at E17 (nat_le (length heading) (most_attributes - 2))) (check (f at) E17 (nat_le (length heading) (most_attributes - 2))) _ _
      (check-follows f at E17 (nat_le (length heading) (most_attributes - 2))) (λ _.
      then-follows (λ n. n) (λ x. x) (names_typed heading names) (names_typed heading (moved_names f names)) _ _ (names-follows f heading names) (λ _ x e. e)))

-- Items, tuples and literals that stand elsewhere, beside more ordinal types: what is typed is typed there, but for places.
--     item-follows, elements-follow, made-follows, tuple-follows, tuples-follow, literal-follows      the typing follows
--     sets-append      the items of two lists, moved
use Rattle.std.proofs.Common.{◌≡◌, List, [], ◌∷◌, ◌++◌, map, Ok, refl, sym, ap, ◌∙◌}
use Rattle.std.proofs.lemmas.List.{map-append}
use Rattle.point_core.specs.declared.fault.Code.TheVariants.{E13}
use Rattle.point_core.specs.declared.fault.Place.{Place}
use Rattle.utd_syntax.specs.Plain as syntax
use Rattle.utd_syntax.specs.Plain.{Word, ScalarP, ElementP, ElementsP, TupleP, HeadingP, LiteralP}
use Rattle.value_core.specs.declared.list.OrdinalNames.{OrdinalNames}
use Rattle.value_core.specs.Values.{Name, Heading}
use Rattle.scalar_core.specs.Expressions.{Expr}
use Rattle.scalar_typing.specs.Scalars.{typed_scalar}
use Rattle.scalar_typing.specs.Typings.{Typed, ◌>>=◌}
use Rattle.tree_core.specs.Trees.{PlainSets, literal}
use Rattle.relation_typing.specs.Attributes.{with_attribute, new_name, few_attributes}
use Rattle.relation_typing.specs.Headings.{heading_typed, same_heading}
use Rattle.relation_typing.specs.Items.{Made, none_made, item_typed, elements_typed}
use Rattle.relation_typing.specs.Literals.{elements_made, tuple_typed, under_heading, next_tuple, tuples_typed, headed_typed, first_typed, literal_typed}
use Rattle.place_laws.specs.Moved.{moved_word, moved_scalar, moved_element, moved_elements, moved_tuple, moved_heading, moved_literal}
use Rattle.meaning_laws.specs.Moved.{moved_expr, moved_sets, moved_tree}
use Rattle.row_typing_laws.specs.Followings.{Follows, moved_typed, moved_made}
use Rattle.row_typing_laws.proofs.Parts.{given-follows, then-follows, if-follows}
use Rattle.row_typing_laws.proofs.ElsewhereNames.{new-word-follows}
use Rattle.row_typing_laws.proofs.ElsewhereScalars.{scalar-follows}
use Rattle.row_typing_laws.proofs.ElsewhereHeadings.{few-elsewhere, heading-follows}

module _ (f : Place → Place) where
  -- one item more
  pub sets-append : (before : PlainSets) (name : Name) (e : Expr) → moved_sets f (before ++ (name, e) ∷ []) ≡ moved_sets f before ++ (name, moved_expr f e) ∷ []
  sets-append [] name e = refl
  sets-append (s ∷ before) name e = ap (λ (l : PlainSets). (s.0, moved_expr f s.1) ∷ l) (sets-append before name e)

  item-given : (before : Made) (name : Name) (e : Typed) → Follows (moved_made f) (Ok (before.0 ++ (name, e.0) ∷ [], with_attribute before.1 name e.1))
      (Ok (moved_sets f before.0 ++ (name, moved_expr f e.0) ∷ [], with_attribute before.1 name e.1))
  item-given before name e d h =
      ap (λ (sets : PlainSets). Ok (sets, with_attribute before.1 name e.1)) (sym (sets-append before.0 name e.0))
      ∙ given-follows (moved_made f) (before.0 ++ (name, e.0) ∷ [], with_attribute before.1 name e.1) d h

  -- the moved sets of tuples, one more
  tuples-append : (before : List PlainSets) (sets : PlainSets) → map (moved_sets f) before ++ moved_sets f sets ∷ [] ≡ map (moved_sets f) (before ++ sets ∷ [])
  tuples-append before sets = sym (map-append (moved_sets f) before (sets ∷ []))

  under-follows : (at : Place) (heading : Heading) (made : Made) → Follows (moved_sets f) (under_heading at heading made) (under_heading (f at) heading (moved_made f made))
  under-follows at heading made = if-follows (moved_sets f) at (f at) E13 (same_heading made.1 heading) made.0

module _ (f : Place → Place) (types more : List OrdinalNames) where
  -- ---- items

  pub item-follows : (from : Heading) (before : Made) (w : Word) (s : ScalarP)
      → Follows (moved_made f) (item_typed types from before w s) (item_typed (types ++ more) from (moved_made f before) (moved_word f w) (moved_scalar f s))
  item-follows from before w s =
      then-follows (λ n. n) (moved_made f) (new_name before.1 w) (new_name before.1 (moved_word f w))
      (λ name. typed_scalar types from s >>= (λ e. Ok (before.0 ++ (name, e.0) ∷ [], with_attribute before.1 name e.1)))
      (λ name. typed_scalar (types ++ more) from (moved_scalar f s) >>= (λ e. Ok (moved_sets f before.0 ++ (name, e.0) ∷ [], with_attribute before.1 name e.1)))
      (new-word-follows f before.1 w)
      (λ name. then-follows (moved_typed f) (moved_made f) (typed_scalar types from s) _ _ _ (scalar-follows f types more from s) (λ e. item-given f before name e))

  pub elements-follow : (from : Heading) (before : Made) (list : List ElementP)
      → Follows (moved_made f) (elements_typed types from before list) (elements_typed (types ++ more) from (moved_made f before) (map (moved_element f) list))
  elements-follow from before [] = given-follows (moved_made f) before
  elements-follow from before (syntax.Element w s ∷ rest) =
      then-follows (moved_made f) (moved_made f) (item_typed types from before w s) _ (λ next. elements_typed types from next rest)
      (λ next. elements_typed (types ++ more) from next (map (moved_element f) rest)) (item-follows from before w s) (λ next. elements-follow from next rest)

  -- ---- tuples

  few-given : (at : Place) (made : Made)
      → Follows (moved_made f) (few_attributes at made.1 >>= (λ heading. Ok (made.0, heading))) (few_attributes (f at) made.1 >>= (λ heading. Ok (moved_sets f made.0, heading)))
  few-given at made =
      then-follows (λ g. g) (moved_made f) (few_attributes at made.1) (few_attributes (f at) made.1) _ _ (few-elsewhere at (f at) made.1) (λ heading. given-follows (moved_made f) (made.0, heading))

  pub made-follows : (elements : ElementsP) → Follows (moved_made f) (elements_made types elements) (elements_made (types ++ more) (moved_elements f elements))
  made-follows (syntax.Elements at list) =
      then-follows (moved_made f) (moved_made f) (elements_typed types [] none_made list) _ _ (λ made. few_attributes (f at) made.1 >>= (λ heading. Ok (made.0, heading)))
      (elements-follow [] none_made list) (few-given at)

  pub tuple-follows : (t : TupleP) → Follows (moved_made f) (tuple_typed types t) (tuple_typed (types ++ more) (moved_tuple f t))
  tuple-follows (syntax.Tuple at elements) = made-follows elements

  next-follows : (heading : Heading) (t : TupleP) → Follows (moved_sets f) (next_tuple types heading t) (next_tuple (types ++ more) heading (moved_tuple f t))
  next-follows heading (syntax.Tuple at elements) =
      then-follows (moved_made f) (moved_sets f) (elements_made types elements) _ (under_heading at heading) (under_heading (f at) heading) (made-follows elements) (under-follows f at heading)

  pub tuples-follow : (heading : Heading) (before : List PlainSets) (list : List TupleP)
      → Follows (map (moved_sets f)) (tuples_typed types heading before list) (tuples_typed (types ++ more) heading (map (moved_sets f) before) (map (moved_tuple f) list))
  tuples-follow heading before [] = given-follows (map (moved_sets f)) before
  tuples-follow heading before (t ∷ rest) =
      then-follows (moved_sets f) (map (moved_sets f)) (next_tuple types heading t) _ (λ sets. tuples_typed types heading (before ++ sets ∷ []) rest)
      (λ sets. tuples_typed (types ++ more) heading (map (moved_sets f) before ++ sets ∷ []) (map (moved_tuple f) rest)) (next-follows heading t)
      (λ sets d h. ap (λ (l : List PlainSets). tuples_typed (types ++ more) heading l (map (moved_tuple f) rest)) (tuples-append f before sets) ∙ tuples-follow heading (before ++ sets ∷ []) rest d h)

  -- ---- literals

  headed-follows : (at : Place) (x : HeadingP) (list : List TupleP)
      → Follows (moved_tree f) (headed_typed types at x list) (headed_typed (types ++ more) (f at) (moved_heading f x) (map (moved_tuple f) list))
  headed-follows at x list =
      then-follows (λ g. g) (moved_tree f) (heading_typed types x) (heading_typed (types ++ more) (moved_heading f x)) _ _ (heading-follows f types more x)
      (λ heading. then-follows (map (moved_sets f)) (moved_tree f) (tuples_typed types heading [] list) _ (λ l. Ok (literal at heading l)) (λ l. Ok (literal (f at) heading l))
      (tuples-follow heading [] list) (λ l. given-follows (moved_tree f) (literal at heading l)))

  first-follows : (at : Place) (t : TupleP) (list : List TupleP)
      → Follows (moved_tree f) (first_typed types at t list) (first_typed (types ++ more) (f at) (moved_tuple f t) (map (moved_tuple f) list))
  first-follows at t list =
      then-follows (moved_made f) (moved_tree f) (tuple_typed types t) (tuple_typed (types ++ more) (moved_tuple f t)) _
      (λ made. tuples_typed (types ++ more) made.1 (made.0 ∷ []) (map (moved_tuple f) list) >>= (λ l. Ok (literal (f at) made.1 l))) (tuple-follows t)
      (λ made. then-follows (map (moved_sets f)) (moved_tree f) (tuples_typed types made.1 (made.0 ∷ []) list) _ (λ l. Ok (literal at made.1 l)) (λ l. Ok (literal (f at) made.1 l))
      (tuples-follow made.1 (made.0 ∷ []) list) (λ l. given-follows (moved_tree f) (literal at made.1 l)))

  pub literal-follows : (x : LiteralP) → Follows (moved_tree f) (literal_typed types x) (literal_typed (types ++ more) (moved_literal f x))
  literal-follows (syntax.Headed at h list) = headed-follows at h list
  literal-follows (syntax.Tuples at first list) = first-follows at first list

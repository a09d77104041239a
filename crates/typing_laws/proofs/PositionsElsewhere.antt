-- Names of attributes at other places: they stand for the same positions.
--     check-follows, value-follows-same      a check, and a value that is looked up
--     position-follows, new-position-follows, positions-follows, names-follows      positions that names stand for
--     list-follows      lists of interval attributes
use Rattle.std.proofs.Common.{ℕ, Bool, List, [], ◌∷◌, ◌++◌, map, length, Option, Some, None}
use Rattle.std.specs.Prelude.{nat_le, not, ◌&&◌}
use Rattle.point_core.specs.declared.fault.Code.{Code}
use Rattle.point_core.specs.declared.fault.Code.TheVariants.{E12, E14, E15, E16, E17}
use Rattle.point_core.specs.declared.fault.Place.{Place}
use Rattle.utd_syntax.specs.Plain as syntax
use Rattle.utd_syntax.specs.Plain.{Word, NamesP, NameListP}
use Rattle.value_core.specs.Attributes.{among}
use Rattle.value_core.specs.Headings.{has_name}
use Rattle.value_core.specs.Limits.{most_listed}
use Rattle.value_core.specs.Values.{Name, Heading}
use Rattle.scalar_core.specs.KindOf.{same_kind}
use Rattle.scalar_typing.specs.Typings.{value_or}
use Rattle.meaning_core.specs.Typing.{is_span}
use Rattle.node_typing.specs.Lists.{named_in, kind_named, name_checked, names_checked, list_checked}
use Rattle.node_typing.specs.Positions.{check, position_if, position_typed, new_position, positions_typed}
use Rattle.declaration_typing.specs.Constraints.{names_typed}
use Rattle.place_laws.specs.Moved.{moved_word, moved_names, moved_name_list}
use Rattle.row_typing_laws.specs.Followings.{Follows}
use Rattle.row_typing_laws.proofs.Parts.{then-follows, check-again}

pub value-follows-same : {A : Type 0} → (p q : Place) (c : Code) (o : Option A) → Follows (λ x. x) (value_or p c o) (value_or q c o)
value-follows-same p q c None a h = absurd cc
value-follows-same p q c (Some x) a h = h

module _ (f : Place → Place) where
  pub check-follows : (p : Place) (c : Code) (b : Bool) → Follows (λ u. u) (check p c b) (check (f p) c b)
  check-follows p c b u h = check-again p (f p) c b tt u h

  -- ---- positions

  pub position-follows : (h : Heading) (w : Word) → Follows (λ i. i) (position_typed h w) (position_typed h (moved_word f w))
  position-follows h w = value-follows-same w.place (f w.place) E14 (position_if h w.bytes)

  pub new-position-follows : (h : Heading) (before : List ℕ) (w : Word) → Follows (λ i. i) (new_position h before w) (new_position h before (moved_word f w))
  new-position-follows h before w =
      then-follows (λ i. i) (λ i. i) (position_typed h w) (position_typed h (moved_word f w)) _ _ (position-follows h w) (λ at.
      then-follows (λ u. u) (λ i. i) (check w.place E15 (not (among before at))) (check (f w.place) E15 (not (among before at))) _ _ (check-follows w.place E15 (not (among before at))) (λ _ i e. e))

  pub positions-follows : (h : Heading) (before : List ℕ) (words : List Word) → Follows (λ i. i) (positions_typed h before words) (positions_typed h before (map (moved_word f) words))
  positions-follows h before [] i e = e
  positions-follows h before (w ∷ words) i e =
      then-follows (λ j. j) (λ j. j) (new_position h before w) (new_position h before (moved_word f w)) _ _ (new-position-follows h before w) (λ at. positions-follows h (before ++ at ∷ []) words) i e

  pub names-follows : (h : Heading) (names : NamesP) → Follows (λ i. i) (names_typed h names) (names_typed h (moved_names f names))
  names-follows h (syntax.Names at words) = positions-follows h [] words

  -- ---- lists of interval attributes

  name-follows : (left right : Heading) (before : List Name) (w : Word) → Follows (λ u. u) (name_checked left right before w) (name_checked left right before (moved_word f w))
  name-follows left right before w =
      then-follows (λ u. u) (λ u. u) (check w.place E14 (has_name left w.bytes && has_name right w.bytes)) (check (f w.place) E14 (has_name left w.bytes && has_name right w.bytes)) _ _
      (check-follows w.place E14 (has_name left w.bytes && has_name right w.bytes)) (λ _.
      then-follows (λ u. u) (λ u. u) (check w.place E15 (not (named_in before w.bytes))) (check (f w.place) E15 (not (named_in before w.bytes))) _ _
      (check-follows w.place E15 (not (named_in before w.bytes))) (λ _.
      then-follows (λ u. u) (λ u. u) (check w.place E16 (is_span (kind_named left w.bytes))) (check (f w.place) E16 (is_span (kind_named left w.bytes))) _ _
      (check-follows w.place E16 (is_span (kind_named left w.bytes))) (λ _.
      check-follows w.place E12 (same_kind (kind_named left w.bytes) (kind_named right w.bytes)))))

  listed-follows : (left right : Heading) (before : List Name) (words : List Word)
      → Follows (λ n. n) (names_checked left right before words) (names_checked left right before (map (moved_word f) words))
  listed-follows left right before [] n e = e
  listed-follows left right before (w ∷ words) n e =
      then-follows (λ u. u) (λ n. n) (name_checked left right before w) (name_checked left right before (moved_word f w)) _ _ (name-follows left right before w)
      (λ _. listed-follows left right (before ++ w.bytes ∷ []) words) n e

  pub list-follows : (left right : Heading) (list : NameListP) → Follows (λ n. n) (list_checked left right list) (list_checked left right (moved_name_list f list))
  list-follows left right (syntax.NameList at words) =
      then-follows (λ n. n) (λ n. n) (names_checked left right [] words) (names_checked left right [] (map (moved_word f) words)) _ _ (listed-follows left right [] words) (λ names.
      then-follows (λ u. u) (λ n. n) (check at E17 (nat_le (length names) most_listed)) (check (f at) E17 (nat_le (length names) most_listed)) _ _
      (check-follows at E17 (nat_le (length names) most_listed)) (λ _ n e. e))

-- Names beside more ordinal types: they stand for the same.
--     first-more      the first that passes, with more behind
--     ordinal-follows, point-follows, value-name-follows, extreme-follows      names of point types and of their values
--     attribute-follows      names of attributes in an expression
--     word-follows, new-word-follows      names that are declared: any, and one that is to be new
use Rattle.std.proofs.Common.{◌≡◌, ◌+◌, ℕ, Bool, true, false, List, [], ◌∷◌, ◌++◌, Option, Some, None, Ok, ap, ◌∙◌, sym, pos}
use Rattle.std.specs.Prelude.{if◌then◌else◌}
use Rattle.std.specs.Str.{bytes_eq}
use Rattle.point_core.specs.declared.any_type.AnyType.{AnyType}
use Rattle.point_core.specs.declared.fault.Code.TheVariants.{E06, E10, E14, E15}
use Rattle.point_core.specs.declared.fault.Place.{Place}
use Rattle.utd_syntax.specs.declared.words.ExtremeWord.{ExtremeWord}
use Rattle.utd_syntax.specs.Plain as syntax
use Rattle.utd_syntax.specs.Plain.{Word, PointP}
use Rattle.value_core.specs.declared.kind.Kind.{Kind}
use Rattle.value_core.specs.declared.list.OrdinalNames.{OrdinalNames}
use Rattle.value_core.specs.Headings.{has_name}
use Rattle.value_core.specs.Values.{Name, Heading}
use Rattle.scalar_core.specs.Expressions.{attribute}
use Rattle.scalar_typing.specs.Typings.{◌>>=◌, value_or}
use Rattle.scalar_typing.specs.Literals.{point_constant, extreme_constant}
use Rattle.scalar_typing.specs.Names.{first_from, attribute_of, attribute_typed, ordinal_of, value_of, ordinal_type, point_type, ordinal_value, extreme_typed}
use Rattle.relation_typing.specs.Attributes.{is_name, name_typed, new_name}
use Rattle.place_laws.specs.Moved.{moved_word, moved_point}
use Rattle.row_typing_laws.specs.Followings.{Follows, moved_typed}
use Rattle.row_typing_laws.proofs.Parts.{given-follows, then-follows, check-again, unless-again, value-given, value-again}
use Rattle.row_typing_laws.proofs.ElsewhereOperators.{extreme-moved}

-- what stands behind the first that passes does not matter
pub first-more : {X : Type 0} → (p : X → Bool) (n : ℕ) (xs ys : List X) (found : ℕ × X) → first_from p n xs ≡ Some found → first_from p n (xs ++ ys) ≡ Some found
first-more p n [] ys found h = absurd cc
first-more p n (x ∷ xs) ys found h = by-test (p x) (first-more p (n + 1) xs ys found) h
  where
    by-test : (b : Bool) → (first_from p (n + 1) xs ≡ Some found → first_from p (n + 1) (xs ++ ys) ≡ Some found)
        → (if b then Some (n, x) else first_from p (n + 1) xs) ≡ Some found → (if b then Some (n, x) else first_from p (n + 1) (xs ++ ys)) ≡ Some found
    by-test true rest h = h
    by-test false rest h = rest h

module _ (f : Place → Place) (types more : List OrdinalNames) where
  -- ---- ordinal types

  pub ordinal-follows : (at : Place) (name : Name) → Follows (λ found. found) (value_or at E10 (ordinal_of types name)) (value_or (f at) E10 (ordinal_of (types ++ more) name))
  ordinal-follows at name found h =
      value-again (f at) E10 _ found (first-more (λ (o : OrdinalNames). bytes_eq o.name name) 0 types more found (value-given at E10 (ordinal_of types name) found h))

  pub point-follows : (p : PointP) → Follows (λ t. t) (point_type types p) (point_type (types ++ more) (moved_point f p))
  point-follows (syntax.IntegerType at) t h = h
  point-follows (syntax.DateType at) t h = h
  point-follows (syntax.MomentType at) t h = h
  point-follows (syntax.NamedType w) t h =
      then-follows (λ found. found) (λ u. u) (value_or w.place E10 (ordinal_of types w.bytes)) _ (λ found. Ok (ordinal_type found)) (λ found. Ok (ordinal_type found))
      (ordinal-follows w.place w.bytes) (λ found. given-follows (λ u. u) (ordinal_type found)) t h

  value-found : (at there : Place) (t : AnyType) (o : Option ℕ)
      → Follows (moved_typed f) (value_or there E10 o >>= (λ number. Ok (point_constant at t (pos number)))) (value_or (f there) E10 o >>= (λ number. Ok (point_constant (f at) t (pos number))))
  value-found at there t None d h = absurd cc
  value-found at there t (Some n) d h = given-follows (moved_typed f) (point_constant at t (pos n)) d h

  pub value-name-follows : (n v : Word) → Follows (moved_typed f) (ordinal_value types n v) (ordinal_value (types ++ more) (moved_word f n) (moved_word f v))
  value-name-follows n v =
      then-follows (λ found. found) (moved_typed f) (value_or n.place E10 (ordinal_of types n.bytes)) _ _ _ (ordinal-follows n.place n.bytes)
      (λ found. value-found n.place v.place (ordinal_type found) (value_of found.1.values v.bytes))

  pub extreme-follows : (at : Place) (w : ExtremeWord) (p : PointP) → Follows (moved_typed f) (extreme_typed types at w p) (extreme_typed (types ++ more) (f at) w (moved_point f p))
  extreme-follows at w p =
      then-follows (λ t. t) (moved_typed f) (point_type types p) _ _ _ (point-follows p)
      (λ t d h. ap Ok (sym (extreme-moved f at w t)) ∙ given-follows (moved_typed f) (extreme_constant at w t) d h)

  -- ---- attributes

  attribute-found : (at : Place) (o : Option (ℕ × Kind))
      → Follows (moved_typed f) (value_or at E14 o >>= (λ found. Ok (attribute at found.0, found.1))) (value_or (f at) E14 o >>= (λ found. Ok (attribute (f at) found.0, found.1)))
  attribute-found at None d h = absurd cc
  attribute-found at (Some found) d h = given-follows (moved_typed f) (attribute at found.0, found.1) d h

  pub attribute-follows : (heading : Heading) (w : Word) → Follows (moved_typed f) (attribute_typed heading w) (attribute_typed heading (moved_word f w))
  attribute-follows heading w = attribute-found w.place (attribute_of heading w.bytes)

-- ---- names that are declared

module _ (f : Place → Place) where
  pub word-follows : (w : Word) → Follows (λ n. n) (name_typed w) (name_typed (moved_word f w))
  word-follows w n h = check-again w.place (f w.place) E06 (is_name w.bytes) w.bytes n h

  pub new-word-follows : (attributes : Heading) (w : Word) → Follows (λ n. n) (new_name attributes w) (new_name attributes (moved_word f w))
  new-word-follows attributes w =
      then-follows (λ n. n) (λ n. n) (name_typed w) _ _ _ (word-follows w) (λ name n h. unless-again w.place (f w.place) E15 (has_name attributes name) name n h)

-- Operators and constants whose places are moved: where the parts have an operator, the moved parts have the same.
--     one-follows, pair-follows, and-follows, or-follows      an operator on moved parts
--     integer-follows, text-follows, date-follows, moment-follows, extreme-moved      literals that stand elsewhere
use Rattle.std.proofs.Common.{◌≡◌, ℕ, ℤ, Bool, true, false, List, Option, Some, None, Ok, refl}
use Rattle.std.specs.Prelude.{option_map}
use Rattle.point_core.specs.declared.any_type.AnyType.{AnyType}
use Rattle.point_core.specs.declared.any_type.AnyType.TheVariants.{Integer, Date, Moment}
use Rattle.point_core.specs.declared.fault.Code.TheVariants.{E06, E12}
use Rattle.point_core.specs.declared.fault.Place.{Place}
use Rattle.utd_syntax.specs.declared.words.ExtremeWord.{ExtremeWord}
use Rattle.utd_syntax.specs.declared.words.ExtremeWord.TheVariants.{First, Last}
use Rattle.value_core.specs.declared.kind.Kind.{Kind}
use Rattle.value_core.specs.declared.kind.Kind.TheVariants.{Truth, Char}
use Rattle.value_core.specs.Values.{text}
use Rattle.scalar_core.specs.Expressions.{Expr, constant, and_expr, or_expr}
use Rattle.scalar_typing.specs.Typings.{Typed, ◌>>=◌, value_or}
use Rattle.scalar_typing.specs.Literals.{text_of, date_of, moment_of, point_constant, integer_literal, text_literal, date_literal, moment_literal, extreme_constant}
use Rattle.scalar_typing.specs.Operators.{OneRule, PairRule, when, both_are, one_on, one_typed, pair_on, pair_typed, logic_typed}
use Rattle.meaning_laws.specs.Moved.{moved_expr}
use Rattle.row_typing_laws.specs.Followings.{Follows, moved_typed}
use Rattle.row_typing_laws.proofs.Parts.{given-follows}

module _ (f : Place → Place) where
  -- ---- operators

  one-found : (at : Place) (e : Expr) (o : OneRule) → Follows (moved_typed f) (value_or at E12 (option_map (one_on at e) o)) (value_or (f at) E12 (option_map (one_on (f at) (moved_expr f e)) o))
  one-found at e None d h = absurd cc
  one-found at e (Some found) d h = given-follows (moved_typed f) (one_on at e found) d h

  pub one-follows : (at : Place) (rule : Kind → OneRule) (part : Typed) → Follows (moved_typed f) (one_typed at rule part) (one_typed (f at) rule (moved_typed f part))
  one-follows at rule part = one-found at part.0 (rule part.1)

  pair-found : (at : Place) (l r : Expr) (o : PairRule)
      → Follows (moved_typed f) (value_or at E12 (option_map (pair_on at l r) o)) (value_or (f at) E12 (option_map (pair_on (f at) (moved_expr f l) (moved_expr f r)) o))
  pair-found at l r None d h = absurd cc
  pair-found at l r (Some found) d h = given-follows (moved_typed f) (pair_on at l r found) d h

  pub pair-follows : (at : Place) (rule : Kind → Kind → PairRule) (l r : Typed)
      → Follows (moved_typed f) (pair_typed at rule l r) (pair_typed (f at) rule (moved_typed f l) (moved_typed f r))
  pair-follows at rule l r = pair-found at l.0 r.0 (rule l.1 r.1)

  -- AND and OR
  logic-found : (at : Place) (holds : Bool) (e : Expr) → Follows (moved_typed f) (value_or at E12 (when holds e Truth)) (value_or (f at) E12 (when holds (moved_expr f e) Truth))
  logic-found at false e d h = absurd cc
  logic-found at true e d h = given-follows (moved_typed f) (e, Truth) d h

  pub and-follows : (at : Place) (l r : Typed) → Follows (moved_typed f) (logic_typed at and_expr l r) (logic_typed (f at) and_expr (moved_typed f l) (moved_typed f r))
  and-follows at l r = logic-found at (both_are Truth l.1 r.1) (and_expr at l.0 r.0)

  pub or-follows : (at : Place) (l r : Typed) → Follows (moved_typed f) (logic_typed at or_expr l r) (logic_typed (f at) or_expr (moved_typed f l) (moved_typed f r))
  or-follows at l r = logic-found at (both_are Truth l.1 r.1) (or_expr at l.0 r.0)

  -- ---- literals

  pub integer-follows : (at digits : Place) (n : Option ℤ) → Follows (moved_typed f) (integer_literal at digits n) (integer_literal (f at) (f digits) n)
  integer-follows at digits None d h = absurd cc
  integer-follows at digits (Some n) d h = given-follows (moved_typed f) (point_constant at Integer n) d h

  text-found : (at : Place) (o : Option (List ℕ))
      → Follows (moved_typed f) (value_or at E06 o >>= (λ written. Ok (constant at Char (text written), Char))) (value_or (f at) E06 o >>= (λ written. Ok (constant (f at) Char (text written), Char)))
  text-found at None d h = absurd cc
  text-found at (Some written) d h = given-follows (moved_typed f) (constant at Char (text written), Char) d h

  pub text-follows : (at : Place) (bytes : List ℕ) → Follows (moved_typed f) (text_literal at bytes) (text_literal (f at) bytes)
  text-follows at bytes = text-found at (text_of bytes)

  -- a date or a moment, which is refused at its text
  quoted-found : (at quoted : Place) (t : AnyType) (o : Option ℤ)
      → Follows (moved_typed f) (value_or quoted E06 o >>= (λ number. Ok (point_constant at t number))) (value_or (f quoted) E06 o >>= (λ number. Ok (point_constant (f at) t number)))
  quoted-found at quoted t None d h = absurd cc
  quoted-found at quoted t (Some n) d h = given-follows (moved_typed f) (point_constant at t n) d h

  pub date-follows : (at quoted : Place) (bytes : List ℕ) → Follows (moved_typed f) (date_literal at quoted bytes) (date_literal (f at) (f quoted) bytes)
  date-follows at quoted bytes = quoted-found at quoted Date (date_of bytes)

  pub moment-follows : (at quoted : Place) (bytes : List ℕ) → Follows (moved_typed f) (moment_literal at quoted bytes) (moment_literal (f at) (f quoted) bytes)
  moment-follows at quoted bytes = quoted-found at quoted Moment (moment_of bytes)

  pub extreme-moved : (at : Place) (w : ExtremeWord) (t : AnyType) → moved_typed f (extreme_constant at w t) ≡ extreme_constant (f at) w t
  extreme-moved at First t = refl
  extreme-moved at Last t = refl

-- The first place of two lists, and which expressions name a listed attribute.
use Rattle.std.specs.Prelude.{◌≡◌, ℕ, Bool, true, false, ◌||◌, cond, List, [], ◌∷◌, ◌++◌, Option, Some, None, is_some, refl}
use Rattle.std.proofs.Common.{sym, ◌∙◌, ap, ap₂}
use Rattle.point_core.specs.declared.fault.Place.{Place}
use Rattle.value_core.specs.Attributes.{among}
use Rattle.scalar_core.specs.Expressions.{Expr, constant, attribute, one, pair, and_expr, or_expr}
use Rattle.scalar_core.specs.Sweeping.{first_of, first_place, named_places, names_any}

pub first-append : (xs ys : List Place) → first_place (xs ++ ys) ≡ first_of (first_place xs) (first_place ys)
first-append [] ys = refl
first-append (x ∷ xs) ys = refl

some-first : (a b : Option Place) → is_some (first_of a b) ≡ (is_some a || is_some b)
some-first None b = refl
some-first (Some p) b = refl

some-place : (b : Bool) (place : Place) → b ≡ is_some (first_place (cond b (place ∷ []) []))
some-place true place = refl
some-place false place = refl

two : (commalist : List ℕ) (l r : Expr) → names_any commalist l ≡ is_some (first_place (named_places commalist l)) → names_any commalist r ≡ is_some (first_place (named_places commalist r))
    → (names_any commalist l || names_any commalist r) ≡ is_some (first_place (named_places commalist l ++ named_places commalist r))
two commalist l r h k =
    ap₂ (λ a b. a || b) h k ∙ (sym (some-first (first_place (named_places commalist l)) (first_place (named_places commalist r))) ∙ ap (λ o. is_some o) (sym (first-append (named_places commalist l) (named_places commalist r))))

pub named-any : (commalist : List ℕ) (e : Expr) → names_any commalist e ≡ is_some (first_place (named_places commalist e))
named-any commalist (constant place kind v) = refl
named-any commalist (attribute place i) = some-place (among commalist i) place
named-any commalist (one op place e) = named-any commalist e
named-any commalist (pair op place l r) = two commalist l r (named-any commalist l) (named-any commalist r)
named-any commalist (and_expr place l r) = two commalist l r (named-any commalist l) (named-any commalist r)
named-any commalist (or_expr place l r) = two commalist l r (named-any commalist l) (named-any commalist r)

-- What safe expressions and row filters are.
--     safe_value      a safe expression has a value on each row
--     typed_for_none      a closed expression is typed over the row of no values
--     row_filter_is      a row filter names no listed attribute, and is FALSE only where its condition is
--     row_filter_of_both_is      and that of two conditions only where both are
use Rattle.std.proofs.Common.{◌≡◌, ℕ, Bool, true, false, ◌&&◌, ◌||◌, cond, List, [], Ok, Err, Option, Some, None, refl, sym, ap, ap₂, ◌∙◌, subst}
use Rattle.std.specs.Prelude.{if◌then◌else◌}
use Rattle.std.specs.Bool.{IsTrue}
use Rattle.std.proofs.lemmas.Bool.{and_parts, true≢false}
use Rattle.base_core.specs.Outcomes.{then_give, both}
use Rattle.point_core.specs.declared.fault.Place.{Place}
use Rattle.value_core.specs.declared.kind.Kind.{Kind}
use Rattle.value_core.specs.declared.kind.Kind.TheVariants.{Truth}
use Rattle.value_core.specs.Values.{Value, Row, Heading, fits_heading}
use Rattle.scalar_core.specs.Expressions.{Expr, constant, attribute, one, pair, and_expr, or_expr}
use Rattle.scalar_core.specs.Kinds.{IsTyped, IsTypedOver}
use Rattle.scalar_core.specs.Operations.{Meant, is_true, one_of, pair_of}
use Rattle.scalar_core.specs.ScalarValues.{value}
use Rattle.scalar_core.specs.Sweeping.{names_any, is_comparison}
use Rattle.scalar_core.specs.declared.operators.OneOp.{OneOp}
use Rattle.scalar_core.specs.declared.operators.OneOp.TheVariants.{Not, BeginOf, EndOf}
use Rattle.scalar_core.specs.declared.operators.PairOp.{PairOp}
use Rattle.scalar_core.specs.declared.operators.PairOp.TheVariants.{Compare, Allen, Member}
use Rattle.meaning_core.specs.Meanings.{condition}
use Rattle.change_rows.specs.RowFilters.{IsTypedSomewhere, is_closed, has_value, is_valued, is_faultless, is_safe, if_unnamed, row_filter_of_and, row_filter, row_filter_of_both}

-- ---- closed expressions

-- they are typed for the heading of no attributes
pub closed_typed : (heading : Heading) (e : Expr) (kind : Kind) → is_closed e ≡ true → IsTyped heading e kind → IsTyped [] e kind
closed_typed heading (constant place k v) kind c t = t
closed_typed heading (attribute place i) kind c t = absurd (true≢false (sym c))
closed_typed heading (one op place e) kind c t = (t.0, closed_typed heading e t.0 c t.1, t.2)
closed_typed heading (pair op place l r) kind c t =
    let p = and_parts (is_closed l) (is_closed r) c in
    (t.0, t.1, closed_typed heading l t.0 p.0 t.2, closed_typed heading r t.1 p.1 t.3, t.4)
closed_typed heading (and_expr place l r) kind c t =
    let p = and_parts (is_closed l) (is_closed r) c in
    (closed_typed heading l Truth p.0 t.0, closed_typed heading r Truth p.1 t.1, t.2)
closed_typed heading (or_expr place l r) kind c t =
    let p = and_parts (is_closed l) (is_closed r) c in
    (closed_typed heading l Truth p.0 t.0, closed_typed heading r Truth p.1 t.1, t.2)

pub typed_for_none : (e : Expr) (row : Row) → is_closed e ≡ true → IsTypedSomewhere e → row ≡ [] → IsTypedOver row e
typed_for_none e row c t none = ([], t.1, subst (λ (r : Row). IsTrue (fits_heading [] r)) (sym none) refl, closed_typed t.0 e t.1 c t.2)

-- and give the same on each row
closed_value : (e : Expr) (x : Row) → is_closed e ≡ true → value e x ≡ value e []
closed_value (constant place k v) x c = refl
closed_value (attribute place i) x c = absurd (true≢false (sym c))
closed_value (one op place e) x c = ap (λ m. then_give m (one_of op place)) (closed_value e x c)
closed_value (pair op place l r) x c =
    let p = and_parts (is_closed l) (is_closed r) c in
    ap₂ (λ m n. both m n (pair_of op place)) (closed_value l x p.0) (closed_value r x p.1)
closed_value (and_expr place l r) x c =
    let p = and_parts (is_closed l) (is_closed r) c in
    ap₂ (λ m n. then_give m (λ a. if is_true a then n else Ok a)) (closed_value l x p.0) (closed_value r x p.1)
closed_value (or_expr place l r) x c =
    let p = and_parts (is_closed l) (is_closed r) c in
    ap₂ (λ m n. then_give m (λ a. if is_true a then Ok a else n)) (closed_value l x p.0) (closed_value r x p.1)

-- ---- safe expressions

abbrev HasValue : Meant → Type 0
HasValue m = (v : Value) × (m ≡ Ok v)

valued : (m : Meant) → has_value m ≡ true → HasValue m
valued (Ok v) h = (v, refl)
valued (Err e) h = absurd (true≢false (sym h))

valued_value : (e : Expr) (x : Row) → is_valued e ≡ true → HasValue (value e x)
valued_value e x h =
    let p = and_parts (is_closed e) (has_value (value e [])) h in
    let w = valued (value e []) p.1 in
    (w.0, closed_value e x p.0 ∙ w.1)

one_value : (op : OneOp) (place : Place) (v : Value) → is_faultless op ≡ true → HasValue (one_of op place v)
one_value Not place v h = (_, refl)
one_value BeginOf place v h = (_, refl)
one_value EndOf place v h = (_, refl)
one_value _ place v h = absurd (true≢false (sym h))

pair_value : (op : PairOp) (place : Place) (a b : Value) → is_comparison op ≡ true → HasValue (pair_of op place a b)
pair_value (Compare w) place a b h = (_, refl)
pair_value (Allen w t) place a b h = (_, refl)
pair_value (Member t) place a b h = (_, refl)
pair_value _ place a b h = absurd (true≢false (sym h))

then_value : (m : Meant) (f : Value → Meant) → HasValue m → ((v : Value) → HasValue (f v)) → HasValue (then_give m f)
then_value m f h g = let w = g h.0 in (w.0, ap (λ n. then_give n f) h.1 ∙ w.1)

if_value : (b : Bool) (m n : Meant) → HasValue m → HasValue n → HasValue (if b then m else n)
if_value true m n h k = h
if_value false m n h k = k

pub safe_value : (e : Expr) (x : Row) → is_safe e ≡ true → HasValue (value e x)
safe_value (constant place k v) x h = (v, refl)
safe_value (attribute place i) x h = (_, refl)
safe_value (one op place e) x h =
    elim (is_faultless op) as (λ b. is_faultless op ≡ b → cond b (is_safe e) (is_valued (one op place e)) ≡ true → HasValue (value (one op place e) x)) [
      | true ↦ λ is s. then_value (value e x) (one_of op place) (safe_value e x s) (λ v. one_value op place v is)
      | false ↦ λ is s. valued_value (one op place e) x s
    ] refl h
safe_value (pair op place l r) x h =
    elim (is_comparison op) as (λ b. is_comparison op ≡ b → cond b (is_safe l && is_safe r) (is_valued (pair op place l r)) ≡ true → HasValue (value (pair op place l r) x)) [
      | true ↦ λ is s.
          let p = and_parts (is_safe l) (is_safe r) s in
          then_value (value l x) (λ a. then_give (value r x) (pair_of op place a)) (safe_value l x p.0)
          (λ a. then_value (value r x) (pair_of op place a) (safe_value r x p.1) (λ b. pair_value op place a b is))
      | false ↦ λ is s. valued_value (pair op place l r) x s
    ] refl h
safe_value (and_expr place l r) x h =
    let p = and_parts (is_safe l) (is_safe r) h in
    then_value (value l x) (λ a. if is_true a then value r x else Ok a) (safe_value l x p.0) (λ a. if_value (is_true a) (value r x) (Ok a) (safe_value r x p.1) (a, refl))
safe_value (or_expr place l r) x h =
    let p = and_parts (is_safe l) (is_safe r) h in
    then_value (value l x) (λ a. if is_true a then Ok a else value r x) (safe_value l x p.0) (λ a. if_value (is_true a) (Ok a) (value r x) (a, refl) (safe_value r x p.1))

-- ---- AND and OR

-- the condition is FALSE
abbrev IsFalse : Meant → Type 0
IsFalse m = then_give m (λ v. Ok (is_true v)) ≡ Ok false

-- a value that is not TRUE
false_value : (m : Meant) → IsFalse m → (v : Value) × (m ≡ Ok v) × (is_true v ≡ false)
false_value (Ok v) h = (v, refl, cc)
false_value (Err e) h = absurd cc

value_false : (m : Meant) (v : Value) → m ≡ Ok v → is_true v ≡ false → IsFalse m
value_false m v e f = ap (λ n. then_give n (λ w. Ok (is_true w))) e ∙ ap (λ b. Ok b) f

-- FALSE on the left
pub left_false : (m n : Meant) → IsFalse m → IsFalse (then_give m (λ a. if is_true a then n else Ok a))
left_false m n h =
    let w = false_value m h in
    value_false (then_give m (λ a. if is_true a then n else Ok a)) w.0 (ap (λ k. then_give k (λ a. if is_true a then n else Ok a)) w.1 ∙ ap (λ b. if b then n else Ok w.0) w.2) w.2

-- FALSE on the right, with a value on the left
pub right_false : (m n : Meant) → HasValue m → IsFalse n → IsFalse (then_give m (λ a. if is_true a then n else Ok a))
right_false m n v h =
    elim (is_true v.0) as (λ b. is_true v.0 ≡ b → IsFalse (then_give m (λ a. if is_true a then n else Ok a))) [
      | true ↦ λ e.
          let is : then_give m (λ a. if is_true a then n else Ok a) ≡ n = ap (λ k. then_give k (λ a. if is_true a then n else Ok a)) v.1 ∙ ap (λ b. if b then n else Ok v.0) e in
          subst IsFalse (sym is) h
      | false ↦ λ e. left_false m n (value_false m v.0 v.1 e)
    ] refl

-- FALSE on both sides
pub both_false : (m n : Meant) → IsFalse m → IsFalse n → IsFalse (then_give m (λ a. if is_true a then Ok a else n))
both_false m n h k =
    let w = false_value m h in
    let is : then_give m (λ a. if is_true a then Ok a else n) ≡ n = ap (λ j. then_give j (λ a. if is_true a then Ok a else n)) w.1 ∙ ap (λ b. if b then Ok w.0 else n) w.2 in
    subst IsFalse (sym is) k

-- where AND is FALSE, the left part is, or it has a value and the right part is
and_false : (m n : Meant) → IsFalse (then_give m (λ a. if is_true a then n else Ok a)) → (P : Type 0) → (IsFalse m → P) → (IsFalse n → P) → P
and_false (Err e) n h P f g = absurd cc
and_false (Ok a) n h P f g =
    elim (is_true a) as (λ b. is_true a ≡ b → IsFalse (if b then n else Ok a) → P) [
      | true ↦ λ e k. g k
      | false ↦ λ e k. f (value_false (Ok a) a refl e)
    ] refl h

-- where OR is FALSE both parts are
or_false : (m n : Meant) → IsFalse (then_give m (λ a. if is_true a then Ok a else n)) → IsFalse m × IsFalse n
or_false (Err e) n h = absurd cc
or_false (Ok a) n h =
    elim (is_true a) as (λ b. is_true a ≡ b → IsFalse (if b then Ok a else n) → IsFalse (Ok a) × IsFalse n) [
      | true ↦ λ e k. let w = false_value (Ok a) k in absurd cc
      | false ↦ λ e k. (value_false (Ok a) a refl e, k)
    ] refl h

-- ---- row filters

-- it names no listed attribute; it is FALSE only where the condition is; it is a condition for each heading for which the other is one
pub record IsRowFilter (commalist : List ℕ) (c g : Expr) : Type 0 where
  pub unnamed : names_any commalist g ≡ false
  pub tells : (x : Row) → condition g x ≡ Ok false → condition c x ≡ Ok false
  pub typed : (heading : Heading) → IsTyped heading c Truth → IsTyped heading g Truth

abbrev pub AllRowFilter : List ℕ → Expr → Option Expr → Type 0
AllRowFilter commalist c None = Unit {0}
AllRowFilter commalist c (Some g) = IsRowFilter commalist c g

itself_or : (commalist : List ℕ) (c : Expr) (otherwise : Option Expr) → AllRowFilter commalist c otherwise → AllRowFilter commalist c (if_unnamed commalist c otherwise)
itself_or commalist c otherwise h =
    elim (names_any commalist c) as (λ b. names_any commalist c ≡ b → AllRowFilter commalist c (cond b otherwise (Some c))) [
      | true ↦ λ e. h
      | false ↦ λ e. record { unnamed = e; tells = λ x k. k; typed = λ heading t. t }
    ] refl

module _ (commalist : List ℕ) (place : Place) (l r : Expr) where
  abbrev whole : Expr
  whole = and_expr place l r

  of_left : (g : Expr) → IsRowFilter commalist l g → IsRowFilter commalist whole g
  of_left g h = record {
    unnamed = h.unnamed;
    tells = λ x k. left_false (value l x) (value r x) (h.tells x k);
    typed = λ heading t. h.typed heading t.0;
  }

  of_right : is_safe l ≡ true → (g : Expr) → IsRowFilter commalist r g → IsRowFilter commalist whole g
  of_right safe g h = record {
    unnamed = h.unnamed;
    tells = λ x k. right_false (value l x) (value r x) (safe_value l x safe) (h.tells x k);
    typed = λ heading t. h.typed heading t.1;
  }

  of_both : is_safe l ≡ true → (f g : Expr) → IsRowFilter commalist l f → IsRowFilter commalist r g → IsRowFilter commalist whole (and_expr place f g)
  of_both safe f g h k = record {
    unnamed = ap₂ (λ a b. a || b) h.unnamed k.unnamed;
    tells = λ x i. and_false (value f x) (value g x) i (condition whole x ≡ Ok false) (λ j. (of_left f h).tells x j) (λ j. (of_right safe g k).tells x j);
    typed = λ heading t. (h.typed heading t.0, k.typed heading t.1, refl);
  }

  of_parts : (safe : Bool) → is_safe l ≡ safe → (f g : Option Expr) → AllRowFilter commalist l f → AllRowFilter commalist r g → AllRowFilter commalist whole (row_filter_of_and place safe f g)
  of_parts false s None g h k = tt
  of_parts false s (Some f) g h k = of_left f h
  of_parts true s None None h k = tt
  of_parts true s None (Some g) h k = of_right s g k
  of_parts true s (Some f) None h k = of_left f h
  of_parts true s (Some f) (Some g) h k = of_both s f g h k

pub row_filter_is : (commalist : List ℕ) (c : Expr) → AllRowFilter commalist c (row_filter commalist c)
row_filter_is commalist (constant place kind v) = itself_or commalist (constant place kind v) None tt
row_filter_is commalist (attribute place i) = itself_or commalist (attribute place i) None tt
row_filter_is commalist (one op place e) = itself_or commalist (one op place e) None tt
row_filter_is commalist (pair op place l r) = itself_or commalist (pair op place l r) None tt
row_filter_is commalist (and_expr place l r) =
    itself_or commalist (and_expr place l r) (row_filter_of_and place (is_safe l) (row_filter commalist l) (row_filter commalist r)) (of_parts commalist place l r (is_safe l) refl (row_filter commalist l) (row_filter commalist r) (row_filter_is commalist l) (row_filter_is commalist r))
row_filter_is commalist (or_expr place l r) = itself_or commalist (or_expr place l r) None tt

-- ---- the row filter of two conditions

-- it is a row filter of both
pub record IsRowFilterOfBoth (commalist : List ℕ) (c d g : Expr) : Type 0 where
  pub unnamed : names_any commalist g ≡ false
  pub first : (x : Row) → condition g x ≡ Ok false → condition c x ≡ Ok false
  pub second : (x : Row) → condition g x ≡ Ok false → condition d x ≡ Ok false
  pub typed : (heading : Heading) → IsTyped heading c Truth → IsTyped heading d Truth → IsTyped heading g Truth

abbrev pub AllRowFilterBoth : List ℕ → Expr → Expr → Option Expr → Type 0
AllRowFilterBoth commalist c d None = Unit {0}
AllRowFilterBoth commalist c d (Some g) = IsRowFilterOfBoth commalist c d g

both_is : (commalist : List ℕ) (place : Place) (c d : Expr) (f g : Option Expr) → AllRowFilter commalist c f → AllRowFilter commalist d g → AllRowFilterBoth commalist c d (row_filter_of_both place f g)
both_is commalist place c d None g h k = tt
both_is commalist place c d (Some f) None h k = tt
both_is commalist place c d (Some f) (Some g) h k = record {
  unnamed = ap₂ (λ a b. a || b) h.unnamed k.unnamed;
  first = λ x i. h.tells x (or_false (value f x) (value g x) i).0;
  second = λ x i. k.tells x (or_false (value f x) (value g x) i).1;
  typed = λ heading t u. (h.typed heading t, k.typed heading u, refl);
}

pub row_filter_of_both_is : (commalist : List ℕ) (place : Place) (c d : Expr) → AllRowFilterBoth commalist c d (row_filter_of_both place (row_filter commalist c) (row_filter commalist d))
row_filter_of_both_is commalist place c d = both_is commalist place c d (row_filter commalist c) (row_filter commalist d) (row_filter_is commalist c) (row_filter_is commalist d)

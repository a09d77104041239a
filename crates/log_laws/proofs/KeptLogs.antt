-- Logs stay where entries are added or dropped, and where relvars get other values.
--     named-more      what stands for a name among more entries
--     logs-more, logs-left, logs-given      the logs among more entries, among those that are left, and with another value
use Rattle.std.proofs.Common.{◌≡◌, ◌⊎◌, inl, inr, ℕ, Bool, true, false, cond, [], ◌∷◌, ◌++◌, refl, sym, ap, ◌∙◌, Some, None}
use Rattle.std.specs.Prelude.{ℤ}
use Rattle.std.specs.Str.{bytes_eq}
use Rattle.std.proofs.lemmas.Bool.{or_parts, true≢false}
use Rattle.value_core.specs.Values.{Name, Relation}
use Rattle.tree_core.specs.Relvars.{PlainRelvar, base, view, log, Entries, relvar_named}
use Rattle.meaning_core.specs.Logs.{is_log, has_log}
use Rattle.meaning_core.specs.Names.{with_value, given_relvar, given}
use Rattle.meaning_core.proofs.ElsewhereLemmas.{left, named-left}
use Rattle.assign_core.proofs.StepLemmas.{left-none}

-- what stands for a name among more entries stood for it, or comes anew
pub named-more : (es more : Entries) (name : Name) (r : PlainRelvar) → relvar_named (es ++ more) name ≡ Some r
    → (relvar_named es name ≡ Some r) ⊎ ((relvar_named es name ≡ None) × (relvar_named more name ≡ Some r))
named-more [] more name r e = inr (refl, e)
named-more (x ∷ es) more name r e = by (bytes_eq x.0 name) (λ f. named-more es more name r f) e
  where
    by : (b : Bool) → (relvar_named (es ++ more) name ≡ Some r → (relvar_named es name ≡ Some r) ⊎ ((relvar_named es name ≡ None) × (relvar_named more name ≡ Some r)))
        → cond b (Some x.1) (relvar_named (es ++ more) name) ≡ Some r
        → (cond b (Some x.1) (relvar_named es name) ≡ Some r) ⊎ ((cond b (Some x.1) (relvar_named es name) ≡ None) × (relvar_named more name ≡ Some r))
    by true later f = inl f
    by false later f = later f

-- no log stands for a name among entries none of which is one
none-logged : (es : Entries) (name : Name) (r : PlainRelvar) → has_log es ≡ false → is_log r ≡ true → relvar_named es name ≡ Some r → ⊥
none-logged [] name r none is e = absurd (cc)
none-logged (x ∷ es) name r none is e =
    let parts = or_parts (is_log x.1) (has_log es) none in
    by (bytes_eq x.0 name) parts.0 (λ f. none-logged es name r parts.1 is f) e
  where
    by : (b : Bool) → is_log x.1 ≡ false → (relvar_named es name ≡ Some r → ⊥) → cond b (Some x.1) (relvar_named es name) ≡ Some r → ⊥
    by true q later f = let same : x.1 ≡ r = cc in true≢false (sym is ∙ (ap is_log (sym same) ∙ q))
    by false q later f = later f

-- the logs among more entries, which are none
pub logs-more : (es more : Entries) → has_log more ≡ false → (name of : Name) (side : ℕ) (last : ℤ) (value : Relation) → relvar_named (es ++ more) name ≡ Some (log of side last value)
    → relvar_named es name ≡ Some (log of side last value)
logs-more es more none name of side last value e =
    elim (named-more es more name (log of side last value) e) [
      | inl old ↦ old
      | inr new ↦ absurd (none-logged more name (log of side last value) none refl new.1)
    ]

-- the logs among entries that are left
pub logs-left : (some : Name → Bool) (es : Entries) (name : Name) (r : PlainRelvar) → relvar_named (left some es) name ≡ Some r → relvar_named es name ≡ Some r
logs-left some es name r e = by (some name) refl
  where
    by : (b : Bool) → some name ≡ b → relvar_named es name ≡ Some r
    by true q = absurd (let none : None ≡ Some r = sym (left-none some es name q) ∙ e in cc)
    by false q = sym (named-left some es name q) ∙ e

-- an entry that is a log where a relvar has another value
one-given : (value : Relation) (b : Bool) (r : PlainRelvar) (of : Name) (side : ℕ) (last : ℤ) (own : Relation) → cond b (with_value value r) r ≡ log of side last own → r ≡ log of side last own
one-given value false r of side last own e = e
one-given value true (base old constraints) of side last own e = absurd (cc)
one-given value true (view t kind) of side last own e = absurd (cc)
one-given value true (log source place number old) of side last own e = e

-- the logs where a relvar has another value
pub logs-given : (with : Name) (value : Relation) (es : Entries) (name of : Name) (side : ℕ) (last : ℤ) (own : Relation) → relvar_named (given (Some with) (Some value) es) name ≡ Some (log of side last own)
    → relvar_named es name ≡ Some (log of side last own)
logs-given with value [] name of side last own e = e
logs-given with value (x ∷ es) name of side last own e = by (bytes_eq x.0 name) (λ f. logs-given with value es name of side last own f) e
  where
    by : (b : Bool) → (relvar_named (given (Some with) (Some value) es) name ≡ Some (log of side last own) → relvar_named es name ≡ Some (log of side last own))
        → cond b (Some (given_relvar (Some with) (Some value) x.0 x.1)) (relvar_named (given (Some with) (Some value) es) name) ≡ Some (log of side last own)
        → cond b (Some x.1) (relvar_named es name) ≡ Some (log of side last own)
    by true later f =
        let one : given_relvar (Some with) (Some value) x.0 x.1 ≡ log of side last own = cc in
        ap Some (one-given value (bytes_eq x.0 with) x.1 of side last own one)
    by false later f = later f

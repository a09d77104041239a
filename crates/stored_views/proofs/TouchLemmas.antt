-- Whether operands of stored views have new values.
--     some_there      a place that has a value
--     first_changes      new values of all entries are those of the first
--     meant-untouched, value-untouched      where no operand has one, the expression means what it meant
use Rattle.std.proofs.Common.{◌≡◌, Bool, true, false, not, cond, [], ◌∷◌, refl, sym, ap, ◌∙◌, true≢false, Option, Some, None}
use Rattle.std.specs.Prelude.{◌||◌, is_some, option_map}
use Rattle.std.specs.Str.{bytes_eq}
use Rattle.std.proofs.lemmas.Bool.{or_parts}
use Rattle.value_core.specs.Values.{Name, Relation}
use Rattle.tree_core.specs.Relvars.{Entries, State, relvar_named}
use Rattle.tree_core.specs.Trees.{Tree}
use Rattle.tree_core.specs.Uses.{names_any}
use Rattle.meaning_core.specs.Meanings.{meaning_in}
use Rattle.meaning_core.specs.StoredRows.{IsValueOf}
use Rattle.meaning_core.specs.WellMade.{is_base_in}
use Rattle.meaning_core.proofs.ElsewhereLemmas.{names-alike}
use Rattle.relvar_logs.specs.Changes.{Changes, AreChanges, changed, changed_relvar, change_named}
use Rattle.stored_views.specs.Moves.{is_touched, AreFirstChanges}
use Rattle.stored_views.specs.Operands.{value_if, IsStoredFor}
use Rattle.stored_views.proofs.AlikeLemmas.{value_of_base, meant_alike}
use Rattle.stored_views.proofs.OperandLemmas.{base_from}

pub some_there : {X : Type 0} (f : X → Relation) (o : Option X) (p : Option Relation) → option_map f o ≡ p → is_some o ≡ is_some p
some_there f None p e = ap is_some e
some_there f (Some x) p e = ap is_some e

pub first_changes : (cs : Changes) (es : Entries) → AreChanges cs es → AreFirstChanges cs es
first_changes [] es are = tt
first_changes (c ∷ cs) [] are = absurd are
first_changes (c ∷ cs) (e ∷ es) are = (are.0, first_changes cs es are.1)

no-change : (o : Option Relation) → is_some o ≡ false → o ≡ None
no-change None e = refl
no-change (Some v) e = absurd (true≢false e)

-- a relvar that has no new value
named-untouched : (cs : Changes) (es : Entries) (name : Name) → AreChanges cs es → is_some (change_named cs es name) ≡ false → relvar_named (changed cs es) name ≡ relvar_named es name
named-untouched [] es name are e = refl
named-untouched (c ∷ cs) [] name are e = absurd are
named-untouched (c ∷ cs) (r ∷ es) name are e = by (bytes_eq r.0 name) (named-untouched cs es name are.1) e
  where
    by : (b : Bool) → (is_some (change_named cs es name) ≡ false → relvar_named (changed cs es) name ≡ relvar_named es name) → is_some (cond b c (change_named cs es name)) ≡ false
        → cond b (Some (changed_relvar c r.1)) (relvar_named (changed cs es) name) ≡ cond b (Some r.1) (relvar_named es name)
    by true more f = ap (λ (o : Option Relation). Some (changed_relvar o r.1)) (no-change c f)
    by false more f = more f

-- what names neither of two kinds of names names none of both
neither : (p q : Name → Bool) (t : Tree) → names_any p t ≡ false → names_any q t ≡ false → names_any (λ name. p name || q name) t ≡ false
neither p q t e d = names-alike p (λ name. p name || q name) q (λ name f. ap (λ (b : Bool). b || q name) f) t e ∙ d

pub meant-untouched : (s : State) (cs : Changes) (t : Tree) → IsStoredFor s t → AreChanges cs s.relvars → is_touched cs s.relvars t ≡ false → meaning_in s.relvars t ≡ meaning_in (changed cs s.relvars) t
meant-untouched s cs t is are none =
    let other : Name → Bool = λ name. not (is_base_in s.relvars name) in
    let new : Name → Bool = λ name. is_some (change_named cs s.relvars name) in
    meant_alike s.relvars (changed cs s.relvars) (λ name. other name || new name) (λ name e.
    let parts = or_parts (other name) (new name) e in
    value_of_base _ _ (base_from (relvar_named s.relvars name) parts.0) (ap value_if (named-untouched cs s.relvars name are parts.1))) t (neither other new t is.1.1 none)

-- so its rows stay
pub value-untouched : (s : State) (cs : Changes) (t : Tree) (view : Relation) → IsStoredFor s t → AreChanges cs s.relvars → is_touched cs s.relvars t ≡ false → IsValueOf s.relvars t view
    → IsValueOf (changed cs s.relvars) t view
value-untouched s cs t view is are none h = record { means = sym (meant-untouched s cs t is are none) ∙ h.means; headed = h.headed }

-- Relvars that already have another value within a statement.
--     none_renewed, more_renewed      none at first, and one more with each assignment
--     same_renewed      what is told of a name by new values, and by the targets before
--     targets_more      the targets with one more
--     new_value, seen_before      what a source sees of its target
use Rattle.std.proofs.Common.{◌≡◌, ℕ, zero, suc, Bool, true, false, cond, List, [], ◌∷◌, ◌++◌, length, replicate, refl, sym, ap, ◌∙◌, Option, Some, None, option_map, is_some}
use Rattle.std.specs.Prelude.{◌||◌, slice_set}
use Rattle.std.specs.List.{IsDistinct}
use Rattle.std.specs.Str.{bytes_eq}
use Rattle.value_core.specs.Values.{Name, Relation}
use Rattle.tree_core.specs.Items.{PlainAssignment}
use Rattle.tree_core.specs.Relvars.{PlainRelvar, base, view, log, Entries, relvar_named}
use Rattle.tree_core.specs.Uses.{is_one_of}
use Rattle.meaning_core.specs.Names.{IsFirstAt}
use Rattle.meaning_core.proofs.MadeLemmas.{same_name}
use Rattle.relvar_logs.specs.Changes.{Changes, change_named, changed, changed_relvar, AreChanges, IsChange}
use Rattle.assign_core.specs.Assignments.{seen_by}
use Rattle.assign_core.specs.Breaches.{value_if, value_of}
use Rattle.assign_core.specs.Costs.{renewed_among}
use Rattle.assign_core.specs.Parts.{names_in}
use Rattle.assign_core.specs.Renewed.{renewing, targets_of, AreRenewed}
use Rattle.assign_core.proofs.ChangeLemmas.{same_given}
use Rattle.assign_core.proofs.NameLemmas.{turned}
use Rattle.assign_core.proofs.TouchLemmas.{named_stays}

-- ---- which relvars they are

none-named : (n : ℕ) (es : Entries) (name : Name) → change_named (replicate n None) es name ≡ None
none-named zero es name = refl
none-named (suc n) [] name = refl
none-named (suc n) (e ∷ es) name = by (bytes_eq e.0 name) (none-named n es name)
  where
    by : (b : Bool) → change_named (replicate n None) es name ≡ None → cond b None (change_named (replicate n None) es name) ≡ None
    by true more = refl
    by false more = more

pub none_renewed : (cs : Changes) (n : ℕ) (es : Entries) → cs ≡ replicate n None → AreRenewed [] cs es
none_renewed cs n es e name = ap (λ (z : Changes). is_some (change_named z es name)) e ∙ ap is_some (none-named n es name)

pub none_renewing : (cs : Changes) (n : ℕ) (es : Entries) (name : Name) → cs ≡ replicate n None → renewing cs es name ≡ None
none_renewing cs n es name e = ap (λ (z : Changes). renewing z es name) e ∙ ap (λ (o : Option Relation). option_map (λ value. name) o) (none-named n es name)

-- a name that is this one, read the other way round
other-way : (a b : Name) (t : Bool) → bytes_eq a b ≡ t → bytes_eq b a ≡ t
other-way a b false e = turned a b e
other-way a b true e = let same = same_name a b e in ap (λ (n : Name). bytes_eq n a) (sym same) ∙ (ap (bytes_eq a) same ∙ e)

named-put : (es : Entries) (cs : Changes) (name : Name) (i : ℕ) (r : PlainRelvar) (v : Relation) → AreChanges cs es → IsFirstAt es name i r → (n : Name)
    → is_some (change_named (slice_set cs i (Some v)) es n) ≡ (bytes_eq n name || is_some (change_named cs es n))
named-put [] cs name i r v h first n = absurd first
named-put (e ∷ es) [] name i r v h first n = absurd h
named-put (e ∷ es) (c ∷ cs) name zero r v h first n = by (bytes_eq e.0 n) refl
  where
    own : bytes_eq n name ≡ bytes_eq e.0 n
    own = ap (bytes_eq n) (sym (same_name e.0 name first.0)) ∙ other-way e.0 n (bytes_eq e.0 n) refl

    by : (b : Bool) → bytes_eq e.0 n ≡ b → is_some (cond b (Some v) (change_named cs es n)) ≡ (bytes_eq n name || is_some (cond b c (change_named cs es n)))
    by true q = sym (ap (λ (t : Bool). t || is_some c) (own ∙ q))
    by false q = sym (ap (λ (t : Bool). t || is_some (change_named cs es n)) (own ∙ q))
named-put (e ∷ es) (c ∷ cs) name (suc i) r v h first n = by (bytes_eq e.0 n) refl (named-put es cs name i r v h.1 first.1 n)
  where
    by : (b : Bool) → bytes_eq e.0 n ≡ b → is_some (change_named (slice_set cs i (Some v)) es n) ≡ (bytes_eq n name || is_some (change_named cs es n))
        → is_some (cond b c (change_named (slice_set cs i (Some v)) es n)) ≡ (bytes_eq n name || is_some (cond b c (change_named cs es n)))
    by true q more =
        let other : bytes_eq n name ≡ false = ap (λ (z : Name). bytes_eq z name) (sym (same_name e.0 n q)) ∙ first.0 in
        sym (ap (λ (t : Bool). t || is_some c) other)
    by false q more = more

pub more_renewed : (es : Entries) (cs : Changes) (name : Name) (i : ℕ) (r : PlainRelvar) (v : Relation) (done : List Name) → AreChanges cs es → IsFirstAt es name i r → AreRenewed done cs es
    → AreRenewed (name ∷ done) (slice_set cs i (Some v)) es
more_renewed es cs name i r v done h first renewed n = named-put es cs name i r v h first n ∙ ap (λ (b : Bool). bytes_eq n name || b) (renewed n)

pub same_renewed : (done : List Name) (cs : Changes) (es : Entries) (name : Name) → AreRenewed done cs es → renewing cs es name ≡ renewed_among done name
same_renewed done cs es name h = by (change_named cs es name) (is_one_of done name) (h name)
  where
    by : (o : Option Relation) (b : Bool) → is_some o ≡ b → option_map (λ value. name) o ≡ cond b (Some name) None
    by None b e = ap (λ (t : Bool). cond t (Some name) None) e
    by (Some v) b e = ap (λ (t : Bool). cond t (Some name) None) e

pub targets_more : (done : List Name) (xs : List PlainAssignment) (a : PlainAssignment) → targets_of done (xs ++ a ∷ []) ≡ a.target ∷ targets_of done xs
targets_more done [] a = refl
targets_more done (x ∷ xs) a = targets_more (x.target ∷ done) xs a

-- ---- their values

of-change : (c : Option Relation) (r : PlainRelvar) (value : Relation) → IsChange c r → c ≡ Some value → value_of (changed_relvar c r) ≡ Some value
of-change None r value h e = absurd (cc)
of-change (Some v) (base old constraints) value h e = e
of-change (Some v) (view t kind) value h e = absurd h
of-change (Some v) (log of side last w) value h e = absurd h

-- a new value is the one that the relvar then has
pub new_value : (cs : Changes) (es : Entries) (name : Name) (value : Relation) → AreChanges cs es → change_named cs es name ≡ Some value
    → value_if (relvar_named (changed cs es) name) ≡ Some value
new_value [] [] name value h e = absurd (cc)
new_value [] (r ∷ es) name value h e = absurd h
new_value (c ∷ cs) [] name value h e = absurd h
new_value (c ∷ cs) (r ∷ es) name value h e = by (bytes_eq r.0 name) (new_value cs es name value h.1) e
  where
    by : (b : Bool) → (change_named cs es name ≡ Some value → value_if (relvar_named (changed cs es) name) ≡ Some value) → cond b c (change_named cs es name) ≡ Some value → value_if (cond b (Some (changed_relvar c r.1)) (relvar_named (changed cs es) name)) ≡ Some value
    by true more f = of-change c r.1 value h.0 f
    by false more f = more f

-- where there is none, the target is seen as it was
pub seen_before : (es : Entries) (cs : Changes) (name : Name) → IsDistinct bytes_eq (names_in es) → change_named cs es name ≡ None → seen_by es (changed cs es) name ≡ es
seen_before es cs name d e =
    let same = named_stays cs es name (ap is_some e) in
    same_given es name (value_if (relvar_named (changed cs es) name)) d (ap value_if same)

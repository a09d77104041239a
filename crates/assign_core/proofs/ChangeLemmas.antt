-- New values that stand ready for base relvars.
use Rattle.std.proofs.Common.{◌≡◌, ℕ, zero, suc, ◌<◌, Bool, true, false, cond, List, [], ◌∷◌, map, length, replicate, get_or, refl, sym, ap, ap₂, subst, ◌∙◌, arith, Option, Some, None}
use Rattle.std.specs.Prelude.{slice_set, slice_index_or}
use Rattle.std.specs.List.{IsDistinct, AllByRecursion}
use Rattle.std.specs.Str.{bytes_eq}
use Rattle.value_core.specs.Values.{Name, Relation}
use Rattle.tree_core.specs.declared.relvar.Relvar.{Relvar}
use Rattle.tree_core.specs.Relvars.{PlainRelvar, base, view, Entries, relvar_named, heading_if, read_entry, read_relvar, log}
use Rattle.meaning_core.specs.Names.{given, with_value}
use Rattle.meaning_core.specs.Names.{IsFirstAt}
use Rattle.meaning_core.specs.WellMade.{IsBase}
use Rattle.meaning_core.proofs.MadeLemmas.{same_name}
use Rattle.relvar_logs.specs.Changes.{Changes, IsChange, AreChanges, changed_relvar, changed}
use Rattle.assign_core.specs.Breaches.{value_if, value_of}
use Rattle.assign_core.specs.Parts.{names_in}
use Rattle.assign_core.proofs.NameLemmas.{turned}
use Rattle.meaning_core.proofs.RowlessLemmas.{bare_all, bare, bare-with_value}

pub same_length : (cs : Changes) (es : Entries) → AreChanges cs es → length cs ≡ length es
same_length [] [] h = refl
same_length [] (e ∷ es) h = absurd h
same_length (c ∷ cs) [] h = absurd h
same_length (c ∷ cs) (e ∷ es) h = ap suc (same_length cs es h.1)

pub none_are : (es : List (Name × Relvar)) → AreChanges (replicate (length es) None) (map read_entry es)
none_are [] = tt
none_are (e ∷ es) = (tt, none_are es)

pub none_changed : (es : Entries) (n : ℕ) → changed (replicate n None) es ≡ es
none_changed es zero = refl
none_changed [] (suc n) = refl
none_changed (e ∷ es) (suc n) = ap (λ (z : Entries). e ∷ z) (none_changed es n)

-- ---- what is found

pub found_changed : (es : Entries) (cs : Changes) (name : Name) (i : ℕ) (r : PlainRelvar) (d : Option Relation) → AreChanges cs es → IsFirstAt es name i r
    → relvar_named (changed cs es) name ≡ Some (changed_relvar (slice_index_or cs i d) r)
found_changed [] cs name i r d h first = absurd first
found_changed (e ∷ es) [] name i r d h first = absurd h
found_changed (e ∷ es) (c ∷ cs) name zero r d h first =
    ap (λ (b : Bool). cond b (Some (changed_relvar c e.1)) (relvar_named (changed cs es) name)) first.0 ∙ ap (λ (x : PlainRelvar). Some (changed_relvar c x)) first.1
found_changed (e ∷ es) (c ∷ cs) name (suc i) r d h first =
    ap (λ (b : Bool). cond b (Some (changed_relvar c e.1)) (relvar_named (changed cs es) name)) first.0 ∙ found_changed es cs name i r d h.1 first.1

pub absent_changed : (es : List (Name × Relvar)) (cs : Changes) (name : Name)
    → ((k : ℕ) → k < length (map (λ (e : Name × Relvar). e.0) es) → bytes_eq name (get_or (map (λ (e : Name × Relvar). e.0) es) k []) ≡ false)
    → relvar_named (changed cs (map read_entry es)) name ≡ None
absent_changed [] [] name none = refl
absent_changed [] (c ∷ cs) name none = refl
absent_changed (e ∷ es) [] name none =
    ap (λ (b : Bool). cond b (Some (read_relvar e.1)) (relvar_named (map read_entry es) name)) (turned name e.0 (none 0 (omega arith)))
    ∙ absent_changed es [] name (λ k l. none (suc k) (omega arith))
absent_changed (e ∷ es) (c ∷ cs) name none =
    ap (λ (b : Bool). cond b (Some (changed_relvar c (read_relvar e.1))) (relvar_named (changed cs (map read_entry es)) name)) (turned name e.0 (none 0 (omega arith)))
    ∙ absent_changed es cs name (λ k l. none (suc k) (omega arith))

-- ---- headings stay

bare_change : (c : Option Relation) (r : PlainRelvar) → IsChange c r → bare (changed_relvar c r) ≡ bare r
bare_change None r h = refl
bare_change (Some value) (base old constraints) h = bare-with_value value (base old constraints) h
bare_change (Some value) (view t kind) h = absurd h
bare_change (Some value) (log of side last w) h = absurd h

pub bare_changed : (cs : Changes) (es : Entries) → AreChanges cs es → bare_all (changed cs es) ≡ bare_all es
bare_changed [] es h = refl
bare_changed (c ∷ cs) [] h = absurd h
bare_changed (c ∷ cs) (e ∷ es) h = ap₂ (λ (x : PlainRelvar) (z : Entries). (e.0, x) ∷ z) (bare_change c e.1 h.0) (bare_changed cs es h.1)

-- ---- a value more

pub is_change : (r : PlainRelvar) (value : Relation) (o : Option PlainRelvar) → o ≡ Some r → IsBase o → value.heading ≡ heading_if o → IsChange (Some value) r
is_change (base old constraints) value o e b h = h ∙ ap heading_if e
is_change (view t kind) value o e b h = absurd (subst IsBase e b)
is_change (log of side last w) value o e b h = absurd (subst IsBase e b)

pub put_change : (es : Entries) (cs : Changes) (name : Name) (i : ℕ) (r : PlainRelvar) (value : Relation) → AreChanges cs es → IsFirstAt es name i r → IsChange (Some value) r
    → AreChanges (slice_set cs i (Some value)) es
put_change [] cs name i r value h first is = absurd first
put_change (e ∷ es) [] name i r value h first is = absurd h
put_change (e ∷ es) (c ∷ cs) name zero r value h first is = (subst (IsChange (Some value)) (sym first.1) is, h.1)
put_change (e ∷ es) (c ∷ cs) name (suc i) r value h first is = (h.0, put_change es cs name i r value h.1 first.1 is)

twice : (c : Option Relation) (value : Relation) (r : PlainRelvar) → with_value value r ≡ with_value value (changed_relvar c r)
twice None value r = refl
twice (Some old) value (base before constraints) = refl
twice (Some old) value (view t kind) = refl
twice (Some old) value (log of side last w) = refl

apart_given : (es : Entries) (cs : Changes) (own name : Name) (value : Relation) → bytes_eq own name ≡ true → AllByRecursion (λ n. bytes_eq own n ≡ false) (names_in es)
    → changed cs es ≡ given (Some name) (Some value) (changed cs es)
apart_given [] [] own name value e h = refl
apart_given [] (c ∷ cs) own name value e h = refl
apart_given (r ∷ es) cs own name value e h = by cs (apart_given es [] own name value e h.1) (λ ds. apart_given es ds own name value e h.1)
  where
    other : bytes_eq r.0 name ≡ false
    other = turned name r.0 (ap (λ (n : Name). bytes_eq n r.0) (sym (same_name own name e)) ∙ h.0)

    by : (ds : Changes) → changed [] es ≡ given (Some name) (Some value) (changed [] es) → ((rest : Changes) → changed rest es ≡ given (Some name) (Some value) (changed rest es))
        → changed ds (r ∷ es) ≡ given (Some name) (Some value) (changed ds (r ∷ es))
    by [] ih more = ap₂ (λ (x : PlainRelvar) (z : Entries). (r.0, x) ∷ z) (sym (ap (λ (b : Bool). cond b (with_value value r.1) r.1) other)) ih
    by (c ∷ ds) ih more =
        ap₂ (λ (x : PlainRelvar) (z : Entries). (r.0, x) ∷ z) (sym (ap (λ (b : Bool). cond b (with_value value (changed_relvar c r.1)) (changed_relvar c r.1)) other)) (more ds)

pub put_given : (es : Entries) (cs : Changes) (name : Name) (i : ℕ) (r : PlainRelvar) (value : Relation) → IsDistinct bytes_eq (names_in es) → AreChanges cs es → IsFirstAt es name i r
    → changed (slice_set cs i (Some value)) es ≡ given (Some name) (Some value) (changed cs es)
unfolding IsDistinct
put_given [] cs name i r value d h first = absurd first
put_given (e ∷ es) [] name i r value d h first = absurd h
put_given (e ∷ es) (c ∷ cs) name zero r value d h first =
    ap₂ (λ (x : PlainRelvar) (z : Entries). (e.0, x) ∷ z)
    (twice c value e.1 ∙ sym (ap (λ (b : Bool). cond b (with_value value (changed_relvar c e.1)) (changed_relvar c e.1)) first.0))
    (apart_given es cs e.0 name value first.0 d.0)
put_given (e ∷ es) (c ∷ cs) name (suc i) r value d h first =
    ap₂ (λ (x : PlainRelvar) (z : Entries). (e.0, x) ∷ z)
    (sym (ap (λ (b : Bool). cond b (with_value value (changed_relvar c e.1)) (changed_relvar c e.1)) first.0)) (put_given es cs name i r value d.1 h.1 first.1)

-- ---- its own value

own-one : (r : PlainRelvar) (value : Relation) → value_of r ≡ Some value → with_value value r ≡ r
own-one (base old constraints) value e = let same : old ≡ value = cc in ap (λ (v : Relation). base v constraints) (sym same)
own-one (view t kind) value e = refl
own-one (log of side last w) value e = refl

-- a relvar that is given the value that it has
pub own_given : (es : Entries) (name : Name) (value : Relation) → IsDistinct bytes_eq (names_in es) → value_if (relvar_named es name) ≡ Some value → given (Some name) (Some value) es ≡ es
unfolding IsDistinct
own_given [] name value d e = refl
own_given (r ∷ es) name value d e = by (bytes_eq r.0 name) refl (own_given es name value d.1) e
  where
    by : (b : Bool) → bytes_eq r.0 name ≡ b → (value_if (relvar_named es name) ≡ Some value → given (Some name) (Some value) es ≡ es) → value_if (cond b (Some r.1) (relvar_named es name)) ≡ Some value
        → given (Some name) (Some value) (r ∷ es) ≡ r ∷ es
    by true q more f =
        ap₂ (λ (x : PlainRelvar) (z : Entries). (r.0, x) ∷ z)
        (ap (λ (b : Bool). cond b (with_value value r.1) r.1) q ∙ own-one r.1 value f) (sym (apart_given es [] r.0 name value q d.0))
    by false q more f = ap₂ (λ (x : PlainRelvar) (z : Entries). (r.0, x) ∷ z) (ap (λ (b : Bool). cond b (with_value value r.1) r.1) q) (more f)

pub nothing_given : (es : Entries) (name : Name) → given (Some name) None es ≡ es
nothing_given [] name = refl
nothing_given (e ∷ es) name = ap (λ (z : Entries). e ∷ z) (nothing_given es name)

-- the same, whichever it is
pub same_given : (es : Entries) (name : Name) (o : Option Relation) → IsDistinct bytes_eq (names_in es) → o ≡ value_if (relvar_named es name) → given (Some name) o es ≡ es
same_given es name None d e = nothing_given es name
same_given es name (Some value) d e = own_given es name value d (sym e)

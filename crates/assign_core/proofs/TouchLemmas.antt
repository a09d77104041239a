-- Constraints that a change cannot break.
use Rattle.std.proofs.Common.{◌≡◌, ℕ, zero, suc, ◌<◌, Bool, true, false, cond, List, [], ◌∷◌, map, length, get_or, refl, sym, ap, ◌∙◌, arith, true≢false, Option, Some, None, option_map, is_some}
use Rattle.std.proofs.lemmas.Bool.{or_parts}
use Rattle.std.specs.Prelude.{slice_index_or, slice_get}
use Rattle.std.specs.List.{All}
use Rattle.std.specs.Str.{bytes_eq}
use Rattle.std.proofs.lemmas.List.Elements.{All-nil, All-cons}
use Rattle.point_core.specs.declared.fault.Code.{Code}
use Rattle.value_core.specs.declared.constraint.Constraint.{Constraint}
use Rattle.value_core.specs.declared.refuse.Refuse.TheVariants.{Broken}
use Rattle.value_core.specs.Values.{Name, Row, Relation}
use Rattle.tree_core.specs.declared.relvar.Relvar.{Relvar}
use Rattle.tree_core.specs.Relvars.{PlainRelvar, base, Entries, relvar_named, read_entry, read_relvar}
use Rattle.meaning_core.specs.Names.{IsFirstAt}
use Rattle.u_constraints.specs.Constraints.{broken, names_relvar, rows_or_none}
use Rattle.assign_core.specs.declared.checking.After.{After}
use Rattle.assign_core.specs.Breaches.{value_if, value_at, rows_named, breach, first_of, first_in, first_among}
use Rattle.relvar_logs.specs.Changes.{Changes, changed, changed_relvar, newest, change_named}
use Rattle.assign_core.specs.Checks.{after, before, change_at, can_break, HeldBefore}
use Rattle.assign_core.proofs.DeclaredLemmas.{neither}
use Rattle.assign_core.proofs.NameLemmas.{turned}

-- ---- the change of a name

pub found_change : (es : Entries) (cs : Changes) (name : Name) (i : ℕ) (r : PlainRelvar) (d : Option Relation) → length cs ≡ length es → IsFirstAt es name i r
    → change_named cs es name ≡ slice_index_or cs i d
found_change [] cs name i r d l first = absurd first
found_change (e ∷ es) [] name i r d l first = absurd (omega (arith, l))
found_change (e ∷ es) (c ∷ cs) name zero r d l first = ap (λ (b : Bool). cond b c (change_named cs es name)) first.0
found_change (e ∷ es) (c ∷ cs) name (suc i) r d l first =
    ap (λ (b : Bool). cond b c (change_named cs es name)) first.0 ∙ found_change es cs name i r d (omega (arith, l)) first.1

pub absent_change : (es : List (Name × Relvar)) (cs : Changes) (name : Name)
    → ((k : ℕ) → k < length (map (λ (e : Name × Relvar). e.0) es) → bytes_eq name (get_or (map (λ (e : Name × Relvar). e.0) es) k []) ≡ false)
    → change_named cs (map read_entry es) name ≡ None
absent_change [] [] name none = refl
absent_change [] (c ∷ cs) name none = refl
absent_change (e ∷ es) [] name none = refl
absent_change (e ∷ es) (c ∷ cs) name none =
    ap (λ (b : Bool). cond b c (change_named cs (map read_entry es) name)) (turned name e.0 (none 0 (omega arith)))
    ∙ absent_change es cs name (λ k l. none (suc k) (omega arith))

stays : (c : Option Relation) (r : PlainRelvar) → is_some c ≡ false → changed_relvar c r ≡ r
stays None r e = refl
stays (Some value) r e = absurd (true≢false e)

pub named_stays : (cs : Changes) (es : Entries) (name : Name) → is_some (change_named cs es name) ≡ false → relvar_named (changed cs es) name ≡ relvar_named es name
named_stays [] es name e = refl
named_stays (c ∷ cs) [] name e = refl
named_stays (c ∷ cs) (r ∷ es) name e = by (bytes_eq r.0 name) (named_stays cs es name) e
  where
    by : (b : Bool) → (is_some (change_named cs es name) ≡ false → relvar_named (changed cs es) name ≡ relvar_named es name) → is_some (cond b c (change_named cs es name)) ≡ false
        → cond b (Some (changed_relvar c r.1)) (relvar_named (changed cs es) name) ≡ cond b (Some r.1) (relvar_named es name)
    by true ih f = ap Some (stays c r.1 f)
    by false ih f = ih f

value_stays : (cs : Changes) (es : Entries) (n : Option Name) → is_some (change_at cs es n) ≡ false → value_at (changed cs es) n ≡ value_at es n
value_stays cs es None e = refl
value_stays cs es (Some name) e = ap value_if (named_stays cs es name e)

-- a constraint that the change cannot break holds after it
pub unbroken : (a : After) (own : Bool) (rows : List Row) (c : Constraint) → can_break a own c ≡ false → HeldBefore a own rows c → None ≡ broken c rows (rows_named (after a) c)
unbroken a own rows c e held =
    let parts = or_parts own (is_some (change_at a.changes.now (before a) (names_relvar c))) e in
    let same = value_stays a.changes.now (before a) (names_relvar c) parts.1 in
    sym (held parts.0) ∙ ap (λ (o : Option Relation). broken c rows (rows_or_none o)) (sym same)

-- ---- what held before

none_broken : (code : Option Code) (name : Name) (n : ℕ) → option_map (λ z. Broken z name n) code ≡ None → code ≡ None
none_broken None name n e = refl
none_broken (Some z) name n e = absurd (cc)

pub held_list : (all : Entries) (name : Name) (rows : List Row) (n : ℕ) (cs : List Constraint) → first_of all name rows n cs ≡ None → All (λ c. broken c rows (rows_named all c) ≡ None) cs
held_list all name rows n [] e = All-nil (λ c. broken c rows (rows_named all c) ≡ None)
held_list all name rows n (c ∷ cs) e =
    let parts = neither (breach all name rows n c) (first_of all name rows (suc n) cs) e in
    All-cons (λ c. broken c rows (rows_named all c) ≡ None) c cs (none_broken (broken c rows (rows_named all c)) name n parts.0) (held_list all name rows (suc n) cs parts.1)

pub held_relvar : (a : After) (name : Name) (c : Option Relation) (value : Relation) (cs : List Constraint) (own : Bool) → own ≡ is_some c → first_in (before a) name (base value cs) ≡ None
    → All (HeldBefore a own (newest c value).rows) cs
held_relvar a name None value cs own e held = λ k d l f. held_list (before a) name value.rows 1 cs held k d l
held_relvar a name (Some new) value cs own e held = λ k d l f. absurd (true≢false (sym e ∙ f))

pub held_entry : (all : Entries) (es : List (Name × Relvar)) (i : ℕ) (k : Name) (r : Relvar) → first_among all (map read_entry es) ≡ None → slice_get es i ≡ Some (k, r)
    → first_in all k (read_relvar r) ≡ None
held_entry all [] i k r e is = absurd (cc)
held_entry all (x ∷ es) zero k r e is =
    let same : (k, r) ≡ x = cc in
    ap (λ (z : Name × Relvar). first_in all z.0 (read_relvar z.1)) same ∙ (neither (first_in all x.0 (read_relvar x.1)) (first_among all (map read_entry es)) e).0
held_entry all (x ∷ es) (suc i) k r e is = held_entry all es i k r (neither (first_in all x.0 (read_relvar x.1)) (first_among all (map read_entry es)) e).1 is

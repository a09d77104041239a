-- Whether a state is well made does not turn on the rows of its relvars.
--     bare, bare_all      relvars without their rows, and logs that tell nothing
--     over-keeps      the same names stand for logs and views over logs
--     bare-keeps      a state stays well made where its relvars differ in their rows alone
--     heading-keeps, is_base-keeps      the same is looked up in states that differ so
--     is_given-keeps      and the same may be given in place of a value
use Rattle.std.proofs.Common.{◌≡◌, ℕ, Bool, true, false, not, List, [], ◌∷◌, ◌++◌, map, cond, refl, sym, ap, ap₂, ◌∙◌, subst, IsTrue, Option, Some, None, option_map}
use Rattle.std.specs.Prelude.{pos}
use Rattle.std.specs.List.{All, IsDistinct}
use Rattle.std.specs.Str.{bytes_eq}
use Rattle.std.proofs.lemmas.List.{map-append}
use Rattle.point_core.specs.declared.fault.Place.{Place}
use Rattle.value_core.specs.declared.constraint.Constraint.{Constraint}
use Rattle.value_core.specs.declared.constraint.Constraint.TheVariants.{Key, Packed, WhenUnpacked, UKey, Foreign, History}
use Rattle.value_core.specs.declared.constraint.HistoryRule.{HistoryRule}
use Rattle.value_core.specs.Values.{Name, Heading, Relation}
use Rattle.tree_core.specs.Relvars.{PlainKind, derived, of_history, stored, PlainRelvar, base, view, Entries, State, relvar_named, relvar_heading, heading_if, constraints_if, rule_among, log}
use Rattle.log_times.specs.Turns.{IsLogHeading, without}
use Rattle.tree_core.specs.Trees.{Tree, named}
use Rattle.tree_core.specs.Uses.{names_any, test_names_any}
use Rattle.meaning_core.specs.Logs.{is_over_log, over_log}
use Rattle.meaning_core.specs.Histories.{joined_history, last_point, type_at, name_at}
use Rattle.meaning_core.specs.Names.{found, each_after, with_value}
use Rattle.meaning_core.specs.StoredViews.{is_stored_form}
use Rattle.meaning_core.specs.Typing.{Headings, is_declared, IsTypedTree, IsTypedTest}
use Rattle.meaning_core.specs.WellMade.{sizes_of, headings_of, IsBase, FitsHeadings, FitsNamed, IsConstraint, IsOfRule, is_base, is_base_in, IsOfKind, IsRelvar, AreRelvars, IsWellMade, IsGiven, IsLogOf}

-- ---- relvars without their rows

abbrev pub bare : PlainRelvar → PlainRelvar
bare (base value constraints) = base (record { heading = value.heading; rows = [] }) constraints
bare (view t kind) = view t kind
bare (log of side last value) = log of side (pos 0) (record { heading = value.heading; rows = [] })

abbrev pub bare_entry : Name × PlainRelvar → Name × PlainRelvar
bare_entry r = (r.0, bare r.1)

abbrev pub bare_all : Entries → Entries
bare_all entries = map bare_entry entries

-- ---- what turns on a log

over-one : (known : List (Name × Bool)) (r : PlainRelvar) → is_over_log known (bare r) ≡ is_over_log known r
over-one known (base value constraints) = refl
over-one known (view t kind) = refl
over-one known (log of side last value) = refl

over-bare : (known : List (Name × Bool)) (entries : Entries) → each_after is_over_log known (bare_all entries) ≡ each_after is_over_log known entries
over-bare known [] = refl
over-bare known (r ∷ rest) =
    ap (λ (b : Bool). each_after is_over_log (known ++ (r.0, b) ∷ []) (bare_all rest)) (over-one known r.1) ∙ over-bare (known ++ (r.0, is_over_log known r.1) ∷ []) rest

-- the same names stand for logs and views over logs
pub over-keeps : (entries old : Entries) → bare_all entries ≡ bare_all old → over_log entries ≡ over_log old
over-keeps entries old e =
    let standing : List (Name × Bool) → Name → Bool = λ ks name. found false ks name in
    ap standing (sym (over-bare [] entries) ∙ (ap (each_after is_over_log []) e ∙ over-bare [] old))

-- ---- what is looked up in them

pub heading-bare : (r : PlainRelvar) → relvar_heading (bare r) ≡ relvar_heading r
heading-bare (base value constraints) = refl
heading-bare (view t kind) = refl
heading-bare (log of side last value) = refl

pub headings-bare : (entries : Entries) → headings_of (bare_all entries) ≡ headings_of entries
headings-bare [] = refl
headings-bare (r ∷ rest) = λ i. (r.0, heading-bare r.1 i) ∷ headings-bare rest i

pub names-bare : (entries : Entries) → map (λ r. r.0) (bare_all entries) ≡ map (λ r. r.0) entries
names-bare [] = refl
names-bare (r ∷ rest) = λ i. r.0 ∷ names-bare rest i

bare-some : (b : Bool) (r : PlainRelvar) (o : Option PlainRelvar) → cond b (Some (bare r)) (option_map bare o) ≡ option_map bare (cond b (Some r) o)
bare-some true r o = refl
bare-some false r o = refl

named-bare : (entries : Entries) (name : Name) → relvar_named (bare_all entries) name ≡ option_map bare (relvar_named entries name)
named-bare [] name = refl
named-bare (r ∷ rest) name =
    ap (cond (bytes_eq r.0 name) (Some (bare r.1))) (named-bare rest name) ∙ bare-some (bytes_eq r.0 name) r.1 (relvar_named rest name)

heading_if-bare : (o : Option PlainRelvar) → heading_if (option_map bare o) ≡ heading_if o
heading_if-bare None = refl
heading_if-bare (Some r) = heading-bare r

constraints_if-bare : (o : Option PlainRelvar) → constraints_if (option_map bare o) ≡ constraints_if o
constraints_if-bare None = refl
constraints_if-bare (Some (base value constraints)) = refl
constraints_if-bare (Some (view t kind)) = refl
constraints_if-bare (Some (log of side last value)) = refl

IsBase-bare : (o : Option PlainRelvar) → IsBase (option_map bare o) ≡ IsBase o
IsBase-bare None = refl
IsBase-bare (Some (base value constraints)) = refl
IsBase-bare (Some (view t kind)) = refl
IsBase-bare (Some (log of side last value)) = refl

pub heading_named-bare : (entries : Entries) (name : Name) → heading_if (relvar_named (bare_all entries) name) ≡ heading_if (relvar_named entries name)
heading_named-bare entries name = ap heading_if (named-bare entries name) ∙ heading_if-bare (relvar_named entries name)

constraints_named-bare : (entries : Entries) (name : Name) → constraints_if (relvar_named (bare_all entries) name) ≡ constraints_if (relvar_named entries name)
constraints_named-bare entries name = ap constraints_if (named-bare entries name) ∙ constraints_if-bare (relvar_named entries name)

is_base-bare : (entries : Entries) (name : Name) → IsBase (relvar_named (bare_all entries) name) ≡ IsBase (relvar_named entries name)
is_base-bare entries name = ap IsBase (named-bare entries name) ∙ IsBase-bare (relvar_named entries name)

-- ---- what holds of them

FitsNamed-bare : (entries : Entries) (h : Heading) (name : Name) (c : Constraint) → FitsNamed (bare_all entries) h name c ≡ FitsNamed entries h name c
FitsNamed-bare entries h name c = λ i. is_base-bare entries name i × FitsHeadings h (heading_named-bare entries name i) c

IsConstraint-bare : (before : Entries) (own : Name) (r : PlainRelvar) (c : Constraint) → IsConstraint (bare_all before) own (bare r) c ≡ IsConstraint before own r c
IsConstraint-bare before own r (Foreign commalist k name there) =
    ap₂ (λ (es : Entries) (h : Heading). FitsNamed es h name (Foreign commalist k name there)) (sym (map-append bare_entry before ((own, r) ∷ []))) (heading-bare r)
    ∙ FitsNamed-bare (before ++ (own, r) ∷ []) (relvar_heading r) name (Foreign commalist k name there)
IsConstraint-bare before own r (History rule) =
    ap (λ (h : Heading). FitsNamed (bare_all before) h rule.since (History rule)) (heading-bare r) ∙ FitsNamed-bare before (relvar_heading r) rule.since (History rule)
IsConstraint-bare before own r (Key k) = ap (λ (h : Heading). FitsHeadings h [] (Key k)) (heading-bare r)
IsConstraint-bare before own r (Packed commalist) = ap (λ (h : Heading). FitsHeadings h [] (Packed commalist)) (heading-bare r)
IsConstraint-bare before own r (WhenUnpacked commalist k) = ap (λ (h : Heading). FitsHeadings h [] (WhenUnpacked commalist k)) (heading-bare r)
IsConstraint-bare before own r (UKey commalist k) = ap (λ (h : Heading). FitsHeadings h [] (UKey commalist k)) (heading-bare r)

-- a view is what a rule makes it, of relvars of these headings
abbrev IsMade : Name → Name → Tree → HistoryRule → Heading → Heading → Type 0
IsMade s d t rule since during =
    let over = type_at during rule.span_here in
    (place : Place) × (rule.since ≡ s)
    × (t ≡ joined_history place place over (name_at since rule.point_there) (name_at during rule.span_here) d since during (last_point place over) (named place since s))

IsOfRule-bare : (before : Entries) (s d : Name) (t : Tree) (rule : Option HistoryRule) → IsOfRule (bare_all before) s d t rule ≡ IsOfRule before s d t rule
IsOfRule-bare before s d t None = refl
IsOfRule-bare before s d t (Some rule) = ap₂ (IsMade s d t rule) (heading_named-bare before s) (heading_named-bare before d)

-- a base relvar is one without its rows too
base-bare : (o : Option PlainRelvar) → is_base (option_map bare o) ≡ is_base o
base-bare None = refl
base-bare (Some (base value constraints)) = refl
base-bare (Some (view t kind)) = refl
base-bare (Some (log of side last value)) = refl

base_in-bare : (before : Entries) (name : Name) → is_base_in (bare_all before) name ≡ is_base_in before name
base_in-bare before name = ap is_base (named-bare before name) ∙ base-bare (relvar_named before name)

IsOfKind-bare : (before : Entries) (t : Tree) (kind : PlainKind) → IsOfKind (bare_all before) t kind ≡ IsOfKind before t kind
IsOfKind-bare before t derived = refl
IsOfKind-bare before t stored = λ i. IsTrue (is_stored_form t) × (names_any (λ name. not (base_in-bare before name i)) t ≡ false)
IsOfKind-bare before t (of_history names) =
    let rule = ap (λ c. IsOfRule (bare_all before) names.0 names.1 t (rule_among c)) (constraints_named-bare before names.1)
    ∙ IsOfRule-bare before names.0 names.1 t (rule_among (constraints_if (relvar_named before names.1))) in
    λ i. is_base-bare before names.0 i × is_base-bare before names.1 i × rule i

IsLogOf-bare : (before : Entries) (of : Name) (side : ℕ) (h : Heading) → IsLogOf (bare_all before) of side h ≡ IsLogOf before of side h
IsLogOf-bare before of side h = λ i. is_base-bare before of i × IsLogHeading side h × (without side h ≡ heading_named-bare before of i)

IsRelvar-bare : (sizes : List ℕ) (before : Entries) (own : Name) (r : PlainRelvar) → IsRelvar sizes (bare_all before) own (bare r) ≡ IsRelvar sizes before own r
IsRelvar-bare sizes before own (base value constraints) =
    λ i. IsTrue (is_declared sizes value.heading) × All (λ c. IsConstraint-bare before own (base value constraints) c i) constraints
IsRelvar-bare sizes before own (view t kind) = λ i. IsTypedTree sizes (headings-bare before i) t × IsOfKind-bare before t kind i
IsRelvar-bare sizes before own (log of side last value) = λ i. IsTrue (is_declared sizes value.heading) × IsLogOf-bare before of side value.heading i

AreRelvars-bare : (sizes : List ℕ) (before entries : Entries) → AreRelvars sizes (bare_all before) (bare_all entries) ≡ AreRelvars sizes before entries
AreRelvars-bare sizes before [] = refl
AreRelvars-bare sizes before (r ∷ rest) =
    let more = ap (λ (es : Entries). AreRelvars sizes es (bare_all rest)) (sym (map-append bare_entry before (r ∷ []))) ∙ AreRelvars-bare sizes (before ++ r ∷ []) rest in
    λ i. IsRelvar-bare sizes before r.0 r.1 i × more i

-- ---- states that differ in their rows alone

-- the same is looked up in both
pub heading-keeps : (entries old : Entries) → bare_all entries ≡ bare_all old → (name : Name) → heading_if (relvar_named entries name) ≡ heading_if (relvar_named old name)
heading-keeps entries old e name =
    sym (heading_named-bare entries name) ∙ (ap (λ (es : Entries). heading_if (relvar_named es name)) e ∙ heading_named-bare old name)

pub is_base-keeps : (entries old : Entries) → bare_all entries ≡ bare_all old → (name : Name) → IsBase (relvar_named old name) → IsBase (relvar_named entries name)
is_base-keeps entries old e name h =
    subst (λ (T : Type 0). T) (sym (is_base-bare old name) ∙ (ap (λ (es : Entries). IsBase (relvar_named es name)) (sym e) ∙ is_base-bare entries name)) h

-- and it is well made as the other is
pub bare-keeps : (s : State) (entries : Entries) → bare_all entries ≡ bare_all s.relvars → IsWellMade s → IsWellMade (record s { relvars = entries })
bare-keeps s entries e h =
    let names = sym (names-bare s.relvars) ∙ (ap (map (λ r. r.0)) (sym e) ∙ names-bare entries) in
    let headings = sym (headings-bare s.relvars) ∙ (ap headings_of (sym e) ∙ headings-bare entries) in
    let same = sym (AreRelvars-bare (sizes_of s.ordinals) [] s.relvars) ∙ (ap (AreRelvars (sizes_of s.ordinals) []) (sym e) ∙ AreRelvars-bare (sizes_of s.ordinals) [] entries) in
    record {
      few = h.few;
      ordinals = h.ordinals;
      different = subst (λ (ns : List Name). IsDistinct bytes_eq (map (λ k. k.0) s.rules ++ map (λ o. o.name) s.ordinals ++ ns)) names h.different;
      relvars = subst (λ (T : Type 0). T) same h.relvars;
      few_rules = h.few_rules;
      rules = subst (λ (hs : Headings). All (λ k. IsTypedTest (sizes_of s.ordinals) hs k.1) s.rules) headings h.rules;
      apart = subst (λ (over : Name → Bool). All (λ k. test_names_any over k.1 ≡ false) s.rules) (sym (over-keeps entries s.relvars e)) h.apart;
    }

-- ---- another value of a base relvar

pub bare-with_value : (value : Relation) (r : PlainRelvar) → value.heading ≡ relvar_heading r → bare (with_value value r) ≡ bare r
bare-with_value value (base old constraints) e = ap (λ (h : Heading). base (record { heading = h; rows = [] }) constraints) e
bare-with_value value (view t kind) e = refl
bare-with_value value (log of side last old) e = refl

-- what is given in one of two states that differ in their rows alone is given in the other
pub is_given-keeps : (entries old : Entries) → bare_all entries ≡ bare_all old → (with : Option Name) (value : Option Relation) → IsGiven old with value → IsGiven entries with value
is_given-keeps entries old e None None g = g
is_given-keeps entries old e None (Some value) g = g
is_given-keeps entries old e (Some name) None g = g
is_given-keeps entries old e (Some name) (Some value) g = (is_base-keeps entries old e name g.0, g.1 ∙ sym (heading-keeps entries old e name))

-- a relvar's own value is such a value
pub own-given : (entries : Entries) (name : Name) (value : Relation) (constraints : List Constraint) → relvar_named entries name ≡ Some (base value constraints)
    → IsGiven entries (Some name) (Some value)
own-given entries name value constraints e = (subst IsBase (sym e) tt, ap heading_if (sym e))

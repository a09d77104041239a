-- Views have no part in rows and constraints: what a database keeps lies in its base relvars alone.
--     distinct-kept, bases-kept      some of the entries, all base relvars among them
--     broken-bases, rows-bases      the same base relvars break the same constraints, and have as many rows
--     constrained-made      well made relvars have such constraints
--     loadable-made, loadable-bases      what a database keeps: of well made relvars, and where the base relvars are the same
use Rattle.std.proofs.Common.{◌≡◌, ℕ, suc, ◌≤◌, Bool, true, false, cond, List, [], ◌∷◌, ◌++◌, filter, refl, sym, ap, ◌∙◌, subst, arith, Option, Some, None, option_map}
use Rattle.std.specs.List.{All, AllByRecursion, IsDistinct}
use Rattle.std.specs.Str.{bytes_eq}
use Rattle.std.proofs.lemmas.List.{append-nil}
use Rattle.std.proofs.lemmas.List.Elements.{All-nil, All-cons, All-head, All-tail, filter-append}
use Rattle.value_core.specs.declared.constraint.Constraint.{Constraint}
use Rattle.value_core.specs.declared.constraint.Constraint.TheVariants.{Key, Packed, WhenUnpacked, UKey, Foreign, History}
use Rattle.value_core.specs.declared.refuse.Refuse.{Refuse}
use Rattle.value_core.specs.declared.refuse.Refuse.TheVariants.{Broken}
use Rattle.value_core.specs.Limits.{most_rows_in_all}
use Rattle.value_core.specs.Values.{Name, Row, Heading, Relation}
use Rattle.tree_core.specs.Relvars.{PlainRelvar, base, view, Entries, relvar_named, heading_if, log}
use Rattle.meaning_core.specs.WellMade.{FitsHeadings, IsBase, FitsNamed, IsConstraint, AreRelvars}
use Rattle.u_constraints.specs.Constraints.{broken, names_relvar, rows_or_none}
use Rattle.dump_core.specs.Inserts.{HaveRelations}
use Rattle.assign_core.specs.Breaches.{value_if, value_at, rows_of_all, or_later, breach, first_of, first_among, first_broken}
use Rattle.assign_core.specs.Parts.{names_in}
use Rattle.part_laws.specs.Parts.{is_base, AreConstrained, IsLoadable}
use Rattle.part_laws.proofs.EntryLemmas.{base-of, named-filtered, value-filtered}

abbrev bases : Entries → Entries
bases es = filter is_base es

-- ---- some of the entries

all-kept : (P : Name → Type 0) (p : Name × PlainRelvar → Bool) (es : Entries) → AllByRecursion P (names_in es) → AllByRecursion P (names_in (filter p es))
all-kept P p [] h = tt
all-kept P p (e ∷ es) h =
    elim (p e) as (λ b. AllByRecursion P (names_in (cond b (e ∷ filter p es) (filter p es)))) [
      | true ↦ (h.0, all-kept P p es h.1)
      | false ↦ all-kept P p es h.1
    ]

-- some of the entries have different names
pub distinct-kept : (p : Name × PlainRelvar → Bool) (es : Entries) → IsDistinct bytes_eq (names_in es) → IsDistinct bytes_eq (names_in (filter p es))
unfolding IsDistinct
distinct-kept p [] h = tt
distinct-kept p (e ∷ es) h =
    elim (p e) as (λ b. IsDistinct bytes_eq (names_in (cond b (e ∷ filter p es) (filter p es)))) [
      | true ↦ (all-kept (λ y. bytes_eq e.0 y ≡ false) p es h.0, distinct-kept p es h.1)
      | false ↦ distinct-kept p es h.1
    ]

-- and the same base relvars, where each of these is one of them
pub bases-kept : (p : Name × PlainRelvar → Bool) (es : Entries) → ((name : Name) (v : Relation) (c : List Constraint) → p (name, base v c) ≡ true) → filter is_base (filter p es) ≡ filter is_base es
bases-kept p [] all = refl
bases-kept p ((name, base v c) ∷ es) all =
    ap (λ b. bases (cond b ((name, base v c) ∷ filter p es) (filter p es))) (all name v c) ∙ ap (λ (bs : Entries). (name, base v c) ∷ bs) (bases-kept p es all)
bases-kept p ((name, view t kind) ∷ es) all =
    elim (p (name, view t kind)) as (λ b. bases (cond b ((name, view t kind) ∷ filter p es) (filter p es)) ≡ bases es) [
      | true ↦ bases-kept p es all
      | false ↦ bases-kept p es all
    ]
bases-kept p ((name, log o k last w) ∷ es) all =
    elim (p (name, log o k last w)) as (λ b. bases (cond b ((name, log o k last w) ∷ filter p es) (filter p es)) ≡ bases es) [
      | true ↦ bases-kept p es all
      | false ↦ bases-kept p es all
    ]

-- ---- broken constraints

abbrev HaveValues : Entries → Entries → Type 0
HaveValues all other = (name : Name) → value_if (relvar_named all name) ≡ value_if (relvar_named other name)

same-at : (all other : Entries) (name : Option Name) → HaveValues all other → rows_or_none (value_at all name) ≡ rows_or_none (value_at other name)
same-at all other None same = refl
same-at all other (Some name) same = ap rows_or_none (same name)

same-of : (all other : Entries) (name : Name) (rows : List Row) (n : ℕ) (cs : List Constraint) → HaveValues all other → first_of all name rows n cs ≡ first_of other name rows n cs
same-of all other name rows n [] same = refl
same-of all other name rows n (c ∷ cs) same =
    ap (λ (z : List Row). or_later (option_map (λ code. Broken code name n) (broken c rows z)) (first_of all name rows (suc n) cs)) (same-at all other (names_relvar c) same)
    ∙ ap (or_later (breach other name rows n c)) (same-of all other name rows (suc n) cs same)

-- the base relvars alone, each held against others of the same values
among-bases : (all other es : Entries) → HaveValues all other → first_among all es ≡ first_among other (bases es)
among-bases all other [] same = refl
among-bases all other ((name, base v cs) ∷ es) same =
    ap (λ (z : Option Refuse). or_later z (first_among all es)) (same-of all other name v.rows 1 cs same) ∙ ap (or_later (first_of other name v.rows 1 cs)) (among-bases all other es same)
among-bases all other ((name, view t kind) ∷ es) same = among-bases all other es same
among-bases all other ((name, log o k last w) ∷ es) same = among-bases all other es same

broken-filtered : (es : Entries) → IsDistinct bytes_eq (names_in es) → first_broken es ≡ first_among (bases es) (bases es)
broken-filtered es d = among-bases es (bases es) es (λ name. value-filtered es name d)

pub broken-bases : (es fs : Entries) → IsDistinct bytes_eq (names_in es) → IsDistinct bytes_eq (names_in fs) → filter is_base es ≡ filter is_base fs → first_broken es ≡ first_broken fs
broken-bases es fs d d' e = broken-filtered es d ∙ (ap (λ (bs : Entries). first_among bs bs) e ∙ sym (broken-filtered fs d'))

-- ---- rows

rows-filtered : (es : Entries) → rows_of_all es ≡ rows_of_all (bases es)
rows-filtered [] = refl
rows-filtered ((name, base v cs) ∷ es) = let more = rows-filtered es in omega (arith, more)
rows-filtered ((name, view t kind) ∷ es) = let more = rows-filtered es in omega (arith, more)
rows-filtered ((name, log o k last w) ∷ es) = let more = rows-filtered es in omega (arith, more)

pub rows-bases : (es fs : Entries) → filter is_base es ≡ filter is_base fs → rows_of_all es ≡ rows_of_all fs
rows-bases es fs e = rows-filtered es ∙ (ap rows_of_all e ∙ sym (rows-filtered fs))

-- ---- constraints that fit

into-bases : (before es : Entries) → AreConstrained before es → AreConstrained before (bases es)
into-bases before [] h = tt
into-bases before ((name, base v cs) ∷ es) h = (h.0, into-bases (before ++ (name, base v cs) ∷ []) es h.1)
into-bases before ((name, view t kind) ∷ es) h = into-bases before es h
into-bases before ((name, log o k last w) ∷ es) h = into-bases before es h

from-bases : (before es : Entries) → AreConstrained before (bases es) → AreConstrained before es
from-bases before [] h = tt
from-bases before ((name, base v cs) ∷ es) h = (h.0, from-bases (before ++ (name, base v cs) ∷ []) es h.1)
from-bases before ((name, view t kind) ∷ es) h = from-bases before es h
from-bases before ((name, log o k last w) ∷ es) h = from-bases before es h

-- a base relvar is found with or without the views
named-both : (front before : Entries) (name : Name) → before ≡ bases front → IsBase (relvar_named front name) → relvar_named front name ≡ relvar_named before name
named-both front before name e h =
    let w = base-of (relvar_named front name) h in
    w.2 ∙ sym (ap (λ (bs : Entries). relvar_named bs name) e ∙ named-filtered front name w.0 w.1 w.2)

fits-both : (front before : Entries) (h : Heading) (name : Name) (c : Constraint) → before ≡ bases front → FitsNamed front h name c → FitsNamed before h name c
fits-both front before h name c e f = subst (λ (o : Option PlainRelvar). IsBase o × FitsHeadings h (heading_if o) c) (named-both front before name e f.0) f

constraint-both : (front before : Entries) (own : Name) (v : Relation) (ds : List Constraint) (c : Constraint) → before ≡ bases front → IsConstraint front own (base v ds) c
    → IsConstraint before own (base v ds) c
constraint-both front before own v ds (Key k) e h = h
constraint-both front before own v ds (Packed commalist) e h = h
constraint-both front before own v ds (WhenUnpacked commalist k) e h = h
constraint-both front before own v ds (UKey commalist k) e h = h
constraint-both front before own v ds (Foreign commalist k name there) e h =
    let more : before ++ (own, base v ds) ∷ [] ≡ bases (front ++ (own, base v ds) ∷ []) =
    ap (λ (bs : Entries). bs ++ (own, base v ds) ∷ []) e ∙ sym (filter-append is_base front ((own, base v ds) ∷ [])) in
    fits-both (front ++ (own, base v ds) ∷ []) (before ++ (own, base v ds) ∷ []) v.heading name (Foreign commalist k name there) more h
constraint-both front before own v ds (History rule) e h = fits-both front before v.heading rule.since (History rule) e h

all-constraints : (front before : Entries) (own : Name) (v : Relation) (ds cs : List Constraint) → before ≡ bases front → All (IsConstraint front own (base v ds)) cs
    → All (IsConstraint before own (base v ds)) cs
all-constraints front before own v ds [] e h = All-nil (IsConstraint before own (base v ds))
all-constraints front before own v ds (c ∷ cs) e h =
    All-cons (IsConstraint before own (base v ds)) c cs (constraint-both front before own v ds c e (All-head (IsConstraint front own (base v ds)) c cs h))
    (all-constraints front before own v ds cs e (All-tail (IsConstraint front own (base v ds)) c cs h))

constrained-after : (sizes : List ℕ) (front before es : Entries) → before ≡ bases front → AreRelvars sizes front es → AreConstrained before es
constrained-after sizes front before [] e h = tt
constrained-after sizes front before ((name, base v cs) ∷ es) e h = (
  all-constraints front before name v cs cs e h.0.1,
  constrained-after sizes (front ++ (name, base v cs) ∷ []) (before ++ (name, base v cs) ∷ []) es
      (ap (λ (bs : Entries). bs ++ (name, base v cs) ∷ []) e ∙ sym (filter-append is_base front ((name, base v cs) ∷ []))) h.1,
)
constrained-after sizes front before ((name, view t kind) ∷ es) e h =
    constrained-after sizes (front ++ (name, view t kind) ∷ []) before es (e ∙ sym (filter-append is_base front ((name, view t kind) ∷ []) ∙ append-nil (bases front))) h.1
constrained-after sizes front before ((name, log o k last w) ∷ es) e h =
    constrained-after sizes (front ++ (name, log o k last w) ∷ []) before es (e ∙ sym (filter-append is_base front ((name, log o k last w) ∷ []) ∙ append-nil (bases front))) h.1

pub constrained-made : (sizes : List ℕ) (es : Entries) → AreRelvars sizes [] es → AreConstrained [] es
constrained-made sizes es h = constrained-after sizes [] [] es refl h

-- ---- relations

into-relations : (es : Entries) → HaveRelations es → HaveRelations (bases es)
into-relations [] h = tt
into-relations ((name, base v cs) ∷ es) h = (h.0, into-relations es h.1)
into-relations ((name, view t kind) ∷ es) h = into-relations es h.1
into-relations ((name, log o k last w) ∷ es) h = into-relations es h.1

from-relations : (es : Entries) → HaveRelations (bases es) → HaveRelations es
from-relations [] h = tt
from-relations ((name, base v cs) ∷ es) h = (h.0, from-relations es h.1)
from-relations ((name, view t kind) ∷ es) h = (tt, from-relations es h)
from-relations ((name, log o k last w) ∷ es) h = (tt, from-relations es h)

-- ---- databases

pub loadable-made : (sizes : List ℕ) (es : Entries) → AreRelvars sizes [] es → IsDistinct bytes_eq (names_in es) → HaveRelations es → first_broken es ≡ None
    → rows_of_all es ≤ most_rows_in_all → IsLoadable es
loadable-made sizes es h d relations unbroken few = record {
  different = d;
  constrained = constrained-made sizes es h;
  relations = relations;
  unbroken = unbroken;
  few = few;
}

pub loadable-bases : (es fs : Entries) → filter is_base es ≡ filter is_base fs → IsDistinct bytes_eq (names_in fs) → IsLoadable es → IsLoadable fs
loadable-bases es fs e d is = record {
  different = d;
  constrained = from-bases [] fs (subst (AreConstrained []) e (into-bases [] es is.constrained));
  relations = from-relations fs (subst HaveRelations e (into-relations es is.relations));
  unbroken = sym (broken-bases es fs is.different d e) ∙ is.unbroken;
  few = subst (λ (n : ℕ). n ≤ most_rows_in_all) (rows-bases es fs e) is.few;
}

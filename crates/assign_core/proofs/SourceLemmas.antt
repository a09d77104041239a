-- The values of sources, evaluated one after another.
use Rattle.std.proofs.Common.{◌≡◌, ℕ, zero, suc, ◌+◌, ◌<◌, List, [], ◌∷◌, ◌++◌, map, take, drop, length, refl, sym, ap, subst, ◌∙◌, arith, Option, Some, None, Result, Ok, Err}
use Rattle.std.specs.Prelude.{slice_index_or}
use Rattle.base_core.specs.Outcomes.{then_give}
use Rattle.point_core.specs.declared.fault.Fault.{Fault}
use Rattle.point_core.specs.declared.fault.Stop.{Stop}
use Rattle.point_core.specs.declared.fault.Stop.TheVariants.{Fault as Faulted, Memory as OfMemory}
use Rattle.point_core.specs.Faults.{OrFault}
use Rattle.relation_core.specs.Answers.{Answers, under}
use Rattle.value_core.specs.Values.{Name, Relation, Heading}
use Rattle.scalar_core.specs.Answers.{Gives}
use Rattle.tree_core.specs.declared.declaration.Assignment.{Assignment}
use Rattle.tree_core.specs.declared.tree.RelTree.{RelTree}
use Rattle.tree_core.specs.Items.{PlainAssignment, read_assignment}
use Rattle.tree_core.specs.Relvars.{PlainRelvar, base, view, Entries, relvar_named, log}
use Rattle.tree_core.specs.Trees.{heading_of, read_tree}
use Rattle.meaning_core.specs.Meanings.{meaning_in}
use Rattle.meaning_core.specs.Names.{given}
use Rattle.meaning_core.specs.WellMade.{IsGiven}
use Rattle.meaning_core.proofs.LookupLemmas.{under_ok, heading_read}
use Rattle.assign_core.specs.Assignments.{seen_by, source_value, with_target, evaluated}
use Rattle.assign_core.specs.Breaches.{value_if}
use Rattle.meaning_core.proofs.RowlessLemmas.{bare_all, own-given, is_given-keeps}

-- ---- one source

-- a target's newest value may be given
pub newest_given : (old new : Entries) (name : Name) (value : Relation) → bare_all new ≡ bare_all old → Some value ≡ value_if (relvar_named new name) → IsGiven old (Some name) (Some value)
newest_given old new name value e is = by (relvar_named new name) refl is
  where
    by : (o : Option PlainRelvar) → relvar_named new name ≡ o → Some value ≡ value_if o → IsGiven old (Some name) (Some value)
    by None q f = absurd (cc)
    by (Some (base v cs)) q f =
        let same : value ≡ v = cc in
        subst (λ (z : Relation). IsGiven old (Some name) (Some z)) (sym same) (is_given-keeps old new (sym e) (Some name) (Some v) (own-given new name v cs q))
    by (Some (view t h)) q f = absurd (cc)
    by (Some (log of side last w)) q f = absurd (cc)

-- what a source sees is what it is given: its own newest value, or nothing where there is none
pub seen_newest : (old new : Entries) (name : Name) (value : Relation) → Some value ≡ value_if (relvar_named new name) → given (Some name) (Some value) old ≡ seen_by old new name
seen_newest old new name value is = ap (λ (o : Option Relation). given (Some name) o old) is

pub seen_old : (old new : Entries) (name : Name) → None ≡ value_if (relvar_named new name) → given None None old ≡ seen_by old new name
seen_old old new name is = same old ∙ ap (λ (o : Option Relation). given (Some name) o old) is
  where
    same : (es : Entries) → given None None es ≡ given (Some name) None es
    same [] = refl
    same (e ∷ es) = ap (λ (z : Entries). e ∷ z) (same es)

pub source_told : (result : Result Relation Stop) (t : RelTree) (given seen : Entries) → given ≡ seen → Answers result (under t.heading (meaning_in given (read_tree t)))
    → Answers result (under (heading_of (read_tree t)) (meaning_in seen (read_tree t)))
source_told result t given seen is told =
    subst (λ (es : Entries). Answers result (under (heading_of (read_tree t)) (meaning_in es (read_tree t)))) is
    (subst (λ (h : Heading). Answers result (under h (meaning_in given (read_tree t)))) (heading_read t) told)

-- the value of a source has its heading
pub source_heading : (old new : Entries) (a : PlainAssignment) (value : Relation) → source_value old new a ≡ Ok value → value.heading ≡ heading_of a.tree
source_heading old new a value e = sym (under_ok (heading_of a.tree) (meaning_in (seen_by old new a.target) a.tree) value e).1

pub one_given : (old new after : Entries) (a : PlainAssignment) (value : Relation) → source_value old new a ≡ Ok value → after ≡ with_target new a.target value
    → evaluated old new (a ∷ []) ≡ Ok after
one_given old new after a value e is =
    ap (λ (r : OrFault Relation). then_give r (λ v. evaluated old (with_target new a.target v) [])) e ∙ ap Ok (sym is)

-- ---- several sources

pub evaluated_then : (old new mid : Entries) (xs ys : List PlainAssignment) → evaluated old new xs ≡ Ok mid → evaluated old new (xs ++ ys) ≡ evaluated old mid ys
evaluated_then old new mid [] ys e = ap (λ (z : OrFault Entries). then_give z (λ n. evaluated old n ys)) e
evaluated_then old new mid (x ∷ xs) ys e = by (source_value old new x) e (λ v. evaluated_then old (with_target new x.target v) mid xs ys)
  where
    by : (r : OrFault Relation) → then_give r (λ v. evaluated old (with_target new x.target v) xs) ≡ Ok mid
        → ((v : Relation) → evaluated old (with_target new x.target v) xs ≡ Ok mid → evaluated old (with_target new x.target v) (xs ++ ys) ≡ evaluated old mid ys)
        → then_give r (λ v. evaluated old (with_target new x.target v) (xs ++ ys)) ≡ evaluated old mid ys
    by (Ok v) f ih = ih v f
    by (Err g) f ih = absurd (cc)

later_failed : (old mid : Entries) (x : PlainAssignment) (ys : List PlainAssignment) (f : Fault) → evaluated old mid (x ∷ []) ≡ Err f → evaluated old mid (x ∷ ys) ≡ Err f
later_failed old mid x ys f e = by (source_value old mid x) e
  where
    by : (r : OrFault Relation) → then_give r (λ v. evaluated old (with_target mid x.target v) []) ≡ Err f → then_give r (λ v. evaluated old (with_target mid x.target v) ys) ≡ Err f
    by (Ok v) g = absurd (cc)
    by (Err d) g = cc

at_turn : (xs : List Assignment) (i : ℕ) (d : Assignment) → i < length xs → map read_assignment xs ≡ map read_assignment (take i xs) ++ read_assignment (slice_index_or xs i d) ∷ map read_assignment (drop (suc i) xs)
at_turn [] i d l = absurd (omega arith)
at_turn (x ∷ xs) zero d l = refl
at_turn (x ∷ xs) (suc i) d l = ap (λ (z : List PlainAssignment). read_assignment x ∷ z) (at_turn xs i d (omega arith))

pub take_more : (xs : List Assignment) (i : ℕ) (d : Assignment) → i < length xs → map read_assignment (take (suc i) xs) ≡ map read_assignment (take i xs) ++ read_assignment (slice_index_or xs i d) ∷ []
take_more [] i d l = absurd (omega arith)
take_more (x ∷ xs) zero d l = refl
take_more (x ∷ xs) (suc i) d l = ap (λ (z : List PlainAssignment). read_assignment x ∷ z) (take_more xs i d (omega arith))

-- a turn that gives a value, and one that fails
pub turn_given : (old new mid after : Entries) (xs : List Assignment) (i : ℕ) (d : Assignment) → i < length xs → evaluated old new (map read_assignment (take i xs)) ≡ Ok mid
    → evaluated old mid (read_assignment (slice_index_or xs i d) ∷ []) ≡ Ok after → evaluated old new (map read_assignment (take (i + 1) xs)) ≡ Ok after
turn_given old new mid after xs i d l e is =
    let one : i + 1 ≡ suc i = omega arith in
    ap (λ (n : ℕ). evaluated old new (map read_assignment (take n xs))) one
    ∙ (ap (evaluated old new) (take_more xs i d l)
    ∙ (evaluated_then old new mid (map read_assignment (take i xs)) (read_assignment (slice_index_or xs i d) ∷ []) e ∙ is))

pub turn_failed : (old new mid after last : Entries) (xs : List Assignment) (i : ℕ) (d : Assignment) (stop : Stop) → i < length xs → evaluated old new (map read_assignment (take i xs)) ≡ Ok mid
    → Gives (λ (done : Unit {0}). after) (Err stop) (evaluated old mid (read_assignment (slice_index_or xs i d) ∷ [])) → Gives (λ (done : Unit {0}). last) (Err stop) (evaluated old new (map read_assignment xs))
turn_failed old new mid after last xs i d (Faulted f) l e told =
    ap (evaluated old new) (at_turn xs i d l)
    ∙ (evaluated_then old new mid (map read_assignment (take i xs)) (read_assignment (slice_index_or xs i d) ∷ map read_assignment (drop (suc i) xs)) e
    ∙ later_failed old mid (read_assignment (slice_index_or xs i d)) (map read_assignment (drop (suc i) xs)) f told)
turn_failed old new mid after last xs i d OfMemory l e told = tt

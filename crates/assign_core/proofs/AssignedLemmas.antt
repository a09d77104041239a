-- What assignments make of a state.
use Rattle.std.proofs.Common.{◌≡◌, ℕ, ◌≤◌, Bool, true, false, cond, nat_le, List, [], ◌∷◌, map, replicate, refl, sym, ap, subst, ◌∙◌, arith, Option, Some, None, Ok, Err}
use Rattle.std.specs.List.{All}
use Rattle.std.proofs.lemmas.Bool.Decides.{nat_tests}
use Rattle.std.proofs.lemmas.List.Elements.{All-nil, All-cons, All-head, All-tail}
use Rattle.point_core.specs.declared.fault.Code.TheVariants.{E46}
use Rattle.point_core.specs.declared.fault.Stop.{Stop}
use Rattle.point_core.specs.declared.fault.Stop.TheVariants.{Fault as Faulted, Memory as OfMemory}
use Rattle.point_core.specs.Faults.{OrFault}
use Rattle.value_core.specs.Limits.{most_rows_in_all}
use Rattle.value_core.specs.declared.constraint.Constraint.{Constraint}
use Rattle.value_core.specs.declared.refuse.Refuse.{Refuse}
use Rattle.value_core.specs.declared.refuse.Refuse.TheVariants.{Plain}
use Rattle.value_core.specs.Refusals.{refusal_of}
use Rattle.value_core.specs.Values.{Relation}
use Rattle.scalar_core.specs.Answers.{Gives}
use Rattle.tree_core.specs.declared.declaration.Assignment.{Assignment}
use Rattle.tree_core.specs.Items.{PlainAssignment, read_assignment}
use Rattle.tree_core.specs.Relvars.{State, PlainRelvar, base, view, Entries, log}
use Rattle.assign_core.specs.Assignments.{evaluated, unless_broken, kept_or_refused, of_values, after_assignments, IsRefusedFor}
use Rattle.assign_core.specs.Breaches.{rows_of_all, first_broken, first_rule_broken}
use Rattle.relvar_logs.specs.Changes.{Changes, AreChanges, changed}
use Rattle.assign_core.specs.Checks.{IsChecked, AreChecked, AllChecked}
use Rattle.assign_core.specs.Databases.{IsKept}
use Rattle.assign_core.proofs.ChangeLemmas.{bare_changed, none_changed}
use Rattle.assign_core.proofs.RuleLemmas.{rules_hold}
use Rattle.assign_core.proofs.RemovedLemmas.{AreFitting, AllFit, constraints_of, all_fit}
use Rattle.meaning_core.proofs.RowlessLemmas.{bare_all, bare-keeps}

-- ---- what is meant

pub from_none : (es : Entries) (none : Changes) (n : ℕ) (list : List PlainAssignment) → none ≡ replicate n None → evaluated es (changed none es) list ≡ evaluated es es list
from_none es none n list e = ap (λ (z : Entries). evaluated es z list) (ap (λ (cs : Changes). changed cs es) e ∙ none_changed es n)

pub stopped : (es start last : Entries) (list : List PlainAssignment) (stop : Stop) → evaluated es start list ≡ evaluated es es list → Gives (λ (done : Unit {0}). last) (Err stop) (evaluated es start list)
    → IsRefusedFor (refusal_of stop) (after_assignments es list)
stopped es start last list (Faulted f) same told = ap of_values (sym same ∙ told)
stopped es start last list OfMemory same told = tt

pub not_admitted : (es new : Entries) (list : List PlainAssignment) (refuse : Refuse) → evaluated es es list ≡ Ok new → IsRefusedFor refuse (kept_or_refused new) → IsRefusedFor refuse (after_assignments es list)
not_admitted es new list refuse e h = subst (λ (r : OrFault Entries). IsRefusedFor refuse (of_values r)) (sym e) h

pub admitted : (es new : Entries) (list : List PlainAssignment) → evaluated es es list ≡ Ok new → kept_or_refused new ≡ Ok new → after_assignments es list ≡ Ok new
admitted es new list e h = ap of_values e ∙ h

pub each_of : (P : PlainAssignment → Type 0) (xs : List Assignment) → All P (map read_assignment xs) → All (λ a. P (read_assignment a)) xs
each_of P [] h = All-nil (λ a. P (read_assignment a))
each_of P (x ∷ xs) h =
    All-cons (λ a. P (read_assignment a)) x xs (All-head P (read_assignment x) (map read_assignment xs) h) (each_of P xs (All-tail P (read_assignment x) (map read_assignment xs) h))

-- ---- what is admitted

abbrev pub IsFine : Entries → Type 0
IsFine new = (rows_of_all new ≤ most_rows_in_all) × (first_broken new ≡ None)

unless_known : (n new : Entries) (o : Option Refuse) → first_broken n ≡ o → rows_of_all n ≤ most_rows_in_all → unless_broken n o ≡ Ok new → IsFine new
unless_known n new (Some refuse) b few e = absurd (cc)
unless_known n new None b few e = let same : n ≡ new = cc in subst IsFine same (few, b)

few_known : (n new : Entries) (t : Bool) → nat_le (rows_of_all n) most_rows_in_all ≡ t → cond t (unless_broken n (first_broken n)) (Err (Plain E46)) ≡ Ok new → IsFine new
few_known n new false q e = absurd (cc)
few_known n new true q e = let few : rows_of_all n ≤ most_rows_in_all = grind (arith, nat_tests) in unless_known n new (first_broken n) refl few e

pub is_fine : (r : OrFault Entries) (new : Entries) → of_values r ≡ Ok new → IsFine new
is_fine (Err f) new e = absurd (cc)
is_fine (Ok n) new e = few_known n new (nat_le (rows_of_all n) most_rows_in_all) refl e

-- ---- what stays

each_checked : (all : Entries) (value : Relation) (own cs : List Constraint) → AreFitting all (base value own) cs → All (IsChecked all value.heading) cs
each_checked all value own [] fit = All-nil (IsChecked all value.heading)
each_checked all value own (c ∷ cs) fit =
    All-cons (IsChecked all value.heading) c cs (record { names = fit.0.0; fits = fit.0.1 }) (each_checked all value own cs fit.1)

relvar_checked : (all : Entries) (r : PlainRelvar) → AreFitting all r (constraints_of r) → AreChecked all r
relvar_checked all (base value constraints) fit = each_checked all value constraints constraints fit
relvar_checked all (view t kind) fit = tt
relvar_checked all (log of side last w) fit = tt

all_checked : (all es : Entries) → AllFit all es → AllChecked all es
all_checked all [] fit = tt
all_checked all (e ∷ es) fit = (relvar_checked all e.1 fit.0, all_checked all es fit.1)

pub kept_checked : (s : State) (cs : Changes) → IsKept s → AreChanges cs s.relvars → AllChecked (changed cs s.relvars) (changed cs s.relvars)
kept_checked s cs kept are =
    let new = changed cs s.relvars in
    let made = bare-keeps s new (bare_changed cs s.relvars are) kept.well_made in
    all_checked new new (all_fit (record s { relvars = new }) made)

-- relvars with other rows, where they are admitted and break no database constraint
pub assigned_kept : (s : State) (new : Entries) (list : List PlainAssignment) → IsKept s → bare_all new ≡ bare_all s.relvars → after_assignments s.relvars list ≡ Ok new → first_rule_broken new s.rules ≡ None
    → IsKept (record s { relvars = new })
assigned_kept s new list kept bare e none =
    let fine = is_fine (evaluated s.relvars s.relvars list) new e in
    record {
      well_made = bare-keeps s new bare kept.well_made;
      holds = fine.1;
      few = fine.0;
      rules = rules_hold new s.rules none;
    }

-- Logs stay in step where their relvars keep their rows.
--     step_more, step_left      among more entries, and among those that are left
--     declared_step, removed_step, stays_in_step      where something is declared, or dropped, and where nothing changes
use Rattle.std.proofs.Common.{◌≡◌, ℕ, zero, suc, ◌<◌, ℤ, Bool, true, false, cond, List, [], ◌∷◌, ◌++◌, length, refl, sym, ap, ◌∙◌, subst, Some, None, Result, Ok, Err}
use Rattle.std.specs.List.{All}
use Rattle.std.proofs.lemmas.List.Elements.{All-append, All-cons, All-head, All-tail}
use Rattle.point_core.specs.declared.fault.Code.TheVariants.{E45}
use Rattle.value_core.specs.declared.refuse.Refuse.{Refuse}
use Rattle.value_core.specs.declared.refuse.Refuse.TheVariants.{Broken}
use Rattle.value_core.specs.Values.{Name}
use Rattle.tree_core.specs.Relvars.{PlainRelvar, base, view, log, Entries, State, relvar_named}
use Rattle.tree_core.specs.Trees.{Test}
use Rattle.tree_core.specs.Uses.{is_one_of}
use Rattle.meaning_core.specs.Declarations.{PlainDeclaration, ordinal_type, base_relvar, view_relvar, with_declaration, with_rule, without_all}
use Rattle.meaning_core.specs.Logs.{has_log, base_rows, IsInStep, AreInStep}
use Rattle.meaning_core.specs.Truths.{holds_in}
use Rattle.meaning_core.specs.WellMade.{IsBase, IsWellMade, sizes_of}
use Rattle.meaning_core.proofs.ElsewhereLemmas.{left, left-kept, left-gone, apart-some, named-left}
use Rattle.relvar_logs.specs.Changes.{IsSoAt}
use Rattle.relvar_logs.specs.Turning.{IsOfBase}
use Rattle.relvar_logs.proofs.NextLemmas.{base_before, of_base_there, all_so}
use Rattle.relvar_logs.proofs.TurningLemmas.{all_there}
use Rattle.assign_core.specs.Assignments.{constrained, IsDone}
use Rattle.assign_core.specs.Databases.{declared}
use Rattle.assign_core.proofs.DeclaredLemmas.{all_added, declared_added}
use Rattle.assign_core.proofs.LogLemmas.{alone_in_step}

-- a log is in step where its relvar has the same rows
module _ (n : ℤ) (known old new : Entries) (same : (name : Name) → IsBase (relvar_named known name) → base_rows (relvar_named new name) ≡ base_rows (relvar_named old name)) where
  one-step : (r : PlainRelvar) → IsOfBase known r → IsInStep n old r → IsInStep n new r
  one-step (base value constraints) of h = tt
  one-step (view t kind) of h = tt
  one-step (log name side last value) of h = (h.0, h.1 ∙ sym (same name of.0))

  step-there : (es : Entries) (i : ℕ) → IsSoAt i (IsOfBase known) es → IsSoAt i (IsInStep n old) es → IsSoAt i (IsInStep n new) es
  step-there [] i of h = h
  step-there (e ∷ es) zero of h = one-step e.1 of h
  step-there (e ∷ es) (suc i) of h = step-there es i of h

  all-step : (es : Entries) → ((i : ℕ) → i < length es → IsSoAt i (IsOfBase known) es) → All (λ r. IsInStep n old r.1) es → All (λ r. IsInStep n new r.1) es
  all-step es of h = all_there (IsInStep n new) es (λ i l. step-there es i (of i l) (all_so (IsInStep n old) es i h l))

-- entries behind others, without a log among them
pub step_more : (s : State) (n : ℤ) (more : Entries) → IsWellMade s → has_log more ≡ false → AreInStep n s.relvars → AreInStep n (s.relvars ++ more)
step_more s n more made none step =
    let es = s.relvars in
    All-append (λ r. IsInStep n (es ++ more) r.1) es more
    (all-step n es es (es ++ more) (λ name b. ap base_rows (base_before es more name b)) es (λ i l. of_base_there (sizes_of s.ordinals) es i made.relvars l) step)
    (alone_in_step n (es ++ more) more none)

-- ---- what is left

pub left-none : (some : Name → Bool) (es : Entries) (name : Name) → some name ≡ true → relvar_named (left some es) name ≡ None
left-none some [] name one = refl
left-none some (e ∷ es) name one = by (some e.0) refl (left-none some es name one)
  where
    by : (b : Bool) → some e.0 ≡ b → relvar_named (left some es) name ≡ None → relvar_named (left some (e ∷ es)) name ≡ None
    by true q more = ap (λ (l : Entries). relvar_named l name) (left-gone some e es q) ∙ more
    by false q more =
        ap (λ (l : Entries). relvar_named l name) (left-kept some e es q)
        ∙ (ap (λ (b : Bool). cond b (Some e.1) (relvar_named (left some es) name)) (apart-some some e.0 name q one) ∙ more)

left-same : (some : Name → Bool) (es : Entries) (name : Name) → IsBase (relvar_named (left some es) name) → base_rows (relvar_named (left some es) name) ≡ base_rows (relvar_named es name)
left-same some es name b = by (some name) refl
  where
    by : (t : Bool) → some name ≡ t → base_rows (relvar_named (left some es) name) ≡ base_rows (relvar_named es name)
    by true q = absurd (subst IsBase (left-none some es name q) b)
    by false q = ap base_rows (named-left some es name q)

left-all : (some : Name → Bool) (P : Name × PlainRelvar → Type 0) (es : Entries) → All P es → All P (left some es)
left-all some P [] h = h
left-all some P (e ∷ es) h = by (some e.0) refl (left-all some P es (All-tail P e es h))
  where
    by : (b : Bool) → some e.0 ≡ b → All P (left some es) → All P (left some (e ∷ es))
    by true q more = subst (All P) (sym (left-gone some e es q)) more
    by false q more = subst (All P) (sym (left-kept some e es q)) (All-cons P e (left some es) (All-head P e es h) more)

pub step_left : (s : State) (n : ℤ) (names : List Name) → IsWellMade (without_all names s) → AreInStep n s.relvars → AreInStep n (without_all names s).relvars
step_left s n names made step =
    let some = is_one_of names in
    let es = s.relvars in
    all-step n (left some es) es (left some es) (left-same some es) (left some es) (λ i l. of_base_there (sizes_of s.ordinals) (left some es) i made.relvars l)
    (left-all some (λ r. IsInStep n es r.1) es step)

-- ---- databases

no-logs : (ds : List PlainDeclaration) → has_log (all_added ds) ≡ false
no-logs [] = refl
no-logs (ordinal_type name values ∷ ds) = no-logs ds
no-logs (base_relvar name heading constraints ∷ ds) = no-logs ds
no-logs (view_relvar name t kind ∷ ds) = no-logs ds

same-number : (s : State) (ds : List PlainDeclaration) → (declared s ds).accepted ≡ s.accepted
same-number s [] = refl
same-number s (d ∷ ds) = same-number (with_declaration s d) ds ∙ one d
  where
    one : (e : PlainDeclaration) → (with_declaration s e).accepted ≡ s.accepted
    one (ordinal_type name values) = refl
    one (base_relvar name heading constraints) = refl
    one (view_relvar name t kind) = refl

-- the logs of a state are in step
abbrev pub IsStepped : State → Type 0
IsStepped s = AreInStep s.accepted s.relvars

pub declared_step : (s now : State) (ds : List PlainDeclaration) → now ≡ declared s ds → IsWellMade s → IsStepped s → IsStepped now
declared_step s now ds e made step =
    subst IsStepped (sym e)
    (subst (λ (n : ℤ). AreInStep n (declared s ds).relvars) (sym (same-number s ds))
    (subst (AreInStep s.accepted) (sym (declared_added s ds)) (step_more s s.accepted (all_added ds) made (no-logs ds) step)))

pub removed_step : (s now : State) (names : List Name) → now ≡ without_all names s → IsWellMade (without_all names s) → IsStepped s → IsStepped now
removed_step s now names e made step = subst IsStepped (sym e) (step_left s s.accepted names made step)

pub stays_in_step : (s now : State) → now ≡ s → IsStepped s → IsStepped now
stays_in_step s now e step = subst IsStepped (sym e) step

pub added_step : (result : Result (Unit {0}) Refuse) (s now : State) (name : Name) (t : Test) → IsDone result s now (constrained s name t) → IsStepped s → IsStepped now
added_step (Ok done) s now name t told step = by (holds_in s.relvars t) told
  where
    by : (b : Bool) → cond b (Ok (with_rule name t s)) (Err (Broken E45 name 0)) ≡ Ok now → IsStepped now
    by true e = let same : with_rule name t s ≡ now = cc in subst IsStepped same step
    by false e = absurd (cc)
added_step (Err refuse) s now name t told step = subst IsStepped (sym told.1) step

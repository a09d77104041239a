-- Database constraints that hold, and the first that does not.
--     rules_hold, none_broken      none is broken, and each holds
--     first_kept, first_here, cost_kept, cost_here      one more is looked at
--     assigned_here, refused_here      what assignments come to
--     with_rule_kept, without_rule_kept      the state with one more, and without one
use Rattle.std.proofs.Common.{◌≡◌, ℕ, zero, suc, ◌+◌, ◌<◌, ◌≤◌, Bool, true, false, not, cond, List, [], ◌∷◌, ◌++◌, map, drop, length, refl, sym, ap, subst, ◌∙◌, arith, Option, Some, None, Result, Ok, Err}
use Rattle.std.specs.Prelude.{slice_index_or}
use Rattle.std.specs.List.{All, IsDistinct, AllByRecursion}
use Rattle.std.specs.Str.{bytes_eq}
use Rattle.std.proofs.lemmas.List.Elements.{All-nil, All-cons, All-head, All-tail, All-push, All-filter}
use Rattle.point_core.specs.declared.fault.Code.TheVariants.{E45}
use Rattle.value_core.specs.declared.refuse.Refuse.{Refuse}
use Rattle.value_core.specs.declared.refuse.Refuse.TheVariants.{Plain, At, Broken, Memory}
use Rattle.value_core.specs.Values.{Name}
use Rattle.tree_core.specs.Items.{PlainAssignment}
use Rattle.tree_core.specs.Relvars.{Entries, Rules, State}
use Rattle.tree_core.specs.Trees.{Test}
use Rattle.tree_core.specs.Uses.{test_names_any}
use Rattle.meaning_core.specs.Logs.{over_log}
use Rattle.meaning_core.specs.Declarations.{with_rule, without_rule}
use Rattle.meaning_core.specs.Truths.{holds_in}
use Rattle.meaning_core.specs.WellMade.{all_names, IsTypedTestFor, IsWellMade}
use Rattle.algebra_core.specs.Costs.{test_cost}
use Rattle.assign_core.specs.Assignments.{after_assignments, assigned_beside, constrained, unless_broken, unless_rule_broken, IsAssignedBeside, IsDone, IsRefusedFor}
use Rattle.assign_core.specs.Breaches.{first_rule_broken}
use Rattle.assign_core.specs.Changes.{Tells}
use Rattle.assign_core.specs.Costs.{rules_cost, rules_cost_of}
use Rattle.assign_core.specs.Databases.{IsKept, IsSettled}
use Rattle.assign_core.proofs.NameLemmas.{apart_from, distinct_more}

-- ---- all hold

pub rules_hold : (es : Entries) (rs : Rules) → first_rule_broken es rs ≡ None → All (λ r. holds_in es r.1 ≡ true) rs
rules_hold es [] e = All-nil (λ r. holds_in es r.1 ≡ true)
rules_hold es (r ∷ rs) e = by (holds_in es r.1) refl (rules_hold es rs) e
  where
    by : (b : Bool) → holds_in es r.1 ≡ b → (first_rule_broken es rs ≡ None → All (λ z. holds_in es z.1 ≡ true) rs)
        → cond b (first_rule_broken es rs) (Some (Broken E45 r.0 0)) ≡ None → All (λ z. holds_in es z.1 ≡ true) (r ∷ rs)
    by true q ih f = All-cons (λ z. holds_in es z.1 ≡ true) r rs q (ih f)
    by false q ih f = absurd (cc)

-- ---- one more is looked at

module _ (es : Entries) where
  holds_first : (r : Name × Test) → Tells (Ok tt) (first_rule_broken es (r ∷ [])) → holds_in es r.1 ≡ true
  holds_first r e = by (holds_in es r.1) refl e
    where
      by : (b : Bool) → holds_in es r.1 ≡ b → cond b None (Some (Broken E45 r.0 0)) ≡ None → holds_in es r.1 ≡ true
      by true q f = q
      by false q f = absurd (cc)

  pub first_kept : (rs : Rules) (i : ℕ) (d : Name × Test) → i < length rs → Tells (Ok tt) (first_rule_broken es (slice_index_or rs i d ∷ []))
      → first_rule_broken es (drop i rs) ≡ first_rule_broken es (drop (i + 1) rs)
  first_kept rs i d l told =
      let one : i + 1 ≡ suc i = omega arith in
      by rs i l told ∙ ap (λ (m : ℕ). first_rule_broken es (drop m rs)) (sym one)
    where
      by : (xs : Rules) (k : ℕ) → k < length xs → Tells (Ok tt) (first_rule_broken es (slice_index_or xs k d ∷ [])) → first_rule_broken es (drop k xs) ≡ first_rule_broken es (drop (suc k) xs)
      by [] k m t = absurd (omega arith)
      by (x ∷ xs) zero m t = ap (λ (b : Bool). cond b (first_rule_broken es xs) (Some (Broken E45 x.0 0))) (holds_first x t)
      by (x ∷ xs) (suc k) m t = by xs k (omega arith) t

  told_none : (x : Refuse) (o : Option Refuse) → Tells (Err x) None → Tells (Err x) o
  told_none (Plain code) o t = absurd t
  told_none (At fault) o t = absurd t
  told_none (Broken code relvar number) o t = absurd (cc)
  told_none Memory o t = tt

  told_first : (refuse : Refuse) (r : Name × Test) (rs : Rules) → Tells (Err refuse) (first_rule_broken es (r ∷ [])) → Tells (Err refuse) (first_rule_broken es (r ∷ rs))
  told_first refuse r rs told = by (holds_in es r.1) told
    where
      by : (b : Bool) → Tells (Err refuse) (cond b None (Some (Broken E45 r.0 0))) → Tells (Err refuse) (cond b (first_rule_broken es rs) (Some (Broken E45 r.0 0)))
      by true t = told_none refuse (first_rule_broken es rs) t
      by false t = t

  pub first_here : (refuse : Refuse) (rs : Rules) (i : ℕ) (d : Name × Test) → i < length rs → Tells (Err refuse) (first_rule_broken es (slice_index_or rs i d ∷ []))
      → Tells (Err refuse) (first_rule_broken es (drop i rs))
  first_here refuse [] i d l told = absurd (omega arith)
  first_here refuse (x ∷ xs) zero d l told = told_first refuse x xs told
  first_here refuse (x ∷ xs) (suc i) d l told = first_here refuse xs i d (omega arith) told

  pub all_kept : (rs : Rules) (i : ℕ) → length rs ≤ i → first_rule_broken es (drop i rs) ≡ None
  all_kept [] zero l = refl
  all_kept [] (suc i) l = refl
  all_kept (r ∷ rs) zero l = absurd (omega arith)
  all_kept (r ∷ rs) (suc i) l = all_kept rs i (omega arith)

  pub cost_kept : (rs : Rules) (i : ℕ) (d : Name × Test) → i < length rs → Tells (Ok tt) (first_rule_broken es (slice_index_or rs i d ∷ []))
      → rules_cost es (drop i rs) ≡ test_cost es (slice_index_or rs i d).1 + rules_cost es (drop (i + 1) rs)
  cost_kept rs i d l told =
      let one : i + 1 ≡ suc i = omega arith in
      by rs i l told ∙ ap (λ (m : ℕ). test_cost es (slice_index_or rs i d).1 + rules_cost es (drop m rs)) (sym one)
    where
      by : (xs : Rules) (k : ℕ) → k < length xs → Tells (Ok tt) (first_rule_broken es (slice_index_or xs k d ∷ []))
          → rules_cost es (drop k xs) ≡ test_cost es (slice_index_or xs k d).1 + rules_cost es (drop (suc k) xs)
      by [] k m t = absurd (omega arith)
      by (x ∷ xs) zero m t = ap (λ (b : Bool). test_cost es x.1 + cond b (rules_cost es xs) 0) (holds_first x t)
      by (x ∷ xs) (suc k) m t = by xs k (omega arith) t

  pub cost_here : (rs : Rules) (i : ℕ) (d : Name × Test) → i < length rs → test_cost es (slice_index_or rs i d).1 ≤ rules_cost es (drop i rs)
  cost_here [] i d l = absurd (omega arith)
  cost_here (x ∷ xs) zero d l = omega arith
  cost_here (x ∷ xs) (suc i) d l = cost_here xs i d (omega arith)

-- ---- what assignments come to

pub broken_told : (refuse : Refuse) (new : Entries) (o : Option Refuse) → Tells (Err refuse) o → IsRefusedFor refuse (unless_broken new o)
broken_told (Plain code) new o told = absurd told
broken_told (At fault) new o told = absurd told
broken_told (Broken code relvar number) new o told = ap (unless_broken new) told
broken_told Memory new o told = tt

-- what is meant turns on no log
abbrev pub IsPlainFor : State → List PlainAssignment → Type 0
IsPlainFor s list = assigned_beside s list ≡ unless_rule_broken s.rules (after_assignments s.relvars list)

pub refused_before : (refuse : Refuse) (s : State) (list : List PlainAssignment) → IsPlainFor s list → IsRefusedFor refuse (after_assignments s.relvars list) → IsRefusedFor refuse (assigned_beside s list)
refused_before (Plain code) s list plain e = plain ∙ ap (unless_rule_broken s.rules) e
refused_before (At fault) s list plain e = plain ∙ ap (unless_rule_broken s.rules) e
refused_before (Broken code relvar number) s list plain e = plain ∙ ap (unless_rule_broken s.rules) e
refused_before Memory s list plain e = tt

pub settled_assigned : (result : Result (Unit {0}) Refuse) (s now : State) (new : Entries) (list : List PlainAssignment) → IsPlainFor s list → after_assignments s.relvars list ≡ Ok new
    → IsSettled result s now new → IsAssignedBeside result s now list
settled_assigned (Ok done) s now new list plain e told = (
  plain ∙ (ap (unless_rule_broken s.rules) e ∙ (ap (unless_broken new) told.0 ∙ ap (λ (t : State). Ok t.relvars) (sym told.1))),
  told.1 ∙ ap (λ (t : State). record s { relvars = t.relvars }) (sym told.1),
)
settled_assigned (Err refuse) s now new list plain e told = (
  subst (λ (r : Result Entries Refuse). IsRefusedFor refuse r) (sym (plain ∙ ap (unless_rule_broken s.rules) e)) (broken_told refuse new (first_rule_broken new s.rules) told.0),
  told.1,
)

pub cost_of_rules : (s : State) (new : Entries) (list : List PlainAssignment) → after_assignments s.relvars list ≡ Ok new
    → rules_cost_of s.rules (after_assignments s.relvars list) ≡ rules_cost new s.rules
cost_of_rules s new list e = ap (rules_cost_of s.rules) e

-- ---- one more

pub typed_last : (s : State) (name : Name) (t : Test) → IsWellMade (with_rule name t s) → IsTypedTestFor s t
typed_last s name t made = last s.rules made.rules
  where
    last : (rs : Rules) → All (λ r. IsTypedTestFor s r.1) (rs ++ (name, t) ∷ []) → IsTypedTestFor s t
    last [] h = All-head (λ r. IsTypedTestFor s r.1) (name, t) [] h
    last (r ∷ rs) h = last rs (All-tail (λ r. IsTypedTestFor s r.1) r (rs ++ (name, t) ∷ []) h)

pub with_rule_kept : (s : State) (name : Name) (t : Test) → IsKept s → IsWellMade (with_rule name t s) → holds_in s.relvars t ≡ true → IsKept (with_rule name t s)
with_rule_kept s name t kept made holds = record {
  well_made = made;
  holds = kept.holds;
  few = kept.few;
  rules = All-push (λ r. holds_in s.relvars r.1 ≡ true) s.rules (name, t) kept.rules holds;
}

pub constrained_done : (s : State) (name : Name) (t : Test) → holds_in s.relvars t ≡ true → constrained s name t ≡ Ok (with_rule name t s)
constrained_done s name t holds = ap (λ (b : Bool). cond b (Ok (with_rule name t s)) (Err (Broken E45 name 0))) holds

pub constrained_broken : (s : State) (name : Name) (t : Test) → holds_in s.relvars t ≡ false → constrained s name t ≡ Err (Broken E45 name 0)
constrained_broken s name t broken = ap (λ (b : Bool). cond b (Ok (with_rule name t s)) (Err (Broken E45 name 0))) broken

-- what is kept where a database constraint is added, or refused
pub added_kept : (result : Result (Unit {0}) Refuse) (s now : State) (name : Name) (t : Test) → IsKept s → IsWellMade (with_rule name t s) → IsDone result s now (constrained s name t)
    → IsKept now
added_kept (Ok done) s now name t kept made told = by (holds_in s.relvars t) refl told
  where
    by : (b : Bool) → holds_in s.relvars t ≡ b → cond b (Ok (with_rule name t s)) (Err (Broken E45 name 0)) ≡ Ok now → IsKept now
    by true q e = let same : with_rule name t s ≡ now = cc in subst IsKept same (with_rule_kept s name t kept made q)
    by false q e = absurd (cc)
added_kept (Err refuse) s now name t kept made told = subst IsKept (sym told.1) kept

-- ---- one less

fewer : (rs : Rules) (name : Name) → length (apart_from name rs) ≤ length rs
fewer [] name = omega arith
fewer (r ∷ rs) name = by (bytes_eq r.0 name) (fewer rs name)
  where
    by : (b : Bool) → length (apart_from name rs) ≤ length rs → length (cond (not b) (r ∷ apart_from name rs) (apart_from name rs)) ≤ length (r ∷ rs)
    by true ih = omega (arith, ih)
    by false ih = omega (arith, ih)

all_fewer : (P : Name → Type 0) (rs : Rules) (name : Name) (more : List Name) → AllByRecursion P (map (λ k. k.0) rs ++ more) → AllByRecursion P (map (λ k. k.0) (apart_from name rs) ++ more)
all_fewer P [] name more h = h
all_fewer P (r ∷ rs) name more h = by (bytes_eq r.0 name) (all_fewer P rs name more h.1)
  where
    by : (b : Bool) → AllByRecursion P (map (λ k. k.0) (apart_from name rs) ++ more)
        → AllByRecursion P (map (λ k. k.0) (cond (not b) (r ∷ apart_from name rs) (apart_from name rs)) ++ more)
    by true ih = ih
    by false ih = (h.0, ih)

distinct_fewer : (rs : Rules) (name : Name) (more : List Name) → IsDistinct bytes_eq (map (λ k. k.0) rs ++ more) → IsDistinct bytes_eq (map (λ k. k.0) (apart_from name rs) ++ more)
unfolding IsDistinct
distinct_fewer [] name more h = h
distinct_fewer (r ∷ rs) name more h = by (bytes_eq r.0 name) (distinct_fewer rs name more h.1) (all_fewer (λ y. bytes_eq r.0 y ≡ false) rs name more h.0)
  where
    by : (b : Bool) → IsDistinct bytes_eq (map (λ k. k.0) (apart_from name rs) ++ more) → AllByRecursion (λ y. bytes_eq r.0 y ≡ false) (map (λ k. k.0) (apart_from name rs) ++ more)
        → IsDistinct bytes_eq (map (λ k. k.0) (cond (not b) (r ∷ apart_from name rs) (apart_from name rs)) ++ more)
    by true ih here = ih
    by false ih here = distinct_more r.0 (map (λ k. k.0) (apart_from name rs) ++ more) here ih

in_parts : (xs ys zs : List Name) → (xs ++ ys) ++ zs ≡ xs ++ (ys ++ zs)
in_parts [] ys zs = refl
in_parts (x ∷ xs) ys zs = ap (λ (z : List Name). x ∷ z) (in_parts xs ys zs)

without_rule_different : (s : State) (name : Name) → IsDistinct bytes_eq (all_names s) → IsDistinct bytes_eq (all_names (without_rule name s))
without_rule_different s name h =
    let ordinals : List Name = map (λ o. o.name) s.ordinals in
    let relvars : List Name = map (λ r. r.0) s.relvars in
    subst (IsDistinct bytes_eq) (sym (in_parts (map (λ k. k.0) (apart_from name s.rules)) ordinals relvars))
    (distinct_fewer s.rules name (ordinals ++ relvars) (subst (IsDistinct bytes_eq) (in_parts (map (λ k. k.0) s.rules) ordinals relvars) h))

pub without_rule_kept : (s : State) (name : Name) → IsKept s → IsKept (without_rule name s)
without_rule_kept s name kept = record {
  well_made = record {
    few = kept.well_made.few;
    ordinals = kept.well_made.ordinals;
    different = without_rule_different s name kept.well_made.different;
    relvars = kept.well_made.relvars;
    few_rules =
        let less = fewer s.rules name in
        let few = kept.well_made.few_rules in
        omega (arith, less, few);
    rules = All-filter (λ r. not (bytes_eq r.0 name)) (λ r. IsTypedTestFor s r.1) s.rules kept.well_made.rules;
    apart = All-filter (λ r. not (bytes_eq r.0 name)) (λ r. test_names_any (over_log s.relvars) r.1 ≡ false) s.rules kept.well_made.apart;
  };
  holds = kept.holds;
  few = kept.few;
  rules = All-filter (λ r. not (bytes_eq r.0 name)) (λ r. holds_in s.relvars r.1 ≡ true) s.rules kept.rules;
}

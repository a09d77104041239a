-- The relation of an operand is what its expression means.
use Rattle.std.proofs.Common.{◌≡◌, ◌≤◌, ℕ, List, length, sym, ap, ◌∙◌, subst, Some, Ok, Err}
use Rattle.point_core.specs.declared.fault.Place.{Place}
use Rattle.point_core.specs.Faults.{OrFault}
use Rattle.value_core.specs.Values.{Name, Row, Heading, Relation, most_rows}
use Rattle.relation_core.specs.Answers.{under}
use Rattle.tree_core.specs.Relvars.{PlainRelvar, base, view, log}
use Rattle.tree_core.specs.Trees.{named, heading_of}
use Rattle.base_core.specs.Outcomes.{then_give}
use Rattle.meaning_core.specs.Meanings.{RowsMeant, at_name, limited, meaning, plainly}
use Rattle.algebra_core.specs.Operands.{held, IsKept}
use Rattle.meaning_core.specs.Names.{IsFirstAt}
use Rattle.algebra_core.specs.Scopes.{CanEvaluate, all_of, with_of, value_of, current, known_at, entry_meaning}
use Rattle.algebra_core.specs.declared.operand.Operand.{Operand}
use Rattle.algebra_core.specs.declared.scope.Scope.{Scope}
use Rattle.algebra_core.proofs.EvalLemmas.{named_meant, base_meant, can_look_up}
use Rattle.algebra_core.proofs.StoredLemmas.{nothing, stored_meant}
use Rattle.meaning_core.proofs.LimitLemmas.{limited_few}

pub held_given : (m : OrFault Relation) (operand : Operand) (a : Relation) → m ≡ Ok (held operand) → a ≡ held operand → m ≡ Ok a
held_given m operand a e same = e ∙ ap (λ (r : Relation). Ok r) (sym same)

-- a name adds nothing to what is few enough
named_few : (h : Heading) (m : RowsMeant) (place : Place) (v : Relation) → length v.rows ≤ most_rows → under h m ≡ Ok v
    → under h (then_give (at_name place m) (limited place)) ≡ Ok v
named_few h (Ok rows) place v few e =
    let same : rows ≡ v.rows = cc in
    ap (under h) (limited_few place rows (subst (λ (rs : List Row). length rs ≤ most_rows) (sym same) few)) ∙ e
named_few h (Err d) place v few e = absurd (cc)

same_value : (a b : Relation) → Some a ≡ Some b → a ≡ b
same_value a b e = cc

module _ (s : Scope) (place : Place) (h : Heading) (name : Name) (at : ℕ) where
  pub kept_meant : (x : PlainRelvar) (v : Relation) → CanEvaluate s (named place h name) → IsFirstAt (all_of s) name at x → IsKept s name at x v
      → under h (meaning (known_at s) plainly (named place h name)) ≡ Ok v
  kept_meant (base old constraints) v can first kept =
      let here = base_meant s name at old constraints (can_look_up s place h name at (base old constraints) can first) in
      let whole = here ∙ ap (λ (r : Relation). Ok r) (same_value (current (with_of s) (value_of s) name old) v kept.is) in
      named_meant s place h name at (base old constraints) can first (Ok v) (named_few old.heading (entry_meaning s name at (base old constraints)) place v kept.few whole)
  kept_meant (view t kind) v can first kept =
      let whole = stored_meant s name at t kind v (can_look_up s place h name at (view t kind) can first) kept.is in
      named_meant s place h name at (view t kind) can first (Ok v) (named_few (heading_of t) (entry_meaning s name at (view t kind)) place v kept.few whole)
  kept_meant (log of side last value) v can first kept = absurd (nothing v kept.is)

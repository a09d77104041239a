-- What is told of the rows that a rule gives is told of what the expression means.
--     rows_told      of the rows
--     limited_many      too many rows are a fault
--     made_fits, made_cost_told      what the call that makes them asks, and what it takes
use Rattle.std.proofs.Common.{◌≡◌, ◌<◌, ◌≤◌, ◌+◌, ℕ, List, length, Option, Result, Ok, Err, sym, ap, ◌∙◌, subst, arith}
use Rattle.std.specs.Prelude.{MatchResult}
use Rattle.std.proofs.lemmas.Bool.Decides.{nat_tests}
use Rattle.point_core.specs.Faults.{fault}
use Rattle.point_core.specs.declared.fault.Code.TheVariants.{E35}
use Rattle.point_core.specs.declared.fault.Place.{Place}
use Rattle.value_core.specs.Values.{Row, Relation, most_rows}
use Rattle.value_core.specs.declared.refuse.RowsRefuse.{RowsRefuse}
use Rattle.value_core.specs.declared.refuse.RowsRefuse.TheVariants.{TooMany, Memory}
use Rattle.relation_core.specs.Answers.{IsAnswer, IsRefusal}
use Rattle.tree_core.specs.Relvars.{Entries}
use Rattle.tree_core.specs.Trees.{Tree}
use Rattle.cell_core.specs.Costs.{bound}
use Rattle.meaning_core.specs.Meanings.{limited, meaning_in}
use Rattle.meaning_core.proofs.LimitLemmas.{limited_few}
use Rattle.kept_views.specs.Kept.{kept_heading, kept_rows, rows_or_none, Fits}
use Rattle.kept_views.specs.declared.rule.KeptRule.{KeptRule}
use Rattle.stored_views.specs.Operands.{AreValues}
use Rattle.stored_views.specs.Rules.{rule_for, place_for, IsMade, IsUnmade}
use Rattle.stored_views.specs.Stored.{made_cost}
use Rattle.stored_views.proofs.MeantLemmas.{IsRuleOf, made_price}

pub limited_many : (place : Place) (rows : List Row) → most_rows < length rows → limited place rows ≡ Err (fault place E35)
limited_many place rows h = grind (arith, nat_tests)

module _ (all : Entries) (t : Tree) (left : Relation) (right : Option Relation) (rule : KeptRule) (same : rule ≡ rule_for t) where
  pub made_fits : IsRuleOf all t left right → Fits rule left right
  made_fits is = subst (λ (k : KeptRule). Fits k left right) (sym same) is.fits

  told : (result : Result Relation RowsRefuse) → IsRuleOf all t left right → MatchResult result (IsAnswer (kept_heading (rule_for t) left right) (kept_rows (rule_for t) left right)) (IsRefusal (kept_rows (rule_for t) left right))
      → MatchResult result (IsMade t (meaning_in all t)) (IsUnmade t (meaning_in all t))
  told (Ok x) is answer =
      record {
        is = is.meant ∙ (limited_few (place_for t) (kept_rows (rule_for t) left right) answer.few ∙ ap (λ (r : Relation). Ok r.rows) (sym answer.is));
        headed = ap (λ (r : Relation). r.heading) answer.is ∙ is.headed;
      }
  told (Err TooMany) is refusal = is.meant ∙ limited_many (place_for t) (kept_rows (rule_for t) left right) refusal
  told (Err Memory) is refusal = tt

  pub rows_told : (result : Result Relation RowsRefuse) → IsRuleOf all t left right → MatchResult result (IsAnswer (kept_heading rule left right) (kept_rows rule left right)) (IsRefusal (kept_rows rule left right))
      → MatchResult result (IsMade t (meaning_in all t)) (IsUnmade t (meaning_in all t))
  rows_told result is answer = told result is (subst (λ (k : KeptRule). MatchResult result (IsAnswer (kept_heading k left right) (kept_rows k left right)) (IsRefusal (kept_rows k left right))) same answer)

  pub made_cost_told : (old new : ℕ) → AreValues all t left right → new ≤ old + bound (length left.rows + length (rows_or_none right)) (length rule.left) → new ≤ old + made_cost all t
  made_cost_told old new values h =
      subst (λ (n : ℕ). new ≤ old + n) (ap (λ (k : KeptRule). bound (length left.rows + length (rows_or_none right)) (length k.left)) same ∙ made_price all t left right values) h

-- What becomes of a base relvar that gets a new value, or other rows.
--     exchange_ready      rows of it are exchanged
--     value_ready      the value that stands ready for it
--     few_turned      whether there are too many rows of all relvars then
use Rattle.std.proofs.Common.{◌≡◌, ◌<◌, ◌≤◌, ◌+◌, ◌-◌, ℕ, Bool, nat_le, List, length, sym, ap, ◌∙◌, arith, Some, None, Ok, Err, replicate}
use Rattle.std.proofs.lemmas.Bool.Decides.{nat_tests}
use Rattle.std.specs.Prelude.{slice_set}
use Rattle.std.specs.List.{IsDistinct}
use Rattle.std.specs.Str.{bytes_eq}
use Rattle.point_core.specs.Faults.{OrFault, fault}
use Rattle.point_core.specs.declared.fault.Code.TheVariants.{E35}
use Rattle.point_core.specs.declared.fault.Place.{Place}
use Rattle.value_core.specs.Limits.{most_rows_in_all}
use Rattle.value_core.specs.Values.{Name, Row, Relation, most_rows}
use Rattle.relation_core.specs.Answers.{under}
use Rattle.u_constraints.specs.Growth.{exchanged}
use Rattle.change_rows.specs.declared.exchange.Exchange.{Exchange}
use Rattle.tree_core.specs.Relvars.{Entries}
use Rattle.meaning_core.specs.Meanings.{RowsMeant, limited}
use Rattle.meaning_core.specs.Names.{given}
use Rattle.meaning_core.proofs.LimitLemmas.{limited_few}
use Rattle.assign_core.specs.Assignments.{with_target}
use Rattle.assign_core.specs.Breaches.{rows_of_all}
use Rattle.relvar_logs.specs.Changes.{Changes, AreChanges, changed}
use Rattle.assign_core.specs.Turnovers.{renewed_at, IsCounted, IsTurnoverOf}
use Rattle.assign_core.specs.Parts.{names_in}
use Rattle.assign_core.specs.Targets.{IsTarget, entries_after, entries_before, entries_with}
use Rattle.assign_core.specs.declared.target.Target.{Target}
use Rattle.assign_core.proofs.ChangeLemmas.{none_changed, put_given}
use Rattle.assign_core.proofs.TurnoverLemmas.{few_after, renewed_given, rows_renewed}

-- rows that are too many
pub limited_over : (place : Place) (rs : List Row) → most_rows < length rs → limited place rs ≡ Err (fault place E35)
limited_over place rs h = grind (arith, nat_tests)

module _ (t : Target) (k : IsTarget t) (different : IsDistinct bytes_eq (names_in (entries_before t))) where
  abbrev es : Entries
  es = entries_before t

  -- the rows of the target are exchanged, where they are not too many then
  pub exchange_ready : (x : Exchange) → length (exchanged t.value.now.rows x.gone.rows x.come.rows) ≤ most_rows → entries_after t x ≡ Ok (renewed_at t.at x es)
  exchange_ready x fits =
      ap (λ (m : RowsMeant). entries_with t (under t.value.now.heading m)) (limited_few t.place (exchanged t.value.now.rows x.gone.rows x.come.rows) fits)
      ∙ ap Ok (sym (renewed_given es t.name.now t.at t.value.now k.constraints x different k.first))

  -- the value that is put in place of its own
  pub value_ready : (cs : Changes) (count : ℕ) (v : Relation) → cs ≡ replicate count None → AreChanges cs es → changed (slice_set cs t.at (Some v)) es ≡ with_target es t.name.now v
  value_ready cs count v empty are =
      put_given es cs t.name.now t.at _ v different are k.first ∙ ap (given (Some t.name.now) (Some v)) (ap (λ (z : Changes). changed z es) empty ∙ none_changed es count)

-- whether there are too many rows of all relvars then
pub few_turned : (es : Entries) (name : Name) (at : ℕ) (value : Relation) (x : Exchange) (cs : Changes) (count gone come : ℕ) (b : Bool) → IsTurnoverOf es name at value x → IsCounted value x → cs ≡ replicate count None
    → length x.gone.rows ≡ gone → length x.come.rows ≡ come → come ≤ most_rows → b ≡ nat_le (rows_of_all (changed cs es)) (most_rows_in_all + gone - come) → b ≡ nat_le (rows_of_all (renewed_at at x es)) most_rows_in_all
few_turned es name at value x cs count gone come b k counted empty out into few told =
    let long = rows_renewed es name at value k.constraints x k.first counted in
    let same : changed cs es ≡ es = ap (λ (z : Changes). changed z es) empty ∙ none_changed es count in
    let little : come ≤ most_rows_in_all = omega (arith, few) in
    let all : rows_of_all (renewed_at at x es) + gone ≡ rows_of_all es + come = omega (arith, long, out, into) in
    few_after (rows_of_all es) (rows_of_all (renewed_at at x es)) gone come most_rows_in_all b all little (told ∙ ap (λ (z : Entries). nat_le (rows_of_all z) (most_rows_in_all + gone - come)) same)

-- A base relvar that has gained rows beside its log.
--     has_room_for      what is meant of the rows is so beside the logs
--     entries_are      what is accepted is what was given
--     found_base      the base relvar is found
--     gains, once, within      the state with the rows, in which its log is to gain them
--     is_back      the state after they are taken out again
use Rattle.std.proofs.Common.{◌≡◌, ℕ, zero, suc, ◌+◌, ◌<◌, ◌≤◌, ℤ, Bool, true, false, cond, nat_le, List, [], ◌∷◌, map, length, refl, sym, ap, ap₂, subst, ◌∙◌, arith, Option, Some, None, Ok, Err}
use Rattle.base_core.specs.Sets.{has}
use Rattle.point_core.specs.declared.fault.Code.TheVariants.{E46}
use Rattle.point_core.specs.declared.fault.Place.{Place}
use Rattle.point_core.specs.Faults.{OrFault}
use Rattle.value_core.specs.declared.refuse.Refuse.{Refuse}
use Rattle.value_core.specs.declared.refuse.Refuse.TheVariants.{Plain}
use Rattle.value_core.specs.Limits.{most_rows_in_all}
use Rattle.value_core.specs.Values.{Name, Row, Relation, row_cmp}
use Rattle.log_times.specs.Turns.{IsExact}
use Rattle.relation_core.specs.Operators.{united, subtracted}
use Rattle.relation_core.proofs.FilterLemmas.{rows_ascend, rows_of-ascending}
use Rattle.tree_core.specs.declared.relvar.Relvar.{Relvar}
use Rattle.tree_core.specs.declared.relvar.Relvars.{Relvars}
use Rattle.tree_core.specs.Relvars.{base, Entries, Rules, State, PlainRelvar, read_entry, read_relvars, read_rule}
use Rattle.meaning_core.specs.Logs.{turned_logs, AreInStep}
use Rattle.meaning_core.specs.Names.{given, given_relvar, IsFirstAt}
use Rattle.meaning_core.proofs.EntryLemmas.{given_first, named_first}
use Rattle.relvar_logs.specs.Changes.{turned_at}
use Rattle.relvar_logs.specs.LoggedChanges.{logs_of, AreChanging}
use Rattle.relvar_logs.proofs.EntryLemmas.{entries_length}
use Rattle.assign_core.specs.Arrivals.{entries_then, IsArrival}
use Rattle.assign_core.specs.Assignments.{kept_or_refused, of_values, unless_broken, unless_rule_broken}
use Rattle.assign_core.specs.Breaches.{first_broken, first_rule_broken, rows_of_all}
use Rattle.assign_core.specs.Costs.{constraints_cost}
use Rattle.assign_core.specs.Databases.{IsKept}
use Rattle.assign_core.specs.Gained.{less, MayGain}
use Rattle.assign_core.specs.Logs.{have_log_room, unless_logs_full}
use Rattle.assign_core.specs.NewRows.{joining, brought_in, joined_cost, values_brought, HasLogRoomFor, IsBaseWith, IsGivenTo, IsToldOf}
use Rattle.assign_core.proofs.GainLemmas.{fewer_new, grown_back, room_given, taken_back}
use Rattle.assign_core.proofs.InTurnLemmas.{apart_left}
use Rattle.assign_core.proofs.LoggedLemmas.{has_changed, fits_then}
use Rattle.assign_core.proofs.NameLemmas.{relvars_differ}
use Rattle.assign_core.proofs.NewRowLemmas.{is_new}
use Rattle.assign_core.proofs.TurnoverLemmas.{none_go, united_new}

pub entries_are : (rules : Rules) (all new : Entries) → unless_rule_broken rules (kept_or_refused all) ≡ Ok new → all ≡ new
entries_are rules all new e = rows (nat_le (rows_of_all all) most_rows_in_all) e
  where
    ruled : (o : Option Refuse) → unless_broken all o ≡ Ok new → all ≡ new
    ruled None f = cc
    ruled (Some refuse) f = absurd (cc)

    own : (o : Option Refuse) → unless_rule_broken rules (unless_broken all o) ≡ Ok new → all ≡ new
    own None f = ruled (first_rule_broken all rules) f
    own (Some refuse) f = absurd (cc)

    rows : (b : Bool) → unless_rule_broken rules (cond b (unless_broken all (first_broken all)) (Err (Plain E46))) ≡ Ok new → all ≡ new
    rows true f = own (first_broken all) f
    rows false f = absurd (cc)

first_within : (es : Entries) (name : Name) (i : ℕ) (x : PlainRelvar) → IsFirstAt es name i x → i < length es
first_within [] name i x h = absurd h
first_within (e ∷ es) name zero x h = omega arith
first_within (e ∷ es) name (suc i) x h = let ih = first_within es name i x h.1 in omega (arith, ih)

module _ (s : State) (name : Name) (rows : Relation) (at : ℕ) (old : Relation) (kept : IsKept s) (step : AreInStep s.accepted s.relvars) (may : MayGain s name rows at old) where
  abbrev grown : Relation
  grown = record { heading = rows.heading; rows = united old.rows rows.rows }

  abbrev after : Entries
  after = given (Some name) (Some grown) s.relvars

  -- the rows that come are new, and none go
  module _ (come gone : Relation) (new : come.rows ≡ subtracted rows.rows old.rows) (none : gone ≡ record { heading = old.heading; rows = [] }) where
    few_come : length come.rows + length gone.rows ≤ length rows.rows
    few_come =
        let news : length come.rows ≡ length (subtracted rows.rows old.rows) = ap (λ (zs : List Row). length zs) new in
        let no : length gone.rows ≡ 0 = ap (λ (r : Relation). length r.rows) none in
        let fewer = fewer_new old.rows rows.rows in
        omega (arith, news, no, fewer)

    all_come : IsExact old.rows come.rows gone.rows
    all_come = subst (λ (r : Relation). IsExact old.rows come.rows r.rows) (sym none) (record {
      new = λ x h. apart_left rows.rows old.rows x (ap (λ (zs : List Row). has row_cmp zs x) (sym new) ∙ h);
      there = λ x h. absurd (cc);
    })

    with_all : united old.rows rows.rows ≡ subtracted (united old.rows come.rows) gone.rows
    with_all = sym (ap₂ (λ (c : List Row) (r : Relation). subtracted (united old.rows c) r.rows) new none ∙ (none_go old.rows (subtracted rows.rows old.rows) ∙ united_new old.rows rows.rows))

    gaining : come.heading ≡ rows.heading → AreChanging s.accepted after name come gone after
    gaining headed =
        has_changed s name at old may.base.constraints grown come gone (length rows.rows) kept step may.base.first (headed ∙ may.base.headed) (ap (λ (r : Relation). r.heading) none) few_come all_come with_all
        may.fits

  has_room : have_log_room (turned_logs after) ≡ true
  has_room =
      let come : Relation = record { heading = rows.heading; rows = subtracted rows.rows old.rows } in
      let none : Relation = record { heading = old.heading; rows = [] } in
      fits_then s name at old may.base.constraints grown come none (length rows.rows) kept step may.base.first may.base.headed refl (few_come come none refl refl) (all_come come none refl refl)
      (with_all come none refl refl) may.fits

  abbrev found : IsBaseWith s name rows.heading
  found = record {
    old = old;
    constraints = may.base.constraints;
    there = named_first s.relvars name at (base old may.base.constraints) may.base.first;
    headed = may.base.headed;
    relation = may.base.relation;
  }

  pub found_base : IsBaseWith s name rows.heading
  found_base = found

  none : 0 ≤ 0 + (joined_cost (joining None) old.rows rows.rows + constraints_cost (entries_then s.relvars (joining None) name old.rows rows))
  none = omega arith

  abbrev arrival : IsArrival s (joining None) name rows (λ m. Unit {0}) 0 0
  arrival = record { base = found; few = may.base.few; fits = may.base.fits; told = tt; cost = none }

  brought_so : (v : Relation) (here there : Place) (given_rows : List Row) → IsGivenTo s name rows v given_rows → values_brought s.relvars (joining None) here there name v given_rows ≡ Ok after
  brought_so v here there given_rows g = is_new s (joining None) name rows (λ m. Unit {0}) 0 0 arrival v here there given_rows g

  pub has_room_for : HasLogRoomFor (joining None) s name rows
  has_room_for = λ v here there given_rows g.
      ap (λ (r : OrFault Entries). unless_logs_full r (brought_in s (joining None) here there name v given_rows)) (brought_so v here there given_rows g)
      ∙ ap (λ (b : Bool). cond b (brought_in s (joining None) here there name v given_rows) (Err (Plain E46))) has_room

  given_to : IsGivenTo s name rows old rows.rows
  given_to = record {
    constraints = may.base.constraints;
    there = named_first s.relvars name at (base old may.base.constraints) may.base.first;
    headed = may.base.headed;
    are = sym (rows_of-ascending rows.rows (rows_ascend rows may.own));
  }

  -- ---- once the rows are brought

  module _ (mid : State) (told : IsToldOf (joining None) (Ok true) s mid name rows) where
    nowhere : Place
    nowhere = record { line = 1; column = 1 }

    became : after ≡ mid.relvars
    became =
        entries_are s.rules after mid.relvars
        (sym (ap (λ (r : OrFault Entries). unless_rule_broken s.rules (of_values r)) (brought_so old nowhere nowhere rows.rows given_to)) ∙ (told old nowhere nowhere rows.rows given_to).0)

    now_is : mid ≡ record s { relvars = mid.relvars }
    now_is = (told old nowhere nowhere rows.rows given_to).1

    pub gains : (come gone : Relation) → come.heading ≡ rows.heading → come.rows ≡ subtracted rows.rows old.rows → gone ≡ record { heading = old.heading; rows = [] }
        → AreChanging mid.accepted mid.relvars name come gone mid.relvars
    gains come gone headed new none =
        subst (λ (n : ℤ). AreChanging n mid.relvars name come gone mid.relvars) (sym (ap (λ (t : State). t.accepted) now_is))
        (subst (λ (es : Entries). AreChanging s.accepted es name come gone es) became (gaining come gone new none headed))

    pub once : length (logs_of name mid.relvars) ≤ 1
    once = subst (λ (es : Entries). length (logs_of name es) ≤ 1) became (room_given name name grown (length rows.rows) most_rows_in_all may.fits.room s.relvars may.fits.logs).once

    pub within : (raw : List (Name × Relvar)) → map read_entry raw ≡ mid.relvars → at < length raw
    within raw is =
        let there = first_within after name at (given_relvar (Some name) (Some grown) name (base old may.base.constraints))
        (given_first (Some name) (Some grown) s.relvars name at (base old may.base.constraints) may.base.first) in
        let same : length raw ≡ length after = sym (entries_length raw) ∙ ap (λ (es : Entries). length es) (is ∙ sym became) in
        omega (arith, there, same)

    taken : (come : Relation) → come.rows ≡ subtracted rows.rows old.rows → turned_at at (less come) mid.relvars ≡ s.relvars
    taken come new =
        let rest : subtracted (united old.rows rows.rows) come.rows ≡ old.rows = ap (subtracted (united old.rows rows.rows)) new ∙ grown_back old.rows rows.rows (rows_ascend old may.base.relation) in
        sym (ap (turned_at at (less come)) became)
        ∙ taken_back s.relvars name at old may.base.constraints grown may.base.first (relvars_differ s kept.well_made) come (λ i. record { heading = may.base.headed i; rows = rest i })

    pub is_back : (come : Relation) (before now : Relvars) → come.rows ≡ subtracted rows.rows old.rows → read_relvars before ≡ mid
        → map read_entry now.list.entries ≡ turned_at at (less come) (map read_entry before.list.entries) → now.ordinals ≡ before.ordinals → now.rules ≡ before.rules → now.accepted ≡ before.accepted
        → read_relvars now ≡ s
    is_back come before now new was list ordinals rules accepted =
        (λ i. record { ordinals = ordinals i; relvars = list i; rules = map read_rule (rules i).entries; accepted = accepted i })
        ∙ (ap (λ (t : State). record t { relvars = turned_at at (less come) t.relvars }) was
        ∙ (ap (λ (es : Entries). record mid { relvars = es }) (taken come new) ∙ ap (λ (t : State). record t { relvars = s.relvars }) now_is))

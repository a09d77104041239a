-- Logs beside what a statement changes.
--     turned_kept, log_kept      what a database keeps, with its logs turned, and with a log more
--     alone_counted      a state without logs that is counted
--     assigned_without_logs, assigned_after      assignments where there is no log, and those that are accepted
--     brought_without_logs      rows that are brought where there is no log
--     refused_full      why assignments are refused before the database constraints are asked
--     next_changed, rows_changed      logs beside new values
use Rattle.std.proofs.Common.{◌≡◌, ℕ, zero, suc, ◌+◌, ◌-◌, ◌<◌, ◌≤◌, ℤ, pos, ◌+ℤ◌, Bool, true, false, cond, nat_le, List, [], ◌∷◌, ◌++◌, map, length, refl, sym, ap, ◌∙◌, subst, arith, true≢false, Option, Some, None, Result, Ok, Err}
use Rattle.std.specs.Prelude.{◌&&◌, ◌||◌, is_ok}
use Rattle.std.specs.List.{All}
use Rattle.std.specs.Str.{bytes_eq}
use Rattle.std.proofs.lemmas.Bool.{or_parts}
use Rattle.std.proofs.lemmas.Bool.Decides.{nat_tests}
use Rattle.std.proofs.lemmas.List.Elements.{All-nil, All-cons, All-head, All-tail}
use Rattle.base_core.specs.Outcomes.{then_give}
use Rattle.point_core.specs.declared.fault.Code.TheVariants.{E46}
use Rattle.point_core.specs.declared.fault.Stop.{Stop}
use Rattle.point_core.specs.declared.fault.Stop.TheVariants.{Fault as Faulted, Memory as OfMemory}
use Rattle.point_core.specs.Faults.{OrFault}
use Rattle.value_core.specs.Limits.{most_rows_in_all}
use Rattle.value_core.specs.declared.constraint.Constraint.{Constraint}
use Rattle.value_core.specs.declared.refuse.Refuse.{Refuse}
use Rattle.value_core.specs.declared.refuse.Refuse.TheVariants.{Plain, At, Broken, Memory}
use Rattle.value_core.specs.Refusals.{refusal_of}
use Rattle.value_core.specs.Values.{Name, Relation, most_rows}
use Rattle.scalar_core.specs.Answers.{Gives}
use Rattle.log_times.specs.Kept.{PlainLog}
use Rattle.tree_core.specs.declared.declaration.LogData.{LogData}
use Rattle.tree_core.specs.Items.{PlainAssignment}
use Rattle.tree_core.specs.Relvars.{PlainRelvar, base, view, log, Entries, Rules, State, relvar_named, heading_if}
use Rattle.tree_core.specs.Uses.{test_names_any}
use Rattle.meaning_core.specs.Declarations.{counted, with_log}
use Rattle.meaning_core.specs.Logs.{is_log, has_log, new_log, over_log, turned_relvar, turned_logs, IsInStep}
use Rattle.meaning_core.specs.Names.{given, given_relvar, with_value}
use Rattle.meaning_core.specs.Truths.{holds_in, is_held}
use Rattle.meaning_core.specs.WellMade.{IsWellMade, sizes_of}
use Rattle.meaning_core.proofs.AcceptedLemmas.{made-turned}
use Rattle.meaning_core.proofs.LogLemmas.{truth-turned, turned-none}
use Rattle.meaning_core.proofs.RowlessLemmas.{bare, bare_all}
use Rattle.u_constraints.specs.Constraints.{names_relvar, rows_or_none}
use Rattle.relation_core.specs.Hashes.{HashList}
use Rattle.relvar_logs.specs.Changes.{Changes, changed_relvar, changed}
use Rattle.relvar_logs.specs.Room.{are_each_few, left_of, log_count, rows_of_logs}
use Rattle.relvar_logs.specs.Turning.{IsNext, AreNext, IsFull}
use Rattle.stored_views.specs.Stored.{are_stored_few, has_stored, rows_of_stored}
use Rattle.stored_views.proofs.BehindLemmas.{few-behind, rows-behind}
use Rattle.assign_core.specs.Assignments.{source_value, with_target, evaluated, unless_broken, kept_or_refused, of_values, after_assignments, unless_rule_broken, assigned_beside, IsDone, IsRefusedFor}
use Rattle.assign_core.specs.Breaches.{value_of, value_if, value_at, or_later, rows_of_all, rows_named, first_in, first_among, first_broken, first_rule_broken}
use Rattle.assign_core.specs.Databases.{IsKept, IsSettled}
use Rattle.assign_core.specs.declared.hashed.Hashed.{Hashed}
use Rattle.assign_core.specs.Hashed.{AreHashed, AreHashesAt, AreHashesIn}
use Rattle.assign_core.specs.Exchanges.{with_ready, IsReady}
use Rattle.assign_core.specs.declared.exchange.Ready.{Ready}
use Rattle.relvar_logs.specs.Opening.{logs_fit, IsOpenedIn}
use Rattle.assign_core.specs.Logs.{counted_if, have_log_room, if_log_room, unless_logs_full, KeepsLogs}
use Rattle.assign_core.specs.NewRows.{Arriving, value_brought, values_brought, HasLogRoomFor}
use Rattle.assign_core.specs.Room.{have_room, opened}
use Rattle.assign_core.proofs.DeclaredLemmas.{kept_more, rows_of_both, rules_stay, same_among}
use Rattle.assign_core.proofs.KindLemmas.{as_many, kinds_alike}
use Rattle.assign_core.proofs.RenewedLemmas.{bare_exchanged}

-- ---- logs that are turned

module _ (all : Entries) where
  abbrev pub turned : Entries → Entries
  turned es = map (λ r. (r.0, turned_relvar all r.1)) es

  value-one : (r : PlainRelvar) → value_of (turned_relvar all r) ≡ value_of r
  value-one (base value constraints) = refl
  value-one (view t kind) = refl
  value-one (log of side last w) = refl

  value-turned : (es : Entries) (name : Name) → value_if (relvar_named (turned es) name) ≡ value_if (relvar_named es name)
  value-turned [] name = refl
  value-turned (e ∷ es) name = by (bytes_eq e.0 name) (value-turned es name)
    where
      by : (b : Bool) → value_if (relvar_named (turned es) name) ≡ value_if (relvar_named es name)
          → value_if (cond b (Some (turned_relvar all e.1)) (relvar_named (turned es) name)) ≡ value_if (cond b (Some e.1) (relvar_named es name))
      by true more = value-one e.1
      by false more = more

  rows-turned : (es : Entries) → rows_of_all (turned es) ≡ rows_of_all es
  rows-turned [] = refl
  rows-turned (e ∷ es) = λ i. length (rows_or_none (value-one e.1 i)) + rows-turned es i

  first-turned : (other es : Entries) → first_among other (turned es) ≡ first_among other es
  first-turned other [] = refl
  first-turned other (e ∷ es) = λ i. or_later (first-one e.1 i) (first-turned other es i)
    where
      first-one : (r : PlainRelvar) → first_in other e.0 (turned_relvar all r) ≡ first_in other e.0 r
      first-one (base value constraints) = refl
      first-one (view t kind) = refl
      first-one (log of side last w) = refl

named-turned : (es : Entries) (c : Constraint) → rows_named (turned_logs es) c ≡ rows_named es c
named-turned es c = by (names_relvar c)
  where
    by : (o : Option Name) → rows_or_none (value_at (turned_logs es) o) ≡ rows_or_none (value_at es o)
    by None = refl
    by (Some name) = ap rows_or_none (value-turned es es name)

pub rows_turned : (es : Entries) → rows_of_all (turned_logs es) ≡ rows_of_all es
rows_turned es = rows-turned es es

rules-turned : (es : Entries) (rs : Rules) → All (λ r. test_names_any (over_log es) r.1 ≡ false) rs → All (λ r. holds_in es r.1 ≡ true) rs → All (λ r. holds_in (turned_logs es) r.1 ≡ true) rs
rules-turned es [] apart held = All-nil (λ r. holds_in (turned_logs es) r.1 ≡ true)
rules-turned es (r ∷ rs) apart held =
    All-cons (λ z. holds_in (turned_logs es) z.1 ≡ true) r rs
    (sym (ap is_held (truth-turned es r.1 (All-head (λ z. test_names_any (over_log es) z.1 ≡ false) r rs apart))) ∙ All-head (λ z. holds_in es z.1 ≡ true) r rs held)
    (rules-turned es rs (All-tail (λ z. test_names_any (over_log es) z.1 ≡ false) r rs apart) (All-tail (λ z. holds_in es z.1 ≡ true) r rs held))

-- what a database keeps is kept where a statement is counted
pub turned_kept : (s : State) → IsKept s → IsKept (counted s)
turned_kept s kept = record {
  well_made = made-turned s kept.well_made;
  holds = first-turned s.relvars (turned_logs s.relvars) s.relvars ∙ (same_among (turned_logs s.relvars) s.relvars s.relvars (named-turned s.relvars) ∙ kept.holds);
  few = let same = rows_turned s.relvars in let few = kept.few in omega (arith, same, few);
  rules = rules-turned s.relvars s.rules kept.well_made.apart kept.rules;
}

-- and where a log is declared
pub log_kept : (s : State) (d : LogData) → IsKept s → IsWellMade (with_log s d) → IsKept (with_log s d)
log_kept s d kept made =
    let more : Entries = (d.name, new_log (heading_if (relvar_named s.relvars d.of)) s.accepted d) ∷ [] in
    record {
      well_made = made;
      holds = kept_more s.relvars more (refl, tt) kept.holds;
      few = let both = rows_of_both s.relvars more in let few = kept.few in omega (arith, both, few);
      rules = rules_stay (sizes_of s.ordinals) s.relvars more s.rules kept.well_made.rules kept.rules;
    }

-- ---- without logs

bare-log : (r : PlainRelvar) → is_log (bare r) ≡ is_log r
bare-log (base value constraints) = refl
bare-log (view t kind) = refl
bare-log (log of side last w) = refl

bare-logs : (es : Entries) → has_log (bare_all es) ≡ has_log es
bare-logs [] = refl
bare-logs (e ∷ es) = λ i. bare-log e.1 i || bare-logs es i

-- entries that differ in their rows alone have logs or not
pub logs_alike : (es fs : Entries) → bare_all es ≡ bare_all fs → has_log es ≡ has_log fs
logs_alike es fs e = sym (bare-logs es) ∙ (ap has_log e ∙ bare-logs fs)

pub alone_counted : (s : State) → has_log s.relvars ≡ false → counted s ≡ record s { accepted = s.accepted +ℤ pos 1 }
alone_counted s none = λ i. record s { relvars = turned-none s.relvars none i; accepted = s.accepted +ℤ pos 1 }

step-none : (n : ℤ) (all : Entries) (r : PlainRelvar) → is_log r ≡ false → IsInStep n all r
step-none n all (base value constraints) none = tt
step-none n all (view t kind) none = tt
step-none n all (log of side last w) none = absurd (true≢false none)

-- entries without a log are in step with any others
pub alone_in_step : (n : ℤ) (all es : Entries) → has_log es ≡ false → All (λ r. IsInStep n all r.1) es
alone_in_step n all [] h = All-nil (λ r. IsInStep n all r.1)
alone_in_step n all (e ∷ es) h =
    let parts = or_parts (is_log e.1) (has_log es) h in
    All-cons (λ r. IsInStep n all r.1) e es (step-none n all e.1 parts.0) (alone_in_step n all es parts.1)

given-log : (o : Option Name) (v : Option Relation) (e : Name × PlainRelvar) → is_log (given_relvar o v e.0 e.1) ≡ is_log e.1
given-log None v e = refl
given-log (Some name) None e = refl
given-log (Some name) (Some value) e = by (bytes_eq e.0 name) e.1
  where
    by : (b : Bool) (r : PlainRelvar) → is_log (cond b (with_value value r) r) ≡ is_log r
    by true (base old constraints) = refl
    by true (view t kind) = refl
    by true (log of side last w) = refl
    by false r = refl

given-logs : (o : Option Name) (v : Option Relation) (es : Entries) → has_log (given o v es) ≡ has_log es
given-logs o v [] = refl
given-logs o v (e ∷ es) = λ i. given-log o v e i || given-logs o v es i

-- where the source of an assignment gives a value
then-logs : (v : OrFault Relation) (next : Relation → OrFault Entries) (last new : Entries) → ((value : Relation) → next value ≡ Ok last → has_log last ≡ has_log new) → then_give v next ≡ Ok last → has_log last ≡ has_log new
then-logs (Ok value) next last new more e = more value e
then-logs (Err fault) next last new more e = absurd (cc)

evaluated-logs : (old new last : Entries) (list : List PlainAssignment) → evaluated old new list ≡ Ok last → has_log last ≡ has_log new
evaluated-logs old new last [] e = let same : new ≡ last = cc in sym (ap has_log same)
evaluated-logs old new last (a ∷ list) e =
    then-logs (source_value old new a) (λ value. evaluated old (with_target new a.target value) list) last new
    (λ value f. evaluated-logs old (with_target new a.target value) last list f ∙ given-logs (Some a.target) (Some value) new) e

pub no-rows : (es : Entries) → has_log es ≡ false → (rows_of_logs es ≡ 0) × (are_each_few es ≡ true)
no-rows [] none = (refl, refl)
no-rows (e ∷ es) none =
    let parts = or_parts (is_log e.1) (has_log es) none in
    let more = no-rows es parts.1 in
    let one = no-rows-one e.1 parts.0 in
    (let here = one.0 in let there = more.0 in omega (arith, here, there), λ i. one.1 i && more.1 i)
  where
    no-rows-one : (r : PlainRelvar) → is_log r ≡ false → (log_count r ≡ 0) × (nat_le (log_count r) most_rows ≡ true)
    no-rows-one (base value constraints) h = (refl, refl)
    no-rows-one (view t kind) h = (refl, refl)
    no-rows-one (log of side last w) h = absurd (true≢false h)

and-true : (b : Bool) → (b && true) ≡ b
and-true true = refl
and-true false = refl

room-alone : (es : Entries) → has_log es ≡ false → have_log_room (turned_logs es) ≡ nat_le (rows_of_all es) most_rows_in_all
room-alone es none =
    let rows = no-rows es none in
    let sum : rows_of_all es + rows_of_logs es ≡ rows_of_all es = let n = rows.0 in omega (arith, n) in
    ap have_log_room (turned-none es none) ∙ ((λ i. nat_le (sum i) most_rows_in_all && rows.1 i) ∙ and-true (nat_le (rows_of_all es) most_rows_in_all))

-- what is meant where there is no log then
full-alone : (rules : Rules) (v : OrFault Entries) → ((new : Entries) → v ≡ Ok new → has_log new ≡ false) → unless_logs_full v (unless_rule_broken rules (of_values v)) ≡ unless_rule_broken rules (of_values v)
full-alone rules (Err fault) none = refl
full-alone rules (Ok new) none =
    ap (λ (b : Bool). cond b (unless_rule_broken rules (kept_or_refused new)) (Err (Plain E46))) (room-alone new (none new refl)) ∙ few (nat_le (rows_of_all new) most_rows_in_all) refl
  where
    few : (b : Bool) → nat_le (rows_of_all new) most_rows_in_all ≡ b → cond b (unless_rule_broken rules (kept_or_refused new)) (Err (Plain E46)) ≡ unless_rule_broken rules (kept_or_refused new)
    few true q = refl
    few false q = sym (ap (λ (b : Bool). unless_rule_broken rules (cond b (unless_broken new (first_broken new)) (Err (Plain E46)))) q)

-- assignments where there is no log
pub assigned_without_logs : (s : State) (list : List PlainAssignment) → has_log s.relvars ≡ false → assigned_beside s list ≡ unless_rule_broken s.rules (after_assignments s.relvars list)
assigned_without_logs s list none =
    full-alone s.rules (evaluated s.relvars s.relvars list) (λ new e. evaluated-logs s.relvars s.relvars new list e ∙ none)

-- rows that are brought where there is no log
pub brought_without_logs : (s : State) (way : Arriving) (name : Name) (rows : Relation) → has_log s.relvars ≡ false → HasLogRoomFor way s name rows
brought_without_logs s way name rows none = λ old at there given_rows g.
    full-alone s.rules (values_brought s.relvars way at there name old given_rows) (λ new e.
    then-logs (value_brought way at there old given_rows) (λ value. Ok (with_target s.relvars name value)) new s.relvars
    (λ value f. let same : with_target s.relvars name value ≡ new = cc in sym (ap has_log same) ∙ given-logs (Some name) (Some value) s.relvars) e
    ∙ none)

-- ---- with logs

unbroken : (mid new : Entries) (o : Option Refuse) → unless_broken mid o ≡ Ok new → mid ≡ new
unbroken mid new None e = cc
unbroken mid new (Some refuse) e = absurd (cc)

-- assignments that are accepted
pub assigned_after : (s : State) (list : List PlainAssignment) (new : Entries) → assigned_beside s list ≡ Ok new → after_assignments s.relvars list ≡ Ok new
assigned_after s list new e = by (evaluated s.relvars s.relvars list) e
  where
    rules-kept : (r : Result Entries Refuse) → unless_rule_broken s.rules r ≡ Ok new → r ≡ Ok new
    rules-kept (Ok mid) f = ap Ok (unbroken mid new (first_rule_broken mid s.rules) f)
    rules-kept (Err refuse) f = absurd (cc)

    by : (v : OrFault Entries) → unless_logs_full v (unless_rule_broken s.rules (of_values v)) ≡ Ok new → of_values v ≡ Ok new
    by (Err fault) f = rules-kept (of_values (Err fault)) f
    by (Ok mid) f = room (have_log_room (turned_logs mid)) f
      where
        room : (b : Bool) → cond b (unless_rule_broken s.rules (kept_or_refused mid)) (Err (Plain E46)) ≡ Ok new → kept_or_refused mid ≡ Ok new
        room true g = rules-kept (kept_or_refused mid) g
        room false g = absurd (cc)

refused-through : (refuse : Refuse) (rules : Rules) (r : Result Entries Refuse) → IsRefusedFor refuse r → IsRefusedFor refuse (unless_rule_broken rules r)
refused-through (Plain code) rules r e = ap (unless_rule_broken rules) e
refused-through (At fault) rules r e = ap (unless_rule_broken rules) e
refused-through (Broken code relvar number) rules r e = ap (unless_rule_broken rules) e
refused-through Memory rules r e = tt

-- refused before the database constraints are asked
pub refused_full : (refuse : Refuse) (s : State) (list : List PlainAssignment)
    → IsRefusedFor refuse (unless_logs_full (evaluated s.relvars s.relvars list) (after_assignments s.relvars list)) → IsRefusedFor refuse (assigned_beside s list)
refused_full refuse s list h = by (evaluated s.relvars s.relvars list) (after_assignments s.relvars list) h
  where
    by : (v : OrFault Entries) (r : Result Entries Refuse) → IsRefusedFor refuse (unless_logs_full v r) → IsRefusedFor refuse (unless_logs_full v (unless_rule_broken s.rules r))
    by (Err fault) r k = refused-through refuse s.rules r k
    by (Ok new) r k = room (have_log_room (turned_logs new)) k
      where
        room : (b : Bool) → IsRefusedFor refuse (cond b r (Err (Plain E46))) → IsRefusedFor refuse (cond b (unless_rule_broken s.rules r) (Err (Plain E46)))
        room true l = refused-through refuse s.rules r l
        room false l = l

-- ---- new values

next-one : (n : ℤ) (all : Entries) (t : Option PlainLog) (c : Option Relation) (r : PlainRelvar) → IsNext n all t r → IsNext n all t (changed_relvar c r)
next-one n all t None r h = h
next-one n all t (Some value) (base old constraints) h = tt
next-one n all t (Some value) (view t' kind) h = tt
next-one n all t (Some value) (log of side last w) h = h

pub next_changed : (n : ℤ) (all : Entries) (ts : List (Option PlainLog)) (cs : Changes) (es : Entries) → AreNext n all ts es → AreNext n all ts (changed cs es)
next_changed n all ts [] es h = h
next_changed n all [] (c ∷ cs) [] h = tt
next_changed n all (t ∷ ts) (c ∷ cs) [] h = tt
next_changed n all [] (c ∷ cs) (e ∷ es) h = (next-one n all None c e.1 h.0, next_changed n all [] cs es h.1)
next_changed n all (t ∷ ts) (c ∷ cs) (e ∷ es) h = (next-one n all t c e.1 h.0, next_changed n all ts cs es h.1)

count-one : (all : Entries) (c : Option Relation) (r : PlainRelvar) → log_count (turned_relvar all (changed_relvar c r)) ≡ log_count (turned_relvar all r)
count-one all None r = refl
count-one all (Some value) (base old constraints) = refl
count-one all (Some value) (view t kind) = refl
count-one all (Some value) (log of side last w) = refl

-- new values have nothing to do with the rows of logs
pub rows_changed : (all : Entries) (cs : Changes) (es : Entries) → rows_of_logs (turned all (changed cs es)) ≡ rows_of_logs (turned all es)
rows_changed all [] es = refl
rows_changed all (c ∷ cs) [] = refl
rows_changed all (c ∷ cs) (e ∷ es) = λ i. count-one all c e.1 i + rows_changed all cs es i

pub few_changed : (all : Entries) (cs : Changes) (es : Entries) → are_each_few (turned all (changed cs es)) ≡ are_each_few (turned all es)
few_changed all [] es = refl
few_changed all (c ∷ cs) [] = refl
few_changed all (c ∷ cs) (e ∷ es) = λ i. nat_le (count-one all c e.1 i) most_rows && few_changed all cs es i

-- ---- room

same-tests : (R L most : ℕ) (a b : Bool) → L ≤ most → nat_le R (most - L) ≡ a → nat_le (R + L) most ≡ b → a ≡ b
same-tests R L most true true l e f = refl
same-tests R L most false false l e f = refl
same-tests R L most true false l e f =
    let m : R ≤ (most - L) = grind (arith, nat_tests) in
    let k : most < (R + L) = grind (arith, nat_tests) in
    absurd (omega (arith, l, m, k))
same-tests R L most false true l e f =
    let m : (most - L) < R = grind (arith, nat_tests) in
    let k : (R + L) ≤ most = grind (arith, nat_tests) in
    absurd (omega (arith, l, m, k))

pub fits : (R L room most : ℕ) → Some room ≡ left_of most L → nat_le R room ≡ nat_le (R + L) most
fits R L room most e = by (nat_le L most) refl e
  where
    by : (b : Bool) → nat_le L most ≡ b → Some room ≡ cond b (Some (most - L)) None → nat_le R room ≡ nat_le (R + L) most
    by true q f =
        let l : L ≤ most = grind (arith, nat_tests) in
        let same : room ≡ most - L = cc in
        ap (nat_le R) same ∙ same-tests R L most (nat_le R (most - L)) (nat_le (R + L) most) l refl refl
    by false q f = absurd (cc)

pub fits_not : (R L most : ℕ) → None ≡ left_of most L → nat_le (R + L) most ≡ false
fits_not R L most e = by (nat_le L most) (nat_le (R + L) most) refl refl e
  where
    by : (b d : Bool) → nat_le L most ≡ b → nat_le (R + L) most ≡ d → None ≡ cond b (Some (most - L)) None → d ≡ false
    by true d q r f = absurd (cc)
    by false false q r f = refl
    by false true q r f =
        let m : most < L = grind (arith, nat_tests) in
        let k : (R + L) ≤ most = grind (arith, nat_tests) in
        absurd (omega (arith, m, k))

-- the room that new values leave, by the logs as they are among the old ones
pub room_changed : (cs : Changes) (es : Entries) → have_log_room (turned_logs (changed cs es))
    ≡ (nat_le (rows_of_all (changed cs es) + rows_of_logs (turned (changed cs es) es)) most_rows_in_all && are_each_few (turned (changed cs es) es))
room_changed cs es =
    let new = changed cs es in
    λ i. nat_le (rows_turned new i + rows_changed new cs es i) most_rows_in_all && few_changed new cs es i

pub and-false : (b : Bool) → (b && false) ≡ false
and-false true = refl
and-false false = refl

not-room : (new : Entries) → have_log_room (turned_logs new) ≡ false → if_log_room new ≡ Err (Plain E46)
not-room new e = ap (λ (b : Bool). cond b (Ok new) (Err (Plain E46))) e

pub full_refused : (cs : Changes) (es : Entries) (refuse : Refuse) → IsFull (changed cs es) es refuse → IsRefusedFor refuse (if_log_room (changed cs es))
full_refused cs es (Plain code) h =
    let new = changed cs es in
    let none : have_log_room (turned_logs new) ≡ false =
    room_changed cs es ∙ (ap (λ (b : Bool). nat_le (rows_of_all new + rows_of_logs (turned new es)) most_rows_in_all && b) h.1 ∙ and-false (nat_le (rows_of_all new + rows_of_logs (turned new es)) most_rows_in_all)) in
    not-room new none ∙ ap (λ c. Err (Plain c)) (sym h.0)
full_refused cs es (At fault) h = absurd h
full_refused cs es (Broken code relvar number) h = absurd h
full_refused cs es Memory h = tt

pub no_room_refused : (new : Entries) → have_log_room (turned_logs new) ≡ false → IsRefusedFor (Plain E46) (if_log_room new)
no_room_refused new e = not-room new e

-- ---- what is refused of assignments, with logs

pub fault_full : {V : Type 0} (read : V → Entries) (es : Entries) (list : List PlainAssignment) (stop : Stop) → Gives read (Err stop) (evaluated es es list)
    → IsRefusedFor (refusal_of stop) (unless_logs_full (evaluated es es list) (after_assignments es list))
fault_full read es list (Faulted f) told = ap (λ (r : OrFault Entries). unless_logs_full r (of_values r)) told
fault_full read es list OfMemory told = tt

room-refused : (refuse : Refuse) (new : Entries) (meant : Result Entries Refuse) (b : Bool) → IsRefusedFor refuse (cond b (Ok new) (Err (Plain E46))) → IsRefusedFor refuse (cond b meant (Err (Plain E46)))
room-refused (Plain code) new meant true h = absurd (cc)
room-refused (At fault) new meant true h = absurd (cc)
room-refused (Broken code relvar number) new meant true h = absurd (cc)
room-refused Memory new meant true h = tt
room-refused refuse new meant false h = h

pub room_full : (es new : Entries) (list : List PlainAssignment) (refuse : Refuse) → evaluated es es list ≡ Ok new → IsRefusedFor refuse (if_log_room new)
    → IsRefusedFor refuse (unless_logs_full (evaluated es es list) (after_assignments es list))
room_full es new list refuse e h =
    subst (λ (r : OrFault Entries). IsRefusedFor refuse (unless_logs_full r (of_values r))) (sym e) (room-refused refuse new (kept_or_refused new) (have_log_room (turned_logs new)) h)

pub admitted_full : (es new : Entries) (list : List PlainAssignment) (refuse : Refuse) → evaluated es es list ≡ Ok new → have_log_room (turned_logs new) ≡ true → IsRefusedFor refuse (kept_or_refused new)
    → IsRefusedFor refuse (unless_logs_full (evaluated es es list) (after_assignments es list))
admitted_full es new list refuse e room h =
    subst (λ (r : OrFault Entries). IsRefusedFor refuse (unless_logs_full r (of_values r))) (sym e) (subst (λ (b : Bool). IsRefusedFor refuse (cond b (kept_or_refused new) (Err (Plain E46)))) (sym room) h)

-- what is meant, where there is room
pub with_room : (es new : Entries) (list : List PlainAssignment) (meant : Result Entries Refuse) → evaluated es es list ≡ Ok new → have_log_room (turned_logs new) ≡ true → unless_logs_full (evaluated es es list) meant ≡ meant
with_room es new list meant e room = ap (λ (r : OrFault Entries). unless_logs_full r meant) e ∙ ap (λ (b : Bool). cond b meant (Err (Plain E46))) room

-- ---- hashes

hashes-turned : (all : Entries) (i : ℕ) (ms : List HashList) (es : Entries) → AreHashesAt i ms es → AreHashesAt i ms (turned all es)
hashes-turned all i ms [] h = tt
hashes-turned all zero ms (e ∷ es) h = one e.1 h
  where
    one : (r : PlainRelvar) → AreHashesIn ms r → AreHashesIn ms (turned_relvar all r)
    one (base value constraints) k = k
    one (view t kind) k = tt
    one (log of side last w) k = tt
hashes-turned all (suc i) ms (e ∷ es) h = hashes-turned all i ms es h

pub hashed_turned : (m : Hashed) (es : Entries) → AreHashed m es → AreHashed m (turned_logs es)
hashed_turned m es h k d l = hashes-turned es _ _ es (h k d l)

-- ---- faults of sources

pub fault_given : {V : Type 0} (read : V → Entries) (es start last : Entries) (list : List PlainAssignment) (stop : Stop) → evaluated es start list ≡ evaluated es es list
    → Gives (λ (done : Unit {0}). last) (Err stop) (evaluated es start list) → Gives read (Err stop) (evaluated es es list)
fault_given read es start last list (Faulted f) same told = sym same ∙ told
fault_given read es start last list OfMemory same told = tt

-- ---- what is settled

-- a state that stays
pub stays_logs : (s now : State) → now ≡ s → KeepsLogs s now
stays_logs s now e = (ap (λ (t : State). has_log t.relvars) e, ap (λ (t : State). t.accepted) e, ap (λ (t : State). has_stored t.relvars) e, ap (λ (t : State). length t.relvars) e)

-- logs and kinds of views stay, and the number of accepted statements
pub settled_logs : (result : Result (Unit {0}) Refuse) (s now : State) (r : Ready) → IsReady r s.relvars → IsSettled result s now (with_ready r s.relvars) → KeepsLogs s now
settled_logs (Ok done) s now r ready told =
    let bare = bare_exchanged r.changes.items s.relvars ready in (
      ap (λ (t : State). has_log t.relvars) told.1 ∙ logs_alike (with_ready r s.relvars) s.relvars bare,
      ap (λ (t : State). t.accepted) told.1,
      ap (λ (t : State). has_stored t.relvars) told.1 ∙ kinds_alike (with_ready r s.relvars) s.relvars bare,
      ap (λ (t : State). length t.relvars) told.1 ∙ as_many (with_ready r s.relvars) s.relvars bare,
    )
settled_logs (Err refuse) s now r ready told = stays_logs s now told.1

-- ---- nothing stands ready

pub none_ready : (n : ℤ) (all es : Entries) → All (λ r. IsInStep n all r.1) es → AreNext n all [] es
none_ready n all [] h = tt
none_ready n all (e ∷ es) h = (one e.1 (All-head (λ r. IsInStep n all r.1) e es h), none_ready n all es (All-tail (λ r. IsInStep n all r.1) e es h))
  where
    one : (r : PlainRelvar) → IsInStep n all r → IsNext n all None r
    one (base value constraints) k = tt
    one (view t kind) k = tt
    one (log of side last w) k = k

-- ---- a log that is opened

fit-same : (rows : ℕ) (s : State) (d : LogData) → IsWellMade s → rows ≡ rows_of_all s.relvars + rows_of_stored s.relvars → are_stored_few s.relvars ≡ true
    → have_room (with_log s d).relvars ≡ logs_fit rows (turned_logs (with_log s d).relvars)
fit-same rows s d made e few =
    let more : Entries = (d.name, new_log (heading_if (relvar_named s.relvars d.of)) s.accepted d) ∷ [] in
    let new : Entries = s.relvars ++ more in
    let logs : Entries = turned_logs new in
    let both = rows_of_both s.relvars more in
    let stored = rows-behind s more made refl in
    let sum : rows_of_all new + rows_of_logs logs + rows_of_stored new ≡ rows + rows_of_logs logs = omega (arith, both, stored, e) in
    (λ i. nat_le (sum i) most_rows_in_all && (are_each_few logs && few-behind s more made refl i))
    ∙ ((λ i. nat_le (rows + rows_of_logs logs) most_rows_in_all && (are_each_few logs && few i)) ∙ ap (λ (b : Bool). nat_le (rows + rows_of_logs logs) most_rows_in_all && b) (and-true (are_each_few logs)))

pub opened_done : (rows : ℕ) (result : Result (Unit {0}) Refuse) (s new : State) (d : LogData) → IsWellMade s → rows ≡ rows_of_all s.relvars + rows_of_stored s.relvars → are_stored_few s.relvars ≡ true
    → IsOpenedIn rows result s new d → (mid : State) × IsDone result s mid (opened s d) × (new ≡ counted_if (is_ok result) mid)
opened_done rows (Ok done) s new d made e few h =
    (with_log s d, ap (λ (b : Bool). cond b (Ok (with_log s d)) (Err (Plain E46))) (fit-same rows s d made e few ∙ h.0), h.1)
opened_done rows (Err (Plain code)) s new d made e few h =
    (s, (ap (λ (b : Bool). cond b (Ok (with_log s d)) (Err (Plain E46))) (fit-same rows s d made e few ∙ h.1) ∙ ap (λ c. Err (Plain c)) (sym h.0), refl), h.2)
opened_done rows (Err (At fault)) s new d made e few h = absurd h
opened_done rows (Err (Broken code relvar number)) s new d made e few h = absurd h
opened_done rows (Err Memory) s new d made e few h = (s, (tt, refl), h)

pub opened_kept : (rows : ℕ) (result : Result (Unit {0}) Refuse) (s new : State) (d : LogData) → IsKept s → IsWellMade (with_log s d) → IsOpenedIn rows result s new d → IsKept new
opened_kept rows (Ok done) s new d kept made h = subst IsKept (sym h.1) (turned_kept (with_log s d) (log_kept s d kept made))
opened_kept rows (Err (Plain code)) s new d kept made h = subst IsKept (sym h.2) kept
opened_kept rows (Err (At fault)) s new d kept made h = absurd h
opened_kept rows (Err (Broken code relvar number)) s new d kept made h = absurd h
opened_kept rows (Err Memory) s new d kept made h = subst IsKept (sym h) kept

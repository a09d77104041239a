-- States without stored views: what is meant beside their logs is all that is meant.
--     assigned_unstored, room_unstored      assignments, and rows that are brought
--     told_unstored      what is told of assignments
--     unstored_after      there is none after assignments either
--     nothing_stored      what a database keeps of none
use Rattle.std.proofs.Common.{◌≡◌, ◌⊎◌, inl, inr, ℕ, ◌+◌, ◌≤◌, Bool, true, false, cond, nat_le, List, [], ◌∷◌, length, refl, sym, ap, ◌∙◌, subst, arith, Option, Some, None, Result, Ok, Err}
use Rattle.std.specs.Prelude.{◌&&◌, ◌||◌, is_ok}
use Rattle.std.specs.Str.{bytes_eq}
use Rattle.std.proofs.lemmas.List.{length-map}
use Rattle.base_core.specs.Outcomes.{then_give}
use Rattle.point_core.specs.declared.fault.Code.TheVariants.{E46}
use Rattle.point_core.specs.declared.fault.Place.{Place}
use Rattle.point_core.specs.Faults.{OrFault}
use Rattle.value_core.specs.Limits.{most_rows_in_all}
use Rattle.value_core.specs.declared.refuse.Refuse.{Refuse}
use Rattle.value_core.specs.declared.refuse.Refuse.TheVariants.{Plain}
use Rattle.value_core.specs.Values.{Name, Row, Relation}
use Rattle.tree_core.specs.Items.{PlainAssignment}
use Rattle.tree_core.specs.Relvars.{PlainRelvar, base, view, log, Entries, State}
use Rattle.meaning_core.specs.Declarations.{counted}
use Rattle.meaning_core.specs.Logs.{turned_logs}
use Rattle.meaning_core.specs.Names.{given, given_entry, given_relvar, with_value}
use Rattle.relvar_logs.specs.Room.{are_each_few, rows_of_logs}
use Rattle.stored_views.specs.Stored.{has_stored, is_stored, rows_of_stored}
use Rattle.stored_views.proofs.TurnedLemmas.{has_stored-turned}
use Rattle.stored_views.proofs.UnstoredLemmas.{no_faults, no_rows, unstored}
use Rattle.assign_core.specs.Assignments.{source_value, with_target, evaluated, of_values, after_assignments, unless_rule_broken, assigned_beside, assigned_in, IsAssigned, IsAssignedBeside, IsRefusedFor}
use Rattle.assign_core.specs.Breaches.{rows_of_all}
use Rattle.assign_core.specs.Databases.{IsKept}
use Rattle.assign_core.specs.Keeping.{AreStoredIn}
use Rattle.assign_core.specs.Logs.{counted_if, have_log_room, unless_logs_full, IsUnstored, KeepsLogs}
use Rattle.assign_core.specs.NewRows.{Arriving, value_brought, values_brought, brought_in, HasLogRoomFor, HasLogRoomIf, HasRoomFor, HasRoomIf}
use Rattle.assign_core.specs.Room.{have_room, unless_full}
use Rattle.assign_core.proofs.GainedLemmas.{entries_are}
use Rattle.assign_core.proofs.LogLemmas.{assigned_after, rows_turned}

-- ---- sources

given-kind : (o : Option Name) (v : Option Relation) (e : Name × PlainRelvar) → is_stored (given_relvar o v e.0 e.1) ≡ is_stored e.1
given-kind None v e = refl
given-kind (Some name) None e = refl
given-kind (Some name) (Some value) e = by (bytes_eq e.0 name) e.1
  where
    by : (b : Bool) (r : PlainRelvar) → is_stored (cond b (with_value value r) r) ≡ is_stored r
    by true (base old constraints) = refl
    by true (view t kind) = refl
    by true (log of side last w) = refl
    by false r = refl

pub given_kinds : (o : Option Name) (v : Option Relation) (es : Entries) → has_stored (given o v es) ≡ has_stored es
given_kinds o v [] = refl
given_kinds o v (e ∷ es) = λ i. given-kind o v e i || given_kinds o v es i

pub given_many : (o : Option Name) (v : Option Relation) (es : Entries) → length (given o v es) ≡ length es
given_many o v es = length-map es (given_entry o v)

-- where the source of an assignment gives a value
then-so : {G : Type 0} (v : OrFault Relation) (next : Relation → OrFault Entries) (last : Entries) → ((value : Relation) → next value ≡ Ok last → G) → then_give v next ≡ Ok last → G
then-so (Ok value) next last more e = more value e
then-so (Err fault) next last more e = absurd (cc)

pub evaluated_kinds : (old new last : Entries) (list : List PlainAssignment) → evaluated old new list ≡ Ok last → (has_stored last ≡ has_stored new) × (length last ≡ length new)
evaluated_kinds old new last [] e = let same : new ≡ last = cc in (sym (ap has_stored same), sym (ap (λ (zs : Entries). length zs) same))
evaluated_kinds old new last (a ∷ list) e =
    then-so (source_value old new a) (λ value. evaluated old (with_target new a.target value) list) last
    (λ value f.
    let more = evaluated_kinds old (with_target new a.target value) last list f in
    (more.0 ∙ given_kinds (Some a.target) (Some value) new, more.1 ∙ given_many (Some a.target) (Some value) new)) e

brought-kinds : (s : State) (way : Arriving) (at there : Place) (name : Name) (old : Relation) (given_rows : List Row) (last : Entries)
    → values_brought s.relvars way at there name old given_rows ≡ Ok last → has_stored last ≡ has_stored s.relvars
brought-kinds s way at there name old given_rows last e =
    then-so (value_brought way at there old given_rows) (λ value. Ok (with_target s.relvars name value)) last
    (λ value f. let same : with_target s.relvars name value ≡ last = cc in sym (ap has_stored same) ∙ given_kinds (Some name) (Some value) s.relvars) e

-- ---- room

and-true : (b : Bool) → (b && true) ≡ b
and-true true = refl
and-true false = refl

-- without stored views there is room where the logs have it
pub room_unstored : (new : Entries) → has_stored new ≡ false → have_room new ≡ have_log_room (turned_logs new)
room_unstored new none =
    let logs : ℕ = rows_of_logs (turned_logs new) in
    let zero = no_rows new none in
    let turn = rows_turned new in
    let sum : rows_of_all new + logs + rows_of_stored new ≡ rows_of_all (turned_logs new) + logs = omega (arith, zero, turn) in
    (λ i. nat_le (sum i) most_rows_in_all && (are_each_few (turned_logs new) && no_faults new none i))
    ∙ ap (λ (b : Bool). nat_le (rows_of_all (turned_logs new) + logs) most_rows_in_all && b) (and-true (are_each_few (turned_logs new)))

full-unstored : (v : OrFault Entries) (meant : Result Entries Refuse) → ((new : Entries) → v ≡ Ok new → has_stored new ≡ false) → unless_full v meant ≡ unless_logs_full v meant
full-unstored (Err fault) meant none = refl
full-unstored (Ok new) meant none = ap (λ (b : Bool). cond b meant (Err (Plain E46))) (room_unstored new (none new refl))

pub assigned_unstored : (s : State) (list : List PlainAssignment) → has_stored s.relvars ≡ false → assigned_in s list ≡ assigned_beside s list
assigned_unstored s list none =
    full-unstored (evaluated s.relvars s.relvars list) (unless_rule_broken s.rules (after_assignments s.relvars list))
    (λ new e. (evaluated_kinds s.relvars s.relvars new list e).0 ∙ none)

pub told_unstored : (result : Result (Unit {0}) Refuse) (s mid : State) (list : List PlainAssignment) → has_stored s.relvars ≡ false → IsAssignedBeside result s mid list → IsAssigned result s mid list
told_unstored (Ok done) s mid list none told = (assigned_unstored s list none ∙ told.0, told.1)
told_unstored (Err refuse) s mid list none told = (subst (λ (m : Result Entries Refuse). IsRefusedFor refuse m) (sym (assigned_unstored s list none)) told.0, told.1)

for-unstored : (way : Arriving) (s : State) (name : Name) (rows : Relation) → has_stored s.relvars ≡ false → HasLogRoomFor way s name rows → HasRoomFor way s name rows
for-unstored way s name rows none has = λ old at there given_rows g.
    full-unstored (values_brought s.relvars way at there name old given_rows) (brought_in s way at there name old given_rows)
    (λ new e. brought-kinds s way at there name old given_rows new e ∙ none)
    ∙ has old at there given_rows g

pub if_unstored : (way : Arriving) (result : Result Bool Refuse) (s : State) (name : Name) (rows : Relation) → has_stored s.relvars ≡ false → HasLogRoomIf way result s name rows → HasRoomIf way result s name rows
if_unstored way (Ok true) s name rows none has = for-unstored way s name rows none has
if_unstored way (Ok false) s name rows none has = tt
if_unstored way (Err refuse) s name rows none has = for-unstored way s name rows none has

-- ---- what a database keeps of none

pub nothing_stored : (s : State) (stored : List (Option Relation)) → IsKept s → has_stored s.relvars ≡ false → length stored ≤ length s.relvars → AreStoredIn s stored
nothing_stored s stored kept none l = record {
  rows = unstored s.relvars stored none;
  room = record {
    few = let few = kept.few in let zero = no_rows s.relvars none in omega (arith, few, zero);
    each = no_faults s.relvars none;
  };
  places = l;
}

kinds-after : (b : Bool) (s : State) → (has_stored (counted_if b s).relvars ≡ has_stored s.relvars) × (length (counted_if b s).relvars ≡ length s.relvars)
kinds-after true s = (has_stored-turned s.relvars, length-map s.relvars _)
kinds-after false s = (refl, refl)

told-kinds : (result : Result (Unit {0}) Refuse) (s mid : State) (list : List PlainAssignment) → IsAssignedBeside result s mid list
    → ((new : Entries) → assigned_beside s list ≡ Ok new → (has_stored new ≡ has_stored s.relvars) × (length new ≡ length s.relvars))
    → (has_stored mid.relvars ≡ has_stored s.relvars) × (length mid.relvars ≡ length s.relvars)
told-kinds (Ok done) s mid list told kinds = kinds mid.relvars told.0
told-kinds (Err refuse) s mid list told kinds = (ap (λ (t : State). has_stored t.relvars) told.1, ap (λ (t : State). length t.relvars) told.1)

-- what the relvars become has stored views as before
assigned-kinds : (s : State) (list : List PlainAssignment) (new : Entries) → assigned_beside s list ≡ Ok new → (has_stored new ≡ has_stored s.relvars) × (length new ≡ length s.relvars)
assigned-kinds s list new e = by (evaluated s.relvars s.relvars list) refl (assigned_after s list new e)
  where
    by : (v : OrFault Entries) → evaluated s.relvars s.relvars list ≡ v → of_values v ≡ Ok new → (has_stored new ≡ has_stored s.relvars) × (length new ≡ length s.relvars)
    by (Ok mid) q f =
        let same = entries_are [] mid new (ap (unless_rule_broken []) f) in
        evaluated_kinds s.relvars s.relvars new list (q ∙ ap Ok same)
    by (Err fault) q f = absurd (cc)

pub unstored_after : (result : Result (Unit {0}) Refuse) (s mid now : State) (list : List PlainAssignment) (stored : List (Option Relation)) → has_stored s.relvars ≡ false → IsKept now
    → IsAssignedBeside result s mid list → now ≡ counted_if (is_ok result) mid → length stored ≤ length s.relvars → AreStoredIn now stored
unstored_after result s mid now list stored none kept told then l =
    let before = told-kinds result s mid list told (assigned-kinds s list) in
    let after = kinds-after (is_ok result) mid in
    let kinds : has_stored now.relvars ≡ false = ap (λ (t : State). has_stored t.relvars) then ∙ (after.0 ∙ (before.0 ∙ none)) in
    let many : length now.relvars ≡ length s.relvars = ap (λ (t : State). length t.relvars) then ∙ (after.1 ∙ before.1) in
    nothing_stored now stored kept kinds (omega (arith, many, l))

-- ---- where rows are brought

pub unstored_counted : (s mid now : State) → has_stored s.relvars ≡ false → KeepsLogs s mid → now ≡ counted mid → IsUnstored s now
unstored_counted s mid now none keeps then = (
  ap (λ (t : State). has_stored t.relvars) then ∙ (has_stored-turned mid.relvars ∙ (keeps.2 ∙ none)),
  ap (λ (t : State). length t.relvars) then ∙ (length-map mid.relvars _ ∙ keeps.3),
)

pub unstored_same : (s now : State) → has_stored s.relvars ≡ false → now ≡ s → IsUnstored s now
unstored_same s now none e = (ap (λ (t : State). has_stored t.relvars) e ∙ none, ap (λ (t : State). length t.relvars) e)

-- the state stays, or there is no stored view
pub brought_stored : (s now : State) (stored : List (Option Relation)) → AreStoredIn s stored → IsKept now → (now ≡ s) ⊎ IsUnstored s now → AreStoredIn now stored
brought_stored s now stored are kept (inl same) = subst (λ (t : State). AreStoredIn t stored) (sym same) are
brought_stored s now stored are kept (inr none) = nothing_stored now stored kept none.0 (let many = none.1 in let l = are.places in omega (arith, many, l))

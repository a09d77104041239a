-- The state after an exchange of what stands ready keeps what a database keeps.
--     bare_exchanged      the relvars differ in their rows alone
--     settled_kept, settled_made, settled_keeps      the state with the new relvars
--     values_ready      new values, as changes at their places
use Rattle.std.proofs.Common.{◌≡◌, ℕ, zero, suc, ◌+◌, ◌<◌, ◌≤◌, drop, set, get_or, List, [], ◌∷◌, ◌++◌, length, refl, sym, ap, subst, ◌∙◌, arith, Option, Some, None, Result, Ok, Err}
use Rattle.std.proofs.lemmas.List.{append_assoc, append-nil, drop-set-lt}
use Rattle.value_core.specs.declared.refuse.Refuse.{Refuse}
use Rattle.value_core.specs.Values.{Name, Relation}
use Rattle.relation_core.proofs.FilterLemmas.{ended, head_of}
use Rattle.tree_core.specs.Items.{PlainAssignment}
use Rattle.tree_core.specs.Relvars.{State, PlainRelvar, base, view, Entries, log}
use Rattle.meaning_core.specs.Names.{with_value}
use Rattle.meaning_core.specs.WellMade.{IsWellMade}
use Rattle.meaning_core.proofs.RowlessLemmas.{bare, bare_all, bare-keeps, bare-with_value}
use Rattle.assign_core.specs.Assignments.{after_assignments}
use Rattle.assign_core.specs.Breaches.{first_rule_broken}
use Rattle.relvar_logs.specs.Changes.{AreChanges, Changes, changed, turned_at, IsSoAt}
use Rattle.assign_core.specs.Databases.{IsKept, IsSettled}
use Rattle.assign_core.specs.Exchanges.{exchanged_by, place_of, turned, value_here, values_from, with_ready, AreElsewhere, ArePrepared, IsReady, MayTurn}
use Rattle.assign_core.specs.declared.exchange.Change.{Change}
use Rattle.assign_core.specs.declared.exchange.Change.TheVariants.{Value, Rows}
use Rattle.assign_core.specs.declared.exchange.Ready.{Ready}
use Rattle.assign_core.proofs.AssignedLemmas.{assigned_kept}
use Rattle.assign_core.proofs.ExchangeLemmas.{so_exchanged}

-- ---- rows alone

bare_change : (c : Change) (r : PlainRelvar) → MayTurn c r → bare (turned c r) ≡ bare r
bare_change (Value at value) (base old constraints) h = bare-with_value value (base old constraints) h
bare_change (Value at value) (view t kind) h = absurd h
bare_change (Value at value) (log of side last w) h = absurd h
bare_change (Rows at rows) (base old constraints) h = refl
bare_change (Rows at rows) (view t kind) h = absurd h
bare_change (Rows at rows) (log of side last w) h = absurd h

bare_turned : (es : Entries) (i : ℕ) (c : Change) → IsSoAt i (MayTurn c) es → bare_all (turned_at i (turned c) es) ≡ bare_all es
bare_turned [] i c h = absurd h
bare_turned (e ∷ es) zero c h = ap (λ (x : PlainRelvar). (e.0, x) ∷ bare_all es) (bare_change c e.1 h)
bare_turned (e ∷ es) (suc i) c h = ap (λ (z : Entries). (e.0, bare e.1) ∷ z) (bare_turned es i c h)

pub bare_exchanged : (cs : List Change) (es : Entries) → ArePrepared cs es → bare_all (exchanged_by cs es) ≡ bare_all es
bare_exchanged [] es h = refl
bare_exchanged (c ∷ cs) es h = bare_turned (exchanged_by cs es) (place_of c) c (so_exchanged cs es (place_of c) (MayTurn c) h.1 h.0) ∙ bare_exchanged cs es h.2

-- ---- the state

pub settled_kept : (s : State) (r : Ready) (list : List PlainAssignment) → IsKept s → IsReady r s.relvars → after_assignments s.relvars list ≡ Ok (with_ready r s.relvars)
    → first_rule_broken (with_ready r s.relvars) s.rules ≡ None → IsKept (record s { relvars = with_ready r s.relvars })
settled_kept s r list kept ready e none = assigned_kept s (with_ready r s.relvars) list kept (bare_exchanged r.changes.items s.relvars ready) e none

-- it is well made, also where a database constraint is broken
pub settled_made : (s : State) (r : Ready) → IsKept s → IsReady r s.relvars → IsWellMade (record s { relvars = with_ready r s.relvars })
settled_made s r kept ready = bare-keeps s (with_ready r s.relvars) (bare_exchanged r.changes.items s.relvars ready) kept.well_made

pub settled_keeps : (result : Result (Unit {0}) Refuse) (s now : State) (r : Ready) (list : List PlainAssignment) → IsKept s → IsReady r s.relvars
    → after_assignments s.relvars list ≡ Ok (with_ready r s.relvars) → IsSettled result s now (with_ready r s.relvars) → IsKept now
settled_keeps (Ok done) s now r list kept ready e told = subst IsKept (sym told.1) (settled_kept s r list kept ready e told.0)
settled_keeps (Err refuse) s now r list kept ready e told = subst IsKept (sym told.1) kept

-- ---- new values

further_elsewhere : (cs : Changes) (i j : ℕ) → j < i → AreElsewhere j (values_from i cs)
further_elsewhere [] i j l = tt
further_elsewhere (None ∷ cs) i j l = further_elsewhere cs (suc i) j (omega (arith, l))
further_elsewhere (Some value ∷ cs) i j l = ((λ same. let no : ⊥ = omega (arith, l, same) in no), further_elsewhere cs (suc i) j (omega (arith, l)))

prepared_behind : (cs : Changes) (es : Entries) (i : ℕ) (e : Name × PlainRelvar) → ArePrepared (values_from i cs) es → ArePrepared (values_from (suc i) cs) (e ∷ es)
prepared_behind [] es i e h = tt
prepared_behind (None ∷ cs) es i e h = prepared_behind cs es (suc i) e h
prepared_behind (Some value ∷ cs) es i e h = (h.0, further_elsewhere cs (suc (suc i)) (suc i) (omega arith), prepared_behind cs es (suc i) e h.2)

exchanged_behind : (cs : Changes) (es : Entries) (i : ℕ) (e : Name × PlainRelvar) → exchanged_by (values_from (suc i) cs) (e ∷ es) ≡ e ∷ exchanged_by (values_from i cs) es
exchanged_behind [] es i e = refl
exchanged_behind (None ∷ cs) es i e = exchanged_behind cs es (suc i) e
exchanged_behind (Some value ∷ cs) es i e = ap (turned_at (suc i) (with_value value)) (exchanged_behind cs es (suc i) e)

pub values_ready : (cs : Changes) (es : Entries) → AreChanges cs es → ArePrepared (values_from 0 cs) es × (exchanged_by (values_from 0 cs) es ≡ changed cs es)
values_ready [] [] h = (tt, refl)
values_ready [] (e ∷ es) h = absurd h
values_ready (c ∷ cs) [] h = absurd h
values_ready (None ∷ cs) (e ∷ es) h =
    let rest = values_ready cs es h.1 in
    (prepared_behind cs es 0 e rest.0, exchanged_behind cs es 0 e ∙ ap (λ (z : Entries). e ∷ z) rest.1)
values_ready (Some value ∷ cs) (e ∷ es) h =
    let rest = values_ready cs es h.1 in (
      (h.0, further_elsewhere cs 1 0 (omega arith), prepared_behind cs es 0 e rest.0),
      ap (turned_at 0 (with_value value)) (exchanged_behind cs es 0 e ∙ ap (λ (z : Entries). e ∷ z) rest.1),
    )

-- one place further
pub next_value : (cs : Changes) (list next : List Change) (i : ℕ) (c d : Option Relation) → i < length cs → c ≡ get_or cs i c → next ≡ list ++ value_here i c
    → next ++ values_from (i + 1) (drop (i + 1) (set cs i d)) ≡ list ++ values_from i (drop i cs)
next_value cs list next i c d l g e =
    let one : i + 1 ≡ suc i = omega arith in
    let rest = drop-set-lt (i + 1) cs i d (omega arith) in
    (λ j. e j ++ values_from (one j) (rest j))
    ∙ (append_assoc list (value_here i c) (values_from (suc i) (drop (i + 1) cs)) ∙ ap (λ (z : Changes). list ++ values_from i z) (sym (head_of cs i c l g)))

pub values_end : (cs : Changes) (list all : List Change) (i : ℕ) → length cs ≤ i → list ++ values_from i (drop i cs) ≡ all → list ≡ all
values_end cs list all i l e = sym (append-nil list) ∙ (ap (λ (z : Changes). list ++ values_from i z) (sym (ended i cs l)) ∙ e)

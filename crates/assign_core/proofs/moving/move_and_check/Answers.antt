use Rattle.std.proofs.Common.{◌≡◌, ◌≤◌, ◌+◌, List, length, Option, sym, ap, subst, ◌∙◌, Err, None}
use Rattle.value_core.specs.Values.{Relation}
use Rattle.tree_core.specs.Relvars.{Entries, State, read_relvars}
use Rattle.meaning_core.specs.StoredRows.{AreStored}
use Rattle.meaning_core.specs.WellMade.{IsWellMade}
use Rattle.meaning_core.proofs.RowlessLemmas.{bare-keeps}
use Rattle.stored_views.proofs.ExchangeLemmas.{renewed-length}
use Rattle.assign_core.specs.Breaches.{first_rule_broken}
use Rattle.assign_core.specs.Changes.{Tells}
use Rattle.assign_core.specs.Costs.{rules_cost}
use Rattle.assign_core.specs.Exchanges.{exchanged_by}
use Rattle.assign_core.specs.Leanings.{DoOthersHold}
use Rattle.assign_core.proofs.RenewedLemmas.{bare_exchanged}
use Rattle.assign_core.proofs.StateLemmas.{changed_state, state_back, values_left}
use Rattle.assign_core.proofs.moving.move_and_check.Goals as goal

pub check_rules-requires-clause-well_made : goal.check_rules-requires-clause-well_made
check_rules-requires-clause-well_made g c =
    let s = read_relvars c.args.relvars.now in
    let cs = c.args.moved.now.changes.items in
    let made : read_relvars c.exchange.new.relvars ≡ record s { relvars = exchanged_by cs s.relvars } =
    changed_state c.args.relvars.now c.exchange.new.relvars (exchanged_by cs s.relvars) c.in_ok-exchange.ensures.done c.exchange.ensures.ordinals c.exchange.ensures.rules c.exchange.ensures.accepted in
    subst IsWellMade (sym made) (bare-keeps s (exchanged_by cs s.relvars) (bare_exchanged cs s.relvars c.requires.changes) c.requires.kept.well_made)

pub check_rules-requires-clause-others : goal.check_rules-requires-clause-others
check_rules-requires-clause-others g c =
    let s = read_relvars c.args.relvars.now in
    let cs = c.args.moved.now.changes.items in
    let made : read_relvars c.exchange.new.relvars ≡ record s { relvars = exchanged_by cs s.relvars } =
    changed_state c.args.relvars.now c.exchange.new.relvars (exchanged_by cs s.relvars) c.in_ok-exchange.ensures.done c.exchange.ensures.ordinals c.exchange.ensures.rules c.exchange.ensures.accepted in
    subst (λ (t : State). DoOthersHold t.relvars c.args.told.now t.rules) (sym made) c.requires.others

pub exchange_back-requires-clause-values : goal.exchange_back-requires-clause-values
exchange_back-requires-clause-values g c =
    (values_left (read_relvars c.args.relvars.now).relvars (read_relvars c.exchange.new.relvars).relvars c.args.moved.now.changes.items c.exchange.new.changes.items
    c.requires.changes c.requires.values c.in_ok-exchange.ensures.done (c.exchange.ensures.back c.requires.values)).0

pub exchange_back-requires-clause-changes : goal.exchange_back-requires-clause-changes
exchange_back-requires-clause-changes g c =
    (values_left (read_relvars c.args.relvars.now).relvars (read_relvars c.exchange.new.relvars).relvars c.args.moved.now.changes.items c.exchange.new.changes.items
    c.requires.changes c.requires.values c.in_ok-exchange.ensures.done (c.exchange.ensures.back c.requires.values)).1

pub returns-in-Ok-clause-settled : goal.returns-in-Ok-clause-settled
returns-in-Ok-clause-settled g c =
    let s = read_relvars c.args.relvars.now in
    let cs = c.args.moved.now.changes.items in
    let made : read_relvars c.exchange.new.relvars ≡ record s { relvars = exchanged_by cs s.relvars } =
    changed_state c.args.relvars.now c.exchange.new.relvars (exchanged_by cs s.relvars) c.in_ok-exchange.ensures.done c.exchange.ensures.ordinals c.exchange.ensures.rules c.exchange.ensures.accepted in
    (subst (λ (t : State). first_rule_broken t.relvars t.rules ≡ None) made c.in-Ok.ensures.told, made)

pub returns-in-Ok-clause-cost : goal.returns-in-Ok-clause-cost
returns-in-Ok-clause-cost g c =
    let s = read_relvars c.args.relvars.now in
    let cs = c.args.moved.now.changes.items in
    let made : read_relvars c.exchange.new.relvars ≡ record s { relvars = exchanged_by cs s.relvars } =
    changed_state c.args.relvars.now c.exchange.new.relvars (exchanged_by cs s.relvars) c.in_ok-exchange.ensures.done c.exchange.ensures.ordinals c.exchange.ensures.rules c.exchange.ensures.accepted in
    subst (λ (t : State). c.check_rules.new.steps ≤ c.args.steps.now + rules_cost t.relvars t.rules) made c.check_rules.ensures.cost

pub returns-in-Err-clause-settled : goal.returns-in-Err-clause-settled
returns-in-Err-clause-settled g c =
    let s = read_relvars c.args.relvars.now in
    let cs = c.args.moved.now.changes.items in
    let made : read_relvars c.exchange.new.relvars ≡ record s { relvars = exchanged_by cs s.relvars } =
    changed_state c.args.relvars.now c.exchange.new.relvars (exchanged_by cs s.relvars) c.in_ok-exchange.ensures.done c.exchange.ensures.ordinals c.exchange.ensures.rules c.exchange.ensures.accepted in
    let back =
    state_back c.args.relvars.now c.exchange.new.relvars c.exchange_back.new.relvars c.args.moved.now.changes.items c.exchange.new.changes.items c.requires.changes
    c.requires.values c.in_ok-exchange.ensures.done (c.exchange.ensures.back c.requires.values) c.exchange_back.ensures.list c.exchange.ensures.ordinals
    c.exchange.ensures.rules c.exchange.ensures.accepted c.exchange_back.ensures.ordinals c.exchange_back.ensures.rules c.exchange_back.ensures.accepted in
    (subst (λ (t : State). Tells (Err c.in-Err.refuse) (first_rule_broken t.relvars t.rules)) made c.in-Err.ensures.told, back)

pub returns-in-Err-clause-stored : goal.returns-in-Err-clause-stored
returns-in-Err-clause-stored g c =
    let back =
    state_back c.args.relvars.now c.exchange.new.relvars c.exchange_back.new.relvars c.args.moved.now.changes.items c.exchange.new.changes.items c.requires.changes
    c.requires.values c.in_ok-exchange.ensures.done (c.exchange.ensures.back c.requires.values) c.exchange_back.ensures.list c.exchange.ensures.ordinals
    c.exchange.ensures.rules c.exchange.ensures.accepted c.exchange_back.ensures.ordinals c.exchange_back.ensures.rules c.exchange_back.ensures.accepted in
    subst (λ (t : State). AreStored t.relvars c.exchange_stored-in-Err.new.stored.items) (sym back)
    (subst (AreStored (read_relvars c.args.relvars.now).relvars) (sym (c.exchange_stored-in-Err.ensures.forward ∙ c.exchange_stored.ensures.back)) c.requires.stored)

pub check_rules-requires-clause-stored : goal.check_rules-requires-clause-stored
check_rules-requires-clause-stored g c =
    let s = read_relvars c.args.relvars.now in
    let cs = c.args.moved.now.changes.items in
    subst (λ (es : Entries). AreStored es c.as_slice.result.now) (sym c.in_ok-exchange.ensures.done)
    (subst (AreStored (exchanged_by cs s.relvars)) (sym (c.as_slice.ensures.value ∙ c.exchange_stored.ensures.forward)) c.requires.rows)

pub returns-in-Ok-clause-stored : goal.returns-in-Ok-clause-stored
returns-in-Ok-clause-stored g c =
    let s = read_relvars c.args.relvars.now in
    let cs = c.args.moved.now.changes.items in
    subst (λ (es : Entries). AreStored es c.exchange_stored.new.stored.items) (sym c.in_ok-exchange.ensures.done)
    (subst (AreStored (exchanged_by cs s.relvars)) (sym c.exchange_stored.ensures.forward) c.requires.rows)

pub returns-in-Ok-clause-length : goal.returns-in-Ok-clause-length
returns-in-Ok-clause-length g c =
    ap (λ (rows : List (Option Relation)). length rows) c.exchange_stored.ensures.forward ∙ renewed-length c.args.moved.now.rows.items c.args.stored.now.items

pub returns-in-Err-clause-length : goal.returns-in-Err-clause-length
returns-in-Err-clause-length g c =
    ap (λ (rows : List (Option Relation)). length rows) (c.exchange_stored-in-Err.ensures.forward ∙ c.exchange_stored.ensures.back)

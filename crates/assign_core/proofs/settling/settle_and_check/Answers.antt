use Rattle.std.proofs.Common.{◌≡◌, ◌≤◌, ◌+◌, [], sym, ap, subst, ◌∙◌, Err, None}
use Rattle.tree_core.specs.Relvars.{State, read_relvars}
use Rattle.meaning_core.specs.WellMade.{IsWellMade}
use Rattle.stored_views.specs.Stored.{has_stored}
use Rattle.stored_views.proofs.UnstoredLemmas.{unstored}
use Rattle.assign_core.specs.Breaches.{first_rule_broken}
use Rattle.assign_core.specs.Changes.{Tells}
use Rattle.assign_core.specs.Costs.{rules_cost}
use Rattle.assign_core.specs.Exchanges.{with_ready}
use Rattle.assign_core.specs.Leanings.{DoOthersHold}
use Rattle.assign_core.proofs.KindLemmas.{kinds_alike}
use Rattle.assign_core.proofs.RenewedLemmas.{bare_exchanged, settled_made}
use Rattle.assign_core.proofs.StateLemmas.{changed_state, state_back, values_left}
use Rattle.assign_core.proofs.settling.settle_and_check.Goals as goal

pub check_rules-requires-clause-well_made : goal.check_rules-requires-clause-well_made
check_rules-requires-clause-well_made g c =
    let made : read_relvars c.exchange.new.relvars ≡ record (read_relvars c.args.relvars.now) { relvars = with_ready c.args.ready (read_relvars c.args.relvars.now).relvars } =
    changed_state c.args.relvars.now c.exchange.new.relvars (with_ready c.args.ready (read_relvars c.args.relvars.now).relvars)
    (c.in_ok-exchange.ensures.done ∙ c.in_ok-changes.ensures.ready) c.exchange.ensures.ordinals c.exchange.ensures.rules c.exchange.ensures.accepted in
    let s = read_relvars c.args.relvars.now in
    subst IsWellMade (sym made) (settled_made s c.args.ready c.requires.kept c.requires.ready)

pub check_rules-requires-clause-stored : goal.check_rules-requires-clause-stored
check_rules-requires-clause-stored g c =
    let s = read_relvars c.args.relvars.now in
    let made : read_relvars c.exchange.new.relvars ≡ record s { relvars = with_ready c.args.ready s.relvars } =
    changed_state c.args.relvars.now c.exchange.new.relvars (with_ready c.args.ready s.relvars)
    (c.in_ok-exchange.ensures.done ∙ c.in_ok-changes.ensures.ready) c.exchange.ensures.ordinals c.exchange.ensures.rules c.exchange.ensures.accepted in
    let kinds = kinds_alike (with_ready c.args.ready s.relvars) s.relvars (bare_exchanged c.args.ready.changes.items s.relvars c.requires.ready) in
    unstored (read_relvars c.exchange.new.relvars).relvars [] (ap (λ (t : State). has_stored t.relvars) made ∙ (kinds ∙ c.requires.unstored))

pub check_rules-requires-clause-others : goal.check_rules-requires-clause-others
check_rules-requires-clause-others g c =
    let made : read_relvars c.exchange.new.relvars ≡ record (read_relvars c.args.relvars.now) { relvars = with_ready c.args.ready (read_relvars c.args.relvars.now).relvars } =
    changed_state c.args.relvars.now c.exchange.new.relvars (with_ready c.args.ready (read_relvars c.args.relvars.now).relvars)
    (c.in_ok-exchange.ensures.done ∙ c.in_ok-changes.ensures.ready) c.exchange.ensures.ordinals c.exchange.ensures.rules c.exchange.ensures.accepted in
    subst (λ (s : State). DoOthersHold s.relvars c.args.told.now s.rules) (sym made) c.requires.others

pub returns-in-Ok-clause-settled : goal.returns-in-Ok-clause-settled
returns-in-Ok-clause-settled g c =
    let made : read_relvars c.exchange.new.relvars ≡ record (read_relvars c.args.relvars.now) { relvars = with_ready c.args.ready (read_relvars c.args.relvars.now).relvars } =
    changed_state c.args.relvars.now c.exchange.new.relvars (with_ready c.args.ready (read_relvars c.args.relvars.now).relvars)
    (c.in_ok-exchange.ensures.done ∙ c.in_ok-changes.ensures.ready) c.exchange.ensures.ordinals c.exchange.ensures.rules c.exchange.ensures.accepted in
    (subst (λ (s : State). first_rule_broken s.relvars s.rules ≡ None) made c.in-Ok.ensures.told, made)

pub returns-in-Ok-clause-cost : goal.returns-in-Ok-clause-cost
returns-in-Ok-clause-cost g c =
    let made : read_relvars c.exchange.new.relvars ≡ record (read_relvars c.args.relvars.now) { relvars = with_ready c.args.ready (read_relvars c.args.relvars.now).relvars } =
    changed_state c.args.relvars.now c.exchange.new.relvars (with_ready c.args.ready (read_relvars c.args.relvars.now).relvars)
    (c.in_ok-exchange.ensures.done ∙ c.in_ok-changes.ensures.ready) c.exchange.ensures.ordinals c.exchange.ensures.rules c.exchange.ensures.accepted in
    subst (λ (s : State). c.check_rules.new.steps ≤ c.args.steps.now + rules_cost s.relvars s.rules) made c.check_rules.ensures.cost

pub exchange_back-requires-clause-values : goal.exchange_back-requires-clause-values
exchange_back-requires-clause-values g c =
    (values_left (read_relvars c.args.relvars.now).relvars (read_relvars c.exchange.new.relvars).relvars c.in_ok-changes.changes.items c.exchange.new.changes.items
    c.in_ok-changes.ensures.changes c.in_ok-changes.ensures.values c.in_ok-exchange.ensures.done (c.exchange.ensures.back c.in_ok-changes.ensures.values)).0

pub exchange_back-requires-clause-changes : goal.exchange_back-requires-clause-changes
exchange_back-requires-clause-changes g c =
    (values_left (read_relvars c.args.relvars.now).relvars (read_relvars c.exchange.new.relvars).relvars c.in_ok-changes.changes.items c.exchange.new.changes.items
    c.in_ok-changes.ensures.changes c.in_ok-changes.ensures.values c.in_ok-exchange.ensures.done (c.exchange.ensures.back c.in_ok-changes.ensures.values)).1

pub returns-clause-settled : goal.returns-clause-settled
returns-clause-settled g c =
    let made : read_relvars c.exchange.new.relvars ≡ record (read_relvars c.args.relvars.now) { relvars = with_ready c.args.ready (read_relvars c.args.relvars.now).relvars } =
    changed_state c.args.relvars.now c.exchange.new.relvars (with_ready c.args.ready (read_relvars c.args.relvars.now).relvars)
    (c.in_ok-exchange.ensures.done ∙ c.in_ok-changes.ensures.ready) c.exchange.ensures.ordinals c.exchange.ensures.rules c.exchange.ensures.accepted in (
      subst (λ (s : State). Tells (Err c.in-Err.refuse) (first_rule_broken s.relvars s.rules)) made c.in-Err.ensures.told,
      state_back c.args.relvars.now c.exchange.new.relvars c.exchange_back.new.relvars c.in_ok-changes.changes.items c.exchange.new.changes.items c.in_ok-changes.ensures.changes
          c.in_ok-changes.ensures.values c.in_ok-exchange.ensures.done (c.exchange.ensures.back c.in_ok-changes.ensures.values) c.exchange_back.ensures.list c.exchange.ensures.ordinals
          c.exchange.ensures.rules c.exchange.ensures.accepted c.exchange_back.ensures.ordinals c.exchange_back.ensures.rules c.exchange_back.ensures.accepted,
    )

use Rattle.std.proofs.Common.{◌≡◌, ◌≤◌, ◌+ℤ◌, ◌<ℤ◌, ℤ, pos, zero, map, length, ap, sym, subst, ◌∙◌}
use Rattle.point_core.specs.Whole.{greatest_whole}
use Rattle.tree_core.specs.Relvars.{read_entry, read_relvars, read_rule, Entries, State}
use Rattle.meaning_core.specs.Declarations.{counted}
use Rattle.relvar_logs.specs.LoggedChanges.{AreChanging}
use Rattle.relvar_logs.specs.Passed.{ArePassed}
use Rattle.assign_core.proofs.InPlaceLemmas.{hashed_brought, hashed_passed, held_passed, log_to_change, may_exchange, once_held, passed_then, to_change_held}
use Rattle.assign_core.proofs.in_place.exchange_in_place.Goals as goal

pub hold_at-requires-clause-may : goal.hold_at-requires-clause-may
hold_at-requires-clause-may g c = may_exchange (read_relvars c.args.relvars.now) c.args.change c.requires.1.0 c.requires.1.1.1.1.1

pub change_log-requires : goal.change_log-requires
change_log-requires g c =
    let s = read_relvars c.args.relvars.now in
    let x = c.args.change in
    let is = c.requires.1.1.1.1.1 in
    let held = map read_entry c.hold_at.new.relvars.list.entries in
    let h = c.in_ok-held.held in
    let same = c.hold_at.ensures.accepted in
    let once = once_held h x.rows x.name held s.relvars x.at c.in_ok-held.ensures.back is.fits.logs.once in
    let own = subst (λ (z : Entries). AreChanging s.accepted z x.name x.differ.come x.differ.gone s.relvars) (sym c.requires.0) (log_to_change s x c.requires.1.0 is c.requires.1.1.0) in
    let all = to_change_held h x.rows s.accepted g.all x.name x.differ.come x.differ.gone held s.relvars x.at c.in_ok-held.ensures.back own in (
      subst (λ (n : ℤ). (n +ℤ pos 1) <ℤ greatest_whole) (sym same) c.requires.1.1.1.0,
      (once, subst (λ (n : ℤ). AreChanging n g.all x.name x.differ.come x.differ.gone (map read_entry c.hold_at.new.relvars.list.entries)) (sym same) all),
    )

pub let_in_at-requires-clause-held : goal.let_in_at-requires-clause-held
let_in_at-requires-clause-held g c =
    held_passed c.in_ok-held.held c.args.change.rows (c.hold_at.new.relvars.accepted +ℤ pos 1) g.all (map read_entry c.hold_at.new.relvars.list.entries) (map read_entry c.change_log.new.relvars.list.entries) c.args.change.at c.in-Ok.ensures.passed
    c.in_ok-held.ensures.held

pub let_in_at-requires-clause-hashed : goal.let_in_at-requires-clause-hashed
let_in_at-requires-clause-hashed g c =
    hashed_passed (c.hold_at.new.relvars.accepted +ℤ pos 1) g.all c.hold_at.new.hashed (map read_entry c.hold_at.new.relvars.list.entries) (map read_entry c.change_log.new.relvars.list.entries) c.in-Ok.ensures.passed c.hold_at.ensures.hashed

pub returns-in-Ok-clause-done : goal.returns-in-Ok-clause-done
returns-in-Ok-clause-done g c =
    let s = read_relvars c.args.relvars.now in
    let x = c.args.change in
    let n = c.hold_at.new.relvars.accepted +ℤ pos 1 in
    let accepted = c.let_in_at.ensures.accepted ∙ c.change_log.ensures.accepted in
    let passed : ArePassed (c.let_in_at.new.relvars.accepted +ℤ pos 1) g.all zero g.all (map read_entry c.let_in_at.new.relvars.list.entries) =
    passed_then c.in_ok-held.held x.rows n (c.let_in_at.new.relvars.accepted +ℤ pos 1) g.all s.relvars (map read_entry c.hold_at.new.relvars.list.entries) (map read_entry c.change_log.new.relvars.list.entries)
    (map read_entry c.let_in_at.new.relvars.list.entries) x.at c.in_ok-held.ensures.back c.in_ok-held.ensures.held c.in-Ok.ensures.passed c.let_in_at.ensures.list c.requires.0 (ap (λ (k : ℤ). k +ℤ pos 1) (sym accepted)) in
    let ordinals = c.let_in_at.ensures.ordinals ∙ (c.change_log.ensures.ordinals ∙ c.hold_at.ensures.ordinals) in
    let rules = c.let_in_at.ensures.rules ∙ (c.change_log.ensures.rules ∙ c.hold_at.ensures.rules) in
    let all = accepted ∙ c.hold_at.ensures.accepted in
    c.bring_logs.ensures.counted g.all passed
    ∙ (λ i. counted (record { ordinals = ordinals i; relvars = g.all; rules = map read_rule (rules i).entries; accepted = all i }))

pub returns-in-Ok-clause-step : goal.returns-in-Ok-clause-step
returns-in-Ok-clause-step g c =
    let s = read_relvars c.args.relvars.now in
    let x = c.args.change in
    let n = c.hold_at.new.relvars.accepted +ℤ pos 1 in
    let accepted = c.let_in_at.ensures.accepted ∙ c.change_log.ensures.accepted in
    c.bring_logs.ensures.step g.all
    (passed_then c.in_ok-held.held x.rows n (c.let_in_at.new.relvars.accepted +ℤ pos 1) g.all s.relvars (map read_entry c.hold_at.new.relvars.list.entries) (map read_entry c.change_log.new.relvars.list.entries)
    (map read_entry c.let_in_at.new.relvars.list.entries) x.at c.in_ok-held.ensures.back c.in_ok-held.ensures.held c.in-Ok.ensures.passed c.let_in_at.ensures.list c.requires.0 (ap (λ (k : ℤ). k +ℤ pos 1) (sym accepted)))

pub returns-in-Ok-clause-hashed : goal.returns-in-Ok-clause-hashed
returns-in-Ok-clause-hashed g c =
    let s = read_relvars c.args.relvars.now in
    let x = c.args.change in
    let n = c.hold_at.new.relvars.accepted +ℤ pos 1 in
    let accepted = c.let_in_at.ensures.accepted ∙ c.change_log.ensures.accepted in
    let passed : ArePassed (c.let_in_at.new.relvars.accepted +ℤ pos 1) g.all zero g.all (map read_entry c.let_in_at.new.relvars.list.entries) =
    passed_then c.in_ok-held.held x.rows n (c.let_in_at.new.relvars.accepted +ℤ pos 1) g.all s.relvars (map read_entry c.hold_at.new.relvars.list.entries) (map read_entry c.change_log.new.relvars.list.entries)
    (map read_entry c.let_in_at.new.relvars.list.entries) x.at c.in_ok-held.ensures.back c.in_ok-held.ensures.held c.in-Ok.ensures.passed c.let_in_at.ensures.list c.requires.0 (ap (λ (k : ℤ). k +ℤ pos 1) (sym accepted)) in
    hashed_brought (c.let_in_at.new.relvars.accepted +ℤ pos 1) c.let_in_at.new.hashed g.all (map read_entry c.let_in_at.new.relvars.list.entries) (map read_entry c.bring_logs.new.relvars.list.entries) passed
    (ap (λ (t : State). t.relvars) (c.bring_logs.ensures.counted g.all passed)) c.let_in_at.ensures.hashed

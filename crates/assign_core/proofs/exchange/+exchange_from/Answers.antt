use Rattle.std.proofs.Common.{◌≡◌, ◌<◌, length, map, sym, subst, arith}
use Rattle.tree_core.specs.Relvars.{read_entry}
use Rattle.assign_core.specs.declared.exchange.Change.{Change}
use Rattle.assign_core.specs.Exchanges.{filled, place_of, turned, replaced, AreValues, IsHeldFor}
use Rattle.relvar_logs.specs.Changes.{turned_at, IsSoAt}
use Rattle.std.proofs.Common.{[], ◌∷◌}
use Rattle.assign_core.proofs.ExchangeLemmas.{back_here, exchanged_here, held_here, prepared_here, same_item}
use Rattle.assign_core.proofs.exchange.+exchange_from.Goals as goal

pub exchange_from-requires : goal.exchange_from-requires
exchange_from-requires t c =
    let old = c.args.changes.now.items in
    let at = c.args.from in
    let y = c.index.result.now in
    let test = c.if-from-len.false in
    let whole = c.len.ensures in
    let within : at < length old = omega (arith, test, whole) in (
      omega (arith, c.decreases, within),
      (
        omega (arith, within),
        (
          prepared_here old at y c.in_ok-held.held (map read_entry c.args.relvars.now.list.entries) (map read_entry c.hold_for.new.relvars.list.entries) (map read_entry c.hold_for.new.relvars.list.entries)
              within c.index.ensures c.requires.changes c.in_ok-held.ensures.back,
          c.in_ok-held.ensures.hashed,
        ),
      ),
    )

pub turn-requires-clause-held : goal.turn-requires-clause-held
turn-requires-clause-held t c =
    let old = c.args.changes.now.items in
    let new = c.exchange_from.new.changes.items in
    let at = c.args.from in
    let y = c.index.result.now in
    let x = c.index_mut.result.now in
    let test = c.if-from-len.false in
    let whole = c.len.ensures in
    let within : at < length old = omega (arith, test, whole) in
    let long : length new ≡ length old = omega (arith, c.in-Ok.ensures.len) in
    let same : y ≡ x = same_item old new at y x (sym c.in-Ok.ensures.front) within long c.index.ensures c.index_mut.ensures.value in
    subst (λ (z : Change). IsSoAt (place_of z) (IsHeldFor z c.in_ok-held.held) (map read_entry c.exchange_from.new.relvars.list.entries)) same
    (held_here old at y c.in_ok-held.held (map read_entry c.args.relvars.now.list.entries) (map read_entry c.hold_for.new.relvars.list.entries) (map read_entry c.exchange_from.new.relvars.list.entries)
    within c.index.ensures c.requires.changes c.in_ok-held.ensures.held c.in-Ok.ensures.done)

pub returns-in-Ok-clause-done : goal.returns-in-Ok-clause-done
returns-in-Ok-clause-done t c =
    let old = c.args.changes.now.items in
    let new = c.exchange_from.new.changes.items in
    let at = c.args.from in
    let y = c.index.result.now in
    let x = c.index_mut.result.now in
    let h = c.in_ok-held.held in
    let E2 = map read_entry c.exchange_from.new.relvars.list.entries in
    let E3 = map read_entry c.turn.new.relvars.list.entries in
    let test = c.if-from-len.false in
    let whole = c.len.ensures in
    let within : at < length old = omega (arith, test, whole) in
    let long : length new ≡ length old = omega (arith, c.in-Ok.ensures.len) in
    let same : y ≡ x = same_item old new at y x (sym c.in-Ok.ensures.front) within long c.index.ensures c.index_mut.ensures.value in
    let turn = subst (λ (z : Change). E3 ≡ turned_at (place_of z) (λ r. turned z (filled h r)) E2) (sym same) c.turn.ensures.list in
    exchanged_here old at y h (map read_entry c.args.relvars.now.list.entries) (map read_entry c.hold_for.new.relvars.list.entries) E2 E3 within c.index.ensures c.requires.changes
    c.in_ok-held.ensures.back c.in-Ok.ensures.done turn

pub returns-in-Ok-clause-back : goal.returns-in-Ok-clause-back
returns-in-Ok-clause-back t c =
    let old = c.args.changes.now.items in
    let new = c.exchange_from.new.changes.items in
    let at = c.args.from in
    let y = c.index.result.now in
    let x = c.index_mut.result.now in
    let d = c.turn.new.change in
    let E2 = map read_entry c.exchange_from.new.relvars.list.entries in
    let test = c.if-from-len.false in
    let whole = c.len.ensures in
    let within : at < length old = omega (arith, test, whole) in
    let long : length new ≡ length old = omega (arith, c.in-Ok.ensures.len) in
    let same : y ≡ x = same_item old new at y x (sym c.in-Ok.ensures.front) within long c.index.ensures c.index_mut.ensures.value in
    let back = subst (λ (z : Change). AreValues (z ∷ []) → d ≡ replaced E2 z) (sym same) c.turn.ensures.back in
    back_here old new at y d c.in_ok-held.held (map read_entry c.args.relvars.now.list.entries) (map read_entry c.hold_for.new.relvars.list.entries) E2 within long c.index.ensures
    c.requires.changes c.in_ok-held.ensures.back c.in_ok-held.ensures.held c.in-Ok.ensures.done c.in-Ok.ensures.back back

use Rattle.std.proofs.Common.{◌≡◌, ◌≤◌, ◌<◌, ◌+◌, suc, min, length, sym, subst, arith}
use Rattle.std.proofs.lemmas.Int.{clamps}
use Rattle.stored_views.proofs.ExchangeLemmas.{AreExchanged, exchanged_more, exchanged_length, exchanged_forward, exchanged_back, exchanged_places, ended}
use Rattle.stored_views.proofs.exchanging.exchange_rows.Goals as goal

pub loop-at-preserved : goal.loop-at-preserved
loop-at-preserved c =
    let before = c.args.next.now in
    let rows = c.args.stored.now in
    let at = c.loop-at.at in
    let least = c.min-at-end.ensures in
    let many = c.loop-at.invariant.next in
    let long = c.loop-at.invariant.stored in
    let one : suc at ≡ at + 1 = omega arith in
    let within : at < length c.loop-at.next = omega (arith, clamps, least, many, long) in
    let below : at < length c.loop-at.stored = omega (arith, clamps, least, many, long) in
    let more : AreExchanged (at + 1) before rows c.exchange_at.new.next c.exchange_at.new.stored =
    subst (λ (T : Type 0). T) (λ t. AreExchanged (one t) before rows (sym c.exchange_at.ensures.next t) (sym c.exchange_at.ensures.stored t))
    (exchanged_more at before rows c.loop-at.next c.loop-at.stored c.loop-at.invariant.exchanged within below) in
    let lengths = exchanged_length (at + 1) before rows c.exchange_at.new.next c.exchange_at.new.stored more in
    record { exchanged = more; next = lengths.0; stored = lengths.1 }

pub returns-clause-forward : goal.returns-clause-forward
returns-clause-forward c =
    let before = c.args.next.now in
    let rows = c.args.stored.now in
    let least = c.min-at-end.ensures in
    let end : min (length rows) (length before) ≤ c.loop-at.at = omega (arith, clamps, least) in
    exchanged_forward c.loop-at.at before rows c.loop-at.next c.loop-at.stored c.loop-at.invariant.exchanged (ended (length rows) (length before) c.loop-at.at end)

pub returns-clause-back : goal.returns-clause-back
returns-clause-back c =
    let before = c.args.next.now in
    let rows = c.args.stored.now in
    let least = c.min-at-end.ensures in
    let end : min (length rows) (length before) ≤ c.loop-at.at = omega (arith, clamps, least) in
    exchanged_back c.loop-at.at before rows c.loop-at.next c.loop-at.stored c.loop-at.invariant.exchanged (ended (length rows) (length before) c.loop-at.at end) c.requires

pub returns-clause-places : goal.returns-clause-places
returns-clause-places c = exchanged_places c.loop-at.at c.args.next.now c.args.stored.now c.loop-at.next c.loop-at.stored c.loop-at.invariant.exchanged c.requires

use Rattle.std.proofs.Common.{◌≡◌, length}
use Rattle.stored_views.proofs.ExchangeLemmas.{AreExchanged}
use Rattle.stored_views.proofs.exchanging.exchange_rows.Given as goal

-- those before the place are exchanged
abbrev pub invariant-loop-at : goal.invariant-loop-at
invariant-loop-at l = record {
  exchanged : AreExchanged l.at l.initial.next l.initial.stored l.next l.stored;
  next : length l.next ≡ length l.initial.next;
  stored : length l.stored ≡ length l.initial.stored;
}

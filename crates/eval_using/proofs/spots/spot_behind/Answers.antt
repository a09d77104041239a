use Rattle.std.proofs.Common.{◌≡◌, ◌+◌, sym, subst}
use Rattle.eval_using.specs.Spots.{IsSpot}
use Rattle.eval_using.proofs.SpotLemmas.{if_some, spot_by_index}
use Rattle.eval_using.proofs.spots.spot_behind.Goals as goal

pub returns-in-Some : goal.returns-in-Some
returns-in-Some c =
    let many = c.args.many in
    let part = c.args.part.now in
    let own = c.in-Some.ensures in
    if_some (λ s. s ≡ many + c.in-Some.i) (IsSpot many part (many + c.args.position)) c.total.result
    (λ s e. subst (IsSpot many part (many + c.args.position)) (sym e) (spot_by_index many part c.args.position c.in-Some.i own.0 own.1)) c.total.ensures

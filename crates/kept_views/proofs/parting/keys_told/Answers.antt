use Rattle.std.proofs.Common.{◌≡◌, ◌<◌, ℕ, Option, Some, option_map, length, sym, ap, subst}
use Rattle.std.specs.List.{All}
use Rattle.value_core.specs.Values.{Heading}
use Rattle.kept_views.specs.declared.group_moves.Moved.{Moved}
use Rattle.kept_views.specs.Parting.{HasHeading}
use Rattle.kept_views.proofs.parting.keys_told.Goals as goal

pub keys_moved-requires-clause-gone : goal.keys_moved-requires-clause-gone
keys_moved-requires-clause-gone c =
    let is : option_map (λ m. m.now) c.args.difference ≡ Some c.in-Some.moved.now = ap (option_map (λ m. m.now)) c.in-Some.is in
    let h = subst (λ (d : Option Moved). HasHeading c.args.of.now.heading d) is c.requires.heading in
    subst (λ (x : Heading). All (λ (i : ℕ). i < length x) c.args.positions.now) (sym h.0) c.requires.within

pub keys_moved-requires-clause-come : goal.keys_moved-requires-clause-come
keys_moved-requires-clause-come c =
    let is : option_map (λ m. m.now) c.args.difference ≡ Some c.in-Some.moved.now = ap (option_map (λ m. m.now)) c.in-Some.is in
    let h = subst (λ (d : Option Moved). HasHeading c.args.of.now.heading d) is c.requires.heading in
    subst (λ (x : Heading). All (λ (i : ℕ). i < length x) c.args.positions.now) (sym h.1) c.requires.within

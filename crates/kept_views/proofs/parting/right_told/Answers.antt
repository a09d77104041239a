use Rattle.std.proofs.Common.{◌≡◌, ◌<◌, ℕ, List, Option, Some, option_map, length, sym, ap, subst}
use Rattle.std.specs.List.{All}
use Rattle.value_core.specs.Values.{Relation}
use Rattle.kept_views.specs.Parting.{HasHeadingIf}
use Rattle.kept_views.proofs.parting.right_told.Goals as goal

pub keys_told-requires-clause-heading : goal.keys_told-requires-clause-heading
keys_told-requires-clause-heading c =
    let is : option_map (λ r. r.now) c.args.right ≡ Some c.in-Some.other.now = ap (option_map (λ r. r.now)) c.in-Some.is in
    subst (λ (o : Option Relation). HasHeadingIf o (option_map (λ m. m.now) c.args.difference)) is c.requires.heading

pub keys_told-requires-clause-within : goal.keys_told-requires-clause-within
keys_told-requires-clause-within c =
    subst (λ (ps : List ℕ). All (λ (i : ℕ). i < length c.in-Some.other.now.heading) ps) (sym c.as_slice.ensures.value) c.in_ok-places-in-Some.ensures.within

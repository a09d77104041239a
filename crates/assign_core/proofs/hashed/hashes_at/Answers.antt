use Rattle.std.proofs.Common.{List, sym, subst}
use Rattle.relation_core.specs.Hashes.{HashList}
use Rattle.assign_core.specs.Hashed.{AreHashesAt}
use Rattle.assign_core.proofs.HashedLemmas.{none_hashed, hashed_there}
use Rattle.assign_core.proofs.hashed.hashes_at.Goals as goal

pub returns-in-Some : goal.returns-in-Some
returns-in-Some c es h =
    subst (λ (ms : List HashList). AreHashesAt c.args.at ms es) (sym c.as_slice.ensures.value)
    (hashed_there c.args.hashed.now.entries.items c.args.at c.in-Some.i c.index.result.now es (sym c.in-Some.ensures) c.index.ensures h)

pub returns-in-None : goal.returns-in-None
returns-in-None c es h = none_hashed c.args.at es

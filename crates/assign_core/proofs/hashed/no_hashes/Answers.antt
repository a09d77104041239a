use Rattle.std.proofs.Common.{List, sym, subst}
use Rattle.std.specs.List.{All}
use Rattle.std.proofs.lemmas.List.Elements.{All-nil}
use Rattle.assign_core.specs.declared.hashed.HashedRelvar.{HashedRelvar}
use Rattle.assign_core.specs.Hashed.{IsHashed}
use Rattle.assign_core.proofs.hashed.no_hashes.Goals as goal

pub returns-clause-hashed : goal.returns-clause-hashed
returns-clause-hashed c es = subst (λ (rs : List HashedRelvar). All (IsHashed es) rs) (sym c.new.ensures.items) (All-nil (IsHashed es))

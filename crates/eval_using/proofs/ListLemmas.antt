-- Lists of interval attributes: how they come back from their names.
use Rattle.std.proofs.Common.{◌≡◌, ℕ, ◌<◌, List, length, subst}
use Rattle.std.specs.Bool.{IsTrue}
use Rattle.base_core.proofs.SetLemmas.{Contains-from_In}
use Rattle.value_core.specs.Values.{Heading, is_heading}
use Rattle.relation_core.proofs.HeadingLemmas.{heading_ascends}
use Rattle.meaning_core.specs.Meanings.{positions_of, names_at}
use Rattle.meaning_core.specs.Typing.{IsList}
use Rattle.meaning_core.proofs.PositionLemmas.{positions-back}

-- positions come back from the names at them
pub positions_back : (heading : Heading) (commalist : List ℕ) → IsTrue (is_heading heading) → IsList heading commalist → positions_of heading (names_at heading commalist) ≡ commalist
positions_back heading commalist headed list = positions-back heading commalist (heading_ascends heading headed) (λ i m.
    let at = Contains-from_In commalist i m in
    subst (λ j. j < length heading) at.2 (list.within at.0 i at.1))

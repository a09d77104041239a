-- The positions of the lists of names that an insertion under USING may have.
--     listed-is_list      they are different ones of intervals, and few
use Rattle.std.specs.Prelude.{ℕ, List, IfOk}
use Rattle.std.proofs.Common.{sym, subst}
use Rattle.point_core.specs.Faults.{OrFault}
use Rattle.utd_syntax.specs.Plain.{NameListP}
use Rattle.value_core.specs.Values.{Name, Heading}
use Rattle.meaning_core.specs.Typing.{IsList}
use Rattle.node_typing.specs.Lists.{listed_names}
use Rattle.type_check.proofs.ListLemmas.{AreListed, list-sound, left-list}
use Rattle.constant_laws.specs.Insertions.{IsListed}

-- the list of a USING that is typed is a list of positions
pub listed-is_list : (heading : Heading) (commalist : List ℕ) (list : NameListP) → IsListed heading commalist list → IsList heading commalist
listed-is_list heading commalist list h =
    let are : AreListed heading heading list (listed_names list) = subst (λ (m : OrFault (List Name)). IfOk m (AreListed heading heading list)) h.is_fine (list-sound heading heading list) in
    subst (IsList heading) (sym h.at) (left-list heading heading list (listed_names list) are)

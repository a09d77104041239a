-- The listed attributes of a part, in the operand.
use Rattle.std.proofs.Common.{◌≡◌, ℕ, ◌<◌, List, get_or, sym, ap, ◌∙◌, length}
use Rattle.std.specs.Bool.{IsTrue}
use Rattle.std.specs.List.{All}
use Rattle.std.proofs.lemmas.List.{get_or-map}
use Rattle.base_core.proofs.ListLemmas.{map-In}
use Rattle.value_core.specs.Values.{Name, Heading, is_heading}
use Rattle.value_core.specs.declared.kind.Kind.{Kind}
use Rattle.relation_core.specs.Agreement.{position_of}
use Rattle.relation_core.specs.Parts.{no_attribute, attributes_at}
use Rattle.relation_core.proofs.HeadingLemmas.{heading_ascends}
use Rattle.u_row.specs.Kept.{beneath}
use Rattle.u_row.proofs.BeneathLemmas.{in_all}
use Rattle.u_row.proofs.LabelLemmas.{map_twice}
use Rattle.u_join.proofs.NameLemmas.{position_at}
use Rattle.eval_using.specs.Using.{listed}

-- the listed attributes of a part stand beneath it where the kept positions say
pub beneath_is : (heading from : Heading) (kept commalist : List ℕ) → IsTrue (is_heading from) → heading ≡ attributes_at kept from → All (λ (i : ℕ). i < length from) kept → All (λ (j : ℕ). j < length kept) commalist
    → beneath kept commalist ≡ listed heading commalist from
beneath_is heading from kept commalist headed same within below =
    sym (map_twice (position_of from) (λ i. (get_or heading i no_attribute).0) commalist
    ∙ map-In (λ i. position_of from (get_or heading i no_attribute).0) (λ i. get_or kept i 0) commalist (λ i m.
    let l : i < length kept = in_all (λ (j : ℕ). j < length kept) commalist below i m in
    let a : get_or heading i no_attribute ≡ get_or from (get_or kept i 0) no_attribute = ap (λ (h : Heading). get_or h i no_attribute) same ∙ get_or-map (λ k. get_or from k no_attribute) kept i 0 no_attribute l in
    ap (λ (b : Name × Kind). position_of from b.0) a ∙ position_at from (get_or kept i 0) (heading_ascends from headed) (within i 0 l)))

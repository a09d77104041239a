use Rattle.std.proofs.Common.{ℕ, ◌<◌, ◌≡◌, length, sym, ◌∙◌, subst}
use Rattle.std.specs.List.{All}
use Rattle.std.specs.Prelude.{IfOk}
use Rattle.value_core.specs.Values.{Heading}
use Rattle.relation_core.specs.Parts.{projected}
use Rattle.u_constraints.proofs.SearchLemmas.{front_touched}
use Rattle.u_constraints.proofs.search.touched_in_prefix.Goals as goal

pub sorted_parts-requires : goal.sorted_parts-requires
sorted_parts-requires c k d l = (subst (λ (h : Heading). All (λ (i : ℕ). i < length h) c.args.positions.now) (sym c.requires.heading) c.requires.within) k d l

pub returns : goal.returns
returns c =
    let are : c.as_slice.result.now ≡ projected c.args.positions.now c.args.few.now.rows = c.as_slice.ensures.value ∙ c.in_ok-keys.ensures.parts in
    let same = front_touched c.args.positions.now c.args.many.now c.args.few.now.rows c.as_slice.result.now c.rows-rows.ensures.relation c.requires.first c.requires.within are in
    subst (λ rows. IfOk c.rows_in_front.result (λ r. (r.heading ≡ c.args.many.now.heading) × (r.rows ≡ rows))) same c.rows_in_front.ensures

use Rattle.std.proofs.Common.{◌≡◌, ℕ, List, ap, ◌∙◌, subst}
use Rattle.std.specs.Prelude.{IfOk}
use Rattle.value_core.specs.Values.{Row}
use Rattle.relation_core.specs.Parts.{projected}
use Rattle.u_constraints.specs.Near.{with_keys}
use Rattle.u_constraints.proofs.search.touched_by_hashes.Goals as goal

pub returns : goal.returns
returns c =
    let positions = c.args.hashes.now.positions in
    let few = c.args.few.now.rows in
    let keys : c.as_slice.result.now ≡ projected positions few = c.as_slice.ensures.value ∙ (c.in_ok-keys.ensures.parts ∙ ap (λ (ps : List ℕ). projected ps few) c.positions.ensures) in
    subst (λ (ks : List Row). IfOk c.passed_over.result (λ r. (r.heading ≡ c.args.many.now.heading) × (r.rows ≡ with_keys positions ks c.args.many.now.rows))) keys c.passed_over.ensures

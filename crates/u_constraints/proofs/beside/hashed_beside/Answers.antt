use Rattle.std.proofs.Common.{◌≡◌, ◌∙◌, sym, subst, [], ◌∷◌, List, ℕ, ap, ◌&&◌}
use Rattle.base_core.specs.Sets.{has}
use Rattle.value_core.specs.Values.{Heading, row_cmp}
use Rattle.relation_core.specs.Agreement.{part_of}
use Rattle.relation_core.specs.Parts.{projected}
use Rattle.u_set.specs.Apart.{span_in}
use Rattle.u_set.specs.Boxes.{AreIntervals}
use Rattle.u_constraints.specs.Beside.{are_beside}
use Rattle.u_constraints.proofs.CoverLemmas.{spans_held}
use Rattle.u_constraints.proofs.HullLemmas.{found_beside}
use Rattle.u_constraints.proofs.beside.hashed_beside.Goals as goal

pub hull_of-hull-requires : goal.hull_of-hull-requires
hull_of-hull-requires c =
    spans_held c.args.few.now c.rows.ensures.relation c.args.at (subst (λ (h : Heading). AreIntervals h (c.args.at ∷ [])) (sym c.requires.heading) c.requires.interval) c.rows.result.now c.rows.ensures.rows

pub selection-requires : goal.selection-requires
selection-requires c = (λ x. are_beside (span_in c.args.at x) c.hull_of-hull.result && has row_cmp c.as_slice.result.now (part_of c.args.hashes.now.positions x), c.in_ok-rows.ensures.rows)

pub returns : goal.returns
returns c =
    let parts : c.as_slice.result.now ≡ projected c.args.hashes.now.positions c.args.few.now.rows = c.as_slice.ensures.value ∙ (c.in_ok-keys.ensures.parts ∙ ap (λ (ps : List ℕ). projected ps c.args.few.now.rows) c.positions.ensures) in (
      c.in_ok-relation.ensures.0,
      found_beside c.args.hashes.now.positions c.args.at c.hull_of-hull.result c.args.few.now.rows c.rows.result.now c.args.many.now.rows c.as_slice.result.now c.in_ok-relation.relation.rows c.rows.ensures.rows parts c.hull_of-hull.ensures
          (c.in_ok-relation.ensures.1 ∙ c.in_ok-rows.ensures.rows),
    )

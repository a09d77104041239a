use Rattle.std.proofs.Common.{◌≡◌, ℕ, ◌<◌, ◌&&◌, List, [], ◌∷◌, ◌++◌, length, map, ap, sym, subst, ◌∙◌, if◌then◌else◌}
use Rattle.std.specs.List.{All}
use Rattle.base_core.specs.Sets.{has}
use Rattle.value_core.specs.Values.{Row, row_cmp}
use Rattle.relation_core.specs.Agreement.{part_of}
use Rattle.relation_core.specs.Hashes.{hash_of}
use Rattle.relation_core.proofs.HashLemmas.{below_rows, row_long}
use Rattle.u_set.specs.Apart.{span_in, HasInterval}
use Rattle.u_constraints.specs.Beside.{are_beside}
use Rattle.u_constraints.proofs.CoverLemmas.{spans_held}
use Rattle.u_constraints.proofs.HullLemmas.{kept_more, left_out}
use Rattle.u_constraints.proofs.beside.beside_by_hashes.Goals as goal
use Rattle.u_constraints.proofs.beside.beside_by_hashes.Goals.{then-may_be_sought+in_ok-keep_beside, else-may_be_sought}

pub keep_beside-requires-clause-interval : goal.keep_beside-requires-clause-interval
keep_beside-requires-clause-interval c =
    let many = c.args.many.now in
    let hashes = c.args.hashes.now in
    let lt = below_rows hashes.positions many.rows c.rows-given.result.now hashes.list c.list-hash-items.result.now c.loop-i.i c.requires.hashes c.rows-given.ensures.rows c.list-hash-items.ensures c.loop-i-test.true in
    let spans = spans_held many c.rows-given.ensures.relation c.args.at c.requires.interval c.rows-given.result.now c.rows-given.ensures.rows in
    subst (λ (x : Row). HasInterval c.args.at x) (sym c.index-given-i.is) (spans c.loop-i.i c.index-given-i.result lt)

pub keep_beside-requires-clause-within : goal.keep_beside-requires-clause-within
keep_beside-requires-clause-within c =
    let many = c.args.many.now in
    let hashes = c.args.hashes.now in
    let lt = below_rows hashes.positions many.rows c.rows-given.result.now hashes.list c.list-hash-items.result.now c.loop-i.i c.requires.hashes c.rows-given.ensures.rows c.list-hash-items.ensures c.loop-i-test.true in
    let within : All (λ (k : ℕ). k < length many.heading) c.positions-label.result.now = subst (λ (ps : List ℕ). All (λ (k : ℕ). k < length many.heading) ps) (sym c.positions-label.ensures) c.requires.within in
    row_long many c.rows-given.result.now c.loop-i.i c.index-given-i.result c.positions-label.result.now c.rows-given.ensures.relation c.rows-given.ensures.rows lt c.index-given-i.is within

pub loop-i-preserved : goal.loop-i-preserved
loop-i-preserved c =
    let many = c.args.many.now in
    let hashes = c.args.hashes.now in
    let keys = c.args.keys.now in
    let given = c.rows-given.result.now in
    let at = c.args.at in
    let hull = c.args.hull in
    let lt = below_rows hashes.positions many.rows given hashes.list c.list-hash-items.result.now c.loop-i.i c.requires.hashes c.rows-given.ensures.rows c.list-hash-items.ensures c.loop-i-test.true in
    let are : c.list-hash-items.result.now ≡ map (hash_of hashes.positions) given =
    c.list-hash-items.ensures ∙ (c.requires.hashes ∙ ap (λ (rs : List Row). map (hash_of hashes.positions) rs) (sym c.rows-given.ensures.rows)) in
    elim c.if-may_be_sought.branch [
      | then-may_be_sought+in_ok-keep_beside w ↦
          let x = w.index-given-i.result in
          kept_more hashes.positions at hull keys given c.loop-i.i lt c.loop-i.rows.items c.if-may_be_sought.rows.items c.loop-i.invariant x w.index-given-i.is
          (ap (λ v. v.items) w.rows-is
          ∙ (w.in_ok-keep_beside.ensures
          ∙ ap (λ (ps : List ℕ). c.loop-i.rows.items ++ (if are_beside (span_in at x) hull && has row_cmp keys (part_of ps x) then x ∷ [] else [])) c.positions-label.ensures))
      | else-may_be_sought w ↦
          left_out hashes.positions at hull keys given c.loop-i.i lt c.loop-i.rows.items c.if-may_be_sought.rows.items c.loop-i.invariant c.list-hash-items.result.now c.as_slice-in-loop-i-2.result.now c.may_be_sought.result
          are (c.as_slice-in-loop-i-2.ensures.value ∙ c.in_ok-sought.ensures) c.may_be_sought.ensures w.if-may_be_sought.false (ap (λ v. v.items) w.rows-is)
    ]

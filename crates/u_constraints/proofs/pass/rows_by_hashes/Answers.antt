use Rattle.std.proofs.Common.{◌≡◌, ℕ, ◌<◌, List, [], ◌∷◌, ◌++◌, length, map, ap, sym, subst, ◌∙◌, if◌then◌else◌}
use Rattle.std.specs.List.{All}
use Rattle.base_core.specs.Sets.{has}
use Rattle.value_core.specs.Values.{Row, row_cmp}
use Rattle.relation_core.specs.Agreement.{part_of}
use Rattle.relation_core.specs.Hashes.{hash_of}
use Rattle.relation_core.proofs.HashLemmas.{below_rows, row_long, kept_more, left_out}
use Rattle.u_constraints.proofs.NearLemmas.{sought_too}
use Rattle.u_constraints.proofs.pass.rows_by_hashes.Goals as goal
use Rattle.u_constraints.proofs.pass.rows_by_hashes.Goals.{then-is_sought+in_ok-keep_with_key, else-is_sought}

pub keep_with_key-requires-clause-within : goal.keep_with_key-requires-clause-within
keep_with_key-requires-clause-within c =
    let many = c.args.many.now in
    let hashes = c.args.hashes.now in
    let lt = below_rows hashes.positions many.rows c.rows-given.result.now hashes.list c.list-hash-items.result.now c.loop-at.at c.requires.hashes c.rows-given.ensures.rows c.list-hash-items.ensures c.loop-at-test.true in
    let within : All (λ (k : ℕ). k < length many.heading) c.positions-positions.result.now = subst (λ (ps : List ℕ). All (λ (k : ℕ). k < length many.heading) ps) (sym c.positions-positions.ensures) c.requires.within in
    row_long many c.rows-given.result.now c.loop-at.at c.index-given-at.result c.positions-positions.result.now c.rows-given.ensures.relation c.rows-given.ensures.rows lt c.index-given-at.is within

pub loop-at-preserved : goal.loop-at-preserved
loop-at-preserved c =
    let many = c.args.many.now in
    let hashes = c.args.hashes.now in
    let given = c.rows-given.result.now in
    let lt = below_rows hashes.positions many.rows given hashes.list c.list-hash-items.result.now c.loop-at.at c.requires.hashes c.rows-given.ensures.rows c.list-hash-items.ensures c.loop-at-test.true in
    let are : c.list-hash-items.result.now ≡ map (hash_of hashes.positions) given =
    c.list-hash-items.ensures ∙ (c.requires.hashes ∙ ap (λ (rs : List Row). map (hash_of hashes.positions) rs) (sym c.rows-given.ensures.rows)) in
    elim c.if-is_sought.branch [
      | then-is_sought+in_ok-keep_with_key w ↦
          let x = w.index-given-at.result in
          kept_more c.args.keys.now hashes.positions given c.loop-at.at x lt w.index-given-at.is c.loop-at.rows.items c.if-is_sought.rows.items c.loop-at.invariant
          (ap (λ v. v.items) w.rows-is
          ∙ (w.in_ok-keep_with_key.ensures
          ∙ ap (λ (ps : List ℕ). c.loop-at.rows.items ++ (if has row_cmp c.args.keys.now (part_of ps x) then x ∷ [] else [])) c.positions-positions.ensures))
      | else-is_sought w ↦
          left_out c.args.keys.now hashes.positions given c.list-hash-items.result.now c.args.sought.now c.loop-at.at lt are
          (sought_too hashes.positions c.args.keys.now c.args.sought.now c.requires.sought) c.loop-at.rows.items c.if-is_sought.rows.items
          (sym c.is_sought.ensures ∙ w.if-is_sought.false) c.loop-at.invariant (ap (λ v. v.items) w.rows-is)
    ]

use Rattle.std.proofs.Common.{◌≡◌, List, map, ap, sym, subst, ◌∙◌}
use Rattle.value_core.specs.Values.{Row}
use Rattle.scalar_core.specs.Expressions.{read}
use Rattle.relation_core.specs.Hashes.{hash_of}
use Rattle.relation_core.proofs.HashLemmas.{below_rows}
use Rattle.meaning_core.specs.Scalars.{IsConditionOver}
use Rattle.change_rows.proofs.PartLemmas.{all_over}
use Rattle.change_rows.proofs.RequirementLemmas.{hashed_more, unhashed}
use Rattle.change_rows.proofs.telling.rows_with_hash.Goals as goal
use Rattle.change_rows.proofs.telling.rows_with_hash.Goals.{then-hash-sought+in_ok-keep_staying, else-hash-sought}

pub keep_staying-requires : goal.keep_staying-requires
keep_staying-requires c =
    let value = c.args.value.now in
    let hashes = c.args.hashes.now in
    let given = c.rows-given.result.now in
    let lt = below_rows hashes.positions value.rows given hashes.list c.list-hash-items.result.now c.loop-at.at c.requires.hashes c.rows-given.ensures.rows c.list-hash-items.ensures c.loop-at-test.true in
    subst (λ (x : Row). IsConditionOver x (read c.args.g.now)) (sym c.index-given-at.is)
    (all_over value given (read c.args.g.now) c.rows-given.ensures.relation c.rows-given.ensures.rows c.requires.typed c.loop-at.at c.index-given-at.result lt)

pub loop-at-preserved : goal.loop-at-preserved
loop-at-preserved c =
    let value = c.args.value.now in
    let g = read c.args.g.now in
    let hashes = c.args.hashes.now in
    let given = c.rows-given.result.now in
    let list = c.list-hash-items.result.now in
    let lt = below_rows hashes.positions value.rows given hashes.list list c.loop-at.at c.requires.hashes c.rows-given.ensures.rows c.list-hash-items.ensures c.loop-at-test.true in
    let are : list ≡ map (hash_of hashes.positions) given =
    c.list-hash-items.ensures ∙ (c.requires.hashes ∙ ap (λ (rs : List Row). map (hash_of hashes.positions) rs) (sym c.rows-given.ensures.rows)) in
    elim c.if-hash-sought.branch [
      | then-hash-sought+in_ok-keep_staying w ↦
          hashed_more g hashes.positions c.args.values.now c.requires.required given list are c.loop-at.at lt w.index-given-at.result w.index-given-at.is c.loop-at.kept.items c.if-hash-sought.kept.items c.loop-at.invariant
          (ap (λ v. v.items) w.kept-is ∙ w.in_ok-keep_staying.ensures)
      | else-hash-sought w ↦
          unhashed g hashes.positions c.args.values.now c.requires.required given list are c.loop-at.at lt c.loop-at.kept.items c.if-hash-sought.kept.items
          (λ same. w.if-hash-sought.false (same ∙ sym c.row_hash-sought.ensures)) c.loop-at.invariant (ap (λ v. v.items) w.kept-is)
    ]

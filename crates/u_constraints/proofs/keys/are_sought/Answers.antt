use Rattle.std.proofs.Common.{◌≡◌, ◌<◌, ◌≤◌, false, true, List, length, arith, subst, rules}
use Rattle.std.specs.List.{list_all}
use Rattle.base_core.specs.Sets.{has}
use Rattle.value_core.specs.Values.{Row, row_cmp}
use Rattle.relation_core.specs.Agreement.{part_of}
use Rattle.relation_core.proofs.FilterLemmas.{take_all}
use Rattle.relation_core.proofs.HashLemmas.{row_long}
use Rattle.u_constraints.proofs.KeyLemmas.{found_so_far, not_found, searched}
use Rattle.u_constraints.proofs.keys.are_sought.Goals as goal

pub part-requires : goal.part-requires
part-requires c k d l =
    let within : c.loop-row.row-index < length c.rows-row-items.result.now = omega arith in
    (row_long c.args.r.now c.rows-row-items.result.now c.loop-row.row-index c.row-item.result c.args.here.now c.rows-row-items.ensures.relation c.rows-row-items.ensures.rows within c.row-item.is c.requires.here) k d l

pub loop-row-preserved : goal.loop-row-preserved
loop-row-preserved c =
    let within : c.loop-row.row-index < length c.rows-row-items.result.now = omega arith in
    let found : has row_cmp c.in_ok-keys.keys.items c.in_ok-key.key ≡ true = search rules in
    found_so_far c.args.here.now c.in_ok-keys.keys.items c.rows-row-items.result.now c.loop-row.row-index c.row-item.result c.in_ok-key.key within c.row-item.is c.in_ok-key.ensures c.loop-row.invariant found

pub returns-then-not-contains : goal.returns-then-not-contains
returns-then-not-contains c =
    let within : c.loop-row.row-index < length c.rows-row-items.result.now = omega arith in
    let missing : has row_cmp c.in_ok-keys.keys.items c.in_ok-key.key ≡ false = search rules in
    searched c.args.here.now c.in_ok-keys.keys.items c.args.there.now c.rows-row-items.result.now c.args.r.now.rows c.args.other.now.rows false c.rows-row-items.ensures.rows c.in_ok-keys.ensures.parts
    (not_found c.args.here.now c.in_ok-keys.keys.items c.rows-row-items.result.now c.loop-row.row-index c.row-item.result c.in_ok-key.key within c.row-item.is c.in_ok-key.ensures missing)

pub returns : goal.returns
returns c =
    let ended : length c.rows-row-items.result.now ≤ c.loop-row.row-index = omega arith in
    let all : list_all (λ z. has row_cmp c.in_ok-keys.keys.items (part_of c.args.here.now z)) c.rows-row-items.result.now ≡ true =
    subst (λ (zs : List Row). list_all (λ z. has row_cmp c.in_ok-keys.keys.items (part_of c.args.here.now z)) zs ≡ true) (take_all c.loop-row.row-index c.rows-row-items.result.now ended) c.loop-row.invariant in
    searched c.args.here.now c.in_ok-keys.keys.items c.args.there.now c.rows-row-items.result.now c.args.r.now.rows c.args.other.now.rows true c.rows-row-items.ensures.rows c.in_ok-keys.ensures.parts all

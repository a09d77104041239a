use Rattle.std.proofs.Common.{◌≡◌, ◌∙◌, ◌<◌, ℕ, length, refl, rules, subst, sym, true}
use Rattle.base_core.proofs.SetLemmas.{Ascends-from_sorted}
use Rattle.value_core.specs.Attributes.{among}
use Rattle.value_core.specs.Values.{Heading, row_cmp}
use Rattle.u_constraints.specs.Prefixes.{counts_from}
use Rattle.u_constraints.proofs.PrefixLemmas.{key_of_relation}
use Rattle.u_constraints.proofs.KeyLemmas.{counted}
use Rattle.u_constraints.proofs.WholeKeyLemmas.{whole_key_of_rows}
use Rattle.u_constraints.proofs.keys.is_key.Goals as goal

pub returns-then-are_all : goal.returns-then-are_all
returns-then-are_all c =
    let all : (i : ℕ) → i < length c.args.r.now.heading → among c.args.positions.now i ≡ true = λ i below.
    c.are_all.ensures c.if-are_all.true i (subst (λ (h : Heading). i < length h) (sym (c.attributes.ensures.list ∙ c.heading.ensures.heading)) below) in
    whole_key_of_rows c.args.r.now c.rows-rows.ensures.relation c.args.positions.now all

pub returns-then-are_first : goal.returns-then-are_first
returns-then-are_first c =
    let first : counts_from 0 c.args.positions.now ≡ true = search rules in
    c.prefixes_ascend.ensures ∙ key_of_relation c.args.positions.now c.args.r.now _ _ c.rows-rows.ensures.relation c.requires first refl c.rows-rows.ensures.rows

pub returns : goal.returns
returns c =
    let keys : c.len.result ≡ length c.in_ok-keys.keys.items = search rules in
    let rows : length c.rows-rows.result.now ≡ length c.args.r.now.rows = search rules in
    counted c.args.positions.now c.args.r.now.rows c.in_ok-keys.keys.items _ _ (Ascends-from_sorted row_cmp c.args.r.now.rows c.rows-rows.ensures.relation.ascending) c.in_ok-keys.ensures.parts keys rows

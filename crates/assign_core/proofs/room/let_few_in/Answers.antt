use Rattle.std.proofs.Common.{◌≡◌, List, true, length, not, drop, sym, ap, subst, ◌∙◌, arith}
use Rattle.std.proofs.lemmas.List.Elements.{All-filter}
use Rattle.std.specs.List.{All}
use Rattle.std.specs.List.Sorted.{IsStrictlySortedBy}
use Rattle.std.specs.Vec.{vec_len, vec_capacity}
use Rattle.base_core.specs.Sets.{has}
use Rattle.value_core.specs.Values.{Heading, Row, row_cmp}
use Rattle.relation_core.proofs.FilterLemmas.{length-filter_at_most}
use Rattle.relation_core.specs.Operators.{subtracted}
use Rattle.assign_core.specs.Exchanges.{HasRoom}
use Rattle.assign_core.specs.Hashed.{IsHashesOf}
use Rattle.assign_core.proofs.HashedLemmas.{rows_long}
use Rattle.assign_core.proofs.HeldLemmas.{few_in, held_relation}
use Rattle.assign_core.proofs.InTurnLemmas.{apart_left}
use Rattle.assign_core.proofs.room.let_few_in.Goals as goal

pub exchange_each-requires : goal.exchange_each-requires
exchange_each-requires g c =
    let h = c.args.held in
    let k = c.requires.1.0 in
    let come = c.take_rows-come.result.items in
    let gone = c.rows-gone.result.now in
    let whole : drop h.empty h.rows.items ≡ h.rows.items = ap (λ n. drop n h.rows.items) c.requires.1.1 in
    let own = subst (λ n. HasRoom n (vec_len h.rows) (vec_capacity h.rows) (length c.args.rows.now.come.rows)) c.requires.1.1 k.room in
    let left : length c.take_out.new.rows.items ≡ length (subtracted come gone) = ap (λ (rs : List Row). length rs) c.take_out.ensures in
    let less = length-filter_at_most (λ (x : Row). not (has row_cmp gone x)) come in
    let same : length come ≡ length c.args.rows.now.come.rows = ap (λ (rs : List Row). length rs) c.take_rows-come.ensures.rows in (
      subst (λ (rs : List Row). IsStrictlySortedBy row_cmp rs) whole k.relation.ascending,
      (
        (λ z e. apart_left come gone z (subst (λ (rs : List Row). has row_cmp rs z ≡ true) c.take_out.ensures e)),
        (
          omega (arith, own, left, less, same),
          (
            subst (λ (rs : List Row). All (λ (x : Row). length x ≡ length g.heading) rs) (sym c.take_out.ensures)
                (All-filter (λ (x : Row). not (has row_cmp gone x)) (λ (x : Row). length x ≡ length g.heading) come
                (rows_long c.args.rows.now.come come g.heading c.take_rows-come.ensures.relation c.take_rows-come.ensures.rows (k.headed ∙ c.requires.0))),
            subst (λ (rs : List Row). All (IsHashesOf g.heading rs) h.hashes.items) whole
                (subst (λ (hs : Heading). All (IsHashesOf hs (drop h.empty h.rows.items)) h.hashes.items) c.requires.0 k.hashes),
          ),
        ),
      ),
    )

pub set_rows-requires : goal.set_rows-requires
set_rows-requires g c =
    let h = c.args.held in
    let whole : drop h.empty h.rows.items ≡ h.rows.items = ap (λ n. drop n h.rows.items) c.requires.1.1 in
    let made = few_in h c.args.rows.now c.take_rows-come.result.items c.rows-gone.result.now c.take_out.new.rows.items c.exchange_each.new.rows.items whole c.take_out.ensures
    c.take_rows-come.ensures.rows c.rows-gone.ensures.rows c.exchange_each.ensures.rows in
    held_relation c.args.value.now h c.args.rows.now c.exchange_each.new.rows.items c.requires.1.0 c.take_rows-come.ensures.relation made

pub returns-clause-value : goal.returns-clause-value
returns-clause-value g c =
    let h = c.args.held in
    let whole : drop h.empty h.rows.items ≡ h.rows.items = ap (λ n. drop n h.rows.items) c.requires.1.1 in
    let made = few_in h c.args.rows.now c.take_rows-come.result.items c.rows-gone.result.now c.take_out.new.rows.items c.exchange_each.new.rows.items whole c.take_out.ensures
    c.take_rows-come.ensures.rows c.rows-gone.ensures.rows c.exchange_each.ensures.rows in
    c.set_rows.ensures ∙ ap (λ (rs : List Row). record { heading = c.args.value.now.heading; rows = rs }) made

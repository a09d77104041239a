use Rattle.std.proofs.Common.{List, sym, subst}
use Rattle.std.specs.List.{All}
use Rattle.value_core.specs.Values.{Row}
use Rattle.u_set.specs.Apart.{HasInterval, AreBeyond}
use Rattle.u_set.specs.declared.apart.Gap.TheVariants.{One}
use Rattle.u_set.proofs.CoalescingLemmas.{all_have}
use Rattle.u_set.proofs.coalescing.packed_by_label.Goals as goal

pub stand_apart-requires : goal.stand_apart-requires
stand_apart-requires c =
    subst (λ (rows : List Row). All (HasInterval c.args.at) rows) (sym c.as_slice.ensures.value) (all_have c.args.heading.now c.args.at c.requires.interval c.in_ok-joined.joined.items c.in_ok-joined.ensures.fit)

pub returns-then-stand_apart : goal.returns-then-stand_apart
returns-then-stand_apart c =
    let label = c.requires.label in
    let rows = c.as_slice.ensures.value in
    record {
      joined = c.in_ok-joined.ensures;
      beyond = subst (λ (T : Type 0). T) (λ t. AreBeyond (label t) c.args.at One (rows t)) (c.stand_apart.ensures c.if-stand_apart.true);
    }

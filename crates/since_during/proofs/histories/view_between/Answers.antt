use Rattle.std.proofs.Common.{◌≤◌, length, subst, sym}
use Rattle.value_core.specs.declared.kind.Kind.TheVariants.{Point, Span}
use Rattle.value_core.specs.Limits.{most_attributes}
use Rattle.value_core.specs.Values.{Heading}
use Rattle.meaning_core.specs.Histories.{with_attribute}
use Rattle.since_during.proofs.RoomLemmas.{room-two}
use Rattle.since_during.proofs.histories.view_between.Goals as goal

pub joined_history-requires : goal.joined_history-requires
joined_history-requires c =
    subst (λ (g : Heading). length (with_attribute g c.args.h.now.span (Span c.args.h.now.over)) ≤ most_attributes) (sym c.requires.since)
    (room-two c.args.h.now.heading c.args.h.now.point c.args.h.now.span (Point c.args.h.now.over) (Span c.args.h.now.over) c.requires.data.few)

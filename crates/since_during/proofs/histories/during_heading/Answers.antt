use Rattle.value_core.specs.declared.kind.Kind.TheVariants.{Span}
use Rattle.since_during.proofs.RoomLemmas.{room-one}
use Rattle.since_during.proofs.histories.during_heading.Goals as goal

pub with_attribute-requires : goal.with_attribute-requires
with_attribute-requires c = room-one c.args.h.now.heading c.args.h.now.span (Span c.args.h.now.over) c.requires.few

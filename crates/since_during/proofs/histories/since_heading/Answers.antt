use Rattle.value_core.specs.declared.kind.Kind.TheVariants.{Point}
use Rattle.since_during.proofs.RoomLemmas.{room-one}
use Rattle.since_during.proofs.histories.since_heading.Goals as goal

pub with_attribute-requires : goal.with_attribute-requires
with_attribute-requires c = room-one c.args.h.now.heading c.args.h.now.point (Point c.args.h.now.over) c.requires.few

use Rattle.std.proofs.Common.{◌∙◌, sym}
use Rattle.meaning_core.proofs.MadeLemmas.{place-position}
use Rattle.row_making.proofs.places.place_in.Goals as goal

pub returns : goal.returns
returns c = c.position.ensures.value ∙ sym (place-position c.args.from.now c.args.name.now)

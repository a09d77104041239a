use Rattle.std.proofs.Common.{◌∙◌}
use Rattle.utd_print.proofs.CharacterLemmas.{character_count-utf8}
use Rattle.utd_print.proofs.tables.character_count.Goals as goal

pub returns-clause-characters : goal.returns-clause-characters
returns-clause-characters c = λ utf. c.first_bytes.ensures ∙ character_count-utf8 c.args.text.now utf

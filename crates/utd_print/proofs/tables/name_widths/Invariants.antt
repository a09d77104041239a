use Rattle.std.proofs.Common.{◌≡◌, map, take}
use Rattle.utd_print.specs.Tables.{character_count, names_of}
use Rattle.utd_print.proofs.tables.name_widths.Given as goal

abbrev pub invariant-loop-attribute : goal.invariant-loop-attribute
invariant-loop-attribute l = l.widths.items ≡ map character_count (names_of (take l.attribute-index l.attributes))

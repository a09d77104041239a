-- What the words of the command line ask for, as `clap` defines it.
--     utd_command      the command
--     asked      what the words ask for, where the command takes them
--     script_asked      the script that is performed for that
use Rattle.std.specs.Prelude.{ℕ, ◌≤◌, Bool, true, false, List, [], ◌∷◌, Option, Some, None, codes}
use Rattle.std.specs.Str.{bytes_eq}
use Rattle.std.specs.Str.Parse.{digits_value, without_leading_plus}
use Rattle.clap.specs.Words.{App, Rule, Text, fault_of, matches_of, new_app, new_rule, one_of, with_rule}
use Rattle.clap.specs.Kinds.{Kinds}
use Rattle.clap.specs.declared.builder.action.ArgAction.TheVariants.{Set, SetTrue}
use Rattle.clap.specs.declared.builder.value_parser.ValueParser.TheVariants.{Unsigned}
use Rattle.utd_gen.specs.Script.{most_tuples}
use Rattle.utd_words.specs.declared.words.Script.{Script}
use Rattle.utd_words.specs.declared.words.Script.TheVariants.{OfInput, Generated}
use Rattle.utd_words.specs.declared.words.Asked.{Asked}
use Rattle.utd_words.specs.declared.words.Asked.TheVariants.{Answers, Dump}

-- ---- the command

abbrev pub generate : Text
generate = codes "generate"

abbrev pub dump : Text
dump = codes "dump"

-- the option `--generate` with one value, a number from 1 to the most tuples of a generated script
abbrev pub generate_option : Rule
generate_option = record (new_rule generate) {
  long = Some generate;
  action = Some Set;
  parser = Some (Unsigned 1 most_tuples);
}

-- the flag `--dump`
abbrev pub dump_flag : Rule
dump_flag = record (new_rule dump) { long = Some dump; action = Some SetTrue }

-- no flag for help or the version, and the words without the program's name
abbrev pub bare_command : App
bare_command =
    let a = new_app (codes "utd") in
    record a { top = record a.top { disable_help_flag = true; disable_version_flag = true; no_binary_name = true } }

abbrev pub utd_command : App
utd_command = with_rule (with_rule bare_command generate_option) dump_flag

-- ---- the words

-- the number that a text writes in decimal
abbrev pub number_in : Text → ℕ
number_in text = digits_value 10 (without_leading_plus text)

-- the script of a value of the option, where it has one
abbrev pub script_by : Option Text → Script
script_by None = OfInput
script_by (Some text) = Generated (number_in text)

-- the value of the option in the words, where the command takes them
abbrev pub generate_value : List Text → Option Text
generate_value words = one_of generate (matches_of utd_command words)

-- the value of the flag: `true` where it is given, and `false` where it is not
abbrev pub dump_value : List Text → Option Text
dump_value words = one_of dump (matches_of utd_command words)

-- a flag of this value is given
abbrev pub is_true : Option Text → Bool
is_true None = false
is_true (Some text) = bytes_eq text (codes "true")

-- the dump of what a script leaves, or the answers to it
abbrev pub asked_by : Bool → Script → Asked
asked_by true script = Dump script
asked_by false script = Answers script

-- what is asked for, unless there is a fault
abbrev pub unless_fault : Kinds → Asked → Option Asked
unless_fault [] what = Some what
unless_fault (kind ∷ kinds) what = None

-- what the words ask for: nothing exactly where the command refuses the words
unfoldable pub asked : List Text → Option Asked
asked words = unless_fault (fault_of utd_command words) (asked_by (is_true (dump_value words)) (script_by (generate_value words)))

-- the script that is performed for what is asked
abbrev pub script_asked : Option Asked → Option Script
script_asked None = None
script_asked (Some (Answers script)) = Some script
script_asked (Some (Dump script)) = Some script

-- the number of a generated script is one that the command takes
abbrev pub IsScript : Script → Type 0
IsScript OfInput = Unit {0}
IsScript (Generated n) = (1 ≤ n) × (n ≤ most_tuples)

abbrev pub IsInRange : Option Asked → Type 0
IsInRange None = Unit {0}
IsInRange (Some (Answers script)) = IsScript script
IsInRange (Some (Dump script)) = IsScript script

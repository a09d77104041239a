use Rattle.std.proofs.Common.{◌∙◌, Some, ap, map, rules, subst, sym}
use Rattle.std.specs.Prelude.{string_bytes}
use Rattle.clap.specs.Matches.{one_text, found_of}
use Rattle.utd_words.specs.Words.{generate, IsInRange}
use Rattle.utd_words.proofs.WordsLemmas.{value_in_range, script_is, in_range, taken, not_taken}
use Rattle.utd_words.proofs.words.read_words.Goals as goal

pub returns-in-Ok-clause-asked : goal.returns-in-Ok-clause-asked
returns-in-Ok-clause-asked c =
    let command = c.in_ok-command.command in
    let m = c.in-Ok.matches in
    let by = script_is (one_text (found_of m) generate) c.script_in.result c.script_in.ensures.none c.script_in.ensures.some
    (λ text e. value_in_range command m text c.in_ok-command.ensures c.in-Ok.ensures.parsed e) in
    ap Some c.asked_by.ensures
    ∙ taken command m (map string_bytes c.args.words.now) c.is_dump.result c.script_in.result c.in_ok-command.ensures c.in-Ok.ensures.kinds c.in-Ok.ensures.matches c.is_dump.ensures by.0

pub returns-in-Ok-clause-range : goal.returns-in-Ok-clause-range
returns-in-Ok-clause-range c =
    let command = c.in_ok-command.command in
    let m = c.in-Ok.matches in
    let by = script_is (one_text (found_of m) generate) c.script_in.result c.script_in.ensures.none c.script_in.ensures.some
    (λ text e. value_in_range command m text c.in_ok-command.ensures c.in-Ok.ensures.parsed e) in
    subst (λ what. IsInRange (Some what)) (sym c.asked_by.ensures) (in_range c.is_dump.result c.script_in.result by.1)

pub returns-clause-asked : goal.returns-clause-asked
returns-clause-asked c = not_taken c.in_ok-command.command c.in-Err.error (map string_bytes c.args.words.now) c.in_ok-command.ensures c.in-Err.ensures.kinds (search rules)

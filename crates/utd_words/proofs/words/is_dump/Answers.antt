use Rattle.std.proofs.Common.{◌∙◌}
use Rattle.clap.specs.Matches.{one_text, found_of}
use Rattle.utd_words.specs.Words.{dump}
use Rattle.utd_words.proofs.WordsLemmas.{flag_is}
use Rattle.utd_words.proofs.words.is_dump.Goals as goal

pub returns : goal.returns
returns c = c.unwrap_or.ensures ∙ flag_is _ (one_text (found_of c.args.matches.now) dump) c.get_one.result c.get_one.ensures.none c.get_one.ensures.value

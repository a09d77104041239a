use Rattle.utd_lexer.proofs.WordLemmas.{plain-token}
use Rattle.utd_lexer.proofs.FirstLemmas.{plain-within}
use Rattle.utd_lexer.proofs.prefix.token_of.Goals as goal

pub split_behind-requires : goal.split_behind-requires
split_behind-requires c = record {
  within = plain-within c.args.chars.now c.args.kind c.args.n c.requires.front;
  encoded = c.requires.encoded;
}

pub returns : goal.returns
returns c = plain-token c.args.chars.now c.args.kind c.args.n c.split_behind.result.0.now c.requires.front c.split_behind.ensures.prefix

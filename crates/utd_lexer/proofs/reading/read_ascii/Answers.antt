use Rattle.std.proofs.Common.{◌∙◌, subst}
use Rattle.utd_lexer.specs.Tokens.{Lexed}
use Rattle.utd_lexer.proofs.ReadLemmas.{all-read}
use Rattle.utd_lexer.proofs.AsciiLemmas.{others-read, left-encoded, left-fits}
use Rattle.utd_lexer.proofs.reading.read_ascii.Goals as goal

pub returns-then-at-text-clause-read : goal.returns-then-at-text-clause-read
returns-then-at-text-clause-read c =
    let f = c.in_ok-list.field-0 in
    all-read c.args.start c.args.text.now f.at f.place f.list.items c.in_ok-list.ensures c.if-at-text.true

pub read_all-requires : goal.read_all-requires
read_all-requires c =
    let f = c.in_ok-list.field-0 in
    let left = c.split_at.result.1.now in
    let same = c.deref.ensures.value ∙ c.in_ok-chars.ensures in
    record {
      encoded = left-encoded c.args.text.now left c.deref.result.now f.at c.requires.ascii c.split_at.ensures.back same;
      fits = left-fits c.args.start f.place c.args.text.now left c.deref.result.now f.at f.list.items c.in_ok-list.ensures c.split_at.ensures.back same;
    }

pub returns-clause-read : goal.returns-clause-read
returns-clause-read c =
    let f = c.in_ok-list.field-0 in
    let same = c.deref.ensures.value ∙ c.in_ok-chars.ensures in
    let read = subst (λ z. Lexed f.place z c.in_ok-others.others) same c.in_ok-others.ensures.read in
    others-read c.args.start f.place c.args.text.now c.split_at.result.1.now f.at f.list.items c.in_ok-others.others c.in_ok-all.all c.in_ok-list.ensures c.split_at.ensures.back read c.in_ok-all.ensures

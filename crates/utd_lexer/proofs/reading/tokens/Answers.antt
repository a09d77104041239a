use Rattle.std.proofs.Common.{◌≡◌, ap, sym, ◌∙◌, arith, Err}
use Rattle.std.proofs.lemmas.Str.{IsUtf8-from_ascii, chars-IsAscii}
use Rattle.std.specs.Str.{chars}
use Rattle.point_core.specs.declared.fault.Code.TheVariants.{E02}
use Rattle.point_core.specs.Faults.{fault}
use Rattle.value_core.specs.declared.refuse.Refuse.TheVariants.{At}
use Rattle.utd_lexer.proofs.ReadLemmas.{found-ok, found-broken, text-encoded, text-fits, read-text, refused-text, refused-front}
use Rattle.utd_lexer.proofs.ReachLemmas.{bytes_read}
use Rattle.utd_lexer.proofs.OneReadingLemmas.{only-list, only-refusal}
use Rattle.utd_lexer.proofs.reading.tokens.Goals as goal

pub read_all-requires : goal.read_all-requires
read_all-requires c =
    let both = found-ok c.args.text.now _ c.in-Ok.list c.in-Ok.is c.in_ok-found.ensures in
    let is : c.deref.result.now ≡ chars c.args.text.now = c.deref.ensures.value ∙ both.1 in
    record {
      encoded = text-encoded c.deref.result.now c.args.text.now is both.0;
      fits = text-fits c.args.start c.deref.result.now c.args.text.now is both.0 c.requires;
    }

pub returns-in-Ok : goal.returns-in-Ok
returns-in-Ok c =
    let both = found-ok c.args.text.now _ c.in-Ok.list c.in-Ok.is c.in_ok-found.ensures in
    let is : c.deref.result.now ≡ chars c.args.text.now = c.deref.ensures.value ∙ both.1 in
    let read = read-text c.args.start c.deref.result.now c.args.text.now c.read_all.result is both.0 c.read_all.ensures.read in
    let refused = refused-text c.args.start c.deref.result.now c.args.text.now c.read_all.result is both.0 c.read_all.ensures.refused in
    record {
      some = bytes_read c.args.start c.args.text.now;
      read = read;
      only = only-list c.args.start c.args.text.now c.read_all.result read;
      refused = refused;
      refused_only = only-refusal c.args.start c.args.text.now c.read_all.result refused;
    }

pub split_at-requires : goal.split_at-requires
split_at-requires c = (found-broken c.args.text.now _ c.in-Err.valid c.in-Err.is c.in_ok-found.ensures).1

pub returns-in-Err : goal.returns-in-Err
returns-in-Err c =
    let place = c.place_behind-place.result in
    let valid = found-broken c.args.text.now _ c.in-Err.valid c.in-Err.is c.in_ok-found.ensures in
    let refused = refused-front c.args.start place c.args.text.now c.split_at.result.0.now c.in-Err.valid valid c.split_at.ensures.front c.place_behind-place.ensures in
    record {
      some = bytes_read c.args.start c.args.text.now;
      read = tt;
      only = tt;
      refused = refused;
      refused_only = only-refusal c.args.start c.args.text.now (Err (At (fault place E02))) refused;
    }

pub returns-in_err-found-clause-some : goal.returns-in_err-found-clause-some
returns-in_err-found-clause-some c = bytes_read c.args.start c.args.text.now

pub returns-then-is_ascii : goal.returns-then-is_ascii
returns-then-is_ascii c =
    let text = c.args.text.now in
    let utf = IsUtf8-from_ascii text c.if-is_ascii.ensures.cases in
    let is : text ≡ chars text = sym (chars-IsAscii text c.if-is_ascii.ensures.cases) in
    let read = read-text c.args.start text text c.read_ascii.result is utf c.read_ascii.ensures.read in
    let refused = refused-text c.args.start text text c.read_ascii.result is utf c.read_ascii.ensures.refused in
    record {
      some = bytes_read c.args.start text;
      read = read;
      only = only-list c.args.start text c.read_ascii.result read;
      refused = refused;
      refused_only = only-refusal c.args.start text c.read_ascii.result refused;
    }

pub read_ascii-requires : goal.read_ascii-requires
read_ascii-requires c = record {
  ascii = c.if-is_ascii.ensures.cases;
  fits = (omega (arith, c.requires), omega (arith, c.requires));
}

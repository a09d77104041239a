use Rattle.std.proofs.Common.{◌+◌, sym, subst}
use Rattle.std.specs.Str.{IsAscii}
use Rattle.std.proofs.lemmas.Str.{IsAscii-drop}
use Rattle.utd_lexer.specs.Reading.{SoFar}
use Rattle.utd_lexer.proofs.AsciiLemmas.{begin, blank-passed, token-passed, token-pushed}
use Rattle.utd_lexer.proofs.reading.front_of.Goals as goal

pub text-init : goal.text-init
text-init c = subst (SoFar c.args.start c.args.text.now 0 c.args.start) (sym c.in_ok-list.ensures.items) (begin c.args.start c.args.text.now c.requires.ascii c.requires.fits)

pub step_of-requires : goal.step_of-requires
step_of-requires c = subst IsAscii (sym c.split_at.ensures.back) (IsAscii-drop c.args.text.now c.text.at c.requires.ascii)

pub place_behind-place-requires : goal.place_behind-place-requires
place_behind-place-requires c = (blank-passed c.args.start c.text.place c.args.text.now c.split_at.result.1.now c.split_at-in-Blank.result.0.now c.text.at 1 c.text.list.items c.requires.ascii c.text.invariant c.split_at.ensures.back c.in-Blank.ensures c.split_at-in-Blank.ensures.front).0

pub text-preserved-in-Blank : goal.text-preserved-in-Blank
text-preserved-in-Blank c =
    let s = (blank-passed c.args.start c.text.place c.args.text.now c.split_at.result.1.now c.split_at-in-Blank.result.0.now c.text.at 1 c.text.list.items c.requires.ascii c.text.invariant c.split_at.ensures.back c.in-Blank.ensures c.split_at-in-Blank.ensures.front).1 in
    subst (λ z. SoFar c.args.start c.args.text.now (c.text.at + 1) z c.text.list.items) (sym c.place_behind-place.ensures) s

pub place_past-place-requires : goal.place_past-place-requires
place_past-place-requires c =
    let h = token-passed c.args.start c.text.place c.args.text.now c.split_at.result.1.now c.split_at-in-Token.result.0.now c.in-Token.bytes c.text.at c.in-Token.n c.text.list.items c.in-Token.kind c.requires.ascii c.text.invariant c.split_at.ensures.back c.in-Token.ensures c.split_at-in-Token.ensures.front in
    record { fits = h.0; line = h.1 }

pub text-preserved : goal.text-preserved
text-preserved c = token-pushed c.args.start c.text.place c.place_past-place.result c.args.text.now c.split_at.result.1.now c.split_at-in-Token.result.0.now c.in-Token.bytes c.text.at c.in-Token.n c.text.list.items c.push.new.self.items c.in-Token.kind c.requires.ascii c.text.invariant c.split_at.ensures.back c.in-Token.ensures c.split_at-in-Token.ensures.front c.place_past-place.ensures c.in_ok-push-in-Token.ensures.items

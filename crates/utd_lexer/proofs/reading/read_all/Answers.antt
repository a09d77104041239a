use Rattle.std.proofs.Common.{◌+◌, ap, sym, ◌∙◌, subst, length, refl}
use Rattle.utd_lexer.specs.Tokens.{Fits, place_after}
use Rattle.utd_lexer.specs.Reading.{SoFar}
use Rattle.utd_lexer.proofs.ReadLemmas.{prefix-here, gap-fits, gap-step, token-fits, token-step, stuck-here, all-read, bytes-here, bytes-left}
use Rattle.utd_lexer.proofs.reading.read_all.Goals as goal

pub place_behind-place-requires : goal.place_behind-place-requires
place_behind-place-requires c =
    let h = gap-fits c.args.start c.args.chars.now c.text.at c.in-Gap.n c.text.place c.text.list.items c.text.invariant.so_far (prefix-here c.split_at.result.1.now c.args.chars.now c.text.at c.in_ok-n.field-0 _ c.split_at.ensures.back c.in_ok-n.ensures c.in-Gap.is) in
    let bytes = bytes-here c.args.chars.now c.split_at.result.1.now c.split_behind.result.0.now c.text.at c.in-Gap.n c.split_at.ensures.back c.split_behind.ensures.prefix in
    subst (λ z. Fits c.text.place (length z)) (sym bytes) h.1

pub text-preserved-in-Gap : goal.text-preserved-in-Gap
text-preserved-in-Gap c =
    let s = gap-step c.args.start c.args.chars.now c.text.at c.in-Gap.n c.text.place c.text.list.items c.text.invariant.so_far (prefix-here c.split_at.result.1.now c.args.chars.now c.text.at c.in_ok-n.field-0 _ c.split_at.ensures.back c.in_ok-n.ensures c.in-Gap.is) in
    let bytes = bytes-here c.args.chars.now c.split_at.result.1.now c.split_behind.result.0.now c.text.at c.in-Gap.n c.split_at.ensures.back c.split_behind.ensures.prefix in
    record {
      so_far = subst (λ z. SoFar c.args.start c.args.chars.now (c.text.at + c.in-Gap.n) z c.text.list.items) (sym (c.place_behind-place.ensures ∙ ap (place_after c.text.place) bytes)) s;
      left = bytes-left c.args.chars.now c.split_at.result.1.now c.split_behind.result.1.now c.text.at c.in-Gap.n c.split_at.ensures.back c.split_behind.ensures.back;
    }

pub place_behind-place-requires-in-Token : goal.place_behind-place-requires-in-Token
place_behind-place-requires-in-Token c =
    let h = token-fits c.args.start c.args.chars.now c.text.at c.in-Token.n c.text.place c.text.list.items c.in-Token.kind c.in-Token.bytes c.text.invariant.so_far (prefix-here c.split_at.result.1.now c.args.chars.now c.text.at c.in_ok-n.field-0 _ c.split_at.ensures.back c.in_ok-n.ensures c.in-Token.is) in
    let bytes = bytes-here c.args.chars.now c.split_at.result.1.now c.split_behind-in-Token.result.0.now c.text.at c.in-Token.n c.split_at.ensures.back c.split_behind-in-Token.ensures.prefix in
    subst (λ z. Fits c.text.place (length z)) (sym bytes) h.1

pub text-preserved : goal.text-preserved
text-preserved c =
    let s = token-step c.args.start c.args.chars.now c.text.at c.in-Token.n c.text.place c.text.list.items c.push.new.self.items c.in-Token.kind c.in-Token.bytes c.text.invariant.so_far (prefix-here c.split_at.result.1.now c.args.chars.now c.text.at c.in_ok-n.field-0 _ c.split_at.ensures.back c.in_ok-n.ensures c.in-Token.is) c.in_ok-push-in-Token.ensures.items in
    let bytes = bytes-here c.args.chars.now c.split_at.result.1.now c.split_behind-in-Token.result.0.now c.text.at c.in-Token.n c.split_at.ensures.back c.split_behind-in-Token.ensures.prefix in
    record {
      so_far = subst (λ z. SoFar c.args.start c.args.chars.now (c.text.at + c.in-Token.n) z c.push.new.self.items) (sym (c.place_behind-place-in-Token.ensures ∙ ap (place_after c.text.place) bytes)) s;
      left = bytes-left c.args.chars.now c.split_at.result.1.now c.split_behind-in-Token.result.1.now c.text.at c.in-Token.n c.split_at.ensures.back c.split_behind-in-Token.ensures.back;
    }

pub returns-in-Nothing-clause-refused : goal.returns-in-Nothing-clause-refused
returns-in-Nothing-clause-refused c = (stuck-here c.args.start c.args.chars.now c.text.at c.text.place c.text.list.items c.text.invariant.so_far c.text-test.true (prefix-here c.split_at.result.1.now c.args.chars.now c.text.at c.in_ok-n.field-0 _ c.split_at.ensures.back c.in_ok-n.ensures c.in-Nothing.is), refl)

pub returns-clause-read : goal.returns-clause-read
returns-clause-read c = all-read c.args.start c.args.chars.now c.text.at c.text.place c.text.list.items c.text.invariant.so_far c.text-test.false

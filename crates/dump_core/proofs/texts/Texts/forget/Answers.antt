use Rattle.std.proofs.Common.{rules, not, ◌∙◌, ap, sym}
use Rattle.std.proofs.lemmas.Fn.{filter_same}
use Rattle.std.specs.Str.{bytes_eq}
use Rattle.dump_core.specs.Texts.{SourceText, forgotten}
use Rattle.dump_core.proofs.texts.Texts.forget.Goals as goal

pub returns : goal.returns
returns c =
    filter_same _ (λ (t : SourceText). not (bytes_eq t.name c.args.name.now)) _ (λ x b f' k. search rules) _ _ c.retain.ensures.filtered
    ∙ ap (forgotten c.args.name.now) c.self.view_is

use Rattle.std.proofs.Common.{◌≡◌, sym, ap, ◌∙◌}
use Rattle.value_core.specs.Lengths.{is_text}
use Rattle.value_core.proofs.TextLemmas.{text-bytes}
use Rattle.value_core.proofs.text.is_text.Goals as goal

pub returns : goal.returns
returns c = c.are_text.ensures ∙ (sym (text-bytes c.as_bytes.result.now c.as_bytes.ensures.utf8) ∙ ap is_text c.as_bytes.ensures.value)

use Rattle.std.proofs.Common.{◌∷◌, [], ◌++◌, ◌∙◌, ap}
use Rattle.plain_rows.proofs.HeadLemmas.{names-one, names-next}
use Rattle.plain_rows.proofs.heads.more_words.Goals as goal

pub words-init : goal.words-init
words-init c = names-one _ _ _ (c.in_ok-words.ensures ∙ ap (λ z. z ++ c.args.first ∷ []) c.new.ensures.items)

pub words-preserved : goal.words-preserved
words-preserved c = names-next _ _ _ _ c.in-Some.word _ _ c.in_ok-words-in-Some.ensures c.words.invariant c.in-Some.ensures.begins c.in-Some.ensures.named

pub returns-in-None : goal.returns-in-None
returns-in-None c = c.words.invariant

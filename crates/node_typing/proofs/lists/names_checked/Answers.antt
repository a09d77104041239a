use Rattle.std.proofs.Common.{◌≡◌, List, Ok, sym, subst, ◌∙◌}
use Rattle.utd_syntax.specs.declared.word.Word.{Word}
use Rattle.utd_syntax.specs.Read.{read_name, read_name_list}
use Rattle.node_typing.specs.Lists.{name_checked, names_of_words}
use Rattle.node_typing.proofs.ListLemmas.{check-more}
use Rattle.node_typing.proofs.lists.names_checked.Goals as goal

pub loop-at-preserved : goal.loop-at-preserved
loop-at-preserved c =
    let checked =
    subst (λ (l : List Word). name_checked c.args.left.now c.args.right.now (names_of_words (read_name_list l)) (read_name c.index-words-at.result) ≡ Ok tt) c.split_at.ensures.front c.in_ok-name_checked.ensures in
    sym (check-more c.args.left.now c.args.right.now c.args.words.now c.loop-at.at c.index-words-at.result c.loop-at-test.true c.index-words-at.is checked) ∙ c.loop-at.invariant

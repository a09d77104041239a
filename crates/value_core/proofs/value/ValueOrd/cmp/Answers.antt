use Rattle.value_core.proofs.OrderLemmas.{texts_cmp}
use Rattle.value_core.proofs.value.ValueOrd.cmp.Goals as goal

pub returns-in-Char-Char : goal.returns-in-Char-Char
returns-in-Char-Char c =
    let bytes = texts_cmp c.in-Char-Char.a c.in-Char-Char.b in
    cc

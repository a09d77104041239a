use Rattle.u_summarize.proofs.asking.AskingCellRule.apply.Goals as goal

pub firsts_at-requires : goal.firsts_at-requires
firsts_at-requires g c = record { places = c.requires.1; numbers = c.requires.2 }

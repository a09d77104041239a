-- What is declared anew leaves a well made state.
--     said-made      of what is said
--     keeps-made      of a kept text
use Rattle.std.proofs.Common.{◌≡◌, Ok, subst}
use Rattle.std.specs.Prelude.{IfOk}
use Rattle.point_core.specs.Faults.{OrFault}
use Rattle.tree_core.specs.Relvars.{State}
use Rattle.meaning_core.specs.WellMade.{IsWellMade}
use Rattle.since_during.proofs.HistoryMade.{history-made}
use Rattle.utd_syntax.specs.Plain.{StatementP}
use Rattle.type_check.specs.Checks.{Plain, checked, IsTypedPlain}
use Rattle.type_check.proofs.CheckLemmas.{checked-typed}
use Rattle.typing_laws.specs.Saying.{Said, said_ordinal, said_base, said_view, said_stored, said_history, said_rule, plain_of, moved_said, with_said}
use Rattle.typing_laws.proofs.SaidLaws.{with-ordinal, with-base, with-view, with-stored, with-history, with-said-rule}
use Rattle.dump_laws.proofs.PhaseLaws.{KeepsMade}

typed-made : (r : State) (d : Said) → IsWellMade r → IsTypedPlain r (plain_of d) → IsWellMade (with_said r d)
typed-made r (said_ordinal name names) made is = subst IsWellMade (with-ordinal r name names) is
typed-made r (said_base name heading typed) made is = subst IsWellMade (with-base r name heading typed) is
typed-made r (said_view name t) made is = subst IsWellMade (with-view r name t) is
typed-made r (said_stored name t) made is = subst IsWellMade (with-stored r name t) is.0
typed-made r (said_history h) made is = subst IsWellMade (with-history r h) (history-made r h made is)
typed-made r (said_rule name t) made is = subst IsWellMade (with-said-rule r name t) is.0

pub said-made : (r : State) (tree : StatementP) (d : Said) → IsWellMade r → checked r tree ≡ Ok (plain_of d) → IsWellMade (with_said r d)
said-made r tree d made e = typed-made r d made (subst (λ (m : OrFault Plain). IfOk m (IsTypedPlain r)) e (checked-typed r made tree))

pub keeps-made : KeepsMade
keeps-made place bytes r t d x made = said-made r x.tree (moved_said x.move d) made x.typed

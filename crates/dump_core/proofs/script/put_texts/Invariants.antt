use Rattle.std.proofs.Common.{◌≡◌, drop}
use Rattle.dump_core.specs.Texts.{of_kind}
use Rattle.dump_core.specs.Drafts.{with_statements}
use Rattle.dump_core.proofs.script.put_texts.Given as goal

abbrev pub invariant-loop-text : goal.invariant-loop-text
invariant-loop-text l = with_statements (of_kind l.kind (drop l.text-index l.texts)) l.draft ≡ with_statements (of_kind l.kind l.texts) l.fn.draft

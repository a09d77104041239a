use Rattle.std.proofs.Common.{◌≡◌, ℕ, List, refl, sym, subst, ◌∙◌}
use Rattle.value_core.specs.RowPacking.{packed}
use Rattle.assign_core.proofs.PackingLemmas.{target_packed}
use Rattle.assign_core.proofs.reduction.is_packed_at.Goals as goal

pub returns-in-Some : goal.returns-in-Some
returns-in-Some c = λ target value constraints first relation told.
    target_packed c.args.relvars.now.list.entries target _ c.args.at value constraints c.in-Some.relvar.now c.args.commalist.now relation c.requires.holds first
    (sym c.in-Some.ensures.entry) (sym c.is_kept_packed.ensures ∙ told)

pub returns-then-lists_none : goal.returns-then-lists_none
returns-then-lists_none c = λ target value constraints first relation told.
    subst (λ (l : List ℕ). packed l value.rows ≡ value.rows) (sym (c.lists_none.ensures.none c.if-lists_none.true)) refl

use Rattle.std.proofs.Common.{sym, subst}
use Rattle.std.specs.List.Sorted.{IsStrictlySortedBy}
use Rattle.value_core.specs.Values.{row_cmp}
use Rattle.value_core.proofs.relation.put_all.Goals as goal

pub are_behind-requires-clause-ascending : goal.are_behind-requires-clause-ascending
are_behind-requires-clause-ascending c = subst (IsStrictlySortedBy row_cmp) (sym c.as_slice.ensures.value) c.requires.ascending

pub are_behind-requires-clause-more : goal.are_behind-requires-clause-more
are_behind-requires-clause-more c = subst (IsStrictlySortedBy row_cmp) (sym c.as_slice-2.ensures.value) c.requires.more

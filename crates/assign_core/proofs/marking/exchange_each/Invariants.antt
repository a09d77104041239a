use Rattle.std.proofs.Common.{◌≡◌, ◌+◌, ◌≤◌, drop, length, take}
use Rattle.std.specs.List.{All}
use Rattle.std.specs.Vec.{vec_len, vec_capacity}
use Rattle.u_constraints.specs.Growth.{exchanged}
use Rattle.assign_core.specs.Hashed.{IsHashesOf}
use Rattle.assign_core.proofs.marking.exchange_each.Given as goal

abbrev pub ghost-exchange_next : goal.ghost-exchange_next
ghost-exchange_next g a = g.heading

abbrev pub ghost-take_out_all : goal.ghost-take_out_all
ghost-take_out_all g a = g.heading

-- the rows so far are in, as many others are out, and there is room for those that are left
abbrev pub invariant-loop-row : goal.invariant-loop-row
invariant-loop-row g l = record {
  can : (goal.iterator-loop-row g).can_next l.row-iterator;
  ends : (goal.iterator-loop-row g).is_finite l.row-iterator;
  left : l.left ≡ drop (length l.yielded) l.fn.gone;
  rows : l.rows.items ≡ exchanged l.fn.rows.items (take (length l.yielded) l.fn.gone) l.yielded;
  room : vec_len l.rows + vec_len l.fn.come ≤ vec_capacity l.rows + length l.yielded;
  hashes : All (IsHashesOf g.heading l.rows.items) l.hashes.items;
}

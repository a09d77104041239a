use Rattle.std.proofs.Common.{◌≡◌, ◌≤◌, ◌-◌, ◌++◌, [], ◌∷◌, length, List, take, drop, false, sym, ap, subst, ◌∙◌, arith, Less}
use Rattle.std.specs.List.{AllWithin}
use Rattle.std.specs.List.Sorted.{IsStrictlySortedBy}
use Rattle.std.specs.Ordering.{is_lt}
use Rattle.base_core.proofs.SetLemmas.{Ascends-from_sorted}
use Rattle.value_core.specs.Values.{Row, row_cmp}
use Rattle.value_core.proofs.RelationLemmas.{sorted_from_ascending}
use Rattle.relation_core.specs.Operators.{subtracted}
use Rattle.relation_core.proofs.FilterLemmas.{Ascends-drop}
use Rattle.row_removal.proofs.CutLemmas.{cut_apart, cut_end, cut_turn, further_rest, same_at}
use Rattle.row_removal.proofs.removal.cut_out.Goals as goal

pub cut_one-cut-requires-clause-rest : goal.cut_one-cut-requires-clause-rest
cut_one-cut-requires-clause-rest c =
    let rows = c.args.rows.now.items in
    let seen = c.loop-row.cut.seen in
    subst (λ (rs : List Row). IsStrictlySortedBy row_cmp rs) (sym c.loop-row.invariant.back) (sorted_from_ascending (drop seen rows) (Ascends-drop row_cmp seen rows (Ascends-from_sorted row_cmp rows c.requires.rows)))

pub loop-row-preserved : goal.loop-row-preserved
loop-row-preserved c =
    let rows = c.args.rows.now.items in
    let now = c.loop-row.rows.items in
    let gone = c.args.gone.now in
    let j = c.loop-row.row-index in
    let x = c.row-item.result in
    let seen = c.loop-row.cut.seen in
    let next = c.cut_one-cut.result.seen in
    let k = c.loop-row.invariant in
    let told = c.cut_one-cut.ensures in
    let within : next ≤ length rows = omega (arith, told.within, k.len) in
    let before : AllWithin (λ z. is_lt (row_cmp x z) ≡ false) rows seen next = λ i d le l. ap (λ (z : Row). is_lt (row_cmp x z)) (sym (same_at now rows seen i d k.back le)) ∙ told.before i d le l in
    let behind : AllWithin (λ z. row_cmp x z ≡ Less) rows next (length rows) = λ i d le l.
    ap (λ (z : Row). row_cmp x z) (sym (same_at now rows seen i d k.back (omega (arith, told.seen, le)))) ∙ told.behind i d le (omega (arith, l, k.len)) in
    record {
      len = told.len ∙ k.len;
      kept = told.kept;
      seen = omega (arith, within);
      front = cut_turn rows gone j seen next x c.requires.gone c.loop-row-test.true c.row-item.is told.seen within before behind k.apart _
          (told.front
          ∙ (ap (λ (rs : List Row). rs ++ subtracted (take (next - seen) (drop seen now)) (x ∷ [])) k.front
          ∙ ap (λ (rs : List Row). subtracted (take seen rows) gone ++ subtracted (take (next - seen) rs) (x ∷ [])) k.back));
      back = told.back ∙ further_rest now rows seen next told.seen k.back;
      apart = cut_apart rows gone j seen next x c.requires.gone c.loop-row-test.true c.row-item.is told.seen within before behind k.apart;
    }

pub returns : goal.returns
returns c =
    let rows = c.args.rows.now.items in
    let now = c.loop-row.rows.items in
    let gone = c.args.gone.now in
    let j = c.loop-row.row-index in
    let seen = c.loop-row.cut.seen in
    let end = c.len-end.result in
    let k = c.loop-row.invariant in
    let most : length rows ≤ end = omega (arith, c.len-end.ensures, k.len) in
    let le : seen ≤ end = omega (arith, k.seen, most) in
    c.truncate.ensures.items
    ∙ cut_end rows gone _ j seen end (omega (arith, c.loop-row-test.false)) le most k.apart
    (c.keep_run-kept.ensures.front
    ∙ (ap (λ (rs : List Row). rs ++ take (end - seen) (drop seen now)) k.front
    ∙ ap (λ (rs : List Row). subtracted (take seen rows) gone ++ take (end - seen) rs) k.back))

use Rattle.std.proofs.Common.{◌≡◌, ◌⊎◌, inl, inr, ◌<◌, [], ◌++◌, List, length, drop, if◌then◌else◌, arith, sym, ap, ◌∙◌, append_assoc}
use Rattle.std.specs.declared.cmp.Ordering.TheVariants.{Less, Equal, Greater}
use Rattle.base_core.proofs.SetOperatorLemmas.{is_set-Ascends}
use Rattle.value_core.specs.Values.{Row, row_cmp}
use Rattle.value_core.specs.Order.{row_total}
use Rattle.relation_core.proofs.FilterLemmas.{head_of, ended, Ascends-drop}
use Rattle.relation_core.proofs.MergeLemmas.{turn_less, turn_equal, turn_greater, merged_rest}
use Rattle.relation_core.proofs.merging.merge.Goals as goal
use Rattle.relation_core.proofs.merging.merge.Goals.{then-loop-i-test+else-j-right, else-loop-i-test}

-- what is kept goes behind the rows so far
behind : (whole rows kept rest more now : List Row) → whole ≡ rows ++ rest → rest ≡ kept ++ more → now ≡ rows ++ kept → whole ≡ now ++ more
behind whole rows kept rest more now a b e = a ∙ (ap (λ r. rows ++ r) b ∙ (sym (append_assoc rows kept more) ∙ ap (λ r. r ++ more) (sym e)))

pub loop-i-preserved-in-Less : goal.loop-i-preserved-in-Less
loop-i-preserved-in-Less c =
    let i = c.loop-i.i in
    let j = c.loop-i.j in
    let below : c.loop-i.i < length c.args.left.now = omega arith in
    let within : c.loop-i.j < length c.args.right.now = omega arith in
    let less : row_cmp c.index-left-i.result c.index-right-j.result ≡ Less = cc in
    let turn = turn_less c.args.keeps (drop i c.args.left.now) (drop j c.args.right.now) _ _ _ _
    (head_of c.args.left.now i c.index-left-i.result below c.index-left-i.is)
    (head_of c.args.right.now j c.index-right-j.result within c.index-right-j.is)
    (Ascends-drop row_cmp i c.args.left.now ((is_set-Ascends row_cmp row_total c.args.left.now).0 c.requires.left))
    (Ascends-drop row_cmp j c.args.right.now ((is_set-Ascends row_cmp row_total c.args.right.now).0 c.requires.right))
    c.index-left-i-in-Less.result
    (head_of c.args.left.now i c.index-left-i-in-Less.result below c.index-left-i-in-Less.is)
    less in
    record {
      left_within = omega arith;
      right_within = omega arith;
      so_far = behind _ _ _ _ _ _ c.loop-i.invariant.so_far turn c.in_ok-keep-in-Less.ensures;
    }

pub loop-i-preserved-in-Equal : goal.loop-i-preserved-in-Equal
loop-i-preserved-in-Equal c =
    let i = c.loop-i.i in
    let j = c.loop-i.j in
    let below : c.loop-i.i < length c.args.left.now = omega arith in
    let within : c.loop-i.j < length c.args.right.now = omega arith in
    let equal : row_cmp c.index-left-i.result c.index-right-j.result ≡ Equal = cc in
    let turn = turn_equal c.args.keeps (drop i c.args.left.now) (drop j c.args.right.now) _ _ _ _
    (head_of c.args.left.now i c.index-left-i.result below c.index-left-i.is)
    (head_of c.args.right.now j c.index-right-j.result within c.index-right-j.is)
    (Ascends-drop row_cmp i c.args.left.now ((is_set-Ascends row_cmp row_total c.args.left.now).0 c.requires.left))
    (Ascends-drop row_cmp j c.args.right.now ((is_set-Ascends row_cmp row_total c.args.right.now).0 c.requires.right))
    c.index-left-i-in-Equal.result
    (head_of c.args.left.now i c.index-left-i-in-Equal.result below c.index-left-i-in-Equal.is)
    equal in
    record {
      left_within = omega arith;
      right_within = omega arith;
      so_far = behind _ _ _ _ _ _ c.loop-i.invariant.so_far turn c.in_ok-keep-in-Equal.ensures;
    }

pub loop-i-preserved : goal.loop-i-preserved
loop-i-preserved c =
    let i = c.loop-i.i in
    let j = c.loop-i.j in
    let below : c.loop-i.i < length c.args.left.now = omega arith in
    let within : c.loop-i.j < length c.args.right.now = omega arith in
    let greater : row_cmp c.index-left-i.result c.index-right-j.result ≡ Greater = cc in
    let turn = turn_greater c.args.keeps (drop i c.args.left.now) (drop j c.args.right.now) _ _ _ _
    (head_of c.args.left.now i c.index-left-i.result below c.index-left-i.is)
    (head_of c.args.right.now j c.index-right-j.result within c.index-right-j.is)
    (Ascends-drop row_cmp i c.args.left.now ((is_set-Ascends row_cmp row_total c.args.left.now).0 c.requires.left))
    (Ascends-drop row_cmp j c.args.right.now ((is_set-Ascends row_cmp row_total c.args.right.now).0 c.requires.right))
    c.index-right-j-in-Greater.result
    (head_of c.args.right.now j c.index-right-j-in-Greater.result within c.index-right-j-in-Greater.is)
    greater in
    record {
      left_within = omega arith;
      right_within = omega arith;
      so_far = behind _ _ _ _ _ _ c.loop-i.invariant.so_far turn c.in_ok-keep-in-Greater.ensures;
    }

pub returns : goal.returns
returns c =
    let i = c.loop-i.i in
    let j = c.loop-i.j in
    let us : List Row = drop i c.args.left.now in
    let vs : List Row = drop j c.args.right.now in
    let rows = c.loop-i.rows.items in
    let first : c.keep_all.new.rows.items ≡ c.loop-i.rows.items ++ (if c.args.keeps.left then drop c.loop-i.i c.args.left.now else []) =
    c.in_ok-keep_all.ensures ∙ ap (λ (u : List Row). c.loop-i.rows.items ++ (if c.args.keeps.left then u else [])) c.split_at.ensures.back in
    let last : c.keep_all-2.new.rows.items ≡ c.keep_all.new.rows.items ++ (if c.args.keeps.right then drop c.loop-i.j c.args.right.now else []) =
    c.in_ok-keep_all-2.ensures ∙ ap (λ (u : List Row). c.keep_all.new.rows.items ++ (if c.args.keeps.right then u else [])) c.split_at-2.ensures.back in
    let over : (drop c.loop-i.i c.args.left.now ≡ []) ⊎ (drop c.loop-i.j c.args.right.now ≡ []) = elim c.loop-i-test.branch [
      | then-loop-i-test+else-j-right w ↦ inr (ended c.loop-i.j c.args.right.now (omega arith))
      | else-loop-i-test w ↦ inl (ended c.loop-i.i c.args.left.now (omega arith))
    ] in
    let rest = merged_rest c.args.keeps us vs
    (Ascends-drop row_cmp i c.args.left.now ((is_set-Ascends row_cmp row_total c.args.left.now).0 c.requires.left))
    (Ascends-drop row_cmp j c.args.right.now ((is_set-Ascends row_cmp row_total c.args.right.now).0 c.requires.right)) over in
    last ∙ sym (behind _ _ _ _ _ _ c.loop-i.invariant.so_far rest first)

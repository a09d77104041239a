use Rattle.std.proofs.Common.{◌≡◌, ℕ, ◌↔◌, ◌⊎◌, length, ◌-◌, suc, arith, subst, sym, set}
use Rattle.std.proofs.lemmas.Bool.{iff_false}
use Rattle.cell_packing.specs.Pieces.{AreApart, Covers, CoversOne, Meets}
use Rattle.cell_packing.proofs.Joined.{apart_set, covers_set, apart_push_last, last_not_after, apart_first, apart_where_not_meets, begin_where_meets, covers_pushed, same_read}
use Rattle.cell_packing.proofs.add.Goals as goal
use Rattle.cell_packing.proofs.add.Goals.{else-n-gt0-via-then-n-gt0+else-meets, else-n-gt0-via-else-n-gt0}

pub returns-then-meets-clause-apart : goal.returns-then-meets-clause-apart
returns-then-meets-clause-apart g c =
    let R = g.K.Ord.cmp in
    let o = g.met.K.Ord.total in
    let xs = c.args.out.now.items in
    let l = c.index_mut-last.result.now in
    let m : ℕ = c.len-n.result - 1 in
    let e : suc m ≡ length xs = omega arith in
    subst (λ z. AreApart R (set xs m (record { key = l.key; begin = l.begin; end = z }))) (sym c.max-last.ensures)
    (apart_set R o xs m l c.args.x e c.index_mut-last.ensures.value c.requires.apart)

pub returns-then-meets-clause-covers : goal.returns-then-meets-clause-covers
returns-then-meets-clause-covers g c =
    let R = g.K.Ord.cmp in
    let o = g.met.K.Ord.total in
    let xs = c.args.out.now.items in
    let l = c.index_mut-last.result.now in
    let m : ℕ = c.len-n.result - 1 in
    let e : suc m ≡ length xs = omega arith in
    let same = same_read xs m c.index.result.now l (omega arith) c.index.ensures c.index_mut-last.ensures.value in
    let met : Meets R l c.args.x = subst (λ z. Meets R z c.args.x) same (c.meets.ensures.0 c.if-meets.true) in
    let b = begin_where_meets R o l c.args.x (last_not_after R o xs m l c.args.x e c.index_mut-last.ensures.value c.requires.order) met in
    subst (λ z. (k : _) (i : ℕ) → Covers R (set xs m (record { key = l.key; begin = l.begin; end = z })) k i ↔ Covers R xs k i ⊎ CoversOne R c.args.x k i) (sym c.max-last.ensures)
    (covers_set R o xs m l c.args.x e c.index_mut-last.ensures.value met b)

pub returns-clause-apart : goal.returns-clause-apart
returns-clause-apart g c =
    let R = g.K.Ord.cmp in
    let o = g.met.K.Ord.total in
    let xs = c.args.out.now.items in
    subst (AreApart R) (sym c.in_ok-push.ensures.items)
    (elim c.else-n-gt0.branch [
      | else-n-gt0-via-then-n-gt0+else-meets w ↦
          let l = w.index.result.now in
          let m : ℕ = c.len-n.result - 1 in
          let e : suc m ≡ length xs = omega arith in
          let n = last_not_after R o xs m l c.args.x e w.index.ensures c.requires.order in
          apart_push_last R o xs m l c.args.x e w.index.ensures c.requires.apart c.requires.some (apart_where_not_meets R o l c.args.x n (λ h. iff_false w.meets.ensures w.if-meets.false h))
      | else-n-gt0-via-else-n-gt0 w ↦ apart_first R o xs c.args.x (omega arith) c.requires.some
    ])

pub returns-clause-covers : goal.returns-clause-covers
returns-clause-covers g c =
    let R = g.K.Ord.cmp in
    let xs = c.args.out.now.items in
    subst (λ ys. (k : _) (i : ℕ) → Covers R ys k i ↔ Covers R xs k i ⊎ CoversOne R c.args.x k i) (sym c.in_ok-push.ensures.items)
    (covers_pushed g.K.Ord.cmp g.met.K.Ord.total xs c.args.x)

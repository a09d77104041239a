-- The first rows of a set, and the ones after them.
--     Ascends-take, In-take, In-drop      the first rows are a set of its rows
--     part-united      the first rows with the next ones are first rows
--     next-ascend      the next ones are a set
use Rattle.std.proofs.Common.{◌≡◌, inl, inr, ℕ, zero, suc, ◌+◌, List, [], ◌∷◌, take, drop, sym, ap, ◌∙◌}
use Rattle.std.proofs.Math.Seq.{take-add}
use Rattle.base_core.proofs.SetLemmas.{In, AllAfter, Ascends}
use Rattle.relation_core.specs.Operators.{united}
use Rattle.relation_core.proofs.FilterLemmas.{Ascends-drop, rows_of-ascending}
use Rattle.value_core.specs.Values.{Row, row_cmp, rows_of}

after-take : (n : ℕ) (x : Row) (rows : List Row) → AllAfter row_cmp x rows → AllAfter row_cmp x (take n rows)
after-take zero x rows h = tt
after-take (suc n) x [] h = tt
after-take (suc n) x (y ∷ rows) h = (h.0, after-take n x rows h.1)

pub Ascends-take : (n : ℕ) (rows : List Row) → Ascends row_cmp rows → Ascends row_cmp (take n rows)
Ascends-take zero rows h = tt
Ascends-take (suc n) [] h = tt
Ascends-take (suc n) (x ∷ rows) h = (after-take n x rows h.0, Ascends-take n rows h.1)

pub In-take : (n : ℕ) (x : Row) (rows : List Row) → In x (take n rows) → In x rows
In-take zero x rows i = absurd i
In-take (suc n) x [] i = absurd i
In-take (suc n) x (y ∷ rows) i = elim i [ inl e ↦ inl e | inr j ↦ inr (In-take n x rows j) ]

pub In-drop : (n : ℕ) (x : Row) (rows : List Row) → In x (drop n rows) → In x rows
In-drop zero x rows i = i
In-drop (suc n) x [] i = absurd i
In-drop (suc n) x (y ∷ rows) i = inr (In-drop n x rows i)

-- ---- the next rows

pub next-ascend : (n m : ℕ) (rows : List Row) → Ascends row_cmp rows → Ascends row_cmp (take m (drop n rows))
next-ascend n m rows up = Ascends-take m (drop n rows) (Ascends-drop row_cmp n rows up)

pub part-united : (n m : ℕ) (rows : List Row) → Ascends row_cmp rows → united (take n rows) (rows_of (take m (drop n rows))) ≡ take (n + m) rows
part-united n m rows up =
    ap (united (take n rows)) (rows_of-ascending (take m (drop n rows)) (next-ascend n m rows up))
    ∙ (ap rows_of (sym (take-add n m rows)) ∙ rows_of-ascending (take (n + m) rows) (Ascends-take (n + m) rows up))

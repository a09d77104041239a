-- A database so far, step by step.
--     loaded-none, loaded-all      before the first row, and behind the last one
--     first-whole, loaded-whole, loaded-rowless      where the rows of a relvar have come, and at what has none of its own
--     loaded-next      where more rows of a relvar come
--     named-loaded      what the relvar is whose rows come
--     loaded-names, loaded-few      the names and the number of rows
--     named-at, relation-at      the entry at a place
use Rattle.std.proofs.Common.{◌≡◌, ℕ, zero, suc, ◌≤◌, Bool, false, cond, List, [], ◌∷◌, map, length, refl, sym, ap, ◌∙◌, subst, arith, Some}
use Rattle.std.specs.List.{AllByRecursion, IsDistinct}
use Rattle.std.specs.Str.{bytes_eq}
use Rattle.std.proofs.lemmas.List.{length-take}
use Rattle.relation_core.proofs.FilterLemmas.{take_all}
use Rattle.value_core.specs.declared.constraint.Constraint.{Constraint}
use Rattle.value_core.specs.Values.{Name, Row, Relation, IsRelation}
use Rattle.tree_core.specs.Relvars.{PlainRelvar, base, view, Entries, relvar_named, log}
use Rattle.meaning_core.specs.Names.{given_entry, with_value}
use Rattle.meaning_core.proofs.MadeLemmas.{own_name}
use Rattle.dump_core.specs.Inserts.{HasRelation, HaveRelations}
use Rattle.assign_core.specs.Assignments.{with_target}
use Rattle.assign_core.specs.Breaches.{count_of, rows_of_all}
use Rattle.assign_core.specs.Parts.{names_in}
use Rattle.assign_core.proofs.NameLemmas.{turned}
use Rattle.part_laws.specs.Parts.{first_of_value, with_first, without_rows, emptied, loaded, IsAt}

-- ---- first, last

first-none : (r : PlainRelvar) → with_first 0 r ≡ without_rows r
first-none (base v c) = refl
first-none (view t kind) = refl
first-none (log o k last w) = refl

pub loaded-none : (es : Entries) → loaded 0 0 es ≡ map emptied es
loaded-none [] = refl
loaded-none (e ∷ es) = ap (λ (r : PlainRelvar). (e.0, r) ∷ map emptied es) (first-none e.1)

pub loaded-all : (n : ℕ) (es : Entries) → loaded (length es) n es ≡ es
loaded-all n [] = refl
loaded-all n (e ∷ es) = ap (λ (l : Entries). e ∷ l) (loaded-all n es)

-- ---- the next entry

pub first-whole : (n : ℕ) (v : Relation) (c : List Constraint) → length v.rows ≤ n → with_first n (base v c) ≡ base v c
first-whole n v c h = ap (λ (rows : List Row). base (record { heading = v.heading; rows = rows }) c) (take_all n v.rows h)

pub loaded-whole : (es : Entries) (i n : ℕ) (name : Name) (v : Relation) (c : List Constraint) → IsAt es i (name, base v c) → length v.rows ≤ n → loaded i n es ≡ loaded (suc i) 0 es
loaded-whole [] i n name v c at h = absurd at
loaded-whole (e ∷ es) zero n name v c at h =
    let whole : (e.0, with_first n e.1) ≡ e = subst (λ (d : Name × PlainRelvar). (d.0, with_first n d.1) ≡ d) (sym at) (ap (λ (r : PlainRelvar). (name, r)) (first-whole n v c h)) in
    λ t. whole t ∷ sym (loaded-none es) t
loaded-whole (e ∷ es) (suc i) n name v c at h = ap (λ (l : Entries). e ∷ l) (loaded-whole es i n name v c at h)

pub loaded-rowless : (es : Entries) (i n : ℕ) (name : Name) (r : PlainRelvar) → with_first n r ≡ r → IsAt es i (name, r) → loaded i n es ≡ loaded (suc i) 0 es
loaded-rowless [] i n name r same at = absurd at
loaded-rowless (e ∷ es) zero n name r same at =
    let whole : (e.0, with_first n e.1) ≡ e = subst (λ (d : Name × PlainRelvar). (d.0, with_first n d.1) ≡ d) (sym at) (λ t. (name, same t)) in
    λ t. whole t ∷ sym (loaded-none es) t
loaded-rowless (e ∷ es) (suc i) n name r same at = ap (λ (l : Entries). e ∷ l) (loaded-rowless es i n name r same at)

-- ---- names

pub loaded-names : (i n : ℕ) (es : Entries) → names_in (loaded i n es) ≡ names_in es
loaded-names i n [] = refl
loaded-names zero n (e ∷ es) = ap (λ (l : List Name). e.0 ∷ l) (emptied-names es)
  where
    emptied-names : (ds : Entries) → names_in (map emptied ds) ≡ names_in ds
    emptied-names [] = refl
    emptied-names (d ∷ ds) = ap (λ (l : List Name). d.0 ∷ l) (emptied-names ds)
loaded-names (suc i) n (e ∷ es) = ap (λ (l : List Name). e.0 ∷ l) (loaded-names i n es)

-- a name that differs from each name differs from that at a place
apart-at : (P : Name → Type 0) (es : Entries) (i : ℕ) (e : Name × PlainRelvar) → AllByRecursion P (names_in es) → IsAt es i e → P e.0
apart-at P [] i e h at = absurd at
apart-at P (d ∷ es) zero e h at = subst (λ (x : Name × PlainRelvar). P x.0) at h.0
apart-at P (d ∷ es) (suc i) e h at = apart-at P es i e h.1 at

pub named-at : (es : Entries) (i : ℕ) (name : Name) (r : PlainRelvar) → IsDistinct bytes_eq (names_in es) → IsAt es i (name, r) → relvar_named es name ≡ Some r
unfolding IsDistinct
named-at [] i name r d at = absurd at
named-at (e ∷ es) zero name r d at =
    subst (λ (x : Name × PlainRelvar). cond (bytes_eq x.0 name) (Some x.1) (relvar_named es name) ≡ Some r) (sym at) (ap (λ b. cond b (Some r) (relvar_named es name)) (own_name name))
named-at (e ∷ es) (suc i) name r d at =
    let other : bytes_eq e.0 name ≡ false = apart-at (λ y. bytes_eq e.0 y ≡ false) es i (name, r) d.0 at in
    ap (λ b. cond b (Some e.1) (relvar_named es name)) other ∙ named-at es i name r d.1 at

loaded-at : (es : Entries) (i n : ℕ) (name : Name) (r : PlainRelvar) → IsAt es i (name, r) → IsAt (loaded i n es) i (name, with_first n r)
loaded-at [] i n name r at = absurd at
loaded-at (e ∷ es) zero n name r at = ap (λ (x : Name × PlainRelvar). (x.0, with_first n x.1)) at
loaded-at (e ∷ es) (suc i) n name r at = loaded-at es i n name r at

pub named-loaded : (es : Entries) (i n : ℕ) (name : Name) (v : Relation) (c : List Constraint) → IsDistinct bytes_eq (names_in es) → IsAt es i (name, base v c)
    → relvar_named (loaded i n es) name ≡ Some (base (first_of_value n v) c)
named-loaded es i n name v c d at =
    named-at (loaded i n es) i name (base (first_of_value n v) c) (subst (IsDistinct bytes_eq) (sym (loaded-names i n es)) d) (loaded-at es i n name (base v c) at)

-- ---- more rows

abbrev set_to : Name → Relation → Name × PlainRelvar → Name × PlainRelvar
set_to name v e = given_entry (Some name) (Some v) e

-- what has another name stays
set-other : (name : Name) (v : Relation) (n : Name) (r : PlainRelvar) → bytes_eq n name ≡ false → set_to name v (n, r) ≡ (n, r)
set-other name v n r q = ap (λ (b : Bool). (n, cond b (with_value v r) r)) q

set-others : (name : Name) (v : Relation) (es : Entries) → AllByRecursion (λ y. bytes_eq name y ≡ false) (names_in es) → with_target es name v ≡ es
set-others name v [] h = refl
set-others name v (e ∷ es) h = λ t. set-other name v e.0 e.1 (turned name e.0 h.0) t ∷ set-others name v es h.1 t

emptied-apart : (P : Name → Type 0) (es : Entries) → AllByRecursion P (names_in es) → AllByRecursion P (names_in (map emptied es))
emptied-apart P [] h = tt
emptied-apart P (e ∷ es) h = (h.0, emptied-apart P es h.1)

pub loaded-next : (es : Entries) (i n m : ℕ) (name : Name) (v : Relation) (c : List Constraint) → IsDistinct bytes_eq (names_in es) → IsAt es i (name, base v c)
    → with_target (loaded i n es) name (first_of_value m v) ≡ loaded i m es
unfolding IsDistinct
loaded-next [] i n m name v c d at = absurd at
loaded-next (e ∷ es) zero n m name v c d at =
    let here : set_to name (first_of_value m v) (e.0, with_first n e.1) ≡ (e.0, with_first m e.1) =
    subst (λ (x : Name × PlainRelvar). set_to name (first_of_value m v) (x.0, with_first n x.1) ≡ (x.0, with_first m x.1)) (sym at)
    (ap (λ (b : Bool). (name, cond b (base (first_of_value m v) c) (base (first_of_value n v) c))) (own_name name)) in
    let apart : AllByRecursion (λ y. bytes_eq name y ≡ false) (names_in es) = subst (λ (x : Name × PlainRelvar). AllByRecursion (λ y. bytes_eq x.0 y ≡ false) (names_in es)) at d.0 in
    λ t. here t ∷ set-others name (first_of_value m v) (map emptied es) (emptied-apart (λ y. bytes_eq name y ≡ false) es apart) t
loaded-next (e ∷ es) (suc i) n m name v c d at =
    let other : bytes_eq e.0 name ≡ false = apart-at (λ y. bytes_eq e.0 y ≡ false) es i (name, base v c) d.0 at in
    λ t. set-other name (first_of_value m v) e.0 e.1 other t ∷ loaded-next es i n m name v c d.1 at t

-- ---- numbers

first-fewer : (n : ℕ) (name : Name) (r : PlainRelvar) → count_of (name, with_first n r) ≤ count_of (name, r)
first-fewer n name (base v c) = let long = length-take n v.rows in omega (arith, long)
first-fewer n name (view t kind) = omega arith
first-fewer n name (log o k last w) = omega arith

emptied-none : (es : Entries) → rows_of_all (map emptied es) ≡ 0
emptied-none [] = refl
emptied-none (e ∷ es) = let here = no-rows e.0 e.1 in let more = emptied-none es in omega (arith, here, more)
  where
    no-rows : (name : Name) (r : PlainRelvar) → count_of (name, without_rows r) ≡ 0
    no-rows name (base v c) = refl
    no-rows name (view t kind) = refl
    no-rows name (log o k last w) = refl

pub loaded-few : (i n : ℕ) (es : Entries) → rows_of_all (loaded i n es) ≤ rows_of_all es
loaded-few i n [] = omega arith
loaded-few zero n (e ∷ es) =
    let here = first-fewer n e.0 e.1 in
    let there = emptied-none es in
    omega (arith, here, there)
loaded-few (suc i) n (e ∷ es) = let more = loaded-few i n es in omega (arith, more)

-- ---- relations

pub relation-at : (es : Entries) (i : ℕ) (name : Name) (v : Relation) (c : List Constraint) → HaveRelations es → IsAt es i (name, base v c) → IsRelation v
relation-at [] i name v c h at = absurd at
relation-at (e ∷ es) zero name v c h at = subst (λ (x : Name × PlainRelvar). HasRelation x.1) at h.0
relation-at (e ∷ es) (suc i) name v c h at = relation-at es i name v c h.1 at

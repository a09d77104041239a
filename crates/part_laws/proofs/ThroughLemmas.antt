-- The statements that insert the rows of a database, one after another. What holds behind the last one, and before each where it holds
-- behind it, holds before the first.
--     parts-through      for the parts of one relvar's rows
--     inserts-through      the law, for the statements of a database so far
--     inserts-bases      the statements turn on the base relvars alone
--     next-some, next-all      the rows of a statement: there are some, and each is one of the relvar's
use Rattle.std.proofs.Common.{◌≡◌, ℕ, zero, suc, ◌+◌, ◌-◌, ◌<◌, ◌≤◌, ◌≢◌, Bool, List, [], ◌∷◌, ◌++◌, map, filter, take, drop, length, refl, sym, ap, ◌∙◌, subst, arith, IsTrue}
use Rattle.std.specs.List.{list_all}
use Rattle.std.proofs.lemmas.List.{length-take, length-drop, drop-drop, append-nil}
use Rattle.base_core.proofs.ListLemmas.{length_more}
use Rattle.base_core.proofs.MemberLemmas.{list_all-In}
use Rattle.value_core.specs.declared.constraint.Constraint.{Constraint}
use Rattle.value_core.specs.declared.list.OrdinalNames.{OrdinalNames}
use Rattle.value_core.specs.Values.{Name, Row, Relation}
use Rattle.tree_core.specs.Relvars.{PlainRelvar, base, view, Entries, log}
use Rattle.dump_core.specs.Inserts.{parts_in, parts_of, rows_a_statement, insert_script, inserts, rows_of_entries}
use Rattle.assign_core.proofs.DeclaredLemmas.{in_turn}
use Rattle.part_laws.specs.Parts.{is_base, loaded, IsAt, IsLoadable}
use Rattle.part_laws.specs.Steps.{HoldsBefore}
use Rattle.part_laws.proofs.LoadedLemmas.{loaded-whole, loaded-rowless, loaded-all, relation-at}
use Rattle.part_laws.proofs.RowLemmas.{In-take, In-drop}
use Rattle.part_laws.proofs.StepLemmas.{whole-if-own, some-a-statement}

-- ---- the parts of a list

no-rows : {A : Type 0} (xs : List A) → length xs ≤ 0 → xs ≡ []
no-rows [] h = refl
no-rows (x ∷ xs) h = absurd (omega (arith, h))

module _ {A : Type 0} (size : ℕ) (some : 1 ≤ size) (rows : List A) (P : ℕ → List (List A) → Type 0) (behind : (n : ℕ) → length rows ≤ n → P n [])
    (before : (n : ℕ) (later : List (List A)) → n < length rows → P (n + size) later → P n (take size (drop n rows) ∷ later)) where
  from-left : (most n : ℕ) (left : List A) → left ≡ drop n rows → length left ≤ most → P n (parts_in most size left)
  from-left zero n left is few =
      let none = no-rows left few in
      let long = length-drop n rows in
      let here : length left ≡ length rows - n = ap length is ∙ long in
      behind n (omega (arith, here, few))
  from-left (suc most) n [] is few =
      let here : 0 ≡ length rows - n = ap length is ∙ length-drop n rows in
      behind n (omega (arith, here))
  from-left (suc most) n (x ∷ left) is few =
      let here : length (x ∷ left) ≡ length rows - n = ap length is ∙ length-drop n rows in
      let next : drop size (x ∷ left) ≡ drop (n + size) rows = ap (drop size) is ∙ drop-drop size n rows in
      let less : length (drop size (x ∷ left)) ≤ most = let long = length-drop size (x ∷ left) in omega (arith, long, few, some) in
      let later = parts_in most size (drop size (x ∷ left)) in
      subst (λ (l : List A). P n (take size l ∷ later)) (sym is)
      (before n later (omega (arith, here)) (from-left most (n + size) (drop size (x ∷ left)) next less))

  pub parts-through : P 0 (parts_of size rows)
  parts-through = from-left (length rows) 0 rows refl (omega arith)

-- ---- the statements of a database

at-front : (front rest : Entries) (e : Name × PlainRelvar) → IsAt (front ++ e ∷ rest) (length front) e
at-front [] rest e = refl
at-front (d ∷ front) rest e = at-front front rest e

module _ (types : List OrdinalNames) (es : Entries) (is : IsLoadable es) (Q : Entries → List (List ℕ) → Type 0) (behind : Q es []) (before : HoldsBefore types es Q) where
  relvar-through : (i : ℕ) (name : Name) (v : Relation) (c : List Constraint) (texts : List (List ℕ)) → IsAt es i (name, base v c) → Q (loaded (suc i) 0 es) texts
      → Q (loaded i 0 es) (inserts types name (base v c) ++ texts)
  relvar-through i name v c texts stands then =
      let few = (relation-at es i name v c is.relations stands).few in
      parts-through (rows_a_statement name c) (some-a-statement name c) v.rows (λ n parts. Q (loaded i n es) (map (insert_script types name v.heading) parts ++ texts))
      (λ n long. subst (λ (l : Entries). Q l texts) (sym (loaded-whole es i n name v c stands long)) then)
      (λ n later less more. before i n name v c (map (insert_script types name v.heading) later ++ texts) stands less (whole-if-own es i n name v c stands few) more)

  from-front : (front rest : Entries) → es ≡ front ++ rest → Q (loaded (length front) 0 es) (rows_of_entries types rest)
  from-front front [] e =
      let all : es ≡ front = e ∙ append-nil front in
      subst (λ (l : Entries). Q l []) (sym (loaded-all 0 es) ∙ ap (λ (l : Entries). loaded (length l) 0 es) all) behind
  from-front front ((name, base v c) ∷ rest) e =
      let stands = subst (λ (l : Entries). IsAt l (length front) (name, base v c)) (sym e) (at-front front rest (name, base v c)) in
      relvar-through (length front) name v c (rows_of_entries types rest) stands
      (subst (λ k. Q (loaded k 0 es) (rows_of_entries types rest)) (length_more front (name, base v c))
      (from-front (front ++ (name, base v c) ∷ []) rest (e ∙ sym (in_turn front ((name, base v c) ∷ []) rest))))
  from-front front ((name, view t kind) ∷ rest) e =
      let stands = subst (λ (l : Entries). IsAt l (length front) (name, view t kind)) (sym e) (at-front front rest (name, view t kind)) in
      subst (λ (l : Entries). Q l (rows_of_entries types rest)) (sym (loaded-rowless es (length front) 0 name (view t kind) refl stands))
      (subst (λ k. Q (loaded k 0 es) (rows_of_entries types rest)) (length_more front (name, view t kind))
      (from-front (front ++ (name, view t kind) ∷ []) rest (e ∙ sym (in_turn front ((name, view t kind) ∷ []) rest))))
  from-front front ((name, log o k last w) ∷ rest) e =
      let stands = subst (λ (l : Entries). IsAt l (length front) (name, log o k last w)) (sym e) (at-front front rest (name, log o k last w)) in
      subst (λ (l : Entries). Q l (rows_of_entries types rest)) (sym (loaded-rowless es (length front) 0 name (log o k last w) refl stands))
      (subst (λ k. Q (loaded k 0 es) (rows_of_entries types rest)) (length_more front (name, log o k last w))
      (from-front (front ++ (name, log o k last w) ∷ []) rest (e ∙ sym (in_turn front ((name, log o k last w) ∷ []) rest))))

  pub inserts-through : Q (loaded 0 0 es) (rows_of_entries types es)
  inserts-through = from-front [] es refl

-- ---- base relvars alone

inserts-filtered : (types : List OrdinalNames) (es : Entries) → rows_of_entries types es ≡ rows_of_entries types (filter is_base es)
inserts-filtered types [] = refl
inserts-filtered types ((name, base v c) ∷ es) = ap (λ (l : List (List ℕ)). inserts types name (base v c) ++ l) (inserts-filtered types es)
inserts-filtered types ((name, view t kind) ∷ es) = inserts-filtered types es
inserts-filtered types ((name, log o k last w) ∷ es) = inserts-filtered types es

pub inserts-bases : (types : List OrdinalNames) (es fs : Entries) → filter is_base es ≡ filter is_base fs → rows_of_entries types es ≡ rows_of_entries types fs
inserts-bases types es fs e = inserts-filtered types es ∙ (ap (rows_of_entries types) e ∙ sym (inserts-filtered types fs))

-- ---- the rows of a statement

pub next-some : (n m : ℕ) (rows : List Row) → n < length rows → 1 ≤ m → take m (drop n rows) ≢ []
next-some n m rows less some e =
    let none : length (take m (drop n rows)) ≡ 0 = ap length e in
    absurd (omega (arith, none, length-take m (drop n rows), length-drop n rows, less, some))

pub next-all : (n m : ℕ) (p : Row → Bool) (rows : List Row) → IsTrue (list_all p rows) → IsTrue (list_all p (take m (drop n rows)))
next-all n m p rows h = (list_all-In p (take m (drop n rows))).1 (λ x i. (list_all-In p rows).0 h x (In-drop n x rows (In-take m x (drop n rows) i)))

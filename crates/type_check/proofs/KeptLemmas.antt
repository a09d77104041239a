-- What USING asks of the attributes and the expressions of an operator, told by what is checked.
use Rattle.std.specs.Prelude.{◌≡◌, ℕ, Bool, true, false, not, cond, ◌&&◌, ◌||◌, List, [], ◌∷◌, ◌++◌, Option, Some, None, is_none, Ok, Err, IfOk, IsTrue, refl, if◌then◌else◌}
use Rattle.std.proofs.Common.{sym, ◌∙◌, ap, subst, inl, inr, ◌⊎◌}
use Rattle.std.specs.List.{list_all, list_any}
use Rattle.std.specs.Str.{bytes_eq}
use Rattle.std.proofs.lemmas.Bool.{true≢false, and_from, false_from_ne_true, not_from_false, not-true, or_from}
use Rattle.base_core.proofs.SetLemmas.{In}
use Rattle.base_core.proofs.MemberLemmas.{list_all-In, list_any-In, In-append}
use Rattle.point_core.specs.declared.fault.Place.{Place}
use Rattle.point_core.specs.Faults.{OrFault}
use Rattle.value_core.specs.Attributes.{among}
use Rattle.utd_syntax.specs.Plain.{Word, ScalarP, SetItemP, SetItem}
use Rattle.value_core.specs.declared.kind.Kind.{Kind}
use Rattle.value_core.specs.declared.list.OrdinalNames.{OrdinalNames}
use Rattle.value_core.specs.Headings.{has_name}
use Rattle.value_core.specs.Values.{Name, Heading}
use Rattle.scalar_core.specs.Expressions.{Expr, constant, attribute, one, pair, and_expr, or_expr}
use Rattle.scalar_core.specs.KindOf.{same_kind}
use Rattle.relation_typing.specs.Attributes.{new_name, name_typed}
use Rattle.relation_typing.specs.Items.{Made, item_typed}
use Rattle.scalar_typing.specs.Scalars.{typed_scalar}
use Rattle.scalar_typing.specs.Typings.{refused}
use Rattle.scalar_typing.proofs.SoundLemmas.{then-sound, any-given}
use Rattle.tree_core.specs.Trees.{PlainSets, PlainAggregateForm, count_rows, sum_of, min_of, max_of, PlainAggregate}
use Rattle.scalar_core.specs.Sweeping.{first_place, named_places, names_any, sweep_fault}
use Rattle.meaning_core.specs.Typing.{is_alike_at, are_in, is_swept, names_none}
use Rattle.node_typing.specs.Lists.{names_of_words, named_in, kind_named}
use Rattle.node_typing.specs.Positions.{check}
use Rattle.node_typing.specs.Rows.{items_typed}
use Rattle.node_typing.specs.Sweeps.{all_kept, none_assigned, refused_if, swept, sets_swept, names_no, form_names_no, aggregates_name_no}
use Rattle.declaration_typing.proofs.PositionLemmas.{held}
use Rattle.meaning_core.proofs.MadeLemmas.{own_name as own, same_name}
use Rattle.type_check.proofs.RenamingLemmas.{word-typed}
use Rattle.point_core.specs.declared.fault.Code.TheVariants.{E15, E18}
use Rattle.scalar_core.proofs.KindOfLemmas.{same_kind-self}

-- ---- attributes of one kind

alike : (h g : Heading) (name : Name) → IsTrue (has_name h name) → IsTrue (has_name g name) → kind_named h name ≡ kind_named g name → IsTrue (is_alike_at h g name)
alike h g name here there same =
    let kinds : IsTrue (same_kind (kind_named h name) (kind_named g name)) = subst (λ (k : Kind). IsTrue (same_kind (kind_named h name) k)) same (same_kind-self (kind_named h name)) in
    and_from (has_name h name) (has_name g name && same_kind (kind_named h name) (kind_named g name)) here
    (and_from (has_name g name) (same_kind (kind_named h name) (kind_named g name)) there kinds)

-- the attributes of the names stand in both headings, with the same kinds
pub all-alike : (h g : Heading) (names : List Name)
    → ((name : Name) → In name names → IsTrue (has_name h name) × IsTrue (has_name g name) × (kind_named h name ≡ kind_named g name)) → IsTrue (are_in h names g)
all-alike h g names known =
    (list_all-In (is_alike_at h g) names).1 (λ name i. alike h g name (known name i).0 (known name i).1 (known name i).2)

-- ---- attributes that are kept

pub all-kept : (h : Heading) (words : List Word) → IfOk (all_kept h words) (λ _. (name : Name) → In name (names_of_words words) → IsTrue (has_name h name))
all-kept h [] = λ name i. absurd i
all-kept h (w ∷ rest) =
    then-sound (λ _. IsTrue (has_name h w.bytes)) _ (check w.place _ (has_name h w.bytes)) _ (held w.place _ (has_name h w.bytes)) (λ _ here. onward (all_kept h rest) here (all-kept h rest))
  where
    onward : (r : OrFault (Unit {0})) → IsTrue (has_name h w.bytes) → IfOk r (λ _. (name : Name) → In name (names_of_words rest) → IsTrue (has_name h name))
        → IfOk r (λ _. (name : Name) → In name (names_of_words (w ∷ rest)) → IsTrue (has_name h name))
    onward (Ok u) here k = λ name i. elim i [ inl e ↦ subst (λ (n : Name). IsTrue (has_name h n)) (sym e) here | inr j ↦ k name j ]
    onward (Err e) here k = tt

-- ---- names that are assigned

-- an item has the name
abbrev pub Assigns : List SetItemP → Name → Type 0
Assigns [] name = ⊥
Assigns (SetItem w s ∷ rest) name = (name ≡ w.bytes) ⊎ Assigns rest name

abbrev pub AreAssigned : List SetItemP → PlainSets → Type 0
AreAssigned list sets = (s : Name × Expr) → In s sets → Assigns list s.0

none-assigned : (names : List Name) (list : List SetItemP) → IfOk (none_assigned names list) (λ _. (name : Name) → Assigns list name → named_in names name ≡ false)
none-assigned names [] = λ name i. absurd i
none-assigned names (SetItem w s ∷ rest) =
    then-sound (λ _. IsTrue (not (named_in names w.bytes))) _ (check w.place _ (not (named_in names w.bytes))) _ (held w.place _ (not (named_in names w.bytes)))
    (λ _ here. onward (none_assigned names rest) (not-true (named_in names w.bytes) here) (none-assigned names rest))
  where
    onward : (r : OrFault (Unit {0})) → named_in names w.bytes ≡ false → IfOk r (λ _. (name : Name) → Assigns rest name → named_in names name ≡ false)
        → IfOk r (λ _. (name : Name) → Assigns (SetItem w s ∷ rest) name → named_in names name ≡ false)
    onward (Ok u) here k = λ name i. elim i [ inl e ↦ subst (λ (n : Name). named_in names n ≡ false) (sym e) here | inr j ↦ k name j ]
    onward (Err e) here k = tt

-- no item has a name of the list
abbrev pub AreOthers : List Name → PlainSets → Type 0
AreOthers names sets = (name : Name) (s : Name × Expr) → In name names → In s sets → bytes_eq name s.0 ≡ true → ⊥

pub others-assigned : (names : List Name) (list : List SetItemP) (sets : PlainSets) → AreAssigned list sets → IfOk (none_assigned names list) (λ _. AreOthers names sets)
others-assigned names list sets assigned = onward (none_assigned names list) (none-assigned names list)
  where
    onward : (r : OrFault (Unit {0})) → IfOk r (λ _. (name : Name) → Assigns list name → named_in names name ≡ false) → IfOk r (λ _. AreOthers names sets)
    onward (Ok u) k = λ name s i j e.
        let one : name ≡ s.0 = same_name name s.0 e in
        let named : IsTrue (named_in names s.0) = (list_any-In (bytes_eq s.0) names).1 (name, i, subst (λ (n : Name). bytes_eq s.0 n ≡ true) (sym one) (own s.0)) in
        true≢false (sym named ∙ k s.0 (assigned s j))
    onward (Err e) k = tt

pub others-none : (names : List Name) (sets : PlainSets) → AreOthers names sets → IsTrue (not (list_any (λ n. list_any (λ (s : Name × Expr). bytes_eq n s.0) sets) names))
others-none names sets h =
    not_from_false (list_any (λ n. list_any (λ (s : Name × Expr). bytes_eq n s.0) sets) names)
    (false_from_ne_true (list_any (λ n. list_any (λ (s : Name × Expr). bytes_eq n s.0) sets) names) (λ e.
    let n = (list_any-In (λ n. list_any (λ (s : Name × Expr). bytes_eq n s.0) sets) names).0 e in
    let s = (list_any-In (λ (s : Name × Expr). bytes_eq n.0 s.0) sets).0 n.2 in
    h n.0 s.0 n.1 s.1 s.2))

pub new-word : (h : Heading) (w : Word) → IfOk (new_name h w) (λ (name : Name). name ≡ w.bytes)
new-word h w =
    then-sound (λ (name : Name). name ≡ w.bytes) (λ (name : Name). name ≡ w.bytes) (name_typed w) _ (word-typed w) (λ name is. by-test name is (has_name h name))
  where
    by-test : (name : Name) → name ≡ w.bytes → (b : Bool) → IfOk (if b then refused w.place E15 else Ok name) (λ (n : Name). n ≡ w.bytes)
    by-test name is true = tt
    by-test name is false = is

item-assigned : (types : List OrdinalNames) (from : Heading) (list : List SetItemP) (before : Made) (w : Word) (s : ScalarP) → Assigns list w.bytes → AreAssigned list before.0
    → IfOk (item_typed types from before w s) (λ (m : Made). AreAssigned list m.0)
item-assigned types from list before w s here h =
    then-sound (λ (name : Name). name ≡ w.bytes) (λ (m : Made). AreAssigned list m.0) (new_name before.1 w) _ (new-word before.1 w) (λ name is.
    then-sound (λ _. Unit {0}) (λ (m : Made). AreAssigned list m.0) (typed_scalar types from s) _ (any-given (typed_scalar types from s)) (λ e _ t i.
    elim ((In-append t before.0 ((name, e.0) ∷ [])).0 i) [
      | inl j ↦ h t j
      | inr j ↦ elim j [ inl k ↦ subst (Assigns list) (sym (ap (λ (z : Name × Expr). z.0) k ∙ is)) here | inr k ↦ absurd k ]
    ]))

pub items-assigned : (types : List OrdinalNames) (from : Heading) (list : List SetItemP) (before : Made) (rest : List SetItemP) → ((name : Name) → Assigns rest name → Assigns list name) → AreAssigned list before.0
    → IfOk (items_typed types from before rest) (λ (m : Made). AreAssigned list m.0)
items-assigned types from list before [] within h = h
items-assigned types from list before (SetItem w s ∷ rest) within h =
    then-sound (λ (m : Made). AreAssigned list m.0) (λ (m : Made). AreAssigned list m.0) (item_typed types from before w s) _
    (item-assigned types from list before w s (within w.bytes (inl refl)) h) (λ next is. items-assigned types from list next rest (λ name g. within name (inr g)) is)

-- ---- sweepable expressions

pub swept-is : (commalist : List ℕ) (e : Expr) → IfOk (swept commalist e) (λ _. IsTrue (is_swept commalist e))
swept-is commalist e = by-place (sweep_fault commalist e) refl
  where
    by-place : (o : Option Place) → sweep_fault commalist e ≡ o → IfOk (refused_if E18 o) (λ _. IsTrue (is_swept commalist e))
    by-place None h = ap is_none h
    by-place (Some place) h = tt

pub sets-swept : (commalist : List ℕ) (sets : PlainSets) → IfOk (sets_swept commalist sets) (λ _. IsTrue (list_all (λ (s : Name × Expr). is_swept commalist s.1) sets))
sets-swept commalist [] = refl
sets-swept commalist (s ∷ rest) =
    then-sound (λ _. IsTrue (is_swept commalist s.1)) _ (swept commalist s.1) _ (swept-is commalist s.1) (λ _ here. onward (sets_swept commalist rest) here (sets-swept commalist rest))
  where
    onward : (r : OrFault (Unit {0})) → IsTrue (is_swept commalist s.1) → IfOk r (λ _. IsTrue (list_all (λ (s : Name × Expr). is_swept commalist s.1) rest))
        → IfOk r (λ _. IsTrue (list_all (λ (s : Name × Expr). is_swept commalist s.1) (s ∷ rest)))
    onward (Ok u) here k = and_from (is_swept commalist s.1) (list_all (λ (t : Name × Expr). is_swept commalist t.1) rest) here k
    onward (Err e) here k = tt

-- ---- expressions without listed attributes

first-none : (xs ys : List Place) → first_place (xs ++ ys) ≡ None → (first_place xs ≡ None) × (first_place ys ≡ None)
first-none [] ys h = (refl, h)
first-none (p ∷ xs) ys h = absurd cc

unnamed : (commalist : List ℕ) (e : Expr) → first_place (named_places commalist e) ≡ None → names_any commalist e ≡ false
unnamed commalist (constant place kind v) h = refl
unnamed commalist (attribute place i) h = by-test (among commalist i) h
  where
    by-test : (b : Bool) → first_place (cond b (place ∷ []) []) ≡ None → b ≡ false
    by-test true h = absurd cc
    by-test false h = refl
unnamed commalist (one op place e) h = unnamed commalist e h
unnamed commalist (pair op place l r) h =
    let parts = first-none (named_places commalist l) (named_places commalist r) h in
    or_from (names_any commalist l) (names_any commalist r) (unnamed commalist l parts.0) (unnamed commalist r parts.1)
unnamed commalist (and_expr place l r) h =
    let parts = first-none (named_places commalist l) (named_places commalist r) h in
    or_from (names_any commalist l) (names_any commalist r) (unnamed commalist l parts.0) (unnamed commalist r parts.1)
unnamed commalist (or_expr place l r) h =
    let parts = first-none (named_places commalist l) (named_places commalist r) h in
    or_from (names_any commalist l) (names_any commalist r) (unnamed commalist l parts.0) (unnamed commalist r parts.1)

names-none : (commalist : List ℕ) (e : Expr) → IfOk (names_no commalist e) (λ _. IsTrue (not (names_any commalist e)))
names-none commalist e = by-place (first_place (named_places commalist e)) refl
  where
    by-place : (o : Option Place) → first_place (named_places commalist e) ≡ o → IfOk (refused_if E18 o) (λ _. IsTrue (not (names_any commalist e)))
    by-place None h = not_from_false (names_any commalist e) (unnamed commalist e h)
    by-place (Some place) h = tt

form-none : (commalist : List ℕ) (form : PlainAggregateForm) → IfOk (form_names_no commalist form) (λ _. IsTrue (names_none commalist form))
form-none commalist count_rows = refl
form-none commalist (sum_of e) = names-none commalist e
form-none commalist (min_of e) = names-none commalist e
form-none commalist (max_of e) = names-none commalist e

pub aggregates-none : (commalist : List ℕ) (aggregates : List PlainAggregate) → IfOk (aggregates_name_no commalist aggregates) (λ _. IsTrue (list_all (λ (a : PlainAggregate). names_none commalist a.form) aggregates))
aggregates-none commalist [] = refl
aggregates-none commalist (g ∷ rest) =
    then-sound (λ _. IsTrue (names_none commalist g.form)) _ (form_names_no commalist g.form) _ (form-none commalist g.form) (λ _ here. onward (aggregates_name_no commalist rest) here (aggregates-none commalist rest))
  where
    onward : (r : OrFault (Unit {0})) → IsTrue (names_none commalist g.form) → IfOk r (λ _. IsTrue (list_all (λ (a : PlainAggregate). names_none commalist a.form) rest))
        → IfOk r (λ _. IsTrue (list_all (λ (a : PlainAggregate). names_none commalist a.form) (g ∷ rest)))
    onward (Ok u) here k = and_from (names_none commalist g.form) (list_all (λ (a : PlainAggregate). names_none commalist a.form) rest) here k
    onward (Err e) here k = tt

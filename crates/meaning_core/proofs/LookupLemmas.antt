-- Names looked up in a map of relvars and views, and the headings of what expressions mean.
--     found_at, none_passes      where a map finds a name, and where it finds none
--     under_ok, operand_heading      what is known of a relation that an expression means
--     unary_meant      what a node means, from what its part means
--     given_none      no other value is given
use Rattle.std.proofs.Common.{◌≡◌, ℕ, zero, suc, ◌<◌, ◌≤◌, Bool, true, false, List, [], ◌∷◌, length, map, get_or, refl, sym, ap, ◌∙◌, subst, arith, cond, Option, Some, None, Result, Ok, Err, nat_lt}
use Rattle.std.specs.List.{position, position_or_len}
use Rattle.std.proofs.lemmas.List.Sums.{fails_before_first}
use Rattle.std.proofs.lemmas.Bool.Decides.{nat_tests}
use Rattle.std.specs.Prelude.{slice_get}
use Rattle.std.specs.Str.{bytes_eq}
use Rattle.std.proofs.lemmas.Bool.{true≢false}
use Rattle.std.proofs.lemmas.List.Quantifiers.{position-Some}
use Rattle.base_core.specs.Outcomes.{then_give}
use Rattle.point_core.specs.declared.fault.Place.{Place}
use Rattle.point_core.specs.declared.fault.Stop.{Stop}
use Rattle.value_core.specs.Values.{Name, Row, Heading, Relation}
use Rattle.relation_core.specs.Answers.{Answers, under}
use Rattle.tree_core.specs.Relvars.{Entries, read_relvar, read_entry}
use Rattle.tree_core.specs.Trees.{heading_of, read_tree, read_form}
use Rattle.tree_core.specs.declared.relvar.Relvar.{Relvar}
use Rattle.tree_core.specs.declared.tree.RelTree.{RelTree}
use Rattle.tree_core.specs.declared.tree.RelForm.{RelForm, Named, Literal, Infix', Project', Rename', Restrict', Extend', Summarize', Pack', Unpack', Using'}
use Rattle.meaning_core.specs.Meanings.{RowsMeant}
use Rattle.meaning_core.specs.Names.{given, IsFirstAt}
use Rattle.meaning_core.proofs.LimitLemmas.{with_rows}
use Rattle.meaning_core.proofs.MadeLemmas.{same_name, own_name}

-- ---- headings

heading_of_form : (place : Place) (h : Heading) (form : RelForm) → heading_of (read_form place h form) ≡ h
heading_of_form place h (Named name) = refl
heading_of_form place h (Literal tuples) = refl
heading_of_form place h (Infix' word p at g form q other_at other_g other_form) = refl
heading_of_form place h (Project' kept p at g form) = refl
heading_of_form place h (Rename' names p at g form) = refl
heading_of_form place h (Restrict' c p at g form) = refl
heading_of_form place h (Extend' sets p at g form) = refl
heading_of_form place h (Summarize' by aggregates p at g form) = refl
heading_of_form place h (Pack' commalist p at g form) = refl
heading_of_form place h (Unpack' commalist p at g form) = refl
heading_of_form place h (Using' commalist p at g form) = refl

pub under_ok : (h : Heading) (m : RowsMeant) (a : Relation) → under h m ≡ Ok a → (m ≡ Ok a.rows) × (h ≡ a.heading)
under_ok h (Ok rows) a e =
    let same : with_rows h rows ≡ a = cc in
    (ap (λ (r : Relation). Ok r.rows) same, ap (λ (r : Relation). r.heading) same)
under_ok h (Err d) a e = absurd (cc)

-- the heading of an operand's relation is that of its expression
pub operand_heading : (t : RelTree) (m : RowsMeant) (a : Relation) → under t.heading m ≡ Ok a → a.heading ≡ heading_of (read_tree t)
operand_heading t m a e = sym (under_ok t.heading m a e).1 ∙ sym (heading_of_form t.place t.heading t.form)

-- ---- one operand

pub unary_meant : (result : Result Relation Stop) (h from : Heading) (m : RowsMeant) (a : Relation) (f : List Row → RowsMeant)
    → under from m ≡ Ok a → Answers result (under h (f a.rows)) → Answers result (under h (then_give m f))
unary_meant result h from m a f e told = subst (λ (z : RowsMeant). Answers result (under h (then_give z f))) (sym (under_ok from m a e).0) told

-- ---- where a map finds a name

-- it stands first
pub first_from : (es : List (Name × Relvar)) (name key : Name) (i : ℕ) (r : Relvar) → ((k : ℕ) → k < i → bytes_eq name (get_or (map (λ (e : Name × Relvar). e.0) es) k []) ≡ false)
    → bytes_eq name (get_or (map (λ (e : Name × Relvar). e.0) es) i []) ≡ true → slice_get es i ≡ Some (key, r) → IsFirstAt (map read_entry es) name i (read_relvar r)
first_from [] name key i r before here e = absurd (cc)
first_from (d ∷ es) name key zero r before here e =
    let same : d ≡ (key, r) = cc in
    (ap (λ (n : Name). bytes_eq n name) (sym (same_name name d.0 here)) ∙ own_name name, ap (λ (z : Name × Relvar). read_relvar z.1) same)
first_from (d ∷ es) name key (suc i) r before here e =
    (differ (bytes_eq d.0 name) refl, first_from es name key i r (λ k l. before (suc k) (omega arith)) here e)
  where
    differ : (b : Bool) → bytes_eq d.0 name ≡ b → bytes_eq d.0 name ≡ false
    differ false q = q
    differ true q =
        absurd (true≢false (sym (own_name name) ∙ (ap (λ (n : Name). bytes_eq name n) (sym (same_name d.0 name q)) ∙ before 0 (omega arith))))

pub found_at : (es : List (Name × Relvar)) (name key : Name) (i : ℕ) (r : Relvar) → position (bytes_eq name) (map (λ (e : Name × Relvar). e.0) es) ≡ Some i → slice_get es i ≡ Some (key, r)
    → IsFirstAt (map read_entry es) name i (read_relvar r)
found_at es name key i r p e =
    let all = position-Some (bytes_eq name) (map (λ (e : Name × Relvar). e.0) es) i [] p in
    first_from es name key i r all.2 all.1 e

-- ---- where a map finds no name

none_before : (p : Name → Bool) (xs : List Name) (b : Bool) → nat_lt (position_or_len p xs) (length xs) ≡ b → cond b (Some (position_or_len p xs)) None ≡ None
    → (k : ℕ) → k < length xs → p (get_or xs k []) ≡ false
none_before p xs true q e k l = absurd (cc)
none_before p xs false q e k l = fails_before_first p xs k [] (let m : length xs ≤ position_or_len p xs = grind (arith, nat_tests) in omega (arith, m))

pub none_passes : (p : Name → Bool) (xs : List Name) → position p xs ≡ None → (k : ℕ) → k < length xs → p (get_or xs k []) ≡ false
none_passes p xs e k l = none_before p xs (nat_lt (position_or_len p xs) (length xs)) refl e k l

-- ---- another value

pub given_none : (value : Option Relation) (entries : Entries) → given None value entries ≡ entries
given_none value [] = refl
given_none value (e ∷ rest) = ap (λ (es : Entries). e ∷ es) (given_none value rest)

pub heading_read : (t : RelTree) → t.heading ≡ heading_of (read_tree t)
heading_read t = operand_heading t (Ok []) (record { heading = t.heading; rows = [] }) refl

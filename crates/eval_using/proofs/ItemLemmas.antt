-- Typed and sweepable items of an extension, at positions of a heading: what a rule by boxes asks of them.
use Rattle.std.proofs.Common.{◌≡◌, ◌⊎◌, inl, inr, ℕ, zero, suc, ◌+◌, ◌<◌, List, [], ◌∷◌, ◌++◌, Bool, true, false, Option, Some, None, get_or, map, length, refl, sym, ap, ◌∙◌, subst, cond, not, arith}
use Rattle.std.specs.Prelude.{nat_eq, ◌||◌, is_none}
use Rattle.std.specs.Bool.{IsTrue}
use Rattle.std.specs.List.{list_any}
use Rattle.std.specs.Str.{bytes_eq}
use Rattle.std.proofs.lemmas.Bool.{true≢false, eqb-true, false_from_ne_true}
use Rattle.std.proofs.lemmas.List.{length-map, get_or-map}
use Rattle.base_core.proofs.MemberLemmas.{In-map, list_all-In, list_any-In}
use Rattle.base_core.proofs.SetLemmas.{In}
use Rattle.value_core.specs.Attributes.{among}
use Rattle.value_core.specs.Headings.{has_name}
use Rattle.value_core.specs.Values.{Name, Heading, is_heading}
use Rattle.value_core.specs.declared.kind.Kind.{Kind}
use Rattle.scalar_core.specs.Expressions.{Expr}
use Rattle.scalar_core.specs.Sweeping.{sweep_fault}
use Rattle.relation_core.specs.Agreement.{names_of, position_of}
use Rattle.relation_core.specs.Parts.{no_attribute, attributes_at}
use Rattle.relation_core.proofs.HeadingLemmas.{heading_ascends}
use Rattle.relation_core.proofs.AgreementLemmas.{position_within}
use Rattle.tree_core.specs.Trees.{PlainSets}
use Rattle.meaning_core.specs.Meanings.{names_at}
use Rattle.meaning_core.specs.Places.{place_among, places}
use Rattle.meaning_core.specs.Rows.{set_names}
use Rattle.meaning_core.specs.Typing.{IsList, IsExtension, is_swept}
use Rattle.meaning_core.proofs.MadeLemmas.{same_name, own_name, place-position, given_typed, extended_fits}
use Rattle.u_set.specs.Boxes.{type_of, types_at}
use Rattle.u_row.proofs.LabelLemmas.{map_twice}
use Rattle.u_join.proofs.NameLemmas.{one_name, position_at}
use Rattle.eval_using.specs.Extended.{AreItems, IsFree}
use Rattle.eval_using.specs.PlaceRows.{among_itself}
use Rattle.eval_using.specs.Using.{listed, HasList, AreSweptBy}
use Rattle.meaning_core.proofs.IntervalLemmas.{intervals_of_list}
use Rattle.eval_using.proofs.OperandLemmas.{below, own_position, held_name, listed_is, same_attributes, operand_intervals}

-- ---- places among names

past : (names more : List Name) (name : Name) → ((n : Name) → In n names → bytes_eq n name ≡ true → ⊥) → place_among (names ++ more) name ≡ length names + place_among more name
past [] more name h = let z : place_among more name ≡ 0 + place_among more name = omega arith in z
past (n ∷ names) more name h = by (bytes_eq n name) refl (past names more name (λ m i. h m (inr i)))
  where
    by : (b : Bool) → bytes_eq n name ≡ b → place_among (names ++ more) name ≡ length names + place_among more name
        → cond (bytes_eq n name) 0 (suc (place_among (names ++ more) name)) ≡ suc (length names) + place_among more name
    by true e ih = absurd (h n (inl refl) e)
    by false e ih =
        let z : suc (length names + place_among more name) ≡ suc (length names) + place_among more name = omega arith in
        ap (λ b. cond b 0 (suc (place_among (names ++ more) name))) e ∙ ap suc ih ∙ z

split_place : (names more : List Name) (name : Name) → (place_among (names ++ more) name < length names) ⊎ (place_among (names ++ more) name ≡ length names + place_among more name)
split_place [] more name = let z : place_among more name ≡ 0 + place_among more name = omega arith in inr z
split_place (n ∷ names) more name = by (bytes_eq n name) refl (split_place names more name)
  where
    by : (b : Bool) → bytes_eq n name ≡ b → (place_among (names ++ more) name < length names) ⊎ (place_among (names ++ more) name ≡ length names + place_among more name)
        → (cond (bytes_eq n name) 0 (suc (place_among (names ++ more) name)) < suc (length names)) ⊎ (cond (bytes_eq n name) 0 (suc (place_among (names ++ more) name)) ≡ suc (length names) + place_among more name)
    by true e h =
        let z : 0 < suc (length names) = omega arith in
        inl (subst (λ b. cond b 0 (suc (place_among (names ++ more) name)) < suc (length names)) (sym e) z)
    by false e h = elim h [
      | inl l ↦ let z : suc (place_among (names ++ more) name) < suc (length names) = omega (arith, l) in inl (subst (λ b. cond b 0 (suc (place_among (names ++ more) name)) < suc (length names)) (sym e) z)
      | inr q ↦ let z : suc (length names + place_among more name) ≡ suc (length names) + place_among more name = omega arith in inr (ap (λ b. cond b 0 (suc (place_among (names ++ more) name))) e ∙ ap suc q ∙ z)
    ]

-- a name with a place below the end stands there
named_below : (heading : Heading) (name : Name) → position_of heading name < length heading → IsTrue (has_name heading name)
named_below [] name l = absurd (omega (arith, l))
named_below (a ∷ rest) name l = by (bytes_eq a.0 name) refl (named_below rest name)
  where
    by : (b : Bool) → bytes_eq a.0 name ≡ b → (position_of rest name < length rest → IsTrue (has_name rest name)) → IsTrue (bytes_eq a.0 name || has_name rest name)
    by true e ih = ap (λ b. b || has_name rest name) e
    by false e ih =
        let k : suc (position_of rest name) < suc (length rest) = subst (λ b. cond b 0 (suc (position_of rest name)) < suc (length rest)) e l in
        ap (λ b. b || has_name rest name) e ∙ ih (omega (arith, k))

in_among : (commalist : List ℕ) (a : ℕ) → among commalist a ≡ true → In a commalist
in_among [] a h = absurd cc
in_among (k ∷ commalist) a h = by (nat_eq a k) refl (in_among commalist a)
  where
    by : (b : Bool) → nat_eq a k ≡ b → (among commalist a ≡ true → In a commalist) → In a (k ∷ commalist)
    by true e ih = inl (eqb-true a k e)
    by false e ih = inr (ih (sym (ap (λ b. b || among commalist a) e) ∙ h))

is_not : {X : Type 0} (o : Option X) → IsTrue (is_none o) → o ≡ None
is_not None h = refl
is_not (Some x) h = absurd cc

-- ---- an extension

module _ (heading : Heading) (commalist : List ℕ) (headed : IsTrue (is_heading heading)) (list : IsList heading commalist) (from : Heading) (own : IsTrue (is_heading from)) (held : HasList heading commalist from)
    (sets : PlainSets) (swept : AreSweptBy heading commalist from sets) where
  abbrev name : ℕ → Name
  name i = (get_or heading i no_attribute).0

  abbrev names : List Name
  names = set_names sets ++ names_of from

  abbrev at : List ℕ
  at = places names heading

  -- no item has the name of a listed attribute
  unnamed : (i : ℕ) → In i commalist → (n : Name) → In n (set_names sets) → bytes_eq n (name i) ≡ true → ⊥
  unnamed i m n k e =
      let w = (In-map (λ (s : Name × Expr). s.0) n sets).0 k in
      let same : n ≡ name i = same_name n (name i) e in
      let hit : IsTrue (bytes_eq (name i) (w.0).0) = ap (bytes_eq (name i)) (sym (sym same ∙ w.2)) ∙ own_name (name i) in
      let one : IsTrue (list_any (λ (s : Name × Expr). bytes_eq (name i) s.0) sets) = (list_any-In (λ (s : Name × Expr). bytes_eq (name i) s.0) sets).1 (w.0, w.1, hit) in
      let all : IsTrue (list_any (λ (l : Name). list_any (λ (s : Name × Expr). bytes_eq l s.0) sets) (names_at heading commalist)) =
      (list_any-In (λ (l : Name). list_any (λ (s : Name × Expr). bytes_eq l s.0) sets) (names_at heading commalist)).1 (name i, (In-map name (name i) commalist).1 (i, m, refl), one) in
      true≢false (sym swept.kept ∙ ap not all)

  place_at : (i : ℕ) → i < length heading → get_or at i 0 ≡ place_among names (name i)
  place_at i l = get_or-map (λ (a : Name × Kind). place_among names a.0) heading i no_attribute 0 l

  set_many : length (set_names sets) ≡ length sets
  set_many = length-map sets (λ (s : Name × Expr). s.0)

  kept_there : (j : ℕ) → j < length commalist → get_or at (get_or commalist j 0) 0 ≡ length sets + get_or (listed heading commalist from) j 0
  kept_there j l =
      let i = get_or commalist j 0 in
      let m : In i commalist = member commalist j l in
      place_at i (below heading commalist headed list from held i m)
      ∙ past (set_names sets) (names_of from) (name i) (unnamed i m)
      ∙ ap (λ k. k + place_among (names_of from) (name i)) set_many
      ∙ ap (λ k. length sets + k) (place-position from (name i)
      ∙ sym (ap (λ (ps : List ℕ). get_or ps j 0) (listed_is heading commalist headed list from held) ∙ get_or-map (λ i. position_of from (name i)) commalist j 0 0 l))
    where
      member : (xs : List ℕ) (k : ℕ) → k < length xs → In (get_or xs k 0) xs
      member [] k q = absurd (omega (arith, q))
      member (x ∷ xs) zero q = inl refl
      member (x ∷ xs) (suc k) q = inr (member xs k (omega (arith, q)))

  free_there : (j : ℕ) → j < length heading → among commalist j ≡ false → IsFree (listed heading commalist from) (length sets) (get_or at j 0)
  free_there j l n = elim (split_place (set_names sets) (names_of from) (name j)) [
    | inl q ↦
        let e = place_at j l in
        let k = set_many in
        inl (omega (arith, q, e, k))
    | inr q ↦ inr (
      position_of from (name j),
      place_at j l ∙ q ∙ ap (λ k. k + place_among (names_of from) (name j)) set_many ∙ ap (λ k. length sets + k) (place-position from (name j)),
      false_from_ne_true (among (listed heading commalist from) (position_of from (name j))) apart,
    )
  ]
    where
      apart : among (listed heading commalist from) (position_of from (name j)) ≡ true → ⊥
      apart h =
          let m = in_among (listed heading commalist from) (position_of from (name j)) h in
          let w = (In-map (λ i. position_of from (name i)) (position_of from (name j)) commalist).0 (subst (In (position_of from (name j))) (listed_is heading commalist headed list from held) m) in
          let there = held_name heading commalist headed list from held w.0 w.1 in
          let here = named_below from (name j) (subst (λ k. k < length from) (sym w.2) (position_within from (name w.0) there)) in
          let same : name j ≡ name w.0 = one_name from (name j) (name w.0) here there w.2 in
          let one : j ≡ w.0 = sym (position_at heading j (heading_ascends heading headed) l) ∙ ap (position_of heading) same ∙ own_position heading commalist headed list from held w.0 w.1 in
          true≢false (sym (among_itself commalist j (subst (λ k. In k commalist) (sym one) w.1)) ∙ n)

  type_of_all : (h : Heading) (ps : List ℕ) → types_at h ps ≡ map (λ (a : Name × Kind). type_of a.1) (attributes_at ps h)
  type_of_all h ps = sym (map_twice (λ (a : Name × Kind). type_of a.1) (λ i. get_or h i no_attribute) ps)

  pub items_of : (sizes : List ℕ) → IsExtension sizes from heading sets → AreItems from heading (listed heading commalist from) commalist sets (places (set_names sets ++ names_of from) heading)
  items_of sizes h =
      let ps = listed heading commalist from in
      record {
        typed = λ x fit. given_typed sizes from sets h.made x h.makes fit;
        sweepable = λ s m. is_not (sweep_fault ps s.1) ((list_all-In (λ (t : Name × Expr). is_swept ps t.1) sets).0 swept.swept s m);
        fitting = λ x y fit e. extended_fits sizes from heading sets at x y own h refl fit e;
        here = operand_intervals heading commalist headed list from held;
        there = intervals_of_list heading commalist list;
        types = type_of_all from ps ∙ ap (map (λ (a : Name × Kind). type_of a.1)) (same_attributes heading commalist headed list from held) ∙ sym (type_of_all heading commalist);
        count = sym (ap length (listed_is heading commalist headed list from held) ∙ length-map commalist (λ i. position_of from (name i)));
        long = length-map heading (λ (a : Name × Kind). place_among names a.0);
        kept = kept_there;
        free = λ j l n. free_there j (subst (λ k. j < k) (length-map heading (λ (a : Name × Kind). place_among names a.0)) l) n;
      }

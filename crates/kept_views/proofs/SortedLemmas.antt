-- Rows behind their keys are, for each key, the rows of its group.
--     behind_is      of the rows that have one of some keys
--     one_kept      one row more
use Rattle.std.proofs.Common.{◌≡◌, inl, inr, ℕ, ◌+◌, ◌<◌, length, take, get_or, if◌then◌else◌, Bool, true, false, List, [], ◌∷◌, ◌++◌, map, refl, sym, ap, ◌∙◌, cond}
use Rattle.std.specs.Bool.{IsTrue}
use Rattle.std.specs.List.{filter}
use Rattle.std.proofs.lemmas.Bool.{cases_Bool}
use Rattle.std.proofs.lemmas.List.{map-append}
use Rattle.std.proofs.lemmas.List.Elements.{filter_more}
use Rattle.base_core.specs.Sets.{has}
use Rattle.base_core.proofs.MemberLemmas.{eq_by_cmp-≡}
use Rattle.value_core.specs.Order.{row_total, row_separates}
use Rattle.value_core.specs.Values.{Row, row_cmp}
use Rattle.relation_core.specs.Agreement.{part_of}
use Rattle.kept_views.specs.Kept.{has_key, of_key}
use Rattle.kept_views.specs.Sorted.{is_behind, keyed, rows_behind}

module _ (positions : List ℕ) (keys : List Row) (key : Row) (sought : IsTrue (has row_cmp keys key)) where
  abbrev has_some : Row → Bool
  has_some x = has row_cmp keys (part_of positions x)

  some_key : (x : Row) → has_key positions key x ≡ true → has_some x ≡ true
  some_key x e = ap (has row_cmp keys) ((eq_by_cmp-≡ row_cmp row_total row_separates (part_of positions x) key).0 e) ∙ sought

  -- the first entry stands behind the key, or not
  behind_first : (x : Row) (list : List (Row × Row)) (b : Bool) → has_key positions key x ≡ b
      → rows_behind key ((part_of positions x, x) ∷ list) ≡ cond b (x ∷ rows_behind key list) (rows_behind key list)
  behind_first x list true e = λ t. map (λ (entry : Row × Row). entry.1) (cond (e t) ((part_of positions x, x) ∷ filter (is_behind key) list) (filter (is_behind key) list))
  behind_first x list false e = λ t. map (λ (entry : Row × Row). entry.1) (cond (e t) ((part_of positions x, x) ∷ filter (is_behind key) list) (filter (is_behind key) list))

  pub behind_is : (rows : List Row) → rows_behind key (keyed positions (filter has_some rows)) ≡ of_key positions key rows
  behind_is [] = refl
  behind_is (x ∷ rows) =
      let more = behind_is rows in
      let few : List Row = filter has_some rows in
      elim (cases_Bool (has_key positions key x)) [
        | inl e ↦
            (λ t. rows_behind key (keyed positions (cond (some_key x e t) (x ∷ few) few)))
            ∙ behind_first x (keyed positions few) true e
            ∙ ap (λ (l : List Row). x ∷ l) more
            ∙ sym (λ t. cond (e t) (x ∷ of_key positions key rows) (of_key positions key rows))
        | inr e ↦ elim (cases_Bool (has_some x)) [
          | inl f ↦
              (λ t. rows_behind key (keyed positions (cond (f t) (x ∷ few) few)))
              ∙ behind_first x (keyed positions few) false e
              ∙ more
              ∙ sym (λ t. cond (e t) (x ∷ of_key positions key rows) (of_key positions key rows))
          | inr f ↦
              (λ t. rows_behind key (keyed positions (cond (f t) (x ∷ few) few)))
              ∙ more
              ∙ sym (λ t. cond (e t) (x ∷ of_key positions key rows) (of_key positions key rows))
        ]
      ]

-- ---- one row more

keyed_one : (positions : List ℕ) (x : Row) (b : Bool) → keyed positions (cond b (x ∷ []) []) ≡ (if b then (part_of positions x, x) ∷ [] else [])
keyed_one positions x true = refl
keyed_one positions x false = refl

pub one_kept : (positions : List ℕ) (keys rows : List Row) (i : ℕ) (x : Row) (list more : List (Row × Row)) → i < length rows → x ≡ get_or rows i x → list ≡ keyed positions (filter (λ y. has row_cmp keys (part_of positions y)) (take i rows))
    → more ≡ list ++ (if has row_cmp keys (part_of positions x) then (part_of positions x, x) ∷ [] else []) → more ≡ keyed positions (filter (λ y. has row_cmp keys (part_of positions y)) (take (i + 1) rows))
one_kept positions keys rows i x list more within is h e =
    let p : Row → Bool = λ y. has row_cmp keys (part_of positions y) in
    let before : List Row = filter p (take i rows) in
    let next : filter p (take (i + 1) rows) ≡ before ++ cond (p x) (x ∷ []) [] = filter_more p rows i x within ∙ (λ t. before ++ cond (p (sym is t)) (sym is t ∷ []) []) in
    e ∙ ap (λ (l : List (Row × Row)). l ++ (if p x then (part_of positions x, x) ∷ [] else [])) h
    ∙ sym (ap (keyed positions) next ∙ map-append (λ y. (part_of positions y, y)) before (cond (p x) (x ∷ []) []) ∙ ap (λ (l : List (Row × Row)). keyed positions before ++ l) (keyed_one positions x (p x)))

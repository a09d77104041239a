-- The constraints of a base relvar at other places, and in a state where the relvars that they name are alike.
--     constraints-elsewhere      they are typed the same
--     few-constraints-elsewhere      and few enough
--     base-elsewhere      the heading of one that is named
use Rattle.std.proofs.Common.{◌≡◌, ℕ, Bool, true, false, not, List, [], ◌∷◌, ◌++◌, map, Option, Some, None, Ok, if◌then◌else◌, refl, sym, ap, ◌∙◌}
use Rattle.std.specs.Prelude.{◌&&◌, ◌||◌, slice_get, option_map}
use Rattle.std.specs.List.{list_any}
use Rattle.std.specs.Str.{bytes_eq}
use Rattle.std.proofs.lemmas.Bool.{or_parts}
use Rattle.std.proofs.lemmas.List.Folds.{list_any-append}
use Rattle.std.proofs.lemmas.Option.{slice_get-map}
use Rattle.point_core.specs.declared.fault.Code.TheVariants.{E12, E19}
use Rattle.point_core.specs.declared.fault.Place.{Place}
use Rattle.utd_syntax.specs.Plain as syntax
use Rattle.utd_syntax.specs.Plain.{Word, NamesP, NameListP, KeyP, ForeignP, UsedConstraintP, ConstraintP}
use Rattle.value_core.specs.declared.constraint.Constraint.{Constraint}
use Rattle.value_core.specs.declared.constraint.Constraint.TheVariants.{Foreign}
use Rattle.value_core.specs.Attributes.{among}
use Rattle.value_core.specs.Limits.{most_constraints}
use Rattle.value_core.specs.Values.{Name, Heading}
use Rattle.scalar_core.specs.KindOf.{same_kind}
use Rattle.relation_core.specs.Agreement.{position_of}
use Rattle.relation_typing.specs.Attributes.{name_typed}
use Rattle.tree_core.specs.Relvars.{State, PlainRelvar, base, view, relvar_named, log}
use Rattle.node_typing.specs.Lists.{kind_named, list_checked}
use Rattle.node_typing.specs.Positions.{check, position_typed}
use Rattle.declaration_typing.specs.Constraints.{names_typed, key_words, base_heading, heading_there, position_there, positions_there, reference_typed, foreign_typed, key_typed, list_typed, kept_by, listed_key, packed_typed, unpacked_typed, used_key_typed, used_foreign_typed, used_typed, constraint_typed, constraints_typed, refused_at, few_constraints}
use Rattle.place_laws.specs.Moved.{moved_word, moved_names, moved_name_list, moved_key, moved_foreign, moved_used_constraint, moved_constraint}
use Rattle.meaning_laws.specs.Likeness.{LikeIf, Alike}
use Rattle.row_typing_laws.specs.Followings.{Follows}
use Rattle.row_typing_laws.proofs.ElsewhereNames.{word-follows}
use Rattle.row_typing_laws.proofs.Parts.{then-follows, parts-of, joined-of}
use Rattle.typing_laws.specs.Saying.{names_other, references_other}
use Rattle.typing_laws.proofs.SameGiven.{ok-same}
use Rattle.typing_laws.proofs.PositionsElsewhere.{check-follows, position-follows, names-follows, list-follows}

module _ (f : Place → Place) (heading : Heading) where
  -- ---- what names no other relvar

  key-follows : (k : KeyP) → Follows (λ c. c) (key_typed heading k) (key_typed heading (moved_key f k))
  key-follows (syntax.Key at names) = then-follows (λ i. i) (λ c. c) (names_typed heading names) (names_typed heading (moved_names f names)) _ _ (names-follows f heading names) (λ _ c e. e)

  list-typed-follows : (list : NameListP) → Follows (λ i. i) (list_typed heading list) (list_typed heading (moved_name_list f list))
  list-typed-follows list =
      then-follows (λ n. n) (λ i. i) (list_checked heading heading list) (list_checked heading heading (moved_name_list f list)) _ _ (list-follows f heading heading list) (λ _ i e. e)

  kept-follows : (key : List ℕ) (words : List Word) → Follows (λ u. u) (kept_by heading key words) (kept_by heading key (map (moved_word f) words))
  kept-follows key [] u e = e
  kept-follows key (w ∷ words) u e =
      then-follows (λ v. v) (λ v. v) (check w.place E19 (among key (position_of heading w.bytes))) (check (f w.place) E19 (among key (position_of heading w.bytes))) _ _
      (check-follows f w.place E19 (among key (position_of heading w.bytes))) (λ _. kept-follows key words) u e

  listed-key-follows : (list : NameListP) (names : NamesP) → Follows (λ b. b) (listed_key heading list names) (listed_key heading (moved_name_list f list) (moved_names f names))
  listed-key-follows (syntax.NameList at words) names =
      let list = syntax.NameList at words in
      then-follows (λ i. i) (λ b. b) (list_typed heading list) (list_typed heading (moved_name_list f list)) _ _ (list-typed-follows list) (λ commalist.
      then-follows (λ i. i) (λ b. b) (names_typed heading names) (names_typed heading (moved_names f names)) _ _ (names-follows f heading names) (λ key.
      then-follows (λ u. u) (λ b. b) (kept_by heading key words) (kept_by heading key (map (moved_word f) words)) _ _ (kept-follows key words) (λ _ b e. e)))

  packed-follows : (list : NameListP) → Follows (λ c. c) (packed_typed heading list) (packed_typed heading (moved_name_list f list))
  packed-follows list = then-follows (λ i. i) (λ c. c) (list_typed heading list) (list_typed heading (moved_name_list f list)) _ _ (list-typed-follows list) (λ _ c e. e)

  unpacked-follows : (list : NameListP) (k : KeyP) → Follows (λ c. c) (unpacked_typed heading list k) (unpacked_typed heading (moved_name_list f list) (moved_key f k))
  unpacked-follows list (syntax.Key at names) =
      then-follows (λ b. b) (λ c. c) (listed_key heading list names) (listed_key heading (moved_name_list f list) (moved_names f names)) _ _ (listed-key-follows list names) (λ _ c e. e)

  used-key-follows : (list : NameListP) (k : KeyP) → Follows (λ c. c) (used_key_typed heading list k) (used_key_typed heading (moved_name_list f list) (moved_key f k))
  used-key-follows list (syntax.Key at names) =
      then-follows (λ b. b) (λ c. c) (listed_key heading list names) (listed_key heading (moved_name_list f list) (moved_names f names)) _ _ (listed-key-follows list names) (λ _ c e. e)

  -- ---- the K names over the referenced heading

  there-follows : (there : Heading) (w : Word) → Follows (λ i. i) (position_there heading there w) (position_there heading there (moved_word f w))
  there-follows there w =
      then-follows (λ i. i) (λ i. i) (position_typed there w) (position_typed there (moved_word f w)) _ _ (position-follows f there w) (λ _.
      then-follows (λ u. u) (λ i. i) (check w.place E12 (same_kind (kind_named heading w.bytes) (kind_named there w.bytes)))
      (check (f w.place) E12 (same_kind (kind_named heading w.bytes) (kind_named there w.bytes))) _ _
      (check-follows f w.place E12 (same_kind (kind_named heading w.bytes) (kind_named there w.bytes))) (λ _ i e. e))

  all-there-follows : (there : Heading) (before : List ℕ) (words : List Word)
      → Follows (λ i. i) (positions_there heading there before words) (positions_there heading there before (map (moved_word f) words))
  all-there-follows there before [] i e = e
  all-there-follows there before (w ∷ words) i e =
      then-follows (λ j. j) (λ j. j) (position_there heading there w) (position_there heading there (moved_word f w)) _ _ (there-follows there w)
      (λ at. all-there-follows there (before ++ at ∷ []) words) i e

  names-there-follows : (there : Heading) (names : NamesP) → Follows (λ i. i) (positions_there heading there [] (key_words names)) (positions_there heading there [] (key_words (moved_names f names)))
  names-there-follows there (syntax.Names at words) = all-there-follows there [] words

-- ---- referenced relvars

pub base-elsewhere : (at to : Place) (o p : Option PlainRelvar) (g : Heading) → LikeIf o p → base_heading at o ≡ Ok g → base_heading to p ≡ Ok g
base-elsewhere at to None p g like h = absurd cc
base-elsewhere at to (Some (base v c)) None g like h = absurd like
base-elsewhere at to (Some (base v c)) (Some (base u d)) g like h =
    let same : base_heading to (Some (base u d)) ≡ Ok v.heading = ap (λ (x : Heading). Ok x) like.0 in
    same ∙ h
base-elsewhere at to (Some (base v c)) (Some (view t k)) g like h = absurd like
base-elsewhere at to (Some (base v c)) (Some (log o i last w)) g like h = absurd like
base-elsewhere at to (Some (view t k)) p g like h = absurd cc
base-elsewhere at to (Some (log o i last w)) p g like h = absurd cc

module _ (f : Place → Place) (some : Name → Bool) (s r : State) (alike : Alike some s.relvars r.relvars) (own : Name) (heading : Heading) where
  there-elsewhere : (at : Place) (name : Name) (g : Heading) → names_other some own name ≡ false → heading_there s own heading at name ≡ Ok g → heading_there r own heading (f at) name ≡ Ok g
  there-elsewhere at name g none h = by-test (bytes_eq own name) none h
    where
      by-test : (b : Bool) → (not b && some name) ≡ false → (if b then Ok heading else base_heading at (relvar_named s.relvars name)) ≡ Ok g
          → (if b then Ok heading else base_heading (f at) (relvar_named r.relvars name)) ≡ Ok g
      by-test true q e = e
      by-test false q e = base-elsewhere at (f at) (relvar_named s.relvars name) (relvar_named r.relvars name) g (alike name q) e

  reference-elsewhere : (commalist key : List ℕ) (names : NamesP) (w : Word) (c : Constraint) → references_other some own c ≡ false → reference_typed s own heading commalist key names w ≡ Ok c
      → reference_typed r own heading commalist key (moved_names f names) (moved_word f w) ≡ Ok c
  reference-elsewhere commalist key names w c none h =
      let name = parts-of (name_typed w) _ c h in
      let there = parts-of (heading_there s own heading w.place name.0) _ c name.2 in
      let positions = parts-of (positions_there heading there.0 [] (key_words names)) _ c there.2 in
      let same : Foreign commalist key name.0 positions.0 ≡ c = ok-same (Foreign commalist key name.0 positions.0) c (Ok (Foreign commalist key name.0 positions.0)) refl positions.2 in
      let other : names_other some own name.0 ≡ false = ap (references_other some own) same ∙ none in
      joined-of (name_typed (moved_word f w)) _ name.0 c (word-follows f w name.0 name.1)
      (joined-of (heading_there r own heading (f w.place) name.0) _ there.0 c (there-elsewhere w.place name.0 there.0 other there.1)
      (joined-of (positions_there heading there.0 [] (key_words (moved_names f names))) _ positions.0 c (names-there-follows f heading there.0 names positions.0 positions.1) positions.2))

  foreign-elsewhere : (k : ForeignP) (c : Constraint) → references_other some own c ≡ false → foreign_typed s own heading k ≡ Ok c → foreign_typed r own heading (moved_foreign f k) ≡ Ok c
  foreign-elsewhere (syntax.Foreign at names w) c none h =
      let key = parts-of (names_typed heading names) _ c h in
      joined-of (names_typed heading (moved_names f names)) _ key.0 c (names-follows f heading names key.0 key.1) (reference-elsewhere [] key.0 names w c none key.2)

  used-foreign-elsewhere : (list : NameListP) (k : ForeignP) (c : Constraint) → references_other some own c ≡ false → used_foreign_typed s own heading list k ≡ Ok c
      → used_foreign_typed r own heading (moved_name_list f list) (moved_foreign f k) ≡ Ok c
  used-foreign-elsewhere list (syntax.Foreign at names w) c none h =
      let both = parts-of (listed_key heading list names) _ c h in
      joined-of (listed_key heading (moved_name_list f list) (moved_names f names)) _ both.0 c (listed-key-follows f heading list names both.0 both.1)
      (reference-elsewhere both.0.0 both.0.1 names w c none both.2)

  -- ---- constraints

  used-elsewhere : (list : NameListP) (u : UsedConstraintP) (c : Constraint) → references_other some own c ≡ false → used_typed s own heading list u ≡ Ok c
      → used_typed r own heading (moved_name_list f list) (moved_used_constraint f u) ≡ Ok c
  used-elsewhere list (syntax.UsedKey k) c none h = used-key-follows f heading list k c h
  used-elsewhere list (syntax.UsedForeign k) c none h = used-foreign-elsewhere list k c none h

  constraint-elsewhere : (x : ConstraintP) (c : Constraint) → references_other some own c ≡ false → constraint_typed s own heading x ≡ Ok c
      → constraint_typed r own heading (moved_constraint f x) ≡ Ok c
  constraint-elsewhere (syntax.KeyOf k) c none h = key-follows f heading k c h
  constraint-elsewhere (syntax.ForeignOf k) c none h = foreign-elsewhere k c none h
  constraint-elsewhere (syntax.PackedOn at list) c none h = packed-follows f heading list c h
  constraint-elsewhere (syntax.WhenUnpacked at list k) c none h = unpacked-follows f heading list k c h
  constraint-elsewhere (syntax.UsingConstraint at list u) c none h = used-elsewhere list u c none h

  abbrev others : List Constraint → Bool
  others cs = list_any (references_other some own) cs

  -- those so far are among all
  front-none : (before : List Constraint) (xs : List ConstraintP) (typed : List Constraint) → others typed ≡ false → constraints_typed s own heading before xs ≡ Ok typed → others before ≡ false
  front-none before [] typed none h = ap others (ok-same before typed (Ok before) refl h) ∙ none
  front-none before (x ∷ xs) typed none h =
      let next = parts-of (constraint_typed s own heading x) _ typed h in
      let both : (others before || others (next.0 ∷ [])) ≡ false =
      sym (list_any-append (references_other some own) before (next.0 ∷ [])) ∙ front-none (before ++ next.0 ∷ []) xs typed none next.2 in
      (or_parts (others before) (others (next.0 ∷ [])) both).0

  next-none : (before : List Constraint) (c : Constraint) → others (before ++ c ∷ []) ≡ false → references_other some own c ≡ false
  next-none before c none =
      let both : (others before || others (c ∷ [])) ≡ false = sym (list_any-append (references_other some own) before (c ∷ [])) ∙ none in
      (or_parts (references_other some own c) false (or_parts (others before) (others (c ∷ [])) both).1).0

  pub constraints-elsewhere : (before : List Constraint) (xs : List ConstraintP) (typed : List Constraint) → others typed ≡ false → constraints_typed s own heading before xs ≡ Ok typed
      → constraints_typed r own heading before (map (moved_constraint f) xs) ≡ Ok typed
  constraints-elsewhere before [] typed none h = h
  constraints-elsewhere before (x ∷ xs) typed none h =
      let next = parts-of (constraint_typed s own heading x) _ typed h in
      let other = next-none before next.0 (front-none (before ++ next.0 ∷ []) xs typed none next.2) in
      joined-of (constraint_typed r own heading (moved_constraint f x)) _ next.0 typed (constraint-elsewhere x next.0 other next.1)
      (constraints-elsewhere (before ++ next.0 ∷ []) xs typed none next.2)

-- ---- few enough

none-refused : (f : Place → Place) (o : Option ConstraintP) → refused_at o ≡ Ok tt → refused_at (option_map (moved_constraint f) o) ≡ Ok tt
none-refused f None h = h
none-refused f (Some c) h = absurd cc

pub few-constraints-elsewhere : (f : Place → Place) (xs : List ConstraintP) → few_constraints xs ≡ Ok tt → few_constraints (map (moved_constraint f) xs) ≡ Ok tt
few-constraints-elsewhere f xs h = ap refused_at (slice_get-map (moved_constraint f) xs most_constraints) ∙ none-refused f (slice_get xs most_constraints) h

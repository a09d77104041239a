-- Database constraints that name nothing that changes, themselves or through views, hold as before.
--     AreAlike      relvars that differ where something stands ready alone
--     others_hold      the law
--     unless_told      where none is told, none is broken
use denote.Ref.{Bor}
use Rattle.std.proofs.Common.{◌≡◌, ℕ, zero, suc, ◌+◌, ◌<◌, Bool, true, false, cond, List, [], ◌∷◌, ◌++◌, map, drop, length, get_or, refl, sym, ap, ◌∙◌, arith, true≢false, Some, None, Ok}
use Rattle.std.specs.Prelude.{◌||◌, nat_eq, slice_get, slice_index_or}
use Rattle.std.specs.List.{All, list_any}
use Rattle.std.specs.Str.{bytes_eq}
use Rattle.std.proofs.lemmas.Bool.{or_parts}
use Rattle.std.proofs.lemmas.Bool.Decides.{nat_tests}
use Rattle.std.proofs.lemmas.List.{map-append}
use Rattle.std.proofs.lemmas.List.Elements.{All-head, All-tail}
use Rattle.value_core.specs.declared.refuse.Refuse.TheVariants.{Broken}
use Rattle.value_core.specs.Values.{Name}
use Rattle.point_core.specs.declared.fault.Code.TheVariants.{E45}
use Rattle.tree_core.specs.declared.test.RelTest.{RelTest}
use Rattle.tree_core.specs.Relvars.{PlainRelvar, base, view, Entries, Rules, read_rule, log}
use Rattle.tree_core.specs.Trees.{Test, read_test}
use Rattle.tree_core.specs.Uses.{is_one_of, test_names_any}
use Rattle.meaning_core.specs.Meanings.{RowsMeant, Known, plainly, relvar_meaning, known_in}
use Rattle.meaning_core.specs.Names.{found, each_after}
use Rattle.meaning_core.specs.Truths.{holds_in, is_held}
use Rattle.meaning_core.proofs.ElsewhereLemmas.{meaning-agrees, truth-agrees}
use Rattle.meaning_core.proofs.MadeLemmas.{same_name, own_name}
use Rattle.assign_core.specs.Breaches.{first_rule_broken}
use Rattle.relvar_logs.specs.Changes.{turned_at}
use Rattle.assign_core.specs.Leanings.{is_ready_at, is_view_of, is_affected, with_affected, affected_from, affected, leaning, DoOthersHold}
use Rattle.assign_core.specs.Exchanges.{exchanged_by, place_of, turned, with_ready}
use Rattle.assign_core.specs.declared.exchange.Change.{Change}
use Rattle.assign_core.specs.declared.exchange.Ready.{Ready}

-- ---- names

fewer_names : (names : List Name) (own name : Name) → is_one_of (names ++ own ∷ []) name ≡ false → is_one_of names name ≡ false
fewer_names [] own name e = refl
fewer_names (n ∷ names) own name e =
    let parts = or_parts (bytes_eq name n) (is_one_of (names ++ own ∷ []) name) e in
    ap (λ (b : Bool). b || is_one_of names name) parts.0 ∙ fewer_names names own name parts.1

last_name : (names : List Name) (own : Name) → is_one_of (names ++ own ∷ []) own ≡ true
last_name [] own = ap (λ (b : Bool). b || false) (own_name own)
last_name (n ∷ names) own = by (bytes_eq own n) (last_name names own)
  where
    by : (b : Bool) → is_one_of (names ++ own ∷ []) own ≡ true → (b || is_one_of (names ++ own ∷ []) own) ≡ true
    by true ih = refl
    by false ih = ih

-- ---- what is known

-- the same names, and those that are none of some mean the same
abbrev Agree : List Name → Known → Known → Type 0
Agree names [] [] = Unit {0}
Agree names [] (b ∷ l) = ⊥
Agree names (a ∷ k) [] = ⊥
Agree names (a ∷ k) (b ∷ l) = (a.0 ≡ b.0) × (is_one_of names a.0 ≡ false → a.1 ≡ b.1) × Agree names k l

agree_fewer : (names : List Name) (own : Name) (k l : Known) → Agree names k l → Agree (names ++ own ∷ []) k l
agree_fewer names own [] [] h = tt
agree_fewer names own [] (b ∷ l) h = absurd h
agree_fewer names own (a ∷ k) [] h = absurd h
agree_fewer names own (a ∷ k) (b ∷ l) h = (h.0, λ e. h.1 (fewer_names names own a.0 e), agree_fewer names own k l h.2)

agree_push : (names : List Name) (k l : Known) (a b : Name × RowsMeant) → Agree names k l → a.0 ≡ b.0 → (is_one_of names a.0 ≡ false → a.1 ≡ b.1)
    → Agree names (k ++ a ∷ []) (l ++ b ∷ [])
agree_push names [] [] a b h e f = (e, f, tt)
agree_push names [] (y ∷ l) a b h e f = absurd h
agree_push names (x ∷ k) [] a b h e f = absurd h
agree_push names (x ∷ k) (y ∷ l) a b h e f = (h.0, h.1, agree_push names k l a b h.2 e f)

agree_found : (names : List Name) (k l : Known) → Agree names k l → (name : Name) → is_one_of names name ≡ false → found (Ok []) k name ≡ found (Ok []) l name
agree_found names [] [] h name none = refl
agree_found names [] (b ∷ l) h name none = absurd h
agree_found names (a ∷ k) [] h name none = absurd h
agree_found names (a ∷ k) (b ∷ l) h name none =
    by (bytes_eq a.0 name) refl (agree_found names k l h.2 name none)
    ∙ ap (λ (n : Name). cond (bytes_eq n name) b.1 (found (Ok []) l name)) h.0
  where
    by : (t : Bool) → bytes_eq a.0 name ≡ t → found (Ok []) k name ≡ found (Ok []) l name → cond t a.1 (found (Ok []) k name) ≡ cond t b.1 (found (Ok []) l name)
    by true q ih = h.1 (ap (is_one_of names) (same_name a.0 name q) ∙ none)
    by false q ih = ih

-- ---- what stands ready

-- the same names, and the same relvars where nothing stands ready
abbrev AreAlike : (ℕ → Bool) → ℕ → Entries → Entries → Type 0
AreAlike ready i [] [] = Unit {0}
AreAlike ready i [] (f ∷ fs) = ⊥
AreAlike ready i (e ∷ es) [] = ⊥
AreAlike ready i (e ∷ es) (f ∷ fs) = (e.0 ≡ f.0) × (ready i ≡ false → e.1 ≡ f.1) × AreAlike ready (suc i) es fs

all_alike : (ready : ℕ → Bool) (i : ℕ) (es : Entries) → AreAlike ready i es es
all_alike ready i [] = tt
all_alike ready i (e ∷ es) = (refl, λ q. refl, all_alike ready (suc i) es)

alike_weaker : (p q : ℕ → Bool) (i : ℕ) (es fs : Entries) → ((k : ℕ) → q k ≡ false → p k ≡ false) → AreAlike p i es fs → AreAlike q i es fs
alike_weaker p q i [] [] less h = tt
alike_weaker p q i [] (f ∷ fs) less h = absurd h
alike_weaker p q i (e ∷ es) [] less h = absurd h
alike_weaker p q i (e ∷ es) (f ∷ fs) less h = (h.0, λ none. h.1 (less i none), alike_weaker p q (suc i) es fs less h.2)

-- one relvar more is turned into another one
alike_turned : (p q : ℕ → Bool) (i at : ℕ) (g : PlainRelvar → PlainRelvar) (es fs : Entries) → ((k : ℕ) → q k ≡ false → p k ≡ false) → q (at + i) ≡ true → AreAlike p i es fs
    → AreAlike q i es (turned_at at g fs)
alike_turned p q i at g [] [] less one h = tt
alike_turned p q i at g [] (f ∷ fs) less one h = absurd h
alike_turned p q i at g (e ∷ es) [] less one h = absurd h
alike_turned p q i zero g (e ∷ es) (f ∷ fs) less one h =
    let same : i ≡ 0 + i = omega arith in
    (h.0, λ none. absurd (true≢false (sym one ∙ (ap q (sym same) ∙ none))), alike_weaker p q (suc i) es fs less h.2)
alike_turned p q i (suc at) g (e ∷ es) (f ∷ fs) less one h =
    let same : at + suc i ≡ suc at + i = omega arith in
    (h.0, λ none. h.1 (less i none), alike_turned p q (suc i) at g es fs less (ap q same ∙ one) h.2)

one_of : List Change → ℕ → Bool
one_of cs i = list_any (λ c. nat_eq (place_of c) i) cs

list_alike : (cs : List Change) (es : Entries) → AreAlike (one_of cs) 0 es (exchanged_by cs es)
unfolding one_of
list_alike [] es = all_alike (one_of []) 0 es
list_alike (c ∷ cs) es =
    let at = place_of c in
    let same : nat_eq at (at + 0) ≡ true = grind (arith, nat_tests) in
    alike_turned (one_of cs) (one_of (c ∷ cs)) 0 at (turned c) es (exchanged_by cs es) (λ k none. (or_parts (nat_eq at k) (one_of cs k) none).1)
    (ap (λ (b : Bool). b || one_of cs (at + 0)) same) (list_alike cs es)

ready_alike : (r : Ready) (es : Entries) → AreAlike (is_ready_at r) 0 es (with_ready r es)
unfolding one_of
ready_alike r es = list_alike r.changes.items es

-- ---- what is affected

view_same : (names : List Name) (k l : Known) (r : PlainRelvar) → Agree names k l → is_view_of names r ≡ false → relvar_meaning k r ≡ relvar_meaning l r
view_same names k l (base value constraints) agree none = refl
view_same names k l (view t kind) agree none = meaning-agrees (is_one_of names) k l (agree_found names k l agree) plainly t none
view_same names k l (log of side last w) agree none = refl

module _ (r : Ready) where
  known_agree : (i : ℕ) (names : List Name) (es fs : Entries) (k l : Known) → Agree names k l → AreAlike (is_ready_at r) i es fs
      → Agree (affected_from r i names es) (each_after relvar_meaning k es) (each_after relvar_meaning l fs)
  known_agree i names [] [] k l agree alike = agree
  known_agree i names [] (f ∷ fs) k l agree alike = absurd alike
  known_agree i names (e ∷ es) [] k l agree alike = absurd alike
  known_agree i names (e ∷ es) (f ∷ fs) k l agree alike =
      known_agree (suc i) (with_affected r i names e.0 e.1) es fs (k ++ (e.0, relvar_meaning k e.1) ∷ []) (l ++ (f.0, relvar_meaning l f.1) ∷ []) (by (is_affected r i names e.1) refl) alike.2
    where
      by : (b : Bool) → is_affected r i names e.1 ≡ b → Agree (cond b (names ++ e.0 ∷ []) names) (k ++ (e.0, relvar_meaning k e.1) ∷ []) (l ++ (f.0, relvar_meaning l f.1) ∷ [])
      by true q =
          agree_push (names ++ e.0 ∷ []) k l (e.0, relvar_meaning k e.1) (f.0, relvar_meaning l f.1) (agree_fewer names e.0 k l agree) alike.0
          (λ none. absurd (true≢false (sym (last_name names e.0) ∙ none)))
      by false q =
          let parts = or_parts (is_ready_at r i) (is_view_of names e.1) q in
          agree_push names k l (e.0, relvar_meaning k e.1) (f.0, relvar_meaning l f.1) agree alike.0
          (λ none. view_same names k l e.1 agree parts.1 ∙ ap (relvar_meaning l) (alike.1 parts.0))

  holds_same : (es : Entries) (t : Test) → test_names_any (is_one_of (affected r es)) t ≡ false → holds_in (with_ready r es) t ≡ holds_in es t
  holds_same es t none =
      let agree = known_agree 0 [] es (with_ready r es) [] [] tt (ready_alike r es) in
      let names = affected r es in
      sym (ap is_held (truth-agrees (is_one_of names) (known_in es) (known_in (with_ready r es)) (agree_found names (known_in es) (known_in (with_ready r es)) agree) t none))

  pub others_hold : (es : Entries) (rs : Rules) → All (λ k. holds_in es k.1 ≡ true) rs → DoOthersHold (with_ready r es) (leaning (affected r es) rs) rs
  others_hold es [] held = tt
  others_hold es (k ∷ rs) held = (
    λ none. holds_same es k.1 none ∙ All-head (λ z. holds_in es z.1 ≡ true) k rs held,
    others_hold es rs (All-tail (λ z. holds_in es z.1 ≡ true) k rs held),
  )

-- ---- where none is told

pub unless_told : (es : Entries) (bs : List Bool) (rs : Rules) → list_any (λ b. b) bs ≡ false → DoOthersHold es bs rs → first_rule_broken es rs ≡ None
unless_told es [] [] none held = refl
unless_told es [] (r ∷ rs) none held = absurd held
unless_told es (b ∷ bs) [] none held = absurd held
unless_told es (b ∷ bs) (r ∷ rs) none held =
    let parts = or_parts b (list_any (λ z. z) bs) none in
    ap (λ (t : Bool). cond t (first_rule_broken es rs) (Some (Broken E45 r.0 0))) (held.0 parts.0) ∙ unless_told es bs rs parts.1 held.1

pub told_length : (es : Entries) (bs : List Bool) (rs : Rules) → DoOthersHold es bs rs → length bs ≡ length rs
told_length es [] [] held = refl
told_length es [] (r ∷ rs) held = absurd held
told_length es (b ∷ bs) [] held = absurd held
told_length es (b ∷ bs) (r ∷ rs) held = ap suc (told_length es bs rs held.1)

pub other_holds : (es : Entries) (bs : List Bool) (rs : Rules) (i : ℕ) (b : Bool) (d : Name × Test) → DoOthersHold es bs rs → i < length bs → b ≡ get_or bs i b → b ≡ false
    → holds_in es (slice_index_or rs i d).1 ≡ true
other_holds es [] rs i b d held l g e = absurd (omega arith)
other_holds es (a ∷ bs) [] i b d held l g e = absurd held
other_holds es (a ∷ bs) (r ∷ rs) zero b d held l g e = held.0 (sym g ∙ e)
other_holds es (a ∷ bs) (r ∷ rs) (suc i) b d held l g e = other_holds es bs rs i b d held.1 (omega arith) g e

pub no_rules : (names : List Name) (rs : List (Name × RelTest)) → length rs ≡ 0 → [] ≡ leaning names (map read_rule rs)
no_rules names [] e = refl
no_rules names (r ∷ rs) e = absurd (omega (arith, e))

pub rule_entry : (rs : List (Name × RelTest)) (i : ℕ) (n : Name) (t : RelTest) (d : Name × Test) → slice_get rs i ≡ Some (n, t) → slice_index_or (map read_rule rs) i d ≡ (n, read_test t)
rule_entry [] i n t d g = absurd (cc)
rule_entry (r ∷ rs) zero n t d g = let same : r ≡ (n, t) = cc in ap read_rule same
rule_entry (r ∷ rs) (suc i) n t d g = rule_entry rs i n t d g

pub read_length : (rs : List (Name × RelTest)) → length (map read_rule rs) ≡ length rs
read_length [] = refl
read_length (r ∷ rs) = ap suc (read_length rs)

pub rule_there : (rs : List (Name × RelTest)) (i : ℕ) → slice_get rs i ≡ None → i < length rs → ⊥
rule_there [] i g l = absurd (omega arith)
rule_there (r ∷ rs) zero g l = absurd (cc)
rule_there (r ∷ rs) (suc i) g l = rule_there rs i g (omega arith)

-- ---- names

pub pushed_names : (xs ys : List (Bor Name)) (x : Bor Name) → ys ≡ xs ++ x ∷ [] → map (λ (n : Bor Name). n.now) ys ≡ map (λ (n : Bor Name). n.now) xs ++ x.now ∷ []
pushed_names xs ys x e = ap (map (λ (n : Bor Name). n.now)) e ∙ map-append (λ (n : Bor Name). n.now) xs (x ∷ [])

pub names_of_slice : (xs ys : List (Bor Name)) → xs ≡ ys → map (λ (n : Bor Name). n.now) xs ≡ map (λ (n : Bor Name). n.now) ys
names_of_slice xs ys e = ap (map (λ (n : Bor Name). n.now)) e

-- ---- one place further

pub next_affected : (r : Ready) (names next : List Name) (es : Entries) (i : ℕ) (d : Name × PlainRelvar) → i < length es
    → next ≡ with_affected r i names (slice_index_or es i d).0 (slice_index_or es i d).1
    → affected_from r i names (drop i es) ≡ affected_from r (i + 1) next (drop (i + 1) es)
next_affected r names next es i d l e =
    let one : i + 1 ≡ suc i = omega arith in
    by es i l i ∙ (ap (λ (n : List Name). affected_from r (suc i) n (drop (suc i) es)) (sym e) ∙ ap (λ (m : ℕ). affected_from r m next (drop m es)) (sym one))
  where
    by : (xs : Entries) (k : ℕ) → k < length xs → (m : ℕ)
        → affected_from r m names (drop k xs) ≡ affected_from r (suc m) (with_affected r m names (slice_index_or xs k d).0 (slice_index_or xs k d).1) (drop (suc k) xs)
    by [] k h m = absurd (omega arith)
    by (x ∷ xs) zero h m = refl
    by (x ∷ xs) (suc k) h m = by xs k (omega arith) m

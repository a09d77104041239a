-- Logs in a state: what does not turn on them, and what has none.
--     truth-turned      a test that names no log, itself or through views, is as true when the logs are turned
--     apart-appended, apart-dropped      such a test names none among more entries, and among those that are left
--     turned-none, in_step-none      where there is no log
use Rattle.std.proofs.Common.{◌≡◌, ℕ, Bool, true, false, cond, List, [], ◌∷◌, ◌++◌, map, refl, sym, ap, ◌∙◌, true≢false, Ok}
use Rattle.std.specs.Prelude.{is_none}
use Rattle.std.specs.Str.{bytes_eq}
use Rattle.std.proofs.lemmas.Bool.{or_parts}
use Rattle.std.proofs.lemmas.List.{map-append}
use Rattle.value_core.specs.Values.{Name}
use Rattle.tree_core.specs.Relvars.{PlainRelvar, base, view, log, Entries}
use Rattle.tree_core.specs.Trees.{Test}
use Rattle.tree_core.specs.Uses.{test_names_any}
use Rattle.meaning_core.specs.Logs.{is_log, has_log, turned_relvar, turned_logs, is_over_log, over_log}
use Rattle.meaning_core.specs.Meanings.{RowsMeant, Known, plainly, relvar_meaning, known_in}
use Rattle.meaning_core.specs.Names.{found, each_after}
use Rattle.meaning_core.specs.Truths.{truth_in}
use Rattle.meaning_core.specs.Typing.{heading_named, IsTypedTest}
use Rattle.meaning_core.specs.WellMade.{headings_of, AreRelvars}
use Rattle.meaning_core.proofs.ElsewhereLemmas.{test-names-alike, names-alike, left, found-left, view_names, each-left, meaning-agrees, truth-agrees, IsApart, apart-left, left-clear, typed-test-names, found-appended, has-heading, none-is}

-- ---- what a name is known to stand for: whether it turns on a log, and what it means before the logs are turned and after

abbrev Both : Type 0
Both = Name × (Bool × RowsMeant × RowsMeant)

abbrev flag : Both → Name × Bool
flag q = (q.0, q.1.0)

abbrev earlier : Both → Name × RowsMeant
earlier q = (q.0, q.1.1)

abbrev later : Both → Name × RowsMeant
later q = (q.0, q.1.2)

abbrev Agree : List Both → Type 0
Agree [] = Unit {0}
Agree (q ∷ qs) = (q.1.0 ≡ false → q.1.1 ≡ q.1.2) × Agree qs

agree-push : (qs : List Both) (q : Both) → Agree qs → (q.1.0 ≡ false → q.1.1 ≡ q.1.2) → Agree (qs ++ q ∷ [])
agree-push [] q h one = (one, tt)
agree-push (p ∷ qs) q h one = (h.0, agree-push qs q h.1 one)

agree-found : (qs : List Both) → Agree qs → (name : Name) → found false (map flag qs) name ≡ false → found (Ok []) (map earlier qs) name ≡ found (Ok []) (map later qs) name
agree-found [] h name none = refl
agree-found (q ∷ qs) h name none = by-test (bytes_eq q.0 name) (agree-found qs h.1 name) none
  where
    by-test : (b : Bool) → (found false (map flag qs) name ≡ false → found (Ok []) (map earlier qs) name ≡ found (Ok []) (map later qs) name)
        → cond b q.1.0 (found false (map flag qs) name) ≡ false
        → cond b q.1.1 (found (Ok []) (map earlier qs) name) ≡ cond b q.1.2 (found (Ok []) (map later qs) name)
    by-test true more f = h.0 f
    by-test false more f = more f

module _ (all : Entries) where
  abbrev turned : Name × PlainRelvar → Name × PlainRelvar
  turned e = (e.0, turned_relvar all e.1)

  one-agrees : (qs : List Both) → Agree qs → (r : PlainRelvar) → is_over_log (map flag qs) r ≡ false
      → relvar_meaning (map earlier qs) r ≡ relvar_meaning (map later qs) (turned_relvar all r)
  one-agrees qs h (base value constraints) none = refl
  one-agrees qs h (view t kind) none = meaning-agrees (found false (map flag qs)) (map earlier qs) (map later qs) (agree-found qs h) plainly t none
  one-agrees qs h (log of side last value) none = absurd (true≢false none)

  through : (qs : List Both) (es : Entries) → Agree qs
      → (rs : List Both) × Agree rs × (each_after is_over_log (map flag qs) es ≡ map flag rs) × (each_after relvar_meaning (map earlier qs) es ≡ map earlier rs)
      × (each_after relvar_meaning (map later qs) (map turned es) ≡ map later rs)
  through qs [] h = (qs, h, refl, refl, refl)
  through qs (e ∷ es) h =
      let q : Both = (e.0, (is_over_log (map flag qs) e.1, relvar_meaning (map earlier qs) e.1, relvar_meaning (map later qs) (turned_relvar all e.1))) in
      let next = through (qs ++ q ∷ []) es (agree-push qs q h (one-agrees qs h e.1)) in (
        next.0,
        next.1,
        ap (λ (k : List (Name × Bool)). each_after is_over_log k es) (sym (map-append flag qs (q ∷ []))) ∙ next.2,
        ap (λ (k : Known). each_after relvar_meaning k es) (sym (map-append earlier qs (q ∷ []))) ∙ next.3,
        ap (λ (k : Known). each_after relvar_meaning k (map turned es)) (sym (map-append later qs (q ∷ []))) ∙ next.4,
      )

-- a test that names no log, itself or through views, is as true when the logs are turned
pub truth-turned : (es : Entries) (t : Test) → test_names_any (over_log es) t ≡ false → truth_in es t ≡ truth_in (turned_logs es) t
truth-turned es t none =
    let all = through es [] es tt in
    truth-agrees (over_log es) (known_in es) (known_in (turned_logs es))
    (λ name f.
    ap (λ (k : Known). found (Ok []) k name) all.3
    ∙ (agree-found all.0 all.1 name (sym (ap (λ (k : List (Name × Bool)). found false k name) all.2) ∙ f) ∙ sym (ap (λ (k : Known). found (Ok []) k name) all.4)))
    t none

-- ---- more entries, and fewer

-- a test that is typed for the entries names no log among more of them
pub apart-appended : (sizes : List ℕ) (es more : Entries) (t : Test) → IsTypedTest sizes (headings_of es) t → test_names_any (over_log es) t ≡ false
    → test_names_any (over_log (es ++ more)) t ≡ false
apart-appended sizes es more t is none =
    let unknown : Name → Bool = λ name. is_none (heading_named (headings_of es) name) in
    test-names-alike unknown (over_log (es ++ more)) (over_log es) (λ name q. found-appended is_over_log false es more name (has-heading es name q))
    t (typed-test-names unknown sizes (headings_of es) (λ name one. none-is (heading_named (headings_of es) name) one) t is)
    ∙ none

module _ (some : Name → Bool) where
  over-same : (known : List (Name × Bool)) (r : PlainRelvar) → view_names some r ≡ false → is_over_log known r ≡ is_over_log (left some known) r
  over-same known (base value constraints) none = refl
  over-same known (view t kind) none = names-alike some (found false known) (found false (left some known)) (λ name q. found-left some false known name q) t none
  over-same known (log of side last value) none = refl

  over-left : (es : Entries) → IsApart some es → (name : Name) → some name ≡ false → over_log (left some es) name ≡ over_log es name
  over-left es apart name none =
      sym (found-left some false (each_after is_over_log [] es) name none
      ∙ ap (λ (k : List (Name × Bool)). found false k name) (each-left some is_over_log over-same [] es apart))

  -- a test that is typed for what is left, which is well made, names no log among it
  pub apart-dropped : (sizes : List ℕ) (es : Entries) (t : Test) → AreRelvars sizes [] (left some es) → IsTypedTest sizes (headings_of (left some es)) t
      → test_names_any (over_log es) t ≡ false → test_names_any (over_log (left some es)) t ≡ false
  apart-dropped sizes es t all is none =
      test-names-alike some (over_log (left some es)) (over_log es) (over-left es (apart-left some sizes es [] (λ name one. refl) all))
      t (typed-test-names some sizes (headings_of (left some es)) (left-clear some es) t is)
      ∙ none

-- ---- where there is no log

turned-other : (all : Entries) (r : PlainRelvar) → is_log r ≡ false → turned_relvar all r ≡ r
turned-other all (base value constraints) none = refl
turned-other all (view t kind) none = refl
turned-other all (log of side last value) none = absurd (true≢false none)

pub turned-none : (es : Entries) → has_log es ≡ false → turned_logs es ≡ es
turned-none es none = from es none
  where
    from : (fs : Entries) → has_log fs ≡ false → map (λ r. (r.0, turned_relvar es r.1)) fs ≡ fs
    from [] h = refl
    from (f ∷ fs) h =
        let parts = or_parts (is_log f.1) (has_log fs) h in
        λ i. (f.0, turned-other es f.1 parts.0 i) ∷ from fs parts.1 i

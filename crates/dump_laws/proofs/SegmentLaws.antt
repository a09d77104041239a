-- A row of texts that are declared anew.
--     TextStep      what is known of one text
--     segment-taken      the law: an invariant that each step keeps holds behind all of them
use Rattle.std.proofs.Common.{◌≡◌, ℕ, List, [], ◌∷◌, ◌++◌, map, sym, ap, ◌∙◌, subst, append_assoc, append-nil}
use Rattle.std.specs.List.{flat_map}
use Rattle.point_core.specs.declared.fault.Place.{Place}
use Rattle.value_core.specs.declared.list.OrdinalNames.{OrdinalNames}
use Rattle.tree_core.specs.Relvars.{State}
use Rattle.dump_core.specs.Texts.{SourceText}
use Rattle.meaning_core.specs.Declarations.{counted}
use Rattle.utd_statement.specs.Readings.{Tree as TreeOf}
use Rattle.typing_laws.specs.Saying.{Said, moved_said, ordinals_said, with_said}
use Rattle.dump_laws.specs.Kept.{IsTextOf}
use Rattle.dump_laws.proofs.ListLaws.{given-last}
use Rattle.dump_laws.specs.Replays.{IsStepFor, Declares}
use Rattle.dump_laws.proofs.TextSteps.{declared-text}
use Rattle.dump_laws.specs.Accepting.{Outcome, IsForm, TakesAll}
use Rattle.dump_laws.specs.Standing.{AreSaidFrom}

-- a kept text, in either form, is declared anew
abbrev pub TextStep : Type 0
TextStep =
    (w r : State) (types more : List OrdinalNames) (t : SourceText) (d : Said) → IsStepFor w r types more t d → (place : Place) (bytes : List ℕ) → IsForm t.bytes bytes → Declares place bytes r t d

-- what is said in front of the texts, and by them
module _ (text-step : TextStep) (w : State) (front part : List Said) (Inv : List Said → State → Type 0)
    (step :
    (done rest : List Said) (d : Said) (t : SourceText) (r : State) (types more : List OrdinalNames) → part ≡ done ++ d ∷ rest → Inv done r → flat_map ordinals_said (front ++ done) ≡ types ++ more
    → IsTextOf (record w { ordinals = types }) t d
    → IsStepFor w r types more t d)
    (next : (done rest : List Said) (d : Said) (t : SourceText) (place : Place) (bytes : List ℕ) (r : State) → part ≡ done ++ d ∷ rest → Inv done r → (x : Declares place bytes r t d)
    → Inv (done ++ d ∷ []) (counted (with_said r (moved_said x.move d))))
  where
    types-more : (done : List Said) (d : Said) → flat_map ordinals_said (front ++ (done ++ d ∷ [])) ≡ flat_map ordinals_said (front ++ done) ++ ordinals_said d
    types-more done d = ap (flat_map ordinals_said) (sym (append_assoc front done (d ∷ []))) ∙ given-last ordinals_said (front ++ done) d

    pub segment-taken : (done rest : List Said) (ts : List SourceText) (r : State) (texts : List SourceText) (After : Outcome) → part ≡ done ++ rest → Inv done r
        → AreSaidFrom w (flat_map ordinals_said (front ++ done)) ts rest
        → ((last : State) → Inv part last → After last (texts ++ ts)) → TakesAll (map (λ (t : SourceText). t.bytes) ts) r texts After
    segment-taken done [] [] r texts After e h said then =
        let whole : done ≡ part = sym (e ∙ append-nil done) in
        subst (After r) (append-nil texts) (then r (subst (λ (l : List Said). Inv l r) whole h))
    segment-taken done [] (t ∷ ts) r texts After e h said then = absurd said
    segment-taken done (d ∷ rest) [] r texts After e h said then = absurd said
    segment-taken done (d ∷ rest) (t ∷ ts) r texts After e h ((types, more, same, text), said) then = λ place bytes form.
        let x : Declares place bytes r t d = text-step w r types more t d (step done rest d t r types more e h same text) place bytes form in
        let later : List SourceText = texts ++ t ∷ [] in
        let whole : part ≡ (done ++ d ∷ []) ++ rest = e ∙ sym (append_assoc done (d ∷ []) rest) in
        let more_said : AreSaidFrom w (flat_map ordinals_said (front ++ (done ++ d ∷ []))) ts rest = subst (λ (l : List OrdinalNames). AreSaidFrom w l ts rest) (sym (types-more done d)) said in
        let next_state : State = counted (with_said r (moved_said x.move d)) in
        let rest_taken : TakesAll (map (λ (u : SourceText). u.bytes) ts) next_state later After =
        segment-taken (done ++ d ∷ []) rest ts next_state later After whole (next done rest d t place bytes r e h x) more_said
        (λ last k. subst (After last) (sym (append_assoc texts (t ∷ []) ts)) (then last k)) in (
          TreeOf x.tree,
          with_said r (moved_said x.move d),
          x.one,
          x.text,
          x.answered,
          subst (λ (us : List SourceText). TakesAll (map (λ (u : SourceText). u.bytes) ts) next_state us After) (sym (declared-text place bytes r t d x texts)) rest_taken,
        )

-- Bytes that are one statement stay one without the gaps in front, and behind a byte 10.
--     NoneEnds-same, NoneEnds-behind, NoneEnds-join      where a statement ends hangs on how the bytes before stand
--     one-front      a gap in front of a statement belongs to it, and may be taken off
--     one-begun, one-behind      without all gaps in front, and with a byte 10 in front
use Rattle.std.proofs.Common.{◌≡◌, ◌≢◌, ℕ, zero, suc, ◌+◌, ◌≤◌, List, [], ◌∷◌, ◌++◌, length, take, drop, Bool, true, false, ◌&&◌, eqb, refl, sym, ◌∙◌, ap, subst, arith, append_assoc, append-nil, length-append, take-append-drop, take_all, inl, inr}
use Rattle.std.proofs.lemmas.Bool.{false≢true}
use Rattle.std.proofs.lemmas.Bool.Decides.{eqb_tells}
use Rattle.utd_lexer.specs.declared.cutter.Mode.{Mode}
use Rattle.utd_lexer.specs.declared.cutter.Mode.TheVariants.{Between, Slash, Text, Block, Star, Line}
use Rattle.utd_lexer.specs.Cutting.{run, next, is_outside, is_between, can_be_blank, blank_next}
use Rattle.utd_lexer.specs.Gaps.{is_gap, gaps_len, without_gaps}
use Rattle.utd_lexer.proofs.CutLemmas.{run-append}
use Rattle.utd_lexer.proofs.BlankLemmas.{can_be_blank-append}
use Rattle.text_laws.specs.Statements.{NoneEnds, IsOneStatement}
use Rattle.text_laws.proofs.GapFronts.{gap-ends, all-front}

-- ---- where no statement ends

pub NoneEnds-same : (a b bytes : List ℕ) → run Between a ≡ run Between b → NoneEnds a bytes → NoneEnds b bytes
NoneEnds-same a b [] e h = tt
NoneEnds-same a b (c ∷ bytes) e h =
    let on : run Between (a ++ c ∷ []) ≡ run Between (b ++ c ∷ []) =
    run-append Between a (c ∷ []) ∙ ap (λ m. next m c) e ∙ sym (run-append Between b (c ∷ [])) in
    (ap (λ m. eqb c 59 && is_outside m) (sym e) ∙ h.0, NoneEnds-same (a ++ c ∷ []) (b ++ c ∷ []) bytes on h.1)

pub NoneEnds-behind : (prefix a b : List ℕ) → NoneEnds prefix (a ++ b) → NoneEnds (prefix ++ a) b
NoneEnds-behind prefix [] b h = subst (λ z. NoneEnds z b) (sym (append-nil prefix)) h
NoneEnds-behind prefix (c ∷ a) b h = subst (λ z. NoneEnds z b) (append_assoc prefix (c ∷ []) a) (NoneEnds-behind (prefix ++ c ∷ []) a b h.1)

pub NoneEnds-join : (prefix a b : List ℕ) → NoneEnds prefix a → NoneEnds (prefix ++ a) b → NoneEnds prefix (a ++ b)
NoneEnds-join prefix [] b h k = subst (λ z. NoneEnds z b) (append-nil prefix) k
NoneEnds-join prefix (c ∷ a) b h k = (h.0, NoneEnds-join (prefix ++ c ∷ []) a b h.1 (subst (λ z. NoneEnds z b) (sym (append_assoc prefix (c ∷ []) a)) k))

-- ---- a gap in front

pub one-front : (g front : List ℕ) → is_gap g ≡ true → is_outside (run Between (g ++ front)) ≡ true → NoneEnds [] (g ++ front)
    → (is_outside (run Between front) ≡ true) × NoneEnds [] front
one-front g front h out none =
    let ends : run Between g ≡ Between = gap-ends g h in
    let mode : run Between (g ++ front) ≡ run Between front = run-append Between g front ∙ ap (λ m. run m front) ends in
    (ap is_outside (sym mode) ∙ out, NoneEnds-same g [] front ends (NoneEnds-behind [] g front none))

-- the `;` of a statement is in no gap
never-blank : (m : Mode) (ok : Bool) → is_outside m ≡ true → blank_next m ok 59 ≡ false
never-blank Between true h = refl
never-blank Between false h = refl
never-blank Slash true h = refl
never-blank Slash false h = refl
never-blank Text ok h = absurd (false≢true h)
never-blank Block ok h = absurd (false≢true h)
never-blank Star ok h = absurd (false≢true h)
never-blank Line ok h = absurd (false≢true h)

no-gap : (front : List ℕ) → is_outside (run Between front) ≡ true → is_gap (front ++ 59 ∷ []) ≡ false
no-gap front out =
    let flag : can_be_blank Between true (front ++ 59 ∷ []) ≡ false =
    can_be_blank-append Between true front (59 ∷ []) ∙ never-blank (run Between front) (can_be_blank Between true front) out in
    ap (λ b. b && is_between (run Between (front ++ 59 ∷ []))) flag

take-front : (n : ℕ) (front : List ℕ) (b : ℕ) → n ≤ length front → take n (front ++ b ∷ []) ≡ take n front
take-front zero front b le = refl
take-front (suc n) [] b le = absurd (omega (arith, le))
take-front (suc n) (c ∷ front) b le = ap (λ z. c ∷ z) (take-front n front b (omega (arith, le)))

drop-front : (n : ℕ) (front : List ℕ) (b : ℕ) → n ≤ length front → drop n (front ++ b ∷ []) ≡ drop n front ++ b ∷ []
drop-front zero front b le = refl
drop-front (suc n) [] b le = absurd (omega (arith, le))
drop-front (suc n) (c ∷ front) b le = drop-front n front b (omega (arith, le))

-- a front that is a gap is shorter than the statement
gap-short : (front : List ℕ) (n : ℕ) → is_outside (run Between front) ≡ true → n ≤ length (front ++ 59 ∷ []) → is_gap (take n (front ++ 59 ∷ [])) ≡ true → n ≤ length front
gap-short front n out le gap =
    let len : length (front ++ 59 ∷ []) ≡ length front + 1 = length-append front (59 ∷ []) in
    elim (eqb_tells n (length front + 1)) [
      | inl e ↦
          let all : take n (front ++ 59 ∷ []) ≡ front ++ 59 ∷ [] = take_all n (front ++ 59 ∷ []) (omega (arith, len, e.1)) in
          absurd (false≢true (sym (no-gap front out) ∙ ap is_gap (sym all) ∙ gap))
      | inr e ↦ let other : n ≢ length front + 1 = e.1 in omega (arith, len, le, other)
    ]

pub one-begun : (bytes : List ℕ) → IsOneStatement bytes → IsOneStatement (without_gaps bytes)
one-begun bytes (front, is, out, none) =
    let n : ℕ = gaps_len bytes (length bytes) in
    let gap : is_gap (take n bytes) ≡ true = (all-front bytes).1 in
    let within : n ≤ length (front ++ 59 ∷ []) = subst (λ z. n ≤ length z) is (all-front bytes).0 in
    let short : n ≤ length front = gap-short front n out within (ap (λ z. is_gap (take n z)) (sym is) ∙ gap) in
    let g : List ℕ = take n front in
    let behind : List ℕ = drop n front in
    let whole : g ++ behind ≡ front = take-append-drop n front in
    let first : is_gap g ≡ true = ap is_gap (sym (take-front n front 59 short)) ∙ ap (λ z. is_gap (take n z)) (sym is) ∙ gap in
    let both = one-front g behind first (ap (λ z. is_outside (run Between z)) whole ∙ out) (subst (NoneEnds []) (sym whole) none) in
    (behind, ap (drop n) is ∙ drop-front n front 59 short, both.0, both.1)

pub one-behind : (bytes : List ℕ) → IsOneStatement bytes → IsOneStatement (10 ∷ bytes)
one-behind bytes (front, is, out, none) = (10 ∷ front, ap (λ z. 10 ∷ z) is, out, (refl, NoneEnds-same [] (10 ∷ []) front refl none))

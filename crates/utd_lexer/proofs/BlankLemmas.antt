-- Blank bytes.
use Rattle.std.proofs.Common.{◌≡◌, ◌≢◌, ◌↔◌, ℕ, List, [], ◌∷◌, ◌++◌, Bool, true, ◌&&◌, ◌||◌, eqb, refl, sym, ◌∙◌, ap, subst, arith, append_assoc, append-nil, inl, inr}
use Rattle.std.proofs.lemmas.Bool.{eqb-true, ne_eqb, false≢true}
use Rattle.std.proofs.lemmas.Bool.Decides.{eqb_tells}
use Rattle.base_core.proofs.BoolLemmas.{and_left, and_right}
use Rattle.utd_lexer.specs.declared.cutter.Mode.{Mode}
use Rattle.utd_lexer.specs.declared.cutter.Mode.TheVariants.{Between, Slash, Text, Block, Star, Line}
use Rattle.utd_lexer.specs.Cutting.{blank_next, can_be_blank, is_resting, next, run}
use Rattle.utd_lexer.specs.Parts.{is_space, AllBlank, IsBlank, Part, plain, text, block, line, bytes_of_part, Lacks, LacksEnd, AreParts, bytes_of}
use Rattle.utd_lexer.proofs.CutLemmas.{run-append, NotSlash, grow, apart-plain, apart-block, apart-line, Lacks-snoc, LacksEnd-snoc, LacksEnd-init, LacksEnd-tail, block_next, star_next, block_ends, line_done}
use Rattle.utd_lexer.proofs.WordLemmas.{or-cases}

space-no_slash : (b : ℕ) → is_space b ≡ true → b ≢ 47
space-no_slash b h e = false≢true (sym (ap is_space e) ∙ h)

space-no_quote : (b : ℕ) → is_space b ≡ true → b ≢ 39
space-no_quote b h e = false≢true (sym (ap is_space e) ∙ h)

blank-no_slash : (ps : List Part) → AllBlank ps → NotSlash ps
blank-no_slash [] h = tt
blank-no_slash (plain s ∷ ps) h = space-no_slash s h.0
blank-no_slash (text bs ∷ ps) h = tt
blank-no_slash (block bs ∷ ps) h = tt
blank-no_slash (line bs ∷ ps) h = tt

-- what the bytes are while they can still be blank
abbrev Held : Mode → List ℕ → Type 0
Held Between bytes = (ps : List Part) × AreParts ps × AllBlank ps × (bytes ≡ bytes_of ps)
Held Slash bytes = (ps : List Part) × AreParts ps × AllBlank ps × (bytes ≡ bytes_of ps ++ 47 ∷ [])
Held Text bytes = ⊥
Held Block bytes = (ps : List Part) × (bs : List ℕ) × AreParts ps × AllBlank ps × ((b : ℕ) → LacksEnd (bs ++ b ∷ [])) × (bytes ≡ bytes_of ps ++ (47 ∷ 42 ∷ bs))
Held Star bytes = (ps : List Part) × (bs : List ℕ) × AreParts ps × AllBlank ps × LacksEnd (bs ++ 42 ∷ []) × (bytes ≡ bytes_of ps ++ (47 ∷ 42 ∷ (bs ++ 42 ∷ [])))
Held Line bytes = (ps : List Part) × (bs : List ℕ) × AreParts ps × AllBlank ps × Lacks 10 bs × (bytes ≡ bytes_of ps ++ (47 ∷ 47 ∷ bs))

space_next : (b : ℕ) → is_space b ≡ true → next Between b ≡ Between
space_next b h = rw (ne_eqb b 39 (space-no_quote b h), ne_eqb b 47 (space-no_slash b h)) refl

slash_next : (b : ℕ) → b ≡ 47 → next Between b ≡ Slash
slash_next b e = rw e refl

slash_block : (b : ℕ) → b ≡ 42 → next Slash b ≡ Block
slash_block b e = rw e refl

slash_line : (b : ℕ) → b ≡ 47 → next Slash b ≡ Line
slash_line b e = rw e refl

held_next : (m : Mode) (ok : Bool) (b : ℕ) (bytes : List ℕ) → (ok ≡ true → Held m bytes) → blank_next m ok b ≡ true → Held (next m b) (bytes ++ b ∷ [])
held_next Between ok b bytes h e =
    let (ps, are, blank, is) = h (and_left ok (is_space b || eqb b 47) e) in
    elim (or-cases (is_space b) (eqb b 47) (and_right ok (is_space b || eqb b 47) e)) [
      | inl s ↦ subst (λ m. Held m (bytes ++ b ∷ [])) (sym (space_next b s)) (plain b ∷ ps, (space-no_quote b s, apart-plain b ps (blank-no_slash ps blank), are), (s, blank), ap (λ z. z ++ b ∷ []) is)
      | inr s ↦ subst (λ m. Held m (bytes ++ b ∷ [])) (sym (slash_next b (eqb-true b 47 s))) (ps, are, blank, ap (λ z. z ++ b ∷ []) is ∙ ap (λ z. bytes_of ps ++ z ∷ []) (eqb-true b 47 s))
    ]
held_next Slash ok b bytes h e =
    let (ps, are, blank, is) = h (and_left ok (eqb b 42 || eqb b 47) e) in
    elim (or-cases (eqb b 42) (eqb b 47) (and_right ok (eqb b 42 || eqb b 47) e)) [
      | inl s ↦ subst (λ m. Held m (bytes ++ b ∷ [])) (sym (slash_block b (eqb-true b 42 s))) (ps, [], are, blank, λ c. tt, grow bytes (bytes_of ps) (47 ∷ []) b is ∙ ap (λ z. bytes_of ps ++ (47 ∷ z ∷ [])) (eqb-true b 42 s))
      | inr s ↦ subst (λ m. Held m (bytes ++ b ∷ [])) (sym (slash_line b (eqb-true b 47 s))) (ps, [], are, blank, tt, grow bytes (bytes_of ps) (47 ∷ []) b is ∙ ap (λ z. bytes_of ps ++ (47 ∷ z ∷ [])) (eqb-true b 47 s))
    ]
held_next Text ok b bytes h e = absurd (h e)
held_next Block ok b bytes h e =
    let (ps, bs, are, blank, lacks, is) = h e in
    elim (eqb_tells b 42) [
      | inl p ↦ rw p.0 (ps, bs, are, blank, lacks 42, rw p.1 (grow bytes (bytes_of ps) (47 ∷ 42 ∷ bs) 42 is))
      | inr p ↦ rw p.0 (ps, bs ++ b ∷ [], are, blank, λ c. LacksEnd-snoc bs b c (lacks b) (λ g. absurd (p.1 g)), grow bytes (bytes_of ps) (47 ∷ 42 ∷ bs) b is)
    ]
held_next Star ok b bytes h e =
    let (ps, bs, are, blank, lacks, is) = h e in
    elim (eqb_tells b 47) [
      | inl p ↦ rw p.0 (block bs ∷ ps, (LacksEnd-init bs 42 lacks, apart-block bs ps (blank-no_slash ps blank), are), blank, rw p.1 (grow bytes (bytes_of ps) (47 ∷ 42 ∷ (bs ++ 42 ∷ [])) 47 is ∙ ap (λ z. bytes_of ps ++ (47 ∷ 42 ∷ z)) (append_assoc bs (42 ∷ []) (47 ∷ []))))
      | inr p ↦ rw p.0 (elim (eqb_tells b 42) [
        | inl q ↦ rw q.0 (ps, bs ++ 42 ∷ [], are, blank, LacksEnd-snoc bs 42 42 lacks (λ g. star), rw q.1 (grow bytes (bytes_of ps) (47 ∷ 42 ∷ (bs ++ 42 ∷ [])) 42 is))
        | inr q ↦ rw q.0 (ps, (bs ++ 42 ∷ []) ++ b ∷ [], are, blank, λ c. LacksEnd-snoc (bs ++ 42 ∷ []) b c (LacksEnd-snoc bs 42 b lacks (λ g. p.1)) (λ g. absurd (q.1 g)), grow bytes (bytes_of ps) (47 ∷ 42 ∷ (bs ++ 42 ∷ [])) b is)
      ])
    ]
  where
    star : ◌≢◌ {A = ℕ} 42 47
    star = λ e. omega arith
held_next Line ok b bytes h e =
    let (ps, bs, are, blank, lacks, is) = h e in
    elim (eqb_tells b 10) [
      | inl p ↦ rw p.0 (line bs ∷ ps, (lacks, apart-line bs ps (blank-no_slash ps blank), are), blank, rw p.1 (grow bytes (bytes_of ps) (47 ∷ 47 ∷ bs) 10 is))
      | inr p ↦ rw p.0 (ps, bs ++ b ∷ [], are, blank, Lacks-snoc 10 bs b lacks p.1, grow bytes (bytes_of ps) (47 ∷ 47 ∷ bs) b is)
    ]

held_run : (m : Mode) (ok : Bool) (before bytes : List ℕ) → (ok ≡ true → Held m before) → can_be_blank m ok bytes ≡ true → Held (run m bytes) (before ++ bytes)
held_run m ok before [] h e = rw append-nil (h e)
held_run m ok before (b ∷ bytes) h e = subst (Held (run (next m b) bytes)) (append_assoc before (b ∷ []) bytes) (held_run (next m b) (blank_next m ok b) (before ++ b ∷ []) bytes (held_next m ok b before h) e)

held-blank : (m : Mode) (bytes : List ℕ) → Held m bytes → is_resting m ≡ true → IsBlank bytes
held-blank Between bytes (ps, are, blank, is) e = (ps, are, blank, inl is)
held-blank Line bytes (ps, bs, are, blank, lacks, is) e = (ps, are, blank, inr (bs, lacks, is))
held-blank Slash bytes h e = absurd (false≢true e)
held-blank Text bytes h e = absurd (false≢true e)
held-blank Block bytes h e = absurd (false≢true e)
held-blank Star bytes h e = absurd (false≢true e)

-- the other way
pub can_be_blank-append : (m : Mode) (ok : Bool) (a b : List ℕ) → can_be_blank m ok (a ++ b) ≡ can_be_blank (run m a) (can_be_blank m ok a) b
can_be_blank-append m ok [] b = refl
can_be_blank-append m ok (x ∷ a) b = can_be_blank-append (next m x) (blank_next m ok x) a b

mutual
  block_flag : (bs : List ℕ) → LacksEnd bs → can_be_blank Block true (bs ++ 42 ∷ 47 ∷ []) ≡ true
  block_flag [] h = refl
  block_flag (b ∷ bs) h =
      let tail = LacksEnd-tail b bs h in
      elim (block_next b) [ inl p ↦ ap (λ m. can_be_blank m true (bs ++ 42 ∷ 47 ∷ [])) p.1 ∙ star_flag bs b p.0 h | inr p ↦ ap (λ m. can_be_blank m true (bs ++ 42 ∷ 47 ∷ [])) p.1 ∙ block_flag bs tail ]

  star_flag : (bs : List ℕ) (b : ℕ) → b ≡ 42 → LacksEnd (b ∷ bs) → can_be_blank Star true (bs ++ 42 ∷ 47 ∷ []) ≡ true
  star_flag [] b is h = refl
  star_flag (c ∷ bs) b is h =
      elim (star_next c (h.0 is)) [ inl p ↦ ap (λ m. can_be_blank m true (bs ++ 42 ∷ 47 ∷ [])) p.1 ∙ star_flag bs c p.0 h.1 | inr p ↦ ap (λ m. can_be_blank m true (bs ++ 42 ∷ 47 ∷ [])) p.1 ∙ block_flag bs (LacksEnd-tail c bs h.1) ]

line_flag : (bs : List ℕ) → Lacks 10 bs → can_be_blank Line true bs ≡ true
line_flag [] h = refl
line_flag (b ∷ bs) h = rw (ne_eqb b 10 h.0) (line_flag bs h.1)

line_run : (bs : List ℕ) → Lacks 10 bs → run Line bs ≡ Line
line_run [] h = refl
line_run (b ∷ bs) h = rw (ne_eqb b 10 h.0) (line_run bs h.1)

line_end : (bs : List ℕ) → Lacks 10 bs → can_be_blank Line true (bs ++ 10 ∷ []) ≡ true
line_end bs h = can_be_blank-append Line true bs (10 ∷ []) ∙ ap (λ m. can_be_blank m (can_be_blank Line true bs) (10 ∷ [])) (line_run bs h) ∙ line_flag bs h

space_flag : (b : ℕ) → is_space b ≡ true → blank_next Between true b ≡ true
space_flag b h = ap (λ x. x || eqb b 47) h

-- blank parts end between parts, and can still be blank
parts_run : (ps : List Part) → AreParts ps → AllBlank ps → (run Between (bytes_of ps) ≡ Between) × (can_be_blank Between true (bytes_of ps) ≡ true)
parts_run [] are blank = (refl, refl)
parts_run (plain b ∷ ps) are blank =
    let h = parts_run ps are.2 blank.1 in (
      run-append Between (bytes_of ps) (b ∷ []) ∙ ap (λ m. run m (b ∷ [])) h.0 ∙ space_next b blank.0,
      can_be_blank-append Between true (bytes_of ps) (b ∷ []) ∙ ap (λ m. can_be_blank m (can_be_blank Between true (bytes_of ps)) (b ∷ [])) h.0 ∙ ap (λ x. can_be_blank Between x (b ∷ [])) h.1 ∙ space_flag b blank.0,
    )
parts_run (text bs ∷ ps) are blank = absurd blank
parts_run (block bs ∷ ps) are blank =
    let h = parts_run ps are.2 blank in
    let xs : List ℕ = bytes_of_part (block bs) in (
      run-append Between (bytes_of ps) xs ∙ ap (λ m. run m xs) h.0 ∙ block_ends bs are.0,
      can_be_blank-append Between true (bytes_of ps) xs ∙ ap (λ m. can_be_blank m (can_be_blank Between true (bytes_of ps)) xs) h.0 ∙ ap (λ x. can_be_blank Between x xs) h.1 ∙ block_flag bs are.0,
    )
parts_run (line bs ∷ ps) are blank =
    let h = parts_run ps are.2 blank in
    let xs : List ℕ = bytes_of_part (line bs) in (
      run-append Between (bytes_of ps) xs ∙ ap (λ m. run m xs) h.0 ∙ line_done bs are.0,
      can_be_blank-append Between true (bytes_of ps) xs ∙ ap (λ m. can_be_blank m (can_be_blank Between true (bytes_of ps)) xs) h.0 ∙ ap (λ x. can_be_blank Between x xs) h.1 ∙ line_end bs are.0,
    )

abbrev blank_answer : List ℕ → Bool
blank_answer bytes = can_be_blank Between true bytes && is_resting (run Between bytes)

answer-part : (bytes : List ℕ) (m : Mode) → run Between bytes ≡ m → can_be_blank Between true bytes ≡ true → is_resting m ≡ true → blank_answer bytes ≡ true
answer-part bytes m r f i = rw (r, f) i

blank-answer : (bytes : List ℕ) → IsBlank bytes → blank_answer bytes ≡ true
blank-answer bytes (ps, are, blank, is) = elim is [ inl e ↦ rw e (whole ps are blank) | inr u ↦ rw u.2 (unfinished ps are blank u.0 u.1) ]
  where
    whole : (ps : List Part) → AreParts ps → AllBlank ps → blank_answer (bytes_of ps) ≡ true
    whole ps are blank = let h = parts_run ps are blank in answer-part (bytes_of ps) Between h.0 h.1 refl

    unfinished : (ps : List Part) → AreParts ps → AllBlank ps → (bs : List ℕ) → Lacks 10 bs → blank_answer (bytes_of ps ++ (47 ∷ 47 ∷ bs)) ≡ true
    unfinished ps are blank bs lacks =
        let h = parts_run ps are blank in
        let xs : List ℕ = 47 ∷ 47 ∷ bs in
        answer-part (bytes_of ps ++ xs) Line
        (run-append Between (bytes_of ps) xs ∙ ap (λ m. run m xs) h.0 ∙ line_run bs lacks)
        (can_be_blank-append Between true (bytes_of ps) xs ∙ ap (λ m. can_be_blank m (can_be_blank Between true (bytes_of ps)) xs) h.0 ∙ ap (λ x. can_be_blank Between x xs) h.1 ∙ line_flag bs lacks)
        refl

pub answers : (bytes : List ℕ) → (blank_answer bytes ≡ true) ↔ IsBlank bytes
answers bytes = (λ e. held-blank (run Between bytes) bytes (held_run Between true [] bytes (λ g. ([], tt, tt, refl)) (and_left (can_be_blank Between true bytes) (is_resting (run Between bytes)) e)) (and_right (can_be_blank Between true bytes) (is_resting (run Between bytes)) e), blank-answer bytes)

-- the same of a mode and a can_be_blank
pub resting-answers : (bytes : List ℕ) (m : Mode) (ok r : Bool) → m ≡ run Between bytes → ok ≡ can_be_blank Between true bytes → r ≡ (ok && is_resting m) → (r ≡ true) ↔ IsBlank bytes
resting-answers bytes m ok r a b h =
    let e : r ≡ blank_answer bytes = h ∙ ap (λ x. x && is_resting m) b ∙ ap (λ x. can_be_blank Between true bytes && is_resting x) a in
    (λ g. (answers bytes).0 (sym e ∙ g), λ w. e ∙ (answers bytes).1 w)

-- bytes that can still be blank and end between parts are white space and whole comments
pub blank-parts : (bytes : List ℕ) → can_be_blank Between true bytes ≡ true → run Between bytes ≡ Between
    → (ps : List Part) × AreParts ps × AllBlank ps × (bytes ≡ bytes_of ps)
blank-parts bytes blank ends = subst (λ m. Held m bytes) ends (held_run Between true [] bytes (λ g. ([], tt, tt, refl)) blank)

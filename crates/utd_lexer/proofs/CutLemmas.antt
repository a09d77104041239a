-- The bytes are whole parts exactly where the run over them ends outside texts and comments.
use Rattle.std.proofs.Common.{◌≡◌, ◌≢◌, ℕ, List, [], ◌∷◌, ◌++◌, Bool, true, false, cond, eqb, refl, sym, ◌∙◌, ap, subst, arith, append_assoc, append-nil, ◌⊎◌, inl, inr}
use Rattle.std.proofs.lemmas.Bool.{ne_eqb}
use Rattle.std.proofs.lemmas.Bool.Decides.{eqb_tells}
use Rattle.utd_lexer.specs.declared.cutter.Mode.{Mode}
use Rattle.utd_lexer.specs.declared.cutter.Mode.TheVariants.{Between, Slash, Text, Block, Star, Line}
use Rattle.utd_lexer.specs.Cutting.{is_outside, next, run}
use Rattle.utd_lexer.specs.Parts.{Part, plain, text, block, line, bytes_of_part, Lacks, LacksEnd, IsPart, IsApart, AreParts, bytes_of, IsWhole}

pub run-append : (m : Mode) (a b : List ℕ) → run m (a ++ b) ≡ run (run m a) b
run-append m [] b = refl
run-append m (x ∷ a) b = run-append (next m x) a b

text_stays : (bs : List ℕ) → Lacks 39 bs → run Text bs ≡ Text
text_stays [] h = refl
text_stays (b ∷ bs) h = rw (ne_eqb b 39 h.0) (text_stays bs h.1)

line_stays : (bs : List ℕ) → Lacks 10 bs → run Line bs ≡ Line
line_stays [] h = refl
line_stays (b ∷ bs) h = rw (ne_eqb b 10 h.0) (line_stays bs h.1)

-- how a mode goes on within a comment
pub block_next : (b : ℕ) → ((b ≡ 42) × (next Block b ≡ Star)) ⊎ ((b ≢ 42) × (next Block b ≡ Block))
block_next b = elim (eqb_tells b 42) [ inl p ↦ inl (p.1, rw p.0 refl) | inr p ↦ inr (p.1, rw p.0 refl) ]

pub star_next : (b : ℕ) → b ≢ 47 → ((b ≡ 42) × (next Star b ≡ Star)) ⊎ ((b ≢ 42) × (next Star b ≡ Block))
star_next b h = elim (eqb_tells b 42) [ inl p ↦ inl (p.1, rw (ne_eqb b 47 h, p.0) refl) | inr p ↦ inr (p.1, rw (ne_eqb b 47 h, p.0) refl) ]

pub LacksEnd-tail : (b : ℕ) (bs : List ℕ) → LacksEnd (b ∷ bs) → LacksEnd bs
LacksEnd-tail b [] h = tt
LacksEnd-tail b (c ∷ bs) h = h.1

mutual
  pub block_ends : (bs : List ℕ) → LacksEnd bs → run Block (bs ++ 42 ∷ 47 ∷ []) ≡ Between
  block_ends [] h = refl
  block_ends (b ∷ bs) h =
      let tail = LacksEnd-tail b bs h in
      elim (block_next b) [ inl p ↦ ap (λ m. run m (bs ++ 42 ∷ 47 ∷ [])) p.1 ∙ star_ends bs b p.0 h | inr p ↦ ap (λ m. run m (bs ++ 42 ∷ 47 ∷ [])) p.1 ∙ block_ends bs tail ]

  pub star_ends : (bs : List ℕ) (b : ℕ) → b ≡ 42 → LacksEnd (b ∷ bs) → run Star (bs ++ 42 ∷ 47 ∷ []) ≡ Between
  star_ends [] b is h = refl
  star_ends (c ∷ bs) b is h =
      elim (star_next c (h.0 is)) [ inl p ↦ ap (λ m. run m (bs ++ 42 ∷ 47 ∷ [])) p.1 ∙ star_ends bs c p.0 h.1 | inr p ↦ ap (λ m. run m (bs ++ 42 ∷ 47 ∷ [])) p.1 ∙ block_ends bs (LacksEnd-tail c bs h.1) ]

-- where the bytes of whole parts end
abbrev end_mode : List Part → Mode
end_mode [] = Between
end_mode (plain b ∷ earlier) = cond (eqb b 47) Slash Between
end_mode (text bs ∷ earlier) = Between
end_mode (block bs ∷ earlier) = Between
end_mode (line bs ∷ earlier) = Between

-- one byte outside texts and comments
plain_next : (s b : ℕ) → b ≢ 39 → (s ≡ 47 → (b ≢ 47) × (b ≢ 42)) → next (cond (eqb s 47) Slash Between) b ≡ cond (eqb b 47) Slash Between
plain_next s b h apart = elim (eqb_tells s 47) [
  | inl p ↦ rw (p.0, ne_eqb b 42 (apart p.1).1, ne_eqb b 47 (apart p.1).0, ne_eqb b 39 h) refl
  | inr p ↦ rw (p.0, ne_eqb b 39 h) refl
]

text_next : (s : ℕ) → next (cond (eqb s 47) Slash Between) 39 ≡ Text
text_next s = elim (eqb_tells s 47) [ inl p ↦ rw p.0 refl | inr p ↦ rw p.0 refl ]

outside : (s : ℕ) → s ≢ 47 → cond (eqb s 47) Slash Between ≡ Between
outside s h = rw (ne_eqb s 47 h) refl

text_done : (bs : List ℕ) → Lacks 39 bs → run Text (bs ++ 39 ∷ []) ≡ Between
text_done bs h = run-append Text bs (39 ∷ []) ∙ ap (λ m. run m (39 ∷ [])) (text_stays bs h)

pub line_done : (bs : List ℕ) → Lacks 10 bs → run Line (bs ++ 10 ∷ []) ≡ Between
line_done bs h = run-append Line bs (10 ∷ []) ∙ ap (λ m. run m (10 ∷ [])) (line_stays bs h)

part_mode : (p : Part) (earlier : List Part) → IsPart p → IsApart p earlier → run (end_mode earlier) (bytes_of_part p) ≡ end_mode (p ∷ earlier)
part_mode (plain b) (plain s ∷ e) h a = plain_next s b h a
part_mode (plain b) [] h a = rw (ne_eqb b 39 h) refl
part_mode (plain b) (text bs ∷ e) h a = rw (ne_eqb b 39 h) refl
part_mode (plain b) (block bs ∷ e) h a = rw (ne_eqb b 39 h) refl
part_mode (plain b) (line bs ∷ e) h a = rw (ne_eqb b 39 h) refl
part_mode (text bs) (plain s ∷ e) h a = ap (λ m. run m (bs ++ 39 ∷ [])) (text_next s) ∙ text_done bs h
part_mode (text bs) [] h a = text_done bs h
part_mode (text bs) (text cs ∷ e) h a = text_done bs h
part_mode (text bs) (block cs ∷ e) h a = text_done bs h
part_mode (text bs) (line cs ∷ e) h a = text_done bs h
part_mode (block bs) (plain s ∷ e) h a = ap (λ m. run m (47 ∷ 42 ∷ (bs ++ 42 ∷ 47 ∷ []))) (outside s a) ∙ block_ends bs h
part_mode (block bs) [] h a = block_ends bs h
part_mode (block bs) (text cs ∷ e) h a = block_ends bs h
part_mode (block bs) (block cs ∷ e) h a = block_ends bs h
part_mode (block bs) (line cs ∷ e) h a = block_ends bs h
part_mode (line bs) (plain s ∷ e) h a = ap (λ m. run m (47 ∷ 47 ∷ (bs ++ 10 ∷ []))) (outside s a) ∙ line_done bs h
part_mode (line bs) [] h a = line_done bs h
part_mode (line bs) (text cs ∷ e) h a = line_done bs h
part_mode (line bs) (block cs ∷ e) h a = line_done bs h
part_mode (line bs) (line cs ∷ e) h a = line_done bs h

pub whole_mode : (ps : List Part) → AreParts ps → run Between (bytes_of ps) ≡ end_mode ps
whole_mode [] h = refl
whole_mode (p ∷ e) h = run-append Between (bytes_of e) (bytes_of_part p) ∙ ap (λ m. run m (bytes_of_part p)) (whole_mode e h.2) ∙ part_mode p e h.0 h.1

-- the cutter's answer, given one direction: whole parts end outside
pub whole_outside : (bytes : List ℕ) → IsWhole bytes → (run Between bytes ≡ Between) ⊎ (run Between bytes ≡ Slash)
whole_outside bytes w = rw w.2 (rw (whole_mode w.0 w.1) (ends_outside w.0))
  where
    cases : (b : Bool) → (cond b Slash Between ≡ Between) ⊎ (cond b Slash Between ≡ Slash)
    cases true = inr refl
    cases false = inl refl

    ends_outside : (ps : List Part) → (end_mode ps ≡ Between) ⊎ (end_mode ps ≡ Slash)
    ends_outside [] = inl refl
    ends_outside (plain b ∷ e) = cases (eqb b 47)
    ends_outside (text bs ∷ e) = inl refl
    ends_outside (block bs ∷ e) = inl refl
    ends_outside (line bs ∷ e) = inl refl

-- The other way: what the bytes are in each mode.
abbrev pub NotSlash : List Part → Type 0
NotSlash (plain s ∷ e) = s ≢ 47
NotSlash _ = Unit {0}

abbrev At : Mode → List ℕ → Type 0
At Between bytes = (ps : List Part) × AreParts ps × NotSlash ps × (bytes ≡ bytes_of ps)
At Slash bytes = (ps : List Part) × AreParts ps × NotSlash ps × (bytes ≡ bytes_of ps ++ 47 ∷ [])
At Text bytes = (ps : List Part) × (bs : List ℕ) × AreParts ps × Lacks 39 bs × (bytes ≡ bytes_of ps ++ (39 ∷ bs))
At Block bytes = (ps : List Part) × (bs : List ℕ) × AreParts ps × NotSlash ps × ((b : ℕ) → LacksEnd (bs ++ b ∷ [])) × (bytes ≡ bytes_of ps ++ (47 ∷ 42 ∷ bs))
At Star bytes = (ps : List Part) × (bs : List ℕ) × AreParts ps × NotSlash ps × LacksEnd (bs ++ 42 ∷ []) × (bytes ≡ bytes_of ps ++ (47 ∷ 42 ∷ (bs ++ 42 ∷ [])))
At Line bytes = (ps : List Part) × (bs : List ℕ) × AreParts ps × NotSlash ps × Lacks 10 bs × (bytes ≡ bytes_of ps ++ (47 ∷ 47 ∷ bs))

pub grow : (bytes prefix xs : List ℕ) (b : ℕ) → bytes ≡ prefix ++ xs → bytes ++ b ∷ [] ≡ prefix ++ (xs ++ b ∷ [])
grow bytes prefix xs b e = ap (λ z. z ++ b ∷ []) e ∙ append_assoc prefix xs (b ∷ [])

pub apart-plain : (b : ℕ) (ps : List Part) → NotSlash ps → IsApart (plain b) ps
apart-plain b [] h = tt
apart-plain b (plain s ∷ e) h = λ is. absurd (h is)
apart-plain b (text bs ∷ e) h = tt
apart-plain b (block bs ∷ e) h = tt
apart-plain b (line bs ∷ e) h = tt

pub apart-block : (cs : List ℕ) (ps : List Part) → NotSlash ps → IsApart (block cs) ps
apart-block cs [] h = tt
apart-block cs (plain s ∷ e) h = h
apart-block cs (text bs ∷ e) h = tt
apart-block cs (block bs ∷ e) h = tt
apart-block cs (line bs ∷ e) h = tt

pub apart-line : (cs : List ℕ) (ps : List Part) → NotSlash ps → IsApart (line cs) ps
apart-line cs [] h = tt
apart-line cs (plain s ∷ e) h = h
apart-line cs (text bs ∷ e) h = tt
apart-line cs (block bs ∷ e) h = tt
apart-line cs (line bs ∷ e) h = tt

pub Lacks-snoc : (x : ℕ) (bs : List ℕ) (b : ℕ) → Lacks x bs → b ≢ x → Lacks x (bs ++ b ∷ [])
Lacks-snoc x [] b h n = (n, tt)
Lacks-snoc x (c ∷ bs) b h n = (h.0, Lacks-snoc x bs b h.1 n)

pub LacksEnd-snoc : (bs : List ℕ) (b c : ℕ) → LacksEnd (bs ++ b ∷ []) → (b ≡ 42 → c ≢ 47) → LacksEnd ((bs ++ b ∷ []) ++ c ∷ [])
LacksEnd-snoc [] b c h n = (n, tt)
LacksEnd-snoc (x ∷ []) b c h n = (h.0, (n, tt))
LacksEnd-snoc (x ∷ (y ∷ bs)) b c h n = (h.0, LacksEnd-snoc (y ∷ bs) b c h.1 n)

pub LacksEnd-init : (bs : List ℕ) (b : ℕ) → LacksEnd (bs ++ b ∷ []) → LacksEnd bs
LacksEnd-init [] b h = tt
LacksEnd-init (x ∷ []) b h = tt
LacksEnd-init (x ∷ (y ∷ bs)) b h = (h.0, LacksEnd-init (y ∷ bs) b h.1)

differ : (b x y : ℕ) → b ≡ x → x ≢ y → b ≢ y
differ b x y e n g = n (sym e ∙ g)

at_next : (m : Mode) (b : ℕ) (bytes : List ℕ) → At m bytes → At (next m b) (bytes ++ b ∷ [])
at_next Between b bytes (ps, are, apart, is) = elim (eqb_tells b 39) [
  | inl p ↦ rw p.0 (ps, [], are, tt, rw p.1 (ap (λ z. z ++ 39 ∷ []) is))
  | inr p ↦ rw p.0 (elim (eqb_tells b 47) [
    | inl q ↦ rw q.0 (ps, are, apart, rw q.1 (ap (λ z. z ++ 47 ∷ []) is))
    | inr q ↦ rw q.0 (plain b ∷ ps, (p.1, apart-plain b ps apart, are), q.1, ap (λ z. z ++ b ∷ []) is)
  ])
]
at_next Slash b bytes (ps, are, apart, is) = elim (eqb_tells b 42) [
  | inl p ↦ rw p.0 (ps, [], are, apart, λ c. tt, rw p.1 (grow bytes (bytes_of ps) (47 ∷ []) 42 is))
  | inr p ↦ rw p.0 (elim (eqb_tells b 47) [
    | inl q ↦ rw q.0 (ps, [], are, apart, tt, rw q.1 (grow bytes (bytes_of ps) (47 ∷ []) 47 is))
    | inr q ↦ rw q.0 (elim (eqb_tells b 39) [
      | inl r ↦ rw r.0 (plain 47 ∷ ps, [], (slash, apart-plain 47 ps apart, are), tt, rw r.1 (ap (λ z. z ++ 39 ∷ []) is))
      | inr r ↦ rw r.0 (plain b ∷ plain 47 ∷ ps, (r.1, λ e. (q.1, p.1), (slash, apart-plain 47 ps apart, are)), q.1, ap (λ z. z ++ b ∷ []) is)
    ])
  ])
]
  where
    slash : ◌≢◌ {A = ℕ} 47 39
    slash = λ e. omega arith
at_next Text b bytes (ps, bs, are, lacks, is) = elim (eqb_tells b 39) [
  | inl p ↦ rw p.0 (text bs ∷ ps, (lacks, tt, are), tt, rw p.1 (grow bytes (bytes_of ps) (39 ∷ bs) 39 is))
  | inr p ↦ rw p.0 (ps, bs ++ b ∷ [], are, Lacks-snoc 39 bs b lacks p.1, grow bytes (bytes_of ps) (39 ∷ bs) b is)
]
at_next Block b bytes (ps, bs, are, apart, lacks, is) = elim (eqb_tells b 42) [
  | inl p ↦ rw p.0 (ps, bs, are, apart, lacks 42, rw p.1 (grow bytes (bytes_of ps) (47 ∷ 42 ∷ bs) 42 is))
  | inr p ↦ rw p.0 (ps, bs ++ b ∷ [], are, apart, λ c. LacksEnd-snoc bs b c (lacks b) (λ e. absurd (p.1 e)), grow bytes (bytes_of ps) (47 ∷ 42 ∷ bs) b is)
]
at_next Star b bytes (ps, bs, are, apart, lacks, is) = elim (eqb_tells b 47) [
  | inl p ↦ rw p.0 (block bs ∷ ps, (LacksEnd-init bs 42 lacks, apart-block bs ps apart, are), tt, rw p.1 (grow bytes (bytes_of ps) (47 ∷ 42 ∷ (bs ++ 42 ∷ [])) 47 is ∙ ap (λ z. bytes_of ps ++ (47 ∷ 42 ∷ z)) (append_assoc bs (42 ∷ []) (47 ∷ []))))
  | inr p ↦ rw p.0 (elim (eqb_tells b 42) [
    | inl q ↦ rw q.0 (ps, bs ++ 42 ∷ [], are, apart, LacksEnd-snoc bs 42 42 lacks (λ e. star), rw q.1 (grow bytes (bytes_of ps) (47 ∷ 42 ∷ (bs ++ 42 ∷ [])) 42 is))
    | inr q ↦ rw q.0 (ps, (bs ++ 42 ∷ []) ++ b ∷ [], are, apart, λ c. LacksEnd-snoc (bs ++ 42 ∷ []) b c (LacksEnd-snoc bs 42 b lacks (λ e. p.1)) (λ e. absurd (q.1 e)), grow bytes (bytes_of ps) (47 ∷ 42 ∷ (bs ++ 42 ∷ [])) b is)
  ])
]
  where
    star : ◌≢◌ {A = ℕ} 42 47
    star = λ e. omega arith
at_next Line b bytes (ps, bs, are, apart, lacks, is) = elim (eqb_tells b 10) [
  | inl p ↦ rw p.0 (line bs ∷ ps, (lacks, apart-line bs ps apart, are), tt, rw p.1 (grow bytes (bytes_of ps) (47 ∷ 47 ∷ bs) 10 is))
  | inr p ↦ rw p.0 (ps, bs ++ b ∷ [], are, apart, Lacks-snoc 10 bs b lacks p.1, grow bytes (bytes_of ps) (47 ∷ 47 ∷ bs) b is)
]

at_run : (m : Mode) (before bytes : List ℕ) → At m before → At (run m bytes) (before ++ bytes)
at_run m before [] h = rw append-nil h
at_run m before (b ∷ bytes) h = subst (At (run (next m b) bytes)) (append_assoc before (b ∷ []) bytes) (at_run (next m b) (before ++ b ∷ []) bytes (at_next m b before h))

whole_at : (m : Mode) (bytes : List ℕ) → At m bytes → (m ≡ Between) ⊎ (m ≡ Slash) → IsWhole bytes
whole_at Between bytes (ps, are, apart, is) h = (ps, are, is)
whole_at Slash bytes (ps, are, apart, is) h = (plain 47 ∷ ps, (slash, apart-plain 47 ps apart, are), is)
  where
    slash : ◌≢◌ {A = ℕ} 47 39
    slash = λ e. omega arith
whole_at Text bytes at h = elim h [ inl e ↦ cc | inr e ↦ cc ]
whole_at Block bytes at h = elim h [ inl e ↦ cc | inr e ↦ cc ]
whole_at Star bytes at h = elim h [ inl e ↦ cc | inr e ↦ cc ]
whole_at Line bytes at h = elim h [ inl e ↦ cc | inr e ↦ cc ]

-- the bytes are whole parts exactly where they end outside
pub outside_whole : (bytes : List ℕ) → (run Between bytes ≡ Between) ⊎ (run Between bytes ≡ Slash) → IsWhole bytes
outside_whole bytes h = whole_at (run Between bytes) bytes (at_run Between [] bytes ([], tt, tt, refl)) h

-- the test of the mode, both ways
outside-cases : (m : Mode) → is_outside m ≡ true → (m ≡ Between) ⊎ (m ≡ Slash)
outside-cases Between h = inl refl
outside-cases Slash h = inr refl
outside-cases _ h = cc

pub whole-of : (bytes : List ℕ) (m : Mode) → m ≡ run Between bytes → is_outside m ≡ true → IsWhole bytes
whole-of bytes m e h = outside_whole bytes (outside-cases (run Between bytes) (ap is_outside (sym e) ∙ h))

pub outside-of : (bytes : List ℕ) (m : Mode) → m ≡ run Between bytes → IsWhole bytes → is_outside m ≡ true
outside-of bytes m e w = ap is_outside e ∙ elim (whole_outside bytes w) [ inl p ↦ ap is_outside p | inr p ↦ ap is_outside p ]

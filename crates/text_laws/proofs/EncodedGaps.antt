-- The bytes of a gap's characters are white space or a whole comment.
--     encoded-gap      of each gap but a comment that the end of the text ends
use Rattle.std.proofs.Common.{◌≡◌, ◌≢◌, ℕ, zero, suc, ◌<◌, ◌≤◌, List, [], ◌∷◌, ◌++◌, length, get_or, true, ◌&&◌, refl, sym, ◌∙◌, ap, arith, lit<, append-nil, inl, encode_utf8, encode_utf8_all}
use Rattle.std.proofs.lemmas.Bool.{ne_eqb, false≢true}
use Rattle.std.proofs.lemmas.Str.{encode_ascii, encodes-append, inside_one, length-encode, len_utf8_bounds}
use Rattle.std.proofs.lemmas.Bool.Decides.{nat_tests}
use Rattle.utd_lexer.specs.declared.cutter.Mode.TheVariants.{Between}
use Rattle.utd_lexer.specs.Parts.{plain, block, line, is_space, IsBlank, Lacks, LacksEnd}
use Rattle.utd_lexer.specs.Cutting.{can_be_blank, is_between, is_resting, run}
use Rattle.utd_lexer.specs.Gaps.{is_gap}
use Rattle.utd_lexer.specs.Tokens as tokens
use Rattle.utd_lexer.specs.Tokens.{Gap, spelling_of_gap, IsGap}
use Rattle.utd_lexer.proofs.BlankLemmas.{answers}
use Rattle.utd_lexer.proofs.CutLemmas.{LacksEnd-tail, block_ends, line_done}
use Rattle.base_core.proofs.BoolLemmas.{and_left}

-- ---- the bytes of one character

-- a byte of ASCII among these is the character
abbrev pub Own : ℕ → List ℕ → Type 0
Own c [] = Unit {0}
Own c (b ∷ bs) = (b < 128 → c ≡ b) × Own c bs

own-each : (c : ℕ) (bs : List ℕ) → ((k : ℕ) → k < length bs → get_or bs k 0 < 128 → c ≡ get_or bs k 0) → Own c bs
own-each c [] h = tt
own-each c (b ∷ bs) h = (λ lt. h zero (omega arith) lt, own-each c bs (λ k lt. h (suc k) (omega (arith, lt))))

pub own-encode : (c : ℕ) → Own c (encode_utf8 c)
own-encode c = own-each c (encode_utf8 c) (λ k lt. inside_one c [] (encode_utf8 c) k (sym (append-nil (encode_utf8 c))) lt)

pub some-byte : (c : ℕ) → 0 < length (encode_utf8 c)
some-byte c = let n = len_utf8_bounds c in omega (arith, n.0, length-encode c)

-- ---- what the bytes of characters lack

lacks-own : (x c : ℕ) (bs rest : List ℕ) → x < 128 → c ≢ x → Own c bs → Lacks x rest → Lacks x (bs ++ rest)
lacks-own x c [] rest small other own h = h
lacks-own x c (b ∷ bs) rest small other own h =
    (λ e. other (own.0 (omega (arith, e, small)) ∙ e), lacks-own x c bs rest small other own.1 h)

pub lacks-encoded : (x : ℕ) (cs : List ℕ) → x < 128 → Lacks x cs → Lacks x (encode_utf8_all cs)
lacks-encoded x [] small h = tt
lacks-encoded x (c ∷ cs) small h = lacks-own x c (encode_utf8 c) (encode_utf8_all cs) small h.0 (own-encode c) (lacks-encoded x cs small h.1)

-- the first of these is no `/`
abbrev NoSlashFirst : List ℕ → Type 0
NoSlashFirst [] = Unit {0}
NoSlashFirst (b ∷ bs) = b ≢ 47

first-own : (c : ℕ) (bs rest : List ℕ) → 0 < length bs → c ≢ 47 → Own c bs → NoSlashFirst (bs ++ rest)
first-own c [] rest some other own = absurd (omega (arith, some))
first-own c (b ∷ bs) rest some other own = λ e. other (own.0 (omega (arith, e)) ∙ e)

slash-encoded : (c : ℕ) (cs : List ℕ) → LacksEnd (c ∷ cs) → c ≡ 42 → NoSlashFirst (encode_utf8_all cs)
slash-encoded c [] h e = tt
slash-encoded c (d ∷ cs) h e = first-own d (encode_utf8 d) (encode_utf8_all cs) (some-byte d) (h.0 e) (own-encode d)

end-own : (c : ℕ) (bs rest : List ℕ) → Own c bs → (c ≡ 42 → NoSlashFirst rest) → LacksEnd rest → LacksEnd (bs ++ rest)
end-own c [] rest own first h = h
end-own c (b ∷ []) [] own first h = tt
end-own c (b ∷ []) (d ∷ rest) own first h = (λ e. first (own.0 (omega (arith, e)) ∙ e), h)
end-own c (b ∷ (d ∷ bs)) rest own first h = (
  λ e f.
      let star : c ≡ 42 = own.0 (omega (arith, e)) ∙ e in
      let slash : c ≡ 47 = own.1.0 (omega (arith, f)) ∙ f in
      omega (arith, star, slash),
  end-own c (d ∷ bs) rest own.1 first h,
)

pub end-encoded : (cs : List ℕ) → LacksEnd cs → LacksEnd (encode_utf8_all cs)
end-encoded [] h = tt
end-encoded (c ∷ cs) h =
    end-own c (encode_utf8 c) (encode_utf8_all cs) (own-encode c) (slash-encoded c cs h) (end-encoded cs (LacksEnd-tail c cs h))

-- ---- gaps

ascii-first : (c : ℕ) (cs : List ℕ) → c < 128 → encode_utf8_all (c ∷ cs) ≡ c ∷ encode_utf8_all cs
ascii-first c cs small = ap (λ z. z ++ encode_utf8_all cs) (encode_ascii c small)

gap-is : (bytes : List ℕ) → IsBlank bytes → run Between bytes ≡ Between → is_gap bytes ≡ true
gap-is bytes blank ends =
    let flag : can_be_blank Between true bytes ≡ true =
    and_left (can_be_blank Between true bytes) (is_resting (run Between bytes)) ((answers bytes).1 blank) in
    ap (λ m. can_be_blank Between true bytes && is_between m) ends ∙ ap (λ b. b && true) flag

blank-gap : (c : ℕ) → is_space c ≡ true → is_gap (c ∷ []) ≡ true
blank-gap c h =
    let quote : c ≢ 39 = λ e. false≢true (sym (ap is_space e) ∙ h) in
    let slash : c ≢ 47 = λ e. false≢true (sym (ap is_space e) ∙ h) in
    let ends : run Between (c ∷ []) ≡ Between = rw (ne_eqb c 39 quote, ne_eqb c 47 slash) refl in
    gap-is (c ∷ []) (plain c ∷ [], (quote, tt, tt), (h, tt), inl refl) ends

block-gap : (bs : List ℕ) → LacksEnd bs → is_gap (47 ∷ (42 ∷ (bs ++ 42 ∷ (47 ∷ [])))) ≡ true
block-gap bs h = gap-is _ (block bs ∷ [], (h, tt, tt), tt, inl refl) (block_ends bs h)

line-gap : (bs : List ℕ) → Lacks 10 bs → is_gap (47 ∷ (47 ∷ (bs ++ 10 ∷ []))) ≡ true
line-gap bs h = gap-is _ (line bs ∷ [], (h, tt, tt), tt, inl refl) (line_done bs h)

-- white space is at most the space
pub blank-small : (c : ℕ) → is_space c ≡ true → c ≤ 32
blank-small c h = grind (arith, nat_tests)

tail-encoded : (cs ds es : List ℕ) → encode_utf8_all ds ≡ es → encode_utf8_all (cs ++ ds) ≡ encode_utf8_all cs ++ es
tail-encoded cs ds es e = encodes-append cs ds ∙ ap (λ z. encode_utf8_all cs ++ z) e

ascii-pair : (c d : ℕ) (cs bytes : List ℕ) → c < 128 → d < 128 → encode_utf8_all cs ≡ bytes → encode_utf8_all (c ∷ (d ∷ cs)) ≡ c ∷ (d ∷ bytes)
ascii-pair c d cs bytes small low e = ascii-first c (d ∷ cs) small ∙ ap (λ z. c ∷ z) (ascii-first d cs low) ∙ ap (λ z. c ∷ (d ∷ z)) e

-- the comment does not end with the text
abbrev pub IsClosed : Gap → Type 0
IsClosed (tokens.last cs) = ⊥
IsClosed _ = Unit {0}

pub encoded-gap : (g : Gap) (rest : List ℕ) → IsGap g rest → IsClosed g → is_gap (encode_utf8_all (spelling_of_gap g)) ≡ true
encoded-gap (tokens.blank c) rest h closed = ap is_gap (ascii-first c [] (omega (arith, blank-small c h))) ∙ blank-gap c h
encoded-gap (tokens.block cs) rest h closed =
    let ends : encode_utf8_all (42 ∷ (47 ∷ [])) ≡ 42 ∷ (47 ∷ []) = ascii-pair 42 47 [] [] (lit< tt) (lit< tt) refl in
    ap is_gap (ascii-pair 47 42 (cs ++ 42 ∷ (47 ∷ [])) _ (lit< tt) (lit< tt) (tail-encoded cs (42 ∷ (47 ∷ [])) _ ends))
    ∙ block-gap (encode_utf8_all cs) (end-encoded cs h)
encoded-gap (tokens.line cs) rest h closed =
    let ends : encode_utf8_all (10 ∷ []) ≡ 10 ∷ [] = ascii-first 10 [] (lit< tt) in
    ap is_gap (ascii-pair 47 47 (cs ++ 10 ∷ []) _ (lit< tt) (lit< tt) (tail-encoded cs (10 ∷ []) _ ends))
    ∙ line-gap (encode_utf8_all cs) (lacks-encoded 10 cs (lit< tt) h)
encoded-gap (tokens.last cs) rest h closed = absurd closed

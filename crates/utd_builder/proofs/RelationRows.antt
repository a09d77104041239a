-- Written by tools/grammar; change it there.
-- What relational expressions say of the next token, where a statement goes on.
use Rattle.std.proofs.Common.{◌≡◌, ℕ, List, [], ◌∷◌, true, false, Option, Some, None, refl, sym, ◌∙◌, ap}
use Rattle.utd_syntax.specs.declared.terminal.Terminal.{Terminal}
use Rattle.utd_syntax.specs.declared.terminal.Terminal.TheVariants as t
use Rattle.point_core.specs.declared.fault.Place.{Place}
use Rattle.utd_syntax.specs.declared.words.InfixWord.{InfixWord}
use Rattle.utd_syntax.specs.declared.words.InfixWord.TheVariants as infixes
use Rattle.utd_syntax.specs.declared.words.PackWord.{PackWord}
use Rattle.utd_syntax.specs.declared.words.PackWord.TheVariants as pack_words
use Rattle.utd_syntax.specs.Pieces.{Piece, first, place_of, bytes_of}
use Rattle.utd_builder.specs.Building.{behind}
use Rattle.utd_syntax.specs.Plain.{StatementP, Infix, OfOperand, OfTerms, OneRelPrimary, OneTerm, PackOn, UsingInfix}
use Rattle.utd_syntax.specs.Table.{Symbol, Just, same, TheList, TheOperand, TheRelPrimary, TheTerm, MorePostfix, TheTerms, MoreInfix, TheRel, TheUsingPart, AfterOperand}
use Rattle.utd_syntax.specs.Written.{infix_word, pack_word}
use Rattle.utd_syntax.proofs.Reader.{Go, read, read_at}
use Rattle.utd_syntax.proofs.FormEnds.{Halts, Starts_operand, Starts_terms, MorePostfix-end, MoreInfix-end}
use Rattle.utd_syntax.proofs.FirstTokens.{rel-as-terms, rel_primary-as-operand, term-as-rel_primary, terms-as-term, using_part-as-operand}
use Rattle.utd_builder.specs.Choices.{infix_word_at, is_infix, is_postfix}
use Rattle.utd_builder.proofs.Steps.{at, differs, differs-back}

yes : true ≡ false → ⊥
yes e = cc

halts-MoreInfix : (x : Terminal) → is_infix x ≡ false → Halts MoreInfix x
halts-MoreInfix t.Union e = absurd (yes e)
halts-MoreInfix t.Intersect e = absurd (yes e)
halts-MoreInfix t.Minus e = absurd (yes e)
halts-MoreInfix t.Join e = absurd (yes e)
halts-MoreInfix t.Matching e = absurd (yes e)
halts-MoreInfix t.Not e = absurd (yes e)
halts-MoreInfix _ e = refl

pub done-MoreInfix : (ts : List Piece) (stack : List Symbol) (k : Go (MoreInfix ∷ stack)) (s : StatementP) → is_infix (first ts) ≡ false → read ts (MoreInfix ∷ stack) k ≡ Some s → read ts stack (λ v. k ((λ x. x), v)) ≡ Some s
done-MoreInfix ts stack k s e h = sym (MoreInfix-end ts stack k (halts-MoreInfix (first ts) e)) ∙ h

halts-MorePostfix : (x : Terminal) → is_postfix x ≡ false → Halts MorePostfix x
halts-MorePostfix t.OpenBrace e = absurd (yes e)
halts-MorePostfix t.Where e = absurd (yes e)
halts-MorePostfix t.Rename e = absurd (yes e)
halts-MorePostfix _ e = refl

pub done-MorePostfix : (ts : List Piece) (stack : List Symbol) (k : Go (MorePostfix ∷ stack)) (s : StatementP) → is_postfix (first ts) ≡ false → read ts (MorePostfix ∷ stack) k ≡ Some s → read ts stack (λ v. k ((λ x. x), v)) ≡ Some s
done-MorePostfix ts stack k s e h = sym (MorePostfix-end ts stack k (halts-MorePostfix (first ts) e)) ∙ h

pub not-infix : (x : Terminal) → is_infix x ≡ true → infix_word_at x ≡ None → x ≡ t.Not
not-infix t.Union e f = differs-back f
not-infix t.Intersect e f = differs-back f
not-infix t.Minus e f = differs-back f
not-infix t.Join e f = differs-back f
not-infix t.Matching e f = differs-back f
not-infix t.Not e f = refl
not-infix _ e f = absurd (yes (sym e))

pub not-postfix : (x : Terminal) → is_postfix x ≡ true → (x ≡ t.OpenBrace → ⊥) → (x ≡ t.Where → ⊥) → x ≡ t.Rename
not-postfix t.OpenBrace e n0 n1 = absurd (n0 refl)
not-postfix t.Where e n0 n1 = absurd (n1 refl)
not-postfix t.Rename e n0 n1 = refl
not-postfix _ e n0 n1 = absurd (yes (sym e))

starts-rel-terms : (x n : Terminal) (p : Place) (b : List ℕ) (next : (st : List Symbol) → Go st → Option StatementP) (stack : List Symbol) (k : Go (TheRel ∷ stack)) (s : StatementP) → (x ≡ t.Using → ⊥) → read_at x n p b next (TheRel ∷ stack) k ≡ Some s → Starts_terms x
starts-rel-terms t.Using n p b next stack k s n0 h = absurd (n0 refl)
starts-rel-terms t.Extend n p b next stack k s n0 h = tt
starts-rel-terms t.Summarize n p b next stack k s n0 h = tt
starts-rel-terms t.Name n p b next stack k s n0 h = tt
starts-rel-terms t.Relation n p b next stack k s n0 h = tt
starts-rel-terms t.Open n p b next stack k s n0 h = tt
starts-rel-terms t.Pack n p b next stack k s n0 h = tt
starts-rel-terms t.Unpack n p b next stack k s n0 h = tt
starts-rel-terms _ n p b next stack k s n0 h = differs h

pub rel-to-terms : (ts : List Piece) (stack : List Symbol) (k : Go (TheRel ∷ stack)) (s : StatementP) → ((first ts) ≡ t.Using → ⊥) → read ts (TheRel ∷ stack) k ≡ Some s → read ts (TheTerms ∷ stack) (λ v. k (OfTerms v.0, v.1)) ≡ Some s
rel-to-terms [] stack k s n0 h = differs h
rel-to-terms (x ∷ ts) stack k s n0 h = sym (rel-as-terms (x ∷ ts) stack k (starts-rel-terms x.terminal (first ts) x.place x.bytes (read ts) stack k s n0 h)) ∙ h

starts-terms-term : (x n : Terminal) (p : Place) (b : List ℕ) (next : (st : List Symbol) → Go st → Option StatementP) (stack : List Symbol) (k : Go (TheTerms ∷ stack)) (s : StatementP) → read_at x n p b next (TheTerms ∷ stack) k ≡ Some s → Starts_terms x
starts-terms-term t.Extend n p b next stack k s h = tt
starts-terms-term t.Summarize n p b next stack k s h = tt
starts-terms-term t.Name n p b next stack k s h = tt
starts-terms-term t.Relation n p b next stack k s h = tt
starts-terms-term t.Open n p b next stack k s h = tt
starts-terms-term t.Pack n p b next stack k s h = tt
starts-terms-term t.Unpack n p b next stack k s h = tt
starts-terms-term _ n p b next stack k s h = differs h

pub terms-to-term : (ts : List Piece) (stack : List Symbol) (k : Go (TheTerms ∷ stack)) (s : StatementP) → read ts (TheTerms ∷ stack) k ≡ Some s → read ts (TheTerm ∷ MoreInfix ∷ stack) (λ v. k (v.1.0 (OneTerm v.0), v.1.1)) ≡ Some s
terms-to-term [] stack k s h = differs h
terms-to-term (x ∷ ts) stack k s h = sym (terms-as-term (x ∷ ts) stack k (starts-terms-term x.terminal (first ts) x.place x.bytes (read ts) stack k s h)) ∙ h

starts-term-rel_primary : (x n : Terminal) (p : Place) (b : List ℕ) (next : (st : List Symbol) → Go st → Option StatementP) (stack : List Symbol) (k : Go (TheTerm ∷ stack)) (s : StatementP) → read_at x n p b next (TheTerm ∷ stack) k ≡ Some s → Starts_terms x
starts-term-rel_primary t.Extend n p b next stack k s h = tt
starts-term-rel_primary t.Summarize n p b next stack k s h = tt
starts-term-rel_primary t.Name n p b next stack k s h = tt
starts-term-rel_primary t.Relation n p b next stack k s h = tt
starts-term-rel_primary t.Open n p b next stack k s h = tt
starts-term-rel_primary t.Pack n p b next stack k s h = tt
starts-term-rel_primary t.Unpack n p b next stack k s h = tt
starts-term-rel_primary _ n p b next stack k s h = differs h

pub term-to-rel_primary : (ts : List Piece) (stack : List Symbol) (k : Go (TheTerm ∷ stack)) (s : StatementP) → read ts (TheTerm ∷ stack) k ≡ Some s → read ts (TheRelPrimary ∷ MorePostfix ∷ stack) (λ v. k (v.1.0 (OneRelPrimary v.0), v.1.1)) ≡ Some s
term-to-rel_primary [] stack k s h = differs h
term-to-rel_primary (x ∷ ts) stack k s h = sym (term-as-rel_primary (x ∷ ts) stack k (starts-term-rel_primary x.terminal (first ts) x.place x.bytes (read ts) stack k s h)) ∙ h

starts-rel_primary-operand : (x n : Terminal) (p : Place) (b : List ℕ) (next : (st : List Symbol) → Go st → Option StatementP) (stack : List Symbol) (k : Go (TheRelPrimary ∷ stack)) (s : StatementP) → (x ≡ t.Extend → ⊥) → (x ≡ t.Summarize → ⊥) → read_at x n p b next (TheRelPrimary ∷ stack) k ≡ Some s → Starts_operand x
starts-rel_primary-operand t.Extend n p b next stack k s n0 n1 h = absurd (n0 refl)
starts-rel_primary-operand t.Summarize n p b next stack k s n0 n1 h = absurd (n1 refl)
starts-rel_primary-operand t.Name n p b next stack k s n0 n1 h = tt
starts-rel_primary-operand t.Relation n p b next stack k s n0 n1 h = tt
starts-rel_primary-operand t.Open n p b next stack k s n0 n1 h = tt
starts-rel_primary-operand t.Pack n p b next stack k s n0 n1 h = tt
starts-rel_primary-operand t.Unpack n p b next stack k s n0 n1 h = tt
starts-rel_primary-operand _ n p b next stack k s n0 n1 h = differs h

pub rel_primary-to-operand : (ts : List Piece) (stack : List Symbol) (k : Go (TheRelPrimary ∷ stack)) (s : StatementP) → ((first ts) ≡ t.Extend → ⊥) → ((first ts) ≡ t.Summarize → ⊥) → read ts (TheRelPrimary ∷ stack) k ≡ Some s → read ts (TheOperand ∷ stack) (λ v. k (OfOperand v.0, v.1)) ≡ Some s
rel_primary-to-operand [] stack k s n0 n1 h = differs h
rel_primary-to-operand (x ∷ ts) stack k s n0 n1 h = sym (rel_primary-as-operand (x ∷ ts) stack k (starts-rel_primary-operand x.terminal (first ts) x.place x.bytes (read ts) stack k s n0 n1 h)) ∙ h

starts-using_part-operand : (x n : Terminal) (p : Place) (b : List ℕ) (next : (st : List Symbol) → Go st → Option StatementP) (stack : List Symbol) (k : Go (TheUsingPart ∷ stack)) (s : StatementP) → (x ≡ t.Extend → ⊥) → (x ≡ t.Summarize → ⊥) → read_at x n p b next (TheUsingPart ∷ stack) k ≡ Some s → Starts_operand x
starts-using_part-operand t.Extend n p b next stack k s n0 n1 h = absurd (n0 refl)
starts-using_part-operand t.Summarize n p b next stack k s n0 n1 h = absurd (n1 refl)
starts-using_part-operand t.Name n p b next stack k s n0 n1 h = tt
starts-using_part-operand t.Relation n p b next stack k s n0 n1 h = tt
starts-using_part-operand t.Open n p b next stack k s n0 n1 h = tt
starts-using_part-operand t.Pack n p b next stack k s n0 n1 h = tt
starts-using_part-operand t.Unpack n p b next stack k s n0 n1 h = tt
starts-using_part-operand _ n p b next stack k s n0 n1 h = differs h

pub using_part-to-operand : (ts : List Piece) (stack : List Symbol) (k : Go (TheUsingPart ∷ stack)) (s : StatementP) → ((first ts) ≡ t.Extend → ⊥) → ((first ts) ≡ t.Summarize → ⊥) → read ts (TheUsingPart ∷ stack) k ≡ Some s → read ts (TheOperand ∷ AfterOperand ∷ stack) (λ v. k (v.1.0 v.0, v.1.1)) ≡ Some s
using_part-to-operand [] stack k s n0 n1 h = differs h
using_part-to-operand (x ∷ ts) stack k s n0 n1 h = sym (using_part-as-operand (x ∷ ts) stack k (starts-using_part-operand x.terminal (first ts) x.place x.bytes (read ts) stack k s n0 n1 h)) ∙ h

is-TheOperand : (x n : Terminal) (p : Place) (b : List ℕ) (next : (st : List Symbol) → Go st → Option StatementP) (stack : List Symbol) (k : Go (TheOperand ∷ stack)) (s : StatementP) → (x ≡ t.Open → ⊥) → (x ≡ t.Relation → ⊥) → (x ≡ t.Pack → ⊥) → (x ≡ t.Unpack → ⊥) → read_at x n p b next (TheOperand ∷ stack) k ≡ Some s → x ≡ t.Name
is-TheOperand t.Name n p b next stack k s n0 n1 n2 n3 h = refl
is-TheOperand t.Relation n p b next stack k s n0 n1 n2 n3 h = absurd (n1 refl)
is-TheOperand t.Open n p b next stack k s n0 n1 n2 n3 h = absurd (n0 refl)
is-TheOperand t.Pack n p b next stack k s n0 n1 n2 n3 h = absurd (n2 refl)
is-TheOperand t.Unpack n p b next stack k s n0 n1 n2 n3 h = absurd (n3 refl)
is-TheOperand _ n p b next stack k s n0 n1 n2 n3 h = differs h

must-TheOperand : (ts : List Piece) (stack : List Symbol) (k : Go (TheOperand ∷ stack)) (s : StatementP) → ((first ts) ≡ t.Open → ⊥) → ((first ts) ≡ t.Relation → ⊥) → ((first ts) ≡ t.Pack → ⊥) → ((first ts) ≡ t.Unpack → ⊥) → read ts (TheOperand ∷ stack) k ≡ Some s → first ts ≡ t.Name
must-TheOperand [] stack k s n0 n1 n2 n3 h = differs h
must-TheOperand (x ∷ ts) stack k s n0 n1 n2 n3 h = is-TheOperand x.terminal (first ts) x.place x.bytes (read ts) stack k s n0 n1 n2 n3 h

pub step-TheOperand : (p : Place) (b : List ℕ) (old new : List Piece) (stack : List Symbol) (k : Go (TheOperand ∷ stack)) (s : StatementP) → ((first old) ≡ t.Open → ⊥) → ((first old) ≡ t.Relation → ⊥) → ((first old) ≡ t.Pack → ⊥) → ((first old) ≡ t.Unpack → ⊥) → p ≡ place_of old → b ≡ bytes_of old → new ≡ behind old → read old (TheOperand ∷ stack) k ≡ Some s → read_at t.Name (first new) p b (read new) (TheOperand ∷ stack) k ≡ Some s
step-TheOperand p b old new stack k s n0 n1 n2 n3 hp hb hn h = at t.Name p b old new (TheOperand ∷ stack) k s (must-TheOperand old stack k s n0 n1 n2 n3 h) refl hp hb hn h

is-AfterOperand : (x n : Terminal) (p : Place) (b : List ℕ) (next : (st : List Symbol) → Go st → Option StatementP) (stack : List Symbol) (k : Go (AfterOperand ∷ stack)) (s : StatementP) → infix_word_at x ≡ None → (x ≡ t.Not → ⊥) → (x ≡ t.OpenBrace → ⊥) → read_at x n p b next (AfterOperand ∷ stack) k ≡ Some s → x ≡ t.Where
is-AfterOperand t.Union n p b next stack k s f0 n0 n1 h = differs-back (f0)
is-AfterOperand t.Intersect n p b next stack k s f0 n0 n1 h = differs-back (f0)
is-AfterOperand t.Minus n p b next stack k s f0 n0 n1 h = differs-back (f0)
is-AfterOperand t.Join n p b next stack k s f0 n0 n1 h = differs-back (f0)
is-AfterOperand t.Matching n p b next stack k s f0 n0 n1 h = differs-back (f0)
is-AfterOperand t.Not n p b next stack k s f0 n0 n1 h = absurd (n0 refl)
is-AfterOperand t.OpenBrace n p b next stack k s f0 n0 n1 h = absurd (n1 refl)
is-AfterOperand t.Where n p b next stack k s f0 n0 n1 h = refl
is-AfterOperand _ n p b next stack k s f0 n0 n1 h = differs h

must-AfterOperand : (ts : List Piece) (stack : List Symbol) (k : Go (AfterOperand ∷ stack)) (s : StatementP) → infix_word_at (first ts) ≡ None → ((first ts) ≡ t.Not → ⊥) → ((first ts) ≡ t.OpenBrace → ⊥) → read ts (AfterOperand ∷ stack) k ≡ Some s → first ts ≡ t.Where
must-AfterOperand [] stack k s f0 n0 n1 h = differs h
must-AfterOperand (x ∷ ts) stack k s f0 n0 n1 h = is-AfterOperand x.terminal (first ts) x.place x.bytes (read ts) stack k s f0 n0 n1 h

pub step-AfterOperand : (p : Place) (b : List ℕ) (old new : List Piece) (stack : List Symbol) (k : Go (AfterOperand ∷ stack)) (s : StatementP) → infix_word_at (first old) ≡ None → ((first old) ≡ t.Not → ⊥) → ((first old) ≡ t.OpenBrace → ⊥) → p ≡ place_of old → b ≡ bytes_of old → new ≡ behind old → read old (AfterOperand ∷ stack) k ≡ Some s → read_at t.Where (first new) p b (read new) (AfterOperand ∷ stack) k ≡ Some s
step-AfterOperand p b old new stack k s f0 n0 n1 hp hb hn h = at t.Where p b old new (AfterOperand ∷ stack) k s (must-AfterOperand old stack k s f0 n0 n1 h) refl hp hb hn h

word-infix_word : Option InfixWord → Terminal
word-infix_word None = t.Finish
word-infix_word (Some w) = infix_word w

pub is-infix_word : (x : Terminal) (w : InfixWord) → infix_word_at x ≡ Some w → x ≡ infix_word w
unfolding word-infix_word
is-infix_word t.Union w e = ap word-infix_word e
is-infix_word t.Intersect w e = ap word-infix_word e
is-infix_word t.Minus w e = ap word-infix_word e
is-infix_word t.Join w e = ap word-infix_word e
is-infix_word t.Matching w e = ap word-infix_word e
is-infix_word _ w e = differs e

pub more-infix_word : (w : InfixWord) → same (infix_word w) t.Finish ≡ false
more-infix_word infixes.Union = refl
more-infix_word infixes.Intersect = refl
more-infix_word infixes.Minus = refl
more-infix_word infixes.Join = refl
more-infix_word infixes.Matching = refl

pub more-pack_word : (w : PackWord) → same (pack_word w) t.Finish ≡ false
more-pack_word pack_words.Pack = refl
more-pack_word pack_words.Unpack = refl

pub row-MoreInfix-infix_word : (w : InfixWord) (n : Terminal) (p : Place) (b : List ℕ) (next : (st : List Symbol) → Go st → Option StatementP) (stack : List Symbol) (k : Go (MoreInfix ∷ stack)) (s : StatementP) → read_at (infix_word w) n p b next (MoreInfix ∷ stack) k ≡ Some s → next (TheTerm ∷ MoreInfix ∷ stack) (λ v. k ((λ x. v.1.0 (Infix x p w v.0)), v.1.1)) ≡ Some s
row-MoreInfix-infix_word infixes.Union n p b next stack k s h = h
row-MoreInfix-infix_word infixes.Intersect n p b next stack k s h = h
row-MoreInfix-infix_word infixes.Minus n p b next stack k s h = h
row-MoreInfix-infix_word infixes.Join n p b next stack k s h = h
row-MoreInfix-infix_word infixes.Matching n p b next stack k s h = h

pub row-AfterOperand-infix_word : (w : InfixWord) (n : Terminal) (p : Place) (b : List ℕ) (next : (st : List Symbol) → Go st → Option StatementP) (stack : List Symbol) (k : Go (AfterOperand ∷ stack)) (s : StatementP) → read_at (infix_word w) n p b next (AfterOperand ∷ stack) k ≡ Some s → next (TheOperand ∷ stack) (λ v. k ((λ x. UsingInfix x p w v.0), v.1)) ≡ Some s
row-AfterOperand-infix_word infixes.Union n p b next stack k s h = h
row-AfterOperand-infix_word infixes.Intersect n p b next stack k s h = h
row-AfterOperand-infix_word infixes.Minus n p b next stack k s h = h
row-AfterOperand-infix_word infixes.Join n p b next stack k s h = h
row-AfterOperand-infix_word infixes.Matching n p b next stack k s h = h

pub row-TheOperand-pack_word : (w : PackWord) (n : Terminal) (p : Place) (b : List ℕ) (next : (st : List Symbol) → Go st → Option StatementP) (stack : List Symbol) (k : Go (TheOperand ∷ stack)) (s : StatementP) → read_at (pack_word w) n p b next (TheOperand ∷ stack) k ≡ Some s → next (TheRel ∷ Just t.On ∷ TheList ∷ stack) (λ v. k (PackOn p w v.0 v.1.1.0, v.1.1.1)) ≡ Some s
row-TheOperand-pack_word pack_words.Pack n p b next stack k s h = h
row-TheOperand-pack_word pack_words.Unpack n p b next stack k s h = h

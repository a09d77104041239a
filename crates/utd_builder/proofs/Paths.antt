-- How far a part has been read.
use Rattle.std.proofs.Common.{◌≡◌, List, ◌∷◌, Some, subst}
use Rattle.utd_syntax.specs.Pieces.{Piece}
use Rattle.utd_syntax.specs.Plain.{StatementP}
use Rattle.utd_syntax.specs.Table.{Symbol}
use Rattle.utd_syntax.proofs.FormValues.{Val, Vals}
use Rattle.utd_syntax.proofs.Reader.{Go, read}

-- of one form what is read is this, and the rest of it is to come
abbrev pub Path : (form more : Symbol) → (Val more → Val form) → List Piece → List Piece → Type 0
Path form more f old now = (stack : List Symbol) (k : Go (form ∷ stack)) (s : StatementP) → read old (form ∷ stack) k ≡ Some s → read now (more ∷ stack) (λ v. k (f v.0, v.1)) ≡ Some s

-- of a list so many are read, and more are to come
abbrev pub Onwards : (form : Symbol) (R : Type 0) → (Val form → R) → (Val form → R) → List Piece → List Piece → Type 0
Onwards form R f g old now = (stack : List Symbol) (k : R × Vals stack → StatementP) (s : StatementP) → read old (form ∷ stack) (λ vs. k (f vs.0, vs.1)) ≡ Some s → read now (form ∷ stack) (λ vs. k (g vs.0, vs.1)) ≡ Some s

-- the same value, otherwise written
pub relist : (form : Symbol) (R : Type 0) (now : List Piece) (stack : List Symbol) (f g : Val form → R) (k : R × Vals stack → StatementP) (s : StatementP) → ((v : Val form) → f v ≡ g v) → read now (form ∷ stack) (λ vs. k (f vs.0, vs.1)) ≡ Some s → read now (form ∷ stack) (λ vs. k (g vs.0, vs.1)) ≡ Some s
relist form R now stack f g k s e h = subst (λ (z : Go (form ∷ stack)). read now (form ∷ stack) z ≡ Some s) (λ i vs. k (e vs.0 i, vs.1)) h

pub none-yet : (form : Symbol) (now : List Piece) (stack : List Symbol) (g : Val form → Val form) (k : Go (form ∷ stack)) (s : StatementP) → ((v : Val form) → v ≡ g v) → read now (form ∷ stack) k ≡ Some s → read now (form ∷ stack) (λ vs. k (g vs.0, vs.1)) ≡ Some s
none-yet form now stack g k s e h = subst (λ (z : Go (form ∷ stack)). read now (form ∷ stack) z ≡ Some s) (λ i vs. k (e vs.0 i, vs.1)) h

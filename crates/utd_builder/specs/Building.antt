-- What the parts of a statement are built from.
use Rattle.std.specs.Prelude.{◌≡◌, ◌≤◌, ◌<◌, List, [], ◌∷◌, Result, Ok, Err, Some, length}
use Rattle.utd_syntax.specs.declared.word.Word.{Word}
use Rattle.utd_syntax.specs.Pieces.{Piece, place_of, bytes_of}
use Rattle.utd_syntax.specs.Plain.{StatementP}
use Rattle.utd_syntax.specs.Table.{Symbol}
use Rattle.utd_syntax.proofs.FormValues.{Val, Vals}
use Rattle.utd_syntax.proofs.Reader.{Go, read}
use Rattle.utd_builder.specs.declared.cursor.Lexeme.{Lexeme}
use Rattle.utd_builder.specs.declared.cursor.Cursor.{Cursor}

-- the tokens to come as plain data
abbrev pub piece : Lexeme → Piece
piece l = record { terminal = l.terminal; place = l.place; bytes = l.bytes.now }

abbrev pub pieces : List Lexeme → List Piece
pieces [] = []
pieces (l ∷ ls) = piece l ∷ pieces ls

abbrev pub left : Cursor → List Piece
left c = pieces c.rest.now

-- what stands behind the first token
abbrev pub behind : List Piece → List Piece
behind [] = []
behind (t ∷ ts) = ts

-- the first token as a name, and what stands behind it
abbrev pub Named : {E : Type 0} → List Piece → Result (Word × Cursor) E → Type 0
Named old (Ok x) = (x.0.place ≡ place_of old) × (x.0.bytes.list.items ≡ bytes_of old) × (left x.1 ≡ behind old)
Named old (Err e) = Unit {0}

-- A form was read: where a statement begins with these forms and tokens, its form has this value, and the others stand
-- in the tokens that are left.
pub record Read (form : Symbol) (old new : List Piece) (v : Val form) : Type 0 where
  pub shorter : length new ≤ length old
  pub goes_on : (stack : List Symbol) (k : Go (form ∷ stack)) (x : StatementP) → read old (form ∷ stack) k ≡ Some x → read new stack (λ vs. k (v, vs)) ≡ Some x

-- a form is built from the tokens, unless memory ran out
abbrev pub Builds : {T : Type 0} → {E : Type 0} → (form : Symbol) → (T → Val form) → List Piece → Result (T × Cursor) E → Type 0
Builds form value old (Ok x) = Read form old (left x.1) (value x.0)
Builds form value old (Err e) = Unit {0}

-- A form was read and used up: where a statement goes on with what is given for the form's value, it goes on with this.
pub record Given (form : Symbol) (R : Type 0) (give : Val form → R) (old new : List Piece) (v : R) : Type 0 where
  pub shorter : length new ≤ length old
  pub goes_on : (stack : List Symbol) (k : R × Vals stack → StatementP) (x : StatementP) → read old (form ∷ stack) (λ vs. k (give vs.0, vs.1)) ≡ Some x → read new stack (λ vs. k (v, vs)) ≡ Some x

abbrev pub Gives : {T : Type 0} → {E : Type 0} → {R : Type 0} → (form : Symbol) → (Val form → R) → (T → R) → List Piece → Result (T × Cursor) E → Type 0
Gives {R = R} form give value old (Ok x) = Given form R give old (left x.1) (value x.0)
Gives form give value old (Err e) = Unit {0}

-- A part was built onto what stands before it: where a statement goes on with the one, it goes on with the other.
pub record Turned (form : Symbol) (R : Type 0) (old new : List Piece) (before after : Val form → R) : Type 0 where
  pub shorter : length new < length old
  pub goes_on : (stack : List Symbol) (k : R × Vals stack → StatementP) (x : StatementP) → read old (form ∷ stack) (λ vs. k (before vs.0, vs.1)) ≡ Some x → read new (form ∷ stack) (λ vs. k (after vs.0, vs.1)) ≡ Some x

abbrev pub Turns : {T : Type 0} → {E : Type 0} → {R : Type 0} → (form : Symbol) → (Val form → R) → (T → Val form → R) → List Piece → Result (T × Cursor) E → Type 0
Turns {R = R} form before after old (Ok x) = Turned form R old (left x.1) before (after x.0)
Turns form before after old (Err e) = Unit {0}

-- Statements that are written one behind the other.
use Rattle.std.proofs.Common.{◌≡◌, ℕ, ◌+◌, ◌<◌, ◌≤◌, List, [], ◌∷◌, ◌++◌, length, Bool, true, false, ◌&&◌, Option, Some, None, if◌then◌else◌, cond, refl, sym, ◌∙◌, ap, subst, arith}
use Rattle.std.specs.Prelude.{nat_le}
use Rattle.std.specs.Option.{option_and_then}
use Rattle.std.proofs.Math.Bool.{and-false}
use Rattle.std.proofs.lemmas.Bool.{le-leb, lt-leb}
use Rattle.value_core.specs.Limits.{most_statement_bytes, most_script_bytes}
use Rattle.dump_core.specs.Drafts.{Written, has_room, piece, with_statement, with_statements}

-- ---- one statement

pub one-more : (s : List ℕ) (rest : List (List ℕ)) (w x : Written) → with_statement s w ≡ Some x → with_statements (s ∷ rest) w ≡ with_statements rest x
one-more s rest w x e = ap (option_and_then (with_statements rest)) e

pub one-refused : (s : List ℕ) (rest : List (List ℕ)) (w : Written) → with_statement s w ≡ None → with_statements (s ∷ rest) w ≡ None
one-refused s rest w e = ap (option_and_then (with_statements rest)) e

-- ---- statements behind statements

assoc : (f k g : Written → Option Written) → ((x : Written) → f x ≡ option_and_then g (k x)) → (o : Option Written)
    → option_and_then f o ≡ option_and_then g (option_and_then k o)
assoc f k g h None = refl
assoc f k g h (Some x) = h x

joined : (a b : List (List ℕ)) (w : Written) → with_statements (a ++ b) w ≡ option_and_then (with_statements b) (with_statements a w)
joined [] b w = refl
joined (s ∷ a) b w = assoc (with_statements (a ++ b)) (with_statements a) (with_statements b) (λ x. joined a b x) (with_statement s w)

pub then-more : (a b : List (List ℕ)) (w x : Written) → with_statements a w ≡ Some x → with_statements (a ++ b) w ≡ with_statements b x
then-more a b w x e = joined a b w ∙ ap (option_and_then (with_statements b)) e

pub then-refused : (a b : List (List ℕ)) (w : Written) → with_statements a w ≡ None → with_statements (a ++ b) w ≡ None
then-refused a b w e = joined a b w ∙ ap (option_and_then (with_statements b)) e

-- ---- room

pub no_room-statement : (s : List ℕ) (w : Written) → most_statement_bytes < length s → with_statement s w ≡ None
no_room-statement s w over = ap (λ (b : Bool). if b && nat_le (length (w.text ++ piece w.begun s)) most_script_bytes then Some (record { text = w.text ++ piece w.begun s; begun = true }) else None) (lt-leb (length s) most_statement_bytes over)

pub no_room-script : (s : List ℕ) (w : Written) (text : List ℕ) → text ≡ w.text ++ piece w.begun s → most_script_bytes < length text → with_statement s w ≡ None
no_room-script s w text is over =
    let long : most_script_bytes < length (w.text ++ piece w.begun s) = subst (λ (z : List ℕ). most_script_bytes < length z) is over in
    ap (λ (b : Bool). if b then Some (record { text = w.text ++ piece w.begun s; begun = true }) else None)
    (ap (λ (b : Bool). nat_le (length s) most_statement_bytes && b) (lt-leb (length (w.text ++ piece w.begun s)) most_script_bytes long) ∙ and-false (nat_le (length s) most_statement_bytes))

pub room : (s : List ℕ) (w x : Written) → length s ≤ most_statement_bytes → x.text ≡ w.text ++ piece w.begun s → x.begun ≡ true → length x.text ≤ most_script_bytes
    → with_statement s w ≡ Some x
room s w x short is begun within =
    let all : length (w.text ++ piece w.begun s) ≤ most_script_bytes = subst (λ (z : List ℕ). length z ≤ most_script_bytes) is within in
    let one : has_room s w ≡ true =
    ap (λ (b : Bool). b && nat_le (length (w.text ++ piece w.begun s)) most_script_bytes) (le-leb (length s) most_statement_bytes short)
    ∙ le-leb (length (w.text ++ piece w.begun s)) most_script_bytes all in
    ap (λ (b : Bool). if b then Some (record { text = w.text ++ piece w.begun s; begun = true }) else None) one
    ∙ ap (λ (z : List ℕ). Some (record { text = z; begun = true })) (sym is) ∙ ap (λ (b : Bool). Some (record { text = x.text; begun = b })) (sym begun)

-- ---- four lists of statements

module _ (a b c d : List (List ℕ)) (w : Written) where
  pub first-refused : with_statements a w ≡ None → with_statements (a ++ b ++ c ++ d) w ≡ None
  first-refused e = then-refused (a ++ b ++ c) d w (then-refused (a ++ b) c w (then-refused a b w e))

  pub second-refused : (x : Written) → with_statements a w ≡ Some x → with_statements b x ≡ None → with_statements (a ++ b ++ c ++ d) w ≡ None
  second-refused x e none = then-refused (a ++ b ++ c) d w (then-refused (a ++ b) c w (then-more a b w x e ∙ none))

  pub third-refused : (x y : Written) → with_statements a w ≡ Some x → with_statements b x ≡ Some y → with_statements c y ≡ None → with_statements (a ++ b ++ c ++ d) w ≡ None
  third-refused x y e f none = then-refused (a ++ b ++ c) d w (then-more (a ++ b) c w y (then-more a b w x e ∙ f) ∙ none)

  pub behind-three : (x y z : Written) → with_statements a w ≡ Some x → with_statements b x ≡ Some y → with_statements c y ≡ Some z → with_statements (a ++ b ++ c ++ d) w ≡ with_statements d z
  behind-three x y z e f g = then-more (a ++ b ++ c) d w z (then-more (a ++ b) c w y (then-more a b w x e ∙ f) ∙ g)

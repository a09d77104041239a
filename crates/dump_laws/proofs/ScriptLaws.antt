-- What a script is that is short enough.
--     script-is      where there is one, its statements are short and it is their text
--     IsScriptOf      what is known of one
--     all-forms      how its statements stand in it
use Rattle.std.proofs.Common.{◌≡◌, inl, inr, ℕ, ◌≤◌, Bool, true, false, List, [], ◌∷◌, map, length, refl, sym, ap, ◌∙◌, Option, Some, None}
use Rattle.std.specs.Prelude.{nat_eq, nat_le, if◌then◌else◌, unwrap_or}
use Rattle.std.specs.List.{list_all}
use Rattle.std.proofs.lemmas.Bool.{leb-true}
use Rattle.base_core.proofs.BoolLemmas.{and_left, and_right}
use Rattle.value_core.specs.Limits.{most_statement_bytes, most_script_bytes}
use Rattle.dump_core.specs.Dumps.{behind_another, script_text, is_script, script_with}
use Rattle.dump_laws.proofs.Cuts.{length-behind_another, texts_in}
use Rattle.dump_laws.specs.Accepting.{IsForm}
use Rattle.dump_laws.proofs.AcceptingLaws.{AreForms}

-- these are the statements of the script
pub record IsScriptOf (ss : List (List ℕ)) (x : List ℕ) : Type 0 where
  pub is : x ≡ script_text ss
  pub short : list_all (λ s. nat_le (length s) most_statement_bytes) ss ≡ true
  pub few : length x ≤ most_script_bytes
  pub again : script_with ss ≡ Some x

pub script-is : (ss : List (List ℕ)) (x : List ℕ) → script_with ss ≡ Some x → IsScriptOf ss x
script-is ss x e = by (is_script ss) refl e
  where
    by : (b : Bool) → is_script ss ≡ b → (if b then Some (script_text ss) else None) ≡ Some x → IsScriptOf ss x
    by true q h =
        let same : x ≡ script_text ss = ap (λ (o : Option (List ℕ)). unwrap_or o x) (sym h) in
        let short : Bool = list_all (λ (s : List ℕ). nat_le (length s) most_statement_bytes) ss in
        let low : nat_le (length (script_text ss)) most_script_bytes ≡ true = and_right short (nat_le (length (script_text ss)) most_script_bytes) q in
        let few : nat_le (length x) most_script_bytes ≡ true = ap (λ (z : List ℕ). nat_le (length z) most_script_bytes) same ∙ low in
        record {
          is = same;
          short = and_left short (nat_le (length (script_text ss)) most_script_bytes) q;
          few = leb-true (length x) most_script_bytes few;
          again = e;
        }
    by false q h = absurd (cc)

-- ---- forms

form-of : (b : Bool) (s : List ℕ) → IsForm s (if b then s else 10 ∷ s)
form-of true s = inl refl
form-of false s = inr refl

abbrev is_short : List ℕ → Bool
is_short s = nat_le (length s) most_statement_bytes

later-forms : (ss : List (List ℕ)) → list_all (λ (s : List ℕ). nat_le (length s) most_statement_bytes) ss ≡ true → AreForms ss (map behind_another ss)
later-forms [] h = tt
later-forms (s ∷ ss) h = (
  (form-of (nat_eq (length s) most_statement_bytes) s, length-behind_another s (leb-true (length s) most_statement_bytes (and_left (is_short s) (list_all is_short ss) h))),
  later-forms ss (and_right (is_short s) (list_all is_short ss) h),
)

pub all-forms : (ss : List (List ℕ)) → list_all (λ (s : List ℕ). nat_le (length s) most_statement_bytes) ss ≡ true → AreForms ss (texts_in ss)
all-forms [] h = tt
all-forms (s ∷ ss) h = (
  (inl refl, leb-true (length s) most_statement_bytes (and_left (is_short s) (list_all is_short ss) h)),
  later-forms ss (and_right (is_short s) (list_all is_short ss) h),
)

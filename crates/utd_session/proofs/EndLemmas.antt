-- The texts that are there when the reading of a script ends.
use Rattle.std.proofs.Common.{◌≡◌, inl, inr, ℕ, ◌≤◌, List, [], drop, Option, Some, None, IfSome, sym, ap, subst, arith}
use Rattle.utd_io.specs.Io.{Gives}
use Rattle.dump_core.specs.Texts.{SourceText}
use Rattle.utd_session.specs.declared.feeding.Session.{Session}
use Rattle.utd_session.specs.declared.script.Ran.{Ran}
use Rattle.utd_session.specs.Status.{number_of}
use Rattle.utd_session.specs.Statements.{most_bytes}
use Rattle.utd_session.specs.Texts.{AreTextsOf}
use Rattle.utd_session.specs.Ends.{IsAtEnd, HasTextsAtEnd, IsEarly}
use Rattle.utd_session.specs.Sessions.{StandsFor, fed_of}
use Rattle.utd_session.specs.Progress.{HasFed, MayHaveFed}
use Rattle.utd_statement.specs.Readings.{Reading}
use Rattle.utd_session.proofs.RunLemmas.{at_end}

pub not_at_end : (answered : ℕ) → 2 ≤ answered → IsAtEnd answered → ⊥
not_at_end answered l h = elim h [ inl e ↦ omega arith | inr e ↦ omega arith ]

-- a run that ended early has no texts
pub early_end : (ran : Ran) → IsEarly ran → HasTextsAtEnd ran.texts (number_of ran.status)
early_end ran h = subst (λ t. HasTextsAtEnd t (number_of ran.status)) (sym h.0) h.1

pub early_texts : (o : Option (List ℕ)) (ran : Ran) → IsEarly ran → IfSome o (λ all. IfSome ran.texts (AreTextsOf all))
early_texts None ran h = tt
early_texts (Some all) ran h = subst (λ t. IfSome t (AreTextsOf all)) (sym h.0) tt

pub no_texts : (o : Option (List ℕ)) → IfSome o (λ all. IfSome None (AreTextsOf all))
no_texts None = tt
no_texts (Some all) = tt

-- and one that came to the end of its script has them
pub texts_at_end : (all : List ℕ) (before mid : Option (List ℕ)) (session : Session) (texts : List SourceText) (paid steps : ℕ) → fed_of session ≤ most_bytes → HasFed all (Some []) session before mid paid steps
    → ((bytes : List ℕ) (rs : List Reading) → StandsFor session bytes rs → AreTextsOf bytes texts) → AreTextsOf all texts
texts_at_end all before mid session texts paid steps short h f =
    let e = at_end all session before mid paid steps short h in
    f all e.readings e.stands

pub may_have_texts : (o mid after before written : Option (List ℕ)) (session : Session) (buffer : List ℕ) (n paid steps : ℕ) (texts : Option (List SourceText)) → MayHaveFed o mid session before written paid steps → Gives mid n buffer after → n ≡ 0
    → ((all : List ℕ) (before' : Option (List ℕ)) (paid' : ℕ) → HasFed all (Some []) session before' written paid' steps → IfSome texts (AreTextsOf all))
    → IfSome o (λ all. IfSome texts (AreTextsOf all))
may_have_texts None mid after before written session buffer n paid steps texts h g e f = tt
may_have_texts (Some all) mid after before written session buffer n paid steps texts h g e f =
    let k : ℕ = fed_of session in
    let gives : Gives (Some (drop k all)) n buffer after = subst (λ m. Gives m n buffer after) h.left_is g in
    let none : drop k all ≡ [] = gives.3.0 e in
    let at : HasFed all (Some []) session before written paid steps = record { within = h.within; left_is = ap Some (sym none); readings = h.readings; stands = h.stands; gained = h.gained; cost = h.cost } in
    f all before paid at

-- What a database tells of a statement that it counts.
--     assigned_text, assigned_refused      of assignments
--     allowed_text, allowed_refused      of a log or a stored view that is declared
use Rattle.std.proofs.Common.{◌≡◌, ℕ, List, [], refl, sym, ap, subst, ◌∙◌, Vec, Global, Result, Ok, Err}
use Rattle.value_core.specs.declared.refuse.Refuse.{Refuse}
use Rattle.value_core.specs.declared.refuse.Refuse.TheVariants.{Plain, At, Broken, Memory}
use Rattle.tree_core.specs.Items.{PlainAssignment}
use Rattle.tree_core.specs.Relvars.{Entries, State}
use Rattle.meaning_core.specs.Declarations.{counted}
use Rattle.assign_core.specs.Assignments.{assigned_in, IsAssigned, IsDone, IsRefusedFor}
use Rattle.utd_statement.specs.Answers.{if_allowed, unless_refused}
use Rattle.utd_statement.specs.Replies.{IsPerformed, IsRefusedWith}

pub refused_with : (state : State) (refuse : Refuse) (meant : Result Entries Refuse) → IsRefusedFor refuse meant → IsRefusedWith refuse (unless_refused state meant)
refused_with state Memory meant told = tt
refused_with state (Plain code) meant told = ap (unless_refused state) told
refused_with state (At fault) meant told = ap (unless_refused state) told
refused_with state (Broken code relvar number) meant told = ap (unless_refused state) told

pub not_allowed : (refuse : Refuse) (meant : Result State Refuse) → IsRefusedFor refuse meant → IsRefusedWith refuse (if_allowed meant)
not_allowed Memory meant told = tt
not_allowed (Plain code) meant told = ap if_allowed told
not_allowed (At fault) meant told = ap if_allowed told
not_allowed (Broken code relvar number) meant told = ap if_allowed told

pub assigned_text : (old mid new : State) (list : List PlainAssignment) (text : Vec ℕ Global) → text.items ≡ [] → IsAssigned (Ok tt) old mid list → new ≡ counted mid
    → IsPerformed (Ok text) old new (unless_refused old (assigned_in old list))
assigned_text old mid new list text empty told e =
    subst (λ (r : Result Entries Refuse). IsPerformed (Ok text) old new (unless_refused old r)) (sym told.0) (((λ n. empty), refl), e ∙ ap counted told.1)

pub assigned_refused : (old mid new : State) (list : List PlainAssignment) (refuse : Refuse) → IsAssigned (Err refuse) old mid list → new ≡ mid
    → IsPerformed (Err refuse) old new (unless_refused old (assigned_in old list))
assigned_refused old mid new list refuse told e = (refused_with old refuse (assigned_in old list) told.0, e ∙ told.1)

pub allowed_text : (old mid new : State) (meant : Result State Refuse) (text : Vec ℕ Global) → text.items ≡ [] → IsDone (Ok tt) old mid meant → new ≡ counted mid
    → IsPerformed (Ok text) old new (if_allowed meant)
allowed_text old mid new meant text empty told e = subst (λ (r : Result State Refuse). IsPerformed (Ok text) old new (if_allowed r)) (sym told) (((λ n. empty), refl), e)

pub allowed_refused : (old mid new : State) (meant : Result State Refuse) (refuse : Refuse) → IsDone (Err refuse) old mid meant → new ≡ mid → IsPerformed (Err refuse) old new (if_allowed meant)
allowed_refused old mid new meant refuse told e = (not_allowed refuse meant told.0, e ∙ told.1)

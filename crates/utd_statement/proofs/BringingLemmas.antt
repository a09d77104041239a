-- A statement that brings rows is read as a tree, and the tree makes of the state what the rows make.
--     listed_so      a list is one of the rows' heading
--     tried_so      whether the rows are brought, refused or left
use Rattle.std.proofs.Common.{◌≡◌, ◌≤◌, ◌+◌, ℕ, Bool, true, false, List, [], ◌∷◌, Option, Some, None, Result, Ok, Err, Vec, Global, refl, sym, ap, ◌∙◌, subst, arith}
use Rattle.point_core.specs.declared.fault.Place.{Place}
use Rattle.value_core.specs.declared.refuse.Refuse.{Refuse}
use Rattle.value_core.specs.Values.{Name, Heading, Relation}
use Rattle.tree_core.specs.Relvars.{Entries, State}
use Rattle.meaning_core.specs.Declarations.{counted}
use Rattle.utd_syntax.specs.Plain.{Word, LiteralP, StatementP}
use Rattle.assign_core.specs.Assignments.{assigned_in}
use Rattle.assign_core.specs.Costs.{cost_of_assignments}
use Rattle.assign_core.specs.Logs.{counted_if, is_brought}
use Rattle.assign_core.specs.NewRows.{Arriving, brought_cost, brought_in, values_brought, HasRoomFor, HasRoomIf, IsBaseWith, IsBrought, IsFoundIf, IsGivenTo, IsListFor, IsPaidFor, IsToldOf, StaysUnless, TakesNoneIf}
use Rattle.assign_core.specs.Room.{unless_full}
use Rattle.assign_core.proofs.BroughtLemmas.{brought_beside, brought_costs}
use Rattle.constant_laws.proofs.ListedPositions.{listed-is_list}
use Rattle.constant_laws.specs.Insertions.{Bringing, Setting, Adding, AddingUnder, IsStatementOf}
use Rattle.constant_effects.proofs.EffectLemmas.{IsPlainDone, plain-done}
use Rattle.constant_effects.specs.Ways.{arriving_of}
use Rattle.plain_rows.specs.Brought.{BringsRows, IsBrought as AreRowsOf}
use Rattle.assign_core.specs.Items.{assignments_of}
use Rattle.utd_statement.specs.Answers.{Answer, Changed, of_checked, of_tree, unless_fault, unless_refused}
use Rattle.utd_statement.specs.Bringing.{IsDoneBy, IsToldBy, IsTried}
use Rattle.utd_statement.specs.Costs.{cost_if_typed, cost_of_tree}
use Rattle.utd_statement.specs.Keeping.{Leaves, keeping_of}
use Rattle.utd_statement.specs.Readings.{Tree, IsText}
use Rattle.utd_statement.specs.Replies.{IsPerformed}
use Rattle.utd_statement.proofs.ChangingLemmas.{refused_with}

leaves_of : (bringing : Bringing) (heading : Heading) (tree : StatementP) (w : Word) (l : LiteralP) → IsStatementOf bringing heading tree w l → keeping_of tree ≡ Leaves
leaves_of Setting heading tree w l is = ap keeping_of is
leaves_of Adding heading tree w l is = ap keeping_of is.1
leaves_of (AddingUnder commalist) heading tree w l is = ap keeping_of is.4

module _ (start : Place) (bytes : List ℕ) (bringing : Bringing) (relvar : Name) (relation : Relation) (state : State) (brings : AreRowsOf state.ordinals bytes bringing relvar relation) where
  abbrev way : Arriving
  way = arriving_of bringing

  abbrev from : BringsRows state.ordinals start bytes bringing relvar relation.heading brings.given
  from = brings.brings start

  text_is : IsText start bytes (Tree from.tree)
  text_is = (from.tokens, from.reads, from.whole, from.spelled)

  -- a list is one of the rows' heading
  pub listed_so : IsListFor relation.heading way
  listed_so = by bringing from.tree from.plain.w from.plain.l from.plain.is
    where
      by : (b : Bringing) (tree : StatementP) (w : Word) (l : LiteralP) → IsStatementOf b relation.heading tree w l → IsListFor relation.heading (arriving_of b)
      by Setting tree w l is = tt
      by Adding tree w l is = tt
      by (AddingUnder commalist) tree w l is = listed-is_list relation.heading commalist is.1 is.3

  leaves : keeping_of from.tree ≡ Leaves
  leaves = leaves_of bringing relation.heading from.tree from.plain.w from.plain.l from.plain.is

  given_to : (found : IsBaseWith state relvar relation.heading) → IsGivenTo state relvar relation found.old brings.given
  given_to found = record { constraints = found.constraints; there = found.there; headed = found.headed; are = brings.rows }

  module _ (found : IsBaseWith state relvar relation.heading) (room : HasRoomFor way state relvar relation) where
    abbrev done : IsPlainDone state bringing relvar found.old brings.given from.tree
    done = plain-done state bringing relvar relation.heading brings.given from.tree found.old found.constraints from.plain brings.named found.there (sym found.headed) found.relation

    abbrev meant : Result Entries Refuse
    meant = brought_in state way done.at done.there relvar found.old brings.given

    abbrev cost_meant : ℕ
    cost_meant = brought_cost state way done.at done.there relvar found.old brings.given

    -- and so it is beside logs and stored views
    beside_so : unless_full (values_brought state.relvars way done.at done.there done.assignment.target found.old brings.given) (brought_in state way done.at done.there done.assignment.target found.old brings.given)
        ≡ brought_in state way done.at done.there done.assignment.target found.old brings.given
    beside_so =
        subst (λ (name : Name). unless_full (values_brought state.relvars way done.at done.there name found.old brings.given) (brought_in state way done.at done.there name found.old brings.given)
        ≡ brought_in state way done.at done.there name found.old brings.given) (sym done.target) (room found.old done.at done.there brings.given (given_to found))

    assigned_so : assigned_in state (assignments_of state.relvars done.items) ≡ meant
    assigned_so =
        ap (assigned_in state) done.meant
        ∙ (brought_beside state done.assignment way done.at done.there found.old brings.given done.source beside_so
        ∙ ap (λ (name : Name). brought_in state way done.at done.there name found.old brings.given) done.target)

    answered_so : of_tree state from.tree ≡ unless_refused state meant
    answered_so = ap (unless_fault (of_checked state)) done.typed ∙ ap (unless_refused state) assigned_so

    costs_so : cost_meant ≤ cost_of_tree state from.tree
    costs_so =
        subst (λ (n : ℕ). cost_meant ≤ n) (sym (ap (cost_if_typed state) done.typed ∙ ap (cost_of_assignments state) done.meant))
        (subst (λ (name : Name). brought_cost state way done.at done.there name found.old brings.given ≤ cost_of_assignments state (done.assignment ∷ [])) done.target
        (brought_costs state done.assignment way done.at done.there found.old brings.given done.source done.cost))

    within : (before now : ℕ) → now ≤ before + cost_meant → now ≤ before + cost_of_tree state from.tree
    within before now least = let more = costs_so in omega (arith, least, more)

    added : (mid new : State) (text : Vec ℕ Global) (before now : ℕ) → IsBrought (Ok true) state mid meant → new ≡ counted mid → text.items ≡ [] → now ≤ before + cost_meant
        → IsDoneBy start bytes (Ok text) state new before now
    added mid new text before now told then empty cost =
        let e : of_tree state from.tree ≡ Changed (record state { relvars = mid.relvars }) = answered_so ∙ ap (unless_refused state) told.0 in
        record {
          tree = from.tree;
          text = text_is;
          leaves = leaves;
          performed = subst (λ (a : Answer). IsPerformed (Ok text) state new a) (sym e) (((λ n. empty), refl), then ∙ ap counted told.1);
          cost = within before now cost;
        }

    refused : (refuse : Refuse) (mid new : State) (before now : ℕ) → IsBrought (Err refuse) state mid meant → new ≡ mid → now ≤ before + cost_meant → IsDoneBy start bytes (Err refuse) state new before now
    refused refuse mid new before now told then cost = record {
      tree = from.tree;
      text = text_is;
      leaves = leaves;
      performed = subst (λ (a : Answer). IsPerformed (Err refuse) state new a) (sym answered_so) (refused_with state refuse meant told.0, then ∙ told.1);
      cost = within before now cost;
    }

  -- ---- what the database tells of the rows that it is given

  told_at : (result : Result Bool Refuse) (mid : State) (found : IsBaseWith state relvar relation.heading) (room : HasRoomFor way state relvar relation) → IsToldOf way result state mid relvar relation
      → IsBrought result state mid (meant found room)
  told_at result mid found room told = told found.old (done found room).at (done found room).there brings.given (given_to found)

  paid_at : (before now : ℕ) (found : IsBaseWith state relvar relation.heading) (room : HasRoomFor way state relvar relation) → IsPaidFor way state relvar relation before now → now ≤ before + cost_meant found room
  paid_at before now found room paid = paid found.old (done found room).at (done found room).there brings.given (given_to found)

  pub tried_so : (done_so : Result Bool Refuse) (result : Option (Result (Vec ℕ Global) Refuse)) (mid new : State) (before now : ℕ) → IsToldBy done_so result → IsFoundIf done_so state relvar relation.heading
      → HasRoomIf way done_so state relvar relation → IsToldOf way done_so state mid relvar relation → new ≡ counted_if (is_brought done_so) mid → StaysUnless done_so state new → TakesNoneIf done_so before now
      → IsPaidFor way state relvar relation before now → IsTried start bytes result state new before now
  tried_so (Ok true) (Some (Ok text)) mid new before now empty found room told then stays none paid =
      added found room mid new text before now (told_at (Ok true) mid found room told) then empty (paid_at before now found room paid)
  tried_so (Ok true) (Some (Err refuse)) mid new before now h found room told then stays none paid = absurd h
  tried_so (Ok true) None mid new before now h found room told then stays none paid = absurd h
  tried_so (Ok false) (Some written) mid new before now h found room told then stays none paid = absurd h
  tried_so (Ok false) None mid new before now h found room told then stays none paid = (stays, none)
  tried_so (Err refuse) (Some (Ok text)) mid new before now h found room told then stays none paid = absurd h
  tried_so (Err refuse) (Some (Err other)) mid new before now same found room told then stays none paid =
      subst (λ (r : Refuse). IsDoneBy start bytes (Err r) state new before now) (sym same)
      (refused found room refuse mid new before now (told_at (Err refuse) mid found room told) then (paid_at before now found room paid))
  tried_so (Err refuse) None mid new before now h found room told then stays none paid = absurd h

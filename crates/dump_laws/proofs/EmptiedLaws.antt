-- A state whose relvars differ in their rows alone, and whose logs differ in their last numbers too.
--     early-emptied, late-emptied      what stands without its rows stands before all rows, or is a view, as it was
--     listed-with      the same is said of it
--     alike-rows      each name stands for the like
--     like-equal      what is equal is like
use Rattle.std.proofs.Common.{◌≡◌, ℕ, Bool, true, false, cond, List, [], ◌∷◌, map, refl, sym, ap, ◌∙◌, subst, Option, Some, None, option_map}
use Rattle.std.specs.List.{filter}
use Rattle.std.specs.Str.{bytes_eq}
use Rattle.value_core.specs.Values.{Name}
use Rattle.tree_core.specs.Relvars.{State, PlainRelvar, base, view, Entries, relvar_named, heading_if, constraints_if, log, derived, stored, of_history, PlainKind}
use Rattle.tree_core.specs.Trees.{Tree}
use Rattle.meaning_core.proofs.RowlessLemmas.{bare, bare_all}
use Rattle.meaning_laws.specs.Likeness.{LikeIf, Alike}
use Rattle.meaning_laws.proofs.LikeLemmas.{like-itself}
use Rattle.meaning_laws.proofs.SameMoved.{tree-same}
use Rattle.typing_laws.specs.Saying.{Said}
use Rattle.dump_laws.specs.Kept.{is_early, is_late, IsListedAs}
use Rattle.part_laws.specs.Parts.{emptied}
use Rattle.dump_laws.proofs.NamingLaws.{IsView, tree_in}

-- ---- without rows

pub early-emptied : (e : Name × PlainRelvar) → is_early (emptied e) ≡ is_early e
early-emptied (name, base value constraints) = refl
early-emptied (name, view t derived) = refl
early-emptied (name, view t stored) = refl
early-emptied (name, view t (of_history names)) = refl
early-emptied (name, log o k last w) = refl

pub late-emptied : (e : Name × PlainRelvar) → is_late (emptied e) ≡ is_late e
late-emptied (name, base value constraints) = refl
late-emptied (name, view t derived) = refl
late-emptied (name, view t stored) = refl
late-emptied (name, view t (of_history names)) = refl
late-emptied (name, log o k last w) = refl

-- in the words of meaning_core
early-bare : (es : Entries) → map emptied (filter is_early es) ≡ filter is_early (bare_all es)
early-bare [] = refl
early-bare ((name, base value constraints) ∷ es) = ap (λ (l : Entries). (name, base (record { heading = value.heading; rows = [] }) constraints) ∷ l) (early-bare es)
early-bare ((name, view t derived) ∷ es) = early-bare es
early-bare ((name, view t stored) ∷ es) = early-bare es
early-bare ((name, view t (of_history names)) ∷ es) = ap (λ (l : Entries). (name, view t (of_history names)) ∷ l) (early-bare es)
early-bare ((name, log o k last w) ∷ es) = early-bare es

late-bare : (es : Entries) → filter is_late es ≡ filter is_late (bare_all es)
late-bare [] = refl
late-bare ((name, base value constraints) ∷ es) = late-bare es
late-bare ((name, view t derived) ∷ es) = ap (λ (l : Entries). (name, view t derived) ∷ l) (late-bare es)
late-bare ((name, view t stored) ∷ es) = ap (λ (l : Entries). (name, view t stored) ∷ l) (late-bare es)
late-bare ((name, view t (of_history names)) ∷ es) = late-bare es
late-bare ((name, log o k last w) ∷ es) = late-bare es

module _ (es fs : Entries) (same : bare_all fs ≡ bare_all es) where
  pub early-same : map emptied (filter is_early fs) ≡ map emptied (filter is_early es)
  early-same = early-bare fs ∙ (ap (filter is_early) same ∙ sym (early-bare es))

  pub views-same : filter is_late fs ≡ filter is_late es
  views-same = late-bare fs ∙ (ap (filter is_late) same ∙ sym (late-bare es))

-- the same is said of it
pub listed-with : (w : State) (ds : List Said) (fs : Entries) → bare_all fs ≡ bare_all w.relvars → IsListedAs w ds → IsListedAs (record w { relvars = fs }) ds
listed-with w ds fs same made = record {
  ordinals = made.ordinals;
  early = early-same w.relvars fs same ∙ made.early;
  views = views-same w.relvars fs same ∙ made.views;
  rules = made.rules;
  different = made.different;
}

-- ---- what names stand for

pub like-equal : (o p : Option PlainRelvar) → o ≡ p → LikeIf o p
like-equal o p e = subst (LikeIf o) e (like-self o)
  where
    like-self : (q : Option PlainRelvar) → LikeIf q q
    like-self None = tt
    like-self (Some r) = like-itself r

named-bare : (entries : Entries) (name : Name) → relvar_named (bare_all entries) name ≡ option_map bare (relvar_named entries name)
named-bare [] name = refl
named-bare (r ∷ rest) name = ap (cond (bytes_eq r.0 name) (Some (bare r.1))) (named-bare rest name) ∙ some (bytes_eq r.0 name)
  where
    some : (b : Bool) → cond b (Some (bare r.1)) (option_map bare (relvar_named rest name)) ≡ option_map bare (cond b (Some r.1) (relvar_named rest name))
    some true = refl
    some false = refl

-- what stands there, if it is a view, and its parts
abbrev IsViewIf : Option PlainRelvar → Type 0
IsViewIf None = ⊥
IsViewIf (Some r) = IsView r

-- or a log
abbrev IsLogIf : Option PlainRelvar → Type 0
IsLogIf None = ⊥
IsLogIf (Some (base v c)) = ⊥
IsLogIf (Some (view t h)) = ⊥
IsLogIf (Some (log o k last w)) = Unit {0}

-- the relvar that it tells, and the place of its statements
abbrev of_if : Name → Option PlainRelvar → Name
of_if other None = other
of_if other (Some (base v c)) = other
of_if other (Some (view t h)) = other
of_if other (Some (log o k last w)) = o

abbrev side_if : ℕ → Option PlainRelvar → ℕ
side_if other None = other
side_if other (Some (base v c)) = other
side_if other (Some (view t h)) = other
side_if other (Some (log o k last w)) = k

abbrev kind_if : PlainKind → Option PlainRelvar → PlainKind
kind_if other None = other
kind_if other (Some (base v c)) = other
kind_if other (Some (view t h)) = h
kind_if other (Some (log o k last w)) = other

abbrev tree_if : Tree → Option PlainRelvar → Tree
tree_if other None = other
tree_if other (Some r) = tree_in other r

abbrev IsSomeRelvar : Option PlainRelvar → Type 0
IsSomeRelvar None = ⊥
IsSomeRelvar (Some r) = Unit {0}

like-bare : (o p : Option PlainRelvar) → option_map bare o ≡ option_map bare p → LikeIf o p
like-bare None p e = tt
like-bare (Some x) None e = absurd (subst IsSomeRelvar e tt)
like-bare (Some (base v c)) (Some (base u d)) e = (ap heading_if (sym e), ap constraints_if (sym e))
like-bare (Some (base v c)) (Some (view u g)) e = absurd (subst IsViewIf (sym e) tt)
like-bare (Some (view t h)) (Some (base u d)) e = absurd (subst IsViewIf e tt)
like-bare (Some (view t h)) (Some (view u g)) e = (((λ p. p), ap (tree_if t) (sym e) ∙ sym (tree-same t)), ap (kind_if h) (sym e))
like-bare (Some (base v c)) (Some (log o k last w)) e = absurd (subst IsLogIf (sym e) tt)
like-bare (Some (view t h)) (Some (log o k last w)) e = absurd (subst IsLogIf (sym e) tt)
like-bare (Some (log o k last w)) (Some (base u d)) e = absurd (subst IsLogIf e tt)
like-bare (Some (log o k last w)) (Some (view u g)) e = absurd (subst IsLogIf e tt)
like-bare (Some (log o k last w)) (Some (log p j n v)) e = (ap (of_if o) (sym e), ap (side_if k) (sym e), ap heading_if (sym e))

pub alike-rows : (some : Name → Bool) (es fs : Entries) → bare_all fs ≡ bare_all es → Alike some es fs
alike-rows some es fs same name none =
    like-bare (relvar_named es name) (relvar_named fs name)
    (sym (named-bare es name) ∙ (ap (λ (l : Entries). relvar_named l name) (sym same) ∙ named-bare fs name))

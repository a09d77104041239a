-- What a map of relvars finds at a name is the first entry of that name; names are equal from either side.
use denote.Ref.{Bor}
use Rattle.std.proofs.Common.{◌≡◌, Bool, true, false, cond, List, [], ◌∷◌, map, Option, Some, None, refl, ap, ◌∙◌}
use Rattle.std.specs.Option.{option_map, option_copied}
use Rattle.std.specs.Str.{bytes_eq}
use Rattle.std.specs.Map.{lookup}
use Rattle.base_core.proofs.ListLemmas.{bytes_eq-sym}
use Rattle.value_core.specs.Values.{Name}
use Rattle.tree_core.specs.Relvars.{PlainRelvar, relvar_named, read_relvar, read_entry}
use Rattle.tree_core.specs.declared.relvar.Relvar.{Relvar}

found : (b : Bool) (x : Relvar) (o : Option Relvar) (p : Option PlainRelvar) → option_map read_relvar o ≡ p
    → option_map read_relvar (cond b (Some x) o) ≡ cond b (Some (read_relvar x)) p
found true x o p e = refl
found false x o p e = e

pub looked-up : (es : List (Name × Relvar)) (name : Name) → option_map read_relvar (lookup (bytes_eq name) es) ≡ relvar_named (map read_entry es) name
looked-up [] name = refl
looked-up (d ∷ es) name =
    ap (λ (b : Bool). option_map read_relvar (cond b (Some d.1) (lookup (bytes_eq name) es))) (bytes_eq-sym name d.0)
    ∙ found (bytes_eq d.0 name) d.1 (lookup (bytes_eq name) es) (relvar_named (map read_entry es) name) (looked-up es name)

pub seen : (r : Option (Bor Relvar)) → option_map (λ (x : Bor Relvar). read_relvar x.now) r ≡ option_map read_relvar (option_copied r)
seen None = refl
seen (Some x) = refl

-- Ports by the groups that they name, and what they give.
use Rattle.std.proofs.Common.{◌≡◌, ◌∙◌, ◌++◌, List, [], ◌∷◌, Bool, true, false, Bor, Global, None, Option, Some, Vec, flat_map, map, refl, ap, sym}
use Rattle.std.specs.Prelude.{◌&&◌, ◌||◌, if◌then◌else◌, not}
use Rattle.std.specs.List.{filter}
use Rattle.std.proofs.lemmas.List.{append-nil}
use Rattle.api_types.proofs.NameLemmas.{ident_same}
use Rattle.api_types.specs.Ident.{Ident}
use Rattle.api_types.specs.Members.{prefixes_of}
use Rattle.api_types.specs.Table.{ident_eq}
use Rattle.api_types.specs.declared.port.PortRow.{PortRow}
use Rattle.api_secgroup.specs.Named.{given_by, names}

-- what a map has under a group
abbrev pub listed : Option (Vec (Bor PortRow) Global) → List PortRow
listed o = elim o [ None ↦ [] | Some v ↦ map (λ p. p.now) v.items ]

-- what ports give that name a group is what all ports give to it
pub given_to : (g : Ident) (ports : List PortRow) → flat_map given_by (filter (names g) ports) ≡ flat_map (prefixes_of g) ports
given_to g [] = refl
given_to g (p ∷ ports) = go (names g p) (given_to g ports)
  where
    go : (b : Bool) → flat_map given_by (filter (names g) ports) ≡ flat_map (prefixes_of g) ports
        → flat_map given_by (if b then p ∷ filter (names g) ports else filter (names g) ports) ≡ (if b then given_by p else []) ++ flat_map (prefixes_of g) ports
    go true rest = ap (λ ps. given_by p ++ ps) rest
    go false rest = rest

module _ {X : Type 0} (xs : List X) (x : X) where
  -- nothing is added of a group that was seen
  pub none_added : (same : Bool) → xs ≡ xs ++ (if same && not true then x ∷ [] else [])
  none_added true = sym (append-nil xs)
  none_added false = sym (append-nil xs)

  -- what is added of one group, and then of the others that weren't seen
  pub added_more : (same rest seen : Bool) → (xs ++ (if same && not seen then x ∷ [] else [])) ++ (if rest && not (seen || same) then x ∷ [] else []) ≡ xs ++ (if (same || rest) && not seen then x ∷ [] else [])
  added_more true true true = append-nil (xs ++ [])
  added_more true true false = append-nil (xs ++ x ∷ [])
  added_more true false true = append-nil (xs ++ [])
  added_more true false false = append-nil (xs ++ x ∷ [])
  added_more false true true = append-nil (xs ++ [])
  added_more false true false = ap (λ ys. ys ++ x ∷ []) (append-nil xs)
  added_more false false true = append-nil (xs ++ [])
  added_more false false false = append-nil (xs ++ [])

-- a group that is this one was seen where this one was
pub seen_alike : (seen : Ident → Bool) (q g : Ident) (v : Bool) → seen g ≡ v → (ident_eq q g && not (seen q)) ≡ (ident_eq q g && not v)
seen_alike seen q g v is = go (ident_eq q g) refl
  where
    go : (b : Bool) → ident_eq q g ≡ b → (b && not (seen q)) ≡ (b && not v)
    go true e = ap not (ap seen (ident_same q g e) ∙ is)
    go false e = refl

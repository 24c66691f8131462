-- Hosts that handle a packet, one after the other.
use Rattle.api_types.proofs.NameLemmas.{bytes_itself, bytes_same}
use Rattle.dvr_types.specs.DvrFabric.{name_elsewhere}
use Rattle.dvr_types.specs.Handlers.{after_host}
use Rattle.plane_laws.proofs.Facts.{AllOf}
use Rattle.plane_types.specs.TableRows.{is_host_of}
use Rattle.std.proofs.Common.{Bool, List, None, Option, Some, [], ap, append_assoc, false, map, refl, sym, true, ℕ, ◌++◌, ◌∙◌, ◌∷◌, ◌≡◌}
use Rattle.std.specs.Prelude.{if◌then◌else◌, is_some, option_map, option_to_list}
use Rattle.std.specs.Str.{bytes_eq}

pub after-here : (x : List ℕ) (xs : List (List ℕ)) → after_host x (x ∷ xs) ≡ after_host x xs
after-here x xs = ap (λ b. if b then after_host x xs else x ∷ after_host x xs) (bytes_itself x)

pub after-after : (d x : List ℕ) (xs : List (List ℕ)) → name_elsewhere d x ++ after_host x xs ≡ after_host d (x ∷ xs)
after-after d x xs = go (bytes_eq d x) refl
  where
    go : (b : Bool) → bytes_eq d x ≡ b → (if b then [] else x ∷ []) ++ after_host x xs ≡ (if b then after_host d xs else x ∷ after_host x xs)
    go true e = ap (λ z. after_host z xs) (sym (bytes_same d x e))
    go false e = refl

-- a packet goes to another host and is handled there
pub goes-on : (d x : List ℕ) (hs rest : List (List ℕ)) → (hs ++ name_elsewhere d x) ++ after_host x (x ∷ rest) ≡ hs ++ after_host d (x ∷ rest)
goes-on d x hs rest = append_assoc hs (name_elsewhere d x) (after_host x (x ∷ rest)) ∙ ap (λ l. hs ++ l) (ap (λ l. name_elsewhere d x ++ l) (after-here x rest) ∙ after-after d x rest)

pub host-of : (o : Option (List ℕ)) (h : List ℕ) → is_host_of h o ≡ true → o ≡ Some h
host-of None h e = cc
host-of (Some m) h e = ap Some (bytes_same m h e)

-- a router on this host
pub router-at : (d : List ℕ) (near : Bool) (host : Option (List ℕ)) (rest : List (List ℕ)) → host ≡ Some d → after_host d ((if near then [] else option_to_list host) ++ rest) ≡ after_host d rest
router-at d true host rest e = refl
router-at d false host rest e = ap (λ o. after_host d (option_to_list o ++ rest)) e ∙ after-here d rest

pub AllOf-mapped : {X Y : Type 0} (P : Y → Type 0) (f : X → Y) (xs : List X) → AllOf P (map f xs) → AllOf (λ x. P (f x)) xs
AllOf-mapped P f [] h = tt
AllOf-mapped P f (x ∷ xs) h = (h.0, AllOf-mapped P f xs h.1)

pub some-mapped : {X Y : Type 0} (f : X → Y) (o : Option X) → is_some (option_map f o) ≡ true → is_some o ≡ true
some-mapped f None h = cc
some-mapped f (Some x) h = refl

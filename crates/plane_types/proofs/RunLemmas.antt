-- What is found and asked of those elements of a list that pass a test is found and asked of a part that has them all.
use Rattle.std.proofs.Common.{◌≡◌, ◌∙◌, List, [], ◌∷◌, Bool, true, false, cond, Option, Some, None, map, true≢false, refl, ap, sym}
use Rattle.std.specs.Prelude.{◌&&◌, ◌||◌, find, is_some, if◌then◌else◌}
use Rattle.std.specs.List.{cons_option, filter, filter_map, list_any}
use Rattle.std.specs.Str.{bytes_eq}
use Rattle.api_types.proofs.TableLemmas.{ident_eq-sym}
use Rattle.api_types.specs.Ident.{Ident}
use Rattle.api_types.specs.Table.{ident_eq}
use Rattle.api_types.specs.Wires.{tag_eq}
use Rattle.api_types.specs.declared.wire.Wire.{Wire}
use Rattle.plane_types.specs.InwardKeys.{is_by}
use Rattle.plane_types.specs.TableStep.{carrier_eq}
use Rattle.plane_types.specs.declared.keys.InwardKey.TheVariants.{Tag}
use Rattle.plane_types.specs.declared.table.Carrier.{Carrier}
use Rattle.plane_types.specs.declared.table.Carrier.TheVariants.{Tunnel as ByTunnel, Wire as ByWire}

pub ident_turned : (a b : Ident) → ident_eq a b ≡ ident_eq b a
ident_turned a b = ident_eq-sym a b

-- what comes by a wire has the wire's tag
pub wire_tagged : (v : Wire) (c : Carrier) → carrier_eq (ByWire v) c ≡ true → is_by (Tag v.tag) c ≡ true
wire_tagged v (ByTunnel n) h = h
wire_tagged v (ByWire w) h = go (bytes_eq v.physical w.physical) h
  where
    go : (b : Bool) → (b && tag_eq v.tag w.tag) ≡ true → tag_eq v.tag w.tag ≡ true
    go true e = e
    go false e = absurd (true≢false (sym e))

module _ {X : Type 0} (test : X → Bool) where
  abbrev first : List X → Option X
  first [] = None
  first (x ∷ xs) = Some x

  found-first : (xs : List X) → find test xs ≡ first (filter test xs)
  found-first [] = refl
  found-first (x ∷ xs) = go (test x) (found-first xs)
    where
      go : (b : Bool) → find test xs ≡ first (filter test xs) → cond b (Some x) (find test xs) ≡ first (cond b (x ∷ filter test xs) (filter test xs))
      go true rest = refl
      go false rest = rest

  pub found_near : (xs ys : List X) → filter test xs ≡ filter test ys → find test xs ≡ find test ys
  found_near xs ys same = found-first xs ∙ ap first same ∙ sym (found-first ys)

  any-first : (xs : List X) → list_any test xs ≡ is_some (first (filter test xs))
  any-first [] = refl
  any-first (x ∷ xs) = go (test x) (any-first xs)
    where
      go : (b : Bool) → list_any test xs ≡ is_some (first (filter test xs)) → (b || list_any test xs) ≡ is_some (first (cond b (x ∷ filter test xs) (filter test xs)))
      go true rest = refl
      go false rest = rest

  pub any_alike : (xs ys : List X) → filter test xs ≡ filter test ys → list_any test xs ≡ list_any test ys
  any_alike xs ys same = any-first xs ∙ ap (λ zs. is_some (first zs)) same ∙ sym (any-first ys)

  -- by a further test of those that pass
  any-passing : (more : X → Bool) (xs : List X) → list_any (λ x. test x && more x) xs ≡ list_any more (filter test xs)
  any-passing more [] = refl
  any-passing more (x ∷ xs) = go (test x) (any-passing more xs)
    where
      go : (b : Bool) → list_any (λ x. test x && more x) xs ≡ list_any more (filter test xs) → ((b && more x) || list_any (λ x. test x && more x) xs) ≡ list_any more (cond b (x ∷ filter test xs) (filter test xs))
      go true rest = ap (λ c. more x || c) rest
      go false rest = rest

  pub any_near : (more : X → Bool) (xs ys : List X) → filter test xs ≡ filter test ys → list_any (λ x. test x && more x) xs ≡ list_any (λ x. test x && more x) ys
  any_near more xs ys same = any-passing more xs ∙ ap (list_any more) same ∙ sym (any-passing more ys)

  -- by a test that those alone pass
  found-within : (narrow : X → Bool) → ((x : X) → narrow x ≡ true → test x ≡ true) → (xs : List X) → find narrow xs ≡ find narrow (filter test xs)
  found-within narrow passes [] = refl
  found-within narrow passes (x ∷ xs) = go (narrow x) refl (test x) refl (found-within narrow passes xs)
    where
      kept : List X
      kept = filter test xs

      go : (b : Bool) → narrow x ≡ b → (c : Bool) → test x ≡ c → find narrow xs ≡ find narrow kept → cond b (Some x) (find narrow xs) ≡ find narrow (cond c (x ∷ kept) kept)
      go true e true f rest = ap (λ d. cond d (Some x) (find narrow kept)) (sym e)
      go true e false f rest = absurd (true≢false (sym (passes x e) ∙ f))
      go false e true f rest = rest ∙ ap (λ d. cond d (Some x) (find narrow kept)) (sym e)
      go false e false f rest = rest

  pub found_within : (narrow : X → Bool) → ((x : X) → narrow x ≡ true → test x ≡ true) → (xs ys : List X) → filter test xs ≡ filter test ys → find narrow xs ≡ find narrow ys
  found_within narrow passes xs ys same = found-within narrow passes xs ∙ ap (find narrow) same ∙ sym (found-within narrow passes ys)

  -- what is made of those that pass
  made-of : {Y : Type 0} (f : X → Y) (xs : List X) → filter_map (λ x. if test x then Some (f x) else None) xs ≡ map f (filter test xs)
  made-of f [] = refl
  made-of f (x ∷ xs) = go (test x) (made-of f xs)
    where
      go : (b : Bool) → filter_map (λ x. if test x then Some (f x) else None) xs ≡ map f (filter test xs) → cons_option (if b then Some (f x) else None) (filter_map (λ x. if test x then Some (f x) else None) xs) ≡ map f (cond b (x ∷ filter test xs) (filter test xs))
      go true rest = ap (λ ys. f x ∷ ys) rest
      go false rest = rest

  pub made_near : {Y : Type 0} (f : X → Y) (xs ys : List X) → filter test xs ≡ filter test ys → filter_map (λ x. if test x then Some (f x) else None) xs ≡ filter_map (λ x. if test x then Some (f x) else None) ys
  made_near f xs ys same = made-of f xs ∙ ap (map f) same ∙ sym (made-of f ys)

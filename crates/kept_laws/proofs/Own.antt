-- The refusals that the machine gives of itself: all but that the store failed.
use Rattle.std.proofs.Common.{◌≡◌, ℕ, List, ◌∷◌, Bool, true, false, Option, None, Some, refl}
use Rattle.std.specs.Prelude.{option_and_then}
use Rattle.api_types.specs.Association.{Aim, router_for, target_by, with_target}
use Rattle.api_types.specs.Ident.{Ident}
use Rattle.api_types.specs.Lists.{if_some}
use Rattle.api_types.specs.Outcome.{Outcome, Moved, Refused, Told}
use Rattle.api_types.specs.Refusing.{first_refusal, needing, unless}
use Rattle.api_types.specs.RowLists.{RowLists}
use Rattle.api_types.specs.declared.floating.Target.{Target}
use Rattle.api_types.specs.declared.refusal.Refusal.{Refusal}
use Rattle.api_types.specs.declared.refusal.Refusal.TheVariants.{NoGateway, StoreFault}

abbrev pub is_own : Refusal → Bool
is_own StoreFault = false
is_own _ = true

abbrev pub owns : Option Refusal → Bool
owns o = if_some is_own o

abbrev pub is_own_outcome : Outcome → Bool
is_own_outcome (Refused refusal) = is_own refusal
is_own_outcome (Told reply) = true
is_own_outcome (Moved rows reply) = true

-- the first of refusals in order
pub own_first : (o : Option Refusal) (rest : List (Option Refusal)) → owns o ≡ true → owns (first_refusal rest) ≡ true → owns (first_refusal (o ∷ rest)) ≡ true
own_first None rest h k = k
own_first (Some refusal) rest h k = h

pub own_then : {X : Type 0} (f : X → Option Refusal) (o : Option X) → ((x : X) → owns (f x) ≡ true) → owns (option_and_then f o) ≡ true
own_then f None h = refl
own_then f (Some x) h = h x

pub own_unless : (o : Option Refusal) (outcome : Outcome) → owns o ≡ true → is_own_outcome outcome ≡ true → is_own_outcome (unless o outcome) ≡ true
own_unless None outcome h k = k
own_unless (Some refusal) outcome h k = h

pub own_needing : {X : Type 0} (refusal : Refusal) (o : Option X) (f : X → Outcome) → is_own refusal ≡ true → ((x : X) → is_own_outcome (f x) ≡ true) → is_own_outcome (needing refusal o f) ≡ true
own_needing refusal None f h k = h
own_needing refusal (Some x) f h k = k x

pub own_target : (rows : RowLists) (project : List ℕ) (network : Ident) (o : Option Aim) (f : Option Target → Outcome) → ((t : Option Target) → is_own_outcome (f t) ≡ true)
    → is_own_outcome (with_target rows project network o f) ≡ true
own_target rows project network None f h = h None
own_target rows project network (Some aim) f h =
    own_needing (NoGateway network aim.fixed.subnet) (router_for rows project network aim.fixed.subnet) (λ r. f (Some (target_by aim r))) refl (λ r. h (Some (target_by aim r)))

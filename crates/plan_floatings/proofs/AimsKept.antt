-- A floating address that is associated leads in order, and alone.
use Rattle.std.proofs.Common.{◌≡◌, ◌∙◌, ℕ, List, [], ◌∷◌, Bool, true, false, Option, Some, None, slice_get, refl, ap, sym, subst}
use Rattle.std.specs.Prelude.{filter, option_and_then, not, bytes_eq, codes, is_none, ◌&&◌, ◌||◌, ◌==◌}
use Rattle.std.specs.List.{list_any}
use Rattle.std.proofs.lemmas.Bool.Decides.{Decides-eqb}
use Rattle.net_addr.specs.Addresses.{is_four, is_v4, number}
use Rattle.net_addr.specs.declared.address.Addr.{Addr}
use Rattle.net_addr.specs.declared.address.Addr.TheVariants.{V4, V6}
use Rattle.api_types.specs.Ident.{Ident}
use Rattle.api_types.specs.Lists.{Each, if_some, is_some_so}
use Rattle.api_types.specs.Outcome.{Moved, Outcome}
use Rattle.api_types.specs.Printed.{Reply}
use Rattle.api_types.specs.RowLists.{RowLists}
use Rattle.api_types.specs.Table.{ident_eq}
use Rattle.api_types.specs.Consistent.Floating.{has_interface, is_target_port, is_target_router, leads_to, stands_for}
use Rattle.api_types.specs.declared.call.Caller.{Caller}
use Rattle.api_types.specs.declared.floating.FloatingRow.{FloatingRow}
use Rattle.api_types.specs.declared.floating.Target.{Target}
use Rattle.api_types.specs.declared.form.FloatingForm.{FloatingForm}
use Rattle.api_types.specs.declared.port.Fixed.{Fixed}
use Rattle.api_types.specs.declared.port.PortRow.{PortRow}
use Rattle.api_types.specs.declared.refusal.Refusal.TheVariants.{Invalid, NoGateway}
use Rattle.api_types.specs.declared.router.Gateway.{Gateway}
use Rattle.api_types.specs.declared.router.RouterRow.{RouterRow}
use Rattle.api_policy.specs.Visibility.{sees_port}
use Rattle.api_types.specs.Given.{value_of}
use Rattle.api_types.specs.Refusing.{when}
use Rattle.kept_laws.proofs.OutcomeLemmas.{found_at, named_is, needing_moved, none_first, not_when, unfound}
use Rattle.api_types.proofs.ListLemmas.{and_both, at-any, at_filter, both_and, false_true, none_some}
use Rattle.api_types.proofs.NameLemmas.{ident_same, ident_sym, is_some_so-weaker}
use Rattle.api_types.specs.Association.{Aim, aim_at, fixed_for, joins_to, only_one, router_for, target_by, with_target}
use Rattle.plan_floatings.specs.FloatingCalls.{aim_asked, port_asked}
use Rattle.plan_floatings.specs.FloatingRules.{bad_aim}
use Rattle.api_types.specs.Owners.{is_service}
use Rattle.api_policy.specs.Uses.{aim_in_use, already_leads, used_aim}
use Rattle.kept_laws.proofs.CallLemmas.{mapped, not_none, refused_at, thence, unmapped}

-- an address of version 4 is that with its number
pub as_four : (x : Addr) → is_v4 x ≡ true → is_four x (number x) ≡ true
as_four (V4 n) h = (Decides-eqb n n).1 refl
as_four (V6 n) h = h

four_is : (x : Addr) (n : ℕ) → is_four x n ≡ true → is_v4 x ≡ true
four_is (V4 m) n h = refl
four_is (V6 m) n h = h

-- the one item of a list
one_is : (fixed : List Fixed) (f : Fixed) → only_one fixed ≡ Some f → slice_get fixed 0 ≡ Some f
one_is [] f h = none_some f _ h
one_is (g ∷ []) f h = h
one_is (g ∷ e ∷ fixed) f h = none_some f _ h

-- the address for which a floating address is to stand is one of the port's, of version 4
pub fixed_is : (address : Option ℕ) (held : List Fixed) (f : Fixed) → fixed_for address held ≡ Some f → (k : ℕ) × (slice_get held k ≡ Some f) × (is_v4 f.address ≡ true)
fixed_is (Some x) held f h = let found = found_at (λ (g : Fixed). is_four g.address x) held f h in (found.0, found.1, four_is f.address x found.2)
fixed_is None held f h =
    let kept = at_filter (λ (g : Fixed). is_v4 g.address) held 0 f (one_is (filter (λ (g : Fixed). is_v4 g.address) held) f h) in
    (kept.0, kept.1, kept.2)

-- a port of the project, and one of its addresses of version 4
pub record IsAim (rows : RowLists) (project : List ℕ) (aim : Aim) : Type 0 where
  pub place : ℕ
  pub at : slice_get rows.ports place ≡ Some aim.port
  pub mine : bytes_eq aim.port.project project ≡ true
  pub index : ℕ
  pub held : slice_get aim.port.fixed index ≡ Some aim.fixed
  pub four : is_v4 aim.fixed.address ≡ true

pub aim_is : (rows : RowLists) (caller : Caller) (form : FloatingForm) (project : List ℕ) (aim : Aim) → aim_asked rows caller form ≡ Some aim
    → option_and_then (bad_aim project (value_of form.fixed_ip_address)) (port_asked rows caller form) ≡ None → IsAim rows project aim
aim_is rows caller form project aim asked good =
    let address : Option ℕ = value_of form.fixed_ip_address in
    let seen = thence (aim_at address) (port_asked rows caller form) aim asked in
    let p : PortRow = seen.0 in
    let here = named_is (λ (q : PortRow). q.id) (sees_port rows caller) rows.ports (value_of form.port_id) p seen.1 in
    let chosen = mapped (λ (f : Fixed). record { port = p; fixed = f }) (fixed_for address p.fixed) aim seen.2 in
    let f : Fixed = chosen.0 in
    let fixed = fixed_is address p.fixed f chosen.1 in
    let rules = none_first (when (not (bytes_eq p.project project) || is_service p.owner) (Invalid (codes "port_id"))) (when (is_none (fixed_for address p.fixed)) (Invalid (codes "fixed_ip_address")) ∷ [])
    (refused_at (bad_aim project address) (port_asked rows caller form) p seen.1 good) in
    let mine : bytes_eq p.project project ≡ true = not_none (bytes_eq p.project project) (first_none (not (bytes_eq p.project project)) (is_service p.owner) (not_when _ (Invalid (codes "port_id")) rules.0)) in
    let it : IsAim rows project (record { port = p; fixed = f }) = record { place = here.place; at = here.at; mine = mine; index = fixed.0; held = fixed.1; four = fixed.2 } in
    subst (IsAim rows project) chosen.2 it
  where
    first_none : (a b : Bool) → a || b ≡ false → a ≡ false
    first_none true b h = h
    first_none false b h = refl

-- led by a router that joins, each floating address of the project and the network leads there in order
pub leads_there : (rows : RowLists) (project : List ℕ) (network : Ident) (aim : Aim) (r : RouterRow) → IsAim rows project aim → router_for rows project network aim.fixed.subnet ≡ Some r
    → (f : FloatingRow) → f.project ≡ project → f.network ≡ network → leads_to rows.ports rows.routers f (target_by aim r) ≡ true
leads_there rows project network aim r is found f same_project same_network =
    let here = found_at (joins_to rows project network aim.fixed.subnet) rows.routers r found in
    let t : Target = target_by aim r in
    let joined = and_both (bytes_eq r.project project && is_some_so (λ (g : Gateway). ident_eq network g.network) r.gateway) (has_interface rows.ports r.id aim.fixed.subnet) here.2 in
    let router = and_both (bytes_eq r.project project) (is_some_so (λ (g : Gateway). ident_eq network g.network) r.gateway) joined.0 in
    let p : PortRow = aim.port in
    let target : is_target_port rows.ports f t p ≡ true =
    both_and (bytes_eq p.project f.project) _ (ap (bytes_eq p.project) same_project ∙ is.mine)
    (at-any (λ (x : Fixed). is_four x.address t.fixed && has_interface rows.ports t.router x.subnet) p.fixed is.index aim.fixed is.held
    (both_and (is_four aim.fixed.address (number aim.fixed.address)) (has_interface rows.ports r.id aim.fixed.subnet) (as_four aim.fixed.address is.four) joined.1)) in
    let by : is_target_router f r ≡ true =
    both_and (bytes_eq r.project f.project) _ (ap (bytes_eq r.project) same_project ∙ router.0)
    (is_some_so-weaker (λ (g : Gateway). ident_eq network g.network) (λ (g : Gateway). ident_eq g.network f.network) r.gateway
    (λ (g : Gateway) h. ap (ident_eq g.network) same_network ∙ ident_sym network g.network h) router.1) in
    both_and (list_any (λ q. ident_eq p.id q.id && is_target_port rows.ports f t q) rows.ports) (list_any (λ q. ident_eq r.id q.id && is_target_router f q) rows.routers)
    (at-any (λ q. ident_eq p.id q.id && is_target_port rows.ports f t q) rows.ports is.place p is.at (both_and (ident_eq p.id p.id) _ (itself p.id) target))
    (at-any (λ q. ident_eq r.id q.id && is_target_router f q) rows.routers here.0 r here.1 (both_and (ident_eq r.id r.id) _ (itself r.id) by))
  where
    itself : (i : Ident) → ident_eq i i ≡ true
    itself i = both_and (i.ordinal == i.ordinal) (i.count == i.count) ((Decides-eqb i.ordinal i.ordinal).1 refl) ((Decides-eqb i.count i.count).1 refl)

-- the target that is gone on with: none without an aim, else by a router that joins
abbrev pub IsGoal : RowLists → List ℕ → Ident → Option Aim → Option Target → Type 0
IsGoal rows project network None target = target ≡ None
IsGoal rows project network (Some aim) target = (r : RouterRow) × (router_for rows project network aim.fixed.subnet ≡ Some r) × (target ≡ Some (target_by aim r))

pub target_moved : (rows : RowLists) (project : List ℕ) (network : Ident) (aim : Option Aim) (rest : Option Target → Outcome) (after : RowLists) (reply : Reply) → with_target rows project network aim rest ≡ Moved after reply
    → (target : Option Target) × IsGoal rows project network aim target × (rest target ≡ Moved after reply)
target_moved rows project network None rest after reply h = (None, refl, h)
target_moved rows project network (Some aim) rest after reply h =
    let found = needing_moved (NoGateway network aim.fixed.subnet) (router_for rows project network aim.fixed.subnet) (λ r. rest (Some (target_by aim r))) after reply h in
    (Some (target_by aim found.0), (found.0, found.1, refl), found.2)

-- a floating address of the project and the network with such a target leads in order or nowhere
pub goal_leads : (rows : RowLists) (project : List ℕ) (network : Ident) (aim : Option Aim) (target : Option Target) → ((a : Aim) → aim ≡ Some a → IsAim rows project a) → IsGoal rows project network aim target
    → (f : FloatingRow) → f.project ≡ project → f.network ≡ network → if_some (leads_to rows.ports rows.routers f) target ≡ true
goal_leads rows project network None target is goal f same_project same_network = ap (if_some (leads_to rows.ports rows.routers f)) goal
goal_leads rows project network (Some aim) target is goal f same_project same_network =
    ap (if_some (leads_to rows.ports rows.routers f)) goal.2 ∙ leads_there rows project network aim goal.0 (is aim refl) goal.1 f same_project same_network

-- where the address of the port isn't taken, none of these floating addresses stands for it
pub goal_alone : (rows : RowLists) (caller : Caller) (floatings : List FloatingRow) (project : List ℕ) (network : Ident) (aim : Option Aim) (target : Option Target) → IsGoal rows project network aim target
    → option_and_then (aim_in_use rows caller floatings network) aim ≡ None
    → (f : FloatingRow) → f.target ≡ target → f.network ≡ network → (n port : Ident) (x : ℕ) → stands_for n port x f ≡ true → Each (λ g. stands_for n port x g ≡ false) floatings
goal_alone rows caller floatings project network None target goal free f same_target same_network n port x h =
    false_true _ (sym (ap (is_some_so (λ (t : Target). ident_eq port t.port && (t.fixed == x))) (same_target ∙ goal)) ∙ (and_both (ident_eq n f.network) _ h).1)
goal_alone rows caller floatings project network (Some aim) target goal free f same_target same_network n port x h =
    let both = and_both (ident_eq n f.network) (is_some_so (λ (t : Target). ident_eq port t.port && (t.fixed == x)) f.target) h in
    let parts = and_both (ident_eq port aim.port.id) (number aim.fixed.address == x) (sym (ap (is_some_so (λ (t : Target). ident_eq port t.port && (t.fixed == x))) (same_target ∙ goal.2)) ∙ both.1) in
    let network_is : n ≡ network = ident_same n f.network both.0 ∙ same_network in
    let port_is : port ≡ aim.port.id = ident_same port aim.port.id parts.0 in
    let fixed_is : number aim.fixed.address ≡ x = (Decides-eqb (number aim.fixed.address) x).0 parts.1 in
    let none = unmapped (used_aim rows caller aim) (already_leads floatings network aim) free in
    λ k g at_g. (λ j. stands_for (network_is j) (port_is j) (sym fixed_is j) g) ∙ unfound (stands_for network aim.port.id (number aim.fixed.address)) floatings none k g at_g

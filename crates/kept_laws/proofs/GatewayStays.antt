-- A changed subnet keeps the gateway that a router's interface holds: what `IsReplacedSubnet` asks of its ports follows from the refusal.
use Rattle.std.proofs.Common.{◌≡◌, ℕ, zero, suc, List, [], ◌∷◌, Bool, true, false, Option, Some, None, slice_get, refl, ap, sym, ◌∙◌, not}
use Rattle.std.specs.Prelude.{find, if◌then◌else◌, ◌&&◌, ◌||◌, option_map}
use Rattle.std.specs.List.{list_all}
use Rattle.net_addr.proofs.AddrLemmas.{addr_itself, addr_same}
use Rattle.net_addr.specs.Addresses.{addr_eq}
use Rattle.net_addr.specs.Prefixes.{Prefix, eui}
use Rattle.net_addr.specs.declared.address.Addr.{Addr}
use Rattle.api_types.proofs.TableLemmas.{ident_eq-sym}
use Rattle.api_types.specs.Consistent.Hosts.{is_own_address}
use Rattle.api_types.specs.Consistent.InForm.{makes_eui}
use Rattle.api_types.specs.Lists.{Pass, is_some_so}
use Rattle.api_types.specs.Owners.{is_interface}
use Rattle.api_types.specs.RowLists.{RowLists}
use Rattle.api_types.specs.Table.{ident_eq}
use Rattle.api_types.specs.declared.call.Caller.{Caller}
use Rattle.api_types.specs.declared.port.Fixed.{Fixed}
use Rattle.api_types.specs.declared.port.PortRow.{PortRow}
use Rattle.api_types.specs.declared.subnet.Ipv6Mode.{Ipv6Mode}
use Rattle.api_types.specs.declared.subnet.SubnetRow.{SubnetRow}
use Rattle.row_laws.specs.Replaced.{is_owned_still}
use Rattle.api_types.proofs.ListLemmas.{at-any, both_and, false_true, none_some, some_equal}
use Rattle.api_types.proofs.NameLemmas.{at-all}
use Rattle.api_policy.specs.Uses.{gateway_user, holds_gateway, old_gateway_in_use}

-- where nothing is found, each fails the test
pub unfound : {R : Type 0} (test : R → Bool) (xs : List R) (k : ℕ) (x : R) → find test xs ≡ None → slice_get xs k ≡ Some x → test x ≡ false
unfound test [] k x h at = none_some x _ at
unfound test (a ∷ xs) k x h at = by (test a) refl h k at (λ j g. unfound test xs j x g)
  where
    by : (b : Bool) → test a ≡ b → (if b then Some a else find test xs) ≡ None → (k : ℕ) → slice_get (a ∷ xs) k ≡ Some x
        → ((j : ℕ) → find test xs ≡ None → slice_get xs j ≡ Some x → test x ≡ false) → test x ≡ false
    by true is h k at rest = none_some a _ (sym h)
    by false is h zero at rest = ap test (sym (some_equal a x at)) ∙ is
    by false is h (suc k) at rest = rest k h at

pub unmapped : {X Y : Type 0} (f : X → Y) (o : Option X) → option_map f o ≡ None → o ≡ None
unmapped f None h = refl
unmapped f (Some x) h = none_some (f x) _ (sym h)

-- an interface's address that is the old gateway is the new one
module _ (ports : List PortRow) (s : SubnetRow) (k : ℕ) (p : PortRow) (at : slice_get ports k ≡ Some p) (n : ℕ) (f : Fixed) (held : slice_get p.fixed n ≡ Some f)
    (is : is_interface p.owner ≡ true) (inside : ident_eq f.subnet s.id ≡ true) where
  holds : (x : Addr) → addr_eq f.address x ≡ true → holds_gateway s x p ≡ true
  holds x same = both_and _ _ is (at-any (λ (g : Fixed). ident_eq s.id g.subnet && addr_eq g.address x) p.fixed n f held (both_and _ _ (ident_eq-sym s.id f.subnet ∙ inside) same))

  is_new : (x : Addr) (new : Option Addr) → addr_eq f.address x ≡ true → is_some_so (λ y. addr_eq y x) new ≡ true → is_some_so (addr_eq f.address) new ≡ true
  is_new x None same now = now
  is_new x (Some y) same now = ap (λ z. addr_eq z y) (addr_same f.address x same ∙ sym (addr_same y x now)) ∙ addr_itself y

  pub gateway_still : (old new : Option Addr) → gateway_user ports s old new ≡ None → is_some_so (addr_eq f.address) old ≡ true → is_some_so (addr_eq f.address) new ≡ true
  gateway_still None new h was = false_true _ was
  gateway_still (Some x) new h was = by (is_some_so (λ y. addr_eq y x) new) refl h
    where
      by : (b : Bool) → is_some_so (λ y. addr_eq y x) new ≡ b → (if b then None else find (holds_gateway s x) ports) ≡ None → is_some_so (addr_eq f.address) new ≡ true
      by true now h = is_new x new was now
      by false now h = false_true _ (sym (unfound (holds_gateway s x) ports k p h at) ∙ holds x was)

weaker : (e f i g h : Bool) → (i ≡ true → g ≡ true → h ≡ true) → e || (f || (i && g)) ≡ true → e || (f || (i && h)) ≡ true
weaker true f i g h w t = refl
weaker false true i g h w t = refl
weaker false false true g h w t = w refl t
weaker false false false g h w t = t

kept : (a b c : Bool) → (a ≡ true → b ≡ true → c ≡ true) → not a || (not b || c) ≡ true
kept false b c w = refl
kept true false c w = refl
kept true true c w = w refl refl

pub gateway_stays : (rows : RowLists) (caller : Caller) (old new : SubnetRow) → new.address_mode ≡ old.address_mode → new.prefix ≡ old.prefix
    → old_gateway_in_use rows caller old new ≡ None → Pass (λ p. list_all (is_owned_still old new p) p.fixed) rows.ports
gateway_stays rows caller old new mode prefix free k p at = at-all (is_owned_still old new p) p.fixed (λ n f held. kept (ident_eq f.subnet old.id) (is_own_address p f.address old) (is_own_address p f.address new)
    (λ inside was. (λ j. own f (mode j) (prefix j) new.gateway) ∙ weaker _ _ _ _ _
    (λ is. gateway_still rows.ports old k p at n f held is inside old.gateway new.gateway (unmapped _ (gateway_user rows.ports old old.gateway new.gateway) free)) was))
  where
    own : Fixed → Option Ipv6Mode → Prefix → Option Addr → Bool
    own f mode prefix gateway = not (is_some_so makes_eui mode) || (addr_eq f.address (eui prefix p.mac) || (is_interface p.owner && is_some_so (addr_eq f.address) gateway))

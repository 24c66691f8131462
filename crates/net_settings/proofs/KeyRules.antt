-- Drivers, numbers and quotas that were read meet their rules.
use Rattle.std.proofs.Common.{◌≡◌, ℕ, ◌≤◌, ℤ, pos, negsuc, zero, suc, Bool, true, false, ◌&&◌, nat_le, nat_lt, List, codes, Option, Some, None, option_and_then, unwrap_or, if◌then◌else◌, refl, subst, arith, lit≤}
use Rattle.std.proofs.lemmas.Bool.{and_parts, and_from}
use Rattle.std.proofs.lemmas.Bool.Decides.{nat_tests}
use Rattle.std.proofs.lemmas.Option.{same_Some}
use Rattle.toml.specs.Data.{Data, Members, get_member, as_integer, as_table}
use Rattle.net_settings.specs.declared.settings.Driver.{Driver}
use Rattle.net_settings.specs.declared.settings.Limit.{Limit}
use Rattle.net_settings.specs.declared.settings.Limit.TheVariants.{AtMost}
use Rattle.net_settings.specs.declared.settings.Quotas.{Quotas}
use Rattle.net_settings.specs.Drivers.{is_each_once, if_each_once, drivers_among, drivers_from}
use Rattle.net_settings.specs.Numbers.{if_vxlan, vxlan_from, unless_above, vxlan_first_in, vxlan_last_in}
use Rattle.net_settings.specs.Quotas.{if_limit, limit_of, limit_at, if_quotas, quotas_among, quotas_from, are_quotas}
use Rattle.net_settings.specs.Rules.{is_in_range, are_in_range}
use Rattle.net_settings.specs.Texts.{texts_of}
use Rattle.net_settings.proofs.Kept.{passed, stepped}

pub drivers_once : (o : Option Data) (drivers : List Driver) → drivers_from o ≡ Some drivers → is_each_once drivers ≡ true
drivers_once None drivers e = subst (λ x. is_each_once x ≡ true) (same_Some _ drivers e) refl
drivers_once (Some d) drivers e =
    let s = stepped if_each_once (option_and_then drivers_among (texts_of d)) drivers e in
    passed is_each_once (is_each_once s.0) s.0 drivers refl s.2

abbrev is_vxlan : ℕ → Bool
is_vxlan n = nat_le 1 n && nat_le n 16777215

pub record InRange (n : ℕ) : Type 0 where
  pub least : 1 ≤ n
  pub most : n ≤ 16777215

in_range : (n : ℕ) → is_vxlan n ≡ true → InRange n
in_range n e =
    let parts = and_parts (nat_le 1 n) (nat_le n 16777215) e in
    record { least = grind (arith, nat_tests); most = grind (arith, nat_tests) }

vxlan_in_range : (z : ℤ) (n : ℕ) → if_vxlan z ≡ Some n → InRange n
vxlan_in_range (pos m) n e = in_range n (passed is_vxlan (is_vxlan m) m n refl e)
vxlan_in_range (negsuc m) n e = absurd (cc)

from_in_range : (default : ℕ) (o : Option Data) (n : ℕ) → InRange default → vxlan_from default o ≡ Some n → InRange n
from_in_range default None n good e = subst InRange (same_Some default n e) good
from_in_range default (Some d) n good e =
    let s = stepped if_vxlan (as_integer d) n e in
    vxlan_in_range s.0 n s.2

pub last_in_range : (ms : Members) (n : ℕ) → vxlan_last_in ms ≡ Some n → InRange n
last_in_range ms n e = from_in_range 1000 (get_member (codes "vxlan_last") ms) n (record { least = lit≤ tt; most = lit≤ tt }) e

-- the first number is the one read, and not above the last
pub record IsFirst (first last : ℕ) : Type 0 where
  pub least : 1 ≤ first
  pub in_order : first ≤ last

not_above : (b : Bool) (last n first : ℕ) → nat_lt last n ≡ b → (if b then None else Some n) ≡ Some first → InRange n → IsFirst first last
not_above true last n first above e good = absurd (cc)
not_above false last n first above e good =
    let same : n ≡ first = same_Some n first e in
    let least = good.least in
    record { least = omega arith; in_order = grind (arith, nat_tests) }

pub first_in_order : (ms : Members) (first last : ℕ) → vxlan_first_in ms ≡ Some first → vxlan_last_in ms ≡ Some last → IsFirst first last
first_in_order ms first last e l =
    let s = stepped (unless_above (vxlan_last_in ms)) (vxlan_from 1 (get_member (codes "vxlan_first") ms)) first e in
    let good = from_in_range 1 (get_member (codes "vxlan_first") ms) s.0 (record { least = lit≤ tt; most = lit≤ tt }) s.1 in
    let step = subst (λ o. unless_above o s.0 ≡ Some first) l s.2 in
    not_above (nat_lt last s.0) last s.0 first refl step good

limit_in_range : (z : ℤ) (l : Limit) → if_limit z ≡ Some l → is_in_range l ≡ true
limit_in_range (pos n) l e = by_test (nat_le n 2147483647) refl e
  where
    by_test : (b : Bool) → nat_le n 2147483647 ≡ b → (if b then Some (AtMost n) else None) ≡ Some l → is_in_range l ≡ true
    by_test true small e = subst (λ x. is_in_range x ≡ true) (same_Some (AtMost n) l e) small
    by_test false small e = absurd (cc)
limit_in_range (negsuc zero) l e = subst (λ x. is_in_range x ≡ true) (same_Some _ l e) refl
limit_in_range (negsuc (suc n)) l e = absurd (cc)

or_default : (default : Limit) (o : Option Limit) → is_in_range default ≡ true → ((l : Limit) → o ≡ Some l → is_in_range l ≡ true) → is_in_range (unwrap_or o default) ≡ true
or_default default None good each = good
or_default default (Some l) good each = each l refl

limit_at-in_range : (key : List ℕ) (default : Limit) (ms : Members) → is_in_range default ≡ true → is_in_range (limit_at key default ms) ≡ true
limit_at-in_range key default ms good =
    or_default default (option_and_then limit_of (get_member key ms)) good (λ l e.
    let found = stepped limit_of (get_member key ms) l e in
    let read = stepped if_limit (as_integer found.0) l found.2 in
    limit_in_range read.0 l read.2)

among_in_range : (ms : Members) → are_in_range (quotas_among ms) ≡ true
among_in_range ms =
    and_from _ _
    (and_from _ _
    (and_from _ _
    (and_from _ _
    (and_from _ _
    (and_from _ _
    (and_from _ _ (limit_at-in_range (codes "network") (AtMost 100) ms refl) (limit_at-in_range (codes "subnet") (AtMost 100) ms refl))
    (limit_at-in_range (codes "port") (AtMost 500) ms refl))
    (limit_at-in_range (codes "router") (AtMost 10) ms refl))
    (limit_at-in_range (codes "floatingip") (AtMost 50) ms refl))
    (limit_at-in_range (codes "security_group") (AtMost 10) ms refl))
    (limit_at-in_range (codes "security_group_rule") (AtMost 100) ms refl))
    (limit_at-in_range (codes "rbac_policy") (AtMost 10) ms refl)

if_quotas-in_range : (b : Bool) (ms : Members) (q : Quotas) → (if b then Some (quotas_among ms) else None) ≡ Some q → are_in_range q ≡ true
if_quotas-in_range true ms q e = subst (λ x. are_in_range x ≡ true) (same_Some (quotas_among ms) q e) (among_in_range ms)
if_quotas-in_range false ms q e = absurd (cc)

pub quotas_in_range : (o : Option Data) (q : Quotas) → quotas_from o ≡ Some q → are_in_range q ≡ true
quotas_in_range None q e = subst (λ x. are_in_range x ≡ true) (same_Some _ q e) refl
quotas_in_range (Some d) q e =
    let s = stepped if_quotas (as_table d) q e in
    if_quotas-in_range (are_quotas s.0) s.0 q s.2

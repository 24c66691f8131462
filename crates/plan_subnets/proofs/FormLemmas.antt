-- What a body that breaks no rule says of a new subnet.
use Rattle.std.proofs.Common.{◌≡◌, ◌∙◌, ◌≤◌, Bool, true, false, not, [], ◌∷◌, Option, Some, None, ap, arith, refl, sym}
use Rattle.std.specs.Prelude.{codes, ◌&&◌, ◌==◌, ◌||◌, nat_le}
use Rattle.std.proofs.lemmas.Bool.Decides.{nat_tests}
use Rattle.api_ipam.specs.Euis.{fits_eui}
use Rattle.api_types.specs.Consistent.InForm.{longest_of, makes_eui, mode_eq}
use Rattle.api_types.specs.Given.{value_of, value_or}
use Rattle.api_types.specs.Ident.{Ident}
use Rattle.api_types.specs.Lists.{if_some, is_some_so}
use Rattle.api_types.specs.Refusing.{first_refusal, when}
use Rattle.api_types.specs.declared.form.Given.TheVariants.{Absent, Is, Null}
use Rattle.api_types.specs.declared.form.Given.{Given}
use Rattle.api_types.specs.declared.form.IpVersion.TheVariants.{V4, V6}
use Rattle.api_types.specs.declared.form.IpVersion.{IpVersion}
use Rattle.api_types.specs.declared.form.SubnetForm.{SubnetForm}
use Rattle.api_types.specs.declared.network.NetworkRow.{NetworkRow}
use Rattle.api_types.specs.declared.refusal.Refusal.TheVariants.{Invalid}
use Rattle.api_types.specs.declared.refusal.Refusal.{Refusal}
use Rattle.api_types.specs.declared.subnet.Ipv6Mode.{Ipv6Mode}
use Rattle.api_types.proofs.ListLemmas.{and_both, false_true, or_none}
use Rattle.call_parts.specs.InForm.{if_value, is_cidr, is_subnet_body, is_there}
use Rattle.net_addr.specs.Addresses.{is_v4, same_version}
use Rattle.net_addr.specs.Prefixes.{Prefix}
use Rattle.net_addr.specs.declared.address.Addr.TheVariants.{V4 as Four, V6 as Six}
use Rattle.net_addr.specs.declared.address.Addr.{Addr}
use Rattle.plan_subnets.specs.SubnetCalls.{new_subnet, prefix_asked}
use Rattle.plan_subnets.specs.SubnetRules.{bad_modes, bad_parts, bad_versions, is_bad_mode, is_version, may_have_mode, of_version}

-- a prefix that is named isn't too long
short : (g : Given Prefix) → if_value is_cidr g ≡ true → (value_or {T = Prefix} (record { base = Four 0; len = 1 }) g).len ≤ longest_of (value_or {T = Prefix} (record { base = Four 0; len = 1 }) g).base
short Absent h = omega arith
short Null h = omega arith
short (Is p) h = let le : nat_le p.len (longest_of p.base) ≡ true = (and_both (nat_le 1 p.len) (nat_le p.len (longest_of p.base)) h).1 in grind (arith, nat_tests)

pub prefix_short : (form : SubnetForm) → is_subnet_body form ≡ true → (prefix_asked form).len ≤ longest_of (prefix_asked form).base
prefix_short form h =
    let a = (and_both _ _ h).0 in
    let b = (and_both _ _ a).0 in
    let c = (and_both _ _ b).0 in
    let d = (and_both _ _ c).0 in
    let e = (and_both _ _ d).0 in
    short form.cidr (and_both _ _ e).0

none_first : (a b c : Option Refusal) → first_refusal (a ∷ b ∷ c ∷ []) ≡ None → (a ≡ None) × (c ≡ None)
none_first (Some x) b c h = absurd (cc)
none_first None (Some x) c h = absurd (cc)
none_first None None (Some x) h = absurd (cc)
none_first None None None h = (refl, refl)

none_of_two : (a b : Option Refusal) → first_refusal (a ∷ b ∷ []) ≡ None → a ≡ None
none_of_two (Some x) b h = absurd (cc)
none_of_two None b h = refl

no_when : (b : Bool) (e : Refusal) → when b e ≡ None → b ≡ false
no_when true e h = absurd (cc)
no_when false e h = refl

negated : (b : Bool) → not b ≡ false → b ≡ true
negated true h = refl
negated false h = cc

six_only : (v : IpVersion) (x : Addr) → is_version V6 v ≡ true → same_version (of_version v) x ≡ true → not (is_v4 x) ≡ true
six_only V4 x h g = false_true _ h
six_only V6 (Four n) h g = false_true _ g
six_only V6 (Six n) h g = refl

-- by the mode, and whether it may be there, agrees with the other and has the length
good_mode : (may alike makes whole six : Bool) → (may ≡ true → six ≡ true) → not may || not alike || (makes && not whole) ≡ false → not makes || (six && whole) ≡ true
good_mode may alike false whole six w h = refl
good_mode may alike true whole six w h =
    let both = or_none (not may || not alike) (not whole) h in
    let first = or_none (not may) (not alike) both.0 in
    let is_six = w (negated may first.0) in
    let is_whole = negated whole both.1 in
    λ j. is_six j && is_whole j

-- where no rule is broken, addresses are made of MAC addresses in 64 bits of version 6 alone
pub new_fits : (form : SubnetForm) (n : NetworkRow) (i : Ident) → is_there form.cidr ≡ true → bad_parts form ≡ None → fits_eui (new_subnet form n i) ≡ true
new_fits form n i there good = by form.cidr refl there
  where
    parts : (when (is_some_so (λ (p : Prefix). not (same_version (of_version (value_or V4 form.ip_version)) p.base)) (value_of form.cidr)) (Invalid (codes "cidr")) ≡ None) × (bad_modes form ≡ None)
    parts = none_first _ (bad_versions (of_version (value_or V4 form.ip_version)) form) (bad_modes form) good

    version : is_some_so (λ (p : Prefix). not (same_version (of_version (value_or V4 form.ip_version)) p.base)) (value_of form.cidr) ≡ false
    version = no_when _ (Invalid (codes "cidr")) parts.0

    mode : is_some_so (is_bad_mode form) (value_of form.ipv6_address_mode) ≡ false
    mode = no_when _ (Invalid (codes "ipv6_address_mode")) (none_of_two _ _ parts.1)

    at_mode : (p : Prefix) → form.cidr ≡ Is p → (am : Option Ipv6Mode) → is_some_so (is_bad_mode form) am ≡ false → not (is_some_so makes_eui am) || (not (is_v4 p.base) && (p.len == 64)) ≡ true
    at_mode p is None h = refl
    at_mode p is (Some m) h =
        let same : same_version (of_version (value_or V4 form.ip_version)) p.base ≡ true =
        negated _ (ap (λ g. is_some_so (λ (q : Prefix). not (same_version (of_version (value_or V4 form.ip_version)) q.base)) (value_of g)) (sym is) ∙ version) in
        good_mode (may_have_mode form) (if_some (mode_eq m) (value_of form.ipv6_ra_mode)) (makes_eui m) (p.len == 64) (not (is_v4 p.base))
        (λ may. six_only (value_or V4 form.ip_version) p.base (and_both (is_version V6 (value_or V4 form.ip_version)) (value_or true form.enable_dhcp) may).0 same)
        (ap (λ g. not (may_have_mode form) || not (if_some (mode_eq m) (value_of form.ipv6_ra_mode)) || (makes_eui m && is_some_so (λ (q : Prefix). not (q.len == 64)) (value_of g))) (sym is) ∙ h)

    by : (g : Given Prefix) → form.cidr ≡ g → is_there g ≡ true → fits_eui (new_subnet form n i) ≡ true
    by Absent is h = cc
    by Null is h = cc
    by (Is p) is h =
        ap (λ g. not (is_some_so makes_eui (value_of form.ipv6_address_mode)) || (not (is_v4 (value_or {T = Prefix} (record { base = Four 0; len = 1 }) g).base) && ((value_or {T = Prefix} (record { base = Four 0; len = 1 }) g).len == 64))) is
        ∙ at_mode p is (value_of form.ipv6_address_mode) mode

-- What a tenant's footing tells of a network that is near: its subnets, and which addresses and MAC addresses are held on it.
use Rattle.std.proofs.Common.{◌≡◌, ◌^◌, List, Bool, true, false, Option, Some, slice_get, refl, ap, sym, ◌∙◌, arith, not, ℕ}
use Rattle.std.specs.Prelude.{◌&&◌, ◌||◌, option_and_then}
use Rattle.std.specs.Str.{bytes_eq}
use Rattle.api_types.specs.Least.{least_from}
use Rattle.api_types.specs.HeldAddresses.{is_mac_held}
use Rattle.api_ipam.specs.MacChoice.{first_mac, free_mac, mac_for, mac_if}
use Rattle.api_policy.specs.Permits.{network_owner}
use Rattle.api_policy.specs.Seen.{network_seen}
use Rattle.api_policy.specs.Visibility.{owns_network}
use Rattle.apart_laws.specs.Footing.{blank, footing}
use Rattle.api_types.specs.Refusing.{needing, answer_alone, when}
use Rattle.call_parts.specs.State.{State, drawing_at}
use Rattle.api_types.specs.Consistent.{IsConsistent}
use Rattle.api_types.specs.Consistent.Named.{names_subnet}
use Rattle.api_types.specs.Ident.{Ident}
use Rattle.api_types.specs.Lists.{stands_so}
use Rattle.api_types.specs.Outcome.{Outcome}
use Rattle.api_types.specs.Owners.{holds_in}
use Rattle.api_types.specs.Registration.{Drawing}
use Rattle.api_types.specs.RowLists.{RowLists}
use Rattle.api_types.specs.Table.{ident_eq}
use Rattle.api_types.specs.declared.call.Caller.{Caller}
use Rattle.api_types.specs.declared.form.Given.TheVariants.{Absent, Is, Null}
use Rattle.api_types.specs.declared.form.Given.{Given}
use Rattle.api_types.specs.declared.network.NetworkRow.{NetworkRow}
use Rattle.api_types.specs.declared.port.Fixed.{Fixed}
use Rattle.api_types.specs.declared.port.PortRow.{PortRow}
use Rattle.api_types.specs.declared.refusal.PolicyRule.TheVariants.{NetworkOwner}
use Rattle.api_types.specs.declared.refusal.Refusal.TheVariants.{CountersSpent, Forbidden}
use Rattle.api_types.specs.declared.refusal.Refusal.{Refusal}
use Rattle.api_types.specs.declared.subnet.SubnetRow.{SubnetRow}
use Rattle.net_settings.specs.Settings.{SettingsParts}
use Rattle.api_types.proofs.ListLemmas.{any-at}
use Rattle.api_types.proofs.NameLemmas.{all-at, ident_same}
use Rattle.apart_laws.proofs.DrawnAlike.{counts_of}
use Rattle.apart_laws.proofs.FootingLemmas.{named_same, network_id}
use Rattle.apart_laws.proofs.ApartLemmas.{needing_same, stands_there, then_alike}
use Rattle.apart_laws.proofs.OwnAlike.{drawn_alike, owns_alike}

-- two lists of ports hold the same on a network
module _ (ports others : List PortRow) (i : Ident) (macs : is_mac_held ports i ≡ is_mac_held others i) where
  pub free_mac_same : free_mac ports i ≡ free_mac others i
  free_mac_same = ap (λ (held : ℕ → Bool). least_from (λ m. not (held m)) first_mac (2 ^ 24)) macs

  pub mac_if_same : (makes : Bool) → mac_if makes ports i ≡ mac_if makes others i
  mac_if_same true = free_mac_same
  mac_if_same false = refl

  pub mac_for_same : (asked : Given ℕ) → mac_for ports i asked ≡ mac_for others i asked
  mac_for_same Absent = free_mac_same
  mac_for_same Null = free_mac_same
  mac_for_same (Is mac) = refl

-- a port with an address in a subnet is on the subnet's network
pub holder_on : (rows : RowLists) → IsConsistent rows → (k : ℕ) (r : SubnetRow) → slice_get rows.subnets k ≡ Some r → (l : ℕ) (p : PortRow) → slice_get rows.ports l ≡ Some p → holds_in r.id p ≡ true
    → ident_eq r.network p.network ≡ true
holder_on rows c k r at l p at_p holds =
    let there = any-at (λ (f : Fixed). ident_eq r.id f.subnet) p.fixed holds in
    sym (stands_there (λ (s : SubnetRow). s.id) (λ (s : SubnetRow). ident_eq s.network p.network) rows.subnets (λ i. omega (arith, c.numbered.ids i)) k r at)
    ∙ (ap (λ i. stands_so (λ (s : SubnetRow). s.id) i (λ (s : SubnetRow). ident_eq s.network p.network) rows.subnets) (ident_same r.id there.1.subnet there.3)
    ∙ all-at (names_subnet rows.subnets p) p.fixed (c.named.subnets.of_ports l p at_p) there.0 there.1 there.2)

-- whether a network's project owns it is told by the row
pub owns_is : (rows : RowLists) → IsConsistent rows → (k : ℕ) (n : NetworkRow) → slice_get rows.networks k ≡ Some n → (project : List ℕ) → owns_network rows project n.id ≡ bytes_eq n.project project
owns_is rows c k n at project = stands_there network_id (λ (m : NetworkRow). bytes_eq m.project project) rows.networks (λ i. omega (arith, c.numbered.ids i)) k n at

module _ (settings : SettingsParts) (caller : Caller) (tenant : caller.admin ≡ false) (s t : State) (same : footing settings s caller ≡ footing settings t caller) where
  pub network_owner_alike : (i : Ident) (needed : Bool) → network_owner s.rows caller needed i ≡ network_owner t.rows caller needed i
  network_owner_alike i needed = ap (λ owns. when (needed && not (caller.admin || owns)) (Forbidden NetworkOwner)) (owns_alike settings caller tenant s t same i)

  -- what is made of a network that is named
  pub then_named : {Y : Type 0} (name : Option Ident) (f g : NetworkRow → Option Y)
      → ((n m : NetworkRow) → network_seen s.rows caller name ≡ Some n → network_seen t.rows caller name ≡ Some m → blank n ≡ blank m → f n ≡ g m)
      → option_and_then f (network_seen s.rows caller name) ≡ option_and_then g (network_seen t.rows caller name)
  then_named name f g here = then_alike (network_seen s.rows caller name) (network_seen t.rows caller name) blank (named_same settings caller s t same name) f g here

  -- addresses, a MAC address and ids are chosen alike
  pub chosen_alike : {A : Type 0} (refusal : Refusal) (o p : Option A) → o ≡ p → (q r : Option ℕ) → q ≡ r → (name : List ℕ) → name ≡ caller.project → (many : ℕ) (f g : A → ℕ → Drawing → Outcome)
      → ((a : A) (mac : ℕ) (x y : Drawing) → drawing_at s caller.project many ≡ Some x → drawing_at t caller.project many ≡ Some y → counts_of x ≡ counts_of y → answer_alone (f a mac x) ≡ answer_alone (g a mac y))
      → answer_alone (needing refusal o (λ a. needing CountersSpent q (λ mac. needing CountersSpent (drawing_at s name many) (f a mac))))
      ≡ answer_alone (needing refusal p (λ a. needing CountersSpent r (λ mac. needing CountersSpent (drawing_at t name many) (g a mac))))
  chosen_alike refusal o p addresses q r macs name own many f g here =
      needing_same refusal o p (λ a. needing CountersSpent q (λ mac. needing CountersSpent (drawing_at s name many) (f a mac))) (λ a. needing CountersSpent r (λ mac. needing CountersSpent (drawing_at t name many) (g a mac))) addresses
      (λ a _ _. needing_same CountersSpent q r (λ mac. needing CountersSpent (drawing_at s name many) (f a mac)) (λ mac. needing CountersSpent (drawing_at t name many) (g a mac)) macs
      (λ mac _ _. drawn_alike settings caller tenant s t same name own many (f a mac) (g a mac) (here a mac)))

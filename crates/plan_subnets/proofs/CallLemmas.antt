-- Where calls on subnets lead whose parts are known.
use Rattle.std.proofs.Common.{◌≡◌, ◌∙◌, ℕ, ◌+◌, ◌<◌, ◌≤◌, Bool, true, false, not, List, [], ◌∷◌, Option, Some, None, ap, arith, find, inl, inr, refl, sym}
use Rattle.std.specs.Prelude.{◌⊎◌, ◌&&◌, if◌then◌else◌, is_none, option_and_then}
use Rattle.api_ipam.specs.MacChoice.{mac_if}
use Rattle.api_policy.specs.Seen.{network_seen, subnet_seen}
use Rattle.api_ipam.proofs.EuiLemmas.{fits_if_formed}
use Rattle.api_ipam.specs.Euis.{fits_eui}
use Rattle.api_policy.specs.Visibility.{sees_network, sees_subnet}
use Rattle.api_types.specs.Consistent.InForm.{is_subnet_form}
use Rattle.api_types.specs.Consistent.{IsConsistent}
use Rattle.api_types.specs.Consistent.Named.{is_registered}
use Rattle.api_types.specs.Given.{value_of}
use Rattle.api_types.specs.HeldAddresses.{fixed_at}
use Rattle.api_types.specs.Ident.{Ident}
use Rattle.api_types.specs.Lists.{is_empty}
use Rattle.api_types.specs.Outcome.{Moved, Outcome, Refused}
use Rattle.api_types.specs.Printed.{NewRow, OneRow}
use Rattle.api_types.specs.Refusing.{first_refusal, needing, not_found, unless, when}
use Rattle.api_types.specs.Registration.{Drawing, drawn_id}
use Rattle.api_types.specs.RowLists.{RowLists}
use Rattle.api_types.specs.Table.{ident_eq, row_of}
use Rattle.api_types.specs.declared.call.Caller.{Caller}
use Rattle.api_types.specs.declared.call.IdText.{IdText}
use Rattle.api_types.specs.declared.form.SubnetForm.{SubnetForm}
use Rattle.api_types.specs.declared.kind.Kind.TheVariants.{Network as NetworkKind, Subnet as SubnetKind}
use Rattle.api_types.specs.declared.kind.Row.TheVariants.{Subnet}
use Rattle.api_types.specs.declared.network.NetworkRow.{NetworkRow}
use Rattle.api_types.specs.declared.refusal.Refusal.TheVariants.{CountersSpent, OutOfMemory as MemoryRefusal, PoolsSpent}
use Rattle.api_types.specs.declared.refusal.Refusal.{Refusal}
use Rattle.api_types.specs.declared.subnet.SubnetRow.{SubnetRow}
use Rattle.api_types.proofs.ListLemmas.{each-filter, none_some}
use Rattle.call_parts.specs.Answers.{IsOrMemory, IsRefusalIn, IsRefusalOf}
use Rattle.call_parts.specs.BodyNames.{no_id, text_of}
use Rattle.call_parts.specs.Edits.{Add, accepted, made}
use Rattle.call_parts.specs.State.{State, drawing_at}
use Rattle.net_addr.specs.declared.address.Addr.{Addr}
use Rattle.net_settings.specs.Settings.{SettingsParts}
use Rattle.row_laws.proofs.DrawnKept.{drawn_new, draws}
use Rattle.row_laws.proofs.PlaceLemmas.{has_name}
use Rattle.row_laws.specs.Drawn.{AreNew, IsDrawing}
use Rattle.plan_subnets.specs.DhcpUpkeep.{begin_serving, dhcp_address, makes_dhcp_port}
use Rattle.plan_subnets.specs.Plans.{body_refusal, lease_refusal}
use Rattle.plan_subnets.specs.SubnetCalls.{changed_subnet, creation_refusal, dhcp_asked, gateway_asked, new_subnet, pools_asked, prefix_asked, subnet_added, subnet_changed, subnet_created, subnet_edits, subnet_made, subnet_shown, subnet_updated, update_refusal}
use Rattle.plan_subnets.specs.SubnetRules.{bad_cidr, bad_parts, bad_subnet}
use Rattle.call_parts.proofs.DrawnLemmas.{drawn_is}
use Rattle.call_parts.proofs.OwnerLemmas.{found_holds}

-- three refusals in order, and what comes behind them
three_refused : (a b c : Option Refusal) (rest : Outcome) (e : Refusal) → first_refusal (a ∷ b ∷ c ∷ []) ≡ Some e → unless a (unless b (unless c rest)) ≡ Refused e
three_refused (Some x) b c rest e h = cc
three_refused None (Some x) c rest e h = cc
three_refused None None (Some x) rest e h = cc
three_refused None None None rest e h = cc

three_passed : (a b c : Option Refusal) (rest : Outcome) → first_refusal (a ∷ b ∷ c ∷ []) ≡ None → unless a (unless b (unless c rest)) ≡ rest
three_passed (Some x) b c rest h = absurd (cc)
three_passed None (Some x) c rest h = absurd (cc)
three_passed None None (Some x) rest h = absurd (cc)
three_passed None None None rest h = refl

first_none : (a b c : Option Refusal) → first_refusal (a ∷ b ∷ c ∷ []) ≡ None → a ≡ None
first_none (Some x) b c h = absurd (cc)
first_none None b c h = refl

-- a body that passes breaks no rule of its own parts
pub parts_passed : (rows : RowLists) (caller : Caller) (form : SubnetForm) → body_refusal rows caller form ≡ None → bad_parts form ≡ None
parts_passed rows caller form passed =
    first_none (bad_parts form) (option_and_then (bad_cidr rows (prefix_asked form)) (network_seen rows caller (value_of form.network_id))) (bad_subnet (prefix_asked form) (gateway_asked form) (pools_asked form)) passed

module _ (settings : SettingsParts) (state : State) (caller : Caller) (form : SubnetForm) where
  abbrev on_seen : Option NetworkRow → Outcome
  on_seen found = needing (not_found NetworkKind (text_of (value_of form.network_id))) found (λ n. subnet_made settings state caller form n (makes_dhcp_port state.rows.ports n.id (dhcp_asked form)))

  pub body_refused : (e : Refusal) → IsRefusalIn (body_refusal state.rows caller form) e → IsRefusalOf (subnet_created settings state caller form) e
  body_refused e (inl memory) = inl memory
  body_refused e (inr is) = inr (three_refused (bad_parts form) (option_and_then (bad_cidr state.rows (prefix_asked form)) (network_seen state.rows caller (value_of form.network_id)))
      (bad_subnet (prefix_asked form) (gateway_asked form) (pools_asked form)) (on_seen (network_seen state.rows caller (value_of form.network_id))) e is)

  pub body_passed : body_refusal state.rows caller form ≡ None → subnet_created settings state caller form ≡ on_seen (network_seen state.rows caller (value_of form.network_id))
  body_passed passed = three_passed (bad_parts form) (option_and_then (bad_cidr state.rows (prefix_asked form)) (network_seen state.rows caller (value_of form.network_id)))
      (bad_subnet (prefix_asked form) (gateway_asked form) (pools_asked form)) (on_seen (network_seen state.rows caller (value_of form.network_id))) passed

  pub body_unfound : (e : Refusal) → body_refusal state.rows caller form ≡ None → network_seen state.rows caller (value_of form.network_id) ≡ None
      → IsOrMemory (not_found NetworkKind (text_of (value_of form.network_id))) e → IsRefusalOf (subnet_created settings state caller form) e
  body_unfound e passed none (inl memory) = inl memory
  body_unfound e passed none (inr is) = inr (body_passed passed ∙ (ap on_seen none ∙ ap Refused (sym is)))

  pub created_on : (n : NetworkRow) → body_refusal state.rows caller form ≡ None → network_seen state.rows caller (value_of form.network_id) ≡ Some n
      → subnet_created settings state caller form ≡ subnet_made settings state caller form n (makes_dhcp_port state.rows.ports n.id (dhcp_asked form))
  created_on n passed seen = body_passed passed ∙ ap on_seen seen

-- what a subnet that begins to be leased needs, and then ids
abbrev leased : Ident → Option Addr → Option ℕ → Option Drawing → (Addr → ℕ → Drawing → Outcome) → Outcome
leased network address mac drawing rest = needing (PoolsSpent network) address (λ x. needing CountersSpent mac (λ m. needing CountersSpent drawing (rest x m)))

unleased : (network : Ident) (address : Option Addr) (mac : Option ℕ) (drawing : Option Drawing) (rest : Addr → ℕ → Drawing → Outcome) (e : Refusal)
    → first_refusal (when (is_none address) (PoolsSpent network) ∷ when (is_none mac) CountersSpent ∷ []) ≡ Some e → leased network address mac drawing rest ≡ Refused e
unleased network None mac drawing rest e h = cc
unleased network (Some x) None drawing rest e h = cc
unleased network (Some x) (Some m) drawing rest e h = cc

undrawn : (network : Ident) (address : Option Addr) (mac : Option ℕ) (drawing : Option Drawing) (rest : Addr → ℕ → Drawing → Outcome) (x : Addr) (m : ℕ)
    → address ≡ Some x → mac ≡ Some m → drawing ≡ None → leased network address mac drawing rest ≡ Refused CountersSpent
undrawn network address mac drawing rest x m is_x is_m none = λ j. leased network (is_x j) (is_m j) (none j) rest

all_there : (network : Ident) (address : Option Addr) (mac : Option ℕ) (drawing : Option Drawing) (rest : Addr → ℕ → Drawing → Outcome) (x : Addr) (m : ℕ) (d : Drawing)
    → address ≡ Some x → mac ≡ Some m → drawing ≡ Some d → leased network address mac drawing rest ≡ rest x m d
all_there network address mac drawing rest x m d is_x is_m is_d = λ j. leased network (is_x j) (is_m j) (is_d j) rest

module _ (settings : SettingsParts) (state : State) (caller : Caller) (form : SubnetForm) (n : NetworkRow) where
  abbrev makes : Bool
  makes = makes_dhcp_port state.rows.ports n.id (dhcp_asked form)

  abbrev address : Option Addr
  address = dhcp_address state.rows.ports n.id (dhcp_asked form) (new_subnet form n no_id)

  abbrev mac : Option ℕ
  mac = mac_if makes state.rows.ports n.id

  abbrev drawing : Option Drawing
  drawing = drawing_at state n.project (if makes then 2 else 1)

  abbrev rest : Addr → ℕ → Drawing → Outcome
  rest x m d = subnet_added settings caller d n (new_subnet form n (drawn_id d 0)) x m

  abbrev on_refusal : Option Refusal → Outcome
  on_refusal refusal = unless refusal (leased n.id address mac drawing rest)

  pub made_refused : (e : Refusal) → IsRefusalIn (creation_refusal settings state.rows caller n) e → IsRefusalOf (subnet_made settings state caller form n makes) e
  made_refused e (inl memory) = inl memory
  made_refused e (inr is) = inr (ap on_refusal is)

  module _ (passed : creation_refusal settings state.rows caller n ≡ None) where
    pub made_unleased : (e : Refusal) → IsRefusalIn (lease_refusal state.rows.ports n.id (dhcp_asked form) (new_subnet form n no_id)) e → IsRefusalOf (subnet_made settings state caller form n makes) e
    made_unleased e (inl memory) = inl memory
    made_unleased e (inr is) = inr (ap on_refusal passed ∙ unleased n.id address mac drawing rest e is)

    module _ (x : Addr) (m : ℕ) (is_x : address ≡ Some x) (is_m : mac ≡ Some m) where
      pub made_spent : (e : Refusal) → (e ≡ MemoryRefusal) ⊎ ((e ≡ CountersSpent) × (drawing ≡ None)) → IsRefusalOf (subnet_made settings state caller form n makes) e
      made_spent e (inl memory) = inl memory
      made_spent e (inr spent) = inr (ap on_refusal passed ∙ (undrawn n.id address mac drawing rest x m is_x is_m spent.1 ∙ ap Refused (sym spent.0)))

      pub made_moved : (d : Drawing) (s : SubnetRow) (rows : RowLists) → drawing ≡ Some d → s ≡ new_subnet form n (drawn_id d 0)
          → rows ≡ made d.rows (Add (Subnet s) ∷ begin_serving settings d.rows n s.dhcp (drawn_id d 1) m (fixed_at s.id x))
          → subnet_made settings state caller form n makes ≡ Moved rows (NewRow (subnet_shown rows caller s []))
      made_moved d s rows is_d is leads =
          ap on_refusal passed ∙ (all_there n.id address mac drawing rest x m d is_x is_m is_d ∙ (ap (λ t. subnet_added settings caller d n t x m) (sym is) ∙ ap (λ r. Moved r (NewRow (subnet_shown r caller s []))) (sym leads)))

module _ (settings : SettingsParts) (state : State) (caller : Caller) (form : SubnetForm) (n : NetworkRow) (old new : SubnetRow) where
  abbrev begins : Bool
  begins = new.dhcp && not old.dhcp

  abbrev makes_then : Bool
  makes_then = makes_dhcp_port state.rows.ports n.id begins

  abbrev address_then : Option Addr
  address_then = dhcp_address state.rows.ports n.id begins new

  abbrev mac_then : Option ℕ
  mac_then = mac_if makes_then state.rows.ports n.id

  abbrev drawing_then : Option Drawing
  drawing_then = drawing_at state n.project (if makes_then then 1 else 0)

  abbrev rest_then : Addr → ℕ → Drawing → Outcome
  rest_then x m d = accepted d.rows (subnet_edits settings d.rows n old new (drawn_id d 0) m (fixed_at new.id x)) (λ rows. OneRow (subnet_shown rows caller new []))

  abbrev on_update : Option Refusal → Outcome
  on_update refusal = unless refusal (leased n.id address_then mac_then drawing_then rest_then)

  pub update_refused : (e : Refusal) → IsRefusalIn (update_refusal state.rows caller form old new) e → IsRefusalOf (subnet_changed settings state caller form n old new) e
  update_refused e (inl memory) = inl memory
  update_refused e (inr is) = inr (ap on_update is)

  module _ (passed : update_refusal state.rows caller form old new ≡ None) where
    pub update_unleased : (e : Refusal) → IsRefusalIn (lease_refusal state.rows.ports n.id begins new) e → IsRefusalOf (subnet_changed settings state caller form n old new) e
    update_unleased e (inl memory) = inl memory
    update_unleased e (inr is) = inr (ap on_update passed ∙ unleased n.id address_then mac_then drawing_then rest_then e is)

    module _ (x : Addr) (m : ℕ) (is_x : address_then ≡ Some x) (is_m : mac_then ≡ Some m) where
      pub update_spent : (e : Refusal) → (e ≡ MemoryRefusal) ⊎ ((e ≡ CountersSpent) × (drawing_then ≡ None)) → IsRefusalOf (subnet_changed settings state caller form n old new) e
      update_spent e (inl memory) = inl memory
      update_spent e (inr spent) = inr (ap on_update passed ∙ (undrawn n.id address_then mac_then drawing_then rest_then x m is_x is_m spent.1 ∙ ap Refused (sym spent.0)))

      pub update_moved : (d : Drawing) (s : SubnetRow) (rows : RowLists) → drawing_then ≡ Some d → s ≡ new
          → rows ≡ made d.rows (subnet_edits settings d.rows n old new (drawn_id d 0) m (fixed_at new.id x))
          → subnet_changed settings state caller form n old new ≡ Moved rows (OneRow (subnet_shown rows caller s []))
      update_moved d s rows is_d is leads =
          ap on_update passed ∙ (all_there n.id address_then mac_then drawing_then rest_then x m d is_x is_m is_d ∙ (λ j. Moved (sym leads j) (OneRow (subnet_shown (sym leads j) caller (sym is j) []))))

module _ (state : State) (project : List ℕ) (many : ℕ) (few : many ≤ 3) (d : Drawing) (c : IsConsistent state.rows) (named : not (is_empty project) ≡ true) (drew : drawing_at state project many ≡ Some d) where
  pub drew_kept : IsDrawing state.rows project many d
  drew_kept = draws state.rows project many d c named (omega arith) (drawn_is state project many d drew)

  pub drew_new : AreNew many d
  drew_new = drawn_new state.rows project many d drew_kept

-- the project of a network that is there has a name
pub project_named : (rows : RowLists) (n : NetworkRow) → IsConsistent rows → is_registered rows.projects n.project ≡ true → not (is_empty n.project) ≡ true
project_named rows n c known = ap not (has_name rows.projects c.numbered.projects n.project known)

pub found_named : (rows : RowLists) (test : NetworkRow → Bool) (n : NetworkRow) → IsConsistent rows → find test rows.networks ≡ Some n → not (is_empty n.project) ≡ true
found_named rows test n c found = project_named rows n c (found_holds (λ (r : NetworkRow). is_registered rows.projects r.project ≡ true) test rows.networks n c.named.projects.of_networks found)

pub seen_named : (rows : RowLists) (caller : Caller) (name : Option Ident) (n : NetworkRow) → IsConsistent rows → network_seen rows caller name ≡ Some n → not (is_empty n.project) ≡ true
seen_named rows caller None n c found = none_some n _ found
seen_named rows caller (Some i) n c found =
    let registered : NetworkRow → Type 0 = λ r. is_registered rows.projects r.project ≡ true in
    project_named rows n c (found_holds registered (λ r. ident_eq i r.id) _ n (each-filter (sees_network rows caller) registered registered rows.networks (λ r seen p. p) c.named.projects.of_networks) found)

-- a subnet that is seen is in form, so its modes fit its prefix
pub seen_fits : (rows : RowLists) (caller : Caller) (name : Option Ident) (s : SubnetRow) → IsConsistent rows → subnet_seen rows caller name ≡ Some s → fits_eui s ≡ true
seen_fits rows caller None s c found = none_some s _ found
seen_fits rows caller (Some i) s c found =
    let formed : SubnetRow → Type 0 = λ r. is_subnet_form r ≡ true in
    fits_if_formed s (found_holds formed (λ r. ident_eq i r.id) _ s (each-filter (sees_subnet rows caller) formed formed rows.subnets (λ r seen p. p) c.in_form.subnet_forms) found)

-- a subnet takes an id, and its DHCP port another one where it is made
pub few_ids : (makes : Bool) → (if makes then 2 else 1) ≤ 3
few_ids true = omega arith
few_ids false = omega arith

pub one_id : (makes : Bool) → 0 < (if makes then 2 else 1)
one_id true = omega arith
one_id false = omega arith

pub two_ids : (makes : Bool) → makes ≡ true → 1 < (if makes then 2 else 1)
two_ids true h = omega arith
two_ids false h = cc

pub few_then : (makes : Bool) → (if makes then 1 else 0) ≤ 3
few_then true = omega arith
few_then false = omega arith

pub one_then : (makes : Bool) → makes ≡ true → 0 < (if makes then 1 else 0)
one_then true h = omega arith
one_then false h = cc

-- the first id and the one behind it are below a bound that those are within
pub first_within : (makes : Bool) (first most : ℕ) → first + (if makes then 2 else 1) ≤ most → first < most
first_within true first most h = omega (arith, h)
first_within false first most h = omega (arith, h)

pub second_within : (makes : Bool) (first most : ℕ) → makes ≡ true → first + (if makes then 2 else 1) ≤ most → first + 1 < most
second_within true first most e h = omega (arith, h)
second_within false first most e h = cc

pub then_within : (makes : Bool) (first most : ℕ) → makes ≡ true → first + (if makes then 1 else 0) ≤ most → first < most
then_within true first most e h = omega (arith, h)
then_within false first most e h = cc

module _ (settings : SettingsParts) (state : State) (caller : Caller) (name : IdText) (form : SubnetForm) where
  abbrev on_network : SubnetRow → Option NetworkRow → Outcome
  on_network s found = needing (not_found SubnetKind name.text) found (λ n. subnet_changed settings state caller form n s (changed_subnet form s))

  abbrev on_subnet : Option SubnetRow → Outcome
  on_subnet found = needing (not_found SubnetKind name.text) found (λ s. on_network s (row_of (λ (n : NetworkRow). n.id) s.network state.rows.networks))

  pub updated_unfound : (e : Refusal) → subnet_seen state.rows caller name.id ≡ None → IsOrMemory (not_found SubnetKind name.text) e → IsRefusalOf (subnet_updated settings state caller name form) e
  updated_unfound e none (inl memory) = inl memory
  updated_unfound e none (inr is) = inr (ap on_subnet none ∙ ap Refused (sym is))

  module _ (s : SubnetRow) (seen : subnet_seen state.rows caller name.id ≡ Some s) where
    pub updated_unplaced : (e : Refusal) → row_of (λ (n : NetworkRow). n.id) s.network state.rows.networks ≡ None → IsOrMemory (not_found SubnetKind name.text) e
        → IsRefusalOf (subnet_updated settings state caller name form) e
    updated_unplaced e none (inl memory) = inl memory
    updated_unplaced e none (inr is) = inr (ap on_subnet seen ∙ (ap (on_network s) none ∙ ap Refused (sym is)))

    pub updated_on : (n : NetworkRow) → row_of (λ (n : NetworkRow). n.id) s.network state.rows.networks ≡ Some n
        → subnet_updated settings state caller name form ≡ subnet_changed settings state caller form n s (changed_subnet form s)
    updated_on n placed = ap on_subnet seen ∙ ap (on_network s) placed

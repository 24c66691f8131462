-- The lease of a port, by the DHCP port here of its network.
use Rattle.std.proofs.Common.{◌≡◌, ◌∙◌, ℕ, List, [], ◌∷◌, Bool, true, false, Option, Some, None, cond, find, refl, ap, sym}
use Rattle.std.specs.Prelude.{◌&&◌, if◌then◌else◌, option_and_then, option_map}
use Rattle.std.specs.List.{list_any}
use Rattle.net_addr.specs.Addresses.{is_v4}
use Rattle.api_types.specs.Holders.{dhcp_port}
use Rattle.api_types.specs.Ident.{Ident}
use Rattle.api_types.specs.Leases.{lease_for, lease_in, lease_of}
use Rattle.api_types.specs.Live.{is_at, is_live}
use Rattle.api_types.specs.Owners.{holds_in}
use Rattle.api_types.specs.RowLists.{RowLists}
use Rattle.api_types.specs.RowsWith.{subnet_with}
use Rattle.api_types.specs.declared.lease.Lease.{Lease}
use Rattle.api_types.specs.declared.port.Fixed.{Fixed}
use Rattle.api_types.specs.declared.port.PortRow.{PortRow}
use Rattle.api_types.specs.declared.subnet.SubnetRow.{SubnetRow}
use Rattle.api_types.proofs.ListLemmas.{none_some, or_none, some_equal}
use Rattle.api_types.proofs.NameLemmas.{by_test}
use Rattle.plane_types.specs.TableRows.{lease_row, lease_row_by, tag_of}
use Rattle.plane_types.specs.declared.table.LeaseRow.{LeaseRow}
use Rattle.plane_types.specs.declared.table.TagRow.{TagRow}
use Rattle.table_edits.specs.Untouched.{SubnetStays}
use Rattle.touched_rows.specs.CanLive.{can_live}
use Rattle.touched_rows.specs.TouchedNumbers.{holds_in_any}
use Rattle.touched_rows.proofs.SeesLemmas.{not_live}
use Rattle.dhcp_delta.specs.Serving.{dhcp_here, if_at, served_row}

-- by the DHCP port here alone
pub lease_by_here : (rows : RowLists) (host : List ℕ) (tags : List TagRow) (q : PortRow)
    → lease_row rows host tags q
    ≡ (if is_live rows q then option_and_then (served_row rows tags q) (dhcp_here rows host q.network) else None)
lease_by_here rows host tags q =
    ap (λ o. if is_live rows q then o else None) (go (dhcp_port rows q.network))
  where
    at : (d : PortRow) (b : Bool) → (if b then served_row rows tags q d else None)
        ≡ option_and_then (served_row rows tags q) (if b then Some d else None)
    at d true = refl
    at d false = refl

    go : (o : Option PortRow) → lease_row_by rows host tags q o
        ≡ option_and_then (served_row rows tags q) (option_and_then (if_at host) o)
    go None = refl
    go (Some d) = at d (is_at host d)

-- what is leased by a subnet that says the same
by_subnet : (f : Fixed) (old new : Option SubnetRow) → SubnetStays old new
    → ◌≡◌ {A = Option Lease} (elim old [ None ↦ None | Some s ↦ Some (lease_of f s) ])
    (elim new [ None ↦ None | Some s ↦ Some (lease_of f s) ])
by_subnet f None None h = refl
by_subnet f (Some old) (Some new) h =
    λ j. Some (record {
      address = f.address;
      length = (h.prefix j).len;
      gateway = h.gateway j;
      name_servers = h.dns j;
      host_routes = h.host_routes j;
    })
by_subnet f None (Some new) h = absurd h
by_subnet f (Some old) None h = absurd h

-- and so by all subnets of a port
pub leased_alike : (before after : RowLists) (subnets : Ident → Bool) (d q : PortRow)
    → ((i : Ident) → subnets i ≡ false → SubnetStays (subnet_with before i) (subnet_with after i))
    → holds_in_any subnets q ≡ false → lease_for before d q ≡ lease_for after d q
leased_alike before after subnets d q stays away = go q.fixed away
  where
    test : Fixed → Bool
    test f = is_v4 f.address && holds_in f.subnet d

    go : (fs : List Fixed) → list_any (λ (f : Fixed). subnets f.subnet) fs ≡ false
        → option_and_then (lease_in before) (find test fs) ≡ option_and_then (lease_in after) (find test fs)
    go [] h = refl
    go (f ∷ fs) h =
        let parts = or_none (subnets f.subnet) (list_any (λ (f : Fixed). subnets f.subnet) fs) h in
        by (test f) (by_subnet f (subnet_with before f.subnet) (subnet_with after f.subnet) (stays f.subnet parts.0)) (go fs parts.1)
      where
        by : (b : Bool) → lease_in before f ≡ lease_in after f
            → option_and_then (lease_in before) (find test fs) ≡ option_and_then (lease_in after) (find test fs)
            → option_and_then (lease_in before) (cond b (Some f) (find test fs)) ≡ option_and_then (lease_in after) (cond b (Some f) (find test fs))
        by true here rest = here
        by false here rest = rest

-- a port has the lease that it had if it is as live, its tag and its server are as before, and so
-- is what is leased to it
pub lease_stays : (before after : RowLists) (host : List ℕ) (old new : List TagRow) (q : PortRow)
    → is_live before q ≡ is_live after q
    → (can_live q ≡ true → tag_of old q.network ≡ tag_of new q.network)
    → dhcp_here before host q.network ≡ dhcp_here after host q.network
    → ((d : PortRow) → lease_for before d q ≡ lease_for after d q)
    → lease_row before host old q ≡ lease_row after host new q
lease_stays before after host old new q live tag server leased =
    lease_by_here before host old q
    ∙ by_test (can_live q) (row before old ≡ row after new)
    (λ can. (λ j. if live j then served (tag can) j else None))
    (λ off. ap (λ b. if b then leased_row before old else None) (not_live before q off)
    ∙ sym (ap (λ b. if b then leased_row after new else None) (not_live after q off)))
    ∙ sym (lease_by_here after host new q)
  where
    leased_row : RowLists → List TagRow → Option LeaseRow
    leased_row rows tags = option_and_then (served_row rows tags q) (dhcp_here rows host q.network)

    row : RowLists → List TagRow → Option LeaseRow
    row rows tags = if is_live rows q then leased_row rows tags else None

    by : tag_of old q.network ≡ tag_of new q.network → (o : Option PortRow)
        → option_and_then (served_row before old q) o ≡ option_and_then (served_row after new q) o
    by tag None = refl
    by tag (Some d) =
        λ j. option_and_then
        (λ (lease : Lease). option_map (λ tag. record { port = q.id; tag = tag; mac = q.mac; lease = lease }) (tag j))
        (leased d j)

    served : tag_of old q.network ≡ tag_of new q.network → leased_row before old ≡ leased_row after new
    served tag =
        by tag (dhcp_here before host q.network) ∙ ap (option_and_then (served_row after new q)) server

-- nor has one that none serves here before or after
pub unserved : (before after : RowLists) (host : List ℕ) (old new : List TagRow) (q : PortRow)
    → dhcp_here before host q.network ≡ None → dhcp_here after host q.network ≡ None
    → lease_row before host old q ≡ lease_row after host new q
unserved before after host old new q none still =
    lease_by_here before host old q
    ∙ ap (λ o. if is_live before q then option_and_then (served_row before old q) o else None) none
    ∙ nothing (is_live before q) ∙ sym (nothing (is_live after q))
    ∙ sym (ap (λ o. if is_live after q then option_and_then (served_row after new q) o else None) still)
    ∙ sym (lease_by_here after host new q)
  where
    the_none : Option LeaseRow
    the_none = None

    nothing : (b : Bool) → (if b then the_none else the_none) ≡ the_none
    nothing true = refl
    nothing false = refl

-- a lease is of its port
pub lease_source : (rows : RowLists) (host : List ℕ) (tags : List TagRow) (q : PortRow) (r : LeaseRow)
    → lease_row rows host tags q ≡ Some r → Some r.port ≡ Some q.id
lease_source rows host tags q r is = go (is_live rows q) (dhcp_port rows q.network) is
  where
    by : (l : Option Lease) (t : Option ℕ)
        → option_and_then (λ lease. option_map (λ tag. record { port = q.id; tag = tag; mac = q.mac; lease = lease }) t) l ≡ Some r
        → Some r.port ≡ Some q.id
    by None t h = none_some r _ h
    by (Some l) None h = none_some r _ h
    by (Some l) (Some t) h =
        ap (λ (x : LeaseRow). Some x.port)
        (sym (some_equal (record { port = q.id; tag = t; mac = q.mac; lease = l }) r h))

    at : (d : PortRow) (b : Bool) → (if b then served_row rows tags q d else None) ≡ Some r
        → Some r.port ≡ Some q.id
    at d true h = by (lease_for rows d q) (tag_of tags q.network) h
    at d false h = none_some r _ h

    go : (b : Bool) (o : Option PortRow) → (if b then lease_row_by rows host tags q o else None) ≡ Some r
        → Some r.port ≡ Some q.id
    go false o h = none_some r _ h
    go true None h = none_some r _ h
    go true (Some d) h = at d (is_at host d) h

-- A world whose two hosts hold its rows: what the laws suppose can be met.
use Rattle.std.proofs.Common.{◌≡◌, ℕ, ◌+◌, ◌≤◌, ◌<◌, List, [], ◌∷◌, Bool, true, false, cond, None, refl, ap, subst, arith}
use Rattle.std.specs.Prelude.{codes, count_by, ◌||◌, ◌==◌, map}
use Rattle.std.specs.List.{filter}
use Rattle.std.specs.Str.{bytes_eq}
use Rattle.std.proofs.lemmas.List.Sums.{sum_by-cons}
use Rattle.row_laws.specs.NewRows.{with_network, with_port, IsNewPort}
use Rattle.api_types.proofs.NameLemmas.{bytes_same}
use Rattle.row_laws.proofs.NetworkCreated.{network_created}
use Rattle.row_laws.proofs.NoRows.{no_rows_consistent, nothing_there}
use Rattle.row_laws.proofs.PortPushed.{port_pushed}
use Rattle.plane_laws.proofs.Counted.{each-of}
use Rattle.plane_laws.proofs.Theorem.{tables-mean-rows}
use Rattle.net_addr.specs.Macs.{is_unicast}
use Rattle.api_types.specs.Consistent.{IsConsistent}
use Rattle.api_types.specs.Owners.{is_dhcp, is_gateway, is_interface}
use Rattle.api_types.specs.Registration.{Drawing, with_project}
use Rattle.api_types.specs.RowLists.{RowLists}
use Rattle.api_types.specs.declared.network.NetworkRow.{NetworkRow}
use Rattle.api_types.specs.declared.network.Segment.{Segment}
use Rattle.api_types.specs.declared.network.Segment.TheVariants.{Vxlan}
use Rattle.api_types.specs.declared.port.PortRow.{PortRow}
use Rattle.plane_types.proofs.WorkedRows.{c1, c2, host, id, local_mac, network, no_rows, open_port, tables_of, tag}
use Rattle.plane_types.specs.Hosts.{Host, all_entries, is_named}
use Rattle.api_types.specs.Live.{is_live, segment}
use Rattle.plane_types.specs.Attached.{IsAttached}
use Rattle.plane_types.specs.Realises.{Realises, RealisesTags, TagStands}
use Rattle.plane_types.specs.TableRows.{is_tagged}
use Rattle.plane_types.specs.Verdicts.{fabric_verdict, rows_verdict, without_hosts}
use Rattle.plane_types.specs.declared.event.Event.{Event}
use Rattle.plane_types.specs.declared.table.TagRow.{TagRow}
use Rattle.plane_types.specs.declared.lists.TableLists.{TableLists}
use Rattle.plane_laws.specs.Held.{HoldRows}

-- a project's first network, and a port of it on each host
abbrev drawn : Drawing
drawn = record { rows = with_project no_rows (codes "a") 1 8; ordinal = 1; first = 6 }

abbrev with_one : RowLists
with_one = with_network (with_project no_rows (codes "a") 1 8) (network (id 6) (Vxlan 1))

abbrev here : PortRow
here = open_port (id 7) (id 6) c1 (local_mac 7) []

abbrev there : PortRow
there = open_port (id 8) (id 6) c2 (local_mac 8) []

abbrev world : RowLists
world = with_port (with_port with_one here) there

one-consistent : IsConsistent with_one
one-consistent = network_created no_rows (codes "a") 3 drawn (network (id 6) (Vxlan 1)) no_rows_consistent refl (omega arith) (omega arith) refl
    (record { id = refl; project = refl; segment = refl; alone = λ s h. refl; few = omega arith })

here-new : IsNewPort with_one here
unfolding is_interface is_gateway is_dhcp is_unicast
here-new = record {
  fresh = refl;
  drawn = refl;
  network = refl;
  project = refl;
  no_interface = refl;
  no_gateway = refl;
  no_dhcp = refl;
  form = refl;
  mac = refl;
  addresses = λ x. omega arith;
  subnets = refl;
  hosts = refl;
  groups = refl;
  bare = refl;
  allowed = refl;
}

there-new : IsNewPort (with_port with_one here) there
unfolding is_interface is_gateway is_dhcp is_unicast
there-new = record {
  fresh = refl;
  drawn = refl;
  network = refl;
  project = refl;
  no_interface = refl;
  no_gateway = refl;
  no_dhcp = refl;
  form = refl;
  mac = refl;
  addresses = λ x. omega arith;
  subnets = refl;
  hosts = refl;
  groups = refl;
  bare = refl;
  allowed = refl;
}

world-consistent : IsConsistent world
world-consistent = port_pushed (with_port with_one here) there there-new (port_pushed with_one here here-new one-consistent)

-- its hosts, which gave the network tags of their own
abbrev world_hosts : List Host
world_hosts = host world c1 (tag (id 6) 5 None ∷ []) ∷ host world c2 (tag (id 6) 1 None ∷ []) ∷ []

abbrev carry : List ℕ → Segment → Bool
carry name s = bytes_eq name c1 || bytes_eq name c2

one-at_most : {X : Type 0} (test : X → Bool) (x : X) → count_by test (x ∷ []) ≤ 1
one-at_most test x = go (test x) refl
  where
    go : (b : Bool) → test x ≡ b → count_by test (x ∷ []) ≤ 1
    go true e = let w : cond {A = ℕ} (test x) 1 0 ≡ 1 = ap (λ (c : Bool). cond {A = ℕ} c 1 0) e in omega (arith, sum_by-cons (λ y. cond {A = ℕ} (test y) 1 0) x [], w)
    go false e = let w : cond {A = ℕ} (test x) 1 0 ≡ 0 = ap (λ (c : Bool). cond {A = ℕ} c 1 0) e in omega (arith, sum_by-cons (λ y. cond {A = ℕ} (test y) 1 0) x [], w)

of-two : {X : Type 0} (test : X → Bool) (x y : X) → (test x ≡ true → test y ≡ true → ⊥) → count_by test (x ∷ y ∷ []) ≤ 1
of-two test x y apart = go (test x) (test y) refl refl
  where
    sums : (a b : ℕ) → cond {A = ℕ} (test x) 1 0 ≡ a → cond {A = ℕ} (test y) 1 0 ≡ b → a + b ≤ 1 → count_by test (x ∷ y ∷ []) ≤ 1
    sums a b e f less = omega (arith, sum_by-cons (λ z. cond {A = ℕ} (test z) 1 0) x (y ∷ []), sum_by-cons (λ z. cond {A = ℕ} (test z) 1 0) y [], e, f, less)

    go : (a b : Bool) → test x ≡ a → test y ≡ b → count_by test (x ∷ y ∷ []) ≤ 1
    go true true e f = absurd (apart e f)
    go true false e f = sums 1 0 (ap (λ (c : Bool). cond {A = ℕ} c 1 0) e) (ap (λ (c : Bool). cond {A = ℕ} c 1 0) f) (omega arith)
    go false true e f = sums 0 1 (ap (λ (c : Bool). cond {A = ℕ} c 1 0) e) (ap (λ (c : Bool). cond {A = ℕ} c 1 0) f) (omega arith)
    go false false e f = sums 0 0 (ap (λ (c : Bool). cond {A = ℕ} c 1 0) e) (ap (λ (c : Bool). cond {A = ℕ} c 1 0) f) (omega arith)

realised : (name : List ℕ) (t : ℕ) → 0 < t → t ≤ 4094 → RealisesTags world name (tag (id 6) t None ∷ []) → Realises world name (tables_of world name (tag (id 6) t None ∷ []))
realised name t first last tags = record { tags = tags; taps = refl; filters = refl; sets = refl; bridge = refl; inward = refl; neighbours = refl; routers = refl; routes = refl; floats = refl; leases = refl }

tags-at : (name : List ℕ) (t : ℕ) → 0 < t → t ≤ 4094 → id 6 ∷ [] ≡ map (λ (n : NetworkRow). n.id) (filter (is_tagged world name) world.networks) → RealisesTags world name (tag (id 6) t None ∷ [])
unfolding segment
tags-at name t first last networks = record {
  networks = networks;
  stand = each-of (TagStands world) (tag (id 6) t None ∷ []) (record { wire = refl; first = first; last = last }, tt);
  differ = λ x. one-at_most (λ (r : TagRow). r.tag == x) (tag (id 6) t None);
}

tags-here : RealisesTags world c1 (tag (id 6) 5 None ∷ [])
unfolding is_live
tags-here = tags-at c1 5 (omega arith) (omega arith) refl

tags-there : RealisesTags world c2 (tag (id 6) 1 None ∷ [])
unfolding is_live
tags-there = tags-at c2 1 (omega arith) (omega arith) refl

no-entries : (name : List ℕ) (t : TableLists) → IsAttached (record { name = name; tables = t; entries = [] })
no-entries name t = record { stand = nothing_there _; once_outside = λ r k o p f g. omega arith; once_inside = λ r k o. omega arith }

names-differ : (name : List ℕ) → count_by (is_named name) world_hosts ≤ 1
names-differ name = of-two (is_named name) (host world c1 (tag (id 6) 5 None ∷ [])) (host world c2 (tag (id 6) 1 None ∷ []))
    (λ a b. let same : bytes_eq c1 c2 ≡ true = subst (λ m. bytes_eq m c2 ≡ true) (bytes_same name c1 a) b in apart same)
  where
    apart : bytes_eq c1 c2 ≡ true → ⊥
    apart h = cc

all-there : (a b : Bool) → a || b ≡ true → a || (b || false) ≡ true
all-there true b h = refl
all-there false true h = refl
all-there false false h = h

world-held : HoldRows carry world world_hosts
world-held = record {
  consistent = world-consistent;
  carried = record { at_host = each-of _ world.ports (refl, (refl, tt)) };
  synced = record {
    realise = each-of (λ (h : Host). Realises world h.name h.tables) world_hosts (realised c1 5 (omega arith) (omega arith) tags-here, (realised c2 1 (omega arith) (omega arith) tags-there, tt));
    placed = each-of IsAttached world_hosts (no-entries c1 (tables_of world c1 (tag (id 6) 5 None ∷ [])), (no-entries c2 (tables_of world c2 (tag (id 6) 1 None ∷ [])), tt));
    names = names-differ;
    complete = λ name s h. all-there (bytes_eq name c1) (bytes_eq name c2) h;
  };
}

-- so the law speaks of it
by-law : (event : Event) → without_hosts (fabric_verdict world_hosts event) ≡ rows_verdict world (all_entries world_hosts) event
by-law event = tables-mean-rows carry world world_hosts world-held event

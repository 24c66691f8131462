-- Of the entries of all hosts, those of a port or router are the ones at its host.
use Rattle.std.proofs.Common.{◌≡◌, ℕ, List, [], ◌∷◌, ◌++◌, Bool, true, false, cond, not, Option, Some, None, refl, ap, sym, subst, ◌∙◌}
use Rattle.std.specs.Prelude.{find, ◌&&◌, ◌||◌, ◌==◌, if◌then◌else◌}
use Rattle.std.specs.List.{list_any}
use Rattle.std.specs.Str.{bytes_eq}
use Rattle.std.proofs.lemmas.Bool.{and_parts}
use Rattle.std.proofs.lemmas.List.{append-nil}
use Rattle.std.proofs.lemmas.List.Folds.{list_any-append}
use Rattle.api_types.proofs.ListLemmas.{or_false}
use Rattle.api_types.proofs.NameLemmas.{ident_same, ident_itself, bytes_same}
use Rattle.plane_laws.proofs.ListLemmas.{find-only, any-only, AllOf-more, list_any-none_each}
use Rattle.api_types.specs.Consistent.Groups.{is_direction}
use Rattle.api_types.specs.Ident.{Ident}
use Rattle.api_types.specs.Lists.{stands}
use Rattle.api_types.specs.Owners.{is_router_port}
use Rattle.api_types.specs.RowLists.{RowLists}
use Rattle.api_types.specs.Table.{ident_eq}
use Rattle.api_types.specs.declared.group.Direction.{Direction}
use Rattle.api_types.specs.declared.port.PortRow.{PortRow}
use Rattle.api_types.specs.declared.router.RouterRow.{RouterRow}
use Rattle.plane_types.specs.Entries.{has_flow, is_flow}
use Rattle.plane_types.specs.Hosts.{Host, all_entries, is_named}
use Rattle.plane_types.specs.Keys.{key_eq}
use Rattle.api_types.specs.Live.{is_live, is_at, is_here}
use Rattle.plane_types.specs.Routing.{uses_at, uses_by}
use Rattle.plane_types.specs.TableRows.{is_on_host, is_host_of, is_tap}
use Rattle.plane_types.specs.declared.entry.Entry.{Entry}
use Rattle.plane_types.specs.declared.entry.Entry.TheVariants.{Flow, Snat}
use Rattle.plane_types.specs.declared.frame.Key.{Key}
use Rattle.plane_laws.proofs.Facts.{AllOf, AtMostOne, EntriesStand, FrameFacts, SyncedFacts, has_id, stands_at}

module _ {M : Type 0} (F : List Entry → M) (op : M → M → M) (e : M) (empty : F [] ≡ e) (joined : (a b : List Entry) → F (a ++ b) ≡ op (F a) (F b)) (left : (x : M) → op e x ≡ x) (right : (x : M) → op x e ≡ x) (test : Host → Bool) where
  pub no-host : (hosts : List Host) → find test hosts ≡ None → AllOf (λ x. test x ≡ false → F x.entries ≡ e) hosts → F (all_entries hosts) ≡ e
  no-host [] h misses = empty
  no-host (x ∷ hosts) h misses = go (test x) refl h (λ k. no-host hosts k misses.1)
    where
      go : (b : Bool) → test x ≡ b → cond b (Some x) (find test hosts) ≡ None → (find test hosts ≡ None → F (all_entries hosts) ≡ e) → F (x.entries ++ all_entries hosts) ≡ e
      go true f h rest = cc
      go false f h rest = joined x.entries (all_entries hosts) ∙ ap (λ m. op m (F (all_entries hosts))) (misses.0 f) ∙ left (F (all_entries hosts)) ∙ rest h

  pub one-host : (hosts : List Host) (h : Host) → AtMostOne test hosts → find test hosts ≡ Some h → AllOf (λ x. test x ≡ false → F x.entries ≡ e) hosts → F (all_entries hosts) ≡ F h.entries
  one-host [] h one found misses = absurd (bad found)
    where
      bad : None ≡ Some h → ⊥
      bad k = cc
  one-host (x ∷ hosts) h one found misses = go (test x) refl one.0 found (λ k. one-host hosts h one.1 k misses.1)
    where
      go : (b : Bool) → test x ≡ b → (test x ≡ true → find test hosts ≡ None) → cond b (Some x) (find test hosts) ≡ Some h → (find test hosts ≡ Some h → F (all_entries hosts) ≡ F h.entries) → F (x.entries ++ all_entries hosts) ≡ F h.entries
      go true f only k rest = let same : x ≡ h = cc in joined x.entries (all_entries hosts) ∙ ap (op (F x.entries)) (no-host hosts (only f) misses.1) ∙ right (F x.entries) ∙ ap (λ (y : Host). F y.entries) same
      go false f only k rest = joined x.entries (all_entries hosts) ∙ ap (λ m. op m (F (all_entries hosts))) (misses.0 f) ∙ left (F (all_entries hosts)) ∙ rest k

-- uses of a router
pub uses-append : (r : Ident) (o : ℕ) (a b : List Entry) → uses_at r o (a ++ b) ≡ uses_at r o a ++ uses_at r o b
uses-append r o [] b = refl
uses-append r o (Flow p d k ∷ a) b = uses-append r o a b
uses-append r o (Snat s k x p ∷ a) b = go (ident_eq r s && (o == x)) (uses-append r o a b)
  where
    go : (c : Bool) → uses_at r o (a ++ b) ≡ uses_at r o a ++ uses_at r o b → (if c then record { key = k; port = p } ∷ uses_at r o (a ++ b) else uses_at r o (a ++ b)) ≡ (if c then record { key = k; port = p } ∷ uses_at r o a else uses_at r o a) ++ uses_at r o b
    go true rest = ap (λ us. record { key = k; port = p } ∷ us) rest
    go false rest = rest

module _ (rows : RowLists) (hosts : List Host) (good : FrameFacts rows) (synced : SyncedFacts rows hosts) where
  -- flows of a port
  module _ (test : PortRow → Bool) (q : PortRow) (found : find test rows.ports ≡ Some q) (d : Direction) (k : Key) where
    foreign : (x : Host) → is_named q.host x ≡ false → (e : Entry) → stands_at rows x.name e ≡ true → is_flow q.id d k e ≡ false
    foreign x away (Snat r a b c) stands = refl
    foreign x away (Flow port d2 k2) stands = go (ident_eq q.id port) refl
      where
        go : (b : Bool) → ident_eq q.id port ≡ b → (b && is_direction d d2 && key_eq k k2) ≡ false
        go false e = refl
        go true e =
            let same : q.id ≡ port = ident_same q.id port e in
            let by_id : find (has_id port) rows.ports ≡ Some q = find-only test (has_id port) rows.ports q (good.port_ids port) found (subst (λ i. ident_eq i q.id ≡ true) same (ident_itself q.id)) in
            let here : is_tap rows x.name q ≡ true = any-only (has_id port) (is_tap rows x.name) rows.ports q (good.port_ids port) by_id stands in
            let at : is_at x.name q ≡ true = (and_parts (is_live rows q) (is_at x.name q) (and_parts (is_here rows x.name q) (not (is_router_port q.owner)) here).0).1 in
            cc

    pub flows-located : (h : Host) → find (is_named q.host) hosts ≡ Some h → (fresh : List Entry) → has_flow (h.entries ++ fresh) q.id d k ≡ has_flow (all_entries hosts ++ fresh) q.id d k
    flows-located h named fresh =
        list_any-append (is_flow q.id d k) h.entries fresh
        ∙ ap (λ b. b || list_any (is_flow q.id d k) fresh) (sym (one-host (list_any (is_flow q.id d k)) (λ a b. a || b) false refl (list_any-append (is_flow q.id d k)) (λ b. refl) or_false (is_named q.host) hosts h (synced.names q.host) named
        (AllOf-more (EntriesStand rows) (λ x. is_named q.host x ≡ false → list_any (is_flow q.id d k) x.entries ≡ false) hosts (λ x stand away. list_any-none_each (is_flow q.id d k) x.entries (AllOf-more (λ e. stands_at rows x.name e ≡ true) (λ e. is_flow q.id d k e ≡ false) x.entries (foreign x away) stand)) synced.stand)))
        ∙ sym (list_any-append (is_flow q.id d k) (all_entries hosts) fresh)

  module _ (test : RouterRow → Bool) (r : RouterRow) (found : find test rows.routers ≡ Some r) (name : List ℕ) (here : is_on_host name r ≡ true) where
    no-uses : (o : ℕ) (x : Host) → is_named name x ≡ false → (es : List Entry) → AllOf (λ e. stands_at rows x.name e ≡ true) es → uses_at r.id o es ≡ []
    no-uses o x away [] stand = refl
    no-uses o x away (Flow p d k ∷ es) stand = no-uses o x away es stand.1
    no-uses o x away (Snat s k y p ∷ es) stand = go (ident_eq r.id s) (o == y) refl (no-uses o x away es stand.1)
      where
        go : (b c : Bool) → ident_eq r.id s ≡ b → uses_at r.id o es ≡ [] → (if b && c then record { key = k; port = p } ∷ uses_at r.id o es else uses_at r.id o es) ≡ []
        go false c e rest = rest
        go true c e rest =
            let same : r.id ≡ s = ident_same r.id s e in
            let by_id : find (λ (z : RouterRow). ident_eq s z.id) rows.routers ≡ Some r = find-only test (λ (z : RouterRow). ident_eq s z.id) rows.routers r (good.router_ids s) found (subst (λ i. ident_eq i r.id ≡ true) same (ident_itself r.id)) in
            let there : is_on_host x.name r ≡ true = any-only (λ (z : RouterRow). ident_eq s z.id) (is_on_host x.name) rows.routers r (good.router_ids s) by_id stand.0 in
            let both : is_named name x ≡ true = both_hosts r.host here there in
            cc
          where
            both_hosts : (o : Option (List ℕ)) → is_host_of name o ≡ true → is_host_of x.name o ≡ true → bytes_eq name x.name ≡ true
            both_hosts None a b = cc
            both_hosts (Some m) a b = subst (λ z. bytes_eq z x.name ≡ true) (bytes_same m name a) b

    pub uses-located : (h : Host) → find (is_named name) hosts ≡ Some h → (snat : Bool) (outer : Option ℕ) (fresh : List Entry) → uses_by snat outer r.id (h.entries ++ fresh) ≡ uses_by snat outer r.id (all_entries hosts ++ fresh)
    uses-located h named false outer fresh = refl
    uses-located h named true None fresh = refl
    uses-located h named true (Some o) fresh =
        uses-append r.id o h.entries fresh
        ∙ ap (λ us. us ++ uses_at r.id o fresh) (sym (one-host (uses_at r.id o) (λ a b. a ++ b) [] refl (uses-append r.id o) (λ a. refl) append-nil (is_named name) hosts h (synced.names name) named
        (AllOf-more (EntriesStand rows) (λ x. is_named name x ≡ false → uses_at r.id o x.entries ≡ []) hosts (λ x stand away. no-uses o x away x.entries stand) synced.stand)))
        ∙ sym (uses-append r.id o (all_entries hosts) fresh)

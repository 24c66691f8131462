-- The router of the tables is the router of the rows.
use Rattle.std.proofs.Common.{◌≡◌, ℕ, List, [], ◌∷◌, map, Bool, true, false, Option, Some, None, refl, ap, sym, subst, ◌∙◌}
use Rattle.std.specs.Prelude.{find, option_and_then, option_map, ◌&&◌, if◌then◌else◌, is_some}
use Rattle.std.specs.List.{filter_map, cons_option}
use Rattle.std.specs.Str.{bytes_eq}
use Rattle.std.proofs.lemmas.Bool.{and_parts, and_from}
use Rattle.api_types.proofs.NameLemmas.{ident_same, ident_itself, bytes_same, bytes_itself}
use Rattle.plane_laws.proofs.ListLemmas.{find-each, find-only, find-filter_map, AtMostOne-filter, each-found, AllOf-filter, filter_map-one}
use Rattle.plane_laws.proofs.Tagged.{tagged}
use Rattle.api_types.specs.Ident.{Ident}
use Rattle.api_types.specs.Owners.{device_is, is_router_port}
use Rattle.api_types.specs.RowLists.{RowLists}
use Rattle.api_types.specs.Table.{ident_eq}
use Rattle.api_types.specs.declared.floating.FloatingRow.{FloatingRow}
use Rattle.api_types.specs.declared.floating.Target.{Target}
use Rattle.api_types.specs.declared.port.PortRow.{PortRow}
use Rattle.api_types.specs.declared.router.RouterRow.{RouterRow}
use Rattle.api_types.specs.Holders.{router_of}
use Rattle.api_types.specs.RowsWith.{router_with}
use Rattle.api_types.specs.Live.{is_live, is_at}
use Rattle.api_types.specs.RouterRows.{float_by, floats_of, gateway_address, has_snat, is_leg_of, leg_of, legs_of, router_view, ways_of}
use Rattle.api_types.specs.RouterViews.{Way}
use Rattle.plane_types.specs.TableRows.{float_row_by, float_rows, is_on_host, is_host_of, is_hosted, route_row, route_rows, router_port, router_row, router_rows, tag_of, tagged_by}
use Rattle.plane_types.specs.TableStep.{floats_at_router, leg_at, router_at, table_view, tagged_leg, way_at, ways_at}
use Rattle.plane_types.specs.declared.table.FloatRow.{FloatRow}
use Rattle.plane_types.specs.declared.table.RouteRow.{RouteRow}
use Rattle.plane_types.specs.declared.table.RouterPort.{RouterPort}
use Rattle.plane_types.specs.declared.table.RouterTable.{RouterTable}
use Rattle.plane_types.specs.declared.table.TagRow.{TagRow}
use Rattle.plane_types.specs.declared.lists.TableLists.{TableLists}
use Rattle.plane_laws.proofs.Facts.{AllOf, FrameFacts, HostFacts, RouterPortStands, has_id}

ways_one : (i j : Ident) (b : Bool) → ident_eq i j ≡ b → (ws : List Way) → ways_at i (map (route_row j) ws) ≡ (if b then ws else [])
ways_one i j true e [] = refl
ways_one i j false e [] = refl
ways_one i j true e (w ∷ ws) = ap (λ b. cons_option (if b then Some w else None) (ways_at i (map (route_row j) ws))) e ∙ ap (λ vs. w ∷ vs) (ways_one i j true e ws)
ways_one i j false e (w ∷ ws) = ap (λ b. cons_option (if b then Some w else None) (ways_at i (map (route_row j) ws))) e ∙ ways_one i j false e ws

legs_same : (rows : RowLists) (tags : List TagRow) (ps : List PortRow) → AllOf (λ p. is_some (tag_of tags p.network) ≡ true) ps → map leg_at (filter_map (tagged_by rows tags) ps) ≡ map leg_of ps
legs_same rows tags [] h = refl
legs_same rows tags (p ∷ ps) h = go (tag_of tags p.network) h.0 (legs_same rows tags ps h.1)
  where
    go : (o : Option ℕ) → is_some o ≡ true → map leg_at (filter_map (tagged_by rows tags) ps) ≡ map leg_of ps → map leg_at (cons_option (option_map (router_port rows p) o) (filter_map (tagged_by rows tags) ps)) ≡ leg_of p ∷ map leg_of ps
    go None k rest = cc
    go (Some tag) k rest = ap (λ ls. leg_of p ∷ ls) rest

module _ (rows : RowLists) (host : List ℕ) (t : TableLists) (real : HostFacts rows host t) (good : FrameFacts rows) (test : RouterRow → Bool) (r : RouterRow) (found : find test rows.routers ≡ Some r) (here : is_on_host host r ≡ true) where
  by-id : find (λ (z : RouterRow). ident_eq r.id z.id) rows.routers ≡ Some r
  by-id = find-only test (λ (z : RouterRow). ident_eq r.id z.id) rows.routers r (good.router_ids r.id) found (ident_itself r.id)

  pub router-located : router_at t r.id ≡ Some (router_row rows t.tags r)
  unfolding router_rows
  router-located =
      ap (find (λ (x : RouterTable). ident_eq r.id x.router)) real.routers
      ∙ find-filter_map (λ (z : RouterRow). ident_eq r.id z.id) (λ (x : RouterTable). ident_eq r.id x.router) (λ z. if is_on_host host z then Some (router_row rows t.tags z) else None) rows.routers (λ z row e. hit z row (is_on_host host z) e) (good.router_ids r.id)
      ∙ ap (option_and_then (λ z. if is_on_host host z then Some (router_row rows t.tags z) else None)) by-id
      ∙ ap (λ b. if b then Some (router_row rows t.tags r) else None) here
    where
      hit : (z : RouterRow) (row : RouterTable) (b : Bool) → (if b then Some (router_row rows t.tags z) else None) ≡ Some row → ident_eq r.id row.router ≡ ident_eq r.id z.id
      hit z row false e = cc
      hit z row true e = let is : router_row rows t.tags z ≡ row = cc in sym (ap (λ (x : RouterTable). ident_eq r.id x.router) is)

  -- each live port of the router is here, so its network has a tag
  ports-found : AllOf (λ (p : PortRow). find (has_id p.id) rows.ports ≡ Some p) rows.ports
  ports-found = each-found (λ (p : PortRow). has_id p.id) rows.ports (λ p. ident_itself p.id) (λ p. good.port_ids p.id)

  pub leg-here : (p : PortRow) → find (has_id p.id) rows.ports ≡ Some p → is_leg_of rows r p ≡ true → p.host ≡ host
  leg-here p e leg =
      let parts = and_parts (is_router_port p.owner && device_is p.device r.id) (is_live rows p) leg in
      let names = and_parts (is_router_port p.owner) (device_is p.device r.id) parts.0 in
      let stands : RouterPortStands rows p = find-each (RouterPortStands rows) (has_id p.id) rows.ports p good.router_ports e in
      let router_is : router_of rows p ≡ Some r = find-only test (λ (z : RouterRow). device_is p.device z.id) rows.routers r (good.router_names p.device) found names.1 in
      let at : is_on_host p.host r ≡ true = ap (is_hosted p.host) (sym router_is) ∙ stands names.0 parts.1 in
      both r.host at here
    where
      both : (o : Option (List ℕ)) → is_host_of p.host o ≡ true → is_host_of host o ≡ true → p.host ≡ host
      both None a b = cc
      both (Some m) a b = sym (bytes_same m p.host a) ∙ bytes_same m host b

  pub leg-tagged : (p : PortRow) → find (has_id p.id) rows.ports ≡ Some p → is_leg_of rows r p ≡ true → is_some (tag_of t.tags p.network) ≡ true
  leg-tagged p e leg =
      let at : is_at host p ≡ true = subst (λ h. bytes_eq p.host h ≡ true) (leg-here p e leg) (bytes_itself p.host) in
      let tag = tagged rows host t real good (has_id p.id) p e (and_from (is_live rows p) (is_at host p) (and_parts (is_router_port p.owner && device_is p.device r.id) (is_live rows p) leg).1 at) in
      ap is_some tag.1

  legs-tagged : AllOf (λ p. is_some (tag_of t.tags p.network) ≡ true) (legs_of rows r)
  unfolding legs_of
  legs-tagged = AllOf-filter (λ (p : PortRow). find (has_id p.id) rows.ports ≡ Some p) (λ p. is_some (tag_of t.tags p.network) ≡ true) (is_leg_of rows r) rows.ports leg-tagged ports-found

  ways-same : ways_at r.id t.routes ≡ ways_of rows r
  unfolding route_rows
  ways-same =
      ap (ways_at r.id) real.routes
      ∙ filter_map-one (λ (z : RouterRow). ident_eq r.id z.id) (λ (x : RouteRow). if ident_eq r.id x.router then Some (way_at x) else None) (λ z. if is_on_host host z then map (route_row z.id) (ways_of rows z) else []) rows.routers r (good.router_ids r.id) by-id (λ z e. other z e (is_on_host host z))
      ∙ ap (λ b. ways_at r.id (if b then map (route_row r.id) (ways_of rows r) else [])) here
      ∙ ways_one r.id r.id true (ident_itself r.id) (ways_of rows r)
    where
      other : (z : RouterRow) → ident_eq r.id z.id ≡ false → (b : Bool) → ways_at r.id (if b then map (route_row z.id) (ways_of rows z) else []) ≡ []
      other z e true = ways_one r.id z.id false e (ways_of rows z)
      other z e false = refl

  floats-of : (fs : List FloatingRow) → floats_at_router r.id (filter_map (λ (f : FloatingRow). float_row_by rows host f f.target) fs) ≡ filter_map (λ (f : FloatingRow). float_by r.id f f.target) fs
  floats-of [] = refl
  floats-of (f ∷ fs) = go f.target (floats-of fs)
    where
      rest : List FloatRow
      rest = filter_map (λ (f : FloatingRow). float_row_by rows host f f.target) fs

      go : (o : Option Target) → floats_at_router r.id (filter_map (λ (f : FloatingRow). float_row_by rows host f f.target) fs) ≡ filter_map (λ (f : FloatingRow). float_by r.id f f.target) fs → floats_at_router r.id (cons_option (float_row_by rows host f o) (filter_map (λ (f : FloatingRow). float_row_by rows host f f.target) fs)) ≡ cons_option (float_by r.id f o) (filter_map (λ (f : FloatingRow). float_by r.id f f.target) fs)
      go None h = h
      go (Some x) h = by (ident_eq r.id x.router) (is_hosted host (router_with rows x.router)) refl refl
        where
          by : (b c : Bool) → ident_eq r.id x.router ≡ b → is_hosted host (router_with rows x.router) ≡ c → floats_at_router r.id (cons_option (if c then Some (record { id = f.id; router = x.router; floating = f.address; fixed = x.fixed }) else None) (filter_map (λ (f : FloatingRow). float_row_by rows host f f.target) fs)) ≡ cons_option (if b then Some (record { floating = f.address; fixed = x.fixed }) else None) (filter_map (λ (f : FloatingRow). float_by r.id f f.target) fs)
          by true true e k = ap (λ b. cons_option (if b then Some (record { floating = f.address; fixed = x.fixed }) else None) (floats_at_router r.id (filter_map (λ (f : FloatingRow). float_row_by rows host f f.target) fs))) e ∙ ap (λ l. record { floating = f.address; fixed = x.fixed } ∷ l) h
          by false true e k = ap (λ b. cons_option (if b then Some (record { floating = f.address; fixed = x.fixed }) else None) (floats_at_router r.id (filter_map (λ (f : FloatingRow). float_row_by rows host f f.target) fs))) e ∙ h
          by false false e k = h
          by true false e k =
              let named : router_with rows x.router ≡ Some r = ap (λ i. router_with rows i) (sym (ident_same r.id x.router e)) ∙ by-id in
              let bad : true ≡ false = sym here ∙ ap (is_hosted host) (sym named) ∙ k in
              cc

  floats-same : floats_at_router r.id t.floats ≡ floats_of rows r
  unfolding float_rows floats_of
  floats-same = ap (floats_at_router r.id) real.floats ∙ floats-of rows.floatings

  pub view-located : table_view t (router_row rows t.tags r) ≡ router_view rows r
  unfolding router_view
  view-located =
      ap (λ ls. record { id = r.id; up = r.up; snat = has_snat r.gateway; gateway = gateway_address rows r; legs = ls; ways = ways_at r.id t.routes; floats = floats_at_router r.id t.floats }) (legs_same rows t.tags (legs_of rows r) legs-tagged)
      ∙ ap (λ ws. record { id = r.id; up = r.up; snat = has_snat r.gateway; gateway = gateway_address rows r; legs = map leg_of (legs_of rows r); ways = ws; floats = floats_at_router r.id t.floats }) ways-same
      ∙ ap (λ fs. record { id = r.id; up = r.up; snat = has_snat r.gateway; gateway = gateway_address rows r; legs = map leg_of (legs_of rows r); ways = ways_of rows r; floats = fs }) floats-same

  -- a leg of the table is the tagged port
  pub leg-located : (i : Ident) → tagged_leg (router_row rows t.tags r) i ≡ option_and_then (tagged_by rows t.tags) (find (has_id i) (legs_of rows r))
  unfolding legs_of
  leg-located i = find-filter_map (has_id i) (λ (x : RouterPort). ident_eq i x.port) (tagged_by rows t.tags) (legs_of rows r) (λ p x e. hit p x (tag_of t.tags p.network) e) (AtMostOne-filter (has_id i) (is_leg_of rows r) rows.ports (good.port_ids i))
    where
      hit : (p : PortRow) (x : RouterPort) (o : Option ℕ) → option_map (router_port rows p) o ≡ Some x → ident_eq i x.port ≡ ident_eq i p.id
      hit p x None e = cc
      hit p x (Some tag) e = let is : router_port rows p tag ≡ x = cc in sym (ap (λ (y : RouterPort). ident_eq i y.port) is)

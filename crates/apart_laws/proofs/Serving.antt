-- Gateways and floating addresses of a project come and go with the ports that serve them, and nothing else of others does.
use Rattle.api_types.proofs.ListLemmas.{any-last, at-any, both_and, false_true, one_row, or_true}
use Rattle.api_types.proofs.NameLemmas.{and_fails, any-push_other, by_test, ident_itself}
use Rattle.api_types.specs.Holders.{holds}
use Rattle.api_types.specs.Ident.{Ident}
use Rattle.api_types.specs.Lists.{Each, is_some_so, times}
use Rattle.api_types.specs.RowLists.{RowLists}
use Rattle.api_types.specs.Table.{ident_eq}
use Rattle.api_types.specs.WithRows.{gone_from, put_in, with_put, without_row}
use Rattle.api_types.specs.declared.floating.FloatingRow.{FloatingRow}
use Rattle.api_types.specs.declared.kind.Kind.TheVariants.{Floating as FloatingKind, Port as PortKind}
use Rattle.api_types.specs.declared.kind.Row.TheVariants.{Floating, Port, Router}
use Rattle.api_types.specs.declared.port.PortRow.{PortRow}
use Rattle.api_types.specs.declared.router.Gateway.{Gateway}
use Rattle.api_types.specs.declared.router.RouterRow.{RouterRow}
use Rattle.call_parts.specs.Edits.{Add, Drop, made}
use Rattle.apart_laws.proofs.Filtered.{any_gone, any_mapped, filter_agree, filter_then, one_pushed, others_gone, others_put}
use Rattle.kept_laws.proofs.EditedRows.{get_map, map_get}
use Rattle.apart_laws.proofs.Steps.{Spares, others, with_floatings, with_routers}
use Rattle.apart_laws.specs.Others.{is_port_of_others, of_others}
use Rattle.std.proofs.Common.{Bool, List, None, Option, Some, ap, false, if◌then◌else◌, not, refl, slice_get, sym, true, ◌++◌, ◌∙◌, ◌∷◌, ◌≡◌, ◌≤◌, [], ℕ}
use Rattle.std.specs.List.{list_any}
use Rattle.std.specs.Prelude.{◌&&◌, ◌||◌}
use Rattle.std.specs.Str.{bytes_eq}

-- the only row with its id
abbrev pub IsAlone : {R : Type 0} → (R → Ident) → R → List R → Type 0
IsAlone id_of r xs = Each (λ q. ident_eq (id_of r) (id_of q) ≡ true → q ≡ r) xs

module _ {R : Type 0} (id_of : R → Ident) where
  -- where a row is put, it is alone with its id
  pub put_alone : (new : R) (xs : List R) → IsAlone id_of new (put_in id_of new xs)
  put_alone new xs k y at same =
      let r = map_get (λ x. if ident_eq (id_of new) (id_of x) then new else x) xs k y at in
      by r.0 (ident_eq (id_of new) (id_of r.0)) refl r.2
    where
      by : (x : R) (b : Bool) → ident_eq (id_of new) (id_of x) ≡ b → (if b then new else x) ≡ y → y ≡ new
      by x true is e = sym e
      by x false is e = false_true _ (sym is ∙ (ap (λ z. ident_eq (id_of new) (id_of z)) e ∙ same))

  pub put_here : (new : R) (xs : List R) (k : ℕ) (old : R) → slice_get xs k ≡ Some old → id_of new ≡ id_of old → slice_get (put_in id_of new xs) k ≡ Some new
  put_here new xs k old at same =
      get_map (λ x. if ident_eq (id_of new) (id_of x) then new else x) xs k old at
      ∙ ap (λ b. Some (if b then new else old)) (ap (λ i. ident_eq i (id_of old)) same ∙ ident_itself (id_of old))

  -- a row of an id of its own is alone with it
  pub alone_there : (xs : List R) (k : ℕ) (r : R) → times id_of (id_of r) xs ≤ 1 → slice_get xs k ≡ Some r → IsAlone id_of r xs
  alone_there xs k r once at j q at_q same = one_row (λ y. ident_eq (id_of r) (id_of y)) xs once j k q r at_q at same (ident_itself (id_of r))

-- a gateway is by the port
abbrev pub leads : Ident → Option Gateway → Bool
leads i o = is_some_so (λ (g : Gateway). ident_eq g.port i) o

module _ (project : List ℕ) where
  -- a router of the project has its gateway by the port, and a floating address of it is held by it
  abbrev pub by_router : Ident → RouterRow → Bool
  by_router i r = bytes_eq r.project project && leads i r.gateway

  abbrev pub by_floating : Ident → FloatingRow → Bool
  by_floating i f = bytes_eq f.project project && ident_eq f.own_port i

  -- a port that serves is none of others'
  pub served : (rows : RowLists) (p : PortRow) → list_any (by_router p.id) rows.routers ≡ true → is_port_of_others project rows p ≡ false
  served rows p h = ap (λ b. not (bytes_eq p.project project || (b || list_any (by_floating p.id) rows.floatings))) h ∙ ap not (or_true (bytes_eq p.project project))

  pub served_by_floating : (rows : RowLists) (p : PortRow) → list_any (by_floating p.id) rows.floatings ≡ true → is_port_of_others project rows p ≡ false
  served_by_floating rows p h = ap (λ b. not (bytes_eq p.project project || (list_any (by_router p.id) rows.routers || b))) h
      ∙ (ap (λ b. not (bytes_eq p.project project || b)) (or_true (list_any (by_router p.id) rows.routers)) ∙ ap not (or_true (bytes_eq p.project project)))

  -- what others have of ports, by the routers and the floating addresses
  pub by_routers : (rows : RowLists) (xs : List RouterRow) (q : PortRow) → list_any (by_router q.id) xs ≡ list_any (by_router q.id) rows.routers → is_port_of_others project (record rows { routers = xs }) q ≡ is_port_of_others project rows q
  by_routers rows xs q h = ap (λ b. not (bytes_eq q.project project || (b || list_any (by_floating q.id) rows.floatings))) h

  pub by_floatings : (rows : RowLists) (xs : List FloatingRow) (q : PortRow) → list_any (by_floating q.id) xs ≡ list_any (by_floating q.id) rows.floatings → is_port_of_others project (record rows { floatings = xs }) q ≡ is_port_of_others project rows q
  by_floatings rows xs q h = ap (λ b. not (bytes_eq q.project project || (list_any (by_router q.id) rows.routers || b))) h

  -- a router in place of one, by whose gateway a port is led to as before
  pub put_leads : (xs : List RouterRow) (old new : RouterRow) → new.id ≡ old.id → IsAlone (λ (r : RouterRow). r.id) old xs → (i : Ident) → by_router i new ≡ by_router i old
      → list_any (by_router i) (put_in (λ (r : RouterRow). r.id) new xs) ≡ list_any (by_router i) xs
  put_leads xs old new same alone i e = any_mapped (by_router i) (λ x. if ident_eq new.id x.id then new else x) xs (λ k x at.
      by_test (ident_eq new.id x.id) (by_router i (if ident_eq new.id x.id then new else x) ≡ by_router i x)
      (λ is. ap (λ b. by_router i (if b then new else x)) is ∙ (e ∙ ap (by_router i) (sym (alone k x at (ap (λ j. ident_eq j x.id) (sym same) ∙ is)))))
      (λ other. ap (λ b. by_router i (if b then new else x)) other))

  module _ (rows : RowLists) (old new : RouterRow) (k : ℕ) (at : slice_get rows.routers k ≡ Some old) (same : new.id ≡ old.id) (owner : new.project ≡ old.project) (own : bytes_eq old.project project ≡ true) (alone : IsAlone (λ (r : RouterRow). r.id) old rows.routers) where
    own_new : bytes_eq new.project project ≡ true
    own_new = ap (λ name. bytes_eq name project) owner ∙ own

    routers_put : of_others (λ r. r.project) project (put_in (λ (r : RouterRow). r.id) new rows.routers) ≡ of_others (λ r. r.project) project rows.routers
    routers_put = others_put (others (λ (r : RouterRow). r.project) project) (λ (r : RouterRow). ident_eq new.id r.id) new rows.routers (ap not own_new)
        (λ h x at_x is. ap (λ (r : RouterRow). not (bytes_eq r.project project)) (alone h x at_x (ap (λ j. ident_eq j x.id) (sym same) ∙ is)) ∙ ap not own)

    -- with the same gateway, or none as before
    pub put_spares : ((i : Ident) → leads i new.gateway ≡ leads i old.gateway) → Spares project rows (with_put rows (Router new))
    put_spares e = with_routers project rows (put_in (λ (r : RouterRow). r.id) new rows.routers) routers_put
        (λ h q at_q. by_routers rows (put_in (λ (r : RouterRow). r.id) new rows.routers) q
        (put_leads rows.routers old new same alone q.id (λ j. bytes_eq (owner j) project && e q.id j)))

    -- without the gateway that it had, whose port goes
    pub lost_spares : (g : Gateway) → old.gateway ≡ Some g → new.gateway ≡ None → Spares project rows (without_row (with_put rows (Router new)) PortKind g.port)
    lost_spares g had lost =
        let next : RowLists = record rows { routers = put_in (λ (r : RouterRow). r.id) new rows.routers } in
        record {
          projects = refl;
          networks = refl;
          subnets = refl;
          groups = refl;
          rules = refl;
          routers = routers_put;
          policies = refl;
          floatings = refl;
          ports = filter_then (is_port_of_others project next) (λ (q : PortRow). not (ident_eq g.port q.id)) rows.ports
              ∙ filter_agree _ _ rows.ports (λ h q at_q. by_test (ident_eq g.port q.id) (not (ident_eq g.port q.id) && is_port_of_others project next q ≡ is_port_of_others project rows q)
              (λ is. ap (λ b. not b && is_port_of_others project next q) is
              ∙ sym (served rows q (at-any (by_router q.id) rows.routers k old at (both_and _ _ own (ap (leads q.id) had ∙ is)))))
              (λ other. ap (λ b. not b && is_port_of_others project next q) other
              ∙ by_routers rows (put_in (λ (r : RouterRow). r.id) new rows.routers) q (put_leads rows.routers old new same alone q.id
              (and_fails (bytes_eq new.project project) (leads q.id new.gateway) (ap (leads q.id) lost) ∙ sym (and_fails (bytes_eq old.project project) (leads q.id old.gateway) (ap (leads q.id) had ∙ other))))));
        }

  -- a new router, without gateway
  pub router_added_spares : (rows : RowLists) (r : RouterRow) → bytes_eq r.project project ≡ true → r.gateway ≡ None → Spares project rows (record rows { routers = rows.routers ++ r ∷ [] })
  router_added_spares rows r own bare = with_routers project rows (rows.routers ++ r ∷ []) (one_pushed (others (λ (q : RouterRow). q.project) project) rows.routers r (ap not own))
      (λ h q at_q. by_routers rows (rows.routers ++ r ∷ []) q (any-push_other (by_router q.id) rows.routers r (and_fails (bytes_eq r.project project) (leads q.id r.gateway) (ap (leads q.id) bare))))

  -- floating addresses

  -- a new one, with the port that holds it
  pub floating_on_spares : (rows : RowLists) (f : FloatingRow) (p : PortRow) → bytes_eq f.project project ≡ true → f.own_port ≡ p.id → Each (λ q. ident_eq p.id q.id ≡ false) rows.ports
      → Spares project rows (made rows (Add (Floating f) ∷ Add (Port p) ∷ []))
  floating_on_spares rows f p own holds fresh =
      let next : RowLists = record rows { ports = rows.ports ++ p ∷ []; floatings = rows.floatings ++ f ∷ [] } in
      record {
        projects = refl;
        networks = refl;
        subnets = refl;
        groups = refl;
        rules = refl;
        routers = refl;
        policies = refl;
        floatings = one_pushed (others (λ (x : FloatingRow). x.project) project) rows.floatings f (ap not own);
        ports = one_pushed (is_port_of_others project next) rows.ports p
            (served_by_floating next p (any-last (by_floating p.id) rows.floatings f (both_and _ _ own (ap (λ i. ident_eq i p.id) holds ∙ ident_itself p.id))))
            ∙ filter_agree _ _ rows.ports (λ h q at_q. by_floatings rows (rows.floatings ++ f ∷ []) q
            (any-push_other (by_floating q.id) rows.floatings f (and_fails (bytes_eq f.project project) (ident_eq f.own_port q.id) (ap (λ i. ident_eq i q.id) holds ∙ fresh h q at_q))));
      }

  -- one in place of another, held by the same port
  pub floating_put_spares : (rows : RowLists) (old new : FloatingRow) → new.id ≡ old.id → new.project ≡ old.project → new.own_port ≡ old.own_port → bytes_eq old.project project ≡ true
      → IsAlone (λ (x : FloatingRow). x.id) old rows.floatings → Spares project rows (with_put rows (Floating new))
  floating_put_spares rows old new same owner holds own alone = with_floatings project rows (put_in (λ (x : FloatingRow). x.id) new rows.floatings)
      (others_put (others (λ (x : FloatingRow). x.project) project) (λ (x : FloatingRow). ident_eq new.id x.id) new rows.floatings (ap (λ name. not (bytes_eq name project)) owner ∙ ap not own)
      (λ h x at_x is. ap (λ (y : FloatingRow). not (bytes_eq y.project project)) (alone h x at_x (ap (λ j. ident_eq j x.id) (sym same) ∙ is)) ∙ ap not own))
      (λ h q at_q. by_floatings rows (put_in (λ (x : FloatingRow). x.id) new rows.floatings) q
      (any_mapped (by_floating q.id) (λ x. if ident_eq new.id x.id then new else x) rows.floatings (λ k x at.
      by_test (ident_eq new.id x.id) (by_floating q.id (if ident_eq new.id x.id then new else x) ≡ by_floating q.id x)
      (λ is. ap (λ b. by_floating q.id (if b then new else x)) is
      ∙ ((λ j. bytes_eq (owner j) project && ident_eq (holds j) q.id) ∙ ap (by_floating q.id) (sym (alone k x at (ap (λ j. ident_eq j x.id) (sym same) ∙ is)))))
      (λ other. ap (λ b. by_floating q.id (if b then new else x)) other))))

  -- one goes with the port that holds it
  pub floating_gone_spares : (rows : RowLists) (f : FloatingRow) (k : ℕ) → slice_get rows.floatings k ≡ Some f → bytes_eq f.project project ≡ true → IsAlone (λ (x : FloatingRow). x.id) f rows.floatings
      → Spares project rows (made rows (Drop PortKind f.own_port ∷ Drop FloatingKind f.id ∷ []))
  floating_gone_spares rows f k at own alone =
      let next : RowLists = record rows { floatings = gone_from (λ (x : FloatingRow). x.id) f.id rows.floatings } in
      record {
        projects = refl;
        networks = refl;
        subnets = refl;
        groups = refl;
        rules = refl;
        routers = refl;
        policies = refl;
        floatings = others_gone (others (λ (x : FloatingRow). x.project) project) (λ (x : FloatingRow). ident_eq f.id x.id) rows.floatings
            (λ h x at_x is. ap (λ (y : FloatingRow). not (bytes_eq y.project project)) (alone h x at_x is) ∙ ap not own);
        ports = filter_then (is_port_of_others project next) (λ (q : PortRow). not (ident_eq f.own_port q.id)) rows.ports
            ∙ filter_agree _ _ rows.ports (λ h q at_q. by_test (ident_eq f.own_port q.id) (not (ident_eq f.own_port q.id) && is_port_of_others project next q ≡ is_port_of_others project rows q)
            (λ is. ap (λ b. not b && is_port_of_others project next q) is ∙ sym (served_by_floating rows q (at-any (by_floating q.id) rows.floatings k f at (both_and _ _ own is))))
            (λ other. ap (λ b. not b && is_port_of_others project next q) other ∙ by_floatings rows (gone_from (λ (x : FloatingRow). x.id) f.id rows.floatings) q
            (any_gone (λ (x : FloatingRow). not (ident_eq f.id x.id)) (by_floating q.id) rows.floatings (λ i x at_x kept.
            by_test (ident_eq f.id x.id) (by_floating q.id x ≡ false)
            (λ is. ap (by_floating q.id) (alone i x at_x is) ∙ and_fails (bytes_eq f.project project) (ident_eq f.own_port q.id) other)
            (λ not_it. false_true _ (sym kept ∙ ap not not_it))))));
      }

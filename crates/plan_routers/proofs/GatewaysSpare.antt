-- Gateways of a project come and go with their ports, and nothing else of others does.
use Rattle.api_types.proofs.ListLemmas.{at-any, both_and, false_true}
use Rattle.api_types.proofs.NameLemmas.{and_fails, by_test, ident_itself}
use Rattle.api_types.specs.Lists.{Each}
use Rattle.api_types.specs.RowLists.{RowLists}
use Rattle.api_types.specs.Table.{ident_eq}
use Rattle.api_types.specs.WithRows.{gone_from, put_in}
use Rattle.api_types.specs.declared.kind.Kind.TheVariants.{Router as RouterKind}
use Rattle.api_types.specs.declared.port.PortRow.{PortRow}
use Rattle.api_types.specs.declared.router.Gateway.{Gateway}
use Rattle.api_types.specs.declared.router.RouterRow.{RouterRow}
use Rattle.call_parts.specs.Edits.{Drop, made}
use Rattle.apart_laws.proofs.Filtered.{any_gone, filter_agree, filter_then, one_pushed, others_gone, others_put}
use Rattle.apart_laws.proofs.Steps.{Spares, others, with_routers}
use Rattle.apart_laws.specs.Others.{is_port_of_others, of_others}
use Rattle.plan_routers.specs.RouterCalls.{gateway_edits, gateway_gone, with_gateway}
use Rattle.std.proofs.Common.{Bool, List, None, Option, Some, ap, false, not, refl, slice_get, sym, true, ◌++◌, ◌∙◌, ◌∷◌, ◌≡◌, [], ℕ}
use Rattle.std.specs.List.{list_any}
use Rattle.std.specs.Prelude.{◌&&◌}
use Rattle.std.specs.Str.{bytes_eq}
use Rattle.apart_laws.proofs.Serving.{IsAlone, by_router, by_routers, leads, put_here, put_leads, served}

module _ (project : List ℕ) where
  -- a router without gateway gets one by a new port
  pub gateway_on_spares : (rows : RowLists) (r : RouterRow) (k : ℕ) (p : PortRow) (snat : Bool) → slice_get rows.routers k ≡ Some r → bytes_eq r.project project ≡ true → IsAlone (λ (q : RouterRow). q.id) r rows.routers
      → r.gateway ≡ None → Each (λ q. ident_eq p.id q.id ≡ false) rows.ports → Spares project rows (made rows (gateway_edits r p snat))
  gateway_on_spares rows r k p snat at own alone bare fresh =
      let led : RouterRow = with_gateway r p.network p.id snat in
      let routers : List RouterRow = put_in (λ (q : RouterRow). q.id) led rows.routers in
      let next : RowLists = record rows { ports = rows.ports ++ p ∷ []; routers = routers } in
      record {
        projects = refl;
        networks = refl;
        subnets = refl;
        groups = refl;
        rules = refl;
        routers = others_put (others (λ (q : RouterRow). q.project) project) (λ (q : RouterRow). ident_eq r.id q.id) led rows.routers (ap not own)
            (λ h x at_x is. ap (λ (q : RouterRow). not (bytes_eq q.project project)) (alone h x at_x is) ∙ ap not own);
        policies = refl;
        floatings = refl;
        ports = one_pushed (is_port_of_others project next) rows.ports p
            ((served project) next p (at-any ((by_router project) p.id) routers k led (put_here (λ (q : RouterRow). q.id) led rows.routers k r at refl) (both_and _ _ own (ident_itself p.id))))
            ∙ filter_agree _ _ rows.ports (λ h q at_q. (by_routers project) rows routers q ((put_leads project) rows.routers r led refl alone q.id
            (and_fails (bytes_eq r.project project) (ident_eq p.id q.id) (fresh h q at_q) ∙ sym (and_fails (bytes_eq r.project project) (leads q.id r.gateway) (ap (leads q.id) bare)))));
      }

  -- a router goes with its gateway's port
  module _ (rows : RowLists) (r : RouterRow) (k : ℕ) (at : slice_get rows.routers k ≡ Some r) (own : bytes_eq r.project project ≡ true) (alone : IsAlone (λ (q : RouterRow). q.id) r rows.routers) where
    abbrev rest : List RouterRow
    rest = gone_from (λ (q : RouterRow). q.id) r.id rows.routers

    abbrev less : RowLists
    less = record rows { routers = rest }

    routers_gone : of_others (λ q. q.project) project rest ≡ of_others (λ q. q.project) project rows.routers
    routers_gone = others_gone (others (λ (q : RouterRow). q.project) project) (λ (q : RouterRow). ident_eq r.id q.id) rows.routers
        (λ h x at_x is. ap (λ (q : RouterRow). not (bytes_eq q.project project)) (alone h x at_x is) ∙ ap not own)

    -- by the others, whoever isn't led to by this one
    still_led : (q : PortRow) → leads q.id r.gateway ≡ false → list_any ((by_router project) q.id) rest ≡ list_any ((by_router project) q.id) rows.routers
    still_led q not_led = any_gone (λ (x : RouterRow). not (ident_eq r.id x.id)) ((by_router project) q.id) rows.routers (λ h x at_x kept.
        by_test (ident_eq r.id x.id) ((by_router project) q.id x ≡ false)
        (λ is. ap ((by_router project) q.id) (alone h x at_x is) ∙ and_fails (bytes_eq r.project project) (leads q.id r.gateway) not_led)
        (λ other. false_true _ (sym kept ∙ ap not other)))

    pub router_gone_spares : (o : Option Gateway) → r.gateway ≡ o → Spares project rows (made rows (gateway_gone o ++ Drop RouterKind r.id ∷ []))
    router_gone_spares None none = with_routers project rows rest routers_gone (λ h q at_q. (by_routers project) rows rest q (still_led q (ap (leads q.id) none)))
    router_gone_spares (Some g) some = record {
      projects = refl;
      networks = refl;
      subnets = refl;
      groups = refl;
      rules = refl;
      routers = routers_gone;
      policies = refl;
      floatings = refl;
      ports = filter_then (is_port_of_others project less) (λ (q : PortRow). not (ident_eq g.port q.id)) rows.ports
          ∙ filter_agree _ _ rows.ports (λ h q at_q. by_test (ident_eq g.port q.id) (not (ident_eq g.port q.id) && is_port_of_others project less q ≡ is_port_of_others project rows q)
          (λ is. ap (λ b. not b && is_port_of_others project less q) is
          ∙ sym ((served project) rows q (at-any ((by_router project) q.id) rows.routers k r at (both_and _ _ own (ap (leads q.id) some ∙ is)))))
          (λ other. ap (λ b. not b && is_port_of_others project less q) other
          ∙ (by_routers project) rows rest q (still_led q (ap (leads q.id) some ∙ other))));
    }

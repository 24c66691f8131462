-- A network goes with its subnets, its ports and its policies.
use Rattle.std.proofs.Common.{Bool, List, ap, arith, map, ◌++◌, ◌∙◌, ◌∷◌, ◌≡◌, []}
use Rattle.kept_laws.proofs.EditLemmas.{all_gone, subnets_dropped}
use Rattle.plan_networks.specs.NetworkCalls.{network_gone}
use Rattle.row_laws.specs.Gone.{without_network}
use Rattle.call_parts.specs.Edits.{Drop, Edit, dropped, made}
use Rattle.api_types.specs.WithRows.{gone_from}
use Rattle.api_types.specs.Consistent.{IsConsistent}
use Rattle.api_types.specs.Ident.{Ident}
use Rattle.api_types.specs.RowLists.{RowLists}
use Rattle.api_types.specs.Table.{ident_eq}
use Rattle.api_types.specs.declared.kind.Kind.TheVariants.{Network as NetworkKind, Policy as PolicyKind, Port as PortKind, Subnet as SubnetKind}
use Rattle.api_types.specs.declared.network.NetworkRow.{NetworkRow}
use Rattle.api_types.specs.declared.policy.PolicyRow.{PolicyRow}
use Rattle.api_types.specs.declared.port.PortRow.{PortRow}
use Rattle.api_types.specs.declared.subnet.SubnetRow.{SubnetRow}
use Rattle.std.specs.Prelude.{filter}
use Rattle.call_parts.proofs.EditLemmas.{made-append}
use Rattle.kept_laws.proofs.DroppedRows.{all_dropped, policies_dropped, ports_dropped}

module _ (rows : RowLists) (c : IsConsistent rows) (i : Ident) where
  -- a network goes with its subnets, its ports and its policies
  pub network_rows_gone : made rows (network_gone rows i) ≡ without_network rows i
  network_rows_gone =
      let of_subnet : SubnetRow → Bool = λ s. ident_eq i s.network in
      let of_port : PortRow → Bool = λ p. ident_eq i p.network in
      let of_policy : PolicyRow → Bool = λ l. ident_eq i l.object in
      let ss = dropped SubnetKind (λ (s : SubnetRow). s.id) (filter of_subnet rows.subnets) in
      let ps = dropped PortKind (λ (p : PortRow). p.id) (filter of_port rows.ports) in
      let ls = dropped PolicyKind (λ (l : PolicyRow). l.id) (filter of_policy rows.policies) in
      let last = Drop NetworkKind i ∷ [] in
      let first : RowLists = record rows { subnets = all_gone (λ (s : SubnetRow). s.id) (map (λ (s : SubnetRow). s.id) (filter of_subnet rows.subnets)) rows.subnets } in
      let second : RowLists = record first { ports = all_gone (λ (p : PortRow). p.id) (map (λ (p : PortRow). p.id) (filter of_port rows.ports)) rows.ports } in
      let a = all_dropped (λ (s : SubnetRow). s.id) of_subnet rows.subnets (λ j. omega (arith, c.numbered.ids j)) in
      let b = all_dropped (λ (p : PortRow). p.id) of_port rows.ports (λ j. omega (arith, c.numbered.ids j)) in
      let e = all_dropped (λ (l : PolicyRow). l.id) of_policy rows.policies (λ j. omega (arith, c.numbered.ids j)) in
      split rows ss ps ls last
      ∙ (ap (λ r. made (made (made r ps) ls) last) (subnets_dropped rows (filter of_subnet rows.subnets))
      ∙ (ap (λ r. made (made r ls) last) (ports_dropped first (filter of_port rows.ports))
      ∙ (ap (λ r. made r last) (policies_dropped second (filter of_policy rows.policies))
      ∙ (λ j. record rows { networks = gone_from (λ (n : NetworkRow). n.id) i rows.networks; subnets = a j; ports = b j; policies = e j }))))
    where
      split : (r : RowLists) (es fs gs hs : List Edit) → made r (es ++ fs ++ gs ++ hs) ≡ made (made (made (made r es) fs) gs) hs
      split r es fs gs hs = made-append r (es ++ fs ++ gs) hs ∙ ap (λ x. made x hs) (made-append r (es ++ fs) gs ∙ ap (λ x. made x gs) (made-append r es fs))

-- What the settings let hosts carry stays so: edits put in ports that are bound only where their host can carry their network.
use Rattle.std.proofs.Common.{Bool, List, not, refl, subst, sym, true, ◌∷◌, ◌≡◌, [], ℕ}
use Rattle.std.specs.Prelude.{◌||◌, filter, ⊤}
use Rattle.api_types.specs.Consistent.Carried.{AreCarried, is_bound}
use Rattle.api_types.specs.Lists.{Each, stands_so, is_some_so}
use Rattle.api_types.specs.RowLists.{RowLists}
use Rattle.api_types.specs.Table.{ident_eq}
use Rattle.api_types.specs.declared.kind.Kind.TheVariants.{Floating as FloatingKind, Group as GroupKind, Network as NetworkKind, Policy as PolicyKind, Port as PortKind, Project as ProjectKind, Router as RouterKind, Rule as RuleKind, Subnet as SubnetKind}
use Rattle.api_types.specs.declared.kind.Row.{Row}
use Rattle.api_types.specs.declared.kind.Row.TheVariants.{Floating, Group, Network, Policy, Port, Project, Router, Rule, Subnet}
use Rattle.api_types.specs.declared.network.NetworkRow.{NetworkRow}
use Rattle.api_types.specs.declared.network.Segment.{Segment}
use Rattle.api_types.specs.declared.port.PortRow.{PortRow}
use Rattle.api_types.proofs.ListLemmas.{each-filter, each-push}
use Rattle.kept_laws.proofs.FixedFits.{each_map, each_tail}
use Rattle.api_types.specs.declared.port.Fixed.{Fixed}
use Rattle.api_types.specs.declared.floating.FloatingRow.{FloatingRow}
use Rattle.call_parts.specs.Leaving.{disassociated, disassociations, loses_target}
use Rattle.kept_laws.proofs.TypedKept.{each_put}
use Rattle.call_parts.specs.Edits.{Add, Drop, Edit, Put, edited, made}
use Rattle.api_types.specs.Ident.{Ident}

module _ (can : List ℕ → Segment → Bool) where
  -- the port is bound only where its host can carry its network
  abbrev pub IsCarried : List NetworkRow → PortRow → Type 0
  IsCarried networks p = not (is_bound p.vif) || stands_so (λ n. n.id) p.network (λ n. can p.host n.segment) networks ≡ true

  -- networks come and go otherwise
  abbrev pub IsCarriedRow : List NetworkRow → Row → Type 0
  IsCarriedRow networks (Project r) = ⊤
  IsCarriedRow networks (Network r) = ⊥
  IsCarriedRow networks (Subnet r) = ⊤
  IsCarriedRow networks (Port p) = IsCarried networks p
  IsCarriedRow networks (Group r) = ⊤
  IsCarriedRow networks (Rule r) = ⊤
  IsCarriedRow networks (Router r) = ⊤
  IsCarriedRow networks (Floating r) = ⊤
  IsCarriedRow networks (Policy r) = ⊤

  abbrev pub IsCarriedEdit : List NetworkRow → Edit → Type 0
  IsCarriedEdit networks (Add r) = IsCarriedRow networks r
  IsCarriedEdit networks (Put r) = IsCarriedRow networks r
  IsCarriedEdit networks (Drop NetworkKind i) = ⊥
  IsCarriedEdit networks (Drop kind i) = ⊤

  edited_carried : (rows : RowLists) (edit : Edit) → AreCarried can rows.networks rows.ports → IsCarriedEdit rows.networks edit → (AreCarried can rows.networks (edited rows edit).ports) × ((edited rows edit).networks ≡ rows.networks)
  edited_carried rows (Add (Project r)) c h = (c, refl)
  edited_carried rows (Add (Network r)) c h = absurd h
  edited_carried rows (Add (Subnet r)) c h = (c, refl)
  edited_carried rows (Add (Port p)) c h = (record { at_host = each-push (IsCarried rows.networks) rows.ports p c.at_host h }, refl)
  edited_carried rows (Add (Group r)) c h = (c, refl)
  edited_carried rows (Add (Rule r)) c h = (c, refl)
  edited_carried rows (Add (Router r)) c h = (c, refl)
  edited_carried rows (Add (Floating r)) c h = (c, refl)
  edited_carried rows (Add (Policy r)) c h = (c, refl)
  edited_carried rows (Put (Project r)) c h = (c, refl)
  edited_carried rows (Put (Network r)) c h = absurd h
  edited_carried rows (Put (Subnet r)) c h = (c, refl)
  edited_carried rows (Put (Port p)) c h = (record { at_host = each_put (IsCarried rows.networks) (λ (q : PortRow). q.id) p rows.ports h c.at_host }, refl)
  edited_carried rows (Put (Group r)) c h = (c, refl)
  edited_carried rows (Put (Rule r)) c h = (c, refl)
  edited_carried rows (Put (Router r)) c h = (c, refl)
  edited_carried rows (Put (Floating r)) c h = (c, refl)
  edited_carried rows (Put (Policy r)) c h = (c, refl)
  edited_carried rows (Drop ProjectKind i) c h = (c, refl)
  edited_carried rows (Drop NetworkKind i) c h = absurd h
  edited_carried rows (Drop SubnetKind i) c h = (c, refl)
  edited_carried rows (Drop PortKind i) c h = (record { at_host = each-filter (λ (p : PortRow). not (ident_eq i p.id)) (IsCarried rows.networks) (IsCarried rows.networks) rows.ports (λ p kept g. g) c.at_host }, refl)
  edited_carried rows (Drop GroupKind i) c h = (c, refl)
  edited_carried rows (Drop RuleKind i) c h = (c, refl)
  edited_carried rows (Drop RouterKind i) c h = (c, refl)
  edited_carried rows (Drop FloatingKind i) c h = (c, refl)
  edited_carried rows (Drop PolicyKind i) c h = (c, refl)

  pub made_carried : (rows : RowLists) (edits : List Edit) → AreCarried can rows.networks rows.ports → Each (IsCarriedEdit rows.networks) edits → AreCarried can (made rows edits).networks (made rows edits).ports
  made_carried rows [] c all = c
  made_carried rows (edit ∷ edits) c all =
      let once = edited_carried rows edit c (all 0 edit refl) in
      made_carried (edited rows edit) edits (subst (λ networks. AreCarried can networks (edited rows edit).ports) (sym once.1) once.0)
      (subst (λ networks. Each (IsCarriedEdit networks) edits) (sym once.1) (each_tail (IsCarriedEdit rows.networks) edit edits all))

pub disassociations_carried : (can : List ℕ → Segment → Bool) (networks : List NetworkRow) (floatings : List FloatingRow) (i : Ident) (kept : List Fixed) → Each (IsCarriedEdit can networks) (disassociations floatings i kept)
disassociations_carried can networks floatings i kept = each_map (λ (f : FloatingRow). ⊤) (IsCarriedEdit can networks) (λ (f : FloatingRow). Put (Floating (disassociated f))) (filter (λ (f : FloatingRow). is_some_so (loses_target i kept) f.target) floatings) (λ f h. tt) (λ k f at. tt)

-- What the types of values say of rows stays so: edits put in rows of which it holds.
use Rattle.std.proofs.Common.{Bool, List, false, not, refl, subst, sym, true, ◌<◌, ◌^◌, ◌∷◌, [], ℕ}
use Rattle.std.specs.Prelude.{filter, if◌then◌else◌, ⊤}
use Rattle.net_addr.specs.Prefixes.{IsPrefix}
use Rattle.api_types.specs.Consistent.{IsConsistent}
use Rattle.api_types.specs.Ident.{Ident}
use Rattle.api_types.specs.Lists.{Each, is_some_so}
use Rattle.api_types.specs.Registration.{Drawing}
use Rattle.api_types.specs.RowLists.{RowLists}
use Rattle.api_types.specs.Table.{ident_eq}
use Rattle.api_types.specs.declared.floating.FloatingRow.{FloatingRow}
use Rattle.api_types.specs.declared.kind.Kind.{Kind}
use Rattle.api_types.specs.declared.kind.Kind.TheVariants.{Floating as FloatingKind, Group as GroupKind, Network as NetworkKind, Policy as PolicyKind, Port as PortKind, Project as ProjectKind, Router as RouterKind, Rule as RuleKind, Subnet as SubnetKind}
use Rattle.api_types.specs.declared.kind.Row.{Row}
use Rattle.api_types.specs.declared.kind.Row.TheVariants.{Floating, Group, Network, Policy, Port, Project, Router, Rule, Subnet}
use Rattle.api_types.specs.declared.port.Fixed.{Fixed}
use Rattle.api_types.specs.declared.port.PortRow.{PortRow}
use Rattle.api_types.specs.declared.subnet.SubnetRow.{SubnetRow}
use Rattle.row_laws.specs.Drawn.{IsDrawing}
use Rattle.api_types.proofs.ListLemmas.{each-filter, each-push}
use Rattle.kept_laws.proofs.FixedFits.{each_map, each_tail}
use Rattle.call_parts.specs.Edits.{Add, Drop, Edit, Put, edited, made}
use Rattle.api_types.specs.WithRows.{put_in, with_added, with_put, without_row}
use Rattle.call_parts.specs.Leaving.{disassociated, disassociations, loses_target}
use Rattle.kept_laws.specs.Kept.{AreKept, HostsCarry}
use Rattle.call_parts.specs.Typed.{AreTyped}
use Rattle.net_settings.specs.Settings.{SettingsParts}

-- what an accepted call keeps of rows, where what types and hosts ask of them is taken as it comes
pub record HaveKept (settings : SettingsParts) (before after : RowLists) : Type 0 where
  pub consistent : IsConsistent after
  pub typed : AreTyped before → AreTyped after
  pub carried : HostsCarry settings before → HostsCarry settings after

pub are_kept : (settings : SettingsParts) (before after : RowLists) → AreTyped before → HaveKept settings before after → AreKept settings before after
are_kept settings before after typed kept = record { consistent = kept.consistent; typed = kept.typed typed; carried = kept.carried }

abbrev pub IsTypedRow : Row → Type 0
IsTypedRow (Project r) = ⊤
IsTypedRow (Network r) = ⊤
IsTypedRow (Subnet s) = IsPrefix s.prefix
IsTypedRow (Port p) = p.mac < 2 ^ 48
IsTypedRow (Group r) = ⊤
IsTypedRow (Rule r) = ⊤
IsTypedRow (Router r) = ⊤
IsTypedRow (Floating r) = ⊤
IsTypedRow (Policy r) = ⊤

abbrev pub IsTypedEdit : Edit → Type 0
IsTypedEdit (Add r) = IsTypedRow r
IsTypedEdit (Put r) = IsTypedRow r
IsTypedEdit (Drop kind i) = ⊤

pub each_put : {R : Type 0} (P : R → Type 0) (id_of : R → Ident) (r : R) (xs : List R) → P r → Each P xs → Each P (put_in id_of r xs)
each_put P id_of r xs p all = each_map P P (λ q. if ident_eq (id_of r) (id_of q) then r else q) xs (λ q h. by (ident_eq (id_of r) (id_of q)) q h) all
  where
    by : (b : Bool) (q : _) → P q → P (if b then r else q)
    by true q h = p
    by false q h = h

added_typed : (rows : RowLists) (r : Row) → AreTyped rows → IsTypedRow r → AreTyped (with_added rows r)
added_typed rows (Project r) t h = record { prefixes = t.prefixes; macs = t.macs }
added_typed rows (Network r) t h = record { prefixes = t.prefixes; macs = t.macs }
added_typed rows (Subnet s) t h = record { prefixes = each-push (λ s. IsPrefix s.prefix) rows.subnets s t.prefixes h; macs = t.macs }
added_typed rows (Port p) t h = record { prefixes = t.prefixes; macs = each-push (λ p. p.mac < 2 ^ 48) rows.ports p t.macs h }
added_typed rows (Group r) t h = record { prefixes = t.prefixes; macs = t.macs }
added_typed rows (Rule r) t h = record { prefixes = t.prefixes; macs = t.macs }
added_typed rows (Router r) t h = record { prefixes = t.prefixes; macs = t.macs }
added_typed rows (Floating r) t h = record { prefixes = t.prefixes; macs = t.macs }
added_typed rows (Policy r) t h = record { prefixes = t.prefixes; macs = t.macs }

put_typed : (rows : RowLists) (r : Row) → AreTyped rows → IsTypedRow r → AreTyped (with_put rows r)
put_typed rows (Project r) t h = record { prefixes = t.prefixes; macs = t.macs }
put_typed rows (Network r) t h = record { prefixes = t.prefixes; macs = t.macs }
put_typed rows (Subnet s) t h = record { prefixes = each_put (λ (s : SubnetRow). IsPrefix s.prefix) (λ s. s.id) s rows.subnets h t.prefixes; macs = t.macs }
put_typed rows (Port p) t h = record { prefixes = t.prefixes; macs = each_put (λ (p : PortRow). p.mac < 2 ^ 48) (λ p. p.id) p rows.ports h t.macs }
put_typed rows (Group r) t h = record { prefixes = t.prefixes; macs = t.macs }
put_typed rows (Rule r) t h = record { prefixes = t.prefixes; macs = t.macs }
put_typed rows (Router r) t h = record { prefixes = t.prefixes; macs = t.macs }
put_typed rows (Floating r) t h = record { prefixes = t.prefixes; macs = t.macs }
put_typed rows (Policy r) t h = record { prefixes = t.prefixes; macs = t.macs }

gone_typed : (rows : RowLists) (kind : Kind) (i : Ident) → AreTyped rows → AreTyped (without_row rows kind i)
gone_typed rows ProjectKind i t = record { prefixes = t.prefixes; macs = t.macs }
gone_typed rows NetworkKind i t = record { prefixes = t.prefixes; macs = t.macs }
gone_typed rows SubnetKind i t = record { prefixes = each-filter (λ (s : SubnetRow). not (ident_eq i s.id)) (λ s. IsPrefix s.prefix) (λ s. IsPrefix s.prefix) rows.subnets (λ s kept h. h) t.prefixes; macs = t.macs }
gone_typed rows PortKind i t = record { prefixes = t.prefixes; macs = each-filter (λ (p : PortRow). not (ident_eq i p.id)) (λ p. p.mac < 2 ^ 48) (λ p. p.mac < 2 ^ 48) rows.ports (λ p kept h. h) t.macs }
gone_typed rows GroupKind i t = record { prefixes = t.prefixes; macs = t.macs }
gone_typed rows RuleKind i t = record { prefixes = t.prefixes; macs = t.macs }
gone_typed rows RouterKind i t = record { prefixes = t.prefixes; macs = t.macs }
gone_typed rows FloatingKind i t = record { prefixes = t.prefixes; macs = t.macs }
gone_typed rows PolicyKind i t = record { prefixes = t.prefixes; macs = t.macs }

edited_typed : (rows : RowLists) (edit : Edit) → AreTyped rows → IsTypedEdit edit → AreTyped (edited rows edit)
edited_typed rows (Add r) t h = added_typed rows r t h
edited_typed rows (Put r) t h = put_typed rows r t h
edited_typed rows (Drop kind i) t h = gone_typed rows kind i t

pub made_typed : (rows : RowLists) (edits : List Edit) → AreTyped rows → Each IsTypedEdit edits → AreTyped (made rows edits)
made_typed rows [] t all = t
made_typed rows (edit ∷ edits) t all = made_typed (edited rows edit) edits (edited_typed rows edit t (all 0 edit refl)) (each_tail IsTypedEdit edit edits all)

-- a drawing changes neither subnets nor ports
pub drawing_typed : (rows : RowLists) (name : List ℕ) (many : ℕ) (d : Drawing) → IsDrawing rows name many d → AreTyped rows → AreTyped d.rows
drawing_typed rows name many d drawn t = record {
  prefixes = subst (λ subnets. Each (λ s. IsPrefix s.prefix) subnets) (sym drawn.subnets) t.prefixes;
  macs = subst (λ ports. Each (λ p. p.mac < 2 ^ 48) ports) (sym drawn.ports) t.macs;
}

pub disassociations_typed : (floatings : List FloatingRow) (i : Ident) (kept : List Fixed) → Each IsTypedEdit (disassociations floatings i kept)
disassociations_typed floatings i kept = each_map (λ (f : FloatingRow). ⊤) IsTypedEdit (λ (f : FloatingRow). Put (Floating (disassociated f))) (filter (λ (f : FloatingRow). is_some_so (loses_target i kept) f.target) floatings) (λ f h. tt) (λ k f at. tt)

-- The rows of a router that stays, and of a floating address whose router does, are as before.
use Rattle.std.proofs.Common.{◌≡◌, ◌∙◌, ℕ, suc, List, [], ◌∷◌, Option, Some, None, map, refl, ap, sym}
use Rattle.std.specs.Prelude.{if◌then◌else◌, option_and_then, option_map}
use Rattle.std.specs.List.{cons_option, filter, filter_map}
use Rattle.api_types.specs.Lists.{Each}
use Rattle.api_types.specs.Owners.{is_interface}
use Rattle.api_types.specs.RouterRows.{first_four, has_snat, is_leg_of, legs_of}
use Rattle.api_types.specs.RowLists.{RowLists}
use Rattle.api_types.specs.RowsWith.{subnet_with}
use Rattle.api_types.specs.declared.change.Item.{Item}
use Rattle.api_types.specs.declared.port.Fixed.{Fixed}
use Rattle.api_types.specs.declared.port.PortRow.{PortRow}
use Rattle.api_types.specs.declared.router.RouterRow.{RouterRow}
use Rattle.api_types.specs.declared.subnet.SubnetRow.{SubnetRow}
use Rattle.plane_types.specs.KeyedTables.{hosted_router}
use Rattle.plane_types.specs.Numbered.{numbered_after, with_numbers}
use Rattle.plane_types.specs.NumberedRows.{numbered_rows}
use Rattle.plane_types.specs.TableRows.{is_on_host, prefixes_for, tag_of, tagged_by}
use Rattle.plane_types.specs.declared.table.TagRow.{TagRow}
use Rattle.plane_types.proofs.NumberedLemmas.{plain}
use Rattle.table_edits.specs.NumbersSeen.{Renumbered}
use Rattle.table_edits.specs.Untouched.{SubnetStays}
use Rattle.kept_rows.proofs.FoundLemmas.{plain_filtered}
use Rattle.l3_delta.specs.RouterStays.{RouterStays}
use Rattle.l3_delta.proofs.TouchedLemmas.{Ports, plain_after, plain_before}

-- what is made of each of some rows alike
pub made_alike : {X Y : Type 0} (f g : X → Option Y) (xs : List X) → Each (λ x. f x ≡ g x) xs
    → filter_map f xs ≡ filter_map g xs
made_alike f g [] same = refl
made_alike f g (x ∷ xs) same =
    (λ j. cons_option (same 0 x refl j) (filter_map f xs))
    ∙ ap (cons_option (g x)) (made_alike f g xs (λ k y at. same (suc k) y at))

same_prefix : (old new : Option SubnetRow) → SubnetStays old new → option_map (λ (s : SubnetRow). s.prefix) old ≡ option_map (λ (s : SubnetRow). s.prefix) new
same_prefix None None h = refl
same_prefix (Some old) (Some new) h = ap Some h.prefix
same_prefix None (Some new) h = absurd h
same_prefix (Some old) None h = absurd h

same_port : (before after : RowLists) (old new : List TagRow) (p : PortRow)
    → tag_of old p.network ≡ tag_of new p.network
    → Each (λ (f : Fixed). SubnetStays (subnet_with before f.subnet) (subnet_with after f.subnet)) p.fixed
    → tagged_by before old p ≡ tagged_by after new p
same_port before after old new p tag subnets =
    let prefixes : prefixes_for before p ≡ prefixes_for after p =
    made_alike (λ (f : Fixed). option_map (λ (s : SubnetRow). s.prefix) (subnet_with before f.subnet))
    (λ (f : Fixed). option_map (λ (s : SubnetRow). s.prefix) (subnet_with after f.subnet)) p.fixed
    (λ k f at. same_prefix (subnet_with before f.subnet) (subnet_with after f.subnet) (subnets k f at)) in
    λ j. option_map (λ tag. record {
      port = p.id;
      tag = tag;
      mac = p.mac;
      addresses = map (λ (f : Fixed). f.address) p.fixed;
      prefixes = prefixes j;
      inside = is_interface p.owner;
    }) (tag j)

module _ (before after : RowLists) (items : List Item) (ports : Renumbered PortRow)
    (routers : Renumbered RouterRow) (s : Ports before after items ports routers)
    (old new : List TagRow) (r : RouterRow) (stays : RouterStays before after ports old new r) where
  pub same_legs : legs_of before r ≡ legs_of after r
  unfolding legs_of
  same_legs =
      ap (filter (is_leg_of before r)) (sym (plain_before before after items ports routers s))
      ∙ sym (plain_filtered (is_leg_of before r) (with_numbers 0 ports.rows))
      ∙ ap plain stays.legs
      ∙ plain_filtered (is_leg_of after r) (numbered_after ports.rows ports.items)
      ∙ ap (filter (is_leg_of after r)) (plain_after before after items ports routers s)

  same_ports : filter_map (tagged_by before old) (legs_of before r)
      ≡ filter_map (tagged_by after new) (legs_of after r)
  same_ports =
      made_alike (tagged_by before old) (tagged_by after new) (legs_of before r)
      (λ k p at. same_port before after old new p (stays.tags k p at) (stays.subnets k p at))
      ∙ ap (filter_map (tagged_by after new)) same_legs

  pub same_row : (host : List ℕ) → hosted_router (numbered_rows before) host old r
      ≡ hosted_router (numbered_rows after) host new r
  same_row host =
      λ j. if is_on_host host r then Some (record {
        router = r.id;
        up = r.up;
        snat = has_snat r.gateway;
        gateway = option_and_then (λ (p : PortRow). first_four p.fixed) (stays.gateway j);
        ports = same_ports j;
      }) else None

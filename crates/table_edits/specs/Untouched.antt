-- What tables ask of a network by itself, and of a subnet, is as before a change.
use Rattle.std.specs.Prelude.{◌≡◌, ⊤, List, Option, Some, None}
use Rattle.api_types.specs.Ident.{Ident}
use Rattle.api_types.specs.Live.{network_up, segment}
use Rattle.api_types.specs.RowLists.{RowLists}
use Rattle.api_types.specs.RowsWith.{network_with}
use Rattle.api_types.specs.declared.subnet.SubnetRow.{SubnetRow}
use Rattle.plane_types.specs.TableRows.{tag_of}
use Rattle.plane_types.specs.declared.table.TagRow.{TagRow}

-- a network is as up, of the same segment and of the same tag
pub record StaysAlike (before after : RowLists) (old new : List TagRow) (n : Ident) : Type 0 where
  pub up : network_up (network_with before n) ≡ network_up (network_with after n)
  pub on : segment before n ≡ segment after n
  pub tag : tag_of old n ≡ tag_of new n

-- a subnet says the same to its ports
pub record SaysTheSame (old new : SubnetRow) : Type 0 where
  pub prefix : old.prefix ≡ new.prefix
  pub gateway : old.gateway ≡ new.gateway
  pub dns : old.dns ≡ new.dns
  pub host_routes : old.host_routes ≡ new.host_routes

-- it is there before and after and says the same, or isn't there
abbrev pub SubnetStays : Option SubnetRow → Option SubnetRow → Type 0
SubnetStays None None = ⊤
SubnetStays (Some old) (Some new) = SaysTheSame old new
SubnetStays None (Some new) = ⊥
SubnetStays (Some old) None = ⊥

-- An owner that isn't a service's is no router's, no DHCP's and no floating address's.
use Rattle.std.proofs.Common.{List, ap, false, refl, sym, take, ℕ, ◌∙◌, ◌≡◌}
use Rattle.std.specs.Prelude.{codes}
use Rattle.std.specs.Str.{bytes_eq}
use Rattle.api_types.specs.Owners.{is_dhcp, is_floating, is_gateway, is_interface, is_service}
use Rattle.row_laws.specs.Replaced.{ServesNothing}
use Rattle.api_types.proofs.ListLemmas.{false_true}
use Rattle.api_types.proofs.NameLemmas.{by_test, bytes_itself, bytes_same}

no_service : (owner name : List ℕ) → is_service owner ≡ false → take 8 name ≡ codes "network:" → bytes_eq owner name ≡ false
no_service owner name h begins = by_test (bytes_eq owner name) (bytes_eq owner name ≡ false)
    (λ same. false_true _ (sym h ∙ (ap is_service (bytes_same owner name same) ∙ (ap (λ t. bytes_eq t (codes "network:")) begins ∙ bytes_itself (codes "network:")))))
    (λ no. no)

pub serves_nothing : (owner : List ℕ) → is_service owner ≡ false → ServesNothing owner
unfolding is_interface is_gateway is_dhcp is_floating
serves_nothing owner h = record {
  no_interface = no_service owner (codes "network:router_interface") h refl;
  no_gateway = no_service owner (codes "network:router_gateway") h refl;
  no_dhcp = no_service owner (codes "network:dhcp") h refl;
  no_floating = no_service owner (codes "network:floatingip") h refl;
}

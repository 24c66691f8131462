-- Ids, addresses, MACs and prefixes as they are printed.
use Rattle.std.specs.Prelude.{ℕ}
use Rattle.net_addr.specs.Words.{MacAddress}
use Rattle.net_addr.specs.Spelling.{addr_text, address_text, mac_text, prefix_text}
use Rattle.net_addr.specs.declared.address.Addr.{Addr}
use Rattle.net_addr.specs.Prefixes.{Prefix}
use Rattle.api_types.specs.Ident.{Ident, ident_text}
use Rattle.api_types.specs.Printed.{Tree, word}

abbrev pub id_tree : Ident → Tree
id_tree id = word (ident_text id)

abbrev pub address_tree : Addr → Tree
address_tree address = word (addr_text address)

-- an address of version 4, by its number
abbrev pub four_tree : ℕ → Tree
four_tree address = word (address_text address)

abbrev pub mac_tree : MacAddress → Tree
mac_tree mac = word (mac_text mac)

abbrev pub prefix_tree : Prefix → Tree
prefix_tree prefix = word (prefix_text prefix)

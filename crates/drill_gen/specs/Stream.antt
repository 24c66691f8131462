-- The bytes of a drill: requests of HTTP/1.1 (RFC 9112), whose bodies are JSON without spaces and
-- with sorted members.
use Rattle.std.specs.Prelude.{ℕ, zero, suc, ◌+◌, ◌%◌, ◌==◌, [], ◌∷◌, ◌++◌, length, min, codes, if◌then◌else◌}
use Rattle.std.specs.Fmt.{decimal}
use Rattle.net_addr.specs.Words.{Bytes, Text}
use Rattle.net_addr.specs.Spelling.{address_text, mac_text}
use Rattle.api_types.specs.Ident.{ident_text}
use Rattle.drill_gen.specs.Draws.{drawn, state_after, state_behind}

-- a line of a head, with its end
abbrev pub line : Bytes → Bytes
line text = text ++ (13 ∷ 10 ∷ [])

-- how many bytes a body has
abbrev pub length_line : Bytes → Bytes
length_line body = codes "Content-Length: " ++ decimal (length body)

-- a POST of an administrator of the project `drill`
unfoldable pub request : Text → Bytes → Bytes
request path body =
    line (codes "POST " ++ path ++ codes " HTTP/1.1") ++ line (codes "X-Project-Id: drill")
    ++ line (codes "X-Roles: admin")
    ++ line (length_line body) ++ line [] ++ body

-- The project's first call registers it, and its default group and that one's four rules take the
-- counts 1 to 5. So the network has 6, its subnet 7, the subnet's DHCP port 8, and the k-th port
-- of the drill 8 + k.
abbrev pub id_at : ℕ → Text
id_at count = ident_text (record { ordinal = 1; count = count })

-- the k-th port's id, MAC (fa:16:3e:00:00:00 and the number) and address (10.0.0.2 and the number)
abbrev pub port_id : ℕ → Text
port_id k = id_at (8 + k)

abbrev pub port_mac : ℕ → Text
port_mac k = mac_text (274973436411904 + k)

abbrev pub port_address : ℕ → Text
port_address k = address_text (167772162 + k)

abbrev pub network_body : Bytes
network_body = codes "{\"network\":{}}"

abbrev pub subnet_body : Bytes
subnet_body =
    codes "{\"subnet\":{\"cidr\":\"10.0.0.0/16\",\"ip_version\":4,\"network_id\":\"" ++ id_at 6
    ++ codes "\"}}"

abbrev pub port_body : Text → Bytes
port_body host =
    codes "{\"port\":{\"binding:host_id\":\"" ++ host ++ codes "\",\"network_id\":\"" ++ id_at 6
    ++ codes "\"}}"

-- an event of TCP between two ports, by their own MACs and addresses: its front, up to the port
-- that it is sent from
unfoldable pub frame_front : ℕ → ℕ → ℕ → Bytes
frame_front from to sport =
    codes "{\"event\":{\"frame\":{\"dport\":22,\"dst\":\"" ++ port_mac to
    ++ codes "\",\"from\":\"" ++ port_address from
    ++ codes "\",\"kind\":\"ip4\",\"proto\":\"tcp\",\"sport\":" ++ decimal sport

-- the whole event
abbrev pub frame_body : ℕ → ℕ → ℕ → Bytes
frame_body from to sport =
    frame_front from to sport
    ++ codes ",\"src\":\"" ++ port_mac from
    ++ codes "\",\"to\":\"" ++ port_address to
    ++ codes "\",\"ttl\":64},\"port\":\"" ++ port_id from ++ codes "\"}}"

-- on c1 where an even number is drawn
abbrev pub host_by : ℕ → Text
host_by number = if number % 2 == 0 then codes "c1" else codes "c2"

abbrev pub port_request : ℕ → Bytes
port_request number = request (codes "/v2.0/ports") (port_body (host_by number))

-- between two of this many ports
abbrev pub frame_request : ℕ → ℕ → ℕ → ℕ → Bytes
frame_request ports x y z =
    request (codes "/lab/v1/frames")
    (frame_body (1 + x % ports) (1 + y % ports) (1024 + z % 60000))

-- this many ports, one draw each
unfoldable pub port_requests : ℕ → ℕ → Bytes
port_requests zero state = []
port_requests (suc many) state =
    port_request (drawn state) ++ port_requests many (state_after state)

-- this many frames, three draws each
unfoldable pub frame_requests : ℕ → ℕ → ℕ → Bytes
frame_requests ports zero state = []
frame_requests ports (suc many) state =
    frame_request ports (drawn state) (drawn (state_after state))
    (drawn (state_after (state_after state)))
    ++ frame_requests ports many (state_after (state_after (state_after state)))

-- a network and its subnet
abbrev pub network_requests : Bytes
network_requests =
    request (codes "/v2.0/networks") network_body ++ request (codes "/v2.0/subnets") subnet_body

-- the requests of a drill of this size, whose draws start here
abbrev pub stream : ℕ → ℕ → Bytes
stream start size =
    network_requests ++ port_requests size start
    ++ frame_requests (min size 499) size (state_behind size start)

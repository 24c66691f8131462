-- The bytes of what an agent asks (RFC 9112, section 3).
use Rattle.std.specs.Prelude.{◌++◌, codes, decimal}
use Rattle.net_addr.specs.Words.{Bytes, Text}
use Rattle.neutron_http.specs.Replies.{line_end}
use Rattle.wire_types.specs.declared.ask.WireAsk.{WireAsk}
use Rattle.wire_types.specs.declared.ask.WireAsk.TheVariants as ask

abbrev pub path_of : WireAsk → Text
path_of ask.Version = codes "/lab/v1/version"
path_of (ask.Page version number) =
    codes "/lab/v1/snapshot/" ++ (decimal version ++ (codes "/" ++ decimal number))
path_of (ask.Change number) = codes "/lab/v1/changes/" ++ decimal number

-- what comes after the path: an administrator asks, and the connection ends after the reply
abbrev pub request_rest : Bytes
request_rest =
    codes " HTTP/1.1" ++ line_end ++ codes "X-Project-Id: agent" ++ line_end
    ++ codes "X-Roles: admin" ++ line_end ++ codes "Connection: close" ++ line_end ++ line_end

abbrev pub request_bytes : WireAsk → Bytes
request_bytes a = codes "GET " ++ path_of a ++ request_rest

-- Where packets are and what events come to, as code has them.
use Rattle.std.specs.Prelude.{List, [], ◌∷◌, Option, Some, None, option_to_list}
use Rattle.api_types.specs.Ident.{Ident}
use Rattle.plane_types.specs.Meaning.{Fate as TheFate, Onward, Trace as TheTrace, end_fate, with_fresh, with_path}
use Rattle.api_types.specs.RouterRows.{leg_of}
use Rattle.plane_types.specs.Routing.{RouteEnds, RouteSends, Routed as TheRouted}
use Rattle.plane_types.specs.Parts.{packet_of}
use Rattle.net_meaning.specs.declared.router.Routed.{Routed}
use Rattle.net_meaning.specs.declared.router.Routed.TheVariants.{Ends as EndsThere, Sends}
use Rattle.net_meaning.specs.declared.at_port.Fate.{Fate}
use Rattle.net_meaning.specs.declared.at_port.Next.{Next}
use Rattle.net_meaning.specs.declared.at_port.Next.TheVariants.{Ends, To}
use Rattle.net_meaning.specs.declared.at_port.Trace.{Trace}
use Rattle.net_meaning.specs.declared.at_port.AtPort.{AtPort}

abbrev pub routed_of : Routed → TheRouted
routed_of (EndsThere o) = RouteEnds o
routed_of (Sends s) =
    RouteSends (option_to_list s.made) (leg_of s.out.now) s.hop (packet_of s.packet)

abbrev pub trace_of : Trace → TheTrace
trace_of t = record { path = t.path; fresh = t.fresh }

abbrev pub fate_of : Fate → TheFate
fate_of f = record { outcome = f.outcome; path = f.trace.path; fresh = f.trace.fresh }

-- a router, and the network of the way out
abbrev pub passed_list : Option (Ident × Ident) → List Ident
passed_list None = []
passed_list (Some p) = p.0 ∷ p.1 ∷ []

-- the event ends, or another port gets the packet
abbrev pub next_by : Onward → Next → TheTrace → TheFate
next_by on (Ends o) t = end_fate t o
next_by on (To q p) t = on q.now (packet_of p) t

-- with what the packet made and passed there
abbrev pub trace_after : TheTrace → AtPort → TheTrace
trace_after t at_port =
    with_path (with_fresh t (option_to_list at_port.made)) (passed_list at_port.passed)

abbrev pub at_port_fate : Onward → TheTrace → AtPort → TheFate
at_port_fate on t at_port = next_by on at_port.next (trace_after t at_port)

use Rattle.std.proofs.Common.{◌≡◌, ◌++◌, flat_map, take}
use Rattle.api_types.specs.Members.{prefixes_of}
use Rattle.l2_delta.proofs.set_keys.add_members.Given as goal

-- what the ports so far give is added
abbrev pub invariant-loop-port : goal.invariant-loop-port
invariant-loop-port l =
    l.prefixes.items ≡ l.fn.prefixes.items ++ flat_map (prefixes_of l.group) (take l.port-index l.ports)

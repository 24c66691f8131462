use Rattle.std.proofs.Common.{◌≡◌, drop, filter, option_copied}
use Rattle.net_addr.specs.Addresses.{is_v4}
use Rattle.api_types.specs.Association.{only_one}
use Rattle.api_types.specs.declared.port.Fixed.{Fixed}
use Rattle.api_floating.proofs.AimLemmas.{behind}
use Rattle.api_floating.proofs.aim.only_four.Given as goal

-- the one so far, and those that are left, are all
abbrev pub invariant-loop-fixed : goal.invariant-loop-fixed
invariant-loop-fixed l =
    only_one (behind (option_copied l.only) (filter (λ (f : Fixed). is_v4 f.address) (drop l.fixed-index l.held)))
    ≡ only_one (filter (λ (f : Fixed). is_v4 f.address) l.held)

use Rattle.std.proofs.Common.{◌≡◌, ◌∙◌, ◌+◌, ◌-◌, ◌^◌, Some, map, min, ap, sym, arith}
use Rattle.keeper_core.specs.declared.calls.Calls.{Calls}
use Rattle.agent_links.specs.MemoryLinks.{MemoryLinks, ended_of}
use Rattle.agent_links.proofs.memory_link.MemoryLinkLink.open.Goals as goal

pub returns-in-None-clause-opens : goal.returns-in-None-clause-opens
returns-in-None-clause-opens c =
    let to_come : c.pop_front.new.self.items ≡ c.args.self.now.to_come = sym c.in-None.ensures.items ∙ ap (λ (v : MemoryLinks). v.to_come) c.self.view_is in
    let ended : map ended_of c.reserve.new.self.items ≡ c.args.self.now.ended = ap (map ended_of) c.in_ok-reserve.ensures.items ∙ ap (λ (v : MemoryLinks). v.ended) c.self.view_is in
    let opened : c.self.inside.address ≡ c.args.self.now.opened = ap (λ (v : MemoryLinks). v.opened) c.self.view_is in
    let before : c.self.inside.calls.faults ≡ c.args.self.now.calls.faults = ap (λ (v : MemoryLinks). v.calls.faults) c.self.view_is in
    let first = c.count.ensures.cause.later in
    let more = c.add_faults.ensures.later in
    let is : c.add_faults.new.calls.faults ≡ min (c.count.new.self.faults + 1) (2 ^ 64 - 1) = ap (λ (k : Calls). k.faults) c.add_faults.ensures.is in record {
      comes = ap Some to_come;
      cause = record { later = omega (arith, before, first, more); failed = λ _. omega (arith, before, first, is) };
      is = λ j. record {
        to_come = Some c.pop_front.new.self.items;
        ended = Some (ended j);
        opened = opened j;
        faults = c.add_faults.new.calls.faults;
      };
    }

use Rattle.std.proofs.Common.{◌≡◌, ◌∙◌, List, ℕ, arith, refl, subst, sym}
use Rattle.std.specs.Prelude.{IsAscii}
use Rattle.net_addr.specs.Spelling.{SpellsAddress, address_text}
use Rattle.net_addr.proofs.PrintLemmas.{address_ascii, address_spelled, ok_text}
use Rattle.net_addr.proofs.address.Addr4.print.Goals as goal

pub ascii_text-requires : goal.ascii_text-requires
ascii_text-requires c = subst IsAscii (sym (c.as_slice.ensures.value ∙ c.dotted-text.ensures)) (address_ascii c.args.self (omega arith))

pub returns-clause-text : goal.returns-clause-text
returns-clause-text c =
    ok_text c.ascii_text.result (λ (t : List ℕ). t ≡ address_text c.args.self) c.as_slice.result.now (address_text c.args.self) (c.as_slice.ensures.value ∙ c.dotted-text.ensures) refl c.ascii_text.ensures

pub returns-clause-spelled : goal.returns-clause-spelled
returns-clause-spelled c =
    ok_text c.ascii_text.result (λ (t : List ℕ). SpellsAddress t c.args.self) c.as_slice.result.now (address_text c.args.self) (c.as_slice.ensures.value ∙ c.dotted-text.ensures) (address_spelled c.args.self (omega arith)) c.ascii_text.ensures

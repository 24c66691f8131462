use Rattle.std.proofs.Common.{◌≡◌, List, ℕ, arith, refl, subst, sym}
use Rattle.std.specs.Prelude.{IsAscii}
use Rattle.net_addr.specs.Spelling.{SpellsMac, mac_text}
use Rattle.net_addr.proofs.PrintLemmas.{mac_ascii, mac_spelled, ok_text}
use Rattle.net_addr.proofs.address.Mac.print.Goals as goal

pub ascii_text-requires : goal.ascii_text-requires
ascii_text-requires c = subst IsAscii (sym c.pairs-text.ensures) (mac_ascii c.args.self (omega arith))

pub returns-clause-text : goal.returns-clause-text
returns-clause-text c =
    ok_text c.ascii_text.result (λ (t : List ℕ). t ≡ mac_text c.args.self) c.pairs-text.result (mac_text c.args.self) c.pairs-text.ensures refl c.ascii_text.ensures

pub returns-clause-spelled : goal.returns-clause-spelled
returns-clause-spelled c =
    ok_text c.ascii_text.result (λ (t : List ℕ). SpellsMac t c.args.self) c.pairs-text.result (mac_text c.args.self) c.pairs-text.ensures (mac_spelled c.args.self (omega arith)) c.ascii_text.ensures

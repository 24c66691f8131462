use Rattle.std.proofs.Common.{◌≡◌, ℕ, max, sym, subst, arith}
use Rattle.std.proofs.lemmas.Grind.{common_steps}
use Rattle.net_addr.specs.Spelling.{IsAddrText, IsLongestStart}
use Rattle.net_addr.specs.declared.address.Addr.TheVariants.{V4, V6}
use Rattle.net_addr.proofs.FormLemmas.{addr_once}
use Rattle.net_addr.proofs.Read6Lemmas.{longer_version}
use Rattle.net_addr.proofs.address.Addr.read.Goals as goal

pub returns-in-Ok-clause-only : goal.returns-in-Ok-clause-only
returns-in-Ok-clause-only c = λ n s. addr_once c.args.text.now n (V4 c.in-Ok.address) s c.in-Ok.ensures.ok

pub returns-in-Ok-read-clause-only : goal.returns-in-Ok-read-clause-only
returns-in-Ok-read-clause-only c = λ n s. addr_once c.args.text.now n (V6 c.in-Ok-read.address) s c.in-Ok-read.ensures.ok

pub returns-in-Err-read-clause-at : goal.returns-in-Err-read-clause-at
returns-in-Err-read-clause-at c =
    let longer : c.max.result ≡ max c.in-Err.bad.at c.in-Err-read.bad.at = grind (arith, common_steps) in
    subst (λ (at : ℕ). IsLongestStart IsAddrText c.args.text.now at) (sym longer) (longer_version c.args.text.now c.in-Err.bad.at c.in-Err-read.bad.at c.in-Err.ensures.at c.in-Err-read.ensures.at)

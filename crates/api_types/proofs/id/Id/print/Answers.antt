use Rattle.std.proofs.Common.{◌≡◌, ap, sym, ◌∙◌, subst, IfOk, Result, Ok, Err, Some, List, ℕ}
use Rattle.uuid.specs.Text.{hyphenated_text, lower}
use Rattle.net_addr.specs.declared.memory.OutOfMemory.{OutOfMemory}
use Rattle.api_types.specs.Ident.{ident_text, Spells}
use Rattle.api_types.proofs.IdentLemmas.{printed_spells}
use Rattle.api_types.proofs.id.Id.print.Goals as goal

pub returns-clause-text : goal.returns-clause-text
unfolding ident_text
returns-clause-text c = rw (← c.uuid.ensures, ← c.hyphenated.ensures, ← c.encode_lower-text.ensures.text) c.of.ensures

pub returns-clause-reads_back : goal.returns-clause-reads_back
returns-clause-reads_back c h =
    let is = c.hyphenated.ensures ∙ c.uuid.ensures in
    let spells = printed_spells c.args.self c.encode_lower-text.result.now h (ap Some (sym is) ∙ c.encode_lower-text.ensures.parsed) (c.encode_lower-text.ensures.text ∙ ap (hyphenated_text lower) is) in
    by c.of.result c.of.ensures spells
  where
    by : (r : Result (List ℕ) OutOfMemory) → IfOk r (λ t. t ≡ c.encode_lower-text.result.now) → Spells c.encode_lower-text.result.now c.args.self → IfOk r (λ t. Spells t c.args.self)
    by (Ok t) e s = subst (λ x. Spells x c.args.self) (sym e) s
    by (Err e) x s = x

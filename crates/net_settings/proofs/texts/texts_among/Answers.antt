use Rattle.std.proofs.Common.{◌≡◌, false, is_some, subst, rules}
use Rattle.toml.specs.Data.{as_str}
use Rattle.toml.specs.View.{view}
use Rattle.net_settings.proofs.TextLemmas.{some_fails}
use Rattle.net_settings.proofs.texts.texts_among.Goals as goal

pub returns-in_default : goal.returns-in_default
returns-in_default c =
    let d = c.item-item.result in
    let none : is_some (as_str (view d)) ≡ false = search rules in
    let here = subst (λ v. is_some (as_str (view v)) ≡ false) c.item-item.is none in
    rw (some_fails (λ s. is_some (as_str s)) view c.args.items.now c.loop-item.item-index d c.loop-item-test.true here)

use Rattle.std.proofs.Common.{◌≡◌, ◌∙◌, None, Some, ap, of_calls, rules, subst, sym, true, false}
use Rattle.std.specs.Prelude.{IfNone, IfSome, if◌then◌else◌, option_copied}
use Rattle.api_types.specs.Ident.{Ident, Spells}
use Rattle.api_types.specs.Owners.{device_is}
use Rattle.api_types.specs.RowsWith.{router_with}
use Rattle.touched_rows.proofs.DeviceLemmas.{named_by, spelled_router, unspelled_router}
use Rattle.touched_rows.proofs.devices.device_router.Goals as goal

pub returns-in_err-id : goal.returns-in_err-id
returns-in_err-id c =
    let device = c.args.port.now.device in
    let text : c.as_bytes.result.now ≡ device = search (rules, of_calls) in
    let gone : c.read.result ≡ None = search rules in
    let none = subst (λ o. IfNone o ((i : Ident) → Spells c.as_bytes.result.now i → ⊥)) gone c.read.ensures.none in
    let nothing : option_copied c.from_residual.result ≡ None = search rules in
    nothing ∙ sym (unspelled_router c.args.rows.now c.requires device (subst (λ t. (i : Ident) → Spells t i → ⊥) text none))

pub returns-in_err-router : goal.returns-in_err-router
returns-in_err-router c =
    let rows = c.args.rows.now in
    let device = c.args.port.now.device in
    let id = c.in_ok-id.id in
    let text : c.as_bytes.result.now ≡ device = search (rules, of_calls) in
    let read : c.read.result ≡ Some id = search rules in
    let spells = subst (λ o. IfSome o (Spells c.as_bytes.result.now)) read c.read.ensures.found in
    let gone : c.named_router.result ≡ None = search rules in
    let missing : router_with rows id ≡ None = sym c.named_router.ensures ∙ ap option_copied gone in
    let nothing : option_copied c.from_residual-in_err-router.result ≡ None = search rules in
    nothing ∙ sym (spelled_router rows c.requires device id (subst (λ t. Spells t id) text spells) ∙ ap (named_by device) missing)

pub returns-then-has_device : goal.returns-then-has_device
returns-then-has_device c =
    let rows = c.args.rows.now in
    let device = c.args.port.now.device in
    let id = c.in_ok-id.id in
    let router = c.in_ok-router.router.now in
    let text : c.as_bytes.result.now ≡ device = search (rules, of_calls) in
    let read : c.read.result ≡ Some id = search rules in
    let spells = subst (λ o. IfSome o (Spells c.as_bytes.result.now)) read c.read.ensures.found in
    let got : c.named_router.result ≡ Some c.in_ok-router.router = search rules in
    let found : router_with rows id ≡ Some router = sym c.named_router.ensures ∙ ap option_copied got in
    let is : device_is device router.id ≡ true = sym c.has_device.ensures ∙ c.if-has_device.true in
    sym (spelled_router rows c.requires device id (subst (λ t. Spells t id) text spells) ∙ ap (named_by device) found ∙ ap (λ b. if b then Some router else None) is)

pub returns-else-has_device : goal.returns-else-has_device
returns-else-has_device c =
    let rows = c.args.rows.now in
    let device = c.args.port.now.device in
    let id = c.in_ok-id.id in
    let router = c.in_ok-router.router.now in
    let text : c.as_bytes.result.now ≡ device = search (rules, of_calls) in
    let read : c.read.result ≡ Some id = search rules in
    let spells = subst (λ o. IfSome o (Spells c.as_bytes.result.now)) read c.read.ensures.found in
    let got : c.named_router.result ≡ Some c.in_ok-router.router = search rules in
    let found : router_with rows id ≡ Some router = sym c.named_router.ensures ∙ ap option_copied got in
    let is : device_is device router.id ≡ false = sym c.has_device.ensures ∙ c.if-has_device.false in
    sym (spelled_router rows c.requires device id (subst (λ t. Spells t id) text spells) ∙ ap (named_by device) found ∙ ap (λ b. if b then Some router else None) is)

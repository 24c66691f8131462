-- How a request is read, part by part.
use Rattle.std.specs.Prelude.{◌≡◌, ◌⊎◌, Result, Err}
use Rattle.api_types.specs.declared.refusal.Refusal.{Refusal}
use Rattle.api_types.specs.declared.refusal.Refusal.TheVariants.{BadBody, Invalid, OutOfMemory, StoreFault}
use Rattle.neutron_http.specs.declared.query.BodyRefusal.{BodyRefusal}
use Rattle.neutron_http.specs.declared.query.BodyRefusal.TheVariants as body

-- the refusal of a query or a body
abbrev pub refusal_by : BodyRefusal → Refusal
refusal_by (body.BadBody member) = BadBody member
refusal_by (body.BadAttribute name) = Invalid name
refusal_by body.OutOfMemory = OutOfMemory

-- what is read is refused so, or memory could not be had; reading asks no store
pub record IsUnread {T : Type 0} (read : Result T Refusal) (refusal : Refusal) : Type 0 where
  pub cause : (refusal ≡ OutOfMemory) ⊎ (read ≡ Err refusal)
  pub no_store : refusal ≡ StoreFault → ⊥

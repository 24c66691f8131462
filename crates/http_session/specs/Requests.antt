-- A request, by where its parts stand in the bytes (RFC 9112, section 2.1).
use Rattle.std.specs.Prelude.{◌≡◌}
use Rattle.net_addr.specs.Words.{Bytes}
use Rattle.http_heads.specs.Fields.{closes}
use Rattle.http_heads.specs.Heads.{Asked, Takes}
use Rattle.http_heads.specs.Parts.{IsPartOf, ArePartsOf}
use Rattle.http_session.specs.declared.request.Request.{Request}

-- the parts are those of the request
pub record IsRequest (bytes : Bytes) (request : Request) (asked : Asked) : Type 0 where
  pub parts : ArePartsOf bytes asked.head request.parts
  pub body : IsPartOf bytes request.body asked.body
  pub close : request.close ≡ closes asked.head

-- the bytes begin with a request, and its parts are these
abbrev pub BeginsWith : Bytes → Request → Type 0
BeginsWith bytes request =
    (asked : Asked) × (rest : Bytes) × Takes bytes asked rest × IsRequest bytes request asked

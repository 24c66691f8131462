-- The JSON that bytes spell.
use Rattle.std.proofs.Common.{◌≡◌, ℕ, Bool, true, false, List, Option, Some, None, IsUtf8, refl, sym}
use Rattle.std.specs.Prelude.{if◌then◌else◌}
use Rattle.std.specs.Str.{is_utf8}
use Rattle.std.proofs.lemmas.Str.{IsUtf8-from_is_utf8, is_utf8-from_IsUtf8}
use Rattle.serde_json.specs.Data.{Data}
use Rattle.serde_json.specs.Read.{read}
use Rattle.neutron_json.specs.Bodies.{json_of}

chosen : (b : Bool) (o p : Option Data) → b ≡ true → o ≡ p → p ≡ (if b then o else None)
chosen true o p is e = sym e
chosen false o p is e = absurd cc

pub json_read : (bytes : List ℕ) (d : Data) → IsUtf8 bytes → read bytes ≡ Some d → Some d ≡ json_of bytes
json_read bytes d utf8 e = chosen (is_utf8 bytes) (read bytes) (Some d) (is_utf8-from_IsUtf8 bytes utf8) e

none_by : (b : Bool) (o : Option Data) → (b ≡ true → o ≡ None) → None ≡ (if b then o else None)
none_by true o none = sym (none refl)
none_by false o none = refl

pub no_json : (bytes : List ℕ) → (IsUtf8 bytes → read bytes ≡ None) → None ≡ json_of bytes
no_json bytes none = none_by (is_utf8 bytes) (read bytes) (λ is. none (IsUtf8-from_is_utf8 bytes is))

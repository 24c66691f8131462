-- The number whose text something is: the one below a bound, where there is one.
use Rattle.std.specs.Prelude.{ℕ, zero, suc, ◌^◌, Bool, if◌then◌else◌, Option, Some, None, decimal}
use Rattle.std.specs.Str.{bytes_eq, str_to_ascii_lowercase}
use Rattle.net_addr.specs.Words.{MacAddress, Text}
use Rattle.net_addr.specs.Spelling.{address_text, mac_text}

-- the number below a bound that passes a test, where one does
unfoldable pub number_with : (ℕ → Bool) → ℕ → Option ℕ
number_with test zero = None
number_with test (suc n) = if test n then Some n else number_with test n

-- the number below a bound that the text writes in decimal, without leading zeros
unfoldable pub number_in : ℕ → Text → Option ℕ
number_in bound text = number_with (λ n. bytes_eq (decimal n) text) bound

-- the number of the address of version 4 that has this text (RFC 3986, 3.2.2, IPv4address)
unfoldable pub four_in : Text → Option ℕ
four_in text = number_with (λ n. bytes_eq (address_text n) text) (2 ^ 32)

-- the MAC that has this text in lower case (IEEE 802)
unfoldable pub mac_in : Text → Option MacAddress
mac_in text = number_with (λ n. bytes_eq (mac_text n) (str_to_ascii_lowercase text)) (2 ^ 48)

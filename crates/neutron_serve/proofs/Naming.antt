-- The name of a project is a text of ASCII.
use Rattle.std.proofs.Common.{◌≡◌, ℕ, zero, suc, ◌<◌, List, [], ◌∷◌, Bool, true, false, refl, arith}
use Rattle.std.proofs.lemmas.Bool.Decides.{nat_tests}
use Rattle.std.specs.Prelude.{◌&&◌, ◌||◌, ◌==◌, nat_le, length, not}
use Rattle.std.specs.Int.{is_in_range}
use Rattle.std.specs.List.{list_all}
use Rattle.std.specs.Str.{IsAscii, IsUtf8}
use Rattle.std.proofs.lemmas.Str.{IsUtf8-from_ascii}
use Rattle.api_types.specs.Lists.{is_empty}
use Rattle.json_values.specs.Grammars.{is_project_byte, is_project_name}

both : (a b : Bool) → a && b ≡ true → (a ≡ true) × (b ≡ true)
both true true h = (refl, refl)
both true false h = absurd cc
both false b h = absurd cc

either_of : (a b : Bool) (T : Type 0) → a || b ≡ true → (a ≡ true → T) → (b ≡ true → T) → T
either_of true b T h f g = f refl
either_of false b T h f g = g h

in_range_ascii : (low high c : ℕ) → high < 128 → is_in_range low high c ≡ true → c < 128
in_range_ascii low high c above h = let parts = both (nat_le low c) (nat_le c high) h in below parts.1
  where
    below : nat_le c high ≡ true → c < 128
    below e = grind (arith, nat_tests)

equal_ascii : (c n : ℕ) → n < 128 → (c == n) ≡ true → c < 128
equal_ascii c n small h = grind (arith, nat_tests)

byte_ascii : (c : ℕ) → is_project_byte c ≡ true → c < 128
byte_ascii c h =
    either_of _ _ (c < 128) h
    (λ a. either_of _ _ (c < 128) a
    (λ b. either_of _ _ (c < 128) b (in_range_ascii 48 57 c (omega arith)) (in_range_ascii 65 90 c (omega arith)))
    (in_range_ascii 97 122 c (omega arith)))
    (λ a. either_of _ _ (c < 128) a (equal_ascii c 45 (omega arith)) (equal_ascii c 95 (omega arith)))

bytes_ascii : (text : List ℕ) → list_all is_project_byte text ≡ true → IsAscii text
bytes_ascii [] h i = omega arith
bytes_ascii (c ∷ text) h zero = byte_ascii c (both (is_project_byte c) (list_all is_project_byte text) h).0
bytes_ascii (c ∷ text) h (suc i) = bytes_ascii text (both (is_project_byte c) (list_all is_project_byte text) h).1 i

pub name_utf8 : (text : List ℕ) → is_project_name text ≡ true → IsUtf8 text
name_utf8 text h = IsUtf8-from_ascii text (bytes_ascii text (both _ _ (both (nat_le 1 (length text)) _ h).1).1)

-- and it isn't empty
some_byte : (text : List ℕ) (rest : Bool) → nat_le 1 (length text) && rest ≡ true → not (is_empty text) ≡ true
some_byte [] rest h = cc
some_byte (c ∷ text) rest h = refl

pub name_there : (text : List ℕ) → is_project_name text ≡ true → not (is_empty text) ≡ true
name_there text h = some_byte text (nat_le (length text) 64 && list_all is_project_byte text) h

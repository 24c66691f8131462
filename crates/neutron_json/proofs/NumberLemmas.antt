-- What is parsed of digits is the number in a path.
use Rattle.std.proofs.Common.{◌≡◌, ◌∙◌, ℕ, ◌<◌, ◌≤◌, ◌^◌, List, [], ◌∷◌, Bool, true, false, length, Option, Some, None, Result, Ok, Err, refl, ap, sym, subst, arith}
use Rattle.std.specs.Prelude.{◌&&◌, nat_lt, nat_le, if◌then◌else◌}
use Rattle.std.specs.Char.{is_ascii_digit}
use Rattle.std.specs.List.{list_all}
use Rattle.std.specs.Result.{result_ok}
use Rattle.std.specs.Str.Parse.{AllDigits, IsNumeral, ParsesUnsigned, digits_value, without_leading_plus}
use Rattle.std.proofs.lemmas.Bool.{and_parts}
use Rattle.std.proofs.lemmas.Bool.Decides.{nat_tests}
use Rattle.std.proofs.lemmas.Str.Parse.{not_in_digits, numerals_by_value, tells_all_ascii_digits, without_leading_plus_none}
use Rattle.http_heads.specs.Numbers.{is_number, number_in}
use Rattle.neutron_json.specs.PathNumbers.{below_2_64, path_number}

record AreDigits (text : List ℕ) : Type 0 where
  some : 0 < length text
  each : AllDigits 10 text
  same : without_leading_plus text ≡ text

-- digits begin with no sign
digits_are : (text : List ℕ) → is_number 20 text ≡ true → AreDigits text
digits_are text h =
    let long = and_parts (nat_le 1 (length text)) (nat_le (length text) 20 && list_all is_ascii_digit text) h in
    let digits = and_parts (nat_le (length text) 20) (list_all is_ascii_digit text) long.1 in
    let some : 0 < length text = grind (arith, nat_tests, long.0) in
    let model = numerals_by_value (λ ds. list_all is_ascii_digit ds ≡ true) tells_all_ascii_digits in
    record {
      some = some;
      each = model.to text digits.1;
      same = without_leading_plus_none text (not_in_digits model text 43 digits.1 (λ r. omega (arith, r)) 0 some);
    }

pub parsed : {E : Type 0} (text : List ℕ) (r : Result ℕ E) → is_number 20 text ≡ true → ParsesUnsigned 64 10 text r → result_ok r ≡ path_number text
parsed {E} text r h is = number r is ∙ sym (ap (λ b. below_2_64 (if b then Some value else None)) h)
  where
    value : ℕ
    value = digits_value 10 text

    are : AreDigits text
    are = digits_are text h

    number : (r : Result ℕ E) → ParsesUnsigned 64 10 text r → result_ok r ≡ below_2_64 (Some value)
    number (Ok x) (fits, x_is) =
        let small : value < 2 ^ 64 = subst (λ t. digits_value 10 t < 2 ^ 64) are.same fits.1 in
        let less : nat_lt value (2 ^ 64) ≡ true = grind (arith, nat_tests, small) in
        ap Some (x_is ∙ ap (digits_value 10) are.same) ∙ sym (ap (λ b. if b then Some value else None) less)
    number (Err e) none = go (nat_lt value (2 ^ 64)) refl
      where
        go : (b : Bool) → nat_lt value (2 ^ 64) ≡ b → None ≡ (if b then Some value else None)
        go true less =
            let small : value < 2 ^ 64 = grind (arith, nat_tests, less) in
            absurd (none (subst (λ t. IsNumeral 10 t × (digits_value 10 t < 2 ^ 64)) (sym are.same) ((are.some, are.each), small)))
        go false less = refl

-- The codes of replies.
use Rattle.std.proofs.Common.{◌≡◌, ℕ, ◌==◌, Bool, true, false, ◌||◌, List, [], ◌∷◌, length, decimal, IsTrue, refl, subst, lit≤, lit<}
use Rattle.std.specs.List.{list_any, list_all}
use Rattle.std.specs.Fmt.{digits}
use Rattle.std.specs.Char.{is_ascii_digit}
use Rattle.std.specs.Str.Parse.{digits_value}
use Rattle.std.proofs.lemmas.Bool.{eqb-true}
use Rattle.http.specs.StatusCode.{IsStatusCode}
use Rattle.httparse.specs.Grammar.{is_value_byte}
use Rattle.neutron_http.specs.Replies.{reply_codes, IsReplyCode, phrase_of}

-- P of each number of a list
abbrev pub Each : (ℕ → Type 0) → List ℕ → Type 0
Each P [] = Unit {0}
Each P (n ∷ ns) = P n × Each P ns

by_test : (P : ℕ → Type 0) (n code : ℕ) (t rest : Bool) → (n == code) ≡ t → P n → (IsTrue rest → P code) → IsTrue (t || rest) → P code
by_test P n code true rest e here there h = subst P (eqb-true n code e) here
by_test P n code false rest e here there h = there h

-- what holds of each of some codes holds of one of them
pub each_is : (P : ℕ → Type 0) (ns : List ℕ) (code : ℕ) → Each P ns → IsTrue (list_any (λ c. c == code) ns) → P code
each_is P [] code facts is = absurd (cc)
each_is P (n ∷ ns) code facts is = by_test P n code (n == code) (list_any (λ c. c == code) ns) refl facts.0 (each_is P ns code facts.1) is

-- what a reader of responses wants of a code
pub record IsReadable (code : ℕ) : Type 0 where
  pub code_is : IsStatusCode code
  pub three : length (decimal code) ≡ 3
  pub digits_are : IsTrue (list_all is_ascii_digit (decimal code))
  pub value : digits_value 10 (decimal code) ≡ code
  pub phrase : IsTrue (list_all is_value_byte (phrase_of code))

all_readable : Each IsReadable reply_codes
unfolding digits
all_readable = (
  record { code_is = (lit≤ tt, lit< tt); three = refl; digits_are = refl; value = refl; phrase = refl },
  (
    record { code_is = (lit≤ tt, lit< tt); three = refl; digits_are = refl; value = refl; phrase = refl },
    (
      record { code_is = (lit≤ tt, lit< tt); three = refl; digits_are = refl; value = refl; phrase = refl },
      (
        record { code_is = (lit≤ tt, lit< tt); three = refl; digits_are = refl; value = refl; phrase = refl },
        (
          record { code_is = (lit≤ tt, lit< tt); three = refl; digits_are = refl; value = refl; phrase = refl },
          (
            record { code_is = (lit≤ tt, lit< tt); three = refl; digits_are = refl; value = refl; phrase = refl },
            (
              record { code_is = (lit≤ tt, lit< tt); three = refl; digits_are = refl; value = refl; phrase = refl },
              (
                record { code_is = (lit≤ tt, lit< tt); three = refl; digits_are = refl; value = refl; phrase = refl },
                (
                  record { code_is = (lit≤ tt, lit< tt); three = refl; digits_are = refl; value = refl; phrase = refl },
                  (
                    record { code_is = (lit≤ tt, lit< tt); three = refl; digits_are = refl; value = refl; phrase = refl },
                    (
                      record { code_is = (lit≤ tt, lit< tt); three = refl; digits_are = refl; value = refl; phrase = refl },
                      (
                        record { code_is = (lit≤ tt, lit< tt); three = refl; digits_are = refl; value = refl; phrase = refl },
                        (
                          record { code_is = (lit≤ tt, lit< tt); three = refl; digits_are = refl; value = refl; phrase = refl },
                          (record { code_is = (lit≤ tt, lit< tt); three = refl; digits_are = refl; value = refl; phrase = refl }, tt),
                        ),
                      ),
                    ),
                  ),
                ),
              ),
            ),
          ),
        ),
      ),
    ),
  ),
)

pub readable : (code : ℕ) → IsReplyCode code → IsReadable code
readable code is = each_is IsReadable reply_codes code all_readable is

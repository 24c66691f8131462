-- Words in a field's value (RFC 9110, section 5.6.1).
use Rattle.std.specs.Prelude.{ℕ, ◌-◌, Bool, ◌||◌, ◌==◌, List, length, map, take, drop}
use Rattle.std.specs.List.{list_any, slice_split, prefix_len, suffix_len}
use Rattle.std.specs.Char.{to_ascii_lowercase}
use Rattle.std.specs.Str.{bytes_eq}
use Rattle.http_heads.specs.Texts.{Text}
use Rattle.http_heads.specs.declared.values.Blank.{Blank}
use Rattle.http_heads.specs.declared.values.Blank.TheVariants.{Spaces, SpacesAndTabs}

-- equal but for the case of ASCII letters
abbrev pub same_word : Text → Text → Bool
same_word a b = bytes_eq (map to_ascii_lowercase a) (map to_ascii_lowercase b)

-- the bytes without those at the front that pass the test
abbrev pub cut_front : (ℕ → Bool) → Text → Text
cut_front test bytes = drop (prefix_len test bytes) bytes

-- the bytes without those at the back that pass the test
abbrev pub cut_back : (ℕ → Bool) → Text → Text
cut_back test bytes = take (length bytes - suffix_len test bytes) bytes

-- the bytes without those at both ends that pass the test
abbrev pub cut_ends : (ℕ → Bool) → Text → Text
cut_ends test bytes = cut_back test (cut_front test bytes)

-- the items between the commas
abbrev pub comma_items : Text → List Text
comma_items text = slice_split (λ b. b == 44) text

-- an item is the word, blanks at its ends cut off
abbrev pub has_word : (ℕ → Bool) → Text → Text → Bool
has_word blank word text =
    list_any (λ item. same_word (cut_ends blank item) word) (comma_items text)

abbrev pub is_space : ℕ → Bool
is_space b = b == 32

abbrev pub is_space_or_tab : ℕ → Bool
is_space_or_tab b = b == 32 || b == 9

-- what may stand around an item
abbrev pub blank_of : Blank → ℕ → Bool
blank_of Spaces = is_space
blank_of SpacesAndTabs = is_space_or_tab

-- The text of a value with whole numbers alone is read as this value.
use Rattle.std.proofs.Common.{Greater, ◌≡◌, ℕ, suc, ◌<◌, ◌≤◌, ◌^◌, max, List, [], ◌++◌, Option, Some, option_map, option_and_then, refl, sym, ap, ap₂, ◌∙◌, arith, append-nil, append_assoc, subst}
use Rattle.std.specs.Prelude.{⊤}
use Rattle.std.specs.Ordering.{nat_cmp, match_ordering}
use Rattle.std.specs.Cmp.Lexicographic.{slice_cmp}
use Rattle.json.specs.Token.{Token}
use Rattle.json.specs.Lex.{tokens}
use Rattle.json.specs.Print.{ArePrintable}
use Rattle.json.specs.Json as json
use Rattle.json.specs.Tree as tree
use Rattle.json.proofs.Printed.Decimals.{IsNumber-decimal}
use Rattle.json.proofs.Printed.Tokens.{tokens-print}
use Rattle.json.proofs.Printed.Trees.{value-json_tokens}
use Rattle.serde_json.specs.Data.{Data, Num, unsigned, negative, float, null, boolean, number, string, array, object, Items, no_items, item, Members, no_members, member, put, depth, items_depth, members_depth}
use Rattle.serde_json.specs.Read.{max_depth, of_items, of_json, of_members, read}
use Rattle.serde_json.specs.Written.{compact_text, items_outline, members_outline, outline}
use Rattle.serde_json.proofs.Numbers.{number_of-decimal}
use Rattle.serde_json.proofs.Texts.{print-outline}

-- ---- members in order

abbrev pub IsLast : List ℕ → Members → Type 0
IsLast k no_members = ⊤
IsLast k (member l e ms) = (slice_cmp nat_cmp k l ≡ Greater) × IsLast k ms

abbrev pub added : Members → List ℕ → Data → Members
added no_members k d = member k d no_members
added (member l e ms) k d = member l e (added ms k d)

abbrev pub joined : Members → Members → Members
joined no_members ms = ms
joined (member l e done) ms = member l e (joined done ms)

abbrev pub AreSorted : Members → Members → Type 0
AreSorted done no_members = ⊤
AreSorted done (member k d ms) = IsLast k done × AreSorted (added done k d) ms

put_added : (k : List ℕ) (d : Data) (ms : Members) → IsLast k ms → put k d ms ≡ added ms k d
put_added k d no_members h = refl
put_added k d (member l e ms) h =
    ap (λ o. match_ordering o (member k d (member l e ms)) (member l d ms) (member l e (put k d ms))) h.0 ∙ ap (member l e) (put_added k d ms h.1)

joined_none : (done : Members) → joined done no_members ≡ done
joined_none no_members = refl
joined_none (member l e done) = ap (member l e) (joined_none done)

joined_added : (done : Members) (k : List ℕ) (d : Data) (ms : Members) → joined (added done k d) ms ≡ joined done (member k d ms)
joined_added no_members k d ms = refl
joined_added (member l e done) k d ms = ap (member l e) (joined_added done k d ms)

-- ---- plain values

abbrev pub IsWhole : Num → Type 0
IsWhole (unsigned n) = n < 2 ^ 64
IsWhole (negative z) = ⊥
IsWhole (float x) = ⊥

abbrev mutual
  pub IsPlain : Data → Type 0
  IsPlain null = ⊤
  IsPlain (boolean b) = ⊤
  IsPlain (number n) = IsWhole n
  IsPlain (string s) = ⊤
  IsPlain (array ds) = ArePlain ds
  IsPlain (object ms) = AreSorted no_members ms × ArePlainMembers ms

  pub ArePlain : Items → Type 0
  ArePlain no_items = ⊤
  ArePlain (item d ds) = IsPlain d × ArePlain ds

  pub ArePlainMembers : Members → Type 0
  ArePlainMembers no_members = ⊤
  ArePlainMembers (member k d ms) = IsPlain d × ArePlainMembers ms

mutual
  value_back : (d : Data) → IsPlain d → of_json (outline d) ≡ Some d
  value_back null h = refl
  value_back (boolean b) h = refl
  value_back (number (unsigned n)) h = ap (option_map number) (number_of-decimal n h)
  value_back (number (negative z)) h = absurd h
  value_back (number (float x)) h = absurd h
  value_back (string s) h = refl
  value_back (array ds) h = ap (option_map array) (items_back ds h)
  value_back (object ms) h = ap (option_map object) (members_back ms no_members h.0 h.1)

  items_back : (ds : Items) → ArePlain ds → of_items (items_outline ds) ≡ Some ds
  items_back no_items h = refl
  items_back (item d ds) h =
      ap (option_and_then (λ x. option_map (item x) (of_items (items_outline ds)))) (value_back d h.0) ∙ ap (option_map (item d)) (items_back ds h.1)

  members_back : (ms done : Members) → AreSorted done ms → ArePlainMembers ms → of_members (members_outline ms) done ≡ Some (joined done ms)
  members_back no_members done s h = ap Some (sym (joined_none done))
  members_back (member k d ms) done s h =
      ap (option_and_then (λ x. of_members (members_outline ms) (put k x done))) (value_back d h.0)
      ∙ ap (of_members (members_outline ms)) (put_added k d done s.0)
      ∙ members_back ms (added done k d) s.1 h.1
      ∙ ap Some (joined_added done k d ms)

mutual
  same_depth : (d : Data) → tree.depth (outline d) ≡ depth d
  same_depth null = refl
  same_depth (boolean b) = refl
  same_depth (number n) = refl
  same_depth (string s) = refl
  same_depth (array ds) = ap suc (same_items ds)
  same_depth (object ms) = ap suc (same_members ms)

  same_items : (ds : Items) → tree.items_depth (items_outline ds) ≡ items_depth ds
  same_items no_items = refl
  same_items (item d ds) = ap₂ max (same_depth d) (same_items ds)

  same_members : (ms : Members) → tree.members_depth (members_outline ms) ≡ members_depth ms
  same_members no_members = refl
  same_members (member k d ms) = ap₂ max (same_depth d) (same_members ms)

mutual
  unfolding ArePrintable

  printable : (d : Data) (ts : List Token) → IsPlain d → ArePrintable ts → ArePrintable (tree.json_tokens (outline d) ++ ts)
  printable null ts h p = (tt, p)
  printable (boolean b) ts h p = (tt, p)
  printable (number (unsigned n)) ts h p = (IsNumber-decimal n h, p)
  printable (number (negative z)) ts h p = absurd h
  printable (number (float x)) ts h p = absurd h
  printable (string s) ts h p = (tt, p)
  printable (array ds) ts h p = (tt, printable_items ds ts h p)
  printable (object ms) ts h p = (tt, printable_members ms ts h.1 p)

  printable_items : (ds : Items) (ts : List Token) → ArePlain ds → ArePrintable ts → ArePrintable (tree.items_tokens (items_outline ds) ++ ts)
  printable_items no_items ts h p = (tt, p)
  printable_items (item d ds) ts h p =
      subst ArePrintable (sym (append_assoc (tree.json_tokens (outline d)) (tree.items_tokens (items_outline ds)) ts)) (printable d (tree.items_tokens (items_outline ds) ++ ts) h.0 (printable_items ds ts h.1 p))

  printable_members : (ms : Members) (ts : List Token) → ArePlainMembers ms → ArePrintable ts → ArePrintable (tree.members_tokens (members_outline ms) ++ ts)
  printable_members no_members ts h p = (tt, p)
  printable_members (member k d ms) ts h p =
      (tt, subst ArePrintable (sym (append_assoc (tree.json_tokens (outline d)) (tree.members_tokens (members_outline ms)) ts)) (printable d (tree.members_tokens (members_outline ms) ++ ts) h.0 (printable_members ms ts h.1 p)))

none_printable : ArePrintable []
unfolding ArePrintable
none_printable = tt

-- what tokens say, where they are one value and nothing else
abbrev whole : Option (json.Json × List Token) → Option Data
whole o = option_and_then of_json (option_and_then (λ p. json.if_last p.0 p.1) o)

-- the text of a plain value says this value
pub text_back : (d : Data) → IsPlain d → depth d ≤ max_depth → read (compact_text d) ≡ Some d
text_back d plain shallow =
    let all : ArePrintable (tree.json_tokens (outline d)) = subst ArePrintable (append-nil (tree.json_tokens (outline d))) (printable d [] plain none_printable) in
    let same : tokens (compact_text d) ≡ tree.json_tokens (outline d) = ap tokens (sym (print-outline d)) ∙ tokens-print (tree.json_tokens (outline d)) all in
    let deep = same_depth d in
    ap whole (ap (json.value max_depth) (same ∙ sym (append-nil (tree.json_tokens (outline d)))) ∙ value-json_tokens (outline d) max_depth [] (omega (arith, deep, shallow))) ∙ value_back d plain

-- Where requests lead.
use Rattle.std.proofs.Common.{◌≡◌, ℕ, ◌+◌, ◌<◌, ◌≤◌, ◌++◌, Bool, true, false, List, [], ◌∷◌, length, drop, get_or, map, if◌then◌else◌, refl, sym, ap, ap₂, ◌∙◌, IsTrue, codes, append_assoc, append-nil, ◌⊎◌, inl, inr}
use Rattle.std.proofs.lemmas.List.{drop_more, drop_all}
use Rattle.std.proofs.lemmas.List.Sums.{AllPass-from_list_all}
use Rattle.std.proofs.lemmas.Str.{IsUtf8-from_is_utf8, is_utf8-from_IsUtf8}
use Rattle.std.specs.List.{list_all}
use Rattle.std.specs.Str.{IsUtf8, is_utf8}
use Rattle.httparse.specs.Grammar.{is_value_byte, trim_ows}
use Rattle.api_types.specs.declared.kind.Kind.{Kind}
use Rattle.api_types.specs.declared.kind.Kind.TheVariants.{Project, Network, Subnet, Port, Group, Rule, Router, Floating, Policy}
use Rattle.neutron_http.specs.declared.route.RoutePath.{RoutePath}
use Rattle.neutron_http.specs.declared.route.RoutePath.TheVariants.{Rows, Row, AddInterface, RemoveInterface, Frames, Explain, Deliver, Resync, Restart, Forget, Settle, Hosts, Tables, Version, Change, Page}
use Rattle.neutron_http.specs.Replies.{IsFieldValue}
use Rattle.neutron_http.specs.Paths.{path_at}
use Rattle.neutron_http.specs.Routes.{route_of, routed, Nowhere, allowed_text, is_parameter, parameters_in}

-- bytes that are no text lead nowhere
pub no_text : (method path : List ℕ) → (IsUtf8 path → ⊥) → route_of method path ≡ Nowhere
unfolding route_of
no_text method path no_utf8 = by (is_utf8 path) refl
  where
    by : (t : Bool) → is_utf8 path ≡ t → (if t then routed method path (path_at path) else Nowhere) ≡ Nowhere
    by true e = absurd (no_utf8 (IsUtf8-from_is_utf8 path e))
    by false e = refl

-- a text leads where its path does
pub a_text : (method path : List ℕ) → IsUtf8 path → route_of method path ≡ routed method path (path_at path)
unfolding route_of
a_text method path utf8 = ap (λ t. if t then routed method path (path_at path) else Nowhere) (is_utf8-from_IsUtf8 path utf8)

value : (text : List ℕ) → IsTrue (list_all is_value_byte text) → trim_ows text ≡ text → IsFieldValue text
value text all trimmed = record { bytes = AllPass-from_list_all is_value_byte text all; trimmed = trimmed }

row_value : (kind : Kind) → IsFieldValue (allowed_text (Row kind))
unfolding trim_ows
row_value Project = value (allowed_text (Row Project)) refl refl
row_value Network = value (allowed_text (Row Network)) refl refl
row_value Subnet = value (allowed_text (Row Subnet)) refl refl
row_value Port = value (allowed_text (Row Port)) refl refl
row_value Group = value (allowed_text (Row Group)) refl refl
row_value Rule = value (allowed_text (Row Rule)) refl refl
row_value Router = value (allowed_text (Row Router)) refl refl
row_value Floating = value (allowed_text (Row Floating)) refl refl
row_value Policy = value (allowed_text (Row Policy)) refl refl

-- the methods of a path are a field's value
pub allowed_value : (path : RoutePath) → IsFieldValue (allowed_text path)
unfolding trim_ows
allowed_value (Rows kind) = value (codes "GET, POST") refl refl
allowed_value (Row kind) = row_value kind
allowed_value AddInterface = value (codes "PUT") refl refl
allowed_value RemoveInterface = value (codes "PUT") refl refl
allowed_value Frames = value (codes "POST") refl refl
allowed_value Explain = value (codes "POST") refl refl
allowed_value Deliver = value (codes "POST") refl refl
allowed_value Resync = value (codes "POST") refl refl
allowed_value Restart = value (codes "POST") refl refl
allowed_value Forget = value (codes "POST") refl refl
allowed_value Settle = value (codes "POST") refl refl
allowed_value Hosts = value (codes "GET") refl refl
allowed_value Tables = value (codes "GET") refl refl
allowed_value Version = value (codes "GET") refl refl
allowed_value Change = value (codes "GET") refl refl
allowed_value Page = value (codes "GET") refl refl

module _ {A : Type 0} (text : A → List ℕ) (names parts : List A) where
  -- the parameters from a place on
  abbrev pub parameters_from : ℕ → List (List ℕ)
  parameters_from i = parameters_in (map text (drop i names)) (map text (drop i parts))

  pub parameters_here : (i : ℕ) (n p : A) → i < length names → i < length parts
      → parameters_from i ≡ (if is_parameter (text (get_or names i n)) then text (get_or parts i p) ∷ parameters_from (i + 1) else parameters_from (i + 1))
  parameters_here i n p inside within = ap₂ (λ ns ps. parameters_in (map text ns) (map text ps)) (drop_more names i n inside) (drop_more parts i p within)

  parameters_none : (ns ps : List (List ℕ)) → ps ≡ [] → parameters_in ns ps ≡ []
  parameters_none [] ps e = refl
  parameters_none (n ∷ ns) ps e = ap (parameters_in (n ∷ ns)) e

  pub no_names_left : (i : ℕ) → length names ≤ i → parameters_from i ≡ []
  no_names_left i le = ap (λ ns. parameters_in (map text ns) (map text (drop i parts))) (drop_all i names le)

  pub no_parts_left : (i : ℕ) → length parts ≤ i → parameters_from i ≡ []
  no_parts_left i le = parameters_none (map text (drop i names)) (map text (drop i parts)) (ap (map text) (drop_all i parts le))

  module _ (found new all : List (List ℕ)) (i : ℕ) (n p : A) (inside : i < length names) (within : i < length parts) (so_far : found ++ parameters_from i ≡ all) where
    -- one more parameter
    pub one_more : is_parameter (text (get_or names i n)) ≡ true → new ≡ found ++ text (get_or parts i p) ∷ [] → new ++ parameters_from (i + 1) ≡ all
    one_more named is =
        ap (λ l. l ++ parameters_from (i + 1)) is ∙ append_assoc found (text (get_or parts i p) ∷ []) (parameters_from (i + 1))
        ∙ ap (λ l. found ++ l) (sym (parameters_here i n p inside within ∙ ap (λ t. if t then text (get_or parts i p) ∷ parameters_from (i + 1) else parameters_from (i + 1)) named)) ∙ so_far

    -- a part that is no parameter
    pub no_more : is_parameter (text (get_or names i n)) ≡ false → new ≡ found → new ++ parameters_from (i + 1) ≡ all
    no_more named is =
        ap (λ l. l ++ parameters_from (i + 1)) is
        ∙ ap (λ l. found ++ l) (sym (parameters_here i n p inside within ∙ ap (λ t. if t then text (get_or parts i p) ∷ parameters_from (i + 1) else parameters_from (i + 1)) named)) ∙ so_far

  -- no part is left of one of the two
  pub all_found : (found all : List (List ℕ)) (i : ℕ) → (length names ≤ i) ⊎ (length parts ≤ i) → found ++ parameters_from i ≡ all → found ≡ all
  all_found found all i done so_far =
      let none : parameters_from i ≡ [] = elim done [ inl h ↦ no_names_left i h | inr h ↦ no_parts_left i h ] in
      sym (append-nil found) ∙ ap (λ l. found ++ l) (sym none) ∙ so_far

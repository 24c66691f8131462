-- What grammars say passes the tests by which it is in form.
use Rattle.std.proofs.Common.{◌≡◌, ℕ, ◌≤◌, ◌<◌, Bool, true, false, not, List, [], ◌∷◌, Option, Some, None, refl, ap, sym, ◌∙◌, subst, if◌then◌else◌, option_map, arith}
use Rattle.std.specs.List.{list_all}
use Rattle.std.specs.Prelude.{◌&&◌, ◌^◌, ◌+◌, ◌-◌, codes, length, nat_le, option_and_then, take}
use Rattle.std.specs.Str.{bytes_eq}
use Rattle.serde_json.specs.Data.{Data, Items}
use Rattle.serde_json.specs.Find.{as_array, as_number, as_str, as_u64, get}
use Rattle.net_addr.specs.Addresses.{width}
use Rattle.net_addr.specs.Macs.{is_unicast}
use Rattle.net_addr.specs.Prefixes.{IsPrefix, Prefix, Span, Written, is_exact, prefix_of}
use Rattle.net_addr.specs.Spans.{are_apart}
use Rattle.net_addr.specs.declared.address.Addr.{Addr}
use Rattle.net_addr.specs.declared.address.Addr.TheVariants.{V4, V6}
use Rattle.net_addr.proofs.PrefixLemmas.{cleared_whole}
use Rattle.api_types.specs.Consistent.InForm.{all_apart}
use Rattle.api_types.specs.Lists.{if_some, is_empty}
use Rattle.api_types.proofs.NameLemmas.{bytes_itself, bytes_same}
use Rattle.call_parts.specs.InForm.{is_hop, is_item, is_no_service, is_pair}
use Rattle.json_values.proofs.SoughtLemmas.{passes}
use Rattle.json_values.specs.Grammars.{address_pairs, are_pools, device_owner, fixed_addresses, group_ids, host_routes, is_free_owner, is_project_name, is_subnet_prefix, pools, project_name, router_routes, segment_number, short_text, subnet_prefix}
use Rattle.json_values.specs.Items.{address_of, card_of, exact_of, fixed, fixed_of, hop, hop_of, id_of, mac_of, other_hop, other_id, pair, pair_of, prefix_said, span_of}
use Rattle.json_values.specs.Numbers.{mac_in, number_in}
use Rattle.json_values.specs.Texts.{written, written_in}
use Rattle.json_values.specs.Values.{all_said, applied, kept, list_of, maybe_of, maybe_said, member_of, more, object_of, pairwise, said_by, values_of}
use Rattle.neutron_serve.proofs.GoodMembers.{right_of}
use Rattle.neutron_serve.proofs.Naming.{name_there}

module _ {T : Type 0} where
  -- what is kept by a test passes it
  pub kept_so : (test : T → Bool) (o : Option T) → if_some test (kept test o) ≡ true
  kept_so test None = refl
  kept_so test (Some x) = by (test x) refl
    where
      by : (b : Bool) → test x ≡ b → if_some test (if b then Some x else None) ≡ true
      by true is = is
      by false is = refl

  -- and what all pass before
  pub kept_still : (P test : T → Bool) (o : Option T) → if_some P o ≡ true → if_some P (kept test o) ≡ true
  kept_still P test None h = refl
  kept_still P test (Some x) h = by (test x)
    where
      by : (b : Bool) → if_some P (if b then Some x else None) ≡ true
      by true = h
      by false = refl

  if_still : (P : T → Bool) (b : Bool) (o : Option T) → if_some P o ≡ true → if_some P (if b then o else None) ≡ true
  if_still P true o h = h
  if_still P false o h = refl

  -- an object says what its members say
  pub object_so : (P : T → Bool) (names : List (List ℕ)) (says : Data → Option T) → ((d : Data) → if_some P (says d) ≡ true) → (d : Data) → if_some P (object_of names says d) ≡ true
  object_so P names says h d = if_still P _ (says d) (h d)

  -- each item of a list passes what its grammar gives
  module _ (P : T → Bool) (says : Data → Option T) (passes : (d : Data) → if_some P (says d) ≡ true) where
    more_so : (x : Option T) (xs : Option (List T)) → if_some P x ≡ true → if_some (list_all P) xs ≡ true → if_some (list_all P) (more x xs) ≡ true
    more_so None xs h k = refl
    more_so (Some x) None h k = refl
    more_so (Some x) (Some xs) h k = λ j. h j && k j

    all_so : (ds : List Data) → if_some (list_all P) (all_said says ds) ≡ true
    all_so [] = refl
    all_so (d ∷ ds) = more_so (says d) (all_said says ds) (passes d) (all_so ds)

    array_so : (o : Option Items) → if_some (list_all P) (option_and_then (all_said says) (option_map values_of o)) ≡ true
    array_so None = refl
    array_so (Some is) = all_so (values_of is)

pub items_so : {T : Type 0} (P : T → Bool) (says : Data → Option T) → ((d : Data) → if_some P (says d) ≡ true) → (most : ℕ) (d : Data) → if_some (list_all P) (list_of most says d) ≡ true
items_so P says passes most d = kept_still (list_all P) (λ xs. nat_le (length xs) most) _ (array_so P says passes (as_array d))

-- a list has no more items than it may have
pub few_so : {T : Type 0} (most : ℕ) (says : Data → Option T) (d : Data) → if_some (λ (xs : List T). nat_le (length xs) most) (list_of most says d) ≡ true
few_so {T} most says d = kept_so (λ (xs : List T). nat_le (length xs) most) _

-- pools
apart_pairwise : (spans : List Span) → pairwise are_apart spans ≡ all_apart spans
apart_pairwise [] = refl
apart_pairwise (s ∷ spans) = λ j. list_all (are_apart s) spans && apart_pairwise spans j

pools_so : (o : Option (List Span)) → if_some are_pools o ≡ true → if_some all_apart o ≡ true
pools_so None h = refl
pools_so (Some spans) h = sym (apart_pairwise spans) ∙ right_of (nat_le 1 (length spans)) (pairwise are_apart spans) h

pub pools_apart : (d : Data) → if_some all_apart (pools d) ≡ true
pools_apart d = pools_so (pools d) (kept_so are_pools (list_of 20 span_of d))

pub pools_few : (d : Data) → if_some (λ xs. nat_le (length xs) 20) (pools d) ≡ true
pools_few d = kept_still (λ xs. nat_le (length xs) 20) are_pools (list_of 20 span_of d) (few_so 20 span_of d)

-- routes
hop_so : (d : Data) → if_some is_hop (hop_of d) ≡ true
hop_so d =
    object_so is_hop (codes "destination" ∷ codes "nexthop" ∷ []) (λ e. kept is_hop (applied (option_map hop (member_of exact_of (codes "destination") e)) (member_of address_of (codes "nexthop") e)))
    (λ e. kept_so is_hop (applied (option_map hop (member_of exact_of (codes "destination") e)) (member_of address_of (codes "nexthop") e))) d

pub host_routes_hop : (d : Data) → if_some (list_all is_hop) (host_routes d) ≡ true
host_routes_hop d = items_so is_hop hop_of hop_so 20 d

pub routes_hop : (d : Data) → if_some (list_all is_hop) (router_routes d) ≡ true
routes_hop d = kept_still (list_all is_hop) (pairwise other_hop) (list_of 30 hop_of d) (items_so is_hop hop_of hop_so 30 d)

pub routes_few : (d : Data) → if_some (λ xs. nat_le (length xs) 30) (router_routes d) ≡ true
routes_few d = kept_still (λ xs. nat_le (length xs) 30) (pairwise other_hop) (list_of 30 hop_of d) (few_so 30 hop_of d)

-- what ports ask
item_so : (d : Data) → if_some is_item (fixed_of d) ≡ true
item_so d =
    object_so is_item (codes "ip_address" ∷ codes "subnet_id" ∷ []) (λ e. kept is_item (applied (option_map fixed (maybe_of address_of (codes "ip_address") e)) (maybe_of id_of (codes "subnet_id") e)))
    (λ e. kept_so is_item (applied (option_map fixed (maybe_of address_of (codes "ip_address") e)) (maybe_of id_of (codes "subnet_id") e))) d

pub fixed_items : (d : Data) → if_some (list_all is_item) (fixed_addresses d) ≡ true
fixed_items d = items_so is_item fixed_of item_so 5 d

pub card_so : (d : Data) → if_some is_unicast (card_of d) ≡ true
card_so d = kept_so is_unicast (mac_of d)

maybe_card : (c : Option ℕ) (p : Option Prefix) → if_some is_unicast c ≡ true → if_some is_pair (applied (option_map pair (option_map Some c)) p) ≡ true
maybe_card None p h = refl
maybe_card (Some mac) None h = refl
maybe_card (Some mac) (Some p) h = h

paired : (o : Option Data) (p : Option Prefix) → if_some is_pair (applied (option_map pair (maybe_said card_of o)) p) ≡ true
paired None None = refl
paired None (Some p) = refl
paired (Some d) p = maybe_card (card_of d) p (card_so d)

pair_so : (d : Data) → if_some is_pair (pair_of d) ≡ true
pair_so d = object_so is_pair (codes "ip_address" ∷ codes "mac_address" ∷ []) _ (λ e. paired (get (codes "mac_address") e) (member_of prefix_said (codes "ip_address") e)) d

pub pairs_so : (d : Data) → if_some (list_all is_pair) (address_pairs d) ≡ true
pairs_so d = items_so is_pair pair_of pair_so 10 d

pub groups_few : (d : Data) → if_some (λ xs. nat_le (length xs) 20) (group_ids d) ≡ true
groups_few d = kept_still (λ xs. nat_le (length xs) 20) (pairwise other_id) (list_of 20 id_of d) (few_so 20 id_of d)

not_both : (b : Bool) → b ≡ true → not b ≡ true → ⊥
not_both true e h = absurd cc
not_both false e h = absurd cc

free_service : (text : List ℕ) → is_free_owner text ≡ true → is_no_service text ≡ true
free_service text free = by (bytes_eq (take 8 text) (codes "network:")) refl
  where
    by : (b : Bool) → bytes_eq (take 8 text) (codes "network:") ≡ b → not b ≡ true
    by false is = refl
    by true is =
        let begins : bytes_eq (codes "network:") (take 8 text) ≡ true =
        ap (bytes_eq (codes "network:")) (bytes_same (take 8 text) (codes "network:") is) ∙ bytes_itself (codes "network:") in
        absurd (not_both (bytes_eq (codes "network:") (take 8 text)) begins free)

more_than : {T : Type 0} (P Q : T → Bool) → ((x : T) → P x ≡ true → Q x ≡ true) → (o : Option T) → if_some P o ≡ true → if_some Q o ≡ true
more_than P Q on None h = refl
more_than P Q on (Some x) h = on x h

pub owner_no_service : (d : Data) → if_some is_no_service (device_owner d) ≡ true
owner_no_service d = more_than is_free_owner is_no_service free_service (device_owner d) (kept_so is_free_owner (short_text d))

pub segment_so : (d : Data) → if_some (λ n. nat_le 1 n && nat_le n 16777215) (segment_number d) ≡ true
segment_so d = kept_so (λ n. nat_le 1 n && nat_le n 16777215) (option_and_then as_u64 (as_number d))

-- projects
pub project_named : (d : Data) → if_some (λ name. not (is_empty name)) (project_name d) ≡ true
project_named d = more_than is_project_name (λ name. not (is_empty name)) name_there (project_name d) (kept_so is_project_name (as_str d))

-- what the types of values say
module _ {T : Type 0} where
  -- what is kept was there before
  pub kept_was : (test : T → Bool) (o : Option T) (x : T) → kept test o ≡ Some x → o ≡ Some x
  kept_was test None x h = absurd cc
  kept_was test (Some y) x h = by (test y) h
    where
      by : (b : Bool) → (if b then Some y else None) ≡ Some x → Some y ≡ Some x
      by true is = is
      by false is = absurd cc

  pub said_was : (says : List ℕ → Option T) (P : T → Type 0) → ((text : List ℕ) (x : T) → says text ≡ Some x → P x) → (o : Option (List ℕ)) (x : T) → option_and_then says o ≡ Some x → P x
  said_was says P h None x e = absurd cc
  said_was says P h (Some text) x e = h text x e

length_fits : (addr : Addr) (n : Option ℕ) → ((k : ℕ) → n ≡ Some k → k ≤ width addr) → (w : Written) → option_map (written addr) n ≡ Some w → w.len ≤ width w.addr
length_fits addr None small w h = absurd cc
length_fits addr (Some k) small w h =
    let same : written addr k ≡ w = cc in
    subst (λ (v : Written). v.len ≤ width v.addr) same (small k refl)

number_small : (text : List ℕ) (most k : ℕ) → number_in (most + 1) text ≡ Some k → k ≤ most
unfolding number_in
number_small text most k is = let below = (passes _ (most + 1) k is).0 in omega (arith, below)

written_by : (text : List ℕ) (o : Option Addr) (w : Written) → option_and_then (λ addr. option_map (written addr) (number_in (width addr + 1) text)) o ≡ Some w → w.len ≤ width w.addr
written_by text None w h = absurd cc
written_by text (Some addr) w h = length_fits addr (number_in (width addr + 1) text) (number_small text (width addr)) w h

written_fits : (text : List ℕ) (w : Written) → written_in text ≡ Some w → w.len ≤ width w.addr
unfolding written_in
written_fits text w h = written_by _ _ w h

cleared_prefix : (addr : Addr) (len : ℕ) → len ≤ width addr → IsPrefix (prefix_of (written addr len))
unfolding prefix_of
cleared_prefix (V4 n) len fits = (fits, cleared_whole n (32 - len))
cleared_prefix (V6 n) len fits = (fits, cleared_whole n (128 - len))

mapped_prefix : (o : Option Written) → ((w : Written) → o ≡ Some w → w.len ≤ width w.addr) → (p : Prefix) → option_map prefix_of o ≡ Some p → IsPrefix p
mapped_prefix None fits p h = absurd cc
mapped_prefix (Some w) fits p h =
    let same : prefix_of w ≡ p = cc in
    subst IsPrefix same (cleared_prefix w.addr w.len (fits w refl))

pub subnet_typed : (d : Data) (p : Prefix) → subnet_prefix d ≡ Some p → IsPrefix p
subnet_typed d p h =
    mapped_prefix (kept is_exact (said_by written_in d))
    (λ w is. said_was written_in (λ v. v.len ≤ width v.addr) written_fits (as_str d) w (kept_was is_exact (said_by written_in d) w is))
    p (kept_was is_subnet_prefix (exact_of d) p h)

mac_small : (text : List ℕ) (mac : ℕ) → mac_in text ≡ Some mac → mac < 2 ^ 48
unfolding mac_in
mac_small text mac h = (passes _ (2 ^ 48) mac h).0

pub card_typed : (d : Data) (mac : ℕ) → card_of d ≡ Some mac → mac < 2 ^ 48
card_typed d mac h = said_was mac_in (λ m. m < 2 ^ 48) mac_small (as_str d) mac (kept_was is_unicast (mac_of d) mac h)

-- Hosts that were read meet their rules.
use Rattle.std.proofs.Common.{◌≡◌, ℕ, ◌≤◌, Bool, true, false, not, ◌&&◌, nat_le, List, [], ◌∷◌, codes, length, map, Option, Some, None, is_some, unwrap_or, option_and_then, Result, Ok, if◌then◌else◌, refl, sym, ap, ◌∙◌, subst, arith, lit≤}
use Rattle.std.specs.List.{list_all}
use Rattle.std.proofs.lemmas.Bool.{and_parts, false≢true}
use Rattle.std.proofs.lemmas.Bool.Decides.{nat_tests}
use Rattle.std.proofs.lemmas.List.{length-map}
use Rattle.std.proofs.lemmas.List.Folds.{list_all-map}
use Rattle.std.proofs.lemmas.Option.{same_Some}
use Rattle.toml.specs.Data.{Data, no_members, get_member, as_str, as_table}
use Rattle.net_settings.specs.declared.hosts.HostDraft.{HostDraft}
use Rattle.net_settings.specs.declared.hosts.HostKey.TheVariants.{Name, Physical, Vxlan, L3, Dhcp}
use Rattle.net_settings.specs.declared.settings.Host.{Host}
use Rattle.net_settings.specs.Hosts.{name_if_good, physical_if_good, physical_from, draft_of, drafts_among, drafts_if_few, drafts_of, draft_name, keeps, bad_host_key, host_of, hosts_unless, hosts_of, hosts_from}
use Rattle.net_settings.specs.Names.{is_name, are_different}
use Rattle.net_settings.specs.Rules.{has_good_physical}
use Rattle.net_settings.specs.Texts.{values_of, texts_of}
use Rattle.net_settings.proofs.Kept.{passed, stepped, all_weaken, all_always}

pub record AreHosts (hosts : List Host) : Type 0 where
  pub some : 1 ≤ length hosts
  pub few : length hosts ≤ 64
  pub names : list_all (λ h. is_name 63 h.name) hosts ≡ true
  pub differ : are_different (map (λ h. h.name) hosts) ≡ true
  pub physical : list_all has_good_physical hosts ≡ true

abbrev of_value : Data → HostDraft
of_value d = draft_of (unwrap_or (as_table d) no_members)

same_Ok : {A B : Type 0} (x y : A) → ◌≡◌ {A = Result A B} (Ok x) (Ok y) → x ≡ y
same_Ok x y e = cc

-- drafts of 1 to 64 values
record AreDrafts (drafts : List HostDraft) : Type 0 where
  pub values : List Data
  pub are : map of_value values ≡ drafts
  pub some : 1 ≤ length values
  pub few : length values ≤ 64

if_name : (b : Bool) (n : List ℕ) → is_name 63 n ≡ b → is_some (if b then Some n else None) ≡ true → is_name 63 (unwrap_or (if b then Some n else None) []) ≡ true
if_name true n e some = e
if_name false n e some = absurd (false≢true some)

named : (o : Option (List ℕ)) → is_some (option_and_then name_if_good o) ≡ true → is_name 63 (unwrap_or (option_and_then name_if_good o) []) ≡ true
named None some = absurd (false≢true some)
named (Some n) some = if_name (is_name 63 n) n refl some

abbrev is_physical : List (List ℕ) → Bool
is_physical names = list_all (is_name 64) names && are_different names

or_none : (o : Option (List (List ℕ))) → ((names : List (List ℕ)) → o ≡ Some names → is_physical names ≡ true) → is_physical (unwrap_or o []) ≡ true
or_none None each = refl
or_none (Some names) each = each names refl

physical_good : (o : Option Data) → is_physical (unwrap_or (physical_from o) []) ≡ true
physical_good None = refl
physical_good (Some d) =
    or_none (option_and_then physical_if_good (texts_of d)) (λ names e.
    let s = stepped physical_if_good (texts_of d) names e in
    passed is_physical (is_physical s.0) s.0 names refl s.2)

-- the drafts' hosts, tested
tested : (p : Host → Bool) (ds : List Data) → list_all p (map host_of (map of_value ds)) ≡ list_all (λ d. p (host_of (of_value d))) ds
tested p ds = list_all-map p host_of (map of_value ds) ∙ list_all-map (λ h. p (host_of h)) of_value ds

names_good : (ds : List Data) → list_all (keeps Name) (map of_value ds) ≡ true → list_all (λ h. is_name 63 h.name) (map host_of (map of_value ds)) ≡ true
names_good ds kept =
    tested (λ h. is_name 63 h.name) ds
    ∙ all_weaken (λ d. keeps Name (of_value d)) (λ d. is_name 63 (host_of (of_value d)).name) ds (λ d some. named (option_and_then as_str (get_member (codes "name") (unwrap_or (as_table d) no_members))) some)
    (sym (list_all-map (keeps Name) of_value ds) ∙ kept)

physicals_good : (ds : List Data) → list_all has_good_physical (map host_of (map of_value ds)) ≡ true
physicals_good ds =
    tested has_good_physical ds ∙ all_always (λ d. has_good_physical (host_of (of_value d))) ds (λ d. physical_good (get_member (codes "physical") (unwrap_or (as_table d) no_members)))

names-map : (hs : List HostDraft) → map (λ h. h.name) (map host_of hs) ≡ map draft_name hs
names-map [] = refl
names-map (h ∷ hs) = ap (λ names. draft_name h ∷ names) (names-map hs)

-- what no bad key says of the names
kept : (a b c d e f : Bool) (k l m n o : List ℕ)
    → (if not (a && b) then Some k else if not c then Some l else if not d then Some m else if not e then Some n else if not f then Some o else None) ≡ None → (a && b) ≡ true
kept true true c d e f k l m n o h = refl
kept true false c d e f k l m n o h = absurd (cc)
kept false b c d e f k l m n o h = absurd (cc)

names_kept : (drafts : List HostDraft) → bad_host_key drafts ≡ None → (list_all (keeps Name) drafts && are_different (map draft_name drafts)) ≡ true
names_kept drafts none =
    kept (list_all (keeps Name) drafts) (are_different (map draft_name drafts)) (list_all (keeps Physical) drafts) (list_all (keeps Vxlan) drafts) (list_all (keeps L3) drafts)
    (list_all (keeps Dhcp) drafts) (codes "hosts.name") (codes "hosts.physical") (codes "hosts.vxlan") (codes "hosts.l3") (codes "hosts.dhcp") none

good_hosts : (drafts : List HostDraft) → AreDrafts drafts → bad_host_key drafts ≡ None → AreHosts (map host_of drafts)
good_hosts drafts are none =
    let names = and_parts (list_all (keeps Name) drafts) (are_different (map draft_name drafts)) (names_kept drafts none) in
    let ds = are.values in
    let same = are.are in
    let len = length-map ds of_value in
    subst (λ hs. AreHosts (map host_of hs)) same (record {
      some = rw (length-map (map of_value ds) host_of, len) are.some;
      few = rw (length-map (map of_value ds) host_of, len) are.few;
      names = names_good ds (rw same names.0);
      differ = rw (names-map, same) names.1;
      physical = physicals_good ds;
    })

hosts_good : (key : Option (List ℕ)) (drafts : List HostDraft) (hosts : List Host) → AreDrafts drafts → bad_host_key drafts ≡ key → hosts_unless key drafts ≡ Ok hosts → AreHosts hosts
hosts_good None drafts hosts are none e = subst AreHosts (same_Ok _ hosts e) (good_hosts drafts are none)
hosts_good (Some key) drafts hosts are bad e = absurd (cc)

few_values : (b : Bool) (ds : List Data) (drafts : List HostDraft) → (nat_le 1 (length ds) && nat_le (length ds) 64) ≡ b → (if b then drafts_among ds else None) ≡ Some drafts → AreDrafts drafts
few_values true ds drafts few e = all_tables (list_all (λ d. is_some (as_table d)) ds) e
  where
    all_tables : (b : Bool) → (if b then Some (map of_value ds) else None) ≡ Some drafts → AreDrafts drafts
    all_tables true e =
        let parts = and_parts (nat_le 1 (length ds)) (nat_le (length ds) 64) few in
        record { values = ds; are = same_Some (map of_value ds) drafts e; some = grind (arith, nat_tests); few = grind (arith, nat_tests) }
    all_tables false e = absurd (cc)
few_values false ds drafts few e = absurd (cc)

are_drafts : (d : Data) (drafts : List HostDraft) → drafts_of d ≡ Some drafts → AreDrafts drafts
are_drafts d drafts e =
    let s = stepped drafts_if_few (values_of d) drafts e in
    few_values (nat_le 1 (length s.0) && nat_le (length s.0) 64) s.0 drafts refl s.2

from_drafts : (o : Option (List HostDraft)) (hosts : List Host) → ((drafts : List HostDraft) → o ≡ Some drafts → AreDrafts drafts) → hosts_of o ≡ Ok hosts → AreHosts hosts
from_drafts None hosts each e = absurd (cc)
from_drafts (Some drafts) hosts each e = hosts_good (bad_host_key drafts) drafts hosts (each drafts refl) refl e

pub hosts_are_good : (o : Option Data) (hosts : List Host) → hosts_from o ≡ Ok hosts → AreHosts hosts
hosts_are_good None hosts e =
    subst AreHosts (same_Ok _ hosts e) (record { some = lit≤ tt; few = lit≤ tt; names = refl; differ = refl; physical = refl })
hosts_are_good (Some d) hosts e = from_drafts (drafts_of d) hosts (are_drafts d) e

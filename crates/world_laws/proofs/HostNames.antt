-- Names of the settings' hosts: they differ, and each that can carry a segment is one of them.
use Rattle.std.proofs.Common.{◌≡◌, ℕ, ◌+◌, ◌≤◌, List, [], ◌∷◌, Bool, true, false, cond, refl, ap, ◌∙◌, arith, map, lit≤}
use Rattle.std.specs.Prelude.{◌&&◌, ◌||◌, count_by}
use Rattle.std.specs.List.{AllByRecursion, IsDistinct, list_any}
use Rattle.std.specs.Str.{bytes_eq}
use Rattle.std.proofs.lemmas.List.Sums.{sum_by-cons}
use Rattle.api_types.specs.declared.network.Segment.{Segment}
use Rattle.api_types.proofs.ListLemmas.{false_true, or_true}
use Rattle.api_types.proofs.NameLemmas.{bytes_itself, bytes_same}
use Rattle.net_settings.specs.declared.settings.Host as config
use Rattle.api_ml2.specs.Carrying.{can_carry}
use Rattle.plane_types.specs.Hosts.{is_named}
use Rattle.plane_types.specs.Node.{Agent, host_of}

-- a name that one of the names equals stands once among different ones
none_behind : (name x : List ℕ) → bytes_eq name x ≡ true → (names : List (List ℕ)) → AllByRecursion (λ y. bytes_eq x y ≡ false) names → count_by (bytes_eq name) names ≡ 0
none_behind name x is [] others = refl
none_behind name x is (y ∷ names) others =
    let other : bytes_eq name y ≡ false = ap (λ (n : List ℕ). bytes_eq n y) (bytes_same name x is) ∙ others.0 in
    sum_by-cons (λ (c : List ℕ). cond {A = ℕ} (bytes_eq name c) 1 0) y names ∙ (λ j. cond {A = ℕ} (other j) 1 0 + none_behind name x is names others.1 j)

pub one_of : (name : List ℕ) (names : List (List ℕ)) → IsDistinct bytes_eq names → count_by (bytes_eq name) names ≤ 1
unfolding IsDistinct
one_of name [] distinct = lit≤ tt
one_of name (x ∷ names) distinct = by (bytes_eq name x) refl (one_of name names distinct.1)
  where
    by : (b : Bool) → bytes_eq name x ≡ b → count_by (bytes_eq name) names ≤ 1 → count_by (bytes_eq name) (x ∷ names) ≤ 1
    by true is rest =
        let here : cond {A = ℕ} (bytes_eq name x) 1 0 ≡ 1 = ap (λ b. cond {A = ℕ} b 1 0) is in
        omega (arith, sum_by-cons (λ (c : List ℕ). cond {A = ℕ} (bytes_eq name c) 1 0) x names, here, none_behind name x is names distinct.0)
    by false is rest =
        let here : cond {A = ℕ} (bytes_eq name x) 1 0 ≡ 0 = ap (λ b. cond {A = ℕ} b 1 0) is in
        omega (arith, sum_by-cons (λ (c : List ℕ). cond {A = ℕ} (bytes_eq name c) 1 0) x names, here, rest)

pub named_by : (name : List ℕ) (agents : List Agent) → list_any (is_named name) (map host_of agents) ≡ list_any (bytes_eq name) (map (λ (a : Agent). a.name) agents)
named_by name [] = refl
named_by name (a ∷ agents) = λ j. bytes_eq name a.name || named_by name agents j

turned : (a b : List ℕ) → bytes_eq a b ≡ true → bytes_eq b a ≡ true
turned a b h = ap (bytes_eq b) (bytes_same a b h) ∙ bytes_itself b

-- a host that can carry a segment is one of these
pub carrier_named : (name : List ℕ) (s : Segment) (hosts : List config.Host) → list_any (λ h. bytes_eq h.name name && can_carry h s) hosts ≡ true → list_any (bytes_eq name) (map (λ (h : config.Host). h.name) hosts) ≡ true
carrier_named name s [] h = h
carrier_named name s (d ∷ hosts) h = by (bytes_eq d.name name) refl (can_carry d s) (list_any (λ e. bytes_eq e.name name && can_carry e s) hosts) refl h (carrier_named name s hosts)
  where
    by : (x : Bool) → bytes_eq d.name name ≡ x → (y z : Bool) → list_any (λ e. bytes_eq e.name name && can_carry e s) hosts ≡ z → x && y || z ≡ true
        → (list_any (λ e. bytes_eq e.name name && can_carry e s) hosts ≡ true → list_any (bytes_eq name) (map (λ (e : config.Host). e.name) hosts) ≡ true)
        → bytes_eq name d.name || list_any (bytes_eq name) (map (λ (e : config.Host). e.name) hosts) ≡ true
    by true is y z rest g more = (λ j. turned d.name name is j || list_any (bytes_eq name) (map (λ (e : config.Host). e.name) hosts))
    by false is y true rest g more = (λ j. bytes_eq name d.name || more rest j) ∙ or_true (bytes_eq name d.name)
    by false is y false rest g more = false_true _ g

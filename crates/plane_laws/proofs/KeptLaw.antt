-- Entries that are kept at the hosts that made them.
use Rattle.std.proofs.Common.{◌≡◌, ℕ, zero, suc, ◌+◌, ◌≤◌, List, [], ◌∷◌, ◌++◌, map, Bool, true, false, cond, Option, Some, None, refl, ap, sym, subst, ◌∙◌, arith}
use Rattle.std.specs.Prelude.{find, count_by, option_map, ◌==◌, if◌then◌else◌, ⊤}
use Rattle.std.specs.List.{list_any, filter_map, cons_option}
use Rattle.std.specs.Option.{option_eq}
use Rattle.std.specs.Str.{bytes_eq}
use Rattle.std.proofs.lemmas.Bool.Decides.{nat_tests}
use Rattle.std.proofs.lemmas.List.Sums.{sum_by-cons}
use Rattle.api_types.proofs.NameLemmas.{bytes_same, bytes_itself}
use Rattle.plane_laws.proofs.ListLemmas.{list_any-map}
use Rattle.plane_laws.proofs.Counted.{all-of, each-of, once-counted}
use Rattle.plane_laws.proofs.PlacedLaw.{made_by, with_made, fate-placed}
use Rattle.api_types.specs.Lists.{Each}
use Rattle.api_types.specs.RowLists.{RowLists}
use Rattle.api_types.specs.declared.network.Segment.{Segment}
use Rattle.plane_types.specs.Fabric.{fabric_fate}
use Rattle.plane_types.specs.Hosts.{Host, is_named}
use Rattle.plane_types.specs.Attached.{IsAttached}
use Rattle.plane_types.specs.Realises.{Realises}
use Rattle.plane_types.specs.Synced.{AreSynced}
use Rattle.plane_types.specs.Verdicts.{hosts_after, with_made_from, made_at, index_among, made_entries}
use Rattle.plane_types.specs.declared.entry.Entry.{Entry}
use Rattle.plane_types.specs.declared.event.Event.{Event}
use Rattle.plane_laws.proofs.Facts.{AllOf, AtMostOne}

bytes-swap : (a b : List ℕ) → bytes_eq a b ≡ bytes_eq b a
bytes-swap a b = go (bytes_eq a b) (bytes_eq b a) refl refl
  where
    go : (x y : Bool) → bytes_eq a b ≡ x → bytes_eq b a ≡ y → x ≡ y
    go true true e f = refl
    go false false e f = refl
    go true false e f = let t : bytes_eq b a ≡ true = subst (λ z. bytes_eq z a ≡ true) (bytes_same a b e) (bytes_itself a) in cc
    go false true e f = let t : bytes_eq a b ≡ true = subst (λ z. bytes_eq z b ≡ true) (bytes_same b a f) (bytes_itself b) in cc

suc-same : (n m : ℕ) → (suc n == suc m) ≡ (n == m)
suc-same n m = grind (arith, nat_tests)

zero-suc : (n : ℕ) → (0 == suc n) ≡ false
zero-suc n = grind (arith, nat_tests)

suc-zero : (n : ℕ) → (suc n == 0) ≡ false
suc-zero n = grind (arith, nat_tests)

-- the hosts from a place on are found there by their names
abbrev At : List Host → ℕ → List Host → Type 0
At all place [] = ⊤
At all place (x ∷ xs) = ((name : List ℕ) → option_eq (λ a b. a == b) (index_among name all) (Some place) ≡ is_named name x) × At all (suc place) xs

unfound : {X : Type 0} (T : X → Bool) (xs : List X) → find T xs ≡ None → AllOf (λ x. T x ≡ false) xs
unfound T [] h = tt
unfound T (x ∷ xs) h = go (T x) refl h (unfound T xs)
  where
    go : (b : Bool) → T x ≡ b → cond b (Some x) (find T xs) ≡ None → (find T xs ≡ None → AllOf (λ y. T y ≡ false) xs) → (T x ≡ false) × AllOf (λ y. T y ≡ false) xs
    go true e k rest = cc
    go false e k rest = (e, rest k)

shift : (h : Host) (all xs : List Host) (place : ℕ) → AllOf (λ (x : Host). is_named h.name x ≡ false) xs → At all place xs → At (h ∷ all) (suc place) xs
shift h all [] place apart at = tt
shift h all (x ∷ xs) place apart at = ((λ name. go name (is_named name h) refl (index_among name all) refl), shift h all xs (suc place) apart.1 at.1)
  where
    go : (name : List ℕ) (b : Bool) → is_named name h ≡ b → (o : Option ℕ) → index_among name all ≡ o → option_eq (λ a b. a == b) (if b then Some zero else option_map suc o) (Some (suc place)) ≡ is_named name x
    go name true e o f = zero-suc place ∙ sym (ap (λ m. is_named m x) (bytes_same name h.name e) ∙ apart.0)
    go name false e None f = ap (λ o. option_eq (λ a b. a == b) o (Some place)) (sym f) ∙ at.0 name
    go name false e (Some n) f = suc-same n place ∙ ap (λ o. option_eq (λ a b. a == b) o (Some place)) (sym f) ∙ at.0 name

places : (hosts : List Host) → ((name : List ℕ) → AtMostOne (is_named name) hosts) → At hosts 0 hosts
places [] names = tt
places (h ∷ hosts) names =
    ((λ name. head name (is_named name h) (index_among name hosts)), shift h hosts hosts 0 (unfound (is_named h.name) hosts ((names h.name).0 (bytes_itself h.name))) (places hosts (λ name. (names name).1)))
  where
    head : (name : List ℕ) (b : Bool) (o : Option ℕ) → option_eq (λ a b. a == b) (if b then Some zero else option_map suc o) (Some 0) ≡ b
    head name true o = refl
    head name false None = refl
    head name false (Some n) = suc-zero n

module _ (all : List Host) (fresh : List Entry) (makers : List (List ℕ)) where
  none-made : (name : List ℕ) (es : List Entry) → made_by name es [] ≡ []
  none-made name [] = refl
  none-made name (e ∷ es) = refl

  picked : (x : Host) (place : ℕ) → ((name : List ℕ) → option_eq (λ a b. a == b) (index_among name all) (Some place) ≡ is_named name x) → (es : List Entry) (ms : List (List ℕ)) → filter_map (made_at place) (made_entries all es ms) ≡ made_by x.name es ms
  picked x place at [] ms = refl
  picked x place at (e ∷ es) [] = picked x place at es [] ∙ none-made x.name es
  picked x place at (e ∷ es) (m ∷ ms) =
      ap (λ b. cons_option (if b then Some e else None) (filter_map (made_at place) (made_entries all es ms))) (at m ∙ bytes-swap m x.name)
      ∙ go (bytes_eq x.name m) (picked x place at es ms)
    where
      go : (b : Bool) → filter_map (made_at place) (made_entries all es ms) ≡ made_by x.name es ms → cons_option (if b then Some e else None) (filter_map (made_at place) (made_entries all es ms)) ≡ (if b then e ∷ made_by x.name es ms else made_by x.name es ms)
      go true rest = ap (λ xs. e ∷ xs) rest
      go false rest = rest

  kept-from : (place : ℕ) (xs : List Host) → At all place xs → with_made_from place xs (made_entries all fresh makers) ≡ map (with_made fresh makers) xs
  kept-from place [] at = refl
  kept-from place (x ∷ xs) at = λ j. record { name = x.name; tables = x.tables; entries = x.entries ++ picked x place at.0 fresh makers j } ∷ kept-from (suc place) xs at.1 j

-- the hosts after an event have what they made added
pub after-is : (hosts : List Host) → ((name : List ℕ) → AtMostOne (is_named name) hosts) → (event : Event) → hosts_after hosts event ≡ map (with_made (fabric_fate hosts event).run.fresh (fabric_fate hosts event).run.makers) hosts
after-is hosts names event = kept-from hosts (fabric_fate hosts event).run.fresh (fabric_fate hosts event).run.makers 0 hosts (places hosts names)

-- lists that are made element by element
pub AllOf-map : {X Y : Type 0} (P : Y → Type 0) (f : X → Y) (xs : List X) → AllOf (λ x. P (f x)) xs → AllOf P (map f xs)
AllOf-map P f [] h = tt
AllOf-map P f (x ∷ xs) h = (h.0, AllOf-map P f xs h.1)

count-map : {X Y : Type 0} (p : Y → Bool) (f : X → Y) (xs : List X) → count_by p (map f xs) ≡ count_by (λ x. p (f x)) xs
count-map p f [] = refl
count-map p f (x ∷ xs) =
    sum_by-cons (λ y. cond {A = ℕ} (p y) 1 0) (f x) (map f xs) ∙ ap (λ n. cond {A = ℕ} (p (f x)) 1 0 + n) (count-map p f xs) ∙ sym (sum_by-cons (λ y. cond {A = ℕ} (p (f y)) 1 0) x xs)

-- over any tables
pub stay-placed : (hosts : List Host) → ((name : List ℕ) → count_by (is_named name) hosts ≤ 1) → Each IsAttached hosts → (event : Event) → Each IsAttached (hosts_after hosts event)
stay-placed hosts names placed event =
    let once = λ (name : List ℕ). once-counted (is_named name) hosts (names name) in
    let run = fate-placed hosts once event (all-of IsAttached hosts placed) in
    subst (Each IsAttached) (sym (after-is hosts once event))
    (each-of IsAttached (map (with_made (fabric_fate hosts event).run.fresh (fabric_fate hosts event).run.makers) hosts)
    (AllOf-map IsAttached (with_made (fabric_fate hosts event).run.fresh (fabric_fate hosts event).run.makers) hosts run.all))

-- hosts that hold the rows hold them still
pub stay-synced : (carry : List ℕ → Segment → Bool) (rows : RowLists) (hosts : List Host) → AreSynced carry rows hosts → (event : Event) → AreSynced carry rows (hosts_after hosts event)
stay-synced carry rows hosts synced event = record {
  realise = subst (Each (λ (h : Host). Realises rows h.name h.tables)) (sym is) (each-of (λ (h : Host). Realises rows h.name h.tables) (map (with_made (fabric_fate hosts event).run.fresh (fabric_fate hosts event).run.makers) hosts) (AllOf-map (λ (h : Host). Realises rows h.name h.tables) (with_made (fabric_fate hosts event).run.fresh (fabric_fate hosts event).run.makers) hosts (all-of _ hosts synced.realise)));
  placed = stay-placed hosts synced.names synced.placed event;
  names = λ name. subst (λ xs. count_by (is_named name) xs ≤ 1) (sym is) (subst (λ n. n ≤ 1) (sym (count-map (is_named name) (with_made (fabric_fate hosts event).run.fresh (fabric_fate hosts event).run.makers) hosts)) (synced.names name));
  complete = λ name s h. subst (λ xs. list_any (is_named name) xs ≡ true) (sym is) (list_any-map (is_named name) (with_made (fabric_fate hosts event).run.fresh (fabric_fate hosts event).run.makers) hosts ∙ synced.complete name s h);
}
  where
    is : hosts_after hosts event ≡ map (with_made (fabric_fate hosts event).run.fresh (fabric_fate hosts event).run.makers) hosts
    is = after-is hosts (λ name. once-counted (is_named name) hosts (synced.names name)) event

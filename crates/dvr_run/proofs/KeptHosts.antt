-- Each host keeps what it made: by their places, as code does it, and by their names.
use Rattle.std.proofs.Common.{Bool, List, None, Option, Some, [], ap, arith, cond, false, length, map, refl, subst, suc, sym, true, zero, ℕ, ◌++◌, ◌∙◌, ◌∷◌, ◌≡◌, ◌≤◌}
use Rattle.std.specs.Prelude.{count_by, find, if◌then◌else◌, option_map, ⊤, ◌==◌}
use Rattle.std.specs.List.{cons_option, filter_map}
use Rattle.std.specs.Option.{option_eq}
use Rattle.std.specs.Str.{bytes_eq}
use Rattle.std.proofs.lemmas.Bool.Decides.{nat_tests}
use Rattle.api_types.proofs.NameLemmas.{bytes_itself, bytes_same}
use Rattle.dvr_run.specs.Hosts.{items_of, kept_from}
use Rattle.dvr_types.specs.DvrFabric.{DvrRun}
use Rattle.dvr_types.specs.DvrHosts.{dvr_host, dvr_hosts}
use Rattle.dvr_types.specs.DvrVerdicts.{made_at_host, plain_hosts, with_made_entries}
use Rattle.dvr_types.specs.declared.tables.DvrTables.{DvrTables}
use Rattle.plane_laws.proofs.Counted.{once-counted}
use Rattle.plane_laws.proofs.Facts.{AllOf, AtMostOne}
use Rattle.plane_types.specs.Hosts.{Host, is_named}
use Rattle.plane_types.specs.Spare.{WithSpare}
use Rattle.plane_types.specs.Verdicts.{index_among, made_at, made_entries}
use Rattle.plane_types.specs.declared.entry.Entry.{Entry}

bytes-swap : (a b : List ℕ) → bytes_eq a b ≡ bytes_eq b a
bytes-swap a b = go (bytes_eq a b) (bytes_eq b a) refl refl
  where
    go : (x y : Bool) → bytes_eq a b ≡ x → bytes_eq b a ≡ y → x ≡ y
    go true true e f = refl
    go false false e f = refl
    go true false e f = let t : bytes_eq b a ≡ true = subst (λ z. bytes_eq z a ≡ true) (bytes_same a b e) (bytes_itself a) in cc
    go false true e f = let t : bytes_eq a b ≡ true = subst (λ z. bytes_eq z b ≡ true) (bytes_same b a f) (bytes_itself b) in cc

suc-same : (n m : ℕ) → (suc n == suc m) ≡ (n == m)
suc-same n m = grind (arith, nat_tests)

zero-suc : (n : ℕ) → (0 == suc n) ≡ false
zero-suc n = grind (arith, nat_tests)

suc-zero : (n : ℕ) → (suc n == 0) ≡ false
suc-zero n = grind (arith, nat_tests)

-- the hosts from a place on are found there by their names
abbrev At : List Host → ℕ → List Host → Type 0
At all place [] = ⊤
At all place (x ∷ xs) = ((name : List ℕ) → option_eq (λ a b. a == b) (index_among name all) (Some place) ≡ is_named name x) × At all (suc place) xs

unfound : {X : Type 0} (T : X → Bool) (xs : List X) → find T xs ≡ None → AllOf (λ x. T x ≡ false) xs
unfound T [] h = tt
unfound T (x ∷ xs) h = go (T x) refl h (unfound T xs)
  where
    go : (b : Bool) → T x ≡ b → cond b (Some x) (find T xs) ≡ None → (find T xs ≡ None → AllOf (λ y. T y ≡ false) xs) → (T x ≡ false) × AllOf (λ y. T y ≡ false) xs
    go true e k rest = cc
    go false e k rest = (e, rest k)

shift : (h : Host) (all xs : List Host) (place : ℕ) → AllOf (λ (x : Host). is_named h.name x ≡ false) xs → At all place xs → At (h ∷ all) (suc place) xs
shift h all [] place apart at = tt
shift h all (x ∷ xs) place apart at = ((λ name. go name (is_named name h) refl (index_among name all) refl), shift h all xs (suc place) apart.1 at.1)
  where
    go : (name : List ℕ) (b : Bool) → is_named name h ≡ b → (o : Option ℕ) → index_among name all ≡ o → option_eq (λ a b. a == b) (if b then Some zero else option_map suc o) (Some (suc place)) ≡ is_named name x
    go name true e o f = zero-suc place ∙ sym (ap (λ m. is_named m x) (bytes_same name h.name e) ∙ apart.0)
    go name false e None f = ap (λ o. option_eq (λ a b. a == b) o (Some place)) (sym f) ∙ at.0 name
    go name false e (Some n) f = suc-same n place ∙ ap (λ o. option_eq (λ a b. a == b) o (Some place)) (sym f) ∙ at.0 name

places : (hosts : List Host) → ((name : List ℕ) → AtMostOne (is_named name) hosts) → At hosts 0 hosts
places [] names = tt
places (h ∷ hosts) names =
    ((λ name. head name (is_named name h) (index_among name hosts)), shift h hosts hosts 0 (unfound (is_named h.name) hosts ((names h.name).0 (bytes_itself h.name))) (places hosts (λ name. (names name).1)))
  where
    head : (name : List ℕ) (b : Bool) (o : Option ℕ) → option_eq (λ a b. a == b) (if b then Some zero else option_map suc o) (Some 0) ≡ b
    head name true o = refl
    head name false None = refl
    head name false (Some n) = suc-zero n

abbrev first_or : List (List Entry) → List Entry
first_or [] = []
first_or (x ∷ xs) = x

abbrev rest_of : List (List Entry) → List (List Entry)
rest_of [] = []
rest_of (x ∷ xs) = xs

module _ (all : List Host) (run : DvrRun) where
  picked : (x : Host) (place : ℕ) → ((name : List ℕ) → option_eq (λ a b. a == b) (index_among name all) (Some place) ≡ is_named name x) → (es : List Entry) (ms : List (List ℕ)) → filter_map (made_at place) (made_entries all es ms) ≡ made_at_host x.name es ms
  picked x place at [] ms = refl
  picked x place at (e ∷ es) [] = picked x place at es [] ∙ none-made es
    where
      none-made : (es : List Entry) → made_at_host x.name es [] ≡ []
      none-made [] = refl
      none-made (e ∷ es) = refl
  picked x place at (e ∷ es) (m ∷ ms) =
      ap (λ b. cons_option (if b then Some e else None) (filter_map (made_at place) (made_entries all es ms))) (at m ∙ bytes-swap m x.name)
      ∙ go (bytes_eq x.name m) (picked x place at es ms)
    where
      go : (b : Bool) → filter_map (made_at place) (made_entries all es ms) ≡ made_at_host x.name es ms → cons_option (if b then Some e else None) (filter_map (made_at place) (made_entries all es ms)) ≡ (if b then e ∷ made_at_host x.name es ms else made_at_host x.name es ms)
      go true rest = ap (λ xs. e ∷ xs) rest
      go false rest = rest

  kept-at : (place : ℕ) (ts : List DvrTables) (es news : List (WithSpare Entry)) → At all place (plain_hosts (dvr_hosts ts es)) → length ts ≡ length es
      → items_of news ≡ kept_from place (items_of es) (made_entries all run.run.fresh run.run.makers) → dvr_hosts ts news ≡ map (with_made_entries run) (dvr_hosts ts es)
  kept-at place [] es news at same kept = refl
  kept-at place (t ∷ ts) [] news at same kept = absurd (omega (arith, same))
  kept-at place (t ∷ ts) (e ∷ es) [] at same kept = absurd cc
  kept-at place (t ∷ ts) (e ∷ es) (n ∷ news) at same kept =
      let here : n.items ≡ e.items ++ made_at_host t.host run.run.fresh run.run.makers =
      ap first_or kept ∙ ap (λ xs. e.items ++ xs) (picked (dvr_host t e).host place at.0 run.run.fresh run.run.makers) in
      λ j. record { host = record { name = t.host; tables = t.base.lists; entries = here j }; copies = t.copies } ∷ kept-at (suc place) ts es news at.1 (omega (arith, same)) (ap rest_of kept) j

-- hosts whose names differ
pub kept-hosts : (run : DvrRun) (ts : List DvrTables) (es news : List (WithSpare Entry)) → ((name : List ℕ) → count_by (is_named name) (plain_hosts (dvr_hosts ts es)) ≤ 1) → length ts ≡ length es
    → items_of news ≡ kept_from 0 (items_of es) (made_entries (plain_hosts (dvr_hosts ts es)) run.run.fresh run.run.makers) → dvr_hosts ts news ≡ map (with_made_entries run) (dvr_hosts ts es)
kept-hosts run ts es news names same kept =
    let hosts = plain_hosts (dvr_hosts ts es) in
    kept-at hosts run 0 ts es news (places hosts (λ name. once-counted (is_named name) hosts (names name))) same kept

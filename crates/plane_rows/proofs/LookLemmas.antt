-- What maps find of routers, of their ports and of subnets.
use Rattle.std.proofs.Common.{◌≡◌, ◌∙◌, ◌++◌, ℕ, suc, ◌+◌, ◌<◌, List, [], ◌∷◌, length, drop, find, get_or, slice_get, drop-cons, Bool, true, false, cond, Option, None, Some, map, refl, ap, sym, arith}
use Rattle.std.specs.Prelude.{◌==◌, ◌&&◌, ◌||◌, if◌then◌else◌}
use Rattle.std.specs.List.{AllByRecursion, IsDistinct, filter, list_any}
use Rattle.std.specs.Option.{option_and_then}
use Rattle.std.specs.Str.{bytes_eq}
use Rattle.std.proofs.lemmas.Bool.Decides.{nat_tests}
use Rattle.std.proofs.lemmas.List.{append-nil}
use Rattle.std.proofs.lemmas.Option.{slice_get_read}
use Rattle.net_addr.specs.Prefixes.{contains}
use Rattle.net_addr.specs.declared.address.Addr.{Addr}
use Rattle.api_types.proofs.NameLemmas.{bytes_same, ident_same}
use Rattle.api_types.specs.Ident.{Ident, ident_text}
use Rattle.api_types.specs.Live.{is_live}
use Rattle.api_types.specs.Owners.{device_is, is_router_port}
use Rattle.api_types.specs.RowLists.{RowLists}
use Rattle.api_types.specs.Table.{HaveOwnIds, ident_eq, row_of}
use Rattle.api_types.specs.declared.port.PortRow.{PortRow}
use Rattle.api_types.specs.declared.router.RouterRow.{RouterRow}
use Rattle.api_types.specs.declared.subnet.SubnetRow.{SubnetRow}
use Rattle.plane_rows.specs.Named.{is_leg_at, is_named}

eqb_turned : (a b : ℕ) → (a == b) ≡ (b == a)
eqb_turned a b = grind (arith, nat_tests)

bytes_turned : (a b : List ℕ) → bytes_eq a b ≡ bytes_eq b a
bytes_turned [] [] = refl
bytes_turned [] (y ∷ ys) = refl
bytes_turned (x ∷ xs) [] = refl
bytes_turned (x ∷ xs) (y ∷ ys) = λ j. eqb_turned x y j && bytes_turned xs ys j

abbrev pub named : List ℕ → List RouterRow → Option RouterRow
named t routers = find (is_named t) routers

-- a router at a place is the first with its text from there on, and leaves those of other texts
pub router_here : (routers : List RouterRow) (k : ℕ) (r : RouterRow) (t : List ℕ) (found : Option ℕ) → k < length routers → r ≡ get_or routers k r
    → option_and_then (slice_get routers) found ≡ named t (drop (k + 1) routers)
    → option_and_then (slice_get routers) (cond (bytes_eq (ident_text r.id) t) (Some k) found) ≡ named t (drop k routers)
unfolding device_is
router_here routers k r t found within is rest =
    let next : k + 1 ≡ suc k = omega arith in
    (λ j. option_and_then (slice_get routers) (cond (bytes_turned (ident_text r.id) t j) (Some k) found))
    ∙ go (bytes_eq t (ident_text r.id))
    ∙ (λ j. named t (is j ∷ drop (next j) routers))
    ∙ sym (ap (named t) (drop-cons routers k r within))
  where
    left : Option RouterRow
    left = named t (drop (k + 1) routers)

    go : (b : Bool) → option_and_then (slice_get routers) (cond b (Some k) found) ≡ cond b (Some r) left
    go true = slice_get_read routers (length routers) k r refl within is
    go false = rest

-- a live port of a router comes first of those with its device
pub leg_here : (rows : RowLists) (t : List ℕ) (p : PortRow) (ps : List PortRow) → (is_router_port p.owner && is_live rows p) ≡ true
    → (if bytes_eq p.device t then p ∷ [] else []) ++ filter (is_leg_at rows t) ps ≡ filter (is_leg_at rows t) (p ∷ ps)
leg_here rows t p ps h = go (is_router_port p.owner) (bytes_eq p.device t) (is_live rows p) h
  where
    left : List PortRow
    left = filter (is_leg_at rows t) ps

    go : (a b c : Bool) → (a && c) ≡ true → (if b then p ∷ [] else []) ++ left ≡ cond ((a && b) && c) (p ∷ left) left
    go true true true e = refl
    go true false true e = refl
    go true b false e = cc
    go false b c e = cc

-- another port is none of them
pub no_leg_here : (rows : RowLists) (t : List ℕ) (p : PortRow) (ps : List PortRow) → (is_router_port p.owner && is_live rows p) ≡ false
    → filter (is_leg_at rows t) ps ≡ filter (is_leg_at rows t) (p ∷ ps)
no_leg_here rows t p ps h = go (is_router_port p.owner) (bytes_eq p.device t) (is_live rows p) h
  where
    left : List PortRow
    left = filter (is_leg_at rows t) ps

    go : (a b c : Bool) → (a && c) ≡ false → left ≡ cond ((a && b) && c) (p ∷ left) left
    go true b true e = cc
    go true true false e = refl
    go true false false e = refl
    go false b c e = refl

-- whether the subnet that is found contains the address
abbrev pub contains_in : Addr → Option SubnetRow → Bool
contains_in x None = false
contains_in x (Some s) = contains s.prefix x

abbrev pub subnet_id : SubnetRow → Ident
subnet_id s = s.id

abbrev lies_in : Addr → Ident → SubnetRow → Bool
lies_in x i s = ident_eq i s.id && contains s.prefix x

no_other : (x : Addr) (i : Ident) (s : SubnetRow) (ss : List SubnetRow) → AllByRecursion (λ y. ident_eq s.id y ≡ false) (map subnet_id ss) → ident_eq i s.id ≡ true → list_any (lies_in x i) ss ≡ false
no_other x i s [] apart same = refl
no_other x i s (y ∷ ss) apart same =
    let differs : ident_eq i y.id ≡ false = ap (λ k. ident_eq k y.id) (ident_same i s.id same) ∙ apart.0 in
    (λ j. (differs j && contains y.prefix x) || no_other x i s ss apart.1 same j)

-- where each subnet has an id of its own, one with the id contains the address if the one that is found does
pub found_contains : (x : Addr) (i : Ident) (ss : List SubnetRow) → HaveOwnIds subnet_id ss → list_any (lies_in x i) ss ≡ contains_in x (row_of subnet_id i ss)
unfolding IsDistinct
found_contains x i [] own = refl
found_contains x i (s ∷ ss) own = go (ident_eq i s.id) refl (found_contains x i ss own.1)
  where
    alone : (c : Bool) → (c || false) ≡ c
    alone true = refl
    alone false = refl

    go : (b : Bool) → ident_eq i s.id ≡ b → list_any (lies_in x i) ss ≡ contains_in x (row_of subnet_id i ss) → ((b && contains s.prefix x) || list_any (lies_in x i) ss) ≡ contains_in x (cond b (Some s) (row_of subnet_id i ss))
    go true e rest = ap (λ d. contains s.prefix x || d) (no_other x i s ss own.0 e) ∙ alone (contains s.prefix x)
    go false e rest = rest

-- what is put last under a text, where what it had was taken out
pub put_last : {V X : Type 0} (read : Option V → List X) (old : List ℕ → Option V) (text t : List ℕ) (v : V) (x : X) → read (Some v) ≡ read (old text) ++ x ∷ []
    → read (cond (bytes_eq text t) (Some v) (if bytes_eq text t then None else old t)) ≡ read (old t) ++ (if bytes_eq text t then x ∷ [] else [])
put_last read old text t v x is = go (bytes_eq text t) refl
  where
    go : (b : Bool) → bytes_eq text t ≡ b → read (cond b (Some v) (if b then None else old t)) ≡ read (old t) ++ (if b then x ∷ [] else [])
    go true e = is ∙ ap (λ s. read (old s) ++ x ∷ []) (bytes_same text t e)
    go false e = sym (append-nil (read (old t)))

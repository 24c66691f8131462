-- The router that a device names is the one with the id that the device spells.
use Rattle.std.proofs.Common.{◌≡◌, ◌∙◌, ◌/◌, ◌%◌, ◌^◌, ◌<◌, ℕ, zero, suc, List, [], ◌∷◌, Bool, true, false, Option, Some, None, cond, slice_get, refl, ap, sym, subst, arith, inl}
use Rattle.std.specs.Prelude.{find, if◌then◌else◌}
use Rattle.std.specs.Int.{w128, from_be_bytes, to_be_bytes}
use Rattle.std.specs.List.{All, AllByRecursion}
use Rattle.std.proofs.lemmas.Option.{same_Some}
use Rattle.uuid.specs.Text.{lower}
use Rattle.uuid.proofs.RoundTrips.{parses_hyphenated_text}
use Rattle.api_types.specs.Consistent.{IsConsistent}
use Rattle.api_types.specs.Ident.{Ident, IsDrawable, Spells, ident_text, uuid_bytes, uuid_number}
use Rattle.api_types.specs.Lists.{Each}
use Rattle.api_types.specs.Owners.{device_is}
use Rattle.api_types.specs.RowLists.{RowLists}
use Rattle.api_types.specs.Table.{ident_eq, row_of}
use Rattle.api_types.specs.declared.router.RouterRow.{RouterRow}
use Rattle.api_types.proofs.IdentLemmas.{count_back, ordinal_back}
use Rattle.api_types.proofs.ListLemmas.{false_true}
use Rattle.api_types.proofs.NameLemmas.{by_test, bytes_same, ident_itself, ident_same}
use Rattle.row_laws.proofs.PlaceLemmas.{router_drawable}

-- ---- the printed text of an id spells it, and no other

below_256 : (n : ℕ) → n % 256 < 256
below_256 n = omega arith

each_small : (bs : List ℕ) → AllByRecursion (λ b. b < 256) bs → All (λ b. b < 256) bs
each_small [] h k d less = absurd (omega (arith, less))
each_small (b ∷ bs) h zero d less = h.0
each_small (b ∷ bs) h (suc k) d less = each_small bs h.1 k d (omega (arith, less))

are_bytes : (n : ℕ) → All (λ b. b < 256) (to_be_bytes w128 n)
are_bytes n = each_small (to_be_bytes w128 n) (below_256 _, (below_256 _, (below_256 _, (below_256 _, (below_256 _, (below_256 _, (below_256 _, (below_256 _, (below_256 _, (below_256 _, (below_256 _, (below_256 _, (below_256 _, (below_256 _, (below_256 _, (below_256 _, tt))))))))))))))))

text_spells : (i : Ident) → IsDrawable i → Spells (ident_text i) i
unfolding ident_text uuid_bytes
text_spells i h = record {
  drawable = h;
  form = sym (parses_hyphenated_text lower (uuid_bytes i) (inl refl) refl (are_bytes (uuid_number i)));
}

one_spelled : (text : List ℕ) (i j : Ident) → Spells text i → Spells text j → i ≡ j
one_spelled text i j hi hj =
    let same : uuid_bytes i ≡ uuid_bytes j = same_Some (uuid_bytes i) (uuid_bytes j) (sym hi.form ∙ hj.form) in
    let o : i.ordinal ≡ j.ordinal = sym (ordinal_back i hi.drawable) ∙ ap (λ v. from_be_bytes w128 v / 2 ^ 64 / 2 ^ 32) same ∙ ordinal_back j hj.drawable in
    let c : i.count ≡ j.count = sym (count_back i hi.drawable) ∙ ap (λ v. from_be_bytes w128 v % 2 ^ 64 % 2 ^ 62) same ∙ count_back j hj.drawable in
    λ k. record { ordinal = o k; count = c k }

device_spells : (device : List ℕ) (i : Ident) → IsDrawable i → device_is device i ≡ true → Spells device i
unfolding device_is
device_spells device i h is = subst (λ t. Spells t i) (sym (bytes_same device (ident_text i) is)) (text_spells i h)

-- ---- routers by a device

-- of a row with an id, where a device is its text
abbrev pub named_by : List ℕ → Option RouterRow → Option RouterRow
named_by device None = None
named_by device (Some r) = if device_is device r.id then Some r else None

module _ (device : List ℕ) (i : Ident) where
  abbrev Tell : List RouterRow → Type 0
  Tell rs = Each (λ (r : RouterRow). device_is device r.id ≡ true → r.id ≡ i) rs

  none_else : (x : RouterRow) → ident_eq i x.id ≡ true → device_is device x.id ≡ false → (rs : List RouterRow) → Tell rs → find (λ (r : RouterRow). device_is device r.id) rs ≡ None
  none_else x is fails [] tell = refl
  none_else x is fails (y ∷ rs) tell =
      ap (λ b. cond b (Some y) (find (λ (r : RouterRow). device_is device r.id) rs)) off ∙ none_else x is fails rs (λ k r at. tell (suc k) r at)
    where
      off : device_is device y.id ≡ false
      off = by_test (device_is device y.id) (device_is device y.id ≡ false)
          (λ passes. false_true _ (sym fails ∙ ap (device_is device) (sym (ident_same i x.id is) ∙ sym (tell 0 y refl passes)) ∙ passes))
          (λ fails. fails)

  one_named : (rs : List RouterRow) → Tell rs → find (λ (r : RouterRow). device_is device r.id) rs ≡ named_by device (row_of (λ (r : RouterRow). r.id) i rs)
  one_named [] tell = refl
  one_named (x ∷ rs) tell = go (ident_eq i x.id) refl (device_is device x.id) refl (one_named rs (λ k r at. tell (suc k) r at))
    where
      go : (b : Bool) → ident_eq i x.id ≡ b → (d : Bool) → device_is device x.id ≡ d
          → find (λ (r : RouterRow). device_is device r.id) rs ≡ named_by device (row_of (λ (r : RouterRow). r.id) i rs)
          → cond d (Some x) (find (λ (r : RouterRow). device_is device r.id) rs) ≡ named_by device (cond b (Some x) (row_of (λ (r : RouterRow). r.id) i rs))
      go true is true d rest = sym (ap (λ e. if e then Some x else None) d)
      go true is false d rest = none_else x is d rs (λ k r at. tell (suc k) r at) ∙ sym (ap (λ e. if e then Some x else None) d)
      go false is true d rest = false_true _ (sym is ∙ ap (λ j. ident_eq i j) (tell 0 x refl d) ∙ ident_itself i)
      go false is false d rest = rest

module _ (rows : RowLists) (c : IsConsistent rows) (device : List ℕ) where
  spelled : (k : ℕ) (r : RouterRow) → slice_get rows.routers k ≡ Some r → device_is device r.id ≡ true → Spells device r.id
  spelled k r at is = device_spells device r.id (router_drawable rows c k r at) is

  -- where the device spells an id, it names the router with that id or none
  pub spelled_router : (i : Ident) → Spells device i → find (λ (r : RouterRow). device_is device r.id) rows.routers ≡ named_by device (row_of (λ (r : RouterRow). r.id) i rows.routers)
  spelled_router i spells = one_named device i rows.routers (λ k r at is. one_spelled device r.id i (spelled k r at is) spells)

  none_by : (rs : List RouterRow) → Each (λ (r : RouterRow). device_is device r.id ≡ false) rs → find (λ (r : RouterRow). device_is device r.id) rs ≡ None
  none_by [] none = refl
  none_by (x ∷ rs) none =
      ap (λ b. cond b (Some x) (find (λ (r : RouterRow). device_is device r.id) rs)) (none 0 x refl) ∙ none_by rs (λ k r at. none (suc k) r at)

  -- where it spells none, it names no router
  pub unspelled_router : ((i : Ident) → Spells device i → ⊥) → find (λ (r : RouterRow). device_is device r.id) rows.routers ≡ None
  unspelled_router none = none_by rows.routers (λ k r at.
      by_test (device_is device r.id) (device_is device r.id ≡ false) (λ is. absurd (none r.id (spelled k r at is))) (λ fails. fails))

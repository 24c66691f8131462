-- The least number that passes a test, one number after the other.
use Rattle.std.proofs.Common.{◌≡◌, ◌∙◌, ℕ, zero, suc, ◌+◌, ◌-◌, ◌<◌, ◌≤◌, Bool, true, false, not, Option, Some, None, List, ap, sym, refl, arith, drop, get_or, length}
use Rattle.std.specs.Prelude.{if◌then◌else◌, nat_le, nat_lt, replicate, slice_get, ◌&&◌, ◌||◌, ◌==◌}
use Rattle.std.specs.List.{list_any}
use Rattle.std.proofs.lemmas.Bool.Decides.{nat_tests}
use Rattle.std.proofs.lemmas.List.{at_drop_more, get_or-replicate}
use Rattle.api_types.specs.Consistent.HeldOnce.{has_mac}
use Rattle.api_types.specs.HeldAddresses.{is_mac_held}
use Rattle.api_types.specs.Ident.{Ident}
use Rattle.api_types.specs.Least.{least_from}
use Rattle.api_types.specs.Table.{ident_eq}
use Rattle.api_types.specs.declared.port.PortRow.{PortRow}
use Rattle.api_types.proofs.ListLemmas.{at-any}

module _ (test : ℕ → Bool) where
  least-suc : (first many : ℕ) → 0 < many → least_from test first many ≡ (elim (test first) [ true ↦ Some first | false ↦ least_from test (first + 1) (many - 1) ])
  unfolding least_from
  least-suc first zero h = absurd (omega arith)
  least-suc first (suc many) h = ap (λ m. elim (test first) [ true ↦ Some first | false ↦ least_from test (first + 1) m ]) (omega arith)

  -- a number that fails leaves the search to the rest
  pub least-past : (first many : ℕ) → 0 < many → test first ≡ false → least_from test first many ≡ least_from test (first + 1) (many - 1)
  least-past first many h fails = least-suc first many h ∙ ap (λ (b : Bool). elim b [ true ↦ Some first | false ↦ least_from test (first + 1) (many - 1) ]) fails

  -- a number that passes ends it
  pub least-here : (first many : ℕ) → 0 < many → test first ≡ true → least_from test first many ≡ Some first
  least-here first many h passes = least-suc first many h ∙ ap (λ (b : Bool). elim b [ true ↦ Some first | false ↦ least_from test (first + 1) (many - 1) ]) passes

  -- no numbers, nothing found
  pub least-none : (first many : ℕ) → many ≡ 0 → least_from test first many ≡ None
  unfolding least_from
  least-none first zero h = refl
  least-none first (suc many) h = absurd (omega arith)

  -- numbers that fail, one after the other, leave the search to the rest
  pub least-far : (first some many : ℕ) → some ≤ many → ((k : ℕ) → k < some → test (first + k) ≡ false) → least_from test (first + some) (many - some) ≡ least_from test first many
  least-far first zero many within fails =
      let start : first + 0 ≡ first = omega arith in
      let all : many - 0 ≡ many = omega arith in
      λ j. least_from test (start j) (all j)
  least-far first (suc some) many within fails =
      let next : first + suc some ≡ first + some + 1 = omega arith in
      let less : many - suc some ≡ many - some - 1 = omega arith in
      (λ j. least_from test (next j) (less j))
      ∙ (sym (least-past (first + some) (many - some) (omega (arith, within)) (fails some (omega arith)))
      ∙ least-far first some many (omega (arith, within)) (λ k h. fails k (omega (arith, h))))

module _ (ports : List PortRow) (network : Ident) (end : ℕ) where
  -- what of the MAC addresses from one on, up to an end, is the least that no port has
  abbrev pub sought : ℕ → Option ℕ
  sought mac = least_from (λ m. not (is_mac_held ports network m)) mac (end - mac)

  -- one that a port has is passed by
  pub past_held : (mac k : ℕ) (p : PortRow) → mac < end → slice_get ports k ≡ Some p → has_mac network mac p ≡ true → sought (mac + 1) ≡ sought mac
  past_held mac k p within at has =
      let held : is_mac_held ports network mac ≡ true = at-any (has_mac network mac) ports k p at has in
      ap (λ many. least_from (λ m. not (is_mac_held ports network m)) (mac + 1) many) (omega arith)
      ∙ sym (least-past (λ m. not (is_mac_held ports network m)) mac (end - mac) (omega arith) (ap not held))

  -- at the end none is left, nor after it
  past_end : (mac : ℕ) → end ≤ mac → sought (mac + 1) ≡ sought mac
  past_end mac h =
      let test = λ (m : ℕ). not (is_mac_held ports network m) in
      least-none test (mac + 1) (end - (mac + 1)) (omega (arith, h)) ∙ sym (least-none test mac (end - mac) (omega (arith, h)))

  -- one that the next port has is passed by; another one stays
  pub past_next : (mac k : ℕ) (p : PortRow) → slice_get ports k ≡ Some p → sought (if has_mac network mac p then mac + 1 else mac) ≡ sought mac
  past_next mac k p at = by (has_mac network mac p) refl
    where
      there : (less : Bool) → nat_lt mac end ≡ less → has_mac network mac p ≡ true → sought (mac + 1) ≡ sought mac
      there true e h = past_held mac k p (grind (arith, nat_tests)) at h
      there false e h = past_end mac (grind (arith, nat_tests))

      by : (has : Bool) → has_mac network mac p ≡ has → sought (if has then mac + 1 else mac) ≡ sought mac
      by true h = there (nat_lt mac end) refl h
      by false h = refl

  -- one that no port has is the least
  pub here_free : (mac : ℕ) → mac < end → is_mac_held ports network mac ≡ false → sought mac ≡ Some mac
  here_free mac within free = least-here (λ m. not (is_mac_held ports network m)) mac (end - mac) (omega arith) (ap not free)

  -- the next port doesn't have it: one less to look at
  pub none_more : (mac k : ℕ) (p : PortRow) → k < length ports → p ≡ get_or ports k p → has_mac network mac p ≡ false
      → list_any (has_mac network mac) (drop (k + 1) ports) ≡ list_any (has_mac network mac) (drop k ports)
  none_more mac k p within is none =
      let here : has_mac network mac (get_or ports k p) ≡ false = ap (has_mac network mac) (sym is) ∙ none in
      sym (at_drop_more (list_any (has_mac network mac)) ports k p within ∙ ap (λ b. b || list_any (has_mac network mac) (drop (k + 1) ports)) here)

  -- so many that ports have are passed by
  pub past_run : (mac some : ℕ) → mac < end → ((k : ℕ) → k < some → is_mac_held ports network (mac + k) ≡ true) → sought (mac + some) ≡ sought mac
  past_run mac some within held = by (nat_le some (end - mac)) refl
    where
      by : (b : Bool) → nat_le some (end - mac) ≡ b → sought (mac + some) ≡ sought mac
      by true e =
          let fits : some ≤ end - mac = grind (arith, nat_tests) in
          let left : end - (mac + some) ≡ end - mac - some = omega arith in
          ap (λ many. least_from (λ m. not (is_mac_held ports network m)) (mac + some) many) left
          ∙ least-far (λ m. not (is_mac_held ports network m)) mac some (end - mac) fits (λ k less. ap not (held k less))
      by false e =
          let more : end - mac < some = grind (arith, nat_tests) in
          let all = least-far (λ m. not (is_mac_held ports network m)) mac (end - mac) (end - mac) (omega arith) (λ k less. ap not (held k (omega (arith, less, more)))) in
          least-none (λ m. not (is_mac_held ports network m)) (mac + some) (end - (mac + some)) (omega (arith, more))
          ∙ (sym (least-none (λ m. not (is_mac_held ports network m)) (mac + (end - mac)) (end - mac - (end - mac)) (omega arith)) ∙ all)

  -- one that no port has is the least, if it is before the end
  pub here_or_end : (mac : ℕ) → is_mac_held ports network mac ≡ false → (if nat_lt mac end then Some mac else None) ≡ sought mac
  here_or_end mac free = by (nat_lt mac end) refl
    where
      by : (b : Bool) → nat_lt mac end ≡ b → (if b then Some mac else None) ≡ sought mac
      by true e = sym (here_free mac (grind (arith, nat_tests)) free)
      by false e = let none : end - mac ≡ 0 = grind (arith, nat_tests) in sym (least-none (λ m. not (is_mac_held ports network m)) mac (end - mac) none)

-- where no mark stood before, a mark is what was added
pub new_mark : (many k : ℕ) (mark held : Bool) → k < many → mark ≡ (get_or (replicate many false) k false || held) → mark ≡ held
new_mark many k mark held below is = is ∙ ap (λ b. b || held) (get_or-replicate many k false false below)

-- no port has a MAC address after the greatest
pub none_after : (network : Ident) (p : PortRow) (greatest m : ℕ) → (if ident_eq network p.network && nat_lt greatest p.mac then p.mac else greatest) < m → (greatest < m) × (has_mac network m p ≡ false)
none_after network p greatest m = by (ident_eq network p.network) (nat_lt greatest p.mac) refl
  where
    by : (on more : Bool) → nat_lt greatest p.mac ≡ more → (if on && more then p.mac else greatest) < m → (greatest < m) × ((on && (p.mac == m)) ≡ false)
    by true true e less = (grind (arith, nat_tests), grind (arith, nat_tests))
    by true false e less = (less, grind (arith, nat_tests))
    by false more e less = (less, refl)

-- The numbers up to the next cut are one piece.
use Rattle.std.proofs.Common.{◌≡◌, ℕ, ◌+◌, ◌<◌, ◌≤◌, List, [], ◌∷◌, Bool, true, false, Option, Some, None, refl, ap, sym, ◌∙◌, arith, ◌⊎◌, inl, inr}
use Rattle.std.specs.Prelude.{◌&&◌, ◌||◌, ◌==◌, nat_le, nat_lt, if◌then◌else◌, ⊤}
use Rattle.std.proofs.lemmas.Bool.Decides.{nat_tests}
use Rattle.net_addr.specs.declared.address.Addr.{Addr}
use Rattle.net_addr.specs.declared.address.Addr.TheVariants.{V4, V6}
use Rattle.api_types.specs.RowLists.{RowLists}
use Rattle.api_types.specs.declared.group.RuleRow.{RuleRow}
use Rattle.api_types.specs.declared.port.PortRow.{PortRow}
use Rattle.plane_types.specs.Ends.{source}
use Rattle.plane_types.specs.Filter.{at_least, at_most, has_type, same_or_none}
use Rattle.reach_laws.specs.Numbers.{is_left_out, number_end}
use Rattle.reach_laws.specs.Pieces.{AreAlike, AreNamedAlike, is_of}
use Rattle.reach_laws.specs.declared.kind.ReachKind.{ReachKind}
use Rattle.reach_laws.specs.declared.kind.ReachKind.TheVariants.{Tcp, Udp, Echo, Other}
use Rattle.reach_sets.specs.Cuts.{IsPiece, cut_after, cut_around, cut_at, cut_by_rule, cut_by_rules, first_cut, lower, next_cut}
use Rattle.reach_sets.specs.TwoPorts.{TwoPorts}

-- no piece begins after d and up to e
abbrev pub IsUncut : ℕ → ℕ → ℕ → Type 0
IsUncut d e c = (c ≤ d) ⊎ (e < c)

abbrev pub UncutAt : ℕ → ℕ → Option ℕ → Type 0
UncutAt d e None = ⊤
UncutAt d e (Some m) = IsUncut d e m

abbrev pub UncutAfter : ℕ → ℕ → Option ℕ → Type 0
UncutAfter d e None = ⊤
UncutAfter d e (Some m) = IsUncut d e (m + 1)

abbrev pub UncutAround : ℕ → ℕ → Option ℕ → Type 0
UncutAround d e None = ⊤
UncutAround d e (Some m) = IsUncut d e m × IsUncut d e (m + 1)

abbrev pub UncutRule : ReachKind → ℕ → ℕ → RuleRow → Type 0
UncutRule Tcp d e r = UncutAt d e r.low × UncutAfter d e r.high
UncutRule Udp d e r = UncutAt d e r.low × UncutAfter d e r.high
UncutRule Echo d e r = ⊤
UncutRule Other d e r = UncutAround d e r.protocol

abbrev pub AreUncut : ReachKind → PortRow → PortRow → ℕ → ℕ → List RuleRow → Type 0
AreUncut kind p q d e [] = ⊤
AreUncut kind p q d e (r ∷ rules) = (is_of p q r ≡ true → UncutRule kind d e r) × AreUncut kind p q d e rules

-- what is below a cut isn't cut
module _ (at e : ℕ) where
  lower-uncut : (next cut : ℕ) → e < lower at next cut → (e < next) × IsUncut at e cut
  lower-uncut next cut h = go (nat_lt at cut) (nat_lt cut next) refl refl h
    where
      go : (a b : Bool) → nat_lt at cut ≡ a → nat_lt cut next ≡ b → e < (if a && b then cut else next) → (e < next) × IsUncut at e cut
      go true true p q h = let less : cut < next = grind (arith, nat_tests) in (omega (arith, h, less), inr h)
      go true false p q h = let less : next ≤ cut = grind (arith, nat_tests) in (h, inr (omega (arith, h, less)))
      go false b p q h = let less : cut ≤ at = grind (arith, nat_tests) in (h, inl less)

  at-uncut : (next : ℕ) (o : Option ℕ) → e < cut_at at next o → (e < next) × UncutAt at e o
  at-uncut next None h = (h, tt)
  at-uncut next (Some m) h = lower-uncut next m h

  after-uncut : (next : ℕ) (o : Option ℕ) → e < cut_after at next o → (e < next) × UncutAfter at e o
  after-uncut next None h = (h, tt)
  after-uncut next (Some m) h = lower-uncut next (m + 1) h

  around-uncut : (next : ℕ) (o : Option ℕ) → e < cut_around at next o → (e < next) × UncutAround at e o
  around-uncut next None h = (h, tt)
  around-uncut next (Some m) h =
      let after = lower-uncut (lower at next m) (m + 1) h in
      let before = lower-uncut next m after.0 in
      (before.0, (before.1, after.1))

  range-uncut : (next : ℕ) (low high : Option ℕ) → e < cut_after at (cut_at at next low) high → (e < next) × (UncutAt at e low × UncutAfter at e high)
  range-uncut next low high h =
      let after = after-uncut (cut_at at next low) high h in
      let before = at-uncut next low after.0 in
      (before.0, (before.1, after.1))

  rule-uncut : (kind : ReachKind) (next : ℕ) (r : RuleRow) → e < cut_by_rule kind at next r → (e < next) × UncutRule kind at e r
  rule-uncut Tcp next r h = range-uncut next r.low r.high h
  rule-uncut Udp next r h = range-uncut next r.low r.high h
  rule-uncut Echo next r h = (h, tt)
  rule-uncut Other next r h = around-uncut next r.protocol h

  rules-uncut : (kind : ReachKind) (p q : PortRow) (next : ℕ) (rules : List RuleRow) → e < cut_by_rules kind p q at next rules → (e < next) × AreUncut kind p q at e rules
  rules-uncut kind p q next [] h = (h, tt)
  rules-uncut kind p q next (r ∷ rules) h = go (is_of p q r) refl (rules-uncut kind p q (if is_of p q r then cut_by_rule kind at next r else next) rules h)
    where
      go : (b : Bool) → is_of p q r ≡ b → (e < (if b then cut_by_rule kind at next r else next)) × AreUncut kind p q at e rules → (e < next) × AreUncut kind p q at e (r ∷ rules)
      go true named rest = let one = rule-uncut kind next r rest.0 in (one.0, ((λ t. one.1), rest.1))
      go false named rest = (rest.0, ((λ t. let bad : false ≡ true = sym named ∙ t in absurd cc), rest.1))

  abbrev UncutOthers : Type 0
  UncutOthers = IsUncut at e 1 × IsUncut at e 2 × IsUncut at e 6 × IsUncut at e 7 × IsUncut at e 17 × IsUncut at e 18 × IsUncut at e 58 × IsUncut at e 59

  others-uncut : e < first_cut Other at → (e < 256) × UncutOthers
  others-uncut h =
      let six = cut_around at (cut_around at 256 (Some 1)) (Some 6) in
      let d = around-uncut (cut_around at six (Some 17)) (Some 58) h in
      let c = around-uncut six (Some 17) d.0 in
      let b = around-uncut (cut_around at 256 (Some 1)) (Some 6) c.0 in
      let a = around-uncut 256 (Some 1) b.0 in
      (a.0, (a.1.0, a.1.1, b.1.0, b.1.1, c.1.0, c.1.1, d.1.0, d.1.1))

-- a cut is after the number
module _ (at : ℕ) where
  lower-above : (next cut : ℕ) → at < next → at < lower at next cut
  lower-above next cut h = go (nat_lt at cut) (nat_lt cut next) refl
    where
      go : (a b : Bool) → nat_lt at cut ≡ a → at < (if a && b then cut else next)
      go true true p = let less : at < cut = grind (arith, nat_tests) in less
      go true false p = h
      go false b p = h

  at-above : (next : ℕ) (o : Option ℕ) → at < next → at < cut_at at next o
  at-above next None h = h
  at-above next (Some m) h = lower-above next m h

  after-above : (next : ℕ) (o : Option ℕ) → at < next → at < cut_after at next o
  after-above next None h = h
  after-above next (Some m) h = lower-above next (m + 1) h

  around-above : (next : ℕ) (o : Option ℕ) → at < next → at < cut_around at next o
  around-above next None h = h
  around-above next (Some m) h = lower-above (lower at next m) (m + 1) (lower-above next m h)

  rule-above : (kind : ReachKind) (next : ℕ) (r : RuleRow) → at < next → at < cut_by_rule kind at next r
  rule-above Tcp next r h = after-above (cut_at at next r.low) r.high (at-above next r.low h)
  rule-above Udp next r h = after-above (cut_at at next r.low) r.high (at-above next r.low h)
  rule-above Echo next r h = h
  rule-above Other next r h = around-above next r.protocol h

  rules-above : (kind : ReachKind) (p q : PortRow) (next : ℕ) (rules : List RuleRow) → at < next → at < cut_by_rules kind p q at next rules
  rules-above kind p q next [] h = h
  rules-above kind p q next (r ∷ rules) h = rules-above kind p q (if is_of p q r then cut_by_rule kind at next r else next) rules (go (is_of p q r))
    where
      go : (b : Bool) → at < (if b then cut_by_rule kind at next r else next)
      go true = rule-above kind next r h
      go false = h

  first-above : (kind : ReachKind) → at < number_end kind → at < first_cut kind at
  first-above Tcp h = h
  first-above Udp h = h
  first-above Echo h = h
  first-above Other h =
      let one = cut_around at 256 (Some 1) in
      let six = cut_around at one (Some 6) in
      let seventeen = cut_around at six (Some 17) in
      around-above seventeen (Some 58) (around-above six (Some 17) (around-above one (Some 6) (around-above 256 (Some 1) h)))

pub cut-above : (rows : RowLists) (x : TwoPorts) (kind : ReachKind) (at : ℕ) → at < number_end kind → at < next_cut rows x kind at
cut-above rows x kind at h = rules-above at kind x.from x.to (first_cut kind at) rows.rules (first-above at kind h)

-- what isn't cut is alike
module _ (d e : ℕ) (le : d ≤ e) where
  low-alike : (o : Option ℕ) → UncutAt d e o → at_least o d ≡ at_least o e
  low-alike None u = refl
  low-alike (Some m) (inl h) = let a : nat_le m d ≡ true = grind (arith, nat_tests) in let b : nat_le m e ≡ true = grind (arith, nat_tests) in a ∙ sym b
  low-alike (Some m) (inr h) = let a : nat_le m d ≡ false = grind (arith, nat_tests) in let b : nat_le m e ≡ false = grind (arith, nat_tests) in a ∙ sym b

  high-alike : (o : Option ℕ) → UncutAfter d e o → at_most o d ≡ at_most o e
  high-alike None u = refl
  high-alike (Some m) (inl h) = let a : nat_le d m ≡ false = grind (arith, nat_tests) in let b : nat_le e m ≡ false = grind (arith, nat_tests) in a ∙ sym b
  high-alike (Some m) (inr h) = let a : nat_le d m ≡ true = grind (arith, nat_tests) in let b : nat_le e m ≡ true = grind (arith, nat_tests) in a ∙ sym b

  number-alike : (m : ℕ) → IsUncut d e m → IsUncut d e (m + 1) → (m == d) ≡ (m == e)
  number-alike m (inl h) (inl k) = let a : (m == d) ≡ false = grind (arith, nat_tests) in let b : (m == e) ≡ false = grind (arith, nat_tests) in a ∙ sym b
  number-alike m (inl h) (inr k) = let same : d ≡ e = omega (arith, h, k, le) in ap (λ n. m == n) same
  number-alike m (inr h) k = let a : (m == d) ≡ false = grind (arith, nat_tests) in let b : (m == e) ≡ false = grind (arith, nat_tests) in a ∙ sym b

  number-back : (m : ℕ) → IsUncut d e m → IsUncut d e (m + 1) → (d == m) ≡ (e == m)
  number-back m (inl h) (inl k) = let a : (d == m) ≡ false = grind (arith, nat_tests) in let b : (e == m) ≡ false = grind (arith, nat_tests) in a ∙ sym b
  number-back m (inl h) (inr k) = let same : d ≡ e = omega (arith, h, k, le) in ap (λ n. n == m) same
  number-back m (inr h) k = let a : (d == m) ≡ false = grind (arith, nat_tests) in let b : (e == m) ≡ false = grind (arith, nat_tests) in a ∙ sym b

  protocol-alike : (o : Option ℕ) → UncutAround d e o → same_or_none o d ≡ same_or_none o e
  protocol-alike None u = refl
  protocol-alike (Some m) u = number-alike m u.0 u.1

  ranges-alike : (p q : PortRow) (rules : List RuleRow) → AreUncut Tcp p q d e rules → AreAlike p q d e rules
  ranges-alike p q [] h = tt
  ranges-alike p q (r ∷ rules) h =
      ((λ named. let u = h.0 named in ap (λ b. b && at_most r.high d) (low-alike r.low u.0) ∙ ap (λ b. at_least r.low e && b) (high-alike r.high u.1)), ranges-alike p q rules h.1)

  udp-ranges : (p q : PortRow) (rules : List RuleRow) → AreUncut Udp p q d e rules → AreAlike p q d e rules
  udp-ranges p q [] h = tt
  udp-ranges p q (r ∷ rules) h =
      ((λ named. let u = h.0 named in ap (λ b. b && at_most r.high d) (low-alike r.low u.0) ∙ ap (λ b. at_least r.low e && b) (high-alike r.high u.1)), udp-ranges p q rules h.1)

  names-alike : (p q : PortRow) (rules : List RuleRow) → AreUncut Other p q d e rules → AreNamedAlike p q d e rules
  names-alike p q [] h = tt
  names-alike p q (r ∷ rules) h = ((λ named. protocol-alike r.protocol (h.0 named)), names-alike p q rules h.1)

  types-alike : UncutOthers d e → has_type d ≡ has_type e
  types-alike (a, b, x6, x7, x17, x18, x58, x59) = ap (λ t. t || (d == 58)) (number-back 1 a b) ∙ ap (λ t. (e == 1) || t) (number-back 58 x58 x59)

  left-alike : (a : Addr) → UncutOthers d e → is_left_out Other a d ≡ is_left_out Other a e
  left-alike (V4 x) (a, b, x6, x7, x17, x18, x58, x59) =
      ap (λ t. t || (d == 6) || (d == 17)) (number-back 1 a b) ∙ ap (λ t. (e == 1) || t || (d == 17)) (number-back 6 x6 x7) ∙ ap (λ t. (e == 1) || (e == 6) || t) (number-back 17 x17 x18)
  left-alike (V6 x) (a, b, x6, x7, x17, x18, x58, x59) =
      ap (λ t. t || (d == 17) || (d == 58)) (number-back 6 x6 x7) ∙ ap (λ t. (e == 6) || t || (d == 58)) (number-back 17 x17 x18) ∙ ap (λ t. (e == 6) || (e == 17) || t) (number-back 58 x58 x59)

-- the piece of a number
pub cut-piece : (rows : RowLists) (x : TwoPorts) (kind : ReachKind) (at d : ℕ) → at ≤ d → d < next_cut rows x kind at → IsPiece rows x kind at d
cut-piece rows x Tcp at d le h = let u = rules-uncut at d Tcp x.from x.to 65536 rows.rules h in record { number = u.0; alike = ranges-alike at d le x.from x.to rows.rules u.1; left = refl }
cut-piece rows x Udp at d le h = let u = rules-uncut at d Udp x.from x.to 65536 rows.rules h in record { number = u.0; alike = udp-ranges at d le x.from x.to rows.rules u.1; left = refl }
cut-piece rows x Echo at d le h = let u = rules-uncut at d Echo x.from x.to 1 rows.rules h in let less = u.0 in record { number = less; alike = (omega (arith, less, le), omega (arith, less)); left = refl }
cut-piece rows x Other at d le h =
    let u = rules-uncut at d Other x.from x.to (first_cut Other at) rows.rules h in
    let o = others-uncut at d u.0 in
    record { number = o.0; alike = (types-alike at d le o.1, names-alike at d le x.from x.to rows.rules u.1); left = left-alike at d le (source x.ends) o.1 }

pub cut-within : (rows : RowLists) (x : TwoPorts) (kind : ReachKind) (at : ℕ) → at < number_end kind → next_cut rows x kind at ≤ number_end kind
cut-within rows x kind at h = go (nat_le (next_cut rows x kind at) (number_end kind)) refl
  where
    go : (b : Bool) → nat_le (next_cut rows x kind at) (number_end kind) ≡ b → next_cut rows x kind at ≤ number_end kind
    go true e = grind (arith, nat_tests)
    go false e =
        let above : number_end kind < next_cut rows x kind at = grind (arith, nat_tests) in
        let piece = cut-piece rows x kind at (number_end kind) (omega (arith, h)) above in
        let less = piece.number in
        absurd (omega (arith, less))

-- What one event says of a whole piece of numbers.
use Rattle.std.proofs.Common.{◌≡◌, ℕ, ◌<◌, List, [], ◌∷◌, Bool, true, false, not, refl, ap, sym, ◌∙◌, arith}
use Rattle.std.specs.Prelude.{◌&&◌, ◌==◌, nat_lt}
use Rattle.std.proofs.lemmas.Bool.Decides.{nat_tests}
use Rattle.api_types.specs.Consistent.{IsConsistent}
use Rattle.api_types.specs.RowLists.{RowLists}
use Rattle.api_types.specs.declared.group.RuleRow.{RuleRow}
use Rattle.api_types.specs.declared.port.PortRow.{PortRow}
use Rattle.plane_types.specs.Ends.{destination, source}
use Rattle.plane_types.specs.declared.frame.KeyPart.{KeyPart}
use Rattle.reach_laws.proofs.Exact.{decides}
use Rattle.reach_laws.specs.Decides.{Decides}
use Rattle.reach_laws.specs.Numbers.{is_left_out, is_number, number_end, part_by}
use Rattle.reach_laws.specs.Pieces.{AreAlike, AreNamedAlike, AreOnePiece}
use Rattle.reach_laws.specs.declared.kind.ReachKind.{ReachKind}
use Rattle.reach_laws.specs.declared.kind.ReachKind.TheVariants.{Tcp, Udp, Echo, Other}
use Rattle.reach_sets.specs.Cuts.{IsPiece}
use Rattle.reach_sets.specs.TwoPorts.{AreRows, IsReachedBetween, ReachesBetween, TwoPorts, comes_between}

-- the law, of what an event came to
pub came-decides : (rows : RowLists) → IsConsistent rows → (x : TwoPorts) → AreRows rows x → (kind : ReachKind) (s d : ℕ) (part : KeyPart) (b : Bool) → (s == d) ≡ false → part ≡ part_by kind s d → b ≡ comes_between rows x part
    → (e : ℕ) → AreOnePiece rows x.from x.to kind d e → Decides b (ReachesBetween rows x kind e)
came-decides rows c x are kind s d part b apart is came e alike =
    let law = decides rows c x.from x.to are.from are.to (source x.ends) (destination x.ends) kind s d e apart alike in
    let same : b ≡ comes_between rows x (part_by kind s d) = came ∙ ap (comes_between rows x) is in
    ((λ t. law.0 (sym same ∙ t)), (λ p. same ∙ law.1 p))

-- a number is in its own piece
alike-itself : (p q : PortRow) (d : ℕ) (rules : List RuleRow) → AreAlike p q d d rules
alike-itself p q d [] = tt
alike-itself p q d (r ∷ rules) = ((λ named. refl), alike-itself p q d rules)

named-itself : (p q : PortRow) (d : ℕ) (rules : List RuleRow) → AreNamedAlike p q d d rules
named-itself p q d [] = tt
named-itself p q d (r ∷ rules) = ((λ named. refl), named-itself p q d rules)

pub one-piece : (rows : RowLists) (p q : PortRow) (kind : ReachKind) (d : ℕ) → d < number_end kind → AreOnePiece rows p q kind d d
one-piece rows p q Tcp d less = alike-itself p q d rows.rules
one-piece rows p q Udp d less = alike-itself p q d rows.rules
one-piece rows p q Echo d less = let few : d < 1 = less in let first : d ≡ 0 = omega (arith, few) in (first, first)
one-piece rows p q Other d less = (refl, named-itself p q d rows.rules)

pub own-piece : (rows : RowLists) (x : TwoPorts) (kind : ReachKind) (d : ℕ) → d < number_end kind → IsPiece rows x kind d d
own-piece rows x kind d less = record { number = less; alike = one-piece rows x.from x.to kind d less; left = refl }

-- a number is one of the kind exactly if its piece isn't left out
number-by : (rows : RowLists) (x : TwoPorts) (kind : ReachKind) (at d : ℕ) (left : Bool) → IsPiece rows x kind at d → left ≡ is_left_out kind (source x.ends) at → is_number kind (source x.ends) d ≡ not left
number-by rows x kind at d left piece is =
    let less = piece.number in
    let within : nat_lt d (number_end kind) ≡ true = grind (arith, nat_tests, less) in
    ap (λ t. t && not (is_left_out kind (source x.ends) d)) within ∙ ap not (sym piece.left ∙ sym is)

pub without-number : (rows : RowLists) (x : TwoPorts) (kind : ReachKind) (at d : ℕ) (P : Type 0) → IsPiece rows x kind at d → true ≡ is_left_out kind (source x.ends) at → Decides false ((is_number kind (source x.ends) d ≡ true) × P)
without-number rows x kind at d P piece is =
    ((λ t. let bad : false ≡ true = t in absurd cc), (λ h. let bad : false ≡ true = sym (number-by rows x kind at d true piece is) ∙ h.0 in absurd cc))

pub with-number : (rows : RowLists) (x : TwoPorts) (kind : ReachKind) (at d : ℕ) (b : Bool) (P : Type 0) → IsPiece rows x kind at d → false ≡ is_left_out kind (source x.ends) at → Decides b P
    → Decides b ((is_number kind (source x.ends) d ≡ true) × P)
with-number rows x kind at d b P piece is decides = ((λ t. (number-by rows x kind at d false piece is, decides.0 t)), (λ h. decides.1 h.1))

-- numbers end
pub number-ends : (rows : RowLists) (x : TwoPorts) (kind : ReachKind) (d : ℕ) → is_number kind (source x.ends) d ≡ true → d < number_end kind
number-ends rows x kind d h = go (nat_lt d (number_end kind)) refl h
  where
    go : (b : Bool) → nat_lt d (number_end kind) ≡ b → (b && not (is_left_out kind (source x.ends) d)) ≡ true → d < number_end kind
    go true e h = grind (arith, nat_tests)
    go false e h = let bad : false ≡ true = h in absurd cc

-- and echoes are reached by their one number
pub echo-decides : (rows : RowLists) (x : TwoPorts) (b : Bool) → Decides b (ReachesBetween rows x Echo 0) → Decides b (IsReachedBetween rows x Echo 0)
echo-decides rows x b h = ((λ t. (refl, h.0 t)), (λ p. h.1 p.1))

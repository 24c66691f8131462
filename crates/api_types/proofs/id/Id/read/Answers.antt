use Rattle.std.proofs.Common.{◌≡◌, List, ℕ, sym, ◌∙◌, true≢false, Some, ◌⊎◌, inl, inr}
use Rattle.std.proofs.lemmas.Slice.Eq.{bytes_eq-Decides}
use Rattle.api_types.specs.Ident.{Ident, Spells, uuid_bytes}
use Rattle.uuid.specs.Text.{parsed}
use Rattle.api_types.proofs.IdentLemmas.{halves_give, no_zero, hyphenated_long, parsed_long}
use Rattle.api_types.proofs.id.Id.read.Goals as goal

-- a text that spells an id is read as its bytes
read_as : (text : List ℕ) (i : Ident) → Spells text i → parsed text ≡ Some (uuid_bytes i)
read_as text i s = parsed_long text (hyphenated_long text _ s.form) ∙ s.form

pub returns-in_default-clause-none : goal.returns-in_default-clause-none
returns-in_default-clause-none c = λ i s. true≢false (sym (c.in_default.ensures.ok.1 (uuid_bytes i, read_as _ i s)))

pub returns-then-id-eq0-clause-none : goal.returns-then-id-eq0-clause-none
returns-then-id-eq0-clause-none c = λ i s.
    let read = c.in-Ok.ensures.bytes in
    let spelt = read_as _ i s in
    let same : c.in-Ok.uuid ≡ uuid_bytes i = cc in
    no_zero i c.in-Ok.uuid _ _ s.drawable same c.as_u64_pair-high.ensures.high c.as_u64_pair-high.ensures.low (by c.then-id-eq0.either)
  where
    by : {A B C : Type 0} → A ⊎ (C × B) → A ⊎ B
    by (inl a) = inl a
    by (inr b) = inr b.1

pub returns-else-eq-clause-none : goal.returns-else-eq-clause-none
returns-else-eq-clause-none c = λ i s.
    let read = c.in-Ok.ensures.bytes in
    let spelt = read_as _ i s in
    let same : c.in-Ok.uuid ≡ uuid_bytes i = cc in
    let back = halves_give i c.in-Ok.uuid _ _ s.drawable same c.as_u64_pair-high.ensures.high c.as_u64_pair-high.ensures.low in
    true≢false (sym ((bytes_eq-Decides _ _).1 (c.uuid.ensures ∙ back)) ∙ sym c.if-eq.ensures)

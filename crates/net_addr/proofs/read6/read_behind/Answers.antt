use Rattle.std.proofs.Common.{◌≡◌, ℕ, ◌+◌, ◌<◌, inr, List, max, true, refl, sym, subst, ◌∙◌, arith}
use Rattle.std.proofs.lemmas.Grind.{common_steps}
use Rattle.net_addr.specs.Reading.{IsRead, NoneSoFar, SpellsBehind, is_readable}
use Rattle.net_addr.specs.Spelling.{Spells, group_count, shortened_parts}
use Rattle.net_addr.specs.declared.spelling.Part.{Part}
use Rattle.net_addr.proofs.FormLemmas.{form_readable}
use Rattle.net_addr.proofs.GrammarLemmas.{none_at_all, none_yet, one_more, read_by_parts}
use Rattle.net_addr.proofs.Read6Lemmas.{text_behind}
use Rattle.net_addr.proofs.read6.read_behind.Goals as goal

pub loop-right-init : goal.loop-right-init
loop-right-init c =
    let t = c.args.has_tail in
    let left = c.args.left in
    let w = text_behind t left c.requires in
    none_yet (λ right. Spells (shortened_parts t left right) 0) (λ ts. (n : ℕ) × SpellsBehind t left ts n) c.args.text.now w.0 w.1

pub read_parts-requires : goal.read_parts-requires
read_parts-requires c =
    let t = c.args.has_tail in
    let left = c.args.left in
    let right = c.loop-right.right in
    let l : left + right < group_count t = omega arith in
    let e : c.as_slice.result.now ≡ shortened_parts t left right = c.as_slice.ensures ∙ c.form_with_gap-form.ensures in
    subst (λ (p : List Part). is_readable p ≡ true) (sym e) (form_readable (shortened_parts t left right) (t, inr (left, right, l, refl)))

pub returns-in-Ok : goal.returns-in-Ok
unfolding SpellsBehind
returns-in-Ok c =
    let t = c.args.has_tail in
    let left = c.args.left in
    let right = c.loop-right.right in
    let l : left + right < group_count t = omega arith in
    let e : c.as_slice.result.now ≡ shortened_parts t left right = c.as_slice.ensures ∙ c.form_with_gap-form.ensures in
    (right, l, subst (λ (p : List Part). Spells p 0 c.args.text.now c.in-Ok.value) e ((c.in-Ok.ensures.ok c.in-Ok.value).1 refl))

pub loop-right-preserved : goal.loop-right-preserved
unfolding SpellsBehind
loop-right-preserved c =
    let t = c.args.has_tail in
    let left = c.args.left in
    let right = c.loop-right.right in
    let text = c.args.text.now in
    let l : left + right < group_count t = omega arith in
    let e : c.as_slice.result.now ≡ shortened_parts t left right = c.as_slice.ensures ∙ c.form_with_gap-form.ensures in
    let r =
    subst (λ (p : List Part). IsRead (Spells p 0) text c.read_parts.result) e
    (read_by_parts c.as_slice.result.now text c.read_parts.result c.read_parts.ensures.ok c.read_parts.ensures.refused c.read_parts.ensures.at) in
    let longer : c.max-at.result ≡ max c.loop-right.at c.in-Err.bad.at = grind (arith, common_steps) in
    subst (λ (at : ℕ). NoneSoFar (λ i. Spells (shortened_parts t left i) 0) (λ ts. (n : ℕ) × SpellsBehind t left ts n) (right + 1) text at) (sym longer)
    (one_more (λ i. Spells (shortened_parts t left i) 0) (λ ts. (n : ℕ) × SpellsBehind t left ts n) right text c.loop-right.at c.read_parts.result c.in-Err.bad c.in-Err.is
    (λ ts n s. (n, (right, l, s))) c.loop-right.invariant r)

pub returns : goal.returns
unfolding SpellsBehind
returns c =
    let t = c.args.has_tail in
    let left = c.args.left in
    none_at_all (λ i. Spells (shortened_parts t left i) 0) (SpellsBehind t left) c.loop-right.right c.args.text.now (record { at = c.loop-right.at })
    (λ ts n s. (s.0, omega (arith, s.1), s.2)) c.loop-right.invariant

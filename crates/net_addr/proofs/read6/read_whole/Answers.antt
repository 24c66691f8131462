use Rattle.std.proofs.Common.{◌≡◌, inl, List, true, refl, sym, subst, ◌∙◌}
use Rattle.net_addr.specs.Reading.{IsRead, SpellsWhole, is_readable}
use Rattle.net_addr.specs.Spelling.{Spells, end_parts, group_count}
use Rattle.net_addr.specs.declared.spelling.Part.{Part}
use Rattle.net_addr.proofs.GrammarLemmas.{read_by_parts}
use Rattle.net_addr.proofs.FormLemmas.{form_readable}
use Rattle.net_addr.proofs.read6.read_whole.Goals as goal

pub read_parts-requires : goal.read_parts-requires
read_parts-requires c =
    let t = c.args.has_tail in
    let e : c.as_slice.result.now ≡ end_parts t (group_count t) = c.as_slice.ensures ∙ c.whole-form.ensures in
    subst (λ (p : List Part). is_readable p ≡ true) (sym e) (form_readable (end_parts t (group_count t)) (t, inl refl))

pub returns : goal.returns
unfolding SpellsWhole
returns c =
    let t = c.args.has_tail in
    let e : c.as_slice.result.now ≡ end_parts t (group_count t) = c.as_slice.ensures ∙ c.whole-form.ensures in
    subst (λ (p : List Part). IsRead (Spells p 0) c.args.text.now c.read_parts.result) e
    (read_by_parts c.as_slice.result.now c.args.text.now c.read_parts.result c.read_parts.ensures.ok c.read_parts.ensures.refused c.read_parts.ensures.at)

use Rattle.std.proofs.Common.{◌∙◌, ◌≡◌, None, sym, arith}
use Rattle.plane_types.specs.NewTags.{next_tag as next_of}
use Rattle.plane_types.specs.TableRows.{tag_of as tag_given}
use Rattle.l2_agent.proofs.FreeLemmas.{first_free, none_behind}
use Rattle.l2_agent.proofs.tags.next_tag.Goals as goal

pub returns-then-first-lt-BEHIND-clause-given : goal.returns-then-first-lt-BEHIND-clause-given
returns-then-first-lt-BEHIND-clause-given c =
    let kept = c.args.kept.now in
    let first = c.next_free-first.result in
    let less = c.if-first-lt-BEHIND.true in
    let free = c.next_free-first.ensures.same ∙ first_free kept first less (c.next_free-first.ensures.free less) in
    let none : None ≡ tag_given c.args.old.now c.args.network = c.in_default.ensures in
    λ j. next_of (none j) (sym free j)

pub returns-else-first-lt-BEHIND-clause-given : goal.returns-else-first-lt-BEHIND-clause-given
returns-else-first-lt-BEHIND-clause-given c =
    let kept = c.args.kept.now in
    let first = c.next_free-first.result in
    let last : first ≡ 4095 = omega (arith, c.next_free-first.ensures.within, c.if-first-lt-BEHIND.false) in
    let free = c.next_free-first.ensures.same ∙ none_behind kept first last in
    let none : None ≡ tag_given c.args.old.now c.args.network = c.in_default.ensures in
    λ j. next_of (none j) (sym free j)

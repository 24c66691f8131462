use Rattle.std.proofs.Common.{[], ◌≡◌, refl, sym, ap, inr, subst, Err, true≢false}
use Rattle.httparse.specs.Grammar.{NeverHasRequest, MayBecomeRequest, HasNoRequest}
use Rattle.httparse.specs.Spans.{RequestExceeds, IsRequestOf, IsRequestWithin}
use Rattle.http_heads.specs.Lines.{line_feeds, behind_blank}
use Rattle.http_heads.proofs.JudgeLemmas.{whole_head, never_head, never_follow, first_line_large, not_too_many, can_follow}
use Rattle.http_heads.proofs.judging.judge.Goals as goal

pub returns-in-Ok-Complete : goal.returns-in-Ok-Complete
returns-in-Ok-Complete c =
    let p = c.args.prefix.now in
    let whole : IsRequestOf p c.parse_request.new.headers c.in-Ok-Complete.spans = rw c.in-Ok-Complete.field-0-is at c.in-Ok-Complete.ensures.complete in
    let within : IsRequestWithin p c.parse_request.new.headers c.in-Ok-Complete.spans = rw c.in-Ok-Complete.field-0-is at c.in-Ok-Complete.ensures.within in
    (within, (whole.0, whole.1, whole_head p whole.0 c.in-Ok-Complete.spans.len whole.1.reads whole.1.len within.section.len_fits c.requires.short c.requires.first))

pub returns-then-is_large : goal.returns-then-is_large
returns-then-is_large c =
    let p = c.args.prefix.now in
    let none : HasNoRequest p = rw c.in-Ok-Partial.field-0-is at c.in-Ok-Partial.ensures.partial in
    let may : MayBecomeRequest p = rw c.in-Ok-Partial.field-0-is at c.in-Ok-Partial.ensures.unfinished in
    (λ h reads. none h [] reads, can_follow p may, c.if-is_large.ensures.0 refl)

pub returns-else-is_large : goal.returns-else-is_large
returns-else-is_large c =
    let p = c.args.prefix.now in
    let none : HasNoRequest p = rw c.in-Ok-Partial.field-0-is at c.in-Ok-Partial.ensures.partial in
    let may : MayBecomeRequest p = rw c.in-Ok-Partial.field-0-is at c.in-Ok-Partial.ensures.unfinished in
    record { no_head = λ h reads. none h [] reads; follow = can_follow p may; small = λ large. true≢false (sym (c.if-is_large.ensures.1 large)) }

pub returns-then-is_in_first_line : goal.returns-then-is_in_first_line
returns-then-is_in_first_line c =
    let p = c.args.prefix.now in
    let never : NeverHasRequest p = c.in-Err.ensures.invalid (λ e. not_too_many p c.requires.few (subst (λ n. RequestExceeds n p) c.requires.room (c.in-Err.ensures.too_many (ap Err e)))) in
    let lines : line_feeds (behind_blank p) ≡ 0 = c.if-is_in_first_line.ensures.0 refl in
    (never_head p never, inr lines, first_line_large p never lines c.requires.ends)

pub returns-else-is_in_first_line : goal.returns-else-is_in_first_line
returns-else-is_in_first_line c =
    let p = c.args.prefix.now in
    let never : NeverHasRequest p = c.in-Err.ensures.invalid (λ e. not_too_many p c.requires.few (subst (λ n. RequestExceeds n p) c.requires.room (c.in-Err.ensures.too_many (ap Err e)))) in
    (never_head p never, never_follow p never (λ lines. true≢false (sym (c.if-is_in_first_line.ensures.1 lines))))

use Rattle.std.proofs.Common.{◌≡◌, ◌<◌, ◌∙◌, IfSome, None, length, sym, ap, subst, arith}
use Rattle.std.specs.Io.KnownBytes.{Consumes}
use Rattle.std.proofs.KnownBytes.{Consumes-nil}
use Rattle.agent_links.specs.Wholes.{IsLengthOf, IsReplyLength, read_limit}
use Rattle.agent_links.proofs.WholeLemmas.{before_it, has_whole, none_among, none_at_end, none_yet, taken_on}
use Rattle.agent_links.proofs.whole.read_whole.Goals as goal

pub pieces-init : goal.pieces-init
pieces-init g c =
    let left = (g.I.Source.told c.args.input.now).left in
    let size = ap length c.new-bytes.ensures.items in record {
      taken = subst (Consumes left left) (sym c.new-bytes.ensures.items) (Consumes-nil left);
      found = subst (λ l. IsLengthOf l None) (sym c.new-bytes.ensures.items) none_yet;
      short = tt;
      few = omega (arith, size);
      later = omega arith;
    }

pub returns-then-branch-eq0-clause-ok : goal.returns-then-branch-eq0-clause-ok
returns-then-branch-eq0-clause-ok g c =
    let i = c.pieces.invariant in
    none_at_end _ _ _ _ _ _ c.in_ok-read_piece.ensures.ok c.pieces.found (c.if-branch-eq0.true) i.taken i.found i.short

pub look_again-found-requires-clause-found : goal.look_again-found-requires-clause-found
look_again-found-requires-clause-found g c =
    let size : c.len-before.result ≡ length c.pieces.bytes.items = omega arith in
    let left = (g.I.Source.told c.args.input.now).left in
    before_it left _ _ _ _ _ c.in_ok-read_piece.ensures.ok c.pieces.found c.len-before.result c.as_slice.result.now size c.as_slice.ensures.value c.pieces.invariant.found

pub returns-then-end-len-clause-ok : goal.returns-then-end-len-clause-ok
returns-then-end-len-clause-ok g c =
    let taken = taken_on _ _ _ _ _ _ c.in_ok-read_piece.ensures.ok c.pieces.invariant.taken in
    let ends : IsReplyLength c.read_piece.new.bytes.items c.in-Some.end = subst (λ l. IsReplyLength l c.in-Some.end) c.as_slice.ensures.value c.in-Some.ensures in
    has_whole _ _ c.read_piece.new.bytes.items c.from_vec.result c.in-Some.end taken ends (omega arith) (c.from_vec.ensures ∙ c.truncate.ensures.items)

pub pieces-preserved-else-end-len : goal.pieces-preserved-else-end-len
pieces-preserved-else-end-len g c = record {
  taken = taken_on _ _ _ _ _ _ c.in_ok-read_piece.ensures.ok c.pieces.invariant.taken;
  found = subst (λ l. IsReplyLength l c.in-Some.end) c.as_slice.ensures.value c.in-Some.ensures;
  short = omega arith;
  few = c.in_ok-read_piece.ensures.few;
  later = omega arith;
}

pub pieces-preserved : goal.pieces-preserved
pieces-preserved g c = record {
  taken = taken_on _ _ _ _ _ _ c.in_ok-read_piece.ensures.ok c.pieces.invariant.taken;
  found = subst (λ l. IsLengthOf l c.look_again-found.result) c.as_slice.ensures.value c.look_again-found.ensures;
  short = subst (λ o. IfSome o (λ n. length c.read_piece.new.bytes.items < n)) (sym c.in_default.is) tt;
  few = c.in_ok-read_piece.ensures.few;
  later = omega arith;
}

pub returns-clause-ok : goal.returns-clause-ok
returns-clause-ok g c =
    let i = c.pieces.invariant in
    let full : length c.pieces.bytes.items ≡ read_limit = omega arith in
    none_among _ _ c.pieces.bytes.items c.pieces.found full i.taken i.found i.short

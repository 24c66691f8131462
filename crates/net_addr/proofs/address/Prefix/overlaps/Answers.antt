use Rattle.std.proofs.Common.{refl, inl, inr}
use Rattle.net_addr.proofs.PrefixLemmas.{shared_numbers, version_self}
use Rattle.net_addr.proofs.address.Prefix.overlaps.Goals as goal

pub returns-else-has_base-clause-meaning : goal.returns-else-has_base-clause-meaning
returns-else-has_base-clause-meaning c =
    let p = c.args.self in
    let q = c.args.other in
    let m = c.has_base-else-has_base.ensures.meaning in (
      λ t. (p.base, c.has_base-else-has_base.ensures.bound, (version_self p.base, refl), m.0 t),
      λ w.
          elim (shared_numbers p q w.0 w.2 w.3) [
            | inl h ↦ absurd (cc (c.if-has_base.ensures.meaning.1 h))
            | inr h ↦ m.1 h
          ],
    )

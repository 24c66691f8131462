use Rattle.std.proofs.Common.{◌∙◌, ap, sym, subst}
use Rattle.std.specs.Prelude.{find}
use Rattle.std.specs.List.Sorted.{IsSortedBy}
use Rattle.host_plane.proofs.MapLemmas.{first_of, is_at, key_alike, order_alike, second_of}
use Rattle.host_plane.proofs.map.neighbour_among.Goals as goal

pub returns : goal.returns
returns c = λ up.
    c.row_at.ensures (subst (λ before. IsSortedBy before c.args.rows.now) (sym order_alike) up)
    ∙ (λ j. find (is_at first_of second_of (c.tag_and_width-first.ensures j) (c.number_of-second.ensures j)) c.args.rows.now)
    ∙ ap (λ test. find test c.args.rows.now) (key_alike c.args.tag c.args.address.now)

use Rattle.std.proofs.Common.{◌≡◌, ◌+◌, ◌++◌, List, length, ap, ◌∙◌, arith, length-append}
use Rattle.net_addr.specs.Spelling.{row_parts}
use Rattle.net_addr.specs.declared.spelling.Part.{Part}
use Rattle.net_addr.proofs.Read6Lemmas.{room_of_row}
use Rattle.net_addr.proofs.read6.form_with_gap.Goals as goal

pub push_all-requires : goal.push_all-requires
push_all-requires c =
    let e : c.push_row.new.self ≡ row_parts c.args.left = c.push_row.ensures ∙ ap (λ (ps : List Part). ps ++ row_parts c.args.left) c.new-form.ensures in
    (room_of_row c.args.has_tail c.args.left c.args.right c.push_row.new.self c.requires e).0

pub push_end-requires : goal.push_end-requires
push_end-requires c =
    let e : c.push_row.new.self ≡ row_parts c.args.left = c.push_row.ensures ∙ ap (λ (ps : List Part). ps ++ row_parts c.args.left) c.new-form.ensures in
    let room = (room_of_row c.args.has_tail c.args.left c.args.right c.push_row.new.self c.requires e).1 in
    let n : length c.push_all.new.self ≡ length c.push_row.new.self + 2 = ap (λ (ps : List Part). length ps) c.push_all.ensures ∙ length-append c.push_row.new.self _ in
    omega (arith, n, room)

use Rattle.std.proofs.Common.{◌≡◌, ℕ, ◌+◌, ◌*◌, ◌++◌, List, length, take, Bool, sym, ap, ◌∙◌, arith, append_assoc, length-append}
use Rattle.net_addr.specs.Spelling.{address_parts, end_parts, groups_before}
use Rattle.net_addr.specs.declared.spelling.Part.{Part}
use Rattle.net_addr.proofs.FormLemmas.{count_at, count_without, groups_front, length_before}
use Rattle.net_addr.proofs.read6.Form.push_end.Goals as goal

pub push_all-requires : goal.push_all-requires
push_all-requires c =
    let six = count_at c.args.has_tail c.if-has_tail.true in
    let e = groups_front c.args.count (2 * c.from.result) (omega (arith, c.from.ensures)) (omega (arith, six, c.requires)) in
    let l : length (take (2 * c.from.result) (groups_before 8)) ≡ 2 * c.args.count = ap (λ (ps : List Part). length ps) e ∙ length_before c.args.count in
    omega (arith, l, six, c.requires)

pub push_all-requires-then-has_tail : goal.push_all-requires-then-has_tail
push_all-requires-then-has_tail c =
    let six = count_at c.args.has_tail c.if-has_tail.true in
    let e = groups_front c.args.count (2 * c.from.result) (omega (arith, c.from.ensures)) (omega (arith, six, c.requires)) in
    let l : length c.push_all.new.self ≡ length c.args.self.now + 2 * c.args.count =
    ap (λ (ps : List Part). length ps) (c.push_all.ensures ∙ ap (λ (ps : List Part). c.args.self.now ++ ps) e) ∙ length-append c.args.self.now (groups_before c.args.count)
    ∙ ap (λ (k : ℕ). length c.args.self.now + k) (length_before c.args.count) in
    omega (arith, l, six, c.requires)

pub push_row-requires-clause-few : goal.push_row-requires-clause-few
push_row-requires-clause-few c = let eight = count_without c.args.has_tail c.if-has_tail.false in omega (arith, eight, c.requires)

pub push_row-requires-clause-room : goal.push_row-requires-clause-room
push_row-requires-clause-room c = let eight = count_without c.args.has_tail c.if-has_tail.false in omega (arith, eight, c.requires)

pub returns-then-has_tail : goal.returns-then-has_tail
returns-then-has_tail c =
    let six = count_at c.args.has_tail c.if-has_tail.true in
    let e = groups_front c.args.count (2 * c.from.result) (omega (arith, c.from.ensures)) (omega (arith, six, c.requires)) in
    c.push_all-then-has_tail.ensures ∙ ap (λ (ps : List Part). ps ++ address_parts) (c.push_all.ensures ∙ ap (λ (ps : List Part). c.args.self.now ++ ps) e)
    ∙ append_assoc c.args.self.now (groups_before c.args.count) address_parts
    ∙ ap (λ (b : Bool). c.args.self.now ++ end_parts b c.args.count) (sym c.if-has_tail.true)

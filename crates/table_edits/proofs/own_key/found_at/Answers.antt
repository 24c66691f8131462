use Rattle.std.proofs.Common.{◌≡◌, ◌∙◌, None, Some, ap, false, not, rules, slice_get, sym, true}
use Rattle.std.specs.Prelude.{if◌then◌else◌, option_copied}
use Rattle.table_edits.proofs.PlaceLemmas.{got_at, own_row, row_here}
use Rattle.table_edits.proofs.own_key.found_at.Goals as goal

pub returns-in_err-row : goal.returns-in_err-row
returns-in_err-row g c =
    let before = g.R.Key.TableKey.before in
    let order = g.met.R.Key.TableKey.total in
    let key_of = g.R.OwnKey.key_of in
    let key = c.args.key.now in
    let rows = c.args.rows.now in
    let place = c.args.place in
    let gone : c.get.result ≡ None = search rules in
    let at : None ≡ slice_get rows place = ap option_copied (sym gone) ∙ got_at rows place c.get.result c.get.ensures.lookup.3 in
    let none : option_copied c.from_residual.result ≡ None = search rules in
    none ∙ ap (row_here before order key_of key) at ∙ sym (own_row before order key_of key rows c.requires.rises place c.requires.place)

pub returns-then-is_past : goal.returns-then-is_past
returns-then-is_past g c =
    let before = g.R.Key.TableKey.before in
    let order = g.met.R.Key.TableKey.total in
    let key_of = g.R.OwnKey.key_of in
    let key = c.args.key.now in
    let rows = c.args.rows.now in
    let place = c.args.place in
    let row = c.in_ok-row.row.now in
    let got : c.get.result ≡ Some c.in_ok-row.row = search rules in
    let at : Some row ≡ slice_get rows place = ap option_copied (sym got) ∙ got_at rows place c.get.result c.get.ensures.lookup.3 in
    let past : before key (key_of row) ≡ true = sym c.is_past.ensures ∙ c.if-is_past.true in
    (λ j. if not (sym past j) then Some row else None) ∙ ap (row_here before order key_of key) at ∙ sym (own_row before order key_of key rows c.requires.rises place c.requires.place)

pub returns-else-is_past : goal.returns-else-is_past
returns-else-is_past g c =
    let before = g.R.Key.TableKey.before in
    let order = g.met.R.Key.TableKey.total in
    let key_of = g.R.OwnKey.key_of in
    let key = c.args.key.now in
    let rows = c.args.rows.now in
    let place = c.args.place in
    let row = c.in_ok-row.row.now in
    let got : c.get.result ≡ Some c.in_ok-row.row = search rules in
    let at : Some row ≡ slice_get rows place = ap option_copied (sym got) ∙ got_at rows place c.get.result c.get.ensures.lookup.3 in
    let past : before key (key_of row) ≡ false = sym c.is_past.ensures ∙ c.if-is_past.false in
    (λ j. if not (sym past j) then Some row else None) ∙ ap (row_here before order key_of key) at ∙ sym (own_row before order key_of key rows c.requires.rises place c.requires.place)

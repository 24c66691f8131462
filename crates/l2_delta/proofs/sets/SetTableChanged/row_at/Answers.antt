use Rattle.std.proofs.Common.{◌≡◌, ◌∙◌, None, Some, ap, false, not, rules, slice_get, sym, true}
use Rattle.std.specs.Prelude.{if◌then◌else◌, option_copied}
use Rattle.plane_types.specs.KeyedTables.{set_order}
use Rattle.table_edits.specs.Places.{passes}
use Rattle.table_edits.proofs.PlaceLemmas.{got_at, if_there}
use Rattle.l2_delta.specs.SetKeys.{set_key}
use Rattle.l2_delta.proofs.SetChanges.{total}
use Rattle.l2_delta.proofs.SetPlaces.{row_found}
use Rattle.l2_delta.proofs.sets.SetTableChanged.row_at.Goals as goal

pub returns-in_err-row : goal.returns-in_err-row
returns-in_err-row c =
    let self = c.args.self.now in
    let key = c.args.key.now in
    let table = self.rows.now in
    let number = set_key self.groups.now.rows in
    let found = row_found self.change.now.before.now self.change.now.host.now table self.sets self.groups.now.rows self.numbered self.own_ids key c.args.place c.requires in
    let gone : c.get.result ≡ None = search rules in
    let at : None ≡ slice_get table c.args.place = ap option_copied (sym gone) ∙ got_at table c.args.place c.get.result c.get.ensures.lookup.3 in
    let none : option_copied c.from_residual.result ≡ None = search rules in
    none ∙ ap (if_there set_order total number key (λ k. not (set_order key k))) at ∙ sym found

pub returns-then-is_row_at : goal.returns-then-is_row_at
returns-then-is_row_at c =
    let self = c.args.self.now in
    let key = c.args.key.now in
    let table = self.rows.now in
    let row = c.in_ok-row.row.now in
    let number = set_key self.groups.now.rows in
    let found = row_found self.change.now.before.now self.change.now.host.now table self.sets self.groups.now.rows self.numbered self.own_ids key c.args.place c.requires in
    let got : c.get.result ≡ Some c.in_ok-row.row = search rules in
    let at : Some row ≡ slice_get table c.args.place = ap option_copied (sym got) ∙ got_at table c.args.place c.get.result c.get.ensures.lookup.3 in
    let is : passes (λ k. not (set_order key k)) (number row) ≡ true = sym c.is_row_at.ensures ∙ c.if-is_row_at.true in
    (λ j. if sym is j then Some row else None) ∙ ap (if_there set_order total number key (λ k. not (set_order key k))) at ∙ sym found

pub returns-else-is_row_at : goal.returns-else-is_row_at
returns-else-is_row_at c =
    let self = c.args.self.now in
    let key = c.args.key.now in
    let table = self.rows.now in
    let row = c.in_ok-row.row.now in
    let number = set_key self.groups.now.rows in
    let found = row_found self.change.now.before.now self.change.now.host.now table self.sets self.groups.now.rows self.numbered self.own_ids key c.args.place c.requires in
    let got : c.get.result ≡ Some c.in_ok-row.row = search rules in
    let at : Some row ≡ slice_get table c.args.place = ap option_copied (sym got) ∙ got_at table c.args.place c.get.result c.get.ensures.lookup.3 in
    let is : passes (λ k. not (set_order key k)) (number row) ≡ false = sym c.is_row_at.ensures ∙ c.if-is_row_at.false in
    (λ j. if sym is j then Some row else None) ∙ ap (if_there set_order total number key (λ k. not (set_order key k))) at ∙ sym found

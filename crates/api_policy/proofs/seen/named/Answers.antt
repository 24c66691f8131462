use Rattle.std.proofs.Common.{◌∙◌, ap, sym, option_copied, Some, None, if◌then◌else◌}
use Rattle.api_policy.proofs.NamedLemmas.{named_at}
use Rattle.api_policy.proofs.seen.named.Goals as goal

pub returns-in_err-row : goal.returns-in_err-row
returns-in_err-row g c =
    ap option_copied c.from_residual-in_err-row.ensures
    ∙ named_at g.R.Keyed.id_of (g.R.Visible.seen c.args.rows.now c.args.caller.now) c.args.table.now c.rows-own_ids.ensures.own_ids c.args.id c.in_ok-id.field-0 c.in_ok-id.was None c.in_err-row.ensures

pub returns-then-is_seen : goal.returns-then-is_seen
returns-then-is_seen g c =
    ap (λ b. if b then Some c.in_ok-row.row.now else None) (sym c.if-is_seen.true ∙ c.is_seen.ensures)
    ∙ named_at g.R.Keyed.id_of (g.R.Visible.seen c.args.rows.now c.args.caller.now) c.args.table.now c.rows-own_ids.ensures.own_ids c.args.id c.in_ok-id.field-0 c.in_ok-id.was (Some c.in_ok-row.row.now) c.in_ok-row.ensures

pub returns-else-is_seen : goal.returns-else-is_seen
returns-else-is_seen g c =
    ap (λ b. if b then Some c.in_ok-row.row.now else None) (sym c.if-is_seen.false ∙ c.is_seen.ensures)
    ∙ named_at g.R.Keyed.id_of (g.R.Visible.seen c.args.rows.now c.args.caller.now) c.args.table.now c.rows-own_ids.ensures.own_ids c.args.id c.in_ok-id.field-0 c.in_ok-id.was (Some c.in_ok-row.row.now) c.in_ok-row.ensures

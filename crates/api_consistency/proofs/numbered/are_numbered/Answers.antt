use Rattle.std.proofs.Common.{◌≡◌, ◌≤◌, ◌∙◌, true, ap, sym}
use Rattle.std.proofs.lemmas.Result.{IfOk-weaker}
use Rattle.api_types.specs.Ident.{Ident}
use Rattle.api_types.specs.Consistent.Numbered.{AreNumbered, times_in}
use Rattle.api_consistency.specs.Keys.{are_all_drawn}
use Rattle.api_consistency.proofs.SoundLemmas.{all_drawn}
use Rattle.api_consistency.proofs.numbered.are_numbered.Goals as goal

pub returns : goal.returns
returns c =
    let rows = c.args.known.now in
    IfOk-weaker c.are_ids_once.result (λ b. b ≡ true → (i : Ident) → times_in rows i ≤ 1) (λ b. b ≡ true → AreNumbered rows)
    (λ b once h. record {
      projects = c.in_ok-are_projects.ensures c.if-not-branch.false;
      ids = once h;
      drawn = all_drawn rows (ap are_all_drawn (sym c.rows.ensures) ∙ (sym c.are_all_drawn.ensures ∙ c.if-not-are_all_drawn.false));
    }) c.are_ids_once.ensures

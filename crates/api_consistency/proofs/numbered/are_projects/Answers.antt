use Rattle.std.proofs.Common.{◌≡◌, ◌≤◌, ◌<◌, ◌^◌, ℕ, List, true, None, subst, length}
use Rattle.std.specs.Prelude.{count_by}
use Rattle.std.proofs.lemmas.Result.{IfOk-weaker}
use Rattle.api_types.specs.Registration.{is_named}
use Rattle.api_types.specs.Consistent.Numbered.{ProjectsDiffer}
use Rattle.api_types.specs.declared.project.ProjectRow.{ProjectRow}
use Rattle.api_check.specs.Broken.{first_place}
use Rattle.api_consistency.specs.Keys.{is_in_place}
use Rattle.api_consistency.proofs.SoundLemmas.{ordered, named}
use Rattle.api_consistency.proofs.numbered.are_projects.Goals as goal

pub returns : goal.returns
returns c =
    let projects = c.args.known.now.projects in
    let placed : first_place is_in_place 0 projects ≡ None = subst (λ (ps : List ProjectRow). first_place is_in_place 0 ps ≡ None) c.projects-2.ensures (c.are_placed.ensures c.if-not-are_placed.false) in
    IfOk-weaker c.are_names_once.result (λ b. b ≡ true → (name : List ℕ) → count_by (is_named name) projects ≤ 1) (λ b. b ≡ true → ProjectsDiffer projects)
    (λ b once h. record {
      ordered = ordered projects placed;
      names = once h;
      named = named projects placed;
      few = subst (λ (ps : List ProjectRow). length ps < 2 ^ 32) c.projects.ensures (c.are_few.ensures c.if-not-are_few.false);
    }) c.are_names_once.ensures

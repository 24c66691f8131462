use Rattle.std.proofs.Common.{◌∙◌, ◌++◌, ℕ, Ok, Err, Result, ap, sym}
use Rattle.std.specs.Prelude.{OnOk}
use Rattle.api_types.proofs.ListLemmas.{none_some, some_equal}
use Rattle.l3_delta.specs.WayKeys.{connected_keys}
use Rattle.l3_delta.proofs.way_keys.add_numbered.Goals as goal

on_ok : {E : Type 0} (r : Result (Unit {0}) E) (P Q : Type 0) → (P → Q) → OnOk r P → OnOk r Q
on_ok (Ok u) P Q f p = f p
on_ok (Err e) P Q f p = p

pub returns-in-Some : goal.returns-in-Some
returns-in-Some c =
    on_ok c.add_connected_of.result _ _
    (λ is k at. is ∙ ap (λ (n : ℕ). c.args.keys.now.items ++ connected_keys c.args.rows.now (n, c.args.port.now)) (some_equal c.in-Some.number k (sym c.in-Some.is ∙ c.number_of.ensures k at)))
    c.add_connected_of.ensures

pub returns-in-None : goal.returns-in-None
returns-in-None c = λ k at. none_some k _ (sym c.in-None.is ∙ c.number_of.ensures k at)

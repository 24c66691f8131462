use Rattle.std.proofs.Common.{inl, inr, refl, subst, sym}
use Rattle.std.proofs.lemmas.List.{take-append-drop}
use Rattle.std.specs.Prelude.{drop, take}
use Rattle.std.specs.Io.KnownBytes.{Appends}
use Rattle.neutron_serve.proofs.drilling.run_drill.Goals as goal

pub returns-in-Err-Failed-clause-runs : goal.returns-in-Err-Failed-clause-runs
returns-in-Err-Failed-clause-runs g c =
    let e = c.in-Err-Failed.ensures.err in
    let text = c.in-Ok.bytes.items in
    inr (text, c.in-Ok.ensures, inr (inl refl, (take e.0 text, drop e.0 text, sym (take-append-drop e.0 text), subst (λ t. Appends (g.O.Sink.told c.args.output.now).written (g.O.Sink.told c.send.new.output).written (take e.0 t)) c.as_slice.ensures.value e.2)))

pub returns-clause-runs : goal.returns-clause-runs
returns-clause-runs g c =
    let e = c.in-Err-OutOfMemory.ensures.err in
    let text = c.in-Ok.bytes.items in
    inr (text, c.in-Ok.ensures, inr (inr refl, (take e.0 text, drop e.0 text, sym (take-append-drop e.0 text), subst (λ t. Appends (g.O.Sink.told c.args.output.now).written (g.O.Sink.told c.send.new.output).written (take e.0 t)) c.as_slice.ensures.value e.2)))

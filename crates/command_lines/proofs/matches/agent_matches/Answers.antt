use Rattle.std.proofs.Common.{◌∙◌, sym, map, true, false}
use Rattle.std.specs.Borrow.{Bor}
use Rattle.clap.specs.Walk.{Text}
use Rattle.clap.specs.Simple.{app_of}
use Rattle.command_lines.specs.Commands.{agent_app}
use Rattle.command_lines.proofs.MatchLemmas.{dashes_are, dashes_refused, read_by}
use Rattle.command_lines.proofs.matches.agent_matches.Goals as goal

pub returns-then-has_dashes : goal.returns-then-has_dashes
returns-then-has_dashes c =
    let dashes = dashes_are c.args.words.now true (sym c.if-has_dashes.true ∙ c.has_dashes.ensures) in
    λ _. dashes_refused agent_app (map (λ (w : Bor Text). w.now) c.args.words.now) dashes

pub returns : goal.returns
returns c =
    let dashes = dashes_are c.args.words.now false (sym c.if-has_dashes.false ∙ c.has_dashes.ensures) in
    read_by (app_of c.in_ok-command.command) agent_app (map (λ (w : Bor Text). w.now) c.args.words.now) c.matches.result c.in_ok-command.ensures dashes c.matches.ensures

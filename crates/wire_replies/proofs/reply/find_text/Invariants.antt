use Rattle.std.proofs.Common.{◌≡◌, drop}
use Rattle.std.specs.Prelude.{map}
use Rattle.std.specs.List.{find}
use Rattle.wire_replies.specs.Readings.{is_text}
use Rattle.wire_replies.proofs.reply.find_text.Given as goal

abbrev pub invariant-loop-text : goal.invariant-loop-text
invariant-loop-text l = find (is_text l.value) (map (λ s. s.now) (drop l.text-index l.texts)) ≡ find (is_text l.value) (map (λ s. s.now) l.texts)

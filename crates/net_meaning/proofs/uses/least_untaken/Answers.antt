use Rattle.std.proofs.Common.{◌≡◌, ◌∙◌, ◌+◌, ◌-◌, ◌<◌, ℕ, Bool, false, ap, sym, map, arith, get_or}
use Rattle.std.specs.Prelude.{◌||◌, replicate}
use Rattle.std.proofs.lemmas.List.{get_or-replicate}
use Rattle.plane_types.specs.Routing.{least_untaken}
use Rattle.plane_types.specs.Parts.{use_of}
use Rattle.plane_types.proofs.UseLemmas.{untaken_found, untaken_none, untaken_past}
use Rattle.net_meaning.proofs.uses.least_untaken.Goals as goal

-- where no port was marked before, a mark is what was added
new_mark : (many port : ℕ) (mark taken : Bool) → port < many → mark ≡ (get_or (replicate many false) port false || taken) → mark ≡ taken
new_mark many port mark taken below is = is ∙ ap (λ b. b || taken) (get_or-replicate many port false false below)

pub returns-then-not-marks-port : goal.returns-then-not-marks-port
returns-then-not-marks-port c =
    let below : 1024 + c.loop-place.place < 65536 = omega arith in
    sym (untaken_found (map use_of c.args.uses.now) c.args.key.now 64512 c.loop-place.place 1024 c.loop-place-test.true (sym (new_mark 65536 (1024 + c.loop-place.place) _ _ below (c.mark.ensures (1024 + c.loop-place.place) below)) ∙ c.if-not-marks-port.true)) ∙ c.loop-place.invariant

pub loop-place-preserved : goal.loop-place-preserved
loop-place-preserved c =
    let below : 1024 + c.loop-place.place < 65536 = omega arith in
    sym (untaken_past (map use_of c.args.uses.now) c.args.key.now 64512 c.loop-place.place 1024 c.loop-place-test.true (sym (new_mark 65536 (1024 + c.loop-place.place) _ _ below (c.mark.ensures (1024 + c.loop-place.place) below)) ∙ c.if-not-marks-port.false)) ∙ c.loop-place.invariant

pub returns : goal.returns
returns c =
    let none_left : 64512 - c.loop-place.place ≡ 0 = omega arith in
    sym (ap (λ n. least_untaken (map use_of c.args.uses.now) c.args.key.now n (1024 + c.loop-place.place)) none_left ∙ untaken_none (map use_of c.args.uses.now) c.args.key.now (1024 + c.loop-place.place)) ∙ c.loop-place.invariant

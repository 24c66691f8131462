-- What a world has at each moment comes of the changes that it accepted, and of nothing else.
use Rattle.std.proofs.Common.{inl, ◌≡◌, ℕ, List, [], ◌∷◌, ◌++◌, Bool, Option, None, Some, refl, ap, ◌∙◌}
use Rattle.api_types.specs.RowLists.{RowLists}
use Rattle.api_types.specs.declared.change.Item.{Item}
use Rattle.net_settings.specs.Settings.{SettingsParts}
use Rattle.bus_core.specs.History.{change_at}
use Rattle.plane_types.specs.Node.{after_change}
use Rattle.world_laws.specs.Steps.{Accept, Deliver, Forget, MayRun, Resync, Restart, Send, Settle, Step, at_host, deliver_kept, run, step}
use Rattle.world_laws.specs.World.{AreSound, World, first_world}
use Rattle.wire_types.specs.Changes.{AreAccepted, accepted_all}
use Rattle.wire_laws.specs.Moments.{changes_in}
use Rattle.wire_types.specs.Replies.{IsReplyOf, reply_with}
use Rattle.wire_types.specs.declared.ask.WireAsk.{WireAsk}

delivered_history : (w : World) (name : List ℕ) (n : ℕ) (o : Option (List Item)) → (deliver_kept w name n o).history ≡ w.history
delivered_history w name n None = refl
delivered_history w name n (Some c) = refl

pub run_history : (ss : List Step) (w : World) → (run w ss).history ≡ accepted_all w.history (changes_in ss)
unfolding run changes_in accepted_all
run_history [] w = refl
run_history (Accept c ∷ ss) w = run_history ss (step w (Accept c))
run_history (Deliver name n ∷ ss) w = run_history ss (step w (Deliver name n)) ∙ ap (λ h. accepted_all h (changes_in ss)) (delivered_history w name n (change_at w.history n))
run_history (Resync name ∷ ss) w = run_history ss (step w (Resync name))
run_history (Restart name ∷ ss) w = run_history ss (step w (Restart name))
run_history (Forget name ∷ ss) w = run_history ss (step w (Forget name))
run_history (Settle ∷ ss) w = run_history ss (step w Settle)
run_history (Send event ∷ ss) w = run_history ss (step w (Send event))

delivered_accepted : (w : World) (name : List ℕ) (n : ℕ) (ss : List Step) → ((w : World) → MayRun w ss → AreAccepted (AreSound w.settings) w.history.rows (changes_in ss)) → (o : Option (List Item))
    → MayRun (deliver_kept w name n o) ss → AreAccepted (AreSound w.settings) w.history.rows (changes_in ss)
delivered_accepted w name n ss rec None may = rec w may
delivered_accepted w name n ss rec (Some c) may = rec (record w { agents = at_host name (after_change n c) w.agents }) may

pub run_accepted : (ss : List Step) (w : World) → MayRun w ss → AreAccepted (AreSound w.settings) w.history.rows (changes_in ss)
unfolding MayRun changes_in AreAccepted
run_accepted [] w may = tt
run_accepted (Accept c ∷ ss) w may = (may.0.0, may.0.1, run_accepted ss (step w (Accept c)) may.1)
run_accepted (Deliver name n ∷ ss) w may = delivered_accepted w name n ss (run_accepted ss) (change_at w.history n) may.1
run_accepted (Resync name ∷ ss) w may = run_accepted ss (step w (Resync name)) may.1
run_accepted (Restart name ∷ ss) w may = run_accepted ss (step w (Restart name)) may.1
run_accepted (Forget name ∷ ss) w may = run_accepted ss (step w (Forget name)) may.1
run_accepted (Settle ∷ ss) w may = run_accepted ss (step w Settle) may.1
run_accepted (Send event ∷ ss) w may = run_accepted ss (step w (Send event)) may.1

both_changes : (xs ys : List Step) → changes_in (xs ++ ys) ≡ changes_in xs ++ changes_in ys
unfolding changes_in
both_changes [] ys = refl
both_changes (Accept c ∷ xs) ys = ap (λ l. c ∷ l) (both_changes xs ys)
both_changes (Deliver name n ∷ xs) ys = both_changes xs ys
both_changes (Resync name ∷ xs) ys = both_changes xs ys
both_changes (Restart name ∷ xs) ys = both_changes xs ys
both_changes (Forget name ∷ xs) ys = both_changes xs ys
both_changes (Settle ∷ xs) ys = both_changes xs ys
both_changes (Send event ∷ xs) ys = both_changes xs ys

pub moment_reply : (settings : SettingsParts) (manual : Bool) (rows : RowLists) (before after : List Step) (question : WireAsk) → IsReplyOf rows (changes_in (before ++ after)) (reply_with (run (first_world settings manual rows) before).history question)
moment_reply settings manual rows before after question = record {
  earlier = changes_in before;
  later = changes_in after;
  moment = both_changes before after;
  question = question;
  given = inl (ap (λ h. reply_with h question) (run_history before (first_world settings manual rows)));
}

pub opened_accepted : (settings : SettingsParts) (manual : Bool) (rows : RowLists) (steps : List Step) → MayRun (first_world settings manual rows) steps → AreAccepted (AreSound settings) rows (changes_in steps)
opened_accepted settings manual rows steps may = run_accepted steps (first_world settings manual rows) may

-- Where turns lead, and where they end.
use Rattle.std.proofs.Common.{◌≡◌, ◌∙◌, ℕ, zero, suc, ◌≤◌, List, [], ◌++◌, length, true, false, Option, Some, None, refl, ap, sym, arith}
use Rattle.std.specs.Prelude.{find, if◌then◌else◌, is_some, slice_get}
use Rattle.api_types.specs.Ident.{Ident}
use Rattle.plane_laws.proofs.BoundsTables.{bounded-by_tables}
use Rattle.plane_laws.specs.Bounds.{HasEightBits}
use Rattle.plane_types.specs.Fabric.{FabricFate, Going, Run, after_step, run_from, fabric_fate, fate_of_run, from_outside, from_tap, next_position, outside, steps_for, takes, walk}
use Rattle.plane_types.specs.Hosts.{Host}
use Rattle.plane_types.specs.Meaning.{life_of}
use Rattle.plane_types.specs.Packets.{is_unsupported}
use Rattle.plane_types.specs.Places.{End, Next, Place, Step, TapIn, ToTunnel, ToWire, WireIn}
use Rattle.plane_types.specs.TableStep.{table_step, tap_at}
use Rattle.plane_types.specs.declared.event.Event.{Event}
use Rattle.plane_types.specs.declared.event.Event.TheVariants.{FromPort, FromWire}
use Rattle.plane_types.specs.declared.frame.Frame.{Frame}
use Rattle.plane_types.specs.declared.verdict.DropCause.{DropCause}
use Rattle.plane_types.specs.declared.verdict.DropCause.TheVariants.{Unsupported}
use Rattle.plane_types.specs.declared.verdict.Outcome.TheVariants.{Dropped}
use Rattle.fabric_run.proofs.TellsLemmas.{told_long}
use Rattle.fabric_run.proofs.WalkLemmas.{walk_done, walk_grows, walk_more}
use Rattle.fabric_run.specs.Views.{ended_with, gone_to, step_fate, looks_of, path_from}

-- the time to live has eight bits, where there are so few look-ups
eight_bits : (e : Event) → looks_of e ≤ 772 → HasEightBits e
unfolding steps_for
eight_bits (FromPort port frame) h = omega (arith, h)
eight_bits (FromWire physical tag frame) h = omega (arith, h)

module _ (hosts : List Host) where
  -- one look-up of a walk
  pub step_to : (many at : ℕ) (s : Step) (place : Place) (h : Host) (r : Run) → s ≡ Next place → slice_get hosts at ≡ Some h → step_fate hosts (walk hosts (suc many)) at r s ≡ next_position hosts (walk hosts many) h (after_step h place (table_step h.tables (h.entries ++ r.fresh) place) r) (table_step h.tables (h.entries ++ r.fresh) place).step
  step_to many at s place h r is here =
      ap (step_fate hosts (walk hosts (suc many)) at r) is ∙ ap (gone_to (walk hosts (suc many)) place r) here ∙ walk_more hosts many h place r

  -- none is left
  pub stands : (at : ℕ) (s : Step) (r : Run) → step_fate hosts (walk hosts zero) at r s ≡ fate_of_run r (ended_with s)
  stands at (Next place) r = go (slice_get hosts at)
    where
      go : (o : Option Host) → gone_to (walk hosts zero) place r o ≡ fate_of_run r (ended_with (Next place))
      go None = refl
      go (Some h) = walk_done hosts h place r
  stands at (End o way) r = refl
  stands at (ToTunnel name number frame) r = refl
  stands at (ToWire w n toward frame) r = refl

  -- entries are only added
  pub led_grows : (many at : ℕ) (s : Step) (r : Run) → length r.fresh ≤ length (step_fate hosts (walk hosts many) at r s).run.fresh
  led_grows many at (Next place) r = go (slice_get hosts at)
    where
      go : (o : Option Host) → length r.fresh ≤ length (gone_to (walk hosts many) place r o).run.fresh
      go None = omega arith
      go (Some h) = walk_grows hosts many h place r
  led_grows many at (End o way) r = omega arith
  led_grows many at (ToTunnel name number frame) r = omega arith
  led_grows many at (ToWire w n toward frame) r = omega arith

  -- what is dropped at once
  pub dropped_at : (on : Going) (at : ℕ) (s : Step) (c : DropCause) → s ≡ End (Dropped c) None → step_fate hosts on at (run_from (path_from s (slice_get hosts at))) s ≡ fate_of_run (run_from []) (Dropped c)
  dropped_at on at s c is = ap (λ x. step_fate hosts on at (run_from (path_from x (slice_get hosts at))) x) is

  -- an event begins
  pub began_at_tap : (port : Ident) (frame : Frame) (at : ℕ) (h : Host) → slice_get hosts at ≡ Some h → slice_get hosts at ≡ find (λ (x : Host). is_some (tap_at x.tables port)) hosts
      → gone_to (walk hosts (suc (steps_for (life_of frame)))) (TapIn port frame) (run_from (path_from (Next (TapIn port frame)) (slice_get hosts at))) (slice_get hosts at) ≡ fabric_fate hosts (FromPort port frame)
  unfolding fabric_fate
  began_at_tap port frame at h here found =
      ap (λ o. gone_to (walk hosts (suc (steps_for (life_of frame)))) (TapIn port frame) (run_from (path_from (Next (TapIn port frame)) o)) o) here ∙ sym (ap (from_tap hosts port frame) (sym found ∙ here))

  pub no_tap : (port : Ident) (frame : Frame) (v : FabricFate) → v ≡ from_tap hosts port frame None → find (λ (x : Host). is_some (tap_at x.tables port)) hosts ≡ None → v ≡ fabric_fate hosts (FromPort port frame)
  unfolding fabric_fate
  no_tap port frame v is none = is ∙ sym (ap (from_tap hosts port frame) none)

  pub began_outside : (physical : List ℕ) (tag : Option ℕ) (frame : Frame) (at : ℕ) (h : Host) → is_unsupported frame ≡ false → slice_get hosts at ≡ Some h → slice_get hosts at ≡ find (takes (record { physical = physical; tag = tag }) frame) hosts
      → gone_to (walk hosts (steps_for (life_of frame))) (WireIn (record { physical = physical; tag = tag }) frame) (run_from (path_from (Next (WireIn (record { physical = physical; tag = tag }) frame)) (slice_get hosts at))) (slice_get hosts at) ≡ fabric_fate hosts (FromWire physical tag frame)
  unfolding fabric_fate
  began_outside physical tag frame at h supported here found =
      ap (λ o. gone_to (walk hosts (steps_for (life_of frame))) (WireIn (record { physical = physical; tag = tag }) frame) (run_from (path_from (Next (WireIn (record { physical = physical; tag = tag }) frame)) o)) o) here
      ∙ sym (ap (λ b. if b then fate_of_run (run_from []) (Dropped Unsupported) else outside hosts (record { physical = physical; tag = tag }) frame) supported ∙ ap (from_outside hosts (record { physical = physical; tag = tag }) frame) (sym found ∙ here))

  pub not_taken : (physical : List ℕ) (tag : Option ℕ) (frame : Frame) (v : FabricFate) → is_unsupported frame ≡ false → v ≡ from_outside hosts (record { physical = physical; tag = tag }) frame None → find (takes (record { physical = physical; tag = tag }) frame) hosts ≡ None → v ≡ fabric_fate hosts (FromWire physical tag frame)
  unfolding fabric_fate
  not_taken physical tag frame v supported is none =
      is ∙ sym (ap (λ b. if b then fate_of_run (run_from []) (Dropped Unsupported) else outside hosts (record { physical = physical; tag = tag }) frame) supported ∙ ap (from_outside hosts (record { physical = physical; tag = tag }) frame) none)

  pub unsupported : (physical : List ℕ) (tag : Option ℕ) (frame : Frame) (v : FabricFate) → is_unsupported frame ≡ true → v ≡ fate_of_run (run_from []) (Dropped Unsupported) → v ≡ fabric_fate hosts (FromWire physical tag frame)
  unfolding fabric_fate
  unsupported physical tag frame v is v_is =
      v_is ∙ sym (ap (λ b. if b then fate_of_run (run_from []) (Dropped Unsupported) else outside hosts (record { physical = physical; tag = tag }) frame) is)

  -- at most 256 entries are made
  pub few_made : (event : Event) → looks_of event ≤ 772 → length (fabric_fate hosts event).run.fresh ≤ 256
  few_made event few = omega (arith, (bounded-by_tables hosts event (eight_bits event few)).fresh, told_long hosts (fabric_fate hosts event).run.fresh (fabric_fate hosts event).run.makers)

-- A walk look-up by look-up.
use Rattle.std.proofs.Common.{◌≡◌, ◌∙◌, ℕ, zero, suc, ◌+◌, ◌-◌, ◌<◌, ◌≤◌, List, ◌++◌, length, Option, Some, None, refl, ap, sym, arith}
use Rattle.std.specs.Prelude.{◌&&◌, find, not}
use Rattle.std.specs.Str.{bytes_eq}
use Rattle.std.proofs.lemmas.List.{length-append}
use Rattle.api_types.specs.Ident.{Ident}
use Rattle.plane_types.specs.Fabric.{Going, Run, after_step, fate_of_run, next_position, fate_after, takes, over_tunnel, walk, over_wire}
use Rattle.plane_types.specs.Hosts.{Host, is_named}
use Rattle.plane_types.specs.Places.{End, Next, Place, Step, ToTunnel, ToWire, TunnelIn, WireIn}
use Rattle.plane_types.specs.TableStep.{Stepped, table_step}
use Rattle.plane_types.specs.declared.frame.Frame.{Frame}
use Rattle.api_types.specs.declared.wire.Wire.{Wire}
use Rattle.plane_types.specs.declared.verdict.DropCause.TheVariants.{Unknown}
use Rattle.plane_types.specs.declared.verdict.Outcome.TheVariants.{Dropped}
use Rattle.plane_types.specs.declared.verdict.Toward.{Toward}
use Rattle.fabric_run.specs.Views.{gone_to}

module _ (hosts : List Host) where
  pub walk_more : (many : ℕ) (h : Host) (place : Place) (r : Run) → walk hosts (suc many) h place r ≡ fate_after hosts (walk hosts many) h place r (table_step h.tables (h.entries ++ r.fresh) place)
  unfolding walk
  walk_more many h place r = refl

  pub walk_done : (h : Host) (place : Place) (r : Run) → walk hosts zero h place r ≡ fate_of_run r (Dropped Unknown)
  unfolding walk
  walk_done h place r = refl

  -- one look-up of those that are left
  pub walk_on : (many i : ℕ) (h : Host) (place : Place) (r : Run) → i < many → walk hosts (many - i) h place r ≡ fate_after hosts (walk hosts (many - (i + 1))) h place r (table_step h.tables (h.entries ++ r.fresh) place)
  walk_on many i h place r below =
      let left : many - i ≡ suc (many - (i + 1)) = omega arith in
      ap (λ n. walk hosts n h place r) left ∙ walk_more (many - (i + 1)) h place r

  -- none is left
  pub walk_over : (many i : ℕ) (h : Host) (place : Place) (r : Run) → many ≤ i → walk hosts (many - i) h place r ≡ fate_of_run r (Dropped Unknown)
  walk_over many i h place r over =
      let left : many - i ≡ zero = omega arith in
      ap (λ n. walk hosts n h place r) left ∙ walk_done h place r

  -- entries are only added
  pub walk_grows : (many : ℕ) (h : Host) (place : Place) (r : Run) → length r.fresh ≤ length (walk hosts many h place r).run.fresh
  unfolding walk
  walk_grows zero h place r = omega arith
  walk_grows (suc many) h place r = go (table_step h.tables (h.entries ++ r.fresh) place) (walk_grows many)
    where
      go : (s : Stepped) → ((x : Host) (p : Place) (q : Run) → length q.fresh ≤ length (walk hosts many x p q).run.fresh) → length r.fresh ≤ length (fate_after hosts (walk hosts many) h place r s).run.fresh
      go s rest = by s.step
        where
          more : length r.fresh ≤ length (after_step h place s r).fresh
          more = omega (arith, length-append r.fresh s.made)

          on : (x : Host) (p : Place) → length r.fresh ≤ length (walk hosts many x p (after_step h place s r)).run.fresh
          on x p = omega (arith, more, rest x p (after_step h place s r))

          tunnel : (n : ℕ) (f : Frame) (o : Option Host) → length r.fresh ≤ length (over_tunnel (walk hosts many) n f (after_step h place s r) o).run.fresh
          tunnel n f None = more
          tunnel n f (Some x) = on x (TunnelIn n f)

          wire : (w : Wire) (n : Ident) (t : Toward) (f : Frame) (o : Option Host) → length r.fresh ≤ length (over_wire (walk hosts many) w n t f (after_step h place s r) o).run.fresh
          wire w n t f None = more
          wire w n t f (Some x) = on x (WireIn w f)

          by : (step : Step) → length r.fresh ≤ length (next_position hosts (walk hosts many) h (after_step h place s r) step).run.fresh
          by (Next p) = on h p
          by (End o way) = more
          by (ToTunnel name n f) = tunnel n f (find (is_named name) hosts)
          by (ToWire w n t f) = wire w n t f (find (λ (x : Host). not (bytes_eq x.name h.name) && takes w f x) hosts)

-- by a tunnel or a wire to the host that was found
pub tunnelled_to : (on : Going) (number : ℕ) (frame : Frame) (r : Run) (o : Option Host) → gone_to on (TunnelIn number frame) r o ≡ over_tunnel on number frame r o
tunnelled_to on number frame r None = refl
tunnelled_to on number frame r (Some h) = refl

pub wired_to : (on : Going) (w : Wire) (n : Ident) (toward : Toward) (frame : Frame) (r : Run) (o : Option Host) (h : Host) → o ≡ Some h → gone_to on (WireIn w frame) r o ≡ over_wire on w n toward frame r o
wired_to on w n toward frame r o h is = ap (gone_to on (WireIn w frame) r) is ∙ sym (ap (over_wire on w n toward frame r) is)

use Rattle.std.proofs.Common.{◌≡◌, ◌++◌, ◌-◌}
use Rattle.drill_gen.specs.Stream.{frame_requests}
use Rattle.drill_gen.proofs.stream.add_frames.Given as goal

-- what is there and the frames that are left are all
abbrev pub invariant-loop-frame : goal.invariant-loop-frame
invariant-loop-frame l =
    l.bytes.items ++ frame_requests l.ports (l.size - l._frame) l.state ≡ l.fn.bytes.items ++ frame_requests l.ports l.size l.start

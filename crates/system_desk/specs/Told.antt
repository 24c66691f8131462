-- What ends and stores of the system tell: how the last read ended, how often calls failed, and the
-- rows that are stored in memory.
use Rattle.std.specs.Prelude.{Some, None}
use Rattle.keeper_core.specs.Ends.{SinkTold, SourceTold}
use Rattle.keeper_core.specs.Kept.{KeeperTold, sure_rows}
use Rattle.system_desk.specs.declared.ends.SystemSource.{SystemSource}
use Rattle.system_desk.specs.declared.ends.SystemSource.TheVariants as source
use Rattle.system_desk.specs.declared.ends.SystemSink.{SystemSink}
use Rattle.system_desk.specs.declared.ends.SystemSink.TheVariants as sink
use Rattle.system_desk.specs.declared.store.SystemStore.{SystemStore}
use Rattle.system_desk.specs.declared.store.SystemStore.TheVariants.{Memory, File}

abbrev pub source_told : SystemSource → SourceTold
source_told (source.Input s) = record { left = None; last = s.last; faults = s.faults }
source_told (source.Peer p) =
    record { left = None; last = p.source.last; faults = p.source.faults }

abbrev pub sink_told : SystemSink → SinkTold
sink_told (sink.Output s) = record { written = None; flushed = None; faults = s.faults }
sink_told (sink.Peer s) = record { written = None; flushed = None; faults = s.faults }

-- rows in memory are told, and those in a file aren't
abbrev pub store_told : SystemStore → KeeperTold
store_told (Memory k) = sure_rows k
store_told (File k) = record { rows = None; faults = k.faults }

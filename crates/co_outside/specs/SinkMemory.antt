-- What a sink in memory holds.
use Rattle.std.specs.Prelude.{ℕ, List}
use Rattle.co_outside.specs.declared.sink_memory.SinkMemory.{SinkMemory}

-- the bytes that it took
abbrev pub memory_held : SinkMemory → List ℕ
memory_held sink = sink.bytes.items

-- how many calls there are until each one that is to fail, itself included
abbrev pub puts_to_fail : SinkMemory → List ℕ
puts_to_fail sink = sink.fail.items

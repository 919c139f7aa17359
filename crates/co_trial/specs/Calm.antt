-- What contracts see of a directory at which no call fails.
use Rattle.std.specs.Prelude.{[], length, Some}
use Rattle.co_outside.specs.declared.home_memory.HomeMemory.{HomeMemory}
use Rattle.co_outside.specs.Home.{HomeView}
use Rattle.co_outside.specs.HomeMemory.{memory_file, memory_bytes, memory_entered}

-- the files and the directory are those of the memory; no call failed, and none is to fail
abbrev pub calm_seen : HomeMemory → HomeView
calm_seen memory =
    record {
      file = memory_file memory;
      reach = λ spot. length (memory_bytes memory spot);
      entered = memory_entered memory;
      last_failed = record { node = 1; part = 0 };
      faults = 0;
      due = Some [];
    }

-- What a source in memory has left, and what it gave.
use Rattle.std.specs.Prelude.{ℕ, List, take, drop}
use Rattle.co_outside.specs.declared.source_memory.SourceMemory.{SourceMemory}

-- the bytes that are left
abbrev pub memory_left : SourceMemory → List ℕ
memory_left source = drop source.at source.bytes.items

-- the bytes that it gave
abbrev pub memory_gave : SourceMemory → List ℕ
memory_gave source = take source.at source.bytes.items

-- how many calls there are until each one that is to fail, itself included
abbrev pub calls_to_fail : SourceMemory → List ℕ
calls_to_fail source = source.fail.items

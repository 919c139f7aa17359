-- The bytes up to the index are noted behind those before.
use Rattle.std.proofs.Common.{◌≡◌, ◌++◌, take}
use Rattle.co_trace.specs.Past.{in_order}
use Rattle.co_trace.proofs.text.Text.note.Given as goal

abbrev pub invariant-loop-byte : goal.invariant-loop-byte
invariant-loop-byte l = in_order l.self-inside.bytes ≡ in_order l.initial.self-inside.bytes ++ take l.byte-index l.bytes

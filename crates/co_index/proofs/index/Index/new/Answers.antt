use Rattle.std.proofs.Common.{◌≡◌}
use Rattle.co_index.specs.Touching.{no_index}
use Rattle.co_index.specs.declared.index.Index.{Index}
use Rattle.co_index.proofs.Indexing.{index_none}
use Rattle.co_index.proofs.index.Index.new.Goals as goal

pub returns : goal.returns
returns c = λ b absent.
    let x : Index = record { writers = c.new.result; readers = c.new-2.result; scanners = c.new-3.result } in
    let none : x ≡ no_index = λ i. record { writers = c.new.ensures i; readers = c.new-2.ensures i; scanners = c.new-3.ensures i } in
    index_none b x absent none

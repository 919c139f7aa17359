use Rattle.std.proofs.Common.{◌+◌, ◌∙◌, ◌<◌, sym, ap, length, List, ℕ, arith, take}
use Rattle.co_base.specs.Limits.{most_log_bytes}
use Rattle.co_disk.proofs.Writes.{whole_front, nothing_undone}
use Rattle.co_disk.proofs.disk.Disk.read_file.Goals as goal

pub returns-clause-agrees : goal.returns-clause-agrees
returns-clause-agrees g c =
    let bytes = c.in_ok-bytes.bytes.items in
    let none = nothing_undone bytes c.new.result.items c.new.ensures.items in
    record {
      told = λ f told.
          let gives = g.met.H.Home.told_gives c.args.home.now c.args.spot (most_log_bytes + 1) bytes f (sym c.read_all.ensures.file ∙ told) c.in_ok-bytes.ensures.bytes in
          let few : length (take (most_log_bytes + 1) f.bytes) < (most_log_bytes + 1) = omega (arith, ap length gives, c.if-len.false, c.len.ensures, c.in_ok-bytes.bytes.ok) in
          sym (none ∙ gives ∙ whole_front (most_log_bytes + 1) f.bytes few);
      room = omega (arith, ap (λ (l : List ℕ). length l) none, c.in_ok-bytes.ensures.reached, c.read_all.ensures.reach);
    }

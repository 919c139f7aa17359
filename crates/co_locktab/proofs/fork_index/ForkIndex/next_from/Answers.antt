use Rattle.std.proofs.Common.{◌≡◌, false, rules}
use Rattle.std.specs.Ordering.{is_lt}
use Rattle.co_locktab.specs.Places.{fork_cmp}
use Rattle.co_locktab.proofs.Behind.{still_first}
use Rattle.co_locktab.proofs.fork_index.ForkIndex.next_from.Goals as goal

pub returns : goal.returns
returns c = λ earlier later is.
    let from : is_lt (fork_cmp c.args.known c.args.fork.now) ≡ false = search rules in
    still_first c.args.self.now.lower earlier c.args.fork.now later c.args.known from is

use Rattle.std.proofs.Common.{ℕ, not, sym, ap, ◌∙◌}
use Rattle.std.specs.Prelude.{◌==◌}
use Rattle.co_index.specs.Holding.{first_other}
use Rattle.co_index.specs.Touching.{or_nobody}
use Rattle.co_index.proofs.Walking.{none_there}
use Rattle.co_index.proofs.index.Index.first_reader.Goals as goal

pub returns-in-None : goal.returns-in-None
returns-in-None c = sym (none_there (λ (u : ℕ) (mark : Unit {0}). not (u == c.args.t))) ∙ ap (λ o. first_other c.args.t (or_nobody o)) c.in-None.ensures

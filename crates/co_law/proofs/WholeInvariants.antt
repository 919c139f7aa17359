-- The invariants whole, of every run.
use Rattle.std.proofs.Common.{ℕ, ◌≤◌, List, length, reverse, ap, ◌∙◌}
use Rattle.co_base.specs.declared.head.Kind.{Kind}
use Rattle.co_plain.specs.declared.happening.Happening.{Happening}
use Rattle.co_plain.specs.Opening.{Found, opened}
use Rattle.co_plain.specs.CoordView.{first_refused_at_coord}
use Rattle.co_plain.specs.Runs.{run}
use Rattle.co_plain.specs.Premises.{AreTrueVerdicts, AreOwn, MayBeOpened}
use Rattle.co_law.specs.WholeInvariants.{AreKeptWhole}
use Rattle.co_law_moves.proofs.Growing.{run_grows}
use Rattle.co_law.proofs.EveryHome.{every_home}
use Rattle.co_law.proofs.EveryInvariant.{every_invariant}
use Rattle.co_law.proofs.NamedOnes.{asked_named}
use Rattle.co_law.proofs.WholeRuns.{are_whole}

pub every_whole : (kinds : List Kind) (coords : ℕ) (fm fc : ℕ → Found) (hs : List Happening) → 1 ≤ coords → MayBeOpened kinds coords fm fc →
    AreTrueVerdicts hs (opened kinds coords fm fc) → AreOwn (length kinds) coords hs →
    AreKeptWhole kinds coords (run hs (opened kinds coords fm fc))
every_whole kinds coords fm fc hs some g v names =
    let grows = run_grows hs (opened kinds coords fm fc) in
    record {
      invariants = every_invariant kinds coords fm fc hs g.openable v;
      named =
          asked_named (length kinds) (run hs (opened kinds coords fm fc)) (every_invariant kinds coords fm fc hs g.openable v)
          (λ c. ap (λ logs. first_refused_at_coord (length kinds) (reverse (logs c))) grows.coords ∙ g.coords_allowed c);
      homes = every_home kinds coords fm fc hs g.openable v;
      nodes = are_whole kinds coords fm fc hs some g.own.own g.members_allowed g.coords_allowed names;
    }

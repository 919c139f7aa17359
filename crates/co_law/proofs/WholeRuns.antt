-- Every state of a run has whole nodes, over any opened logs that their grammars allow, and whatever verdicts are handed.
use Rattle.std.proofs.Common.{◌≡◌, ℕ, true, ◌≤◌, List, length, reverse, Option, None, Some, refl, sym, ◌∙◌, arith}
use Rattle.co_base.specs.declared.head.Kind.{Kind}
use Rattle.co_base.specs.Limits.{most_operations}
use Rattle.co_plain.specs.declared.happening.Happening.{Happening}
use Rattle.co_plain.specs.declared.session.Session.{Session}
use Rattle.co_plain.specs.Decisions.{told_in}
use Rattle.co_plain.specs.Sessions.{count_at}
use Rattle.co_plain.specs.MemberView.{first_refused_at_member}
use Rattle.co_plain.specs.CoordView.{all_up_to, first_refused_at_coord}
use Rattle.co_plain.specs.CoordStep.{members_of}
use Rattle.co_plain.specs.Federation.{Federation}
use Rattle.co_plain.specs.Opening.{Found, OnlyOwnLogs, opened}
use Rattle.co_plain.specs.Runs.{run}
use Rattle.co_plain.specs.Step.{step}
use Rattle.co_state.specs.Table.{look}
use Rattle.co_law_base.proofs.Lookups.{is_nothing, look_none}
use Rattle.co_law_moves.proofs.Own.{OwnFacts}
use Rattle.co_law_moves.proofs.OwnRuns.{own_step, own_run}
use Rattle.co_plain.specs.Premises.{IsOwn, AreOwn}
use Rattle.co_law_runs.proofs.Fitting.{FitSessions, step_fits, run_fits}
use Rattle.co_law_node.specs.WholeNodes.{AreWhole}
use Rattle.co_law_node.proofs.MemberLaws.{as_told, as_kept, keeps_whole}
use Rattle.co_law_node.proofs.CoordLaws.{coord_as_told, coord_as_kept, coord_keeps_whole, coord_stays_as}
use Rattle.co_law_node.proofs.WholeMoves.{Whole}
use Rattle.co_law_node.proofs.MemberEvents.{whole_opened}
use Rattle.co_law_node.proofs.WholeTables.{WholeTable}
use Rattle.co_law_node.proofs.CoordEvents.{whole_coord_opened}
use Rattle.co_law.proofs.NodeRuns.{HaveNodes, MayName, KeepAlways, asks_own, visit_acts, end_acts, acts_nowhere, step_nodes, run_nodes}
use Rattle.co_law.proofs.OwnStart.{start_own}

-- whole nodes of a federation with so many members and coordinators
abbrev pub WholeNodes : ℕ → ℕ → Federation → Type 0
WholeNodes n k z = HaveNodes (λ m x. Whole k x) (λ c y. WholeTable n y) z

always_whole : (n k : ℕ) → KeepAlways n k (λ m x. Whole k x) (λ c y. WholeTable n y)
always_whole n k =
    record {
      member = λ m x w. keeps_whole k m x w;
      coord = λ c y w.
          coord_stays_as c y (WholeTable n) (WholeTable n) (λ parts. all_up_to n (members_of parts) ≡ true) (MayName n) (λ z v. v) (λ parts named. named.0) (coord_keeps_whole n c y w);
      ends = λ c y w. w.ends;
    }

nodes_whole : (kinds : List Kind) (coords : ℕ) (fm fc : ℕ → Found) → 1 ≤ coords → OnlyOwnLogs kinds coords fm fc →
    ((m : ℕ) → first_refused_at_member coords (reverse (fm m).records) ≡ None) → ((c : ℕ) → first_refused_at_coord (length kinds) (reverse (fc c).records) ≡ None) →
    (hs : List Happening) → AreOwn (length kinds) coords hs → WholeNodes (length kinds) coords (run hs (opened kinds coords fm fc))
nodes_whole kinds coords fm fc some own members_allowed coords_allowed hs are_own =
    run_nodes (length kinds) coords some (λ m x. Whole coords x) (λ c y. WholeTable (length kinds) y) (always_whole (length kinds) coords) hs (opened kinds coords fm fc) (start_own kinds coords fm fc own members_allowed)
    (λ t session e. is_nothing (sym (look_none t) ∙ e))
    (record {
      members = λ m. whole_opened coords kinds m (fm m) (members_allowed m);
      coords = λ c. whole_coord_opened (length kinds) c (fc c) (coords_allowed c);
    })
    are_own

-- whole nodes, told with what may still act
told_whole : (n k : ℕ) → 1 ≤ k → (s : Federation) → OwnFacts s → FitSessions n k s.sessions → WholeNodes n k s → AreWhole n k s
told_whole n k some s kept fits nodes =
    record {
      member = λ m. as_told k _ (nodes.members m);
      coord = λ c. coord_as_told n _ (nodes.coords c);
      visited = λ t m session e. acts_nowhere s kept t m session (visit_acts (look s.sessions t) m session e);
      ended = λ t m session e. acts_nowhere s kept t m session (end_acts (look s.sessions t) session e);
      few = λ t m. few t m (look s.sessions t) refl;
      sessions = fits;
      prepares = λ t c m count sent. (
        asks_own n k some (λ m x. Whole k x) (λ c y. WholeTable n y) (always_whole n k) s kept fits nodes t c m count sent,
        (kept.sent.prepares t c m count sent).2,
      );
    }
  where
    few : (t m : ℕ) (o : Option Session) → look s.sessions t ≡ o → count_at (told_in o) m ≤ most_operations
    few t m None e = omega arith
    few t m (Some session) e = (fits t session e).few m

pub are_whole : (kinds : List Kind) (coords : ℕ) (fm fc : ℕ → Found) (hs : List Happening) → 1 ≤ coords → OnlyOwnLogs kinds coords fm fc →
    ((m : ℕ) → first_refused_at_member coords (reverse (fm m).records) ≡ None) → ((c : ℕ) → first_refused_at_coord (length kinds) (reverse (fc c).records) ≡ None) →
    AreOwn (length kinds) coords hs → AreWhole (length kinds) coords (run hs (opened kinds coords fm fc))
are_whole kinds coords fm fc hs some own members_allowed coords_allowed are_own =
    told_whole (length kinds) coords some (run hs (opened kinds coords fm fc))
    (own_run hs (opened kinds coords fm fc) (start_own kinds coords fm fc own members_allowed))
    (run_fits (length kinds) coords hs (opened kinds coords fm fc) (λ u other h. is_nothing (sym (look_none u) ∙ h)) are_own).sessions
    (nodes_whole kinds coords fm fc some own members_allowed coords_allowed hs are_own)

-- one event
pub step_whole : (n k : ℕ) → 1 ≤ k → (s : Federation) → OwnFacts s → AreWhole n k s → (h : Happening) → IsOwn n k h → AreWhole n k (step s h).state
step_whole n k some s kept w h own =
    told_whole n k some (step s h).state (own_step s kept h) (step_fits n k s w.sessions h own).sessions
    (step_nodes n k some (λ m x. Whole k x) (λ c y. WholeTable n y) (always_whole n k) s kept w.sessions
    (record { members = λ m. as_kept k (s.member m) (w.member m); coords = λ c. coord_as_kept n (s.coord c) (w.coord c) }) h)

-- A state of a run over own logs has the facts, and its sessions and the opened logs name its own nodes.
use Rattle.std.proofs.Common.{◌≡◌, ◌⊎◌, inl, inr, ℕ, Bool, true, false, ◌||◌, ◌&&◌, nat_le, List, [], length, None, Some, sym, ap, ◌∙◌, subst, refl}
use Rattle.std.proofs.lemmas.Bool.{or_cases}
use Rattle.std.specs.Option.{is_some}
use Rattle.co_base.specs.declared.head.Kind.{Kind}
use Rattle.co_state.specs.Table.{look, holds}
use Rattle.co_plain.specs.declared.happening.Happening.{Happening}
use Rattle.co_plain.specs.Numbers.{IsAmong}
use Rattle.co_plain.specs.MemberView.{recovered_view}
use Rattle.co_plain.specs.Opening.{Found, OnlyOwnLogs, opened}
use Rattle.co_plain.specs.Federation.{Federation}
use Rattle.co_plain.specs.Runs.{run}
use Rattle.co_plain.specs.Decisions.{votes_for}
use Rattle.co_plain.specs.SoundLogs.{unended_in, log_has_voted, log_has_committed}
use Rattle.co_plain.specs.Premises.{AreTrueVerdicts, AreOwn, AreOwnLogs, AreOpenable}
use Rattle.co_law_base.proofs.Lookups.{look_none}
use Rattle.co_law_base.proofs.NumberSets.{among_from}
use Rattle.co_law_base.proofs.Facts.{Facts}
use Rattle.co_law_moves.proofs.Start.{start_facts}
use Rattle.co_law_moves.proofs.Steps.{run_keeps}
use Rattle.co_law_moves.proofs.Growing.{run_grows}
use Rattle.co_law_runs.proofs.Fitting.{Fit, FitSessions, run_fits}
use Rattle.co_law_runs.proofs.InQuiet.{OpenedFit}

-- whose log tells something is a member of the federation
member_is : (kinds : List Kind) (coords : ℕ) (fm fc : ℕ → Found) → OnlyOwnLogs kinds coords fm fc → (m t : ℕ) → (log_has_voted (fm m).records t || log_has_committed (fm m).records t) ≡ true → IsAmong m (length kinds)
member_is kinds coords fm fc own m t h = by (nat_le 1 m && nat_le m (length kinds)) refl
  where
    nothing : (holds (recovered_view []).voted t ≡ true) ⊎ (holds (recovered_view []).committed t ≡ true) → ⊥
    nothing (inl q) = let y : false ≡ true = ap is_some (sym (look_none t)) ∙ q in cc
    nothing (inr q) = let y : false ≡ true = ap is_some (sym (look_none t)) ∙ q in cc

    by : (b : Bool) → (nat_le 1 m && nat_le m (length kinds)) ≡ b → IsAmong m (length kinds)
    by true e = among_from m (length kinds) e
    by false e = absurd (nothing (or_cases _ _ (ap (λ rs. log_has_voted rs t || log_has_committed rs t) (sym (own.members m e)) ∙ h)))

pub record Reached (s : Federation) : Type 0 where
  pub facts : Facts s
  pub sessions : FitSessions (length s.kinds) s.coordinators s.sessions
  pub opened : OpenedFit s

module _ (kinds : List Kind) (coords : ℕ) (fm fc : ℕ → Found) (hs : List Happening) (g : AreOpenable kinds coords fm fc) (own : AreOwnLogs kinds coords fm fc)
    (v : AreTrueVerdicts hs (opened kinds coords fm fc)) (names : AreOwn (length kinds) coords hs) where
  pub fits : Fit (length kinds) coords (opened kinds coords fm fc) (run hs (opened kinds coords fm fc))
  fits = run_fits (length kinds) coords hs (opened kinds coords fm fc) (λ u session e. absurd (let y : None ≡ Some session = sym (look_none u) ∙ e in cc)) names

  pub reached : Reached (run hs (opened kinds coords fm fc))
  reached =
      record {
        facts = run_keeps hs (opened kinds coords fm fc) (start_facts kinds coords fm fc g) v;
        sessions = subst (λ k. FitSessions (length k) (run hs (opened kinds coords fm fc)).coordinators (run hs (opened kinds coords fm fc)).sessions) (sym fits.kinds)
            (subst (λ k. FitSessions (length kinds) k (run hs (opened kinds coords fm fc)).sessions) (sym fits.coordinators) fits.sessions);
        opened = record {
          votes = λ m u c h. subst (λ k. IsAmong c k) (sym fits.coordinators) (own.votes m u c (ap (λ k. votes_for (look (recovered_view (k m)).voted u) c) (sym (run_grows hs (opened kinds coords fm fc)).members) ∙ h));
          commits = λ c u m members h k. subst (λ n. IsAmong m (length n)) (sym fits.kinds)
              (member_is kinds coords fm fc own.own m u (g.sound.participants u c m members (ap (λ n. unended_in (n c) u) (sym (run_grows hs (opened kinds coords fm fc)).coords) ∙ h) k));
        };
      }

-- A session that is begun, or changes: begun numbers stay apart from the used ones, and a decided local transaction was asked to end.
use Rattle.std.proofs.Common.{◌≡◌, ◌≢◌, ◌⊎◌, inl, inr, ℕ, true, false, List, Some, sym, ap, ◌∙◌}
use Rattle.co_base.specs.declared.node.Node.TheVariants as node
use Rattle.co_state.specs.Table.{Table, look, holds, put}
use Rattle.co_plain.specs.declared.session.Decided.{Decided}
use Rattle.co_plain.specs.declared.session.Session.{Session}
use Rattle.co_plain.specs.MemberView.{Numbers}
use Rattle.co_plain.specs.Decisions.{is_decided}
use Rattle.co_law_base.proofs.Lookups.{put_cases}
use Rattle.co_law_base.proofs.ViewMoves.{put_holds}

module _ (sessions : Table Session) (t : ℕ) (next : Session) where
  pub unused_put : (used : Numbers) → ((u : ℕ) → holds sessions u ≡ true → holds used u ≡ false) → holds used t ≡ false →
      (u : ℕ) → holds (put sessions t next) u ≡ true → holds used u ≡ false
  unused_put used others own u h = by (put_holds sessions t next u h)
    where
      by : (t ≡ u) ⊎ (holds sessions u ≡ true) → holds used u ≡ false
      by (inl e) = ap (holds used) (sym e) ∙ own
      by (inr k) = others u k

  pub asked_put : (decided : List Decided) →
      ((u m : ℕ) (session : Session) → look sessions u ≡ Some session → session.by ≡ node.Member m → is_decided decided u ≡ true → session.asked ≡ true) →
      ((m : ℕ) → next.by ≡ node.Member m → is_decided decided t ≡ true → next.asked ≡ true) →
      (u m : ℕ) (session : Session) → look (put sessions t next) u ≡ Some session → session.by ≡ node.Member m → is_decided decided u ≡ true → session.asked ≡ true
  asked_put decided others own u m session h b d = by (put_cases sessions t next u session h)
    where
      by : ((t ≡ u) × (next ≡ session)) ⊎ ((t ≢ u) × (look sessions u ≡ Some session)) → session.asked ≡ true
      by (inl p) = ap (λ z. z.asked) (sym p.1) ∙ own m (ap (λ z. z.by) p.1 ∙ b) (ap (is_decided decided) p.0 ∙ d)
      by (inr p) = others u m session p.1 b d

-- A client asks for the end of its transaction.
use Rattle.std.proofs.Common.{◌≡◌, ◌≢◌, ◌⊎◌, inl, inr, ℕ, Bool, true, false, ◌≤◌, ◌==◌, [], Option, Some, refl, sym, ap, ◌∙◌, subst}
use Rattle.std.specs.Option.{is_some}
use Rattle.std.proofs.lemmas.Bool.{eqb-true, eqb-false}
use Rattle.co_base.specs.declared.node.Node.TheVariants as node
use Rattle.co_state.specs.Table.{Table, look, put}
use Rattle.co_plain.specs.declared.session.Decided.{Decided}
use Rattle.co_plain.specs.declared.session.Session.{Session}
use Rattle.co_plain.specs.Sessions.{told_at, count_at, asked_to_end}
use Rattle.co_plain.specs.Federation.{Federation, with_session}
use Rattle.co_plain.specs.Decisions.{told_in, asked_in}
use Rattle.co_plain.specs.Moves.{AskEnd, effect, Guard, marked_over}
use Rattle.co_law_base.proofs.Lookups.{put_here, put_there, put_cases, holds_found, found_holds}
use Rattle.co_law_base.proofs.Facts.{rest_of, changed, told, asked, by_coord, NumberFacts, Facts}
use Rattle.co_law_base.proofs.Carrying.{Later, later_member, later_coord, later_records, later_sent}
use Rattle.co_law_base.proofs.ViewMoves.{each_map, holds_put}
use Rattle.co_law_base.proofs.SessionPut.{unused_put, asked_put}

-- a reading of a session that asking leaves
pub same_reading : {A : Type 0} (P : Option Session → A) (sessions : Table Session) (t : ℕ) (old new : Session) → look sessions t ≡ Some old → P (Some new) ≡ P (Some old) →
    (u : ℕ) → P (look (put sessions t new) u) ≡ P (look sessions u)
same_reading {A} P sessions t old new here same u = by (t == u) refl
  where
    by : (b : Bool) → (t == u) ≡ b → P (look (put sessions t new) u) ≡ P (look sessions u)
    by true e =
        let k : t ≡ u = eqb-true t u e in
        ap P (ap (look (put sessions t new)) (sym k) ∙ put_here sessions t new) ∙ same ∙ ap P (sym here ∙ ap (look sessions) k)
    by false e = ap P (put_there sessions t new u (eqb-false t u e))

pub asked_later : (s : Federation) (t : ℕ) (old : Session) → look s.sessions t ≡ Some old → Later (rest_of s) s.coord (put s.sessions t (asked_to_end old)) s.sent s.member
asked_later s t old here =
    record {
      told_same = λ u o. same_reading told_in s.sessions t old (asked_to_end old) here refl u;
      counts = λ u m h. subst (λ ts. 1 ≤ count_at ts m) (sym (same_reading told_in s.sessions t old (asked_to_end old) here refl u)) h;
      begun_on = λ u h. holds_put s.sessions t (asked_to_end old) u h;
      begun_back = λ u o h. sym (same_reading (λ o. is_some o) s.sessions t old (asked_to_end old) here refl u) ∙ h;
      asked_on = λ u h. asked_on u h (t == u) refl;
      by_on = λ u c h. same_reading (λ o. by_coord o c) s.sessions t old (asked_to_end old) here refl u ∙ h;
      by_back = λ u c o h. sym (same_reading (λ o. by_coord o c) s.sessions t old (asked_to_end old) here refl u) ∙ h;
      alive_back = λ u c o h. h;
      part = λ u c m b a h. inl h;
      sent_on = λ note h. h;
    }
  where
    asked_on : (u : ℕ) → asked (rest_of s) u ≡ true → (b : Bool) → (t == u) ≡ b → asked_in (look (put s.sessions t (asked_to_end old)) u) ≡ true
    asked_on u h true e = ap asked_in (ap (look (put s.sessions t (asked_to_end old))) (sym (eqb-true t u e)) ∙ put_here s.sessions t (asked_to_end old))
    asked_on u h false e = ap asked_in (put_there s.sessions t (asked_to_end old) u (eqb-false t u e)) ∙ h

asked_facts : (s : Federation) → Facts s → (t : ℕ) (old : Session) → look s.sessions t ≡ Some old → Facts (with_session s t (asked_to_end old))
asked_facts s f t old here =
    let l = asked_later s t old here in
    let sessions = put s.sessions t (asked_to_end old) in
    record {
      numbers = numbers l;
      members = λ m. later_member (rest_of s) f.numbers s.coord sessions s.sent s.member l m
          (λ u os h. ap (λ ts. told_at ts m) (same_reading told_in s.sessions t old (asked_to_end old) here refl u)) (f.members m);
      coords = λ d. later_coord (rest_of s) f.numbers s.coord sessions s.sent s.member l d (s.coord d).table (s.coord d).log.stable (s.coord d).log.waiting (f.coords d);
      sent = later_sent (rest_of s) f.numbers s.coord sessions s.member l f.sent;
      records = later_records (rest_of s) f.numbers s.coord sessions s.sent s.member l f.records (λ c u ms h. h);
      serially = f.serially;
    }
  where
    numbers : Later (rest_of s) s.coord (put s.sessions t (asked_to_end old)) s.sent s.member → NumberFacts (changed (rest_of s) s.coord (put s.sessions t (asked_to_end old)) s.sent)
    numbers l =
        record {
          new = unused_put s.sessions t (asked_to_end old) s.used f.numbers.new (f.numbers.new t (found_holds s.sessions t old here));
          decided_begun = λ u h. l.begun_on u (f.numbers.decided_begun u h);
          once = f.numbers.once;
          local = λ u m k session h. local u m k session (put_cases s.sessions t (asked_to_end old) u session h);
          local_asked = asked_put s.sessions t (asked_to_end old) s.decided f.numbers.local_asked (λ m b d. refl);
          kept = each_map (λ d. (d.told ≡ []) ⊎ ((told (rest_of s) d.txn ≡ d.told) × (asked (rest_of s) d.txn ≡ true)))
              (λ d. (d.told ≡ []) ⊎ ((told_in (look (put s.sessions t (asked_to_end old)) d.txn) ≡ d.told) × (asked_in (look (put s.sessions t (asked_to_end old)) d.txn) ≡ true))) s.decided
              (λ d p. kept d p) f.numbers.kept;
          voted_used = f.numbers.voted_used;
          commit_used = f.numbers.commit_used;
          one_vote = f.numbers.one_vote;
          vote_commit = f.numbers.vote_commit;
          one_home = f.numbers.one_home;
          one_commit = f.numbers.one_commit;
        }
      where
        local : (u m k : ℕ) (session : Session) → ((t ≡ u) × (asked_to_end old ≡ session)) ⊎ ((t ≢ u) × (look s.sessions u ≡ Some session)) → session.by ≡ node.Member m → k ≢ m → count_at session.told k ≡ 0
        local u m k session (inl p) b n = ap (λ z. count_at z.told k) (sym p.1) ∙ f.numbers.local t m k old here (ap (λ z. z.by) p.1 ∙ b) n
        local u m k session (inr p) b n = f.numbers.local u m k session p.1 b n

        kept : (d : Decided) → (d.told ≡ []) ⊎ ((told (rest_of s) d.txn ≡ d.told) × (asked (rest_of s) d.txn ≡ true)) →
            (d.told ≡ []) ⊎ ((told_in (look (put s.sessions t (asked_to_end old)) d.txn) ≡ d.told) × (asked_in (look (put s.sessions t (asked_to_end old)) d.txn) ≡ true))
        kept d (inl e) = inl e
        kept d (inr p) = inr (same_reading told_in s.sessions t old (asked_to_end old) here refl d.txn ∙ p.0, l.asked_on d.txn p.1)

pub keeps_ask : (s : Federation) → Facts s → (t : ℕ) → Guard s (AskEnd t) → Facts (effect s (AskEnd t))
keeps_ask s f t g =
    let p = holds_found s.sessions t g in
    subst (λ o. Facts (marked_over s t o)) (sym p.1) (asked_facts s f t p.0 p.1)

-- Logs of which some gave way to the migrated ones.
use Rattle.std.proofs.Common.{◌≡◌, ◌⊎◌, inl, inr, ℕ, Bool, true, false, ◌||◌, ◌==◌, if◌then◌else◌, List, [], ◌∷◌, Option, None, Some, refl, sym, ap, ◌∙◌, subst, arith}
use Rattle.std.proofs.lemmas.Bool.Decides.{nat_tests}
use Rattle.std.specs.FinMap.{entries, entries_sorted, get-entries}
use Rattle.std.proofs.lemmas.Bool.{false_from_ne_true}
use Rattle.std.specs.Option.{is_some}
use Rattle.co_base.specs.declared.node.Node.TheVariants as node
use Rattle.co_record.specs.declared.record.Record.{Record}
use Rattle.co_serial.specs.Records.{Records, with_changes}
use Rattle.co_state.specs.declared.engine_state.Vote.{Vote}
use Rattle.co_state.specs.Table.{look}
use Rattle.co_plain.specs.CoordView.{has_commit_of}
use Rattle.co_plain.specs.Decisions.{votes_for}
use Rattle.co_plain.specs.DurableRecords.{laid_where, durable_of, durable_records}
use Rattle.co_plain.specs.MemberView.{recovered_view}
use Rattle.co_plain.specs.declared.member_view.MemberView.{MemberView}
use Rattle.co_plain.specs.SoundLogs.{AreSound, IsNowhereDecided, LogsName, ByVote, ByCommit, unended_in, has_unended, log_votes_for, log_has_voted, log_has_committed}
use Rattle.co_law_base.proofs.Commits.{unended_seen}
use Rattle.co_law_base.proofs.ImageRules.{EachEntry, each_entry}
use Rattle.co_law_migrate.specs.Migrated.{migrated, MayGiveWay}
use Rattle.co_law_migrate.proofs.Told.{same_view, same_unended, seen_unended}

-- votes that are laid where two tests agree
laid_alike : (f g : ℕ → Vote → Bool) (records : Records) (es : List (ℕ × Vote)) → EachEntry (λ t vote. f t vote ≡ g t vote) es → laid_where f records es ≡ laid_where g records es
laid_alike f g records [] h = refl
laid_alike f g records (e ∷ es) h =
    ap (λ b. laid_where f (if b then with_changes records e.1.sets.writes else records) es) h.0
    ∙ laid_alike f g (if g e.0 e.1 then with_changes records e.1.sets.writes else records) es h.1

own : (c : ℕ) → (c == c) ≡ true
own c = grind (arith, nat_tests)

-- who has a commit without end has a commit
unended_commit : (rs : List Record) (t : ℕ) → has_unended rs t ≡ true → has_commit_of rs t ≡ true
unended_commit rs t h = by (unended_in rs t) refl h
  where
    by : (o : Option (List ℕ)) → unended_in rs t ≡ o → is_some o ≡ true → has_commit_of rs t ≡ true
    by None e k = absurd (let z : false ≡ true = k in cc)
    by (Some ms) e k = unended_seen rs t ms e

module _ (ml cl nm nc : ℕ → List Record) (members : MayGiveWay node.Member ml nm) (coords : MayGiveWay node.Coord cl nc) where
  view : (m : ℕ) → recovered_view (nm m) ≡ recovered_view (ml m)
  view m = elim (members m) [ inl same ↦ ap recovered_view same | inr new ↦ ap recovered_view new ∙ same_view m (ml m) ]

  unended : (c t : ℕ) → unended_in (nc c) t ≡ unended_in (cl c) t
  unended c t = elim (coords c) [ inl same ↦ ap (λ (rs : List Record). unended_in rs t) same | inr new ↦ ap (λ (rs : List Record). unended_in rs t) new ∙ same_unended c (cl c) t ]

  -- a commit that is told was one before
  commit : (c t : ℕ) → has_commit_of (nc c) t ≡ true → has_commit_of (cl c) t ≡ true
  commit c t h = elim (coords c) [
    | inl same ↦ ap (λ (rs : List Record). has_commit_of rs t) (sym same) ∙ h
    | inr new ↦ unended_commit (cl c) t (seen_unended c (cl c) t (ap (λ (rs : List Record). has_commit_of rs t) (sym new) ∙ h))
  ]

  none : (c t : ℕ) → has_commit_of (cl c) t ≡ false → has_commit_of (nc c) t ≡ false
  none c t h = false_from_ne_true _ (λ k. let z : true ≡ false = sym (commit c t k) ∙ h in cc)

  votes : (m t c : ℕ) → log_votes_for (nm m) t c ≡ log_votes_for (ml m) t c
  votes m t c = ap (λ (v : MemberView). votes_for (look v.voted t) c) (view m)

  names : (t c : ℕ) → LogsName nm nc t c → LogsName ml cl t c
  names t c (ByVote m h) = ByVote m (sym (votes m t c) ∙ h)
  names t c (ByCommit h) = ByCommit (ap is_some (sym (unended c t)) ∙ h)

  module _ (sound : AreSound ml cl) where
    pub stay_sound : AreSound nm nc
    stay_sound = record {
      one_coordinator = λ t c d p q. sound.one_coordinator t c d (names t c p) (names t d q);
      participants = λ t c m numbers h part.
          (λ i. log_has_voted_at m t i || log_has_committed_at m t i) ∙ sound.participants t c m numbers (sym (unended c t) ∙ h) part;
      voters = λ t c m numbers h v. sound.voters t c m numbers (sym (unended c t) ∙ h) (sym (votes m t c) ∙ v);
      undecided = λ t m c v h.
          let d = sound.undecided t m c (sym (votes m t c) ∙ v) (ap is_some (sym (unended c t)) ∙ h) in
          record { uncommitted = λ n. log_has_committed_at n t ∙ d.uncommitted n; undecided = λ e. none e t (d.undecided e) };
    }
      where
        log_has_voted_at : (m t : ℕ) → log_has_voted (nm m) t ≡ log_has_voted (ml m) t
        log_has_voted_at m t = ap (λ (v : MemberView). is_some (look v.voted t)) (view m)

        log_has_committed_at : (m t : ℕ) → log_has_committed (nm m) t ≡ log_has_committed (ml m) t
        log_has_committed_at m t = ap (λ (v : MemberView). is_some (look v.committed t)) (view m)

    -- a vote finds the same commit
    same_commit : (m t : ℕ) (vote : Vote) → look (recovered_view (ml m)).voted t ≡ Some vote → has_commit_of (nc vote.coord) t ≡ has_commit_of (cl vote.coord) t
    same_commit m t vote e = by (has_unended (cl vote.coord) t) refl
      where
        voted : log_votes_for (ml m) t vote.coord ≡ true
        voted = ap (λ o. votes_for o vote.coord) e ∙ own vote.coord

        by : (b : Bool) → has_unended (cl vote.coord) t ≡ b → has_commit_of (nc vote.coord) t ≡ has_commit_of (cl vote.coord) t
        by true h = unended_commit (nc vote.coord) t (ap is_some (unended vote.coord t) ∙ h) ∙ sym (unended_commit (cl vote.coord) t h)
        by false h = let d = (sound.undecided t m vote.coord voted h).undecided vote.coord in none vote.coord t d ∙ sym d

    pub same_durable : (m : ℕ) → durable_records nm nc m ≡ durable_records ml cl m
    same_durable m =
        ap (durable_of nc) (view m)
        ∙ laid_alike (λ t vote. has_commit_of (nc vote.coord) t) (λ t vote. has_commit_of (cl vote.coord) t) (recovered_view (ml m)).records (entries (recovered_view (ml m)).voted)
        (each_entry (λ t vote. has_commit_of (nc vote.coord) t ≡ has_commit_of (cl vote.coord) t) (entries (recovered_view (ml m)).voted) (entries_sorted (recovered_view (ml m)).voted)
        (λ t vote g. same_commit m t vote (get-entries (recovered_view (ml m)).voted t ∙ g)))

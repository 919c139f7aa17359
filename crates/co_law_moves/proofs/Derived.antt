-- What the facts of a state say: the logs alone, and that the files are sound.
use Rattle.std.proofs.Common.{◌≡◌, ◌⊎◌, inl, inr, ℕ, true, false, ◌&&◌, List, [], ◌∷◌, ◌++◌, Option, None, Some, refl, sym, ap, ◌∙◌, subst}
use Rattle.std.proofs.lemmas.Bool.{or_cases, and_parts, eq-eqb, false_from_ne_true}
use Rattle.co_serial.specs.SerialRun.{AllRecords, run_whole}
use Rattle.co_state.specs.Table.{look}
use Rattle.co_plain.specs.declared.coord_state.Entry.{Entry}
use Rattle.co_plain.specs.declared.coord_state.Entry.TheVariants as entry
use Rattle.co_plain.specs.declared.session.Decided.{Decided}
use Rattle.co_plain.specs.Numbers.{has_number}
use Rattle.co_plain.specs.CoordView.{recovered_commits, has_commit_of}
use Rattle.co_plain.specs.Federation.{Federation}
use Rattle.co_plain.specs.Decisions.{is_decided, votes_for, sites_of, replies_of}
use Rattle.co_plain.specs.DurableRecords.{durable_in}
use Rattle.co_plain.specs.SoundLogs.{unended_in, has_unended, log_votes_for, log_has_committed, LogsName, ByVote, ByCommit}
use Rattle.co_plain.specs.Invariants.{Stable, view, takes_part_in, FilesAreSound}
use Rattle.co_law_engine.proofs.YesTells.{in_some}
use Rattle.co_law_base.proofs.Lookups.{holds_found, found_holds}
use Rattle.co_law_base.proofs.ImageRules.{laid_serial}
use Rattle.co_law_base.proofs.Commits.{unended_seen}
use Rattle.co_law_base.proofs.Facts.{rest_of, settled, Here, Before, by_coord, belongs, Begun, Voted, serial, serial_of, ReadSerially, ViewFacts, Facts}
use Rattle.co_law_base.proofs.Carrying.{one_belongs, settled_alive, settled_from, by_coord_begun, same_coord}
use Rattle.co_law_base.proofs.MemberFrame.{unended_settled}
use Rattle.co_law_base.proofs.VoteMoves.{unsettled}

-- each place of the decision order read serially
pub reads_at : (start : AllRecords) (later earlier : List Decided) (d : Decided) → ReadSerially start (later ++ d ∷ earlier) → replies_of d.told ≡ run_whole (serial_of start earlier) (sites_of d.told)
reads_at start [] earlier d r = r.0
reads_at start (x ∷ xs) earlier d r = reads_at start xs earlier d r.1

module _ (s : Federation) (f : Facts s) where
  -- a settled transaction that is voted has a commit without end that names the member
  pub voted_open : (m t c : ℕ) → votes_for (look (view Stable (s.member m)).voted t) c ≡ true → settled (rest_of s) t →
      (members : List ℕ) × (unended_in (s.coord c).log.stable t ≡ Some members) × (has_number members m ≡ true)
  voted_open m t c h d = by (look (s.coord c).table t) refl (v.held t c h (settled_alive (rest_of s) f.numbers t c (v.named t c h) d))
    where
      v : ViewFacts (rest_of s) m (view Stable (s.member m))
      v = (f.members m).views Stable

      by : (o : Option Entry) → look (s.coord c).table t ≡ o → takes_part_in o m ≡ true → (members : List ℕ) × (unended_in (s.coord c).log.stable t ≡ Some members) × (has_number members m ≡ true)
      by None e k = absurd (let z : false ≡ true = k in cc)
      by (Some entry.Idle) e k = absurd (let z : false ≡ true = k in cc)
      by (Some (entry.Collecting parts yeses)) e k = absurd (unsettled (rest_of s) f.numbers c (s.coord c).log.stable t ((f.coords c).collecting t parts yeses e).still d)
      by (Some (entry.Committed members acks)) e k = (members, ((f.coords c).committed t members acks e).recorded, k)

  pub known_settled : (c t : ℕ) → has_commit_of (s.coord c).log.stable t ≡ true → settled (rest_of s) t
  known_settled c t h = by (or_cases (by_coord (look s.sessions t) c && is_decided s.decided t) (has_commit_of (s.opened_coord c) t) ((f.coords c).known t h))
    where
      by : ((by_coord (look s.sessions t) c && is_decided s.decided t) ≡ true) ⊎ (has_commit_of (s.opened_coord c) t ≡ true) → settled (rest_of s) t
      by (inl p) = Here (and_parts (by_coord (look s.sessions t) c) (is_decided s.decided t) p).1
      by (inr k) = Before c k

  -- the logs alone give the serial records
  pub logs_give : (m : ℕ) → durable_in s m ≡ serial (rest_of s) m
  logs_give m =
      laid_serial (serial (rest_of s) m) (settled (rest_of s)) (λ t vote. has_commit_of (s.coord vote.coord).log.stable t) (view Stable (s.member m)) ((f.members m).views Stable).image
      (λ t vote e h. known_settled vote.coord t h)
      (λ t vote e d. let p = voted_open m t vote.coord (ap (λ o. votes_for o vote.coord) e ∙ eq-eqb vote.coord vote.coord refl) d in unended_seen (s.coord vote.coord).log.stable t p.0 p.1)

  pub named' : (m t c : ℕ) → votes_for (look (view Stable (s.member m)).voted t) c ≡ true → belongs (rest_of s) t c
  named' m t c h = ((f.members m).views Stable).named t c h

  vote_commit : (t c d : ℕ) (members : List ℕ) → belongs (rest_of s) t c → unended_in (s.coord d).log.stable t ≡ Some members → c ≡ d
  vote_commit t c d members b h = by b ((f.coords d).unended_known t members h)
    where
      by : belongs (rest_of s) t c → ((by_coord (look s.sessions t) d && is_decided s.decided t) ≡ true) ⊎ (unended_in (s.opened_coord d) t ≡ Some members) → c ≡ d
      by b (inl p) = one_belongs (rest_of s) f.numbers t c d b (Begun (and_parts (by_coord (look s.sessions t) d) (is_decided s.decided t) p).0)
      by (Begun k) (inr o) = absurd (let z : true ≡ false = sym (f.numbers.commit_used d t (unended_seen (s.opened_coord d) t members o)) ∙ f.numbers.new t (by_coord_begun (look s.sessions t) c k) in cc)
      by (Voted n k) (inr o) = f.numbers.vote_commit t n c d members k o

  one_commit : (t c d : ℕ) (members others : List ℕ) → unended_in (s.coord c).log.stable t ≡ Some members → unended_in (s.coord d).log.stable t ≡ Some others → c ≡ d
  one_commit t c d members others h k = by ((f.coords c).unended_known t members h) ((f.coords d).unended_known t others k)
    where
      apart : (e g : ℕ) (ns : List ℕ) → by_coord (look s.sessions t) e ≡ true → unended_in (s.opened_coord g) t ≡ Some ns → c ≡ d
      apart e g ns b o = absurd (let z : true ≡ false = sym (f.numbers.commit_used g t (unended_seen (s.opened_coord g) t ns o)) ∙ f.numbers.new t (by_coord_begun (look s.sessions t) e b) in cc)

      by : ((by_coord (look s.sessions t) c && is_decided s.decided t) ≡ true) ⊎ (unended_in (s.opened_coord c) t ≡ Some members) →
          ((by_coord (look s.sessions t) d && is_decided s.decided t) ≡ true) ⊎ (unended_in (s.opened_coord d) t ≡ Some others) → c ≡ d
      by (inl p) (inl q) = same_coord (look s.sessions t) c d (and_parts _ _ p).0 (and_parts _ _ q).0
      by (inl p) (inr q) = apart c d others (and_parts (by_coord (look s.sessions t) c) (is_decided s.decided t) p).0 q
      by (inr p) (inl q) = apart d c members (and_parts (by_coord (look s.sessions t) d) (is_decided s.decided t) q).0 p
      by (inr p) (inr q) = f.numbers.one_commit t c d members others p q

  abbrev Named : ℕ → ℕ → Type 0
  Named = LogsName (λ m. (s.member m).log.stable) (λ c. (s.coord c).log.stable)

  one_coordinator : (t c d : ℕ) → Named t c → Named t d → c ≡ d
  one_coordinator t c d (ByVote m h) (ByVote n k) = one_belongs (rest_of s) f.numbers t c d (named' m t c h) (named' n t d k)
  one_coordinator t c d (ByVote m h) (ByCommit k) =
      let p = holds_found (recovered_commits (s.coord d).log.stable).unended t k in
      vote_commit t c d p.0 (named' m t c h) p.1
  one_coordinator t c d (ByCommit h) (ByVote n k) =
      let p = holds_found (recovered_commits (s.coord c).log.stable).unended t h in
      sym (vote_commit t d c p.0 (named' n t d k) p.1)
  one_coordinator t c d (ByCommit h) (ByCommit k) =
      let p = holds_found (recovered_commits (s.coord c).log.stable).unended t h in
      let q = holds_found (recovered_commits (s.coord d).log.stable).unended t k in
      one_commit t c d p.0 q.0 p.1 q.1

  no_unended : (m t c : ℕ) → log_votes_for (s.member m).log.stable t c ≡ true → has_unended (s.coord c).log.stable t ≡ false → settled (rest_of s) t → ⊥
  no_unended m t c h n d =
      let p = voted_open m t c h d in
      let z : true ≡ false = sym (found_holds (recovered_commits (s.coord c).log.stable).unended t p.0 p.1) ∙ n in cc

  -- the files are sound
  pub files_sound : FilesAreSound s
  files_sound =
      record {
        one_coordinator = one_coordinator;
        participants = λ t c m members h k. f.records.unended t c m members Stable h k;
        voters = λ t c m members h k.
            let p = voted_open m t c k (unended_settled s f c t members h) in
            subst (λ ns. has_number ns m ≡ true) (in_some (sym p.1 ∙ h)) p.2;
        undecided = λ t m c h k.
            record {
              uncommitted = λ n. false_from_ne_true (log_has_committed (s.member n).log.stable t)
                  (λ z. no_unended m t c h k (settled_from (rest_of s) t c (((f.members n).views Stable).homed t c z (named' m t c h))));
              undecided = λ d. false_from_ne_true (has_commit_of (s.coord d).log.stable t) (λ z. no_unended m t c h k (known_settled d t z));
            };
      }

-- The invariants, from the facts.
use Rattle.std.proofs.Common.{◌≡◌, ◌⊎◌, inl, inr, ℕ, Bool, true, false, ◌&&◌, ◌≤◌, List, [], ◌∷◌, ◌++◌, map, reverse, Option, None, Some, refl, sym, ap, ◌∙◌, subst}
use Rattle.std.specs.Option.{is_some}
use Rattle.std.proofs.lemmas.Bool.{or_cases, or_parts, or_from, and_parts, eqb-true, eq-eqb}
use Rattle.co_base.specs.declared.node.Node.{Node}
use Rattle.co_base.specs.declared.node.Node.TheVariants as node
use Rattle.co_record.specs.declared.record.Record.{Record}
use Rattle.co_record.specs.declared.record.Record.TheVariants as log
use Rattle.co_serial.specs.SerialRun.{after}
use Rattle.co_state.specs.Table.{look, holds}
use Rattle.co_plain.specs.declared.session.Decided.{Decided}
use Rattle.co_plain.specs.declared.session.Session.{Session}
use Rattle.co_plain.specs.Numbers.{has_number}
use Rattle.co_plain.specs.CoordView.{has_commit_of}
use Rattle.co_plain.specs.Sessions.{count_at}
use Rattle.co_base.specs.Nodes.{same_node}
use Rattle.co_plain.specs.Federation.{Federation}
use Rattle.co_plain.specs.Decisions.{is_decided, votes_for, sites_of, BelongsTo, BegunThere, VotedBefore, IsPresumedAborted, AtCoordinator, AtMember, IsSettled, InThisRun, InOpenedFile}
use Rattle.co_plain.specs.DurableRecords.{durable_records, starting_records}
use Rattle.co_plain.specs.SoundLogs.{unended_in, log_has_committed}
use Rattle.co_plain.specs.Promises.{serial_records}
use Rattle.co_plain.specs.Invariants.{Side, Stable, view, stands, takes_part_in, TakesPart, HeldOperations, NamedBefore, TookPart, HeldAtDecision, NamedInOpened, is_settled_vote, InstalledIsSerial, OnlyAbortsWait}
use Rattle.co_law_base.proofs.Lookups.{holds_found, found_holds}
use Rattle.co_law_base.proofs.ImageRules.{laid_serial}
use Rattle.co_law_base.proofs.ViewMoves.{each_decided}
use Rattle.co_law_base.proofs.Facts.{rest_of, settled, Here, Before, settled_at, alive, by_coord, belongs, Begun, Voted, takes, ByTold, Named, took, AtDecision, InOpened, serial, OnlyAborts, Each, Facts}
use Rattle.co_law_base.proofs.Carrying.{one_belongs, settled_alive, settled_home, settled_from, by_coord_begun}
use Rattle.co_law_base.proofs.Commits.{unended_seen}
use Rattle.co_law_base.proofs.LogMoves.{as_belongs}
use Rattle.co_law_moves.proofs.Growing.{Grows}

pub each_at : {A : Type 0} (P : A → Type 0) (ds later earlier : List A) (d : A) → Each P ds → ds ≡ later ++ d ∷ earlier → P d
each_at {A} P ds later earlier d e q = by later (subst (Each P) q e)
  where
    by : (xs : List A) → Each P (xs ++ d ∷ earlier) → P d
    by [] h = h.0
    by (x ∷ xs) h = by xs h.1

begun_session : (s : Federation) (t c : ℕ) → by_coord (look s.sessions t) c ≡ true → BelongsTo s t c
begun_session s t c h = by (look s.sessions t) refl h
  where
    named : (session : Session) → look s.sessions t ≡ Some session → (at : Node) → session.by ≡ at → same_node at (node.Coord c) ≡ true → BelongsTo s t c
    named session e (node.Member m) b k = absurd (let z : false ≡ true = k in cc)
    named session e (node.Coord d) b k = BegunThere session e (b ∙ ap node.Coord (eqb-true d c k))

    by : (o : Option Session) → look s.sessions t ≡ o → by_coord o c ≡ true → BelongsTo s t c
    by None e k = absurd (let z : false ≡ true = k in cc)
    by (Some session) e k = named session e session.by refl k

pub belongs_is : (s : Federation) (t c : ℕ) → belongs (rest_of s) t c → BelongsTo s t c
belongs_is s t c (Begun h) = begun_session s t c h
belongs_is s t c (Voted m h) = VotedBefore m h

pub not_there : {X : Type 0} (o : Option X) → is_some o ≡ false → o ≡ None
not_there None h = refl
not_there (Some x) h = absurd (let z : true ≡ false = h in cc)

pub dead_is : (s : Federation) (t c : ℕ) → belongs (rest_of s) t c → alive (rest_of s) c t ≡ false → IsPresumedAborted s t
dead_is s t c b h =
    let p = or_parts (holds (s.coord c).table t) (settled_at (rest_of s) c t) h in
    let q = or_parts (is_decided s.decided t) (has_commit_of (s.opened_coord c) t) p.1 in
    AtCoordinator c (belongs_is s t c b) (not_there (look (s.coord c).table t) p.0) q.0 q.1

pub living : (s : Federation) (t c : ℕ) → belongs (rest_of s) t c → ¬ (IsPresumedAborted s t) → alive (rest_of s) c t ≡ true
living s t c b n = by (alive (rest_of s) c t) refl
  where
    by : (k : Bool) → alive (rest_of s) c t ≡ k → alive (rest_of s) c t ≡ true
    by true e = e
    by false e = absurd (n (dead_is s t c b e))

pub settled_is : (s : Federation) (t : ℕ) → settled (rest_of s) t → IsSettled s t
settled_is s t (Here h) = InThisRun h
settled_is s t (Before c h) = InOpenedFile c h

pub takes_is : (s : Federation) (t m : ℕ) → takes (rest_of s) t m → TakesPart s t m
takes_is s t m (ByTold h) = HeldOperations h
takes_is s t m (Named c members h k) = NamedBefore c members h k

pub took_is : (s : Federation) (t m : ℕ) → took (rest_of s) t m → TookPart s t m
took_is s t m (AtDecision h) = HeldAtDecision h
took_is s t m (InOpened c members h k) = NamedInOpened c members h k

pub waiting_is : (s : Federation) (rs : List Record) → OnlyAborts (rest_of s) rs → OnlyAbortsWait s rs
waiting_is s [] w = tt
waiting_is s (log.Abort t ∷ rs) w = ((w.0.0, belongs_is s t w.0.0 w.0.1, dead_is s t w.0.0 w.0.1 w.0.2), waiting_is s rs w.1)
waiting_is s (log.Header a b ∷ rs) w = absurd w
waiting_is s (log.Prepare a b c d e ∷ rs) w = absurd w
waiting_is s (log.Commit a b ∷ rs) w = absurd w
waiting_is s (log.End a ∷ rs) w = absurd w
waiting_is s (log.Checkpoint a b c ∷ rs) w = absurd w

-- the opened logs are those from which the run began
module _ (s0 s : Federation) (g : Grows s0 s) where
  pub same_start : starting_records s ≡ starting_records s0
  same_start = λ i. durable_records (g.members i) (g.coords i)

  pub same_serial : (ds : List Decided) → serial_records s ds ≡ serial_records s0 ds
  same_serial ds = ap (λ start. after start (reverse (map (λ d. sites_of d.told) ds))) same_start

module _ (s : Federation) (f : Facts s) where
  pub image : (m : ℕ) (side : Side) → InstalledIsSerial s m (view side (s.member m))
  image m side =
      let v = (f.members m).views side in
      record {
        serial =
            laid_serial (serial (rest_of s) m) (settled (rest_of s)) (is_settled_vote s) (view side (s.member m)) v.image
            (λ t vote e h. settled_from (rest_of s) t vote.coord h)
            (λ t vote e d. settled_home (rest_of s) f.numbers t vote.coord (v.named t vote.coord (ap (λ o. votes_for o vote.coord) e ∙ eq-eqb vote.coord vote.coord refl)) d);
        decided_stand = λ d later earlier q h. each_at (λ e. 1 ≤ count_at e.told m → stands (view side (s.member m)) e.txn ≡ true) s.decided later earlier d v.done q h;
      }

  -- a commit that ended, at a member where the transaction stands
  ended_there : (t c m : ℕ) → settled (rest_of s) t → look (s.coord c).table t ≡ None → ((d : ℕ) → belongs (rest_of s) t d → d ≡ c) → stands (view Stable (s.member m)) t ≡ true →
      log_has_committed (s.member m).log.stable t ≡ true
  ended_there t c m d none home h = by (or_cases _ _ h)
    where
      by : (holds (view Stable (s.member m)).voted t ≡ true) ⊎ (holds (view Stable (s.member m)).committed t ≡ true) → log_has_committed (s.member m).log.stable t ≡ true
      by (inr k) = k
      by (inl k) =
          let p = holds_found (view Stable (s.member m)).voted t k in
          let mine : votes_for (look (view Stable (s.member m)).voted t) p.0.coord ≡ true = ap (λ o. votes_for o p.0.coord) p.1 ∙ eq-eqb p.0.coord p.0.coord refl in
          let b = ((f.members m).views Stable).named t p.0.coord mine in
          let held = ((f.members m).views Stable).held t p.0.coord mine (settled_alive (rest_of s) f.numbers t p.0.coord b d) in
          absurd (let z : false ≡ true = ap (λ o. takes_part_in o m) (sym none) ∙ ap (λ e. takes_part_in (look (s.coord e).table t) m) (sym (home p.0.coord b)) ∙ held in cc)

  pub ended : (c m : ℕ) (d : Decided) (later earlier : List Decided) → s.decided ≡ later ++ d ∷ earlier → has_commit_of (s.coord c).log.stable d.txn ≡ true → look (s.coord c).table d.txn ≡ None → 1 ≤ count_at d.told m →
      log_has_committed (s.member m).log.stable d.txn ≡ true
  ended c m d later earlier q h none n =
      ended_there d.txn c m (Here decided) none (home (or_cases (by_coord (look s.sessions d.txn) c && is_decided s.decided d.txn) (has_commit_of (s.opened_coord c) d.txn) ((f.coords c).known d.txn h)))
      (each_at (λ e. 1 ≤ count_at e.told m → stands (view Stable (s.member m)) e.txn ≡ true) s.decided later earlier d ((f.members m).views Stable).done q n)
    where
      decided : is_decided s.decided d.txn ≡ true
      decided = each_at (λ e. is_decided s.decided e.txn ≡ true) s.decided later earlier d (each_decided s.decided) q

      home : ((by_coord (look s.sessions d.txn) c && is_decided s.decided d.txn) ≡ true) ⊎ (has_commit_of (s.opened_coord c) d.txn ≡ true) → (k : ℕ) → belongs (rest_of s) d.txn k → k ≡ c
      home (inl p) k b = one_belongs (rest_of s) f.numbers d.txn k c b (Begun (and_parts (by_coord (look s.sessions d.txn) c) (is_decided s.decided d.txn) p).0)
      home (inr o) k b = absurd (let z : true ≡ false = sym (f.numbers.commit_used c d.txn o) ∙ f.numbers.new d.txn (f.numbers.decided_begun d.txn decided) in cc)

  pub ended_before : (t c m : ℕ) (members : List ℕ) → has_commit_of (s.coord c).log.stable t ≡ true → look (s.coord c).table t ≡ None → unended_in (s.opened_coord c) t ≡ Some members → has_number members m ≡ true →
      log_has_committed (s.member m).log.stable t ≡ true
  ended_before t c m members h none o k =
      ended_there t c m (Before c (unended_seen (s.opened_coord c) t members o)) none home (f.records.opened_stand t c m members Stable o k)
    where
      home : (d : ℕ) → belongs (rest_of s) t d → d ≡ c
      home d (Voted n v) = f.numbers.vote_commit t n d c members v o
      home d (Begun b) = absurd (let z : true ≡ false = sym (f.numbers.commit_used c t (unended_seen (s.opened_coord c) t members o)) ∙ f.numbers.new t (by_coord_begun (look s.sessions t) d b) in cc)

  pub committed_alive : (t m : ℕ) (side : Side) → holds (view side (s.member m)).committed t ≡ true → ¬ (IsPresumedAborted s t)
  committed_alive t m side h (AtCoordinator c b none undecided unopened) =
      let z : settled_at (rest_of s) c t ≡ true = ((f.members m).views side).homed t c h (as_belongs s t c b) in
      let w : settled_at (rest_of s) c t ≡ false = or_from (is_decided s.decided t) (has_commit_of (s.opened_coord c) t) undecided unopened in
      let k : true ≡ false = sym z ∙ w in cc
  committed_alive t m side h (AtMember session n e b undecided lost) =
      let z : true ≡ false = sym (((f.members m).views side).known t h (found_holds s.sessions t session e)) ∙ undecided in cc

  pub aborts_true : (t c m : ℕ) → (belongs (rest_of s) t c × (alive (rest_of s) c t ≡ false)) ⊎ (holds (view Stable (s.member m)).committed t ≡ true) →
      (BelongsTo s t c × IsPresumedAborted s t) ⊎ (log_has_committed (s.member m).log.stable t ≡ true)
  aborts_true t c m (inl p) = inl (belongs_is s t c p.0, dead_is s t c p.0 p.1)
  aborts_true t c m (inr h) = inr h

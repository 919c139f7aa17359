-- What a run leaves may be opened again, and so may logs without records.
use Rattle.std.proofs.Common.{◌≡◌, ◌⊎◌, inl, inr, ℕ, Bool, true, false, ◌||◌, ◌&&◌, ◌==◌, ◌≤◌, nat_le, if◌then◌else◌, List, [], ◌∷◌, length, reverse, Option, None, Some, refl, sym, ap, ◌∙◌, subst}
use Rattle.std.proofs.lemmas.Bool.{and_parts, or_cases, eqb-true}
use Rattle.std.specs.Option.{is_some}
use Rattle.co_base.specs.declared.head.Kind.{Kind}
use Rattle.co_record.specs.declared.record.Record.{Record}
use Rattle.co_state.specs.declared.engine_state.Vote.{Vote}
use Rattle.co_state.specs.Table.{look}
use Rattle.co_plain.specs.declared.happening.Happening.{Happening}
use Rattle.co_plain.specs.CoordView.{all_up_to, first_refused_at_coord, has_commit_of}
use Rattle.co_plain.specs.Decisions.{votes_for}
use Rattle.co_plain.specs.Federation.{Federation}
use Rattle.co_plain.specs.Invariants.{Stable}
use Rattle.co_plain.specs.MemberView.{recovered_view, first_refused_at_member}
use Rattle.co_plain.specs.Numbers.{has_number, IsAmong}
use Rattle.co_plain.specs.Opening.{Found, OnlyOwnLogs, opened}
use Rattle.co_plain.specs.Runs.{run}
use Rattle.co_plain.specs.SoundLogs.{AreSound, log_votes_for, log_has_voted, log_has_committed, unended_in, has_unended, LogsName, ByVote, ByCommit}
use Rattle.co_law_base.proofs.Lookups.{is_nothing, look_none}
use Rattle.co_law_base.proofs.NumberSets.{among_test}
use Rattle.co_plain.specs.Premises.{AreTrueVerdicts, AreOwn, AreOwnLogs, MayBeOpened}
use Rattle.co_law_node.specs.WholeNodes.{AreWhole}
use Rattle.co_law_node.proofs.Allowed.{tells, allowed_from}
use Rattle.co_law_node.proofs.AllowedCommits.{commits_from, unended_up}
use Rattle.co_law.specs.LeftLogs.{records_left, left}
use Rattle.co_law.proofs.EveryRun.{every_sound}
use Rattle.co_law.proofs.FreshLogs.{empty_openable}
use Rattle.co_law.proofs.Readable.{readable}
use Rattle.co_law.proofs.WholeRuns.{are_whole}

-- votes of an allowed log name coordinators of the federation
vote_among : (coords : ℕ) (rs : List Record) → first_refused_at_member coords (reverse rs) ≡ None → (t c : ℕ) → log_votes_for rs t c ≡ true → IsAmong c coords
vote_among coords rs allowed t c h = by (look (recovered_view rs).voted t) refl h
  where
    by : (o : Option Vote) → look (recovered_view rs).voted t ≡ o → votes_for o c ≡ true → IsAmong c coords
    by None e k = absurd (let z : false ≡ true = k in cc)
    by (Some vote) e k = subst (λ d. IsAmong d coords) (eqb-true vote.coord c k) ((tells coords rs (allowed_from coords rs allowed)).among t vote e)

pub allowed_own : (kinds : List Kind) (coords : ℕ) (fm fc : ℕ → Found) → OnlyOwnLogs kinds coords fm fc →
    ((m : ℕ) → first_refused_at_member coords (reverse (fm m).records) ≡ None) → AreOwnLogs kinds coords fm fc
allowed_own kinds coords fm fc own allowed = record { own = own; votes = λ m t c h. vote_among coords (fm m).records (allowed m) t c h }

-- logs without records
pub empty_may : (kinds : List Kind) (coords : ℕ) (fm fc : ℕ → Found) → ((m : ℕ) → (fm m).records ≡ []) → ((c : ℕ) → (fc c).records ≡ []) → MayBeOpened kinds coords fm fc
empty_may kinds coords fm fc em ec =
    record {
      openable = empty_openable kinds coords fm fc em ec;
      own = allowed_own kinds coords fm fc (record { members = λ m h. em m; coordinators = λ c h. ec c }) allowed;
      members_allowed = allowed;
      coords_allowed = λ c. ap (λ rs. first_refused_at_coord (length kinds) (reverse rs)) (ec c);
    }
  where
    allowed : (m : ℕ) → first_refused_at_member coords (reverse (fm m).records) ≡ None
    allowed m = ap (λ rs. first_refused_at_member coords (reverse rs)) (em m)

-- what a log tells that is left is told by the log of an own node
module _ (most : ℕ) (logs : ℕ → List Record) where
  left_tells : (test : List Record → Bool) → test [] ≡ false → (n : ℕ) → test (records_left most logs n) ≡ true → ((nat_le 1 n && nat_le n most) ≡ true) × (test (logs n) ≡ true)
  left_tells test none n h = by (nat_le 1 n && nat_le n most) refl h
    where
      by : (b : Bool) → (nat_le 1 n && nat_le n most) ≡ b → test (if b then logs n else []) ≡ true → ((nat_le 1 n && nat_le n most) ≡ true) × (test (logs n) ≡ true)
      by true e k = (e, k)
      by false e k = absurd (let z : false ≡ true = sym none ∙ k in cc)

  left_here : (n : ℕ) → (nat_le 1 n && nat_le n most) ≡ true → records_left most logs n ≡ logs n
  left_here n e = ap (λ b. if b then logs n else []) e

  left_holds : {X : Type 0} (f : List Record → Option X) → f [] ≡ None → (n : ℕ) (x : X) → f (records_left most logs n) ≡ Some x → ((nat_le 1 n && nat_le n most) ≡ true) × (f (logs n) ≡ Some x)
  left_holds {X} f none n x h = by (nat_le 1 n && nat_le n most) refl h
    where
      by : (b : Bool) → (nat_le 1 n && nat_le n most) ≡ b → f (if b then logs n else []) ≡ Some x → ((nat_le 1 n && nat_le n most) ≡ true) × (f (logs n) ≡ Some x)
      by true e k = (e, k)
      by false e k = is_nothing (sym none ∙ k)

  left_all : (P : List Record → Type 0) → P [] → ((n : ℕ) → P (logs n)) → (n : ℕ) → P (records_left most logs n)
  left_all P none all n = by (nat_le 1 n && nat_le n most)
    where
      by : (b : Bool) → P (if b then logs n else [])
      by true = all n
      by false = none

-- a number among those up to a bound
up_own : (most : ℕ) (ms : List ℕ) (m : ℕ) → all_up_to most ms ≡ true → has_number ms m ≡ true → (nat_le 1 m && nat_le m most) ≡ true
up_own most [] m a h = absurd (let z : false ≡ true = h in cc)
up_own most (k ∷ ks) m a h = by (up_own most ks m (and_parts _ _ a).1) (or_cases (k == m) (has_number ks m) h)
  where
    by : (has_number ks m ≡ true → (nat_le 1 m && nat_le m most) ≡ true) → ((k == m) ≡ true) ⊎ (has_number ks m ≡ true) → (nat_le 1 m && nat_le m most) ≡ true
    by rest (inl e) = subst (λ j. (nat_le 1 j && nat_le j most) ≡ true) (eqb-true k m e) (and_parts _ _ a).0
    by rest (inr e) = rest e

module _ (n k : ℕ) (ml cl : ℕ → List Record) (sound : AreSound ml cl) (am : (m : ℕ) → first_refused_at_member k (reverse (ml m)) ≡ None)
    (ac : (c : ℕ) → first_refused_at_coord n (reverse (cl c)) ≡ None) where
  votes : (t c m : ℕ) → log_votes_for (records_left n ml m) t c ≡ true → ((nat_le 1 m && nat_le m n) ≡ true) × (log_votes_for (ml m) t c ≡ true)
  votes t c m h = left_tells n ml (λ rs. log_votes_for rs t c) (ap (λ o. votes_for o c) (look_none {X = Vote} t)) m h

  commits : (t c : ℕ) → has_unended (records_left k cl c) t ≡ true → ((nat_le 1 c && nat_le c k) ≡ true) × (has_unended (cl c) t ≡ true)
  commits t c h = left_tells k cl (λ rs. has_unended rs t) (ap is_some (look_none {X = List ℕ} t)) c h

  names : (t c : ℕ) → LogsName (λ m. records_left n ml m) (λ d. records_left k cl d) t c → LogsName ml cl t c
  names t c (ByVote m h) = ByVote m (votes t c m h).1
  names t c (ByCommit h) = ByCommit (commits t c h).1

  -- the coordinator of a vote is one of the federation
  voted_coord : (t c m : ℕ) → log_votes_for (ml m) t c ≡ true → (nat_le 1 c && nat_le c k) ≡ true
  voted_coord t c m h = among_test c k (vote_among k (ml m) (am m) t c h)

  none_left : (test : List Record → Bool) → test [] ≡ false → (most : ℕ) (logs : ℕ → List Record) (j : ℕ) → test (logs j) ≡ false → test (records_left most logs j) ≡ false
  none_left test none most logs j h = by (nat_le 1 j && nat_le j most)
    where
      by : (b : Bool) → test (if b then logs j else []) ≡ false
      by true = h
      by false = none

  unended_back : (t c m : ℕ) → log_votes_for (ml m) t c ≡ true → has_unended (records_left k cl c) t ≡ false → has_unended (cl c) t ≡ false
  unended_back t c m v h = ap (λ rs. has_unended rs t) (sym (left_here k cl c (voted_coord t c m v))) ∙ h

  pub left_sound : AreSound (λ m. records_left n ml m) (λ c. records_left k cl c)
  left_sound =
      record {
        one_coordinator = λ t c d h q. sound.one_coordinator t c d (names t c h) (names t d q);
        participants = λ t c m members h q.
            let e = (left_holds k cl (λ rs. unended_in rs t) (look_none t) c members h).1 in
            let own = up_own n members m (unended_up n (cl c) (commits_from n (cl c) (ac c)) t members e) q in
            ap (λ rs. log_has_voted rs t || log_has_committed rs t) (left_here n ml m own) ∙ sound.participants t c m members e q;
        voters = λ t c m members h q. sound.voters t c m members (left_holds k cl (λ rs. unended_in rs t) (look_none t) c members h).1 (votes t c m q).1;
        undecided = λ t m c h q.
            let v = (votes t c m h).1 in
            let nowhere = sound.undecided t m c v (unended_back t c m v q) in
            record {
              uncommitted = λ j. none_left (λ rs. log_has_committed rs t) (ap is_some (look_none t)) n ml j (nowhere.uncommitted j);
              undecided = λ d. none_left (λ rs. has_commit_of rs t) (ap is_some (look_none t)) k cl d (nowhere.undecided d);
            };
      }

pub every_left : (kinds : List Kind) (coords : ℕ) (fm fc : ℕ → Found) (hs : List Happening) (closed_m closed_c : ℕ → Bool) → 1 ≤ coords → MayBeOpened kinds coords fm fc →
    AreTrueVerdicts hs (opened kinds coords fm fc) → AreOwn (length kinds) coords hs →
    MayBeOpened kinds coords (left (length kinds) (λ m. ((run hs (opened kinds coords fm fc)).member m).log.stable) closed_m)
    (left coords (λ c. ((run hs (opened kinds coords fm fc)).coord c).log.stable) closed_c)
every_left kinds coords fm fc hs closed_m closed_c some g v names =
    record {
      openable = readable kinds coords found_m found_c (left_sound (length kinds) coords ml cl (every_sound kinds coords fm fc hs g.openable v) am ac) own allowed_m;
      own = allowed_own kinds coords found_m found_c own allowed_m;
      members_allowed = allowed_m;
      coords_allowed = left_all coords cl (λ rs. first_refused_at_coord (length kinds) (reverse rs) ≡ None) refl ac;
    }
  where
    s : Federation
    s = run hs (opened kinds coords fm fc)

    whole : AreWhole (length kinds) coords s
    whole = are_whole kinds coords fm fc hs some g.own.own g.members_allowed g.coords_allowed names

    ml : ℕ → List Record
    ml m = (s.member m).log.stable

    cl : ℕ → List Record
    cl c = (s.coord c).log.stable

    am : (m : ℕ) → first_refused_at_member coords (reverse (ml m)) ≡ None
    am m = (whole.member m).readable Stable

    ac : (c : ℕ) → first_refused_at_coord (length kinds) (reverse (cl c)) ≡ None
    ac c = (whole.coord c).readable Stable

    found_m : ℕ → Found
    found_m = left (length kinds) ml closed_m

    found_c : ℕ → Found
    found_c = left coords cl closed_c

    allowed_m : (m : ℕ) → first_refused_at_member coords (reverse (records_left (length kinds) ml m)) ≡ None
    allowed_m = left_all (length kinds) ml (λ rs. first_refused_at_member coords (reverse rs) ≡ None) refl am

    own : OnlyOwnLogs kinds coords found_m found_c
    own = record { members = λ m h. ap (λ b. if b then ml m else []) h; coordinators = λ c h. ap (λ b. if b then cl c else []) h }

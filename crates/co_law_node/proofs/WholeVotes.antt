-- Operations, votes and installs keep a member whole.
use Rattle.std.proofs.Common.{◌≡◌, ◌≢◌, ◌⊎◌, inl, inr, ℕ, true, false, ◌&&◌, ◌==◌, ◌≤◌, ◌<◌, List, [], ◌∷◌, ◌++◌, length, Option, None, Some, refl, sym, ap, ◌∙◌, subst, arith}
use Rattle.std.specs.Option.{is_some}
use Rattle.std.proofs.lemmas.Bool.{or_cases, eqb-true}
use Rattle.co_base.specs.declared.op.Op.{Op}
use Rattle.co_base.specs.Limits.{most_operations}
use Rattle.co_message.specs.declared.answer.Answer.{Answer}
use Rattle.co_message.specs.declared.message.Message.{Message}
use Rattle.co_record.specs.declared.record.Record.TheVariants as log
use Rattle.co_state.specs.declared.engine_state.Install.{Install}
use Rattle.co_state.specs.declared.engine_state.Operation.{Operation}
use Rattle.co_state.specs.declared.engine_state.Vote.{Vote}
use Rattle.co_state.specs.declared.verdict.Verdict.TheVariants.{VoteYes}
use Rattle.co_state.specs.Table.{look, holds, put, without}
use Rattle.co_state.specs.Changes.{sets_of}
use Rattle.co_state.specs.EngineState.{operations_of}
use Rattle.co_state.specs.ReadRule.{snapshot_of}
use Rattle.co_state.specs.Effects.{with_operation, after_cast, install_vote}
use Rattle.co_state.specs.VotingRule.{vote_of}
use Rattle.co_plain.specs.declared.member_state.MemberState.{MemberState}
use Rattle.co_plain.specs.MemberView.{member_allows, recovered_view, cast_in, install_in, with_number, Numbers}
use Rattle.co_plain.specs.MemberStep.{force_member, with_engine}
use Rattle.co_plain.specs.Member.{prepare_record, voted_state, installed_state}
use Rattle.co_plain.specs.Invariants.{Memory, view, stands}
use Rattle.co_law_engine.proofs.YesTells.{yes_parts, yes_apart}
use Rattle.co_law_base.proofs.Lookups.{put_cases, put_here, without_cases, found_holds}
use Rattle.co_law_base.proofs.Commits.{holds_new, holds_more}
use Rattle.co_law_base.proofs.ViewMoves.{neither_stands, holds_put, cast_leaves, install_leaves}
use Rattle.co_law_base.proofs.ViewRules.{apart_ways}
use Rattle.co_law_node.specs.WholeMembers.{was_installed}
use Rattle.co_plain.specs.Numbers.{IsAmong}
use Rattle.co_law_node.proofs.Allowed.{Allowed, may_vote}
use Rattle.co_law_node.proofs.WholeMoves.{Whole, Forcible, IsActiveHere, runs, forces, more_headed, fewer_marked}

-- one more install, and its number
more_installed : (is : List Install) (committed : Numbers) (i : Install) → ((u : ℕ) → was_installed is u ≡ true → holds committed u ≡ true) →
    (u : ℕ) → was_installed (i ∷ is) u ≡ true → holds (with_number committed i.txn) u ≡ true
more_installed is committed i old u h = by (or_cases (i.txn == u) (was_installed is u) h)
  where
    by : ((i.txn == u) ≡ true) ⊎ (was_installed is u ≡ true) → holds (with_number committed i.txn) u ≡ true
    by (inl e) = ap (holds (with_number committed i.txn)) (sym (eqb-true i.txn u e)) ∙ holds_new committed i.txn
    by (inr k) = holds_more committed i.txn u (old u k)

ap_le : (xs ys : List Operation) → xs ≡ ys → 1 ≤ length xs → 1 ≤ length ys
ap_le xs ys e h = subst (λ zs. 1 ≤ length zs) e h

module _ (coords : ℕ) (x : MemberState) (w : Whole coords x) where
  -- the operations of a transaction with one more
  abbrev with_one : ℕ → Op → List Operation
  with_one t op = record { op = op; stamp = snapshot_of x.engine t } ∷ operations_of x.engine t

  -- an operation
  pub operates : (t : ℕ) (op : Op) → x.up ≡ true → stands (view Memory x) t ≡ false → length (operations_of x.engine t) < most_operations →
      Whole coords (with_engine x (with_operation x.engine t op))
  operates t op u n few =
      record {
        allowed = w.allowed;
        headed = w.headed;
        aborts = w.aborts;
        logged = w.logged;
        keeps = record {
          active = λ k os h. active k os (put_cases x.engine.active t (with_one t op) k os h);
          installed = w.keeps.installed;
          marked = λ k mark h. let q = w.keeps.marked k mark h in (holds_put x.engine.active t (with_one t op) k q.0, q.1, q.2);
        };
        down = runs x u;
      }
    where
      active : (k : ℕ) (os : List Operation) →
          ((t ≡ k) × (with_one t op ≡ os)) ⊎ ((t ≢ k) × (look x.engine.active k ≡ Some os)) → IsActiveHere x k os
      active k os (inl p) = (
        ap (stands (view Memory x)) (sym p.0) ∙ n,
        ap_le (with_one t op) os p.1 (omega arith),
        subst (λ ops. length ops ≤ most_operations) p.1 (omega (arith, few)),
      )
      active k os (inr p) = w.keeps.active k os p.1

  behind : 1 ≤ length (x.log.waiting ++ x.log.stable)
  behind = more_headed [] x.log.waiting x.log.stable w.headed

  -- a transaction that votes, with what it read and wrote
  abbrev own_vote : ℕ → ℕ → ℕ → Vote
  own_vote t coord count = record { coord = coord; count = count; sets = sets_of (operations_of x.engine t) }

  vote_allowed : (t coord count carried : ℕ) → vote_of x.engine t carried ≡ VoteYes → stands (view Memory x) t ≡ false → IsAmong coord coords →
      Allowed coords (prepare_record t coord count (sets_of (operations_of x.engine t)) ∷ (x.log.waiting ++ x.log.stable))
  vote_allowed t coord count carried granted n own = (
    subst (λ v. member_allows coords (length (x.log.waiting ++ x.log.stable)) v (prepare_record t coord count (sets_of (operations_of x.engine t))) ≡ true) (sym w.logged)
        (may_vote coords (length (x.log.waiting ++ x.log.stable)) (view Memory x) t coord (sets_of (operations_of x.engine t)) behind
        (neither_stands (view Memory x) t n).0 (neither_stands (view Memory x) t n).1 own
        (λ u other e. (apart_ways (sets_of (operations_of x.engine t)) other.sets (yes_apart x.engine t carried u other (yes_parts x.engine t carried granted) (another u other e) e)).1)),
    w.allowed,
  )
    where
      another : (u : ℕ) (other : Vote) → look x.engine.voted u ≡ Some other → t ≢ u
      another u other e same =
          let z : true ≡ false = sym (found_holds x.engine.voted u other e) ∙ ap (holds x.engine.voted) (sym same) ∙ (neither_stands (view Memory x) t n).0 in cc

  -- who is left active once a transaction has voted
  left_active : (t : ℕ) (vote : Vote) (k : ℕ) (os : List Operation) → look (without x.engine.active t) k ≡ Some os →
      (stands (cast_in (view Memory x) t vote) k ≡ false) × (1 ≤ length os) × (length os ≤ most_operations)
  left_active t vote k os h =
      let p = without_cases x.engine.active t k os h in
      let a = w.keeps.active k os p.1 in
      (cast_leaves (view Memory x) t vote k p.0 a.0, a.1, a.2)

  -- a yes is forced
  pub casts : (m t coord count : ℕ) (a : Answer) (message : Option Message) → x.up ≡ true → vote_of x.engine t count ≡ VoteYes →
      stands (view Memory x) t ≡ false → IsAmong coord coords →
      Whole coords (force_member m (voted_state x t coord count) (prepare_record t coord count (sets_of (operations_of x.engine t)) ∷ []) a message).state
  casts m t coord count a message u granted n own =
      forces coords m (voted_state x t coord count) (prepare_record t coord count (sets_of (operations_of x.engine t)) ∷ []) a message
      (record {
        allowed = vote_allowed t coord count count granted n own;
        headed = w.headed;
        up = u;
        logged = ap (λ v. cast_in v t (own_vote t coord count)) w.logged;
        keeps = record {
          active = left_active t (own_vote t coord count);
          installed = w.keeps.installed;
          marked = fewer_marked coords x w t;
        };
      })

  -- the state after the install of a vote
  abbrev with_install : ℕ → Option Vote → MemberState
  with_install t o = record { up = x.up; engine = install_vote x.engine t o; committed = with_number x.committed t; asked = x.asked; log = x.log }

  -- the decision to commit is forced
  pub installs : (m t : ℕ) (a : Answer) (message : Option Message) → x.up ≡ true → holds x.engine.voted t ≡ true →
      Whole coords (force_member m (installed_state x t) (log.Commit t [] ∷ []) a message).state
  installs m t a message u v = forces coords m (installed_state x t) (log.Commit t [] ∷ []) a message (by (look x.engine.voted t) refl)
    where
      active : (vote : Vote) (k : ℕ) (os : List Operation) → look x.engine.active k ≡ Some os → IsActiveHere (with_install t (Some vote)) k os
      active vote k os h = let a = w.keeps.active k os h in (install_leaves (view Memory x) t vote v k a.0, a.1, a.2)

      by : (o : Option Vote) → look x.engine.voted t ≡ o → Forcible coords (with_install t o) (log.Commit t [] ∷ [])
      by None e = absurd (let z : false ≡ true = sym (ap is_some e) ∙ v in cc)
      by (Some vote) e =
          record {
            allowed = (ap (λ z. z && true) (ap (λ z. holds z.voted t) w.logged ∙ v), w.allowed);
            headed = w.headed;
            up = u;
            logged = ap (λ z. install_in z t (look z.voted t)) w.logged ∙ ap (install_in (view Memory x) t) e;
            keeps = record {
              active = active vote;
              installed = more_installed x.engine.installed x.committed (record { txn = t; writes = vote.sets.writes }) w.keeps.installed;
              marked = w.keeps.marked;
            };
          }

  -- the state after a vote and its install
  abbrev with_own_install : ℕ → ℕ → ℕ → Option Vote → MemberState
  with_own_install t coord count o =
      record {
        up = x.up;
        engine = install_vote (after_cast x.engine t coord count) t o;
        committed = with_number x.committed t;
        asked = without x.asked t;
        log = x.log;
      }

  -- a local transaction votes and commits in one batch
  pub commits_alone : (m t coord count carried : ℕ) (a : Answer) (message : Option Message) → x.up ≡ true → vote_of x.engine t carried ≡ VoteYes →
      stands (view Memory x) t ≡ false → IsAmong coord coords →
      Whole coords (force_member m (installed_state (voted_state x t coord count) t)
      (log.Commit t [] ∷ prepare_record t coord count (sets_of (operations_of x.engine t)) ∷ []) a message).state
  commits_alone m t coord count carried a message u granted n own =
      forces coords m (installed_state (voted_state x t coord count) t)
      (log.Commit t [] ∷ prepare_record t coord count (sets_of (operations_of x.engine t)) ∷ []) a message
      (by (look (put x.engine.voted t (own_vote t coord count)) t) refl)
    where
      active : (vote : Vote) (k : ℕ) (os : List Operation) → look (without x.engine.active t) k ≡ Some os → IsActiveHere (with_own_install t coord count (Some vote)) k os
      active vote k os h =
          let p = left_active t (own_vote t coord count) k os h in (
            install_leaves (cast_in (view Memory x) t (own_vote t coord count)) t vote (ap is_some (put_here x.engine.voted t (own_vote t coord count))) k p.0,
            p.1,
            p.2,
          )

      by : (o : Option Vote) → look (put x.engine.voted t (own_vote t coord count)) t ≡ o →
          Forcible coords (with_own_install t coord count o) (log.Commit t [] ∷ prepare_record t coord count (sets_of (operations_of x.engine t)) ∷ [])
      by None e = absurd (let z : false ≡ true = sym (ap is_some e) ∙ ap is_some (put_here x.engine.voted t (own_vote t coord count)) in cc)
      by (Some vote) e =
          record {
            allowed = (
              ap (λ z. z && true) (ap is_some (put_here (recovered_view (x.log.waiting ++ x.log.stable)).voted t (own_vote t coord count))),
              vote_allowed t coord count carried granted n own,
            );
            headed = w.headed;
            up = u;
            logged = ap (λ z. install_in (cast_in z t (own_vote t coord count)) t (look (put z.voted t (own_vote t coord count)) t)) w.logged
                ∙ ap (install_in (cast_in (view Memory x) t (own_vote t coord count)) t) e;
            keeps = record {
              active = active vote;
              installed = more_installed x.engine.installed x.committed (record { txn = t; writes = vote.sets.writes }) w.keeps.installed;
              marked = fewer_marked coords x w t;
            };
          }

-- What the events of settling leave at one member, at one transaction.
use Rattle.std.proofs.Common.{◌≡◌, ℕ, Bool, true, false, ◌||◌, ◌≤◌, [], ◌∷◌, Option, None, Some, refl, sym, ap, ◌∙◌, subst, arith}
use Rattle.std.specs.Option.{is_some}
use Rattle.co_message.specs.declared.answer.Answer.TheVariants as answer
use Rattle.co_message.specs.declared.message.Message.TheVariants as message
use Rattle.co_state.specs.declared.verdict.Verdict.{Verdict}
use Rattle.co_state.specs.declared.verdict.Verdict.TheVariants.{LostOperations, StaleRead, HeldBy, VoteYes}
use Rattle.co_state.specs.declared.engine_state.Vote.{Vote}
use Rattle.co_state.specs.Table.{look, holds, put, without}
use Rattle.co_state.specs.Changes.{sets_of}
use Rattle.co_state.specs.Effects.{after_install, install_vote}
use Rattle.co_state.specs.EngineState.{operations_of}
use Rattle.co_plain.specs.declared.log_state.LogState.{LogState}
use Rattle.co_base.specs.declared.leaves.Stop.{Stop}
use Rattle.co_plain.specs.declared.member_state.MemberState.{MemberState}
use Rattle.co_plain.specs.declared.member_step.MemberStep.{MemberStep}
use Rattle.co_plain.specs.LogWrite.{outcome_of, with_batch}
use Rattle.co_plain.specs.MemberStep.{with_log, dropped, forced_by}
use Rattle.co_plain.specs.Member.{prepare_record, voted_state, installed_state, with_mark, vote_by}
use Rattle.co_plain.specs.Quiet.{is_free, busy_at}
use Rattle.co_law_base.proofs.Lookups.{put_here, put_there, without_here, without_there}
use Rattle.co_law_settle.specs.SettlingMeasure.{weight, weight_at}
use Rattle.co_law_settle.proofs.Falling.{MemberFalls, weight_least}

pub falls_twice : (t : ℕ) (x y z : MemberState) → MemberFalls t x y → MemberFalls t y z → MemberFalls t x z
falls_twice t x y z f g =
    record {
      unarmed = g.unarmed;
      up = λ u. g.up (f.up u);
      others = λ u n a b. g.others u n a b ∙ f.others u n a b;
      as_busy = λ u n. g.as_busy u n ∙ f.as_busy u n;
      falls = λ a b. let p = f.falls a b in let q = g.falls a b in omega (arith, p, q);
    }

pub member_same : (t : ℕ) (x : MemberState) → x.log.armed ≡ None → MemberFalls t x x
member_same t x e = record { unarmed = e; up = λ u. u; others = λ u n a b. refl; as_busy = λ u n. refl; falls = λ a b. omega arith }

mark_lowers : (active asked voted a b k : Bool) → active ≡ true → k ≡ true → weight active k voted a b ≤ weight active asked voted a b
mark_lowers true true voted a b true e h = omega arith
mark_lowers true false voted a b true e h = omega arith
mark_lowers true asked voted a b false e h = absurd (let z : false ≡ true = h in cc)
mark_lowers false asked voted a b k e h = absurd (let z : false ≡ true = e in cc)

vote_lowers : (active asked voted a b k : Bool) → active ≡ true → weight false k true a b ≤ weight active asked voted a b
vote_lowers true true voted true b k e = omega arith
vote_lowers true true voted false b k e = omega arith
vote_lowers true false voted true b k e = omega arith
vote_lowers true false voted false b k e = omega arith
vote_lowers false asked voted a b k e = absurd (let z : false ≡ true = e in cc)

install_lowers : (active asked a b : Bool) → weight active asked false a b ≤ weight active asked true a b
install_lowers true true a b = omega arith
install_lowers true false a b = omega arith
install_lowers false asked true b = omega arith
install_lowers false asked false true = omega arith
install_lowers false asked false false = omega arith

module _ (x : MemberState) (t : ℕ) where
  -- a dropped transaction is nowhere
  pub dropped_weight : (l : LogState) (a b : Bool) → weight_at (with_log (dropped x t) l) t a b ≡ weight false (holds (without x.asked t) t) false a b
  dropped_weight l a b = λ i. weight (is_some (without_here x.engine.active t i)) (holds (without x.asked t) t) (is_some (without_here x.engine.voted t i)) a b

  pub dropped_falls : (l : LogState) → l.armed ≡ None → MemberFalls t x (with_log (dropped x t) l)
  dropped_falls l e =
      record {
        unarmed = e;
        up = λ u. u;
        others = λ u n a b i. weight (is_some (without_there x.engine.active t u n i)) (is_some (without_there x.asked t u n i)) (is_some (without_there x.engine.voted t u n i)) a b;
        as_busy = λ u n i. is_some (without_there x.engine.voted t u n i) || is_some (without_there x.asked t u n i);
        falls = λ a b. subst (λ k. k ≤ weight_at x t a b) (sym (dropped_weight l a b))
            (weight_least (holds x.engine.active t) (holds x.asked t) (holds x.engine.voted t) a b (holds (without x.asked t) t));
      }

  -- nor is it busy
  pub dropped_idle : (l : LogState) → busy_at (with_log (dropped x t) l) t ≡ false
  dropped_idle l = λ i. is_some (without_here x.engine.voted t i) || is_some (without_here x.asked t i)

  -- a marked one was asked
  pub marked_weight : (c n : ℕ) → holds x.engine.active t ≡ true → (a b : Bool) → weight_at (with_mark x t c n) t a b ≡ 2
  marked_weight c n h a b = λ i. weight (h i) (is_some (put_here x.asked t (record { coord = c; count = n }) i)) (holds x.engine.voted t) a b

  pub marked_falls : (c n : ℕ) → x.log.armed ≡ None → holds x.engine.active t ≡ true → MemberFalls t x (with_mark x t c n)
  marked_falls c n e h =
      record {
        unarmed = e;
        up = λ u. u;
        others = λ u k a b i. weight (holds x.engine.active u) (is_some (put_there x.asked t (record { coord = c; count = n }) u k i)) (holds x.engine.voted u) a b;
        as_busy = λ u k i. holds x.engine.voted u || is_some (put_there x.asked t (record { coord = c; count = n }) u k i);
        falls = λ a b. mark_lowers (holds x.engine.active t) (holds x.asked t) (holds x.engine.voted t) a b
            (holds (put x.asked t (record { coord = c; count = n })) t) h (ap is_some (put_here x.asked t (record { coord = c; count = n })));
      }

  -- a vote
  pub voted_weight : (c n : ℕ) (l : LogState) (a b : Bool) → weight_at (with_log (voted_state x t c n) l) t a b ≡ weight false (holds (without x.asked t) t) true a b
  voted_weight c n l a b =
      λ i. weight (is_some (without_here x.engine.active t i)) (holds (without x.asked t) t)
      (is_some (put_here x.engine.voted t (record { coord = c; count = n; sets = sets_of (operations_of x.engine t) }) i)) a b

  pub voted_falls : (c n : ℕ) (l : LogState) → l.armed ≡ None → holds x.engine.active t ≡ true → MemberFalls t x (with_log (voted_state x t c n) l)
  voted_falls c n l e h =
      record {
        unarmed = e;
        up = λ u. u;
        others = λ u k a b i. weight (is_some (without_there x.engine.active t u k i)) (is_some (without_there x.asked t u k i))
            (is_some (put_there x.engine.voted t (record { coord = c; count = n; sets = sets_of (operations_of x.engine t) }) u k i)) a b;
        as_busy = λ u k i. is_some (put_there x.engine.voted t (record { coord = c; count = n; sets = sets_of (operations_of x.engine t) }) u k i) || is_some (without_there x.asked t u k i);
        falls = λ a b. subst (λ k. k ≤ weight_at x t a b) (sym (voted_weight c n l a b))
            (vote_lowers (holds x.engine.active t) (holds x.asked t) (holds x.engine.voted t) a b (holds (without x.asked t) t) h);
      }

-- an install
module _ (x : MemberState) (t : ℕ) (vote : Vote) (l : LogState) (v : look x.engine.voted t ≡ Some vote) where
  -- what the engine has after
  engine_after : after_install x.engine t ≡ install_vote x.engine t (Some vote)
  engine_after = ap (install_vote x.engine t) v

  weight_after : (u : ℕ) (a b : Bool) → weight_at (with_log (installed_state x t) l) u a b ≡ weight (holds x.engine.active u) (holds x.asked u) (holds (without x.engine.voted t) u) a b
  weight_after u a b = ap (λ z. weight (holds z.active u) (holds x.asked u) (holds z.voted u) a b) engine_after

  pub installed_weight : (a b : Bool) → weight_at (with_log (installed_state x t) l) t a b ≡ weight (holds x.engine.active t) (holds x.asked t) false a b
  installed_weight a b = weight_after t a b ∙ ap (λ o. weight (holds x.engine.active t) (holds x.asked t) (is_some o) a b) (without_here x.engine.voted t)

  pub installed_falls : l.armed ≡ None → MemberFalls t x (with_log (installed_state x t) l)
  installed_falls e =
      record {
        unarmed = e;
        up = λ u. u;
        others = λ u n a b. weight_after u a b ∙ ap (λ o. weight (holds x.engine.active u) (holds x.asked u) (is_some o) a b) (without_there x.engine.voted t u n);
        as_busy = λ u n. ap (λ z. holds z.voted u || holds x.asked u) engine_after ∙ ap (λ o. is_some o || holds x.asked u) (without_there x.engine.voted t u n);
        falls = λ a b. subst (λ k. k ≤ weight_at x t a b) (sym (installed_weight a b))
            (subst (λ k. weight (holds x.engine.active t) (holds x.asked t) false a b ≤ weight (holds x.engine.active t) (holds x.asked t) k a b) (sym (ap is_some v))
            (install_lowers (holds x.engine.active t) (holds x.asked t) a b));
      }

pub data VoteDid (m : ℕ) (x : MemberState) (t c n : ℕ) (v : Verdict) (did : MemberStep) : Type 0 where
  SaysNo : did.state ≡ dropped x t → did.sent ≡ Some (message.Vote t m c false) → VoteDid m x t c n v did
  SaysYes : (l : LogState) → l.armed ≡ None → did.state ≡ with_log (voted_state x t c n) l → did.sent ≡ Some (message.Vote t m c true) → VoteDid m x t c n v did
  Holds : is_free v ≡ false → did.state ≡ x → did.sent ≡ None → VoteDid m x t c n v did

-- the write of a yes, by the armed stop
abbrev forced : (m : ℕ) (x : MemberState) (t c n : ℕ) → Option Stop → MemberStep
forced m x t c n o =
    forced_by m (voted_state x t c n) (prepare_record t c n (sets_of (operations_of x.engine t)) ∷ []) answer.Yes (Some (message.Vote t m c true)) (outcome_of o 4)

pub vote_did : (m : ℕ) (x : MemberState) (t c n : ℕ) → x.log.armed ≡ None → (v : Verdict) → VoteDid m x t c n v (vote_by m x t c n v)
vote_did m x t c n e LostOperations = SaysNo refl refl
vote_did m x t c n e (StaleRead key) = SaysNo refl refl
vote_did m x t c n e (HeldBy u) = Holds refl refl refl
vote_did m x t c n e VoteYes =
    SaysYes (with_batch x.log (prepare_record t c n (sets_of (operations_of x.engine t)) ∷ [])) refl (ap (λ o. (forced m x t c n o).state) e) (ap (λ o. (forced m x t c n o).sent) e)

-- Logs without records may be opened, fresh ones among them.
use Rattle.std.proofs.Common.{◌≡◌, ℕ, Bool, true, false, List, [], reverse, refl, sym, ap, ◌∙◌, subst}
use Rattle.std.specs.Option.{is_some}
use Rattle.co_base.specs.declared.head.Kind.{Kind}
use Rattle.co_state.specs.declared.engine_state.Vote.{Vote}
use Rattle.co_plain.specs.MemberView.{first_refused_at_member}
use Rattle.co_plain.specs.Opening.{Found}
use Rattle.co_plain.specs.Decisions.{votes_for}
use Rattle.co_plain.specs.SoundLogs.{AreSound, log_votes_for, has_unended, LogsName, ByVote, ByCommit}
use Rattle.co_law_base.proofs.Lookups.{is_nothing, look_none}
use Rattle.co_plain.specs.Premises.{AreOpenable}
use Rattle.co_law.proofs.Readable.{readable}

no_vote : {A : Type 0} (t c : ℕ) → log_votes_for [] t c ≡ true → A
no_vote t c h = absurd (let z : false ≡ true = sym (ap (λ o. votes_for o c) (look_none {X = Vote} t)) ∙ h in cc)

no_commit : {A : Type 0} (t : ℕ) → has_unended [] t ≡ true → A
no_commit t h = absurd (let z : false ≡ true = sym (ap is_some (look_none {X = List ℕ} t)) ∙ h in cc)

no_name : {A : Type 0} (t c : ℕ) → LogsName (λ m. []) (λ d. []) t c → A
no_name t c (ByVote m h) = no_vote t c h
no_name t c (ByCommit h) = no_commit t h

fresh_sound : AreSound (λ m. []) (λ c. [])
fresh_sound =
    record {
      one_coordinator = λ t c d h k. no_name t c h;
      participants = λ t c m members h k. is_nothing (sym (look_none t) ∙ h);
      voters = λ t c m members h k. is_nothing (sym (look_none t) ∙ h);
      undecided = λ t m c h k. no_vote t c h;
    }

-- logs without records, whatever their spare files have
pub empty_openable : (kinds : List Kind) (coords : ℕ) (fm fc : ℕ → Found) → ((m : ℕ) → (fm m).records ≡ []) → ((c : ℕ) → (fc c).records ≡ []) → AreOpenable kinds coords fm fc
empty_openable kinds coords fm fc em ec =
    readable kinds coords fm fc
    (subst (λ logs. AreSound logs (λ c. (fc c).records)) (λ i m. sym (em m) i) (subst (λ logs. AreSound (λ m. []) logs) (λ i c. sym (ec c) i) fresh_sound))
    (record { members = λ m h. em m; coordinators = λ c h. ec c })
    (λ m. ap (λ rs. first_refused_at_member coords (reverse rs)) (em m))

pub fresh_openable : (kinds : List Kind) (coords : ℕ) (closed_member closed_coord : ℕ → Bool) →
    AreOpenable kinds coords (λ m. record { records = []; spare_closed = closed_member m }) (λ c. record { records = []; spare_closed = closed_coord c })
fresh_openable kinds coords closed_member closed_coord =
    empty_openable kinds coords (λ m. record { records = []; spare_closed = closed_member m }) (λ c. record { records = []; spare_closed = closed_coord c }) (λ m. refl) (λ c. refl)

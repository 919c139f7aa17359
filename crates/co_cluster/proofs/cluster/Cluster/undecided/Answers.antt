use Rattle.std.proofs.Common.{◌≡◌, ◌↔◌, ℕ, true, length, subst}
use Rattle.std.specs.Prelude.{Contains}
use Rattle.std.specs.FinMap.{keys}
use Rattle.std.proofs.lemmas.Result.{IfOk-weaker}
use Rattle.co_base.specs.Order.{IsAscending}
use Rattle.co_plain.specs.MemberView.{Numbers}
use Rattle.co_cluster.specs.Listed.{is_undecided_up, any_to, AreNoted}
use Rattle.co_cluster.proofs.Listing.{noted_listed, keys_listed}
use Rattle.co_cluster.proofs.cluster.Cluster.undecided.Goals as goal

pub returns-clause-ascending : goal.returns-clause-ascending
returns-clause-ascending g c =
    let all = c.note_all_running.new.found in
    IfOk-weaker c.numbers_in.result (λ txns. txns ≡ keys all) IsAscending (λ txns is. keys_listed all txns is) c.numbers_in.ensures

pub returns-clause-listed : goal.returns-clause-listed
returns-clause-listed g c = λ s r.
    let all = c.note_all_running.new.found in
    let test = λ (t : ℕ). any_to (length s.kinds) (λ m. is_undecided_up (s.member m) t) in
    IfOk-weaker c.numbers_in.result (λ txns. txns ≡ keys all) (λ txns. (t : ℕ) → Contains txns t ↔ (test t ≡ true))
    (λ txns is. noted_listed test all txns is (subst (λ (old : Numbers). AreNoted test old all) c.new-found.ensures (c.in_ok-note_all_running.ensures s r))) c.numbers_in.ensures

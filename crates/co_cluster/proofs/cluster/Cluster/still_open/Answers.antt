use Rattle.std.proofs.Common.{◌≡◌, ◌↔◌, ℕ, subst}
use Rattle.std.specs.Prelude.{Contains}
use Rattle.std.specs.FinMap.{keys}
use Rattle.std.proofs.lemmas.Result.{IfOk-weaker}
use Rattle.co_base.specs.Order.{IsAscending}
use Rattle.co_plain.specs.MemberView.{Numbers}
use Rattle.co_plain.specs.Quiet.{IsOpen}
use Rattle.co_cluster.specs.Listed.{AreNoted}
use Rattle.co_cluster.proofs.Listing.{undecided_anywhere, open_listed, keys_listed}
use Rattle.co_cluster.proofs.cluster.Cluster.still_open.Goals as goal

pub returns-clause-ascending : goal.returns-clause-ascending
returns-clause-ascending g c =
    let all = c.note_coords.new.found in
    IfOk-weaker c.numbers_in.result (λ txns. txns ≡ keys all) IsAscending (λ txns is. keys_listed all txns is) c.numbers_in.ensures

pub returns-clause-listed : goal.returns-clause-listed
returns-clause-listed g c = λ s r.
    let some = c.note_members.new.found in
    let all = c.note_coords.new.found in
    IfOk-weaker c.numbers_in.result (λ txns. txns ≡ keys all) (λ txns. (t : ℕ) → Contains txns t ↔ IsOpen s t)
    (λ txns is. open_listed s some all txns is (subst (λ (old : Numbers). AreNoted (undecided_anywhere s) old some) c.new-found.ensures (c.in_ok-note_members.ensures s r)) (c.in_ok-note_coords.ensures s r)) c.numbers_in.ensures

use Rattle.std.proofs.Common.{◌≡◌, ◌↔◌, ℕ, List, length, flat_map, ap, ◌∙◌}
use Rattle.std.specs.Prelude.{AllPairs, Contains}
use Rattle.std.proofs.lemmas.Result.{IfOk-weaker}
use Rattle.co_plain.specs.Federation.{Federation}
use Rattle.co_cluster.specs.Listed.{found_to, wait_at, IsWait}
use Rattle.co_wait.specs.declared.wait.Wait.{Wait}
use Rattle.co_wait.specs.Chains.{IsWaitBefore}
use Rattle.co_cluster.proofs.Listing.{waits_listed, waits_ascend}
use Rattle.co_cluster.proofs.cluster.Cluster.waits.Goals as goal

abbrev all_of : Federation → List ℕ → List Wait
all_of s ts = flat_map (λ t. found_to (length s.kinds) (wait_at s t)) ts

pub returns-clause-ascending : goal.returns-clause-ascending
returns-clause-ascending g c =
    let s = c.requires.stands.0 in
    let r = c.requires.stands.1 in
    let txns = c.in_ok-txns.ensures in
    IfOk-weaker c.waits_of.result (λ list. list ≡ all_of s c.as_slice.result.now) (AllPairs IsWaitBefore)
    (λ list is. waits_ascend s c.in_ok-txns.txns (txns.listed s r) txns.ascending list (is ∙ ap (all_of s) c.as_slice.ensures.value)) (c.waits_of.ensures s r)

pub returns-clause-waits : goal.returns-clause-waits
returns-clause-waits g c = λ s r.
    let txns = c.in_ok-txns.ensures in
    IfOk-weaker c.waits_of.result (λ list. list ≡ all_of s c.as_slice.result.now) (λ list. (one : Wait) → Contains list one ↔ IsWait s one)
    (λ list is. waits_listed s c.in_ok-txns.txns (txns.listed s r) txns.ascending list (is ∙ ap (all_of s) c.as_slice.ensures.value)) (c.waits_of.ensures s r)

use Rattle.std.proofs.Common.{◌≡◌, ◌↔◌, ℕ, List, length, flat_map, ap, ◌∙◌}
use Rattle.std.specs.Prelude.{AllPairs, Contains}
use Rattle.std.proofs.lemmas.Result.{IfOk-weaker}
use Rattle.co_plain.specs.Federation.{Federation}
use Rattle.co_cluster.specs.Listed.{found_to, doubt_at, IsDoubt, IsDoubtBefore}
use Rattle.co_cluster.specs.declared.doubting.Doubt.{Doubt}
use Rattle.co_cluster.proofs.Listing.{doubts_listed, doubts_ascend}
use Rattle.co_cluster.proofs.cluster.Cluster.doubts.Goals as goal

abbrev all_of : Federation → List ℕ → List Doubt
all_of s ts = flat_map (λ t. found_to (length s.kinds) (doubt_at s t)) ts

pub returns-clause-ascending : goal.returns-clause-ascending
returns-clause-ascending g c =
    let s = c.requires.stands.0 in
    let r = c.requires.stands.1 in
    let txns = c.in_ok-txns.ensures in
    IfOk-weaker c.doubts_of.result (λ list. list ≡ all_of s c.as_slice.result.now) (AllPairs IsDoubtBefore)
    (λ list is. doubts_ascend s c.in_ok-txns.txns (txns.listed s r) txns.ascending list (is ∙ ap (all_of s) c.as_slice.ensures.value)) (c.doubts_of.ensures s r)

pub returns-clause-doubts : goal.returns-clause-doubts
returns-clause-doubts g c = λ s r.
    let txns = c.in_ok-txns.ensures in
    IfOk-weaker c.doubts_of.result (λ list. list ≡ all_of s c.as_slice.result.now) (λ list. (one : Doubt) → Contains list one ↔ IsDoubt s one)
    (λ list is. doubts_listed s c.in_ok-txns.txns (txns.listed s r) txns.ascending list (is ∙ ap (all_of s) c.as_slice.ensures.value)) (c.doubts_of.ensures s r)

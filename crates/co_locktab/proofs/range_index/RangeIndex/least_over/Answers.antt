use Rattle.std.proofs.Common.{◌≡◌, ℕ, List, ◌+◌, ◌-◌, ◌≤◌, None, Some, length, take, ap, ◌∙◌, subst, arith, false, rules}
use Rattle.std.specs.Ordering.{is_gt}
use Rattle.co_base.specs.Letters.{IsText}
use Rattle.co_locktab.specs.declared.fork.Fork.{Fork}
use Rattle.co_locktab.specs.Forks.{byte_at, fork_with, with_middle}
use Rattle.co_locktab.specs.Places.{fork_cmp, IsFirstFrom}
use Rattle.co_locktab.specs.Weighed.{Weighs}
use Rattle.co_locktab.proofs.Looking.{SeenBehind, SeenOfKey, SeenUpTo, weighs_nothing, none_up_to, weighs_more, more_up_to, weighs_rest, weighs_least}
use Rattle.co_locktab.proofs.Starting.{start_of, starts_ascend}
use Rattle.co_locktab.proofs.range_index.RangeIndex.least_over.Goals as goal

pub loop-shared-init : goal.loop-shared-init
loop-shared-init c = record {
  weighed = λ x. weighs_nothing c.args.self.now.held c.args.key.now c.args.t None (SeenUpTo c.args.key.now 0) (none_up_to c.args.key.now);
  known = subst (λ (f : Fork). IsFirstFrom c.args.self.now.forks.lower f c.first_from-next.result) c.at.ensures c.first_from-next.ensures;
}

pub loop-shared-preserved : goal.loop-shared-preserved
loop-shared-preserved c =
    let held = c.args.self.now.held in
    let set = c.args.self.now.forks.lower in
    let key = c.args.key.now in
    let shared = c.loop-shared.shared in
    let least = c.loop-shared.least in
    let result = c.least_behind-least.result in
    let first = c.next_from-next.result in
    let some : c.loop-shared.next ≡ Some c.in-Some.known = search rules in
    let text : IsText 32 key = subst (IsText 32) c.text-text.ensures.value c.text-text.ensures.valid in
    let is : c.at-start.result ≡ start_of key shared = c.at-start.ensures ∙ ap (λ (text : List ℕ). fork_with (take shared text) 0) c.text-text.ensures.value in
    let next : c.byte_at.result ≡ byte_at key shared = c.byte_at.ensures ∙ ap (λ (text : List ℕ). byte_at text shared) c.text-text.ensures.value in
    let later : is_gt (fork_cmp (start_of key (shared - 1)) c.at-start.result) ≡ false = ap (λ (f : Fork). is_gt (fork_cmp (start_of key (shared - 1)) f)) is ∙ starts_ascend key text shared in
    let known : IsFirstFrom set (start_of key shared) first =
    subst (λ (f : Fork). IsFirstFrom set f first) is (c.next_from-next.ensures (start_of key (shared - 1)) later
    (subst (IsFirstFrom set (start_of key (shared - 1))) some c.loop-shared.invariant.known)) in
    let back : shared ≡ shared + 1 - 1 = omega arith in
    record {
      weighed = λ x.
          let w : IsFirstFrom set (with_middle (start_of key shared) 0) first → Weighs held key c.args.t least result (SeenBehind (start_of key shared) c.byte_at.result 8) =
          subst (λ (f : Fork). IsFirstFrom set (with_middle f 0) first → Weighs held key c.args.t least result (SeenBehind f c.byte_at.result 8)) is (c.least_behind-least.ensures x) in
          let v : Weighs held key c.args.t least result (SeenOfKey key shared) =
          subst (λ (b : ℕ). Weighs held key c.args.t least result (SeenBehind (start_of key shared) b 8)) next (w known) in
          weighs_more held key c.args.t None least result (SeenUpTo key shared) (SeenOfKey key shared) (SeenUpTo key (shared + 1)) (c.loop-shared.invariant.weighed x) v (more_up_to key shared);
      known = subst (λ (n : ℕ). IsFirstFrom set (start_of key n) first) back known;
    }

pub returns-in_default : goal.returns-in_default
returns-in_default c = λ x.
    let held = c.args.self.now.held in
    let forks = c.args.self.now.forks in
    let key = c.args.key.now in
    let shared = c.loop-shared.shared in
    let least = c.loop-shared.least in
    let text : IsText 32 key = subst (IsText 32) c.text-text.ensures.value c.text-text.ensures.valid in
    let none : c.loop-shared.next ≡ None = search rules in
    weighs_least held forks key c.args.t x least
    (weighs_rest held forks key c.args.t least shared (length key + 1) x text (subst (IsFirstFrom forks.lower (start_of key (shared - 1))) none c.loop-shared.invariant.known) (c.loop-shared.invariant.weighed x))

pub returns : goal.returns
returns c = λ x.
    let held = c.args.self.now.held in
    let key = c.args.key.now in
    let same : length c.text-text.result.now ≡ length key = ap (λ (text : List ℕ). length text) c.text-text.ensures.value in
    let end : c.loop-shared.shared ≤ length c.text-text.result.now + 1 = c.loop-shared.auto.shared-end in
    let all : c.loop-shared.shared ≡ length key + 1 = omega arith in
    weighs_least held c.args.self.now.forks key c.args.t x c.loop-shared.least
    (subst (λ (n : ℕ). Weighs held key c.args.t None c.loop-shared.least (SeenUpTo key n)) all (c.loop-shared.invariant.weighed x))

use Rattle.std.proofs.Common.{rules, ℕ, ◌≡◌, ◌<◌, ◌∙◌, subst, sym}
use Rattle.co_locktab.specs.declared.fork.Fork.{Fork}
use Rattle.co_locktab.specs.Forks.{byte_at, common_length, fork_of, IsOnPath}
use Rattle.co_locktab.proofs.Forking.{fork_on_path}
use Rattle.co_locktab.proofs.fork.Fork.of.Goals as goal

pub returns-clause-path : goal.returns-clause-path
returns-clause-path c = λ key e.
    let range = c.args.range.now in
    let is : c.at.result ≡ fork_of range = search rules in
    let lo : c.text-lo.result.now ≡ range.lo = c.text-lo.ensures.value ∙ c.lo.ensures in
    let hi : c.text-hi.result.now ≡ range.hi = c.text-hi.ensures.value ∙ c.hi.ensures in
    let shared : c.common_length-shared.result ≡ common_length range.lo range.hi = c.common_length-shared.ensures.value ∙ (λ i. common_length (lo i) (hi i)) in
    let low : byte_at range.lo (common_length range.lo range.hi) < 256 = subst (λ (b : ℕ). b < 256) (c.byte_at-byte.ensures ∙ (λ i. byte_at (lo i) (shared i))) c.byte_at-byte.type_inv in
    let high : byte_at range.hi (common_length range.lo range.hi) < 256 = subst (λ (b : ℕ). b < 256) (c.byte_at.ensures ∙ (λ i. byte_at (hi i) (shared i))) c.byte_at.type_inv in
    subst (λ (f : Fork). IsOnPath key f) (sym is) (fork_on_path range key e low high)

use Rattle.std.proofs.Common.{◌≡◌, ◌<◌, ◌≤◌, ◌+◌, ℕ, Option, None, Some, sym, ap, ◌∙◌, subst, arith}
use Rattle.co_locktab.specs.Forks.{fork_of, middle_of, with_middle}
use Rattle.co_locktab.specs.declared.fork.Fork.{Fork}
use Rattle.co_locktab.specs.Places.{IsLastBelow}
use Rattle.co_locktab.specs.Weighed.{Weighs}
use Rattle.co_locktab.proofs.Forking.{middle_fits}
use Rattle.co_locktab.proofs.Looking.{SeenFrom, SeenAt, bare_below, bare_after, weighs_fewer, weighs_more, more_beside}
use Rattle.co_locktab.proofs.range_index.RangeIndex.least_beside.Goals as goal
use Rattle.co_locktab.proofs.range_index.RangeIndex.least_beside.Goals.{then-first-middle+then-middle-last, else-first-middle, else-first-middle-via-then-first-middle+else-middle-last, else-first-middle-via-else-first-middle}

pub returns-in_default : goal.returns-in_default
returns-in_default c = λ x.
    bare_below c.args.self.now.held c.args.self.now.forks c.args.key.now c.args.t x c.args.first c.args.byte (λ height l. middle_fits height c.args.byte l c.ranges.byte.fits)
    c.args.before (subst (λ (f : Fork). IsLastBelow c.args.self.now.forks.lower f None) c.with_middle.ensures c.in_default.ensures)

pub loop-height-preserved : goal.loop-height-preserved
loop-height-preserved c = λ x.
    let held = c.args.self.now.held in
    let key = c.args.key.now in
    let first = c.args.first in
    let byte = c.args.byte in
    let height = c.loop-height.height in
    let least = c.loop-height.least in
    let last : IsLastBelow c.args.self.now.forks.lower (with_middle first 256) (Some c.in-Some.last) =
    subst (λ (f : Fork). IsLastBelow c.args.self.now.forks.lower f (Some c.in-Some.last)) c.with_middle.ensures c.in-Some.ensures in
    let is : c.middle_of-middle.result ≡ middle_of height byte = c.middle_of-middle.ensures in
    let more : (after : Option ℕ) → Weighs held key c.args.t least after (SeenAt first byte height) → Weighs held key c.args.t c.args.before after (SeenFrom first byte (height + 1)) =
    λ after w. weighs_more held key c.args.t c.args.before least after (SeenFrom first byte height) (SeenAt first byte height) (SeenFrom first byte (height + 1)) (c.loop-height.invariant x) w (more_beside first byte height) in
    let bare : (first.middle ≤ middle_of height byte → c.in-Some.last.middle < middle_of height byte) → Weighs held key c.args.t least least (SeenAt first byte height) =
    λ out. bare_after held c.args.self.now.forks key c.args.t x first byte (λ h l. middle_fits h byte l c.ranges.byte.fits) least c.in-Some.last height c.loop-height-test.true last out in
    elim c.if-first-middle.branch [
      | then-first-middle+then-middle-last w ↦
          subst (λ (after : Option ℕ). Weighs held key c.args.t c.args.before after (SeenFrom first byte (height + 1))) (sym w.least-is)
          (more w.least_at-least.result
          (weighs_fewer held key c.args.t least w.least_at-least.result (λ s. fork_of s ≡ w.with_middle-then-middle-last.result) (SeenAt first byte height)
          (λ s seen. seen.1 ∙ ap (with_middle first) (sym is) ∙ sym w.with_middle-then-middle-last.ensures) (w.least_at-least.ensures x)))
      | else-first-middle w ↦
          subst (λ (after : Option ℕ). Weighs held key c.args.t c.args.before after (SeenFrom first byte (height + 1))) (sym w.least-is)
          (more least (bare (λ l. elim w.else-first-middle.branch [
            | else-first-middle-via-then-first-middle+else-middle-last v ↦ subst (λ (n : ℕ). c.in-Some.last.middle < n) is v.if-middle-last.false
            | else-first-middle-via-else-first-middle v ↦ absurd (omega (arith, l, is, v.if-first-middle.false))
          ])))
    ]

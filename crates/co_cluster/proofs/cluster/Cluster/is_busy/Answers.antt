use Rattle.std.proofs.Common.{◌≡◌, ◌≤◌, ℕ, true, false, length, refl, sym, ◌∙◌, arith}
use Rattle.co_plain.specs.Federation.{Federation}
use Rattle.co_state.specs.Table.{look}
use Rattle.co_plain.specs.Quiet.{busy_at, busy_in, IsBusy, BusyAt, BusyIn}
use Rattle.co_cluster.proofs.Readers.{is_member, is_coord}
use Rattle.co_cluster.proofs.cluster.Cluster.is_busy.Goals as goal

none_busy : (s : Federation) (t : ℕ) → ((c : ℕ) → 1 ≤ c → c ≤ s.coordinators → busy_in (look (s.coord c).table t) ≡ false) → ((m : ℕ) → 1 ≤ m → m ≤ length s.kinds → busy_at (s.member m) t ≡ false) → IsBusy s t → ⊥
none_busy s t coords members (BusyAt m i h) = let z : true ≡ false = sym h ∙ members m i.0 i.1 in cc
none_busy s t coords members (BusyIn c i h) = let z : true ≡ false = sym h ∙ coords c i.0 i.1 in cc

pub returns-then-is_busy_in : goal.returns-then-is_busy_in
returns-then-is_busy_in g c = λ s r. (
  λ h. BusyIn c.loop-coord.coord (is_coord g.E.Engine.takes g.E.Engine.stands_for c.args.self.now s r c.loop-coord.coord (omega arith) (omega arith)) (sym (c.is_busy_in.ensures s r) ∙ c.if-is_busy_in.true),
  λ h. refl,
)

pub returns-then-is_busy_at : goal.returns-then-is_busy_at
returns-then-is_busy_at g c = λ s r. (
  λ h. BusyAt c.loop-member.member (is_member g.E.Engine.takes g.E.Engine.stands_for c.args.self.now s r c.loop-member.member (omega arith) (omega arith)) (sym (c.is_busy_at.ensures s r) ∙ c.if-is_busy_at.true),
  λ h. refl,
)

pub returns : goal.returns
returns g c = λ s r.
    let i = c.loop-member.invariant s r in (
      λ h. absurd (let z : false ≡ true = h in cc),
      λ h. absurd (none_busy s c.args.t i.0 (λ m from to. i.1 m from (let n = c.member_count-member-end.ensures.count in let q = r.kinds in let z = c.loop-member-test.false in omega (arith, n, q, z, to))) h),
    )

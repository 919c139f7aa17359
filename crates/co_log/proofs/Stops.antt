-- Stops within two device calls.
use Rattle.std.proofs.Common.{◌≡◌, ℕ, ◌+◌, ◌-◌, ◌<◌, ◌≤◌, Bool, true, false, refl, sym, ap, subst, ◌∙◌, arith, inl, inr}
use Rattle.std.specs.Prelude.{Option, Some, None, nat_le, if◌then◌else◌, option_map, List, []}
use Rattle.std.proofs.lemmas.Bool.{cases_Bool}
use Rattle.std.proofs.lemmas.Bool.Decides.{nat_tests}
use Rattle.co_base.specs.declared.leaves.Leaves.{Leaves}
use Rattle.co_disk.specs.DiskModel.{DiskState, stable_disk}
use Rattle.co_disk.specs.DiskView.{DiskView}
use Rattle.co_disk.specs.Stops.{IsStopped, IsLeft, stop_here, after_call, armed_for}
use Rattle.co_disk.specs.declared.stop.Armed.{Armed}
use Rattle.co_base.specs.declared.leaves.Stop.{Stop}
use Rattle.co_log.specs.BatchWrite.{batch_pending, gate_pending, disk_at}
use Rattle.co_log.specs.Stopping.{IsStoppedWithin, HasPassed, after_calls, IsWriteStopped}

some_is : (a s : Armed) → Some a ≡ Some s → a ≡ s
some_is a s e = cc

here_is : (armed : Option Armed) (s : Armed) → stop_here armed ≡ Some s → (armed ≡ Some s) × (s.left ≤ 1)
here_is None s e = absurd (cc)
here_is (Some a) s e =
    elim (cases_Bool (nat_le a.left 1)) [
      | inl le ↦
          let same : Some a ≡ Some s = sym (ap (λ (b : Bool). if b then Some a else None) le) ∙ e in
          (same, subst (λ (x : Armed). x.left ≤ 1) (some_is a s same) (grind (arith, nat_tests)))
      | inr gt ↦ absurd (let none : None ≡ Some s = sym (ap (λ (b : Bool). if b then Some a else None) gt) ∙ e in cc)
    ]

-- the first call was the armed one
pub at_first : (armed : Option Armed) (call : ℕ) (before : DiskState) (after : DiskView) → IsStopped armed call before after → IsStoppedWithin 2 armed call before after
at_first armed call before after s =
    let here = here_is armed s.stop s.here in
    record { stop = s.stop; is = here.0; within = omega (arith, here.1); number = s.number; left = s.left; gone = s.gone }

second_is : (armed : Option Armed) (s : Armed) → after_call armed ≡ Some s → (a : Armed) × (armed ≡ Some a) × (a.left ≤ s.left + 1) × (a.call ≡ s.call) × (a.leaves ≡ s.leaves)
second_is None s e = absurd (cc)
second_is (Some a) s e =
    let next : Armed = record { call = a.call; left = a.left - 1; leaves = a.leaves } in
    elim (cases_Bool (nat_le a.left 1)) [
      | inl le ↦ absurd (let none : None ≡ Some s = sym (ap (λ (b : Bool). if b then None else Some next) le) ∙ e in cc)
      | inr gt ↦
          let same : next ≡ s = some_is next s (sym (ap (λ (b : Bool). if b then None else Some next) gt) ∙ e) in
          (a, refl, omega (arith, ap (λ (x : Armed). x.left) same), ap (λ (x : Armed). x.call) same, ap (λ (x : Armed). x.leaves) same)
    ]

-- the second call was the armed one
pub at_second : (armed mid : Option Armed) (call : ℕ) (before : DiskState) (after : DiskView) → mid ≡ after_call armed → IsStopped mid call before after → IsStoppedWithin 2 armed call before after
at_second armed mid call before after e s =
    let here = here_is mid s.stop s.here in
    let first = second_is armed s.stop (sym e ∙ here.0) in
    record {
      stop = first.0;
      is = first.1;
      within = omega (arith, first.2, here.1);
      number = first.3 ∙ s.number;
      left = subst (λ (l : Leaves). IsLeft before l after.state) (sym first.4) s.left;
      gone = s.gone;
    }

abbrev pub armed_of : Option Stop → Option Armed
armed_of stop = option_map (λ (s : Stop). armed_for s.call s.leaves) stop

-- a stop within the first two device calls of a log write
pub stopped_first : (stop : Option Stop) (armed : Option Armed) (call : ℕ) (before : ℕ → DiskState) (mid : DiskState) (after : DiskView) → armed ≡ armed_of stop → IsStoppedWithin 2 armed call mid after → ((n : ℕ) → n ≤ 2 → mid ≡ before n)
    → IsWriteStopped stop call before after
stopped_first None armed call before mid after e w same = absurd (let h : None ≡ Some w.stop = sym e ∙ w.is in cc)
stopped_first (Some s) armed call before mid after e w same =
    let it : armed_for s.call s.leaves ≡ w.stop = some_is (armed_for s.call s.leaves) w.stop (sym e ∙ w.is) in
    let number : s.call ≡ call = ap (λ (a : Armed). a.call) it ∙ w.number in
    let leaves : s.leaves ≡ w.stop.leaves = ap (λ (a : Armed). a.leaves) it in
    let few : call ≤ 2 = omega (arith, number, ap (λ (a : Armed). a.left) it, w.within) in
    record {
      leaves = s.leaves;
      is = ap (λ (c : ℕ). Some (let x : Stop = record { call = c; leaves = s.leaves } in x)) number;
      left = subst (λ (l : Leaves). IsLeft (before call) l after.state) (sym leaves) (subst (λ (d : DiskState). IsLeft d w.stop.leaves after.state) (same call few) w.left);
      gone = w.gone;
    }

-- a stop within the last two
pub stopped_second : (stop : Option Stop) (armed later : Option Armed) (call : ℕ) (before : ℕ → DiskState) (mid : DiskState) (after : DiskView) → armed ≡ armed_of stop → HasPassed 2 armed → later ≡ after_calls 2 armed → IsStoppedWithin 2 later call mid after
    → ((n : ℕ) → 2 < n → mid ≡ before n) → IsWriteStopped stop call before after
stopped_second None armed later call before mid after e passed l w same = absurd (let h : None ≡ Some w.stop = sym (ap (after_calls 2) e) ∙ sym l ∙ w.is in cc)
stopped_second (Some s) armed later call before mid after e passed l w same =
    let next : Armed = record { call = s.call; left = s.call - 2; leaves = s.leaves } in
    let it : next ≡ w.stop = some_is next w.stop (sym (ap (after_calls 2) e) ∙ sym l ∙ w.is) in
    let number : s.call ≡ call = ap (λ (a : Armed). a.call) it ∙ w.number in
    let leaves : s.leaves ≡ w.stop.leaves = ap (λ (a : Armed). a.leaves) it in
    let many : 2 < call = omega (arith, number, passed (armed_for s.call s.leaves) e) in
    record {
      leaves = s.leaves;
      is = ap (λ (c : ℕ). Some (let x : Stop = record { call = c; leaves = s.leaves } in x)) number;
      left = subst (λ (l : Leaves). IsLeft (before call) l after.state) (sym leaves) (subst (λ (d : DiskState). IsLeft d w.stop.leaves after.state) (same call many) w.left);
      gone = w.gone;
    }

-- a disk on which nothing pends
pub all_stable : (disk : DiskState) → disk.pending ≡ [] → disk ≡ stable_disk disk.stable
all_stable disk e = ap (λ ps. let d : DiskState = record { stable = disk.stable; pending = ps } in d) e

pub early : (bytes : List ℕ) (gate : ℕ) (batch : List ℕ) (n : ℕ) → n ≤ 2 → batch_pending bytes gate batch ≡ disk_at n bytes gate batch
early bytes gate batch n few = ap (λ (b : Bool). if b then batch_pending bytes gate batch else gate_pending bytes gate batch) (let h : true ≡ nat_le n 2 = grind (arith, nat_tests) in h)

pub late : (bytes : List ℕ) (gate : ℕ) (batch : List ℕ) (n : ℕ) → 2 < n → gate_pending bytes gate batch ≡ disk_at n bytes gate batch
late bytes gate batch n many = ap (λ (b : Bool). if b then batch_pending bytes gate batch else gate_pending bytes gate batch) (let h : false ≡ nat_le n 2 = grind (arith, nat_tests) in h)

-- nothing is stopped where nothing is armed
pub never_stopped : (calls : ℕ) (armed : Option Armed) (call : ℕ) (before : DiskState) (after : DiskView) → armed ≡ None → IsStoppedWithin calls armed call before after → ⊥
never_stopped calls armed call before after none s = let h : None ≡ Some s.stop = sym none ∙ s.is in absurd (cc)

-- a stop within two device calls has one of their numbers
pub stopped_early : (stop : Option Stop) (armed : Option Armed) (call : ℕ) (mid : DiskState) (after : DiskView) → armed ≡ armed_of stop → IsStoppedWithin 2 armed call mid after → IsWriteStopped stop call (λ n. mid) after × (call ≤ 2)
stopped_early stop armed call mid after e w = (stopped_first stop armed call (λ n. mid) mid after e w (λ n few. refl), few stop e)
  where
    few : (s : Option Stop) → armed ≡ armed_of s → call ≤ 2
    few None none = absurd (let h : None ≡ Some w.stop = sym none ∙ w.is in cc)
    few (Some s) some =
        let it : armed_for s.call s.leaves ≡ w.stop = some_is (armed_for s.call s.leaves) w.stop (sym some ∙ w.is) in
        omega (arith, ap (λ (a : Armed). a.call) it, w.number, ap (λ (a : Armed). a.left) it, w.within)

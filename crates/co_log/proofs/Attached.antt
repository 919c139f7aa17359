-- Files that are in use, or not, as they are attached.
use Rattle.std.proofs.Common.{◌≡◌, ℕ, ◌<◌, ◌≤◌, true, false, List, [], length, ◌∷◌, ◌⊎◌, refl, sym, ap, subst, ◌∙◌, arith, inl, inr}
use Rattle.std.specs.Prelude.{Option, Some, None, Result, Ok, Err, nat_lt, IfSome, IfNone, IfErr}
use Rattle.std.proofs.lemmas.Bool.Decides.{nat_tests}
use Rattle.co_base.specs.Limits.{most_log_bytes}
use Rattle.co_outside.specs.declared.spot.Spot.{Spot}
use Rattle.co_outside.specs.Home.{File}
use Rattle.co_disk.specs.DiskView.{DiskView}
use Rattle.co_base.specs.declared.node.Node.{Node}
use Rattle.co_frame.specs.LogText.{IsLogText, gated}
use Rattle.co_record.specs.declared.record.Record.{Record}
use Rattle.co_record.specs.declared.record.Record.TheVariants.{Header}
use Rattle.co_record.specs.Stored.{HoldRecords}
use Rattle.co_log.specs.Fresh.{IsFresh}
use Rattle.co_log.specs.LogFile.{EndsIn}
use Rattle.co_log.specs.LogView.{LogView, IsLive}
use Rattle.co_log.specs.Attaching.{used_of, IsToldAs, IsLonger, IsWithin, IsAttached, IsCurrent, IsGood, AreTwins, IsBadPair}
use Rattle.co_log.specs.declared.fault.LogFault.{LogFault}
use Rattle.co_log.specs.declared.fault.LogFault.TheVariants.{Bad}
use Rattle.co_log.proofs.Unmade.{read_stable}

more_than_one : (d : DiskView) → d.state.pending ≡ [] → used_of (Some d) ≡ true → 1 < length d.state.stable
more_than_one d still used =
    let h : nat_lt 1 (length d.state.stable) ≡ true = ap (λ (b : List ℕ). nat_lt 1 (length b)) (sym (read_stable d.state still)) ∙ used in
    grind (arith, nat_tests)

at_most_one : (d : DiskView) → d.state.pending ≡ [] → used_of (Some d) ≡ false → length d.state.stable ≤ 1
at_most_one d still used =
    let h : nat_lt 1 (length d.state.stable) ≡ false = ap (λ (b : List ℕ). nat_lt 1 (length b)) (sym (read_stable d.state still)) ∙ used in
    grind (arith, nat_tests)

pub used_longer : (o : Option DiskView) (spot : Spot) (file : Option File) → used_of o ≡ true → IfSome o (λ d. IsToldAs spot file d) → IfNone o (IsLonger most_log_bytes file) → IsLonger 1 file
used_longer None spot file used told long = λ f is. omega (arith, long f is)
used_longer (Some d) spot file used told long = λ f is. omega (arith, more_than_one d told.still used, ap (λ (b : List ℕ). length b) (told.told f is))

pub unused_within : (o : Option DiskView) (spot : Spot) (file : Option File) → used_of o ≡ false → IfSome o (λ d. IsToldAs spot file d) → IsWithin 1 file
unused_within None spot file used told = absurd (cc)
unused_within (Some d) spot file used told = λ f is. omega (arith, at_most_one d told.still used, ap (λ (b : List ℕ). length b) (told.told f is))

pub unused_text : (d : DiskView) → d.state.pending ≡ [] → used_of (Some d) ≡ false → IsLogText d.state.stable []
unused_text d still used = inl (at_most_one d still used, refl)

-- ---- what an attached log stands for

pub behind_front : (version : ℕ) (bytes : List ℕ) (gate : ℕ) (x : ℕ × Record) (items : List (ℕ × Record)) → EndsIn version bytes gate (x ∷ items) → 0 < gate
behind_front version bytes gate x items e = by_batches e.batches e.place e.holds
  where
    by_batches : (batches : List (List ℕ)) → gate ≡ length (gated batches) → HoldRecords version 0 batches (x ∷ items) → 0 < gate
    by_batches [] at holds = absurd (let none : x ∷ items ≡ [] = holds in cc)
    by_batches (b ∷ bs) at holds = omega (arith, at)

current_stands : (node : Node) (current spare : DiskView) (log : LogView) → current.state.pending ≡ [] → IsCurrent node current spare log → (items : List (ℕ × Record)) × IsLive log items
current_stands node current spare log still c =
    let first : ℕ × Record = (5, Header node c.generation) in
    subst (λ (l : LogView). (items : List (ℕ × Record)) × IsLive l items) (sym c.is)
    (first ∷ c.file.0, record { made = behind_front c.version current.state.stable c.gate first c.file.0 c.file.2; known = c.file.1; still = still; ends = c.file.2 })

pub attached_stands : (node : Node) (a b : DiskView) (log : LogView) → a.state.pending ≡ [] → b.state.pending ≡ [] → IsAttached node a b log → IsFresh log ⊎ ((items : List (ℕ × Record)) × IsLive log items)
attached_stands node a b log still_a still_b attached = elim attached [
  | inl fresh ↦ inl (subst IsFresh (sym fresh.0) record { unmade = refl; version = refl; still = still_a; spare_still = still_b; none = fresh.1; spare_none = fresh.2 })
  | inr live ↦ inr (elim live [ inl one ↦ current_stands node a b log still_a one | inr other ↦ current_stands node b a log still_b other ])
]

-- two files of one generation are no log
pub twins_bad : (node : Node) (a b : DiskView) (result : Result LogView LogFault) → IsGood node a.state.stable → IfErr result (λ e. (e ≡ Bad b.spot 0) × AreTwins node a.state.stable b.state.stable) → IfErr result (IsBadPair node a b)
twins_bad node a b (Ok log) good told = tt
twins_bad node a b (Err e) good told = subst (IsBadPair node a b) (sym told.0) (inr (refl, good, inr (refl, told.1)))

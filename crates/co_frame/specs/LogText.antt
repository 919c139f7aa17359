-- The log text: batches, each behind an open gate, up to the first gate that is not open.
use Rattle.std.specs.Prelude.{◌≡◌, ◌≢◌, ℕ, ◌+◌, ◌≤◌, ◌<◌, ◌^◌, ◌⊎◌, List, [], ◌∷◌, ◌++◌, length, drop, slice_range, Option, Some, None, Result, Ok, Err}
use Rattle.std.specs.List.{flat_map, AllByRecursion}
use Rattle.std.specs.Int.{w32, to_be_bytes}
use Rattle.co_frame.specs.declared.batch.Batch.{Batch}
use Rattle.co_frame.specs.declared.fault.FrameFault.{FrameFault}
use Rattle.co_frame.specs.declared.fault.FrameFault.TheVariants.{Broken}

-- the byte of an open gate; every other byte is a gate that is not open
abbrev pub open_gate : ℕ
open_gate = 165

-- the byte that closes a gate
abbrev pub closed_gate : ℕ
closed_gate = 0

-- a batch has at least one byte of records, and its length stands in four bytes
abbrev pub IsBatch : List ℕ → Type 0
IsBatch records = (1 ≤ length records) × (length records < 2 ^ 32)

-- a batch as it stands in a file: its length, then its records
abbrev pub batch_text : List ℕ → List ℕ
batch_text records = to_be_bytes w32 (length records) ++ records

-- batches, each behind an open gate
abbrev pub gated : List (List ℕ) → List ℕ
gated batches = flat_map (λ records. open_gate ∷ batch_text records) batches

-- these batches, each behind an open gate, then a gate that is not open, then whatever
pub record IsGated (bytes : List ℕ) (batches : List (List ℕ)) : Type 0 where
  pub each : AllByRecursion IsBatch batches
  pub gate : ℕ
  pub rest : List ℕ
  pub closed : gate ≢ open_gate
  pub text : bytes ≡ gated batches ++ gate ∷ rest

-- a text of at most one byte has no batch, and any other has those in front of its first gate that is not open
abbrev pub IsLogText : List ℕ → List (List ℕ) → Type 0
IsLogText bytes batches = ((length bytes ≤ 1) × (batches ≡ [])) ⊎ ((1 < length bytes) × IsGated bytes batches)

-- a whole batch stands at the front, and a gate behind it
pub record HasBatch (behind : List ℕ) : Type 0 where
  pub records : List ℕ
  pub batch : IsBatch records
  pub gate : ℕ
  pub rest : List ℕ
  pub text : behind ≡ batch_text records ++ gate ∷ rest

-- behind these batches stands an open gate without a whole batch and a gate behind it
pub record IsBrokenBehind (bytes : List ℕ) (batches : List (List ℕ)) : Type 0 where
  pub each : AllByRecursion IsBatch batches
  pub behind : List ℕ
  pub text : bytes ≡ gated batches ++ open_gate ∷ behind
  pub broken : ¬ (HasBatch behind)

-- a text of more than one byte is broken at the first open gate without a whole batch and a gate behind it
pub record IsBrokenAt (bytes : List ℕ) (at : ℕ) : Type 0 where
  pub made : 1 < length bytes
  pub batches : List (List ℕ)
  pub behind : IsBrokenBehind bytes batches
  pub place : at ≡ length (gated batches)

-- how far a walk over a text has come: the text, and the place of the next gate
pub record GateWalk : Type 0 where
  pub source : List ℕ
  pub at : ℕ

-- the walk has passed these batches, and its gate stands behind them
pub record HasPassed (walk : GateWalk) (batches : List (List ℕ)) : Type 0 where
  pub each : AllByRecursion IsBatch batches
  pub text : walk.source ≡ gated batches ++ drop walk.at walk.source
  pub place : walk.at ≡ length (gated batches)

-- What a step of a walk tells, where it has passed these batches before: the next batch, which it
-- then has passed too; or that these were all; or that the text is broken here. Only a batch moves it.
abbrev pub Tells : GateWalk → Option (Result Batch FrameFault) → GateWalk → List (List ℕ) → Type 0
Tells old None new batches = IsLogText old.source batches × (new ≡ old)
Tells old (Some (Err (Broken at))) new batches = IsBrokenAt old.source at × (at ≡ old.at) × (new ≡ old)
Tells old (Some (Ok batch)) new batches = HasPassed new (batches ++ batch.records.now ∷ []) × (new.source ≡ old.source)

-- a lent batch is the source's slice at its place, behind a gate and four bytes of length
abbrev pub IsLentFrom : GateWalk → Batch → Type 0
IsLentFrom old batch = IsBatch batch.records.now × (batch.at ≡ old.at + 5) × (batch.records.now ≡ slice_range old.source batch.at (batch.at + length batch.records.now))

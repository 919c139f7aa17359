-- The status of records, by how they were read and put.
use Rattle.std.proofs.Common.{◌≡◌, ◌⊎◌, inl, inr, ℕ, List, ◌++◌, take, refl, Option, Some, Result, Ok, Err}
use Rattle.std.specs.Prelude.{OnOk, OnErr}
use Rattle.co_base.specs.Limits.{most_coordinators, most_members}
use Rattle.co_outside.specs.declared.sink.SinkFault.{SinkFault}
use Rattle.co_outside.specs.declared.sink.SinkFault.TheVariants as sink
use Rattle.co_outside.specs.declared.spot.Spot.{Spot}
use Rattle.co_outside.specs.Home.{File}
use Rattle.co_serial.specs.declared.member_row.MemberRow.{MemberRow}
use Rattle.co_durable.specs.declared.fault.WorldFault.{WorldFault}
use Rattle.co_durable.specs.declared.fault.WorldFault.TheVariants as world
use Rattle.co_durable.specs.Directory.{IsUnreadable}
use Rattle.co_durable.specs.Durable.{IsDurable, IsUndurable}
use Rattle.co_serial.specs.RecordText.{records_text}
use Rattle.co_durable.specs.Told.{AreTold}
use Rattle.co_durable.proofs.ReadOnce.{undurable_once, durable_or_not}
use Rattle.co_top.specs.Ends.{of_world}
use Rattle.co_top.specs.declared.status.LimitKind.TheVariants as limit
use Rattle.co_top.specs.declared.status.Status.{Status}
use Rattle.co_top.specs.declared.status.Status.TheVariants as status
use Rattle.co_top.specs.Records.{status_of_put, HasCause, HasDurable, HoldsRecords, IsExcused, IsExact}

-- records that were read are put, or the sink fails, or there is no memory
pub put_cause : (file : Spot → Option File) (put : Result (Unit {0}) SinkFault) → HasDurable file → HasCause file (status_of_put put)
put_cause file (Ok u) durable = durable
put_cause file (Err sink.Failed) durable = durable
put_cause file (Err sink.Memory) durable = tt

pub put_holds : (file : Spot → Option File) (held : List ℕ) (told : Option (List ℕ)) (rows : List MemberRow) (put : Result (Unit {0}) SinkFault) → IsDurable file most_members most_coordinators rows →
    OnOk put (told ≡ Some (held ++ records_text rows)) → OnErr put ((count : ℕ) × (told ≡ Some (held ++ take count (records_text rows)))) → HoldsRecords file held told (status_of_put put)
put_holds file held told rows (Ok u) durable whole front = (rows, durable, whole)
put_holds file held told rows (Err sink.Failed) durable whole front = (rows, durable, front)
put_holds file held told rows (Err sink.Memory) durable whole front = inr (rows, durable, front)

-- logs that were not read are told, and nothing is put
pub refusal_cause : (file : Spot → Option File) (fault : WorldFault) → IsUnreadable file fault → HasCause file (of_world fault)
refusal_cause file (world.Device spot) h = h
refusal_cause file (world.Differs spot at kept got) h = absurd h
refusal_cause file (world.InUse spot) h = absurd h
refusal_cause file (world.Bad spot at) h = h
refusal_cause file (world.Full spot) h = h
refusal_cause file world.Count h = absurd h
refusal_cause file (world.Old spot) h = absurd h
refusal_cause file world.Memory h = tt

pub refusal_holds : (file : Spot → Option File) (held : List ℕ) (told : Option (List ℕ)) (fault : WorldFault) → IsUnreadable file fault → told ≡ Some held → HoldsRecords file held told (of_world fault)
refusal_holds file held told (world.Device spot) h same = same
refusal_holds file held told (world.Differs spot at kept got) h same = absurd h
refusal_holds file held told (world.InUse spot) h same = absurd h
refusal_holds file held told (world.Bad spot at) h same = same
refusal_holds file held told (world.Full spot) h same = same
refusal_holds file held told world.Count h same = absurd h
refusal_holds file held told (world.Old spot) h same = absurd h
refusal_holds file held told world.Memory h same = inl same

module _ (file : Spot → Option File) (told : AreTold file most_members most_coordinators) where
  done_of : (ended : Status) → HasCause file ended → (rows : List MemberRow) → IsDurable file most_members most_coordinators rows → (ended ≡ status.Done) ⊎ ((ended ≡ status.Write) ⊎ IsExcused ended)
  done_of status.Done cause rows d = inl refl
  done_of status.Usage cause rows d = absurd cause
  done_of status.Read cause rows d = absurd cause
  done_of status.Write cause rows d = inr (inl refl)
  done_of (status.Device spot) cause rows d = inr (inr tt)
  done_of (status.BadLog spot at) cause rows d = absurd (durable_or_not file most_members most_coordinators rows (world.Bad spot at) told tt d cause)
  done_of (status.Limit (limit.Log spot)) cause rows d = absurd (durable_or_not file most_members most_coordinators rows (world.Full spot) told tt d cause)
  done_of status.Memory cause rows d = inr (inr tt)
  done_of (status.Schedule line what) cause rows d = absurd cause
  done_of (status.Differs other place kept read) cause rows d = absurd cause
  done_of (status.InUse other) cause rows d = absurd cause
  done_of (status.OldLog other) cause rows d = absurd cause
  done_of (status.NotSerial txn number) cause rows d = absurd cause
  done_of (status.Transcript number) cause rows d = absurd cause
  done_of (status.Limit (limit.Line line)) cause rows d = absurd cause
  done_of (status.Limit limit.Lines) cause rows d = absurd cause
  done_of (status.Limit limit.Transactions) cause rows d = absurd cause

  bad_of : (ended : Status) → HasCause file ended → (spot : Spot) (at : ℕ) → IsUndurable file most_members most_coordinators (world.Bad spot at) → (ended ≡ status.BadLog spot at) ⊎ IsExcused ended
  bad_of status.Done cause spot at u = absurd (durable_or_not file most_members most_coordinators cause.0 (world.Bad spot at) told tt cause.1 u)
  bad_of status.Usage cause spot at u = absurd cause
  bad_of status.Read cause spot at u = absurd cause
  bad_of status.Write cause spot at u = absurd (durable_or_not file most_members most_coordinators cause.0 (world.Bad spot at) told tt cause.1 u)
  bad_of (status.Device other) cause spot at u = inr tt
  bad_of (status.BadLog other place) cause spot at u = let e = undurable_once file most_members most_coordinators (world.Bad other place) (world.Bad spot at) told tt tt cause u in inl (cc)
  bad_of (status.Limit (limit.Log other)) cause spot at u = absurd (let e = undurable_once file most_members most_coordinators (world.Full other) (world.Bad spot at) told tt tt cause u in cc)
  bad_of status.Memory cause spot at u = inr tt
  bad_of (status.Schedule line what) cause spot at u = absurd cause
  bad_of (status.Differs other place kept read) cause spot at u = absurd cause
  bad_of (status.InUse other) cause spot at u = absurd cause
  bad_of (status.OldLog other) cause spot at u = absurd cause
  bad_of (status.NotSerial txn number) cause spot at u = absurd cause
  bad_of (status.Transcript number) cause spot at u = absurd cause
  bad_of (status.Limit (limit.Line line)) cause spot at u = absurd cause
  bad_of (status.Limit limit.Lines) cause spot at u = absurd cause
  bad_of (status.Limit limit.Transactions) cause spot at u = absurd cause

  full_of : (ended : Status) → HasCause file ended → (spot : Spot) → IsUndurable file most_members most_coordinators (world.Full spot) → (ended ≡ status.Limit (limit.Log spot)) ⊎ IsExcused ended
  full_of status.Done cause spot u = absurd (durable_or_not file most_members most_coordinators cause.0 (world.Full spot) told tt cause.1 u)
  full_of status.Usage cause spot u = absurd cause
  full_of status.Read cause spot u = absurd cause
  full_of status.Write cause spot u = absurd (durable_or_not file most_members most_coordinators cause.0 (world.Full spot) told tt cause.1 u)
  full_of (status.Device other) cause spot u = inr tt
  full_of (status.BadLog other place) cause spot u = absurd (let e = undurable_once file most_members most_coordinators (world.Bad other place) (world.Full spot) told tt tt cause u in cc)
  full_of (status.Limit (limit.Log other)) cause spot u = let e = undurable_once file most_members most_coordinators (world.Full other) (world.Full spot) told tt tt cause u in inl (cc)
  full_of status.Memory cause spot u = inr tt
  full_of (status.Schedule line what) cause spot u = absurd cause
  full_of (status.Differs other place kept read) cause spot u = absurd cause
  full_of (status.InUse other) cause spot u = absurd cause
  full_of (status.OldLog other) cause spot u = absurd cause
  full_of (status.NotSerial txn number) cause spot u = absurd cause
  full_of (status.Transcript number) cause spot u = absurd cause
  full_of (status.Limit (limit.Line line)) cause spot u = absurd cause
  full_of (status.Limit limit.Lines) cause spot u = absurd cause
  full_of (status.Limit limit.Transactions) cause spot u = absurd cause

  -- a status with its cause is the one that the files give
  pub exact_of : (ended : Status) → HasCause file ended → IsExact file ended
  exact_of ended cause = record { done = done_of ended cause; bad = bad_of ended cause; full = full_of ended cause }

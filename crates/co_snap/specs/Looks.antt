-- What a reader has seen, and the status that `run` has for the fault that ended a schedule.
use Rattle.std.specs.Prelude.{ℕ, ◌≡◌, ◌==◌, if◌then◌else◌, List}
use Rattle.co_snap.specs.declared.look.LookFault.{LookFault}
use Rattle.co_snap.specs.declared.look.LookFault.TheVariants as fault
use Rattle.co_top.specs.Looking.{LookedAfter}
use Rattle.co_top.specs.declared.reader.Ask.{Ask}
use Rattle.co_top.specs.declared.reader.Looked.{Looked}
use Rattle.co_top.specs.declared.reader.Looked.TheVariants as looked
use Rattle.co_top.specs.declared.status.LimitKind.TheVariants as limit
use Rattle.co_top.specs.declared.status.Status.{Status}
use Rattle.co_top.specs.declared.status.Status.TheVariants as status

-- the same question, where a member 0 has a number that no federation has either
abbrev pub numbered : Ask → Ask
numbered ask = record ask { member = if ask.member == 0 then 255 else ask.member }

-- no federation has a member 0
abbrev pub HasSeen : List ℕ → Ask → Looked → Type 0
HasSeen input ask seen = LookedAfter input (numbered ask) seen × (ask.member ≡ 0 → seen ≡ looked.NoMember)

abbrev pub run_status : LookFault → Status
run_status (fault.Schedule line kind) = status.Schedule line kind
run_status fault.Read = status.Read
run_status (fault.Line line) = status.Limit (limit.Line line)
run_status fault.Lines = status.Limit limit.Lines
run_status fault.Transactions = status.Limit limit.Transactions
run_status (fault.Log spot) = status.Limit (limit.Log spot)
run_status fault.Memory = status.Memory

-- What a checkpoint has, what may be written, and how its two steps leave the directory.
use Rattle.std.specs.Prelude.{ℕ, Bool, true, false, ◌≡◌, List, ◌∷◌, map, Some, Result}
use Rattle.std.specs.FinMap.{entries, keys}
use Rattle.co_base.specs.declared.node.Node.TheVariants as node
use Rattle.co_log.specs.LogView.{LogView}
use Rattle.co_log.specs.Spare.{IsOverfull}
use Rattle.co_log.specs.declared.fault.NodeFault.{NodeFault}
use Rattle.co_outside.specs.Home.{HomeView}
use Rattle.co_node.specs.Answers.{IsAnswered}
use Rattle.co_node.specs.declared.written.Written.{Written}
use Rattle.co_pairs.specs.declared.prepared.Prepared.{Prepared}
use Rattle.co_plain.specs.LogWrite.{generation_of}
use Rattle.co_plain.specs.Member.{prepare_record}
use Rattle.co_plain.specs.MemberLog.{member_spare}
use Rattle.co_plain.specs.Numbers.{next_generation}
use Rattle.co_plain.specs.declared.member_state.MemberState.{MemberState}
use Rattle.co_record.specs.Spelling.{IsWritable}
use Rattle.co_record.specs.declared.record.Record.{Record}
use Rattle.co_record.specs.declared.record.Record.TheVariants as log
use Rattle.co_state.specs.Effects.{dumped_rows, dumped_undos}
use Rattle.co_state.specs.Table.{look}
use Rattle.co_state.specs.declared.engine_state.Vote.{Vote}

-- the prepare record of a voted transaction
abbrev pub prepared : ℕ × Vote → Record
prepared e = prepare_record e.0 e.1.coord e.1.count e.1.sets

-- the same record, of a vote that is listed with its number
abbrev pub prepared_again : Prepared → Record
prepared_again p = prepare_record p.txn p.coord p.count p.sets

-- the records of a member as its engine keeps them, what leads back from those of undecided transactions, and the committed ones
abbrev pub point_of : MemberState → Record
point_of x = log.Checkpoint (dumped_rows x.engine.kind x.engine) (dumped_undos x.engine.kind x.engine) (keys x.committed)

-- the records of a filled spare behind its header, oldest first: the checkpoint, and a prepare record for each voted transaction
abbrev pub spare_items : MemberState → List Record
spare_items x = point_of x ∷ map prepared (entries x.engine.voted)

-- the prepare record of each vote can be written again
abbrev pub MayFill : MemberState → Type 0
MayFill x = (t : ℕ) (vote : Vote) → look x.engine.voted t ≡ Some vote → IsWritable (prepare_record t vote.coord vote.count vote.sets)

-- how a step of a checkpoint leaves the directory: a closing, or a filling
abbrev pub IsAnsweredIn : Bool → ℕ → MemberState → LogView → LogView → HomeView → HomeView → Result Written NodeFault → Type 0
IsAnsweredIn false m x log after old new result = IsAnswered (node.Member m) log.spare.spot ⊥ x.log.stable x.log.stable after old new result
IsAnsweredIn true m x log after old new result =
    IsAnswered (node.Member m) log.spare.spot (IsOverfull log (spare_items x)) x.log.stable (member_spare m x (next_generation (generation_of x.log.stable))) after old new result

-- how a checkpoint does
abbrev pub IsCheckpointed : ℕ → MemberState → LogView → LogView → HomeView → HomeView → Result Written NodeFault → Type 0
IsCheckpointed m x log after old new result = IsAnsweredIn x.log.spare_closed m x log after old new result

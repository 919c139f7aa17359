-- Two that write one record, until the second one is asked for its vote.
use Rattle.std.proofs.Common.{◌≡◌, inr, ℕ, true, false, List, [], ◌∷◌, Some, refl, sym, ap, ◌∙◌, subst, arith}
use Rattle.std.specs.FinMap.{gets}
use Rattle.co_base.specs.declared.head.Kind.TheVariants.{Occ}
use Rattle.co_base.specs.declared.op.Op.TheVariants as op
use Rattle.co_base.specs.declared.reply.Reply.{Reply}
use Rattle.co_base.specs.declared.reply.Reply.TheVariants as reply
use Rattle.co_message.specs.declared.message.Message.TheVariants as message
use Rattle.co_serial.specs.SerialRun.{run_whole}
use Rattle.co_state.specs.declared.verdict.Verdict.TheVariants.{HeldBy, VoteYes}
use Rattle.co_state.specs.VotingRule.{vote_of}
use Rattle.co_plain.specs.declared.session.Decided.{Decided}
use Rattle.co_plain.specs.declared.session.Told.{Told}
use Rattle.co_plain.specs.Decisions.{sites_of, InThisRun}
use Rattle.co_plain.specs.Federation.{Federation}
use Rattle.co_plain.specs.Invariants.{ReadsAreSerial}
use Rattle.co_base.specs.declared.node.Node.TheVariants as node
use Rattle.co_state.specs.declared.engine_state.EngineState.{EngineState}
use Rattle.co_state.specs.declared.engine_state.Vote.{Vote}
use Rattle.co_state.specs.Changes.{sets_of}
use Rattle.co_state.specs.Effects.{with_operation, install_vote}
use Rattle.co_state.specs.EngineState.{operations_of}
use Rattle.co_state.specs.ReadRule.{operation_reply}
use Rattle.co_state.specs.Table.{look}
use Rattle.co_record.specs.declared.record.Record.TheVariants as log
use Rattle.co_plain.specs.declared.coord_state.Entry.TheVariants as entry
use Rattle.co_plain.specs.declared.session.Session.{Session}
use Rattle.co_plain.specs.Decisions.{told_of}
use Rattle.co_plain.specs.LogWrite.{with_batch}
use Rattle.co_plain.specs.MemberStep.{with_engine, with_log}
use Rattle.co_plain.specs.MemberView.{with_number}
use Rattle.co_plain.specs.Federation.{with_member, with_coord, with_session}
use Rattle.co_plain.specs.Sessions.{parts_of, with_told, asked_to_end}
use Rattle.co_plain.specs.Moves.{entered_reply, marked_over, decide_entry, decide_members, entry_at, with_entry, Move, Begin, Operate, AskEnd, Collect, Send, Cast, Decide, Install, all_effects, effect, GuardsHold, Guard}
use Rattle.co_plain.specs.Promises.{serial_records}
use Rattle.co_plain.specs.Wire.{was_sent}
use Rattle.co_law_minimal.specs.Rule.{BothWrote, vote_without}
use Rattle.co_law_minimal.specs.Minimal.{fresh, IsNeeded}
use Rattle.co_law_minimal.proofs.Tables.{tables, no_member, some_parts, not_yes}
use Rattle.co_law_minimal.proofs.Walks.{Walks, walks_guards, walks_to}

abbrev pub s0 : Federation
s0 = fresh (Occ ∷ [])

abbrev pub m0 : Move
m0 = Begin 1 1

pub guard0 : Guard s0 m0
guard0 = simp tables refl

abbrev pub s1 : Federation
s1 = effect s0 m0

pub next0 : effect s0 m0 ≡ s1
next0 = refl

abbrev pub m1 : Move
m1 = Begin 2 1

pub guard1 : Guard s1 m1
guard1 = simp tables refl

abbrev pub s2 : Federation
s2 = effect s1 m1

pub next1 : effect s1 m1 ≡ s2
next1 = refl

abbrev pub m2 : Move
m2 = Operate 1 1 (op.Write (120 ∷ []) (49 ∷ []))

abbrev pub session2 : Session
session2 = record { by = node.Coord 1; told = []; asked = false }

abbrev pub told2 : Told
told2 = record { site = record { member = 1; op = op.Write (120 ∷ []) (49 ∷ []) }; reply = reply.Done }

pub found2 : look s2.sessions 1 ≡ Some session2
found2 = simp tables refl

pub reply2 : operation_reply (s2.member 1).engine 1 (op.Write (120 ∷ []) (49 ∷ [])) ≡ reply.Done
reply2 = refl

pub guard2 : Guard s2 m2
guard2 = (simp tables (refl, λ n e. no_member 1 n e), simp tables refl, simp tables (λ e. omega (arith, e)), refl)

abbrev pub s3 : Federation
s3 = with_member (with_session s2 1 (with_told session2 told2)) 1 (with_engine (s2.member 1) (with_operation (s2.member 1).engine 1 (op.Write (120 ∷ []) (49 ∷ []))))

pub next2 : effect s2 m2 ≡ s3
next2 = (λ i. with_member (entered_reply s2 1 1 (op.Write (120 ∷ []) (49 ∷ [])) (found2 i)) 1 (with_engine (s2.member 1) (with_operation (s2.member 1).engine 1 (op.Write (120 ∷ []) (49 ∷ [])))))
    ∙ (λ i. with_member (with_session s2 1 (with_told session2 (record { site = record { member = 1; op = op.Write (120 ∷ []) (49 ∷ []) }; reply = reply2 i }))) 1 (with_engine (s2.member 1) (with_operation (s2.member 1).engine 1 (op.Write (120 ∷ []) (49 ∷ [])))))

abbrev pub m3 : Move
m3 = AskEnd 1

abbrev pub session3 : Session
session3 = record { by = node.Coord 1; told = record { site = record { member = 1; op = op.Write (120 ∷ []) (49 ∷ []) }; reply = reply.Done } ∷ []; asked = false }

pub found3 : look s3.sessions 1 ≡ Some session3
found3 = simp tables refl

pub guard3 : Guard s3 m3
guard3 = simp tables refl

abbrev pub s4 : Federation
s4 = with_session s3 1 (asked_to_end session3)

pub next3 : effect s3 m3 ≡ s4
next3 = (λ i. marked_over s3 1 (found3 i))

abbrev pub m4 : Move
m4 = Collect 1 1

pub parts4 : parts_of (told_of s4 1) ≡ record { member = 1; count = 1 } ∷ []
parts4 = simp tables refl

pub guard4 : Guard s4 m4
guard4 = (simp tables refl, simp tables refl, simp tables refl, simp tables (λ e. some_parts _ _ e))

abbrev pub s5 : Federation
s5 = with_entry s4 1 1 (entry.Collecting (record { member = 1; count = 1 } ∷ []) [])

pub next4 : effect s4 m4 ≡ s5
next4 = (λ i. with_entry s4 1 1 (entry.Collecting (parts4 i) []))

abbrev pub m5 : Move
m5 = Send (message.Prepare 1 1 1 1)

pub guard5 : Guard s5 m5
guard5 = (record { member = 1; count = 1 } ∷ [], [], simp tables refl, refl, simp tables refl)

abbrev pub s6 : Federation
s6 = effect s5 m5

pub next5 : effect s5 m5 ≡ s6
next5 = refl

abbrev pub m6 : Move
m6 = Cast 1 1 1 1

abbrev pub engine_cast1 : EngineState
engine_cast1 = (s6.member 1).engine

pub guard6 : Guard s6 m6
guard6 = (refl, simp tables refl)

abbrev pub s7 : Federation
s7 = effect s6 m6

pub next6 : effect s6 m6 ≡ s7
next6 = refl

abbrev pub m7 : Move
m7 = Send (message.Vote 1 1 1 true)

pub guard7 : Guard s7 m7
guard7 = (simp tables refl, simp tables refl)

abbrev pub s8 : Federation
s8 = effect s7 m7

pub next7 : effect s7 m7 ≡ s8
next7 = refl

abbrev pub m8 : Move
m8 = Operate 2 1 (op.Write (120 ∷ []) (50 ∷ []))

abbrev pub session8 : Session
session8 = record { by = node.Coord 1; told = []; asked = false }

abbrev pub told8 : Told
told8 = record { site = record { member = 1; op = op.Write (120 ∷ []) (50 ∷ []) }; reply = reply.Done }

pub found8 : look s8.sessions 2 ≡ Some session8
found8 = simp tables refl

pub reply8 : operation_reply (s8.member 1).engine 2 (op.Write (120 ∷ []) (50 ∷ [])) ≡ reply.Done
reply8 = refl

pub guard8 : Guard s8 m8
guard8 = (simp tables (refl, λ n e. no_member 1 n e), simp tables refl, simp tables (λ e. omega (arith, e)), refl)

abbrev pub s9 : Federation
s9 = with_member (with_session s8 2 (with_told session8 told8)) 1 (with_engine (s8.member 1) (with_operation (s8.member 1).engine 2 (op.Write (120 ∷ []) (50 ∷ []))))

pub next8 : effect s8 m8 ≡ s9
next8 = (λ i. with_member (entered_reply s8 2 1 (op.Write (120 ∷ []) (50 ∷ [])) (found8 i)) 1 (with_engine (s8.member 1) (with_operation (s8.member 1).engine 2 (op.Write (120 ∷ []) (50 ∷ [])))))
    ∙ (λ i. with_member (with_session s8 2 (with_told session8 (record { site = record { member = 1; op = op.Write (120 ∷ []) (50 ∷ []) }; reply = reply8 i }))) 1 (with_engine (s8.member 1) (with_operation (s8.member 1).engine 2 (op.Write (120 ∷ []) (50 ∷ [])))))

abbrev pub m9 : Move
m9 = AskEnd 2

abbrev pub session9 : Session
session9 = record { by = node.Coord 1; told = record { site = record { member = 1; op = op.Write (120 ∷ []) (50 ∷ []) }; reply = reply.Done } ∷ []; asked = false }

pub found9 : look s9.sessions 2 ≡ Some session9
found9 = simp tables refl

pub guard9 : Guard s9 m9
guard9 = simp tables refl

abbrev pub s10 : Federation
s10 = with_session s9 2 (asked_to_end session9)

pub next9 : effect s9 m9 ≡ s10
next9 = (λ i. marked_over s9 2 (found9 i))

abbrev pub m10 : Move
m10 = Collect 2 1

pub parts10 : parts_of (told_of s10 2) ≡ record { member = 1; count = 1 } ∷ []
parts10 = simp tables refl

pub guard10 : Guard s10 m10
guard10 = (simp tables refl, simp tables refl, simp tables refl, simp tables (λ e. some_parts _ _ e))

abbrev pub s11 : Federation
s11 = with_entry s10 2 1 (entry.Collecting (record { member = 1; count = 1 } ∷ []) [])

pub next10 : effect s10 m10 ≡ s11
next10 = (λ i. with_entry s10 2 1 (entry.Collecting (parts10 i) []))

abbrev pub m11 : Move
m11 = Send (message.Prepare 2 1 1 1)

pub guard11 : Guard s11 m11
guard11 = (record { member = 1; count = 1 } ∷ [], [], simp tables refl, refl, simp tables refl)

abbrev pub s12 : Federation
s12 = effect s11 m11

pub next11 : effect s11 m11 ≡ s12
next11 = refl

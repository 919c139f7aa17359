-- The part of a member, of whatever kind.
use Rattle.std.proofs.Common.{◌≡◌, inr, true, false, List, [], ◌∷◌, ◌++◌, None, Some, refl, ap, ◌∙◌, arith}
use Rattle.co_base.specs.declared.head.Kind.{Kind}
use Rattle.co_base.specs.declared.head.Kind.TheVariants.{Lock, Occ, Mv}
use Rattle.co_base.specs.declared.op.Op.TheVariants as op
use Rattle.co_base.specs.declared.reply.Reply.TheVariants as reply
use Rattle.co_message.specs.declared.message.Message.TheVariants as message
use Rattle.co_plain.specs.declared.session.Told.{Told}
use Rattle.co_plain.specs.Decisions.{InThisRun}
use Rattle.co_plain.specs.Federation.{Federation}
use Rattle.co_base.specs.declared.node.Node.TheVariants as node
use Rattle.co_state.specs.declared.engine_state.EngineState.{EngineState}
use Rattle.co_state.specs.declared.engine_state.Vote.{Vote}
use Rattle.co_state.specs.Changes.{sets_of}
use Rattle.co_state.specs.Effects.{with_operation, install_vote}
use Rattle.co_state.specs.EngineState.{operations_of}
use Rattle.co_state.specs.LockRule.{lock_blocker}
use Rattle.co_state.specs.ReadRule.{operation_reply}
use Rattle.co_state.specs.Table.{look}
use Rattle.co_record.specs.declared.record.Record.TheVariants as log
use Rattle.co_plain.specs.declared.coord_state.Entry.TheVariants as entry
use Rattle.co_plain.specs.declared.session.Session.{Session}
use Rattle.co_plain.specs.Decisions.{told_of}
use Rattle.co_plain.specs.LogWrite.{with_batch}
use Rattle.co_plain.specs.MemberStep.{with_engine, with_log}
use Rattle.co_plain.specs.MemberView.{with_number}
use Rattle.co_plain.specs.Federation.{with_member, with_coord, with_session}
use Rattle.co_plain.specs.Sessions.{parts_of, with_told, asked_to_end}
use Rattle.co_plain.specs.Moves.{entered_reply, marked_over, decide_entry, decide_members, entry_at, with_entry, Move, Begin, Operate, AskEnd, Collect, Send, Cast, Decide, Install, effect, Guard}
use Rattle.co_plain.specs.CommitmentOrder.{Trace, Began, Operated, Committed}
use Rattle.co_law_minimal.specs.Minimal.{fresh}
use Rattle.co_law_order.specs.Joining.{items_of_member}
use Rattle.co_law_own.specs.Part.{PlaysThePart}
use Rattle.co_law_own.proofs.Telling.{WalksTelling, telling_guards, telling_tells}
use Rattle.co_law_minimal.proofs.Tables.{tables, no_member, some_parts}

abbrev s0 : (kind : Kind) → Federation
s0 kind = fresh (kind ∷ [])

abbrev m0 : Move
m0 = Begin 2 1

guard0 : (kind : Kind) → Guard (s0 kind) m0
guard0 kind = simp tables refl

abbrev s1 : (kind : Kind) → Federation
s1 kind = effect (s0 kind) m0

next0 : (kind : Kind) → effect (s0 kind) m0 ≡ s1 kind
next0 kind = refl

abbrev m1 : Move
m1 = Operate 2 1 (op.Read (120 ∷ []))

abbrev session1 : Session
session1 = record { by = node.Coord 1; told = []; asked = false }

abbrev told1 : Told
told1 = record { site = record { member = 1; op = op.Read (120 ∷ []) }; reply = reply.Got None }

found1 : (kind : Kind) → look (s1 kind).sessions 2 ≡ Some session1
found1 kind = simp tables refl

reply1 : (kind : Kind) → operation_reply ((s1 kind).member 1).engine 2 (op.Read (120 ∷ [])) ≡ reply.Got None
reply1 kind = simp tables refl

-- nobody else holds a lock
free1 : (kind : Kind) → lock_blocker ((s1 kind).member 1).engine 2 (op.Read (120 ∷ [])) ≡ None
free1 Lock = simp tables refl
free1 Occ = refl
free1 Mv = refl

guard1 : (kind : Kind) → Guard (s1 kind) m1
guard1 kind = (simp tables (refl, λ n e. no_member 1 n e), simp tables refl, simp tables (λ e. omega (arith, e)), free1 kind)

abbrev s2 : (kind : Kind) → Federation
s2 kind = with_member (with_session (s1 kind) 2 (with_told session1 told1)) 1 (with_engine ((s1 kind).member 1) (with_operation ((s1 kind).member 1).engine 2 (op.Read (120 ∷ []))))

next1 : (kind : Kind) → effect (s1 kind) m1 ≡ s2 kind
next1 kind = (λ i. with_member (entered_reply (s1 kind) 2 1 (op.Read (120 ∷ [])) (found1 kind i)) 1 (with_engine ((s1 kind).member 1) (with_operation ((s1 kind).member 1).engine 2 (op.Read (120 ∷ [])))))
    ∙ (λ i. with_member (with_session (s1 kind) 2 (with_told session1 (record { site = record { member = 1; op = op.Read (120 ∷ []) }; reply = reply1 kind i }))) 1 (with_engine ((s1 kind).member 1) (with_operation ((s1 kind).member 1).engine 2 (op.Read (120 ∷ [])))))

abbrev m2 : Move
m2 = AskEnd 2

abbrev session2 : Session
session2 = record { by = node.Coord 1; told = record { site = record { member = 1; op = op.Read (120 ∷ []) }; reply = reply.Got None } ∷ []; asked = false }

found2 : (kind : Kind) → look (s2 kind).sessions 2 ≡ Some session2
found2 kind = simp tables refl

guard2 : (kind : Kind) → Guard (s2 kind) m2
guard2 kind = simp tables refl

abbrev s3 : (kind : Kind) → Federation
s3 kind = with_session (s2 kind) 2 (asked_to_end session2)

next2 : (kind : Kind) → effect (s2 kind) m2 ≡ s3 kind
next2 kind = (λ i. marked_over (s2 kind) 2 (found2 kind i))

abbrev m3 : Move
m3 = Collect 2 1

parts3 : (kind : Kind) → parts_of (told_of (s3 kind) 2) ≡ record { member = 1; count = 1 } ∷ []
parts3 kind = simp tables refl

guard3 : (kind : Kind) → Guard (s3 kind) m3
guard3 kind = (simp tables refl, simp tables refl, simp tables refl, simp tables (λ e. some_parts _ _ e))

abbrev s4 : (kind : Kind) → Federation
s4 kind = with_entry (s3 kind) 2 1 (entry.Collecting (record { member = 1; count = 1 } ∷ []) [])

next3 : (kind : Kind) → effect (s3 kind) m3 ≡ s4 kind
next3 kind = (λ i. with_entry (s3 kind) 2 1 (entry.Collecting (parts3 kind i) []))

abbrev m4 : Move
m4 = Send (message.Prepare 2 1 1 1)

guard4 : (kind : Kind) → Guard (s4 kind) m4
guard4 kind = (record { member = 1; count = 1 } ∷ [], [], simp tables refl, refl, simp tables refl)

abbrev s5 : (kind : Kind) → Federation
s5 kind = effect (s4 kind) m4

next4 : (kind : Kind) → effect (s4 kind) m4 ≡ s5 kind
next4 kind = refl

abbrev m5 : Move
m5 = Cast 2 1 1 1

abbrev engine_cast2 : (kind : Kind) → EngineState
engine_cast2 kind = ((s5 kind).member 1).engine

guard5 : (kind : Kind) → Guard (s5 kind) m5
guard5 kind = (refl, simp tables refl)

abbrev s6 : (kind : Kind) → Federation
s6 kind = effect (s5 kind) m5

next5 : (kind : Kind) → effect (s5 kind) m5 ≡ s6 kind
next5 kind = refl

abbrev m6 : Move
m6 = Send (message.Vote 2 1 1 true)

guard6 : (kind : Kind) → Guard (s6 kind) m6
guard6 kind = (simp tables refl, simp tables refl)

abbrev s7 : (kind : Kind) → Federation
s7 kind = effect (s6 kind) m6

next6 : (kind : Kind) → effect (s6 kind) m6 ≡ s7 kind
next6 kind = refl

abbrev m7 : Move
m7 = Decide 2 1

entry7 : (kind : Kind) → entry_at (s7 kind) 2 1 ≡ Some (entry.Collecting (record { member = 1; count = 1 } ∷ []) [])
entry7 kind = simp tables refl

decided7 : (kind : Kind) → told_of (s7 kind) 2 ≡ record { site = record { member = 1; op = op.Read (120 ∷ []) }; reply = reply.Got None } ∷ []
decided7 kind = simp tables refl

guard7 : (kind : Kind) → Guard (s7 kind) m7
guard7 kind = inr (record { member = 1; count = 1 } ∷ [], [], 1, simp tables refl, refl, refl)

abbrev s8 : (kind : Kind) → Federation
s8 kind = record (with_coord (s7 kind) 1 (decide_members ((s7 kind).coord 1) 2 (1 ∷ []))) { decided = record { txn = 2; told = record { site = record { member = 1; op = op.Read (120 ∷ []) }; reply = reply.Got None } ∷ [] } ∷ (s7 kind).decided }

next7 : (kind : Kind) → effect (s7 kind) m7 ≡ s8 kind
next7 kind = (λ i. record (with_coord (s7 kind) 1 (decide_entry ((s7 kind).coord 1) 2 (entry7 kind i))) { decided = record { txn = 2; told = decided7 kind i } ∷ (s7 kind).decided })

abbrev m8 : Move
m8 = Install 2 1

abbrev vote8 : (kind : Kind) → Vote
vote8 kind = record { coord = 1; count = 1; sets = sets_of (operations_of (engine_cast2 kind) 2) }

voted8 : (kind : Kind) → look ((s8 kind).member 1).engine.voted 2 ≡ Some (vote8 kind)
voted8 kind = simp tables refl

guard8 : (kind : Kind) → Guard (s8 kind) m8
guard8 kind = (simp tables refl, InThisRun refl)

abbrev s9 : (kind : Kind) → Federation
s9 kind = with_member (s8 kind) 1 (with_log (record ((s8 kind).member 1) { engine = install_vote ((s8 kind).member 1).engine 2 (Some (vote8 kind)); committed = with_number ((s8 kind).member 1).committed 2 }) (with_batch ((s8 kind).member 1).log (log.Commit 2 [] ∷ [])))

next8 : (kind : Kind) → effect (s8 kind) m8 ≡ s9 kind
next8 kind = (λ i. with_member (s8 kind) 1 (with_log (record ((s8 kind).member 1) { engine = install_vote ((s8 kind).member 1).engine 2 (voted8 kind i); committed = with_number ((s8 kind).member 1).committed 2 }) (with_batch ((s8 kind).member 1).log (log.Commit 2 [] ∷ []))))

abbrev m9 : Move
m9 = Begin 1 1

guard9 : (kind : Kind) → Guard (s9 kind) m9
guard9 kind = simp tables refl

abbrev s10 : (kind : Kind) → Federation
s10 kind = effect (s9 kind) m9

next9 : (kind : Kind) → effect (s9 kind) m9 ≡ s10 kind
next9 kind = refl

abbrev m10 : Move
m10 = Operate 1 1 (op.Write (120 ∷ []) (49 ∷ []))

abbrev session10 : Session
session10 = record { by = node.Coord 1; told = []; asked = false }

abbrev told10 : Told
told10 = record { site = record { member = 1; op = op.Write (120 ∷ []) (49 ∷ []) }; reply = reply.Done }

found10 : (kind : Kind) → look (s10 kind).sessions 1 ≡ Some session10
found10 kind = simp tables refl

reply10 : (kind : Kind) → operation_reply ((s10 kind).member 1).engine 1 (op.Write (120 ∷ []) (49 ∷ [])) ≡ reply.Done
reply10 kind = refl

-- nobody else holds a lock
free10 : (kind : Kind) → lock_blocker ((s10 kind).member 1).engine 1 (op.Write (120 ∷ []) (49 ∷ [])) ≡ None
free10 Lock = simp tables refl
free10 Occ = refl
free10 Mv = refl

guard10 : (kind : Kind) → Guard (s10 kind) m10
guard10 kind = (simp tables (refl, λ n e. no_member 1 n e), simp tables refl, simp tables (λ e. omega (arith, e)), free10 kind)

abbrev s11 : (kind : Kind) → Federation
s11 kind = with_member (with_session (s10 kind) 1 (with_told session10 told10)) 1 (with_engine ((s10 kind).member 1) (with_operation ((s10 kind).member 1).engine 1 (op.Write (120 ∷ []) (49 ∷ []))))

next10 : (kind : Kind) → effect (s10 kind) m10 ≡ s11 kind
next10 kind = (λ i. with_member (entered_reply (s10 kind) 1 1 (op.Write (120 ∷ []) (49 ∷ [])) (found10 kind i)) 1 (with_engine ((s10 kind).member 1) (with_operation ((s10 kind).member 1).engine 1 (op.Write (120 ∷ []) (49 ∷ [])))))
    ∙ (λ i. with_member (with_session (s10 kind) 1 (with_told session10 (record { site = record { member = 1; op = op.Write (120 ∷ []) (49 ∷ []) }; reply = reply10 kind i }))) 1 (with_engine ((s10 kind).member 1) (with_operation ((s10 kind).member 1).engine 1 (op.Write (120 ∷ []) (49 ∷ [])))))

abbrev m11 : Move
m11 = AskEnd 1

abbrev session11 : Session
session11 = record { by = node.Coord 1; told = record { site = record { member = 1; op = op.Write (120 ∷ []) (49 ∷ []) }; reply = reply.Done } ∷ []; asked = false }

found11 : (kind : Kind) → look (s11 kind).sessions 1 ≡ Some session11
found11 kind = simp tables refl

guard11 : (kind : Kind) → Guard (s11 kind) m11
guard11 kind = simp tables refl

abbrev s12 : (kind : Kind) → Federation
s12 kind = with_session (s11 kind) 1 (asked_to_end session11)

next11 : (kind : Kind) → effect (s11 kind) m11 ≡ s12 kind
next11 kind = (λ i. marked_over (s11 kind) 1 (found11 kind i))

abbrev m12 : Move
m12 = Collect 1 1

parts12 : (kind : Kind) → parts_of (told_of (s12 kind) 1) ≡ record { member = 1; count = 1 } ∷ []
parts12 kind = simp tables refl

guard12 : (kind : Kind) → Guard (s12 kind) m12
guard12 kind = (simp tables refl, simp tables refl, simp tables refl, simp tables (λ e. some_parts _ _ e))

abbrev s13 : (kind : Kind) → Federation
s13 kind = with_entry (s12 kind) 1 1 (entry.Collecting (record { member = 1; count = 1 } ∷ []) [])

next12 : (kind : Kind) → effect (s12 kind) m12 ≡ s13 kind
next12 kind = (λ i. with_entry (s12 kind) 1 1 (entry.Collecting (parts12 kind i) []))

abbrev m13 : Move
m13 = Send (message.Prepare 1 1 1 1)

guard13 : (kind : Kind) → Guard (s13 kind) m13
guard13 kind = (record { member = 1; count = 1 } ∷ [], [], simp tables refl, refl, simp tables refl)

abbrev s14 : (kind : Kind) → Federation
s14 kind = effect (s13 kind) m13

next13 : (kind : Kind) → effect (s13 kind) m13 ≡ s14 kind
next13 kind = refl

abbrev m14 : Move
m14 = Cast 1 1 1 1

abbrev engine_cast1 : (kind : Kind) → EngineState
engine_cast1 kind = ((s14 kind).member 1).engine

guard14 : (kind : Kind) → Guard (s14 kind) m14
guard14 kind = (refl, simp tables refl)

abbrev s15 : (kind : Kind) → Federation
s15 kind = effect (s14 kind) m14

next14 : (kind : Kind) → effect (s14 kind) m14 ≡ s15 kind
next14 kind = refl

abbrev m15 : Move
m15 = Send (message.Vote 1 1 1 true)

guard15 : (kind : Kind) → Guard (s15 kind) m15
guard15 kind = (simp tables refl, simp tables refl)

abbrev s16 : (kind : Kind) → Federation
s16 kind = effect (s15 kind) m15

next15 : (kind : Kind) → effect (s15 kind) m15 ≡ s16 kind
next15 kind = refl

abbrev m16 : Move
m16 = Decide 1 1

entry16 : (kind : Kind) → entry_at (s16 kind) 1 1 ≡ Some (entry.Collecting (record { member = 1; count = 1 } ∷ []) [])
entry16 kind = simp tables refl

decided16 : (kind : Kind) → told_of (s16 kind) 1 ≡ record { site = record { member = 1; op = op.Write (120 ∷ []) (49 ∷ []) }; reply = reply.Done } ∷ []
decided16 kind = simp tables refl

guard16 : (kind : Kind) → Guard (s16 kind) m16
guard16 kind = inr (record { member = 1; count = 1 } ∷ [], [], 1, simp tables refl, refl, refl)

abbrev s17 : (kind : Kind) → Federation
s17 kind = record (with_coord (s16 kind) 1 (decide_members ((s16 kind).coord 1) 1 (1 ∷ []))) { decided = record { txn = 1; told = record { site = record { member = 1; op = op.Write (120 ∷ []) (49 ∷ []) }; reply = reply.Done } ∷ [] } ∷ (s16 kind).decided }

next16 : (kind : Kind) → effect (s16 kind) m16 ≡ s17 kind
next16 kind = (λ i. record (with_coord (s16 kind) 1 (decide_entry ((s16 kind).coord 1) 1 (entry16 kind i))) { decided = record { txn = 1; told = decided16 kind i } ∷ (s16 kind).decided })

abbrev m17 : Move
m17 = Install 1 1

abbrev vote17 : (kind : Kind) → Vote
vote17 kind = record { coord = 1; count = 1; sets = sets_of (operations_of (engine_cast1 kind) 1) }

voted17 : (kind : Kind) → look ((s17 kind).member 1).engine.voted 1 ≡ Some (vote17 kind)
voted17 kind = simp tables refl

guard17 : (kind : Kind) → Guard (s17 kind) m17
guard17 kind = (simp tables refl, InThisRun refl)

abbrev s18 : (kind : Kind) → Federation
s18 kind = with_member (s17 kind) 1 (with_log (record ((s17 kind).member 1) { engine = install_vote ((s17 kind).member 1).engine 1 (Some (vote17 kind)); committed = with_number ((s17 kind).member 1).committed 1 }) (with_batch ((s17 kind).member 1).log (log.Commit 1 [] ∷ [])))

next17 : (kind : Kind) → effect (s17 kind) m17 ≡ s18 kind
next17 kind = (λ i. with_member (s17 kind) 1 (with_log (record ((s17 kind).member 1) { engine = install_vote ((s17 kind).member 1).engine 1 (voted17 kind i); committed = with_number ((s17 kind).member 1).committed 1 }) (with_batch ((s17 kind).member 1).log (log.Commit 1 [] ∷ []))))

abbrev rest18 : List Trace
rest18 = []

abbrev rest17 : List Trace
rest17 = (Committed (node.Member 1) 1 ∷ []) ++ rest18

abbrev rest16 : List Trace
rest16 = (Committed (node.Coord 1) 1 ∷ []) ++ rest17

abbrev rest15 : List Trace
rest15 = ([]) ++ rest16

abbrev rest14 : List Trace
rest14 = ([]) ++ rest15

abbrev rest13 : List Trace
rest13 = ([]) ++ rest14

abbrev rest12 : List Trace
rest12 = ([]) ++ rest13

abbrev rest11 : List Trace
rest11 = ([]) ++ rest12

abbrev rest10 : List Trace
rest10 = (Operated 1 1 (op.Write (120 ∷ []) (49 ∷ [])) (reply.Done) ∷ []) ++ rest11

abbrev rest9 : List Trace
rest9 = (Began 1 (node.Coord 1) ∷ []) ++ rest10

abbrev rest8 : List Trace
rest8 = (Committed (node.Member 1) 2 ∷ []) ++ rest9

abbrev rest7 : List Trace
rest7 = (Committed (node.Coord 1) 2 ∷ []) ++ rest8

abbrev rest6 : List Trace
rest6 = ([]) ++ rest7

abbrev rest5 : List Trace
rest5 = ([]) ++ rest6

abbrev rest4 : List Trace
rest4 = ([]) ++ rest5

abbrev rest3 : List Trace
rest3 = ([]) ++ rest4

abbrev rest2 : List Trace
rest2 = ([]) ++ rest3

abbrev rest1 : List Trace
rest1 = (Operated 2 1 (op.Read (120 ∷ [])) (reply.Got None) ∷ []) ++ rest2

abbrev whole : List Trace
whole = (Began 2 (node.Coord 1) ∷ []) ++ rest1

abbrev moves : List Move
moves = m0 ∷ m1 ∷ m2 ∷ m3 ∷ m4 ∷ m5 ∷ m6 ∷ m7 ∷ m8 ∷ m9 ∷ m10 ∷ m11 ∷ m12 ∷ m13 ∷ m14 ∷ m15 ∷ m16 ∷ m17 ∷ []

walked : (kind : Kind) → WalksTelling moves (s0 kind) (s18 kind) whole
walked kind = ((guard0 kind), (s1 kind), (next0 kind), Began 2 (node.Coord 1) ∷ [], rest1, refl, refl, ((guard1 kind), (s2 kind), (next1 kind), Operated 2 1 (op.Read (120 ∷ [])) (reply.Got None) ∷ [], rest2, ap (λ r. Operated 2 1 (op.Read (120 ∷ [])) r ∷ []) (reply1 kind), refl, ((guard2 kind), (s3 kind), (next2 kind), [], rest3, refl, refl, ((guard3 kind), (s4 kind), (next3 kind), [], rest4, refl, refl, ((guard4 kind), (s5 kind), (next4 kind), [], rest5, refl, refl, ((guard5 kind), (s6 kind), (next5 kind), [], rest6, refl, refl, ((guard6 kind), (s7 kind), (next6 kind), [], rest7, refl, refl, ((guard7 kind), (s8 kind), (next7 kind), Committed (node.Coord 1) 2 ∷ [], rest8, refl, refl, ((guard8 kind), (s9 kind), (next8 kind), Committed (node.Member 1) 2 ∷ [], rest9, refl, refl, ((guard9 kind), (s10 kind), (next9 kind), Began 1 (node.Coord 1) ∷ [], rest10, refl, refl, ((guard10 kind), (s11 kind), (next10 kind), Operated 1 1 (op.Write (120 ∷ []) (49 ∷ [])) (reply.Done) ∷ [], rest11, ap (λ r. Operated 1 1 (op.Write (120 ∷ []) (49 ∷ [])) r ∷ []) (reply10 kind), refl, ((guard11 kind), (s12 kind), (next11 kind), [], rest12, refl, refl, ((guard12 kind), (s13 kind), (next12 kind), [], rest13, refl, refl, ((guard13 kind), (s14 kind), (next13 kind), [], rest14, refl, refl, ((guard14 kind), (s15 kind), (next14 kind), [], rest15, refl, refl, ((guard15 kind), (s16 kind), (next15 kind), [], rest16, refl, refl, ((guard16 kind), (s17 kind), (next16 kind), Committed (node.Coord 1) 1 ∷ [], rest17, refl, refl, ((guard17 kind), (s18 kind), (next17 kind), Committed (node.Member 1) 1 ∷ [], rest18, refl, refl, (refl, refl)))))))))))))))))))

pub plays : (kind : Kind) → PlaysThePart kind
plays kind = record { moves = moves; guarded = telling_guards moves (s0 kind) (s18 kind) whole (walked kind); tells = ap (items_of_member 1) (telling_tells moves (s0 kind) (s18 kind) whole (walked kind)) }

-- A vote that does not ask for stale reads.
use Rattle.std.proofs.Common.{◌≡◌, inr, Bool, true, false, List, [], ◌∷◌, None, Some, refl, sym, ap, ◌∙◌, subst, arith}
use Rattle.std.specs.FinMap.{gets}
use Rattle.co_base.specs.declared.head.Kind.TheVariants.{Mv}
use Rattle.co_base.specs.declared.op.Op.TheVariants as op
use Rattle.co_base.specs.declared.reply.Reply.{Reply}
use Rattle.co_base.specs.declared.reply.Reply.TheVariants as reply
use Rattle.co_message.specs.declared.message.Message.TheVariants as message
use Rattle.co_serial.specs.SerialRun.{run_whole}
use Rattle.co_state.specs.declared.verdict.Verdict.TheVariants.{StaleRead, VoteYes}
use Rattle.co_state.specs.VotingRule.{vote_of}
use Rattle.co_plain.specs.declared.session.Decided.{Decided}
use Rattle.co_plain.specs.declared.session.Told.{Told}
use Rattle.co_plain.specs.Decisions.{sites_of, InThisRun}
use Rattle.co_plain.specs.Federation.{Federation}
use Rattle.co_plain.specs.Invariants.{ReadsAreSerial}
use Rattle.co_base.specs.declared.node.Node.TheVariants as node
use Rattle.co_state.specs.declared.engine_state.EngineState.{EngineState}
use Rattle.co_state.specs.declared.engine_state.Vote.{Vote}
use Rattle.co_state.specs.Changes.{sets_of}
use Rattle.co_state.specs.Effects.{with_operation, install_vote}
use Rattle.co_state.specs.EngineState.{operations_of}
use Rattle.co_state.specs.ReadRule.{operation_reply}
use Rattle.co_state.specs.Table.{look}
use Rattle.co_record.specs.declared.record.Record.TheVariants as log
use Rattle.co_plain.specs.declared.coord_state.Entry.TheVariants as entry
use Rattle.co_plain.specs.declared.session.Session.{Session}
use Rattle.co_plain.specs.Decisions.{told_of}
use Rattle.co_plain.specs.LogWrite.{with_batch}
use Rattle.co_plain.specs.MemberStep.{with_engine, with_log}
use Rattle.co_plain.specs.MemberView.{with_number}
use Rattle.co_plain.specs.Federation.{with_member, with_coord, with_session}
use Rattle.co_plain.specs.Sessions.{parts_of, with_told, asked_to_end}
use Rattle.co_plain.specs.Moves.{entered_reply, marked_over, decide_entry, decide_members, entry_at, with_entry, Move, Begin, Operate, AskEnd, Collect, Send, Cast, Decide, Install, all_effects, effect, GuardsHold, Guard}
use Rattle.co_plain.specs.Promises.{serial_records}
use Rattle.co_plain.specs.Wire.{was_sent}
use Rattle.co_law_minimal.specs.Rule.{ReadsAreFresh, vote_without}
use Rattle.co_law_minimal.specs.Minimal.{fresh, IsNeeded}
use Rattle.co_law_minimal.proofs.Tables.{tables, no_member, some_parts, not_yes}
use Rattle.co_law_minimal.proofs.Walks.{Walks, walks_guards, walks_to}

abbrev s0 : Federation
s0 = fresh (Mv ∷ [])

abbrev m0 : Move
m0 = Begin 1 1

guard0 : Guard s0 m0
guard0 = simp tables refl

abbrev s1 : Federation
s1 = effect s0 m0

next0 : effect s0 m0 ≡ s1
next0 = refl

abbrev m1 : Move
m1 = Begin 2 1

guard1 : Guard s1 m1
guard1 = simp tables refl

abbrev s2 : Federation
s2 = effect s1 m1

next1 : effect s1 m1 ≡ s2
next1 = refl

abbrev m2 : Move
m2 = Operate 1 1 (op.Read (97 ∷ []))

abbrev session2 : Session
session2 = record { by = node.Coord 1; told = []; asked = false }

abbrev told2 : Told
told2 = record { site = record { member = 1; op = op.Read (97 ∷ []) }; reply = reply.Got None }

found2 : look s2.sessions 1 ≡ Some session2
found2 = simp tables refl

reply2 : operation_reply (s2.member 1).engine 1 (op.Read (97 ∷ [])) ≡ reply.Got None
reply2 = simp tables refl

guard2 : Guard s2 m2
guard2 = (simp tables (refl, λ n e. no_member 1 n e), simp tables refl, simp tables (λ e. omega (arith, e)), refl)

abbrev s3 : Federation
s3 = with_member (with_session s2 1 (with_told session2 told2)) 1 (with_engine (s2.member 1) (with_operation (s2.member 1).engine 1 (op.Read (97 ∷ []))))

next2 : effect s2 m2 ≡ s3
next2 = (λ i. with_member (entered_reply s2 1 1 (op.Read (97 ∷ [])) (found2 i)) 1 (with_engine (s2.member 1) (with_operation (s2.member 1).engine 1 (op.Read (97 ∷ [])))))
    ∙ (λ i. with_member (with_session s2 1 (with_told session2 (record { site = record { member = 1; op = op.Read (97 ∷ []) }; reply = reply2 i }))) 1 (with_engine (s2.member 1) (with_operation (s2.member 1).engine 1 (op.Read (97 ∷ [])))))

abbrev m3 : Move
m3 = Operate 2 1 (op.Write (120 ∷ []) (49 ∷ []))

abbrev session3 : Session
session3 = record { by = node.Coord 1; told = []; asked = false }

abbrev told3 : Told
told3 = record { site = record { member = 1; op = op.Write (120 ∷ []) (49 ∷ []) }; reply = reply.Done }

found3 : look s3.sessions 2 ≡ Some session3
found3 = simp tables refl

reply3 : operation_reply (s3.member 1).engine 2 (op.Write (120 ∷ []) (49 ∷ [])) ≡ reply.Done
reply3 = refl

guard3 : Guard s3 m3
guard3 = (simp tables (refl, λ n e. no_member 1 n e), simp tables refl, simp tables (λ e. omega (arith, e)), refl)

abbrev s4 : Federation
s4 = with_member (with_session s3 2 (with_told session3 told3)) 1 (with_engine (s3.member 1) (with_operation (s3.member 1).engine 2 (op.Write (120 ∷ []) (49 ∷ []))))

next3 : effect s3 m3 ≡ s4
next3 = (λ i. with_member (entered_reply s3 2 1 (op.Write (120 ∷ []) (49 ∷ [])) (found3 i)) 1 (with_engine (s3.member 1) (with_operation (s3.member 1).engine 2 (op.Write (120 ∷ []) (49 ∷ [])))))
    ∙ (λ i. with_member (with_session s3 2 (with_told session3 (record { site = record { member = 1; op = op.Write (120 ∷ []) (49 ∷ []) }; reply = reply3 i }))) 1 (with_engine (s3.member 1) (with_operation (s3.member 1).engine 2 (op.Write (120 ∷ []) (49 ∷ [])))))

abbrev m4 : Move
m4 = AskEnd 2

abbrev session4 : Session
session4 = record { by = node.Coord 1; told = record { site = record { member = 1; op = op.Write (120 ∷ []) (49 ∷ []) }; reply = reply.Done } ∷ []; asked = false }

found4 : look s4.sessions 2 ≡ Some session4
found4 = simp tables refl

guard4 : Guard s4 m4
guard4 = simp tables refl

abbrev s5 : Federation
s5 = with_session s4 2 (asked_to_end session4)

next4 : effect s4 m4 ≡ s5
next4 = (λ i. marked_over s4 2 (found4 i))

abbrev m5 : Move
m5 = Collect 2 1

parts5 : parts_of (told_of s5 2) ≡ record { member = 1; count = 1 } ∷ []
parts5 = simp tables refl

guard5 : Guard s5 m5
guard5 = (simp tables refl, simp tables refl, simp tables refl, simp tables (λ e. some_parts _ _ e))

abbrev s6 : Federation
s6 = with_entry s5 2 1 (entry.Collecting (record { member = 1; count = 1 } ∷ []) [])

next5 : effect s5 m5 ≡ s6
next5 = (λ i. with_entry s5 2 1 (entry.Collecting (parts5 i) []))

abbrev m6 : Move
m6 = Send (message.Prepare 2 1 1 1)

guard6 : Guard s6 m6
guard6 = (record { member = 1; count = 1 } ∷ [], [], simp tables refl, refl, simp tables refl)

abbrev s7 : Federation
s7 = effect s6 m6

next6 : effect s6 m6 ≡ s7
next6 = refl

abbrev m7 : Move
m7 = Cast 2 1 1 1

abbrev engine_cast2 : EngineState
engine_cast2 = (s7.member 1).engine

guard7 : Guard s7 m7
guard7 = (refl, simp tables refl)

abbrev s8 : Federation
s8 = effect s7 m7

next7 : effect s7 m7 ≡ s8
next7 = refl

abbrev m8 : Move
m8 = Send (message.Vote 2 1 1 true)

guard8 : Guard s8 m8
guard8 = (simp tables refl, simp tables refl)

abbrev s9 : Federation
s9 = effect s8 m8

next8 : effect s8 m8 ≡ s9
next8 = refl

abbrev m9 : Move
m9 = Decide 2 1

entry9 : entry_at s9 2 1 ≡ Some (entry.Collecting (record { member = 1; count = 1 } ∷ []) [])
entry9 = simp tables refl

decided9 : told_of s9 2 ≡ record { site = record { member = 1; op = op.Write (120 ∷ []) (49 ∷ []) }; reply = reply.Done } ∷ []
decided9 = simp tables refl

guard9 : Guard s9 m9
guard9 = inr (record { member = 1; count = 1 } ∷ [], [], 1, simp tables refl, refl, refl)

abbrev s10 : Federation
s10 = record (with_coord s9 1 (decide_members (s9.coord 1) 2 (1 ∷ []))) { decided = record { txn = 2; told = record { site = record { member = 1; op = op.Write (120 ∷ []) (49 ∷ []) }; reply = reply.Done } ∷ [] } ∷ s9.decided }

next9 : effect s9 m9 ≡ s10
next9 = (λ i. record (with_coord s9 1 (decide_entry (s9.coord 1) 2 (entry9 i))) { decided = record { txn = 2; told = decided9 i } ∷ s9.decided })

abbrev m10 : Move
m10 = Install 2 1

abbrev vote10 : Vote
vote10 = record { coord = 1; count = 1; sets = sets_of (operations_of engine_cast2 2) }

voted10 : look (s10.member 1).engine.voted 2 ≡ Some vote10
voted10 = simp tables refl

guard10 : Guard s10 m10
guard10 = (simp tables refl, InThisRun refl)

abbrev s11 : Federation
s11 = with_member s10 1 (with_log (record (s10.member 1) { engine = install_vote (s10.member 1).engine 2 (Some vote10); committed = with_number (s10.member 1).committed 2 }) (with_batch (s10.member 1).log (log.Commit 2 [] ∷ [])))

next10 : effect s10 m10 ≡ s11
next10 = (λ i. with_member s10 1 (with_log (record (s10.member 1) { engine = install_vote (s10.member 1).engine 2 (voted10 i); committed = with_number (s10.member 1).committed 2 }) (with_batch (s10.member 1).log (log.Commit 2 [] ∷ []))))

abbrev m11 : Move
m11 = Operate 1 1 (op.Read (120 ∷ []))

abbrev session11 : Session
session11 = record { by = node.Coord 1; told = record { site = record { member = 1; op = op.Read (97 ∷ []) }; reply = reply.Got None } ∷ []; asked = false }

abbrev told11 : Told
told11 = record { site = record { member = 1; op = op.Read (120 ∷ []) }; reply = reply.Got None }

found11 : look s11.sessions 1 ≡ Some session11
found11 = simp tables refl

reply11 : operation_reply (s11.member 1).engine 1 (op.Read (120 ∷ [])) ≡ reply.Got None
reply11 = simp tables refl

guard11 : Guard s11 m11
guard11 = (simp tables (refl, λ n e. no_member 1 n e), simp tables refl, simp tables (λ e. omega (arith, e)), refl)

abbrev s12 : Federation
s12 = with_member (with_session s11 1 (with_told session11 told11)) 1 (with_engine (s11.member 1) (with_operation (s11.member 1).engine 1 (op.Read (120 ∷ []))))

next11 : effect s11 m11 ≡ s12
next11 = (λ i. with_member (entered_reply s11 1 1 (op.Read (120 ∷ [])) (found11 i)) 1 (with_engine (s11.member 1) (with_operation (s11.member 1).engine 1 (op.Read (120 ∷ [])))))
    ∙ (λ i. with_member (with_session s11 1 (with_told session11 (record { site = record { member = 1; op = op.Read (120 ∷ []) }; reply = reply11 i }))) 1 (with_engine (s11.member 1) (with_operation (s11.member 1).engine 1 (op.Read (120 ∷ [])))))

abbrev m12 : Move
m12 = AskEnd 1

abbrev session12 : Session
session12 = record { by = node.Coord 1; told = record { site = record { member = 1; op = op.Read (120 ∷ []) }; reply = reply.Got None } ∷ record { site = record { member = 1; op = op.Read (97 ∷ []) }; reply = reply.Got None } ∷ []; asked = false }

found12 : look s12.sessions 1 ≡ Some session12
found12 = simp tables refl

guard12 : Guard s12 m12
guard12 = simp tables refl

abbrev s13 : Federation
s13 = with_session s12 1 (asked_to_end session12)

next12 : effect s12 m12 ≡ s13
next12 = (λ i. marked_over s12 1 (found12 i))

abbrev m13 : Move
m13 = Collect 1 1

parts13 : parts_of (told_of s13 1) ≡ record { member = 1; count = 2 } ∷ []
parts13 = simp tables refl

guard13 : Guard s13 m13
guard13 = (simp tables refl, simp tables refl, simp tables refl, simp tables (λ e. some_parts _ _ e))

abbrev s14 : Federation
s14 = with_entry s13 1 1 (entry.Collecting (record { member = 1; count = 2 } ∷ []) [])

next13 : effect s13 m13 ≡ s14
next13 = (λ i. with_entry s13 1 1 (entry.Collecting (parts13 i) []))

abbrev m14 : Move
m14 = Send (message.Prepare 1 1 1 2)

guard14 : Guard s14 m14
guard14 = (record { member = 1; count = 2 } ∷ [], [], simp tables refl, refl, simp tables refl)

abbrev s15 : Federation
s15 = effect s14 m14

next14 : effect s14 m14 ≡ s15
next14 = refl

abbrev m15 : Move
m15 = Cast 1 1 1 2

abbrev engine_cast1 : EngineState
engine_cast1 = (s15.member 1).engine

abbrev s16 : Federation
s16 = effect s15 m15

next15 : effect s15 m15 ≡ s16
next15 = refl

abbrev m16 : Move
m16 = Send (message.Vote 1 1 1 true)

guard16 : Guard s16 m16
guard16 = (simp tables refl, simp tables refl)

abbrev s17 : Federation
s17 = effect s16 m16

next16 : effect s16 m16 ≡ s17
next16 = refl

abbrev m17 : Move
m17 = Decide 1 1

entry17 : entry_at s17 1 1 ≡ Some (entry.Collecting (record { member = 1; count = 2 } ∷ []) [])
entry17 = simp tables refl

decided17 : told_of s17 1 ≡ record { site = record { member = 1; op = op.Read (120 ∷ []) }; reply = reply.Got None } ∷ record { site = record { member = 1; op = op.Read (97 ∷ []) }; reply = reply.Got None } ∷ []
decided17 = simp tables refl

guard17 : Guard s17 m17
guard17 = inr (record { member = 1; count = 2 } ∷ [], [], 1, simp tables refl, refl, refl)

abbrev s18 : Federation
s18 = record (with_coord s17 1 (decide_members (s17.coord 1) 1 (1 ∷ []))) { decided = record { txn = 1; told = record { site = record { member = 1; op = op.Read (120 ∷ []) }; reply = reply.Got None } ∷ record { site = record { member = 1; op = op.Read (97 ∷ []) }; reply = reply.Got None } ∷ [] } ∷ s17.decided }

next17 : effect s17 m17 ≡ s18
next17 = (λ i. record (with_coord s17 1 (decide_entry (s17.coord 1) 1 (entry17 i))) { decided = record { txn = 1; told = decided17 i } ∷ s17.decided })

abbrev before : List Move
before = m0 ∷ m1 ∷ m2 ∷ m3 ∷ m4 ∷ m5 ∷ m6 ∷ m7 ∷ m8 ∷ m9 ∷ m10 ∷ m11 ∷ m12 ∷ m13 ∷ m14 ∷ []

abbrev after : List Move
after = m16 ∷ m17 ∷ []

walked_before : Walks before s0 s15
walked_before = (guard0, (s1, next0, (guard1, (s2, next1, (guard2, (s3, next2, (guard3, (s4, next3, (guard4, (s5, next4, (guard5, (s6, next5, (guard6, (s7, next6, (guard7, (s8, next7, (guard8, (s9, next8, (guard9, (s10, next9, (guard10, (s11, next10, (guard11, (s12, next11, (guard12, (s13, next12, (guard13, (s14, next13, (guard14, (s15, next14, refl))))))))))))))))))))))))))))))

walked_after : Walks after s16 s18
walked_after = (guard16, (s17, next16, (guard17, (s18, next17, refl))))

verdict : vote_of (s15.member 1).engine 1 2 ≡ StaleRead (120 ∷ [])
verdict = simp tables refl

granted : vote_without ReadsAreFresh (s15.member 1).engine 1 2 ≡ VoteYes
granted = simp tables refl

abbrev d0 : Decided
d0 = record { txn = 1; told = record { site = record { member = 1; op = op.Read (120 ∷ []) }; reply = reply.Got None } ∷ record { site = record { member = 1; op = op.Read (97 ∷ []) }; reply = reply.Got None } ∷ [] }

abbrev d1 : Decided
d1 = record { txn = 2; told = record { site = record { member = 1; op = op.Write (120 ∷ []) (49 ∷ []) }; reply = reply.Done } ∷ [] }

serially : run_whole (serial_records s18 (d1 ∷ [])) (sites_of d0.told) ≡ reply.Got None ∷ reply.Got (Some (49 ∷ [])) ∷ []
serially = simp (tables, gets) refl

abbrev got_some : List Reply → Bool
got_some (r ∷ reply.Got (Some value) ∷ replies) = true
got_some _ = false

unserial : ReadsAreSerial s18 → ⊥
unserial h = let q : false ≡ true = ap got_some (h [] (d1 ∷ []) d0 refl ∙ serially) in cc

-- it ends so
ends : all_effects after (effect (all_effects before s0) (Cast 1 1 1 2)) ≡ s18
ends = ap (λ s. all_effects after (effect s (Cast 1 1 1 2))) (walks_to before s0 s15 walked_before) ∙ walks_to after s16 s18 walked_after

pub needed : IsNeeded ReadsAreFresh
needed =
    let there = walks_to before s0 s15 walked_before in
    record {
      kinds = Mv ∷ [];
      before = before;
      t = 1;
      m = 1;
      count = 2;
      after = after;
      guarded = walks_guards before s0 s15 walked_before;
      asked = ap (λ s. was_sent s.sent (message.Prepare 1 1 1 2)) there;
      against = λ h. not_yes (vote_of (s15.member 1).engine 1 2) (StaleRead (120 ∷ [])) verdict refl (sym (ap (λ s. vote_of (s.member 1).engine 1 2) there) ∙ h);
      without = ap (λ s. vote_without ReadsAreFresh (s.member 1).engine 1 2) there ∙ granted;
      goes_on = subst (λ s. GuardsHold after (effect s (Cast 1 1 1 2))) (sym there) (walks_guards after s16 s18 walked_after);
      unserial = λ h. unserial (subst ReadsAreSerial ends h);
    }

-- A vote that does not ask for voted writers of what it writes.
use Rattle.std.proofs.Common.{◌≡◌, inr, ℕ, true, false, List, [], ◌∷◌, Some, refl, sym, ap, ◌∙◌, subst, arith}
use Rattle.std.specs.FinMap.{gets}
use Rattle.co_base.specs.declared.head.Kind.TheVariants.{Occ}
use Rattle.co_base.specs.declared.op.Op.TheVariants as op
use Rattle.co_base.specs.declared.reply.Reply.{Reply}
use Rattle.co_base.specs.declared.reply.Reply.TheVariants as reply
use Rattle.co_message.specs.declared.message.Message.TheVariants as message
use Rattle.co_serial.specs.SerialRun.{run_whole}
use Rattle.co_state.specs.declared.verdict.Verdict.TheVariants.{HeldBy, VoteYes}
use Rattle.co_state.specs.VotingRule.{vote_of}
use Rattle.co_plain.specs.declared.session.Decided.{Decided}
use Rattle.co_plain.specs.declared.session.Told.{Told}
use Rattle.co_plain.specs.Decisions.{sites_of, InThisRun}
use Rattle.co_plain.specs.Federation.{Federation}
use Rattle.co_plain.specs.Invariants.{ReadsAreSerial}
use Rattle.co_base.specs.declared.node.Node.TheVariants as node
use Rattle.co_state.specs.declared.engine_state.EngineState.{EngineState}
use Rattle.co_state.specs.declared.engine_state.Vote.{Vote}
use Rattle.co_state.specs.Changes.{sets_of}
use Rattle.co_state.specs.Effects.{with_operation, install_vote}
use Rattle.co_state.specs.EngineState.{operations_of}
use Rattle.co_state.specs.ReadRule.{operation_reply}
use Rattle.co_state.specs.Table.{look}
use Rattle.co_record.specs.declared.record.Record.TheVariants as log
use Rattle.co_plain.specs.declared.coord_state.Entry.TheVariants as entry
use Rattle.co_plain.specs.declared.session.Session.{Session}
use Rattle.co_plain.specs.Decisions.{told_of}
use Rattle.co_plain.specs.LogWrite.{with_batch}
use Rattle.co_plain.specs.MemberStep.{with_engine, with_log}
use Rattle.co_plain.specs.MemberView.{with_number}
use Rattle.co_plain.specs.Federation.{with_member, with_coord, with_session}
use Rattle.co_plain.specs.Sessions.{parts_of, with_told, asked_to_end}
use Rattle.co_plain.specs.Moves.{entered_reply, marked_over, decide_entry, decide_members, entry_at, with_entry, Move, Begin, Operate, AskEnd, Collect, Send, Cast, Decide, Install, all_effects, effect, GuardsHold, Guard}
use Rattle.co_plain.specs.Promises.{serial_records}
use Rattle.co_plain.specs.Wire.{was_sent}
use Rattle.co_law_minimal.specs.Rule.{BothWrote, vote_without}
use Rattle.co_law_minimal.specs.Minimal.{fresh, IsNeeded}
use Rattle.co_law_minimal.proofs.Tables.{tables, no_member, some_parts, not_yes}
use Rattle.co_law_minimal.proofs.Walks.{Walks, walks_guards, walks_to}
use Rattle.co_law_minimal.proofs.WroteVotes.{engine_cast1, guard0, guard1, guard2, guard3, guard4, guard5, guard6, guard7, guard8, guard9, guard10, guard11, m0, m1, m2, m3, m4, m5, m6, m7, m8, m9, m10, m11, next0, next1, next2, next3, next4, next5, next6, next7, next8, next9, next10, next11, s0, s1, s2, s3, s4, s5, s6, s7, s8, s9, s10, s11, s12}

abbrev m12 : Move
m12 = Cast 2 1 1 1

abbrev engine_cast2 : EngineState
engine_cast2 = (s12.member 1).engine

abbrev s13 : Federation
s13 = effect s12 m12

next12 : effect s12 m12 ≡ s13
next12 = refl

abbrev m13 : Move
m13 = Send (message.Vote 2 1 1 true)

guard13 : Guard s13 m13
guard13 = (simp tables refl, simp tables refl)

abbrev s14 : Federation
s14 = effect s13 m13

next13 : effect s13 m13 ≡ s14
next13 = refl

abbrev m14 : Move
m14 = Decide 2 1

entry14 : entry_at s14 2 1 ≡ Some (entry.Collecting (record { member = 1; count = 1 } ∷ []) [])
entry14 = simp tables refl

decided14 : told_of s14 2 ≡ record { site = record { member = 1; op = op.Write (120 ∷ []) (50 ∷ []) }; reply = reply.Done } ∷ []
decided14 = simp tables refl

guard14 : Guard s14 m14
guard14 = inr (record { member = 1; count = 1 } ∷ [], [], 1, simp tables refl, refl, refl)

abbrev s15 : Federation
s15 = record (with_coord s14 1 (decide_members (s14.coord 1) 2 (1 ∷ []))) { decided = record { txn = 2; told = record { site = record { member = 1; op = op.Write (120 ∷ []) (50 ∷ []) }; reply = reply.Done } ∷ [] } ∷ s14.decided }

next14 : effect s14 m14 ≡ s15
next14 = (λ i. record (with_coord s14 1 (decide_entry (s14.coord 1) 2 (entry14 i))) { decided = record { txn = 2; told = decided14 i } ∷ s14.decided })

abbrev m15 : Move
m15 = Decide 1 1

entry15 : entry_at s15 1 1 ≡ Some (entry.Collecting (record { member = 1; count = 1 } ∷ []) [])
entry15 = simp tables refl

decided15 : told_of s15 1 ≡ record { site = record { member = 1; op = op.Write (120 ∷ []) (49 ∷ []) }; reply = reply.Done } ∷ []
decided15 = simp tables refl

guard15 : Guard s15 m15
guard15 = inr (record { member = 1; count = 1 } ∷ [], [], 1, simp tables refl, refl, refl)

abbrev s16 : Federation
s16 = record (with_coord s15 1 (decide_members (s15.coord 1) 1 (1 ∷ []))) { decided = record { txn = 1; told = record { site = record { member = 1; op = op.Write (120 ∷ []) (49 ∷ []) }; reply = reply.Done } ∷ [] } ∷ s15.decided }

next15 : effect s15 m15 ≡ s16
next15 = (λ i. record (with_coord s15 1 (decide_entry (s15.coord 1) 1 (entry15 i))) { decided = record { txn = 1; told = decided15 i } ∷ s15.decided })

abbrev m16 : Move
m16 = Install 1 1

abbrev vote16 : Vote
vote16 = record { coord = 1; count = 1; sets = sets_of (operations_of engine_cast1 1) }

voted16 : look (s16.member 1).engine.voted 1 ≡ Some vote16
voted16 = simp tables refl

guard16 : Guard s16 m16
guard16 = (simp tables refl, InThisRun refl)

abbrev s17 : Federation
s17 = with_member s16 1 (with_log (record (s16.member 1) { engine = install_vote (s16.member 1).engine 1 (Some vote16); committed = with_number (s16.member 1).committed 1 }) (with_batch (s16.member 1).log (log.Commit 1 [] ∷ [])))

next16 : effect s16 m16 ≡ s17
next16 = (λ i. with_member s16 1 (with_log (record (s16.member 1) { engine = install_vote (s16.member 1).engine 1 (voted16 i); committed = with_number (s16.member 1).committed 1 }) (with_batch (s16.member 1).log (log.Commit 1 [] ∷ []))))

abbrev m17 : Move
m17 = Install 2 1

abbrev vote17 : Vote
vote17 = record { coord = 1; count = 1; sets = sets_of (operations_of engine_cast2 2) }

voted17 : look (s17.member 1).engine.voted 2 ≡ Some vote17
voted17 = simp tables refl

guard17 : Guard s17 m17
guard17 = (simp tables refl, InThisRun refl)

abbrev s18 : Federation
s18 = with_member s17 1 (with_log (record (s17.member 1) { engine = install_vote (s17.member 1).engine 2 (Some vote17); committed = with_number (s17.member 1).committed 2 }) (with_batch (s17.member 1).log (log.Commit 2 [] ∷ [])))

next17 : effect s17 m17 ≡ s18
next17 = (λ i. with_member s17 1 (with_log (record (s17.member 1) { engine = install_vote (s17.member 1).engine 2 (voted17 i); committed = with_number (s17.member 1).committed 2 }) (with_batch (s17.member 1).log (log.Commit 2 [] ∷ []))))

abbrev m18 : Move
m18 = Begin 3 1

guard18 : Guard s18 m18
guard18 = simp tables refl

abbrev s19 : Federation
s19 = effect s18 m18

next18 : effect s18 m18 ≡ s19
next18 = refl

abbrev m19 : Move
m19 = Operate 3 1 (op.Read (120 ∷ []))

abbrev session19 : Session
session19 = record { by = node.Coord 1; told = []; asked = false }

abbrev told19 : Told
told19 = record { site = record { member = 1; op = op.Read (120 ∷ []) }; reply = reply.Got (Some (50 ∷ [])) }

found19 : look s19.sessions 3 ≡ Some session19
found19 = simp tables refl

reply19 : operation_reply (s19.member 1).engine 3 (op.Read (120 ∷ [])) ≡ reply.Got (Some (50 ∷ []))
reply19 = simp (tables, gets) refl

guard19 : Guard s19 m19
guard19 = (simp tables (refl, λ n e. no_member 1 n e), simp tables refl, simp tables (λ e. omega (arith, e)), refl)

abbrev s20 : Federation
s20 = with_member (with_session s19 3 (with_told session19 told19)) 1 (with_engine (s19.member 1) (with_operation (s19.member 1).engine 3 (op.Read (120 ∷ []))))

next19 : effect s19 m19 ≡ s20
next19 = (λ i. with_member (entered_reply s19 3 1 (op.Read (120 ∷ [])) (found19 i)) 1 (with_engine (s19.member 1) (with_operation (s19.member 1).engine 3 (op.Read (120 ∷ [])))))
    ∙ (λ i. with_member (with_session s19 3 (with_told session19 (record { site = record { member = 1; op = op.Read (120 ∷ []) }; reply = reply19 i }))) 1 (with_engine (s19.member 1) (with_operation (s19.member 1).engine 3 (op.Read (120 ∷ [])))))

abbrev m20 : Move
m20 = AskEnd 3

abbrev session20 : Session
session20 = record { by = node.Coord 1; told = record { site = record { member = 1; op = op.Read (120 ∷ []) }; reply = reply.Got (Some (50 ∷ [])) } ∷ []; asked = false }

found20 : look s20.sessions 3 ≡ Some session20
found20 = simp tables refl

guard20 : Guard s20 m20
guard20 = simp tables refl

abbrev s21 : Federation
s21 = with_session s20 3 (asked_to_end session20)

next20 : effect s20 m20 ≡ s21
next20 = (λ i. marked_over s20 3 (found20 i))

abbrev m21 : Move
m21 = Collect 3 1

parts21 : parts_of (told_of s21 3) ≡ record { member = 1; count = 1 } ∷ []
parts21 = simp tables refl

guard21 : Guard s21 m21
guard21 = (simp tables refl, simp tables refl, simp tables refl, simp tables (λ e. some_parts _ _ e))

abbrev s22 : Federation
s22 = with_entry s21 3 1 (entry.Collecting (record { member = 1; count = 1 } ∷ []) [])

next21 : effect s21 m21 ≡ s22
next21 = (λ i. with_entry s21 3 1 (entry.Collecting (parts21 i) []))

abbrev m22 : Move
m22 = Send (message.Prepare 3 1 1 1)

guard22 : Guard s22 m22
guard22 = (record { member = 1; count = 1 } ∷ [], [], simp tables refl, refl, simp tables refl)

abbrev s23 : Federation
s23 = effect s22 m22

next22 : effect s22 m22 ≡ s23
next22 = refl

abbrev m23 : Move
m23 = Cast 3 1 1 1

abbrev engine_cast3 : EngineState
engine_cast3 = (s23.member 1).engine

guard23 : Guard s23 m23
guard23 = (refl, simp tables refl)

abbrev s24 : Federation
s24 = effect s23 m23

next23 : effect s23 m23 ≡ s24
next23 = refl

abbrev m24 : Move
m24 = Send (message.Vote 3 1 1 true)

guard24 : Guard s24 m24
guard24 = (simp tables refl, simp tables refl)

abbrev s25 : Federation
s25 = effect s24 m24

next24 : effect s24 m24 ≡ s25
next24 = refl

abbrev m25 : Move
m25 = Decide 3 1

entry25 : entry_at s25 3 1 ≡ Some (entry.Collecting (record { member = 1; count = 1 } ∷ []) [])
entry25 = simp tables refl

decided25 : told_of s25 3 ≡ record { site = record { member = 1; op = op.Read (120 ∷ []) }; reply = reply.Got (Some (50 ∷ [])) } ∷ []
decided25 = simp tables refl

guard25 : Guard s25 m25
guard25 = inr (record { member = 1; count = 1 } ∷ [], [], 1, simp tables refl, refl, refl)

abbrev s26 : Federation
s26 = record (with_coord s25 1 (decide_members (s25.coord 1) 3 (1 ∷ []))) { decided = record { txn = 3; told = record { site = record { member = 1; op = op.Read (120 ∷ []) }; reply = reply.Got (Some (50 ∷ [])) } ∷ [] } ∷ s25.decided }

next25 : effect s25 m25 ≡ s26
next25 = (λ i. record (with_coord s25 1 (decide_entry (s25.coord 1) 3 (entry25 i))) { decided = record { txn = 3; told = decided25 i } ∷ s25.decided })

abbrev before : List Move
before = m0 ∷ m1 ∷ m2 ∷ m3 ∷ m4 ∷ m5 ∷ m6 ∷ m7 ∷ m8 ∷ m9 ∷ m10 ∷ m11 ∷ []

abbrev after : List Move
after = m13 ∷ m14 ∷ m15 ∷ m16 ∷ m17 ∷ m18 ∷ m19 ∷ m20 ∷ m21 ∷ m22 ∷ m23 ∷ m24 ∷ m25 ∷ []

walked_before : Walks before s0 s12
walked_before = (guard0, (s1, next0, (guard1, (s2, next1, (guard2, (s3, next2, (guard3, (s4, next3, (guard4, (s5, next4, (guard5, (s6, next5, (guard6, (s7, next6, (guard7, (s8, next7, (guard8, (s9, next8, (guard9, (s10, next9, (guard10, (s11, next10, (guard11, (s12, next11, refl))))))))))))))))))))))))

walked_after : Walks after s13 s26
walked_after = (guard13, (s14, next13, (guard14, (s15, next14, (guard15, (s16, next15, (guard16, (s17, next16, (guard17, (s18, next17, (guard18, (s19, next18, (guard19, (s20, next19, (guard20, (s21, next20, (guard21, (s22, next21, (guard22, (s23, next22, (guard23, (s24, next23, (guard24, (s25, next24, (guard25, (s26, next25, refl))))))))))))))))))))))))))

verdict : vote_of (s12.member 1).engine 2 1 ≡ HeldBy 1
verdict = simp tables refl

granted : vote_without BothWrote (s12.member 1).engine 2 1 ≡ VoteYes
granted = simp tables refl

abbrev d0 : Decided
d0 = record { txn = 3; told = record { site = record { member = 1; op = op.Read (120 ∷ []) }; reply = reply.Got (Some (50 ∷ [])) } ∷ [] }

abbrev d1 : Decided
d1 = record { txn = 1; told = record { site = record { member = 1; op = op.Write (120 ∷ []) (49 ∷ []) }; reply = reply.Done } ∷ [] }

abbrev d2 : Decided
d2 = record { txn = 2; told = record { site = record { member = 1; op = op.Write (120 ∷ []) (50 ∷ []) }; reply = reply.Done } ∷ [] }

serially : run_whole (serial_records s26 (d1 ∷ d2 ∷ [])) (sites_of d0.told) ≡ reply.Got (Some (49 ∷ [])) ∷ []
serially = simp (tables, gets) refl

abbrev got_some : List Reply → ℕ
got_some (reply.Got (Some (byte ∷ value)) ∷ replies) = byte
got_some _ = 0

unserial : ReadsAreSerial s26 → ⊥
unserial h = let q : 50 ≡ 49 = ap got_some (h [] (d1 ∷ d2 ∷ []) d0 refl ∙ serially) in absurd (omega (arith, q))

-- it ends so
ends : all_effects after (effect (all_effects before s0) (Cast 2 1 1 1)) ≡ s26
ends = ap (λ s. all_effects after (effect s (Cast 2 1 1 1))) (walks_to before s0 s12 walked_before) ∙ walks_to after s13 s26 walked_after

pub needed : IsNeeded BothWrote
needed =
    let there = walks_to before s0 s12 walked_before in
    record {
      kinds = Occ ∷ [];
      before = before;
      t = 2;
      m = 1;
      count = 1;
      after = after;
      guarded = walks_guards before s0 s12 walked_before;
      asked = ap (λ s. was_sent s.sent (message.Prepare 2 1 1 1)) there;
      against = λ h. not_yes (vote_of (s12.member 1).engine 2 1) (HeldBy 1) verdict refl (sym (ap (λ s. vote_of (s.member 1).engine 2 1) there) ∙ h);
      without = ap (λ s. vote_without BothWrote (s.member 1).engine 2 1) there ∙ granted;
      goes_on = subst (λ s. GuardsHold after (effect s (Cast 2 1 1 1))) (sym there) (walks_guards after s13 s26 walked_after);
      unserial = λ h. unserial (subst ReadsAreSerial ends h);
    }

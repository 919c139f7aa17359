-- A vote that does not ask for voted readers of what it writes.
use Rattle.std.proofs.Common.{◌≡◌, inr, Bool, true, false, List, [], ◌∷◌, None, Some, refl, sym, ap, ◌∙◌, subst, arith}
use Rattle.std.specs.FinMap.{gets}
use Rattle.co_base.specs.declared.head.Kind.TheVariants.{Occ}
use Rattle.co_base.specs.declared.op.Op.TheVariants as op
use Rattle.co_base.specs.declared.reply.Reply.{Reply}
use Rattle.co_base.specs.declared.reply.Reply.TheVariants as reply
use Rattle.co_message.specs.declared.message.Message.TheVariants as message
use Rattle.co_serial.specs.SerialRun.{run_whole}
use Rattle.co_state.specs.declared.verdict.Verdict.TheVariants.{HeldBy, VoteYes}
use Rattle.co_state.specs.VotingRule.{vote_of}
use Rattle.co_plain.specs.declared.session.Decided.{Decided}
use Rattle.co_plain.specs.declared.session.Told.{Told}
use Rattle.co_plain.specs.Decisions.{sites_of}
use Rattle.co_plain.specs.Federation.{Federation}
use Rattle.co_plain.specs.Invariants.{ReadsAreSerial}
use Rattle.co_base.specs.declared.node.Node.TheVariants as node
use Rattle.co_state.specs.declared.engine_state.EngineState.{EngineState}
use Rattle.co_state.specs.Effects.{with_operation}
use Rattle.co_state.specs.ReadRule.{operation_reply}
use Rattle.co_state.specs.Table.{look}
use Rattle.co_plain.specs.declared.coord_state.Entry.TheVariants as entry
use Rattle.co_plain.specs.declared.session.Session.{Session}
use Rattle.co_plain.specs.Decisions.{told_of}
use Rattle.co_plain.specs.MemberStep.{with_engine}
use Rattle.co_plain.specs.Federation.{with_member, with_coord, with_session}
use Rattle.co_plain.specs.Sessions.{parts_of, with_told, asked_to_end}
use Rattle.co_plain.specs.Moves.{entered_reply, marked_over, decide_entry, decide_members, entry_at, with_entry, Move, Begin, Operate, AskEnd, Collect, Send, Cast, Decide, all_effects, effect, GuardsHold, Guard}
use Rattle.co_plain.specs.Promises.{serial_records}
use Rattle.co_plain.specs.Wire.{was_sent}
use Rattle.co_law_minimal.specs.Rule.{VotedReader, vote_without}
use Rattle.co_law_minimal.specs.Minimal.{fresh, IsNeeded}
use Rattle.co_law_minimal.proofs.Tables.{tables, no_member, some_parts, not_yes}
use Rattle.co_law_minimal.proofs.Walks.{Walks, walks_guards, walks_to}

abbrev s0 : Federation
s0 = fresh (Occ ∷ [])

abbrev m0 : Move
m0 = Begin 1 1

guard0 : Guard s0 m0
guard0 = simp tables refl

abbrev s1 : Federation
s1 = effect s0 m0

next0 : effect s0 m0 ≡ s1
next0 = refl

abbrev m1 : Move
m1 = Begin 2 1

guard1 : Guard s1 m1
guard1 = simp tables refl

abbrev s2 : Federation
s2 = effect s1 m1

next1 : effect s1 m1 ≡ s2
next1 = refl

abbrev m2 : Move
m2 = Operate 1 1 (op.Read (120 ∷ []))

abbrev session2 : Session
session2 = record { by = node.Coord 1; told = []; asked = false }

abbrev told2 : Told
told2 = record { site = record { member = 1; op = op.Read (120 ∷ []) }; reply = reply.Got None }

found2 : look s2.sessions 1 ≡ Some session2
found2 = simp tables refl

reply2 : operation_reply (s2.member 1).engine 1 (op.Read (120 ∷ [])) ≡ reply.Got None
reply2 = simp tables refl

guard2 : Guard s2 m2
guard2 = (simp tables (refl, λ n e. no_member 1 n e), simp tables refl, simp tables (λ e. omega (arith, e)), refl)

abbrev s3 : Federation
s3 = with_member (with_session s2 1 (with_told session2 told2)) 1 (with_engine (s2.member 1) (with_operation (s2.member 1).engine 1 (op.Read (120 ∷ []))))

next2 : effect s2 m2 ≡ s3
next2 = (λ i. with_member (entered_reply s2 1 1 (op.Read (120 ∷ [])) (found2 i)) 1 (with_engine (s2.member 1) (with_operation (s2.member 1).engine 1 (op.Read (120 ∷ [])))))
    ∙ (λ i. with_member (with_session s2 1 (with_told session2 (record { site = record { member = 1; op = op.Read (120 ∷ []) }; reply = reply2 i }))) 1 (with_engine (s2.member 1) (with_operation (s2.member 1).engine 1 (op.Read (120 ∷ [])))))

abbrev m3 : Move
m3 = AskEnd 1

abbrev session3 : Session
session3 = record { by = node.Coord 1; told = record { site = record { member = 1; op = op.Read (120 ∷ []) }; reply = reply.Got None } ∷ []; asked = false }

found3 : look s3.sessions 1 ≡ Some session3
found3 = simp tables refl

guard3 : Guard s3 m3
guard3 = simp tables refl

abbrev s4 : Federation
s4 = with_session s3 1 (asked_to_end session3)

next3 : effect s3 m3 ≡ s4
next3 = (λ i. marked_over s3 1 (found3 i))

abbrev m4 : Move
m4 = Collect 1 1

parts4 : parts_of (told_of s4 1) ≡ record { member = 1; count = 1 } ∷ []
parts4 = simp tables refl

guard4 : Guard s4 m4
guard4 = (simp tables refl, simp tables refl, simp tables refl, simp tables (λ e. some_parts _ _ e))

abbrev s5 : Federation
s5 = with_entry s4 1 1 (entry.Collecting (record { member = 1; count = 1 } ∷ []) [])

next4 : effect s4 m4 ≡ s5
next4 = (λ i. with_entry s4 1 1 (entry.Collecting (parts4 i) []))

abbrev m5 : Move
m5 = Send (message.Prepare 1 1 1 1)

guard5 : Guard s5 m5
guard5 = (record { member = 1; count = 1 } ∷ [], [], simp tables refl, refl, simp tables refl)

abbrev s6 : Federation
s6 = effect s5 m5

next5 : effect s5 m5 ≡ s6
next5 = refl

abbrev m6 : Move
m6 = Cast 1 1 1 1

abbrev engine_cast1 : EngineState
engine_cast1 = (s6.member 1).engine

guard6 : Guard s6 m6
guard6 = (refl, simp tables refl)

abbrev s7 : Federation
s7 = effect s6 m6

next6 : effect s6 m6 ≡ s7
next6 = refl

abbrev m7 : Move
m7 = Send (message.Vote 1 1 1 true)

guard7 : Guard s7 m7
guard7 = (simp tables refl, simp tables refl)

abbrev s8 : Federation
s8 = effect s7 m7

next7 : effect s7 m7 ≡ s8
next7 = refl

abbrev m8 : Move
m8 = Operate 2 1 (op.Write (120 ∷ []) (49 ∷ []))

abbrev session8 : Session
session8 = record { by = node.Coord 1; told = []; asked = false }

abbrev told8 : Told
told8 = record { site = record { member = 1; op = op.Write (120 ∷ []) (49 ∷ []) }; reply = reply.Done }

found8 : look s8.sessions 2 ≡ Some session8
found8 = simp tables refl

reply8 : operation_reply (s8.member 1).engine 2 (op.Write (120 ∷ []) (49 ∷ [])) ≡ reply.Done
reply8 = refl

guard8 : Guard s8 m8
guard8 = (simp tables (refl, λ n e. no_member 1 n e), simp tables refl, simp tables (λ e. omega (arith, e)), refl)

abbrev s9 : Federation
s9 = with_member (with_session s8 2 (with_told session8 told8)) 1 (with_engine (s8.member 1) (with_operation (s8.member 1).engine 2 (op.Write (120 ∷ []) (49 ∷ []))))

next8 : effect s8 m8 ≡ s9
next8 = (λ i. with_member (entered_reply s8 2 1 (op.Write (120 ∷ []) (49 ∷ [])) (found8 i)) 1 (with_engine (s8.member 1) (with_operation (s8.member 1).engine 2 (op.Write (120 ∷ []) (49 ∷ [])))))
    ∙ (λ i. with_member (with_session s8 2 (with_told session8 (record { site = record { member = 1; op = op.Write (120 ∷ []) (49 ∷ []) }; reply = reply8 i }))) 1 (with_engine (s8.member 1) (with_operation (s8.member 1).engine 2 (op.Write (120 ∷ []) (49 ∷ [])))))

abbrev m9 : Move
m9 = AskEnd 2

abbrev session9 : Session
session9 = record { by = node.Coord 1; told = record { site = record { member = 1; op = op.Write (120 ∷ []) (49 ∷ []) }; reply = reply.Done } ∷ []; asked = false }

found9 : look s9.sessions 2 ≡ Some session9
found9 = simp tables refl

guard9 : Guard s9 m9
guard9 = simp tables refl

abbrev s10 : Federation
s10 = with_session s9 2 (asked_to_end session9)

next9 : effect s9 m9 ≡ s10
next9 = (λ i. marked_over s9 2 (found9 i))

abbrev m10 : Move
m10 = Collect 2 1

parts10 : parts_of (told_of s10 2) ≡ record { member = 1; count = 1 } ∷ []
parts10 = simp tables refl

guard10 : Guard s10 m10
guard10 = (simp tables refl, simp tables refl, simp tables refl, simp tables (λ e. some_parts _ _ e))

abbrev s11 : Federation
s11 = with_entry s10 2 1 (entry.Collecting (record { member = 1; count = 1 } ∷ []) [])

next10 : effect s10 m10 ≡ s11
next10 = (λ i. with_entry s10 2 1 (entry.Collecting (parts10 i) []))

abbrev m11 : Move
m11 = Send (message.Prepare 2 1 1 1)

guard11 : Guard s11 m11
guard11 = (record { member = 1; count = 1 } ∷ [], [], simp tables refl, refl, simp tables refl)

abbrev s12 : Federation
s12 = effect s11 m11

next11 : effect s11 m11 ≡ s12
next11 = refl

abbrev m12 : Move
m12 = Cast 2 1 1 1

abbrev engine_cast2 : EngineState
engine_cast2 = (s12.member 1).engine

abbrev s13 : Federation
s13 = effect s12 m12

next12 : effect s12 m12 ≡ s13
next12 = refl

abbrev m13 : Move
m13 = Send (message.Vote 2 1 1 true)

guard13 : Guard s13 m13
guard13 = (simp tables refl, simp tables refl)

abbrev s14 : Federation
s14 = effect s13 m13

next13 : effect s13 m13 ≡ s14
next13 = refl

abbrev m14 : Move
m14 = Decide 2 1

entry14 : entry_at s14 2 1 ≡ Some (entry.Collecting (record { member = 1; count = 1 } ∷ []) [])
entry14 = simp tables refl

decided14 : told_of s14 2 ≡ record { site = record { member = 1; op = op.Write (120 ∷ []) (49 ∷ []) }; reply = reply.Done } ∷ []
decided14 = simp tables refl

guard14 : Guard s14 m14
guard14 = inr (record { member = 1; count = 1 } ∷ [], [], 1, simp tables refl, refl, refl)

abbrev s15 : Federation
s15 = record (with_coord s14 1 (decide_members (s14.coord 1) 2 (1 ∷ []))) { decided = record { txn = 2; told = record { site = record { member = 1; op = op.Write (120 ∷ []) (49 ∷ []) }; reply = reply.Done } ∷ [] } ∷ s14.decided }

next14 : effect s14 m14 ≡ s15
next14 = (λ i. record (with_coord s14 1 (decide_entry (s14.coord 1) 2 (entry14 i))) { decided = record { txn = 2; told = decided14 i } ∷ s14.decided })

abbrev m15 : Move
m15 = Decide 1 1

entry15 : entry_at s15 1 1 ≡ Some (entry.Collecting (record { member = 1; count = 1 } ∷ []) [])
entry15 = simp tables refl

decided15 : told_of s15 1 ≡ record { site = record { member = 1; op = op.Read (120 ∷ []) }; reply = reply.Got None } ∷ []
decided15 = simp tables refl

guard15 : Guard s15 m15
guard15 = inr (record { member = 1; count = 1 } ∷ [], [], 1, simp tables refl, refl, refl)

abbrev s16 : Federation
s16 = record (with_coord s15 1 (decide_members (s15.coord 1) 1 (1 ∷ []))) { decided = record { txn = 1; told = record { site = record { member = 1; op = op.Read (120 ∷ []) }; reply = reply.Got None } ∷ [] } ∷ s15.decided }

next15 : effect s15 m15 ≡ s16
next15 = (λ i. record (with_coord s15 1 (decide_entry (s15.coord 1) 1 (entry15 i))) { decided = record { txn = 1; told = decided15 i } ∷ s15.decided })

abbrev before : List Move
before = m0 ∷ m1 ∷ m2 ∷ m3 ∷ m4 ∷ m5 ∷ m6 ∷ m7 ∷ m8 ∷ m9 ∷ m10 ∷ m11 ∷ []

abbrev after : List Move
after = m13 ∷ m14 ∷ m15 ∷ []

walked_before : Walks before s0 s12
walked_before = (guard0, (s1, next0, (guard1, (s2, next1, (guard2, (s3, next2, (guard3, (s4, next3, (guard4, (s5, next4, (guard5, (s6, next5, (guard6, (s7, next6, (guard7, (s8, next7, (guard8, (s9, next8, (guard9, (s10, next9, (guard10, (s11, next10, (guard11, (s12, next11, refl))))))))))))))))))))))))

walked_after : Walks after s13 s16
walked_after = (guard13, (s14, next13, (guard14, (s15, next14, (guard15, (s16, next15, refl))))))

verdict : vote_of (s12.member 1).engine 2 1 ≡ HeldBy 1
verdict = simp tables refl

granted : vote_without VotedReader (s12.member 1).engine 2 1 ≡ VoteYes
granted = simp tables refl

abbrev d0 : Decided
d0 = record { txn = 1; told = record { site = record { member = 1; op = op.Read (120 ∷ []) }; reply = reply.Got None } ∷ [] }

abbrev d1 : Decided
d1 = record { txn = 2; told = record { site = record { member = 1; op = op.Write (120 ∷ []) (49 ∷ []) }; reply = reply.Done } ∷ [] }

serially : run_whole (serial_records s16 (d1 ∷ [])) (sites_of d0.told) ≡ reply.Got (Some (49 ∷ [])) ∷ []
serially = simp (tables, gets) refl

abbrev got_some : List Reply → Bool
got_some (reply.Got (Some value) ∷ replies) = true
got_some _ = false

unserial : ReadsAreSerial s16 → ⊥
unserial h = let q : false ≡ true = ap got_some (h [] (d1 ∷ []) d0 refl ∙ serially) in cc

-- it ends so
ends : all_effects after (effect (all_effects before s0) (Cast 2 1 1 1)) ≡ s16
ends = ap (λ s. all_effects after (effect s (Cast 2 1 1 1))) (walks_to before s0 s12 walked_before) ∙ walks_to after s13 s16 walked_after

pub needed : IsNeeded VotedReader
needed =
    let there = walks_to before s0 s12 walked_before in
    record {
      kinds = Occ ∷ [];
      before = before;
      t = 2;
      m = 1;
      count = 1;
      after = after;
      guarded = walks_guards before s0 s12 walked_before;
      asked = ap (λ s. was_sent s.sent (message.Prepare 2 1 1 1)) there;
      against = λ h. not_yes (vote_of (s12.member 1).engine 2 1) (HeldBy 1) verdict refl (sym (ap (λ s. vote_of (s.member 1).engine 2 1) there) ∙ h);
      without = ap (λ s. vote_without VotedReader (s.member 1).engine 2 1) there ∙ granted;
      goes_on = subst (λ s. GuardsHold after (effect s (Cast 2 1 1 1))) (sym there) (walks_guards after s13 s16 walked_after);
      unserial = λ h. unserial (subst ReadsAreSerial ends h);
    }

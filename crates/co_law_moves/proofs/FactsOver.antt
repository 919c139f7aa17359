-- What an event needs of a state: the facts over sound opened logs have it, and so have those over any.
use Rattle.std.proofs.Common.{◌≡◌, ℕ, true, false, if◌then◌else◌, List, [], ◌∷◌, Option, None, Some, refl, sym, ap, ◌∙◌, subst}
use Rattle.std.proofs.lemmas.Bool.{false_from_ne_true}
use Rattle.std.specs.Option.{is_some}
use Rattle.co_base.specs.declared.node.Node.{Node}
use Rattle.co_base.specs.declared.node.Node.TheVariants as node
use Rattle.co_message.specs.declared.message.Message.{Message}
use Rattle.co_message.specs.declared.message.Message.TheVariants as message
use Rattle.co_record.specs.declared.record.Record.{Record}
use Rattle.co_record.specs.declared.record.Record.TheVariants as log
use Rattle.co_state.specs.Table.{Table, look, holds}
use Rattle.co_plain.specs.declared.member_state.AskedMark.{AskedMark}
use Rattle.co_plain.specs.declared.session.Decided.{Decided}
use Rattle.co_plain.specs.declared.session.Session.{Session}
use Rattle.co_plain.specs.Sessions.{asked_to_end}
use Rattle.co_base.specs.Nodes.{same_node}
use Rattle.co_plain.specs.Wire.{was_sent}
use Rattle.co_plain.specs.Federation.{Federation, with_session, decided_where}
use Rattle.co_plain.specs.Invariants.{Memory, txn_of, OwnAborts}
use Rattle.co_plain.specs.Member.{coord_of}
use Rattle.co_plain.specs.Moves.{marked_over}
use Rattle.co_law_base.proofs.Lookups.{found_holds}
use Rattle.co_law_base.proofs.Facts.{rest_of, over, by_coord, CoordHas, Facts}
use Rattle.co_law_base.proofs.LogMoves.{local_apart}
use Rattle.co_law_base.proofs.Asking.{keeps_ask}
use Rattle.co_law_moves.specs.OwnGuards.{Logs, SoundLogs, AnyLogs, Where}
use Rattle.co_law_moves.proofs.Own.{OwnFacts}
use Rattle.co_law_moves.proofs.OwnClients.{asks_own}
use Rattle.co_law_moves.proofs.Marks.{AllQuiet, aborts_quiet}
use Rattle.co_law_moves.proofs.Standings.{votes_own}

abbrev pub FactsOver : Logs → Federation → Type 0
FactsOver SoundLogs s = Facts s
FactsOver AnyLogs s = OwnFacts s

-- the facts over sound logs, where they are asked for
pub where_sound : {A : Type 0} (l : Logs) (s : Federation) → FactsOver l s → (Facts s → A) → Where l A
where_sound SoundLogs s f h = h f
where_sound AnyLogs s f h = tt

pub coords_over : (l : Logs) (s : Federation) → FactsOver l s → (c : ℕ) → CoordHas (rest_of s) c (s.coord c)
coords_over SoundLogs s f = f.coords
coords_over AnyLogs s f = f.coords

pub marked_over' : (l : Logs) (s : Federation) → FactsOver l s → (m t : ℕ) (mark : AskedMark) → look (s.member m).asked t ≡ Some mark →
    (holds (s.member m).engine.active t ≡ true) × (was_sent s.sent (message.Prepare t mark.coord m mark.count) ≡ true)
marked_over' SoundLogs s f m = (f.members m).marked
marked_over' AnyLogs s f m = (f.members m).marked

pub sent_over : (l : Logs) (s : Federation) → FactsOver l s → (note : Message) → was_sent s.sent note ≡ true → over (rest_of s) (txn_of note) ≡ true
sent_over SoundLogs s f = f.sent.over
sent_over AnyLogs s f = f.sent.over

own_quiet : (sessions : Table Session) (at : Node) (stable rs : List Record) → OwnAborts stable rs → AllQuiet sessions at rs
own_quiet sessions at stable [] w = tt
own_quiet sessions at stable (log.Abort t ∷ rs) w = (tt, own_quiet sessions at stable rs w.1)
own_quiet sessions at stable (log.Header a b ∷ rs) w = absurd w
own_quiet sessions at stable (log.Prepare a b c d e ∷ rs) w = absurd w
own_quiet sessions at stable (log.Commit a b ∷ rs) w = absurd w
own_quiet sessions at stable (log.End a ∷ rs) w = absurd w
own_quiet sessions at stable (log.Checkpoint a b c ∷ rs) w = absurd w

-- the records that wait at a member decide nothing
pub waiting_quiet : (l : Logs) (s : Federation) → FactsOver l s → (m : ℕ) (sessions : Table Session) → AllQuiet sessions (node.Member m) (s.member m).log.waiting
waiting_quiet SoundLogs s f m sessions = aborts_quiet (rest_of s) sessions (node.Member m) (s.member m).log.waiting (f.members m).waiting
waiting_quiet AnyLogs s f m sessions = own_quiet sessions (node.Member m) (s.member m).log.stable (s.member m).log.waiting (f.members m).waiting

-- who is voted is no local one
voted_away : (l : Logs) (s : Federation) → FactsOver l s → (m t : ℕ) → holds (s.member m).engine.voted t ≡ true → (session : Session) → look s.sessions t ≡ Some session → (k : ℕ) → session.by ≡ node.Member k → ⊥
voted_away SoundLogs s f m t h session e k b =
    let c = coord_of (s.member m) t in
    local_apart s f.numbers t c k session (((f.members m).views Memory).named t c (votes_own s m t h)) e b
voted_away AnyLogs s f m t h session e k b =
    let home = ((f.members m).views Memory).away t h (ap is_some e) in
    let z : true ≡ false = sym home.1 ∙ ap (λ o. by_coord o home.0) e ∙ ap (λ n. same_node n (node.Coord home.0)) b in cc

-- so a commit record of it here decides nothing
pub vote_quiet : (l : Logs) (s : Federation) → FactsOver l s → (m t : ℕ) → holds (s.member m).engine.voted t ≡ true → (ds : List Decided) → decided_where (look s.sessions t) (node.Member m) t ds ≡ ds
vote_quiet l s f m t h ds = by (look s.sessions t) refl
  where
    node_of : (session : Session) → look s.sessions t ≡ Some session → (at : Node) → session.by ≡ at → (if same_node at (node.Member m) then record { txn = t; told = session.told } ∷ ds else ds) ≡ ds
    node_of session e (node.Member k) b = absurd (voted_away l s f m t h session e k b)
    node_of session e (node.Coord c) b = refl

    by : (o : Option Session) → look s.sessions t ≡ o → decided_where o (node.Member m) t ds ≡ ds
    by None e = refl
    by (Some session) e = node_of session e session.by refl

-- after the client asked
pub asks_over : (l : Logs) (s : Federation) → FactsOver l s → (t : ℕ) (session : Session) → look s.sessions t ≡ Some session → FactsOver l (with_session s t (asked_to_end session))
asks_over SoundLogs s f t session e = subst (λ o. Facts (marked_over s t o)) e (keeps_ask s f t (found_holds s.sessions t session e))
asks_over AnyLogs s f t session e = asks_own s f t session e

-- a local transaction is voted nowhere
pub local_unvoted : (l : Logs) (s : Federation) → FactsOver l s → (t m : ℕ) (session : Session) → look s.sessions t ≡ Some session → session.by ≡ node.Member m → holds (s.member m).engine.voted t ≡ false
local_unvoted l s f t m session e mine = false_from_ne_true (holds (s.member m).engine.voted t) (λ h. voted_away l s f m t h session e m mine)

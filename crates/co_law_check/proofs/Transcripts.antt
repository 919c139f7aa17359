-- The transcript of a run, read event by event.
use Rattle.std.proofs.Common.{◌≡◌, ℕ, suc, Bool, true, false, ◌&&◌, ◌+◌, List, [], ◌∷◌, ◌++◌, length, Option, None, Some, refl, sym, ap, ◌∙◌, subst, arith, append_assoc}
use Rattle.std.specs.Prelude.{nat_le}
use Rattle.std.proofs.lemmas.Bool.Decides.{nat_tests}
use Rattle.std.specs.List.{AllByRecursion}
use Rattle.co_base.specs.declared.head.Head.{Head}
use Rattle.co_base.specs.declared.node.Node.{Node}
use Rattle.co_base.specs.declared.node.Node.TheVariants as node
use Rattle.co_message.specs.declared.answer.Answer.{Answer}
use Rattle.co_message.specs.declared.answer.Answer.TheVariants as answer
use Rattle.co_message.specs.declared.event.Event.{Event}
use Rattle.co_message.specs.declared.event.Event.TheVariants as event
use Rattle.co_message.specs.declared.item.Item.{Item}
use Rattle.co_message.specs.declared.item.ItemKind.TheVariants as item
use Rattle.co_message.specs.declared.message.Message.{Message}
use Rattle.co_message.specs.declared.message.Message.TheVariants as message
use Rattle.co_state.specs.Table.{Table, look, put}
use Rattle.co_schedule.specs.View.{IsWithin, IsNode, IsMessageFor, IsEventFor}
use Rattle.co_plain.specs.Decisions.{told_in, is_decided}
use Rattle.co_plain.specs.Federation.{Federation, Stepped, items_of}
use Rattle.co_plain.specs.Promises.{AreDecidedOnce}
use Rattle.co_plain.specs.Runs.{run, numbered, transcript, lines}
use Rattle.co_plain.specs.Sessions.{begun_by, with_told}
use Rattle.co_plain.specs.Step.{step_line}
use Rattle.co_plain.specs.declared.session.Decided.{Decided}
use Rattle.co_plain.specs.declared.session.Session.{Session}
use Rattle.co_law_base.proofs.Lookups.{put_here, put_there}
use Rattle.co_replay.specs.Schedule.{HasLine}
use Rattle.co_check.specs.Account.{Account, client_of, with_client, begun, begun_by as begun_at, told, told_to, replied}
use Rattle.co_check.specs.Shape.{Read, read_from, at_place, fits, is_member, is_coord, is_node, is_sendable}
use Rattle.co_check.specs.declared.client.Answered.{Answered}
use Rattle.co_check.specs.declared.client.Client.{Client}
use Rattle.co_check.specs.declared.place.Place.TheVariants.{Behind}
use Rattle.co_law_check.specs.Told.{by_in, AreAlike, Tells}
use Rattle.co_law_check.proofs.Marks.{at_each, client_here, client_there, once_before, Becomes}
use Rattle.co_law_check.proofs.Groups.{read_marks, read_group}
use Rattle.co_law_check.proofs.Events.{IsTold, Quiet, Begun, Operated, event_told}

-- ---- an event of a schedule fits its head

within : (high n : ℕ) → IsWithin 1 high n → (nat_le 1 n && nat_le n high) ≡ true
within high n h = grind (arith, nat_tests, h.0, h.1)

node_fits : (head : Head) (at : Node) → IsNode (length head.kinds) head.coords at → is_node head at ≡ true
node_fits head (node.Member m) h = within (length head.kinds) m h
node_fits head (node.Coord c) h = within head.coords c h

both : (x y : Bool) → x ≡ true → y ≡ true → (x && y) ≡ true
both true y e f = f
both false y e f = absurd (let z : false ≡ true = e in cc)

sendable : (head : Head) (note : Message) → IsMessageFor (length head.kinds) head.coords note → is_sendable head note ≡ true
sendable head (message.Prepare t c m count) h = both (is_coord head c) (is_member head m) (within head.coords c h.1) (within (length head.kinds) m h.2)
sendable head (message.Vote t m c granted) h = both (is_coord head c) (is_member head m) (within head.coords c h.2) (within (length head.kinds) m h.1)
sendable head (message.Decide t c m commit) h = both (is_coord head c) (is_member head m) (within head.coords c h.1) (within (length head.kinds) m h.2)
sendable head (message.Ask t m c) h = both (is_coord head c) (is_member head m) (within head.coords c h.2) (within (length head.kinds) m h.1)
sendable head (message.Ack t m c) h = both (is_coord head c) (is_member head m) (within head.coords c h.2) (within (length head.kinds) m h.1)

pub event_fits : (head : Head) (e : Event) → IsEventFor (length head.kinds) head.coords e → fits head e ≡ true
event_fits head (event.Begin t c) h = within head.coords c h.1
event_fits head (event.Local t m) h = within (length head.kinds) m h.1
event_fits head (event.Read t m key) h = within (length head.kinds) m h.1
event_fits head (event.Write t m key value) h = within (length head.kinds) m h.1
event_fits head (event.Erase t m key) h = within (length head.kinds) m h.1
event_fits head (event.Scan t m span) h = within (length head.kinds) m h.1
event_fits head (event.Commit t) h = refl
event_fits head (event.Abort t) h = refl
event_fits head (event.Deliver note) h = sendable head note h
event_fits head (event.Vote t m) h = within (length head.kinds) m h.1
event_fits head (event.Timer t at) h = node_fits head at h.1
event_fits head (event.Ask t m) h = within (length head.kinds) m h.1
event_fits head (event.Resend t c) h = within head.coords c h.1
event_fits head (event.Crash at) h = node_fits head at h
event_fits head (event.Restart at) h = node_fits head at h
event_fits head (event.Arm at call leaves) h = node_fits head at h.0
event_fits head (event.Checkpoint at) h = node_fits head at h

-- ---- decisions are made once, also before

told_once : (s : Federation) (e : Event) (z : Stepped) → IsTold s e z → AreDecidedOnce z.state.decided → AreDecidedOnce s.decided
told_once s e z (Quiet q) h = once_before z.state.sessions q.marks s.decided (subst AreDecidedOnce q.decided h)
told_once s e z (Begun q) h = subst AreDecidedOnce q.decided h
told_once s e z (Operated q) h = subst AreDecidedOnce q.decided h

once_at_start : (events : List Event) (s : Federation) → AreDecidedOnce (run (lines events) s).decided → AreDecidedOnce s.decided
once_at_start [] s h = h
once_at_start (e ∷ es) s h = told_once s e (step_line s e) (event_told s e) (once_at_start es (step_line s e).state h)

-- ---- what a reply tells

module _ (sessions : Table Session) (decided : List Decided) (a : Account) (m : Tells a sessions decided) (t : ℕ) where
  -- a transaction is begun
  begin_tells : (by : Node) → look sessions t ≡ None → Becomes (begun a t by) (put sessions t (begun_by by)) decided
  begin_tells by new =
      record {
        account = now;
        is = ap (begun_at a t by (client_of a t)) (m.by t ∙ ap by_in new);
        tells = record {
          by = at_each (λ u. (client_of now u).by ≡ by_in (look (put sessions t (begun_by by)) u)) t
              (ap (λ (c : Client). c.by) (client_here a.clients t client) ∙ sym (ap by_in (put_here sessions t (begun_by by))))
              (λ u n. ap (λ (c : Client). c.by) (client_there a.clients t client u n) ∙ m.by u ∙ sym (ap by_in (put_there sessions t (begun_by by) u n)));
          told = at_each (λ u. is_decided decided u ≡ false → AreAlike (client_of now u).told (told_in (look (put sessions t (begun_by by)) u))) t
              (λ h. subst (λ (c : Client). AreAlike c.told (told_in (look (put sessions t (begun_by by)) t))) (sym (client_here a.clients t client))
              (subst (AreAlike (client_of a t).told) (ap told_in new ∙ sym (ap told_in (put_here sessions t (begun_by by)))) (m.told t h)))
              (λ u n h. subst (λ (c : Client). AreAlike c.told (told_in (look (put sessions t (begun_by by)) u))) (sym (client_there a.clients t client u n))
              (subst (AreAlike (client_of a u).told) (sym (ap told_in (put_there sessions t (begun_by by) u n))) (m.told u h)));
          settled = at_each (λ u. (client_of now u).decided ≡ is_decided decided u) t
              (ap (λ (c : Client). c.decided) (client_here a.clients t client) ∙ m.settled t) (λ u n. ap (λ (c : Client). c.decided) (client_there a.clients t client u n) ∙ m.settled u);
          committed = m.committed;
        };
      }
    where
      client : Client
      client = record (client_of a t) { by = Some by }

      now : Account
      now = with_client a t client

  -- an operation was answered
  operate_tells : (session : Session) (o : Answered) → look sessions t ≡ Some session →
      Becomes (Some (told a t o)) (put sessions t (with_told session (record { site = o.site; reply = o.reply }))) decided
  operate_tells session o known = by (is_decided decided t) refl
    where
      after : Table Session
      after = put sessions t (with_told session (record { site = o.site; reply = o.reply }))

      client : Client
      client = record (client_of a t) { told = o ∷ (client_of a t).told }

      now : Account
      now = with_client a t client

      by_here : by_in (look after t) ≡ by_in (look sessions t)
      by_here = ap by_in (put_here sessions t (with_told session (record { site = o.site; reply = o.reply }))) ∙ sym (ap by_in known)

      longer : AreAlike (client_of a t).told (told_in (look sessions t)) → AreAlike (o ∷ (client_of a t).told) (told_in (look after t))
      longer h =
          subst (AreAlike (o ∷ (client_of a t).told)) (sym (ap told_in (put_here sessions t (with_told session (record { site = o.site; reply = o.reply })))))
          (let k = subst (AreAlike (client_of a t).told) (ap told_in known) h in (ap (λ xs. o.site ∷ xs) k.0, ap (λ xs. o.reply ∷ xs) k.1))

      by : (b : Bool) → is_decided decided t ≡ b → Becomes (Some (told a t o)) after decided
      by true e =
          record {
            account = a;
            is = ap (λ b. Some (told_to a t o (client_of a t) b)) (m.settled t ∙ e);
            tells = record {
              by = at_each (λ u. (client_of a u).by ≡ by_in (look after u)) t (m.by t ∙ sym by_here) (λ u n. m.by u ∙ sym (ap by_in (put_there sessions t (with_told session (record { site = o.site; reply = o.reply })) u n)));
              told = at_each (λ u. is_decided decided u ≡ false → AreAlike (client_of a u).told (told_in (look after u))) t (λ h. absurd (let z : true ≡ false = sym e ∙ h in cc))
                  (λ u n h. subst (AreAlike (client_of a u).told) (sym (ap told_in (put_there sessions t (with_told session (record { site = o.site; reply = o.reply })) u n))) (m.told u h));
              settled = m.settled;
              committed = m.committed;
            };
          }
      by false e =
          record {
            account = now;
            is = ap (λ b. Some (told_to a t o (client_of a t) b)) (m.settled t ∙ e);
            tells = record {
              by = at_each (λ u. (client_of now u).by ≡ by_in (look after u)) t (ap (λ (c : Client). c.by) (client_here a.clients t client) ∙ m.by t ∙ sym by_here)
                  (λ u n. ap (λ (c : Client). c.by) (client_there a.clients t client u n) ∙ m.by u ∙ sym (ap by_in (put_there sessions t (with_told session (record { site = o.site; reply = o.reply })) u n)));
              told = at_each (λ u. is_decided decided u ≡ false → AreAlike (client_of now u).told (told_in (look after u))) t
                  (λ h. subst (λ (c : Client). AreAlike c.told (told_in (look after t))) (sym (client_here a.clients t client)) (longer (m.told t h)))
                  (λ u n h. subst (λ (c : Client). AreAlike c.told (told_in (look after u))) (sym (client_there a.clients t client u n))
                  (subst (AreAlike (client_of a u).told) (sym (ap told_in (put_there sessions t (with_told session (record { site = o.site; reply = o.reply })) u n))) (m.told u h)));
              settled = at_each (λ u. (client_of now u).decided ≡ is_decided decided u) t (ap (λ (c : Client). c.decided) (client_here a.clients t client) ∙ m.settled t)
                  (λ u n. ap (λ (c : Client). c.decided) (client_there a.clients t client u n) ∙ m.settled u);
              committed = m.committed;
            };
          }

-- ---- the group of an event, and a whole transcript

module _ (head : Head) where
  abbrev pub whole : ℕ → Account → Option Read
  whole k a = Some (record { place = Behind head k; account = a })

  -- items that were read lead behind the group of this number, with an account that tells of this state
  pub record ReadsOn (k : ℕ) (a : Account) (items : List Item) (n : ℕ) (z : Federation) : Type 0 where
    pub account : Account
    pub tells : Tells account z.sessions z.decided
    pub reads : (rest : List Item) → read_from (whole k a) (items ++ rest) ≡ read_from (whole n account) rest

  -- a group without marks
  module _ (k n : ℕ) (e : Event) (s : Federation) (z : Stepped) (a : Account) (is : n ≡ k + 1) (fit : fits head e ≡ true) (m : Tells a s.sessions s.decided) where
    plain : (said : Answer) (o : Option Account) (b : Becomes o z.state.sessions s.decided) → z.items ≡ items_of [] [] said → z.state.decided ≡ s.decided → replied a n e said ≡ o →
        ReadsOn k a (numbered n (item.Event e ∷ z.items)) n z.state
    plain said o b items decided heard =
        record {
          account = b.account;
          tells = subst (Tells b.account z.state.sessions) (sym decided) b.tells;
          reads = λ rest.
              ap (λ xs. read_from (whole k a) (numbered n (item.Event e ∷ xs) ++ rest)) items
              ∙ read_group head k n e s.sessions [] [] said s.decided a is fit (record { account = a; tells = m; reads = λ more. refl }) rest
              ∙ ap (λ x. read_from (at_place (Behind head n) x) rest) (heard ∙ b.is);
        }

    read_event : IsTold s e z → AreDecidedOnce z.state.decided → ReadsOn k a (numbered n (item.Event e ∷ z.items)) n z.state
    read_event (Begun q) once =
        plain answer.Begun (begun a q.txn q.by) (subst (λ table. Becomes (begun a q.txn q.by) table s.decided) (sym q.sessions) (begin_tells s.sessions s.decided a m q.txn q.by q.new)) q.items q.decided (q.heard a)
    read_event (Operated q) once =
        let o : Answered = record { number = n; site = record { member = q.member; op = q.op }; reply = q.reply } in
        plain (answer.Replied q.reply) (Some (told a q.txn o)) (subst (λ table. Becomes (Some (told a q.txn o)) table s.decided) (sym q.sessions) (operate_tells s.sessions s.decided a m q.txn q.session o q.known)) q.items q.decided
        (q.heard a n)
    read_event (Quiet q) once =
        let kept : Tells a z.state.sessions s.decided = record { by = λ t. m.by t ∙ sym (q.by t); told = λ t h. subst (AreAlike (client_of a t).told) (sym (q.told t)) (m.told t h); settled = m.settled; committed = m.committed } in
        let r = read_marks head n e z.state.sessions q.marks s.decided a kept (subst AreDecidedOnce q.decided once) in
        record {
          account = r.account;
          tells = subst (Tells r.account z.state.sessions) (sym q.decided) r.tells;
          reads = λ rest.
              ap (λ xs. read_from (whole k a) (numbered n (item.Event e ∷ xs) ++ rest)) q.items
              ∙ read_group head k n e z.state.sessions q.marks q.messages q.said s.decided a is fit r rest
              ∙ ap (λ x. read_from (at_place (Behind head n) x) rest) (q.silent r.account n);
        }

  pub read_events : (events : List Event) (k n : ℕ) (s : Federation) (a : Account) → n ≡ k + 1 → Tells a s.sessions s.decided → AllByRecursion (HasLine head) events → AreDecidedOnce (run (lines events) s).decided →
      ReadsOn k a (transcript n events s) (k + length events) (run (lines events) s)
  read_events [] k n s a is m valid once = record { account = a; tells = m; reads = λ rest. ap (λ j. read_from (whole j a) rest) (let q : k ≡ k + 0 = omega arith in q) }
  read_events (e ∷ es) k n s a is m valid once =
      let z = step_line s e in
      let one = read_event k n e s z a is (event_fits head e valid.0.0) m (event_told s e) (once_at_start es z.state once) in
      let more = read_events es n (suc n) z.state one.account (omega arith) one.tells valid.1 once in
      record {
        account = more.account;
        tells = more.tells;
        reads = λ rest.
            ap (read_from (whole k a)) (append_assoc (numbered n (item.Event e ∷ z.items)) (transcript (suc n) es z.state) rest) ∙ one.reads (transcript (suc n) es z.state ++ rest) ∙ more.reads rest
            ∙ ap (λ j. read_from (whole j more.account) rest) (let q : n + length es ≡ k + length (e ∷ es) = omega (arith, is) in q);
      }

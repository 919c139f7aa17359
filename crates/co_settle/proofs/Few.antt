-- No more transactions are open than were begun or stand in the opened logs, and each event begins one at most.
use Rattle.std.proofs.Common.{◌≡◌, ◌⊎◌, inl, inr, ℕ, suc, ◌≤◌, ◌+◌, Bool, true, false, not, ◌||◌, ◌==◌, if◌then◌else◌, List, [], ◌∷◌, ◌++◌, length, Option, None, Some, refl, sym, ap, ◌∙◌, arith}
use Rattle.std.specs.Option.{is_some}
use Rattle.std.specs.List.{list_any}
use Rattle.std.specs.Ordering.{nat_cmp, eq_by_cmp, is_eq}
use Rattle.std.specs.Cmp.{eq_by_cmp_equiv, nat_cmp_total}
use Rattle.std.specs.FinMap.{entries, entries_sorted, keys, contains_key-keys}
use Rattle.std.proofs.lemmas.Bool.{or_cases, eqb-true, eqb-false}
use Rattle.std.proofs.lemmas.Cmp.{tied_itself}
use Rattle.std.proofs.lemmas.List.{length-append}
use Rattle.std.proofs.lemmas.Map.Made.{length-le_from_is_member}
use Rattle.co_base.specs.declared.node.Node.{Node}
use Rattle.co_base.specs.declared.node.Node.TheVariants as node
use Rattle.co_base.specs.declared.op.Op.{Op}
use Rattle.co_base.specs.declared.reply.Reply.{Reply}
use Rattle.co_message.specs.declared.event.Event.{Event}
use Rattle.co_message.specs.declared.event.Event.TheVariants as event
use Rattle.co_message.specs.declared.message.Message.{Message}
use Rattle.co_message.specs.declared.message.Message.TheVariants as message
use Rattle.co_message.specs.declared.answer.Answer.TheVariants as answer
use Rattle.co_plain.specs.Federation.{Federation, answers}
use Rattle.co_plain.specs.Decisions.{asked_in}
use Rattle.co_plain.specs.Invariants.{Memory}
use Rattle.co_plain.specs.Quiet.{IsOpen, InTable, ActiveAt, VotedAt, open_here, open_numbers, open_count, table_numbers}
use Rattle.co_base.specs.declared.head.Kind.{Kind}
use Rattle.co_opening.specs.Found.{AreUnused}
use Rattle.co_plain.specs.CoordView.{recovered_commits}
use Rattle.co_plain.specs.MemberView.{Numbers, numbers_from, recovered_view}
use Rattle.co_plain.specs.Numbers.{has_number}
use Rattle.co_plain.specs.Opening.{Found, opened, numbers_in, union_to, used_numbers}
use Rattle.co_record.specs.declared.record.Record.{Record}
use Rattle.co_state.specs.declared.engine_state.Vote.{Vote}
use Rattle.co_plain.specs.Runs.{run, lines}
use Rattle.co_plain.specs.Sessions.{Leave, Refuses, Grants, leave_to_visit, leave_to_end}
use Rattle.co_plain.specs.Step.{step_line, up_member, up_coord, begin_where, local_where, entered, operated, operate_with, marked_asked, coord_answers, local_answers, commit_at, commit_with, abort_at, abort_with, arrives, is_used, reply_in, is_stopped, is_held}
use Rattle.co_plain.specs.Wire.{was_sent}
use Rattle.co_plain.specs.declared.coord_state.Entry.{Entry}
use Rattle.co_plain.specs.declared.coord_state.Entry.TheVariants as entry
use Rattle.co_plain.specs.declared.coord_step.CoordStep.{CoordStep}
use Rattle.co_plain.specs.declared.member_step.MemberStep.{MemberStep}
use Rattle.co_plain.specs.declared.session.Session.{Session}
use Rattle.co_state.specs.Table.{Table, look, holds, put, no_entries}
use Rattle.co_law_base.proofs.Facts.{Facts, rest_of, over, asked, by_coord}
use Rattle.co_law_base.proofs.Lookups.{look_none, put_there, holds_found}
use Rattle.co_settle.specs.Reached.{IsReached}
use Rattle.co_settle.proofs.Bounded.{laid_cases, or_left, or_right, key_holds, all_cases, union_cases, listed_holds, here_open, distinct_entries}
use Rattle.co_settle.proofs.Reaching.{all_reached}

-- ---- what is open is known

begun_is : (o : Option Session) (c : ℕ) → by_coord o c ≡ true → is_some o ≡ true
begun_is None c h = absurd (let z : false ≡ true = h in cc)
begun_is (Some session) c h = refl

module _ (s : Federation) (f : Facts s) where
  asked_begun : (t : ℕ) → asked (rest_of s) t ≡ true → holds s.sessions t ≡ true
  asked_begun t h = by (look s.sessions t) h
    where
      by : (o : Option Session) → asked_in o ≡ true → is_some o ≡ true
      by None e = absurd (let z : false ≡ true = e in cc)
      by (Some session) e = refl

  over_known : (t : ℕ) → over (rest_of s) t ≡ true → (holds s.sessions t || holds s.used t) ≡ true
  over_known t h = by (or_cases (asked (rest_of s) t) (holds s.used t) h)
    where
      by : (asked (rest_of s) t ≡ true) ⊎ (holds s.used t ≡ true) → (holds s.sessions t || holds s.used t) ≡ true
      by (inl k) = or_left (holds s.sessions t) (holds s.used t) (asked_begun t k)
      by (inr k) = or_right (holds s.sessions t) (holds s.used t) k

  begun_known : (t c : ℕ) → by_coord (look s.sessions t) c ≡ true → (holds s.sessions t || holds s.used t) ≡ true
  begun_known t c h = or_left (holds s.sessions t) (holds s.used t) (begun_is (look s.sessions t) c h)

  pub open_known : (t : ℕ) → IsOpen s t → (holds s.sessions t || holds s.used t) ≡ true
  open_known t (ActiveAt m own h) = let x = holds_found (s.member m).engine.active t h in or_left (holds s.sessions t) (holds s.used t) ((f.members m).active t x.0 x.1).begun
  open_known t (VotedAt m own h) = over_known t (((f.members m).views Memory).over t (or_left (holds (s.member m).engine.voted t) (holds (s.member m).committed t) h))
  open_known t (InTable c own h) = let x = holds_found (s.coord c).table t h in by x.0 x.1
    where
      by : (x : Entry) → look (s.coord c).table t ≡ Some x → (holds s.sessions t || holds s.used t) ≡ true
      by entry.Idle e = begun_known t c ((f.coords c).idle t e).begun_there
      by (entry.Collecting parts yeses) e = begun_known t c ((f.coords c).collecting t parts yeses e).still.begun_there
      by (entry.Committed members acks) e = over_known t ((f.coords c).unended_over t members ((f.coords c).committed t members acks e).recorded)

-- ---- and counted

number_open : (s : Federation) (t : ℕ) → holds (open_numbers s) t ≡ true → IsOpen s t
number_open s t h = by (all_cases (union_to (length s.kinds) (λ m. open_here (s.member m))) (union_to s.coordinators (λ c. table_numbers (entries (s.coord c).table))) t h)
  where
    by : (holds (union_to (length s.kinds) (λ m. open_here (s.member m))) t ≡ true) ⊎ (holds (union_to s.coordinators (λ c. table_numbers (entries (s.coord c).table))) t ≡ true) → IsOpen s t
    by (inl k) = union_cases (length s.kinds) (λ m. open_here (s.member m)) t (λ m from to q. here_open s m t (from, to) q) k
    by (inr k) = union_cases s.coordinators (λ c. table_numbers (entries (s.coord c).table)) t (λ c from to q. InTable c (from, to) (key_holds (s.coord c).table t (listed_holds (entries (s.coord c).table) t q))) k

any_either : (test : ℕ → Bool) (xs ys : List ℕ) → (list_any test xs ≡ true) ⊎ (list_any test ys ≡ true) → list_any test (xs ++ ys) ≡ true
any_either test [] ys (inl h) = absurd (let z : false ≡ true = h in cc)
any_either test [] ys (inr h) = h
any_either test (x ∷ xs) ys h = by (any_either test xs ys) h
  where
    first : ((list_any test xs ≡ true) ⊎ (list_any test ys ≡ true) → list_any test (xs ++ ys) ≡ true) → (test x ≡ true) ⊎ (list_any test xs ≡ true) → (test x || list_any test (xs ++ ys)) ≡ true
    first rest (inl k) = or_left (test x) _ k
    first rest (inr k) = or_right (test x) _ (rest (inl k))

    by : ((list_any test xs ≡ true) ⊎ (list_any test ys ≡ true) → list_any test (xs ++ ys) ≡ true) → ((test x || list_any test xs) ≡ true) ⊎ (list_any test ys ≡ true) → (test x || list_any test (xs ++ ys)) ≡ true
    by rest (inl k) = first rest (or_cases (test x) (list_any test xs) k)
    by rest (inr k) = or_right (test x) _ (rest (inr k))

pub few_open : (s : Federation) → IsReached s → open_count s ≤ length (keys s.sessions) + length (keys s.used)
few_open s r =
    let most = length-le_from_is_member (eq_by_cmp_equiv nat_cmp_total) (keys (open_numbers s)) (keys s.sessions ++ keys s.used) (distinct_entries s (entries (open_numbers s)) (entries_sorted (open_numbers s)))
    (λ q h. any_either (eq_by_cmp nat_cmp q) (keys s.sessions) (keys s.used) (by q (or_cases (holds s.sessions q) (holds s.used q) (open_known s (all_reached s r).facts q (number_open s q (contains_key-keys (open_numbers s) q ∙ h)))))) in
    let l = length-append (keys s.sessions) (keys s.used) in
    omega (arith, most, l)
  where
    by : (q : ℕ) → (holds s.sessions q ≡ true) ⊎ (holds s.used q ≡ true) → (list_any (eq_by_cmp nat_cmp q) (keys s.sessions) ≡ true) ⊎ (list_any (eq_by_cmp nat_cmp q) (keys s.used) ≡ true)
    by q (inl k) = inl (sym (contains_key-keys s.sessions q) ∙ k)
    by q (inr k) = inr (sym (contains_key-keys s.used q) ∙ k)

-- ---- an event puts one session at most, and uses no number

abbrev PutsOne : Federation → Federation → Type 0
PutsOne s z = ((z.sessions ≡ s.sessions) ⊎ ((t : ℕ) × (session : Session) × (z.sessions ≡ put s.sessions t session))) × (z.used ≡ s.used)

none_put : (s : Federation) → PutsOne s s
none_put s = (inl refl, refl)

member_puts : (s z : Federation) (m : ℕ) (up : Bool) (did : MemberStep) → PutsOne s z → PutsOne s (up_member z m up did).state
member_puts s z m true did h = h
member_puts s z m false did h = h

coord_puts : (s z : Federation) (c : ℕ) (up : Bool) (did : CoordStep) → PutsOne s z → PutsOne s (up_coord z c up did).state
coord_puts s z c true did h = h
coord_puts s z c false did h = h

marked_puts : (s : Federation) (t : ℕ) (session : Session) (b : Bool) → PutsOne s (marked_asked s t session b)
marked_puts s t session true = (inr (t, _, refl), refl)
marked_puts s t session false = (inl refl, refl)

entered_puts : (s : Federation) (t : ℕ) (session : Session) (m : ℕ) (o : Op) (r : Option Reply) → PutsOne s (entered s t session m o r)
entered_puts s t session m o None = (inl refl, refl)
entered_puts s t session m o (Some reply) = (inr (t, _, refl), refl)

operated_puts : (s : Federation) (t : ℕ) (session : Session) (m : ℕ) (o : Op) (up : Bool) (did : MemberStep) → PutsOne s (operated s t session m o up did).state
operated_puts s t session m o true did = entered_puts s t session m o (reply_in did.answer)
operated_puts s t session m o false did = (inl refl, refl)

operate_puts : (s : Federation) (t m : ℕ) (o : Op) (l : Leave) → PutsOne s (operate_with s t m o l).state
operate_puts s t m o (Refuses a) = (inl refl, refl)
operate_puts s t m o (Grants session) = operated_puts s t session m o (s.member m).up _

coord_ends : (s : Federation) (t : ℕ) (session : Session) (c : ℕ) (up : Bool) (did : CoordStep) → PutsOne s (coord_answers s t session c up did).state
coord_ends s t session c true did = marked_puts s t session (not (is_stopped did.answer))
coord_ends s t session c false did = (inl refl, refl)

local_ends : (s : Federation) (t : ℕ) (session : Session) (m : ℕ) (up : Bool) (did : MemberStep) → PutsOne s (local_answers s t session m up did).state
local_ends s t session m true did = marked_puts s t session (not (is_held did.answer))
local_ends s t session m false did = (inl refl, refl)

commit_puts : (s : Federation) (t : ℕ) (l : Leave) → PutsOne s (commit_with s t l).state
commit_puts s t (Refuses a) = (inl refl, refl)
commit_puts s t (Grants session) = by session.by
  where
    by : (n : Node) → PutsOne s (commit_at s t session n).state
    by (node.Coord c) = coord_ends s t session c (s.coord c).up _
    by (node.Member m) = local_ends s t session m (s.member m).up _

abort_puts : (s : Federation) (t : ℕ) (l : Leave) → PutsOne s (abort_with s t l).state
abort_puts s t (Refuses a) = (inl refl, refl)
abort_puts s t (Grants session) = by session.by
  where
    by : (n : Node) → PutsOne s (abort_at s t session n).state
    by (node.Coord c) = coord_ends s t session c (s.coord c).up _
    by (node.Member m) = local_ends s t session m (s.member m).up _

begin_puts : (s : Federation) (t c : ℕ) (used up : Bool) → PutsOne s (begin_where s t c used up).state
begin_puts s t c true up = (inl refl, refl)
begin_puts s t c false true = (inr (t, _, refl), refl)
begin_puts s t c false false = (inl refl, refl)

local_puts : (s : Federation) (t m : ℕ) (used up : Bool) → PutsOne s (local_where s t m used up).state
local_puts s t m true up = (inl refl, refl)
local_puts s t m false true = (inr (t, _, refl), refl)
local_puts s t m false false = (inl refl, refl)

arrives_puts : (s : Federation) (note : Message) → PutsOne s (arrives s note).state
arrives_puts s (message.Prepare t c m n) = member_puts s s m (s.member m).up _ (none_put s)
arrives_puts s (message.Decide t c m commit) = member_puts s s m (s.member m).up _ (none_put s)
arrives_puts s (message.Vote t m c granted) = coord_puts s s c (s.coord c).up _ (none_put s)
arrives_puts s (message.Ask t m c) = coord_puts s s c (s.coord c).up _ (none_put s)
arrives_puts s (message.Ack t m c) = coord_puts s s c (s.coord c).up _ (none_put s)

deliver_puts : (s : Federation) (note : Message) (b : Bool) → PutsOne s (if b then arrives s note else answers s answer.Unsent).state
deliver_puts s note true = arrives_puts s note
deliver_puts s note false = (inl refl, refl)

step_puts : (s : Federation) (e : Event) → PutsOne s (step_line s e).state
step_puts s (event.Begin t c) = begin_puts s t c (is_used s t) (s.coord c).up
step_puts s (event.Local t m) = local_puts s t m (is_used s t) (s.member m).up
step_puts s (event.Read t m key) = operate_puts s t m _ (leave_to_visit (look s.sessions t) m)
step_puts s (event.Write t m key value) = operate_puts s t m _ (leave_to_visit (look s.sessions t) m)
step_puts s (event.Erase t m key) = operate_puts s t m _ (leave_to_visit (look s.sessions t) m)
step_puts s (event.Scan t m span) = operate_puts s t m _ (leave_to_visit (look s.sessions t) m)
step_puts s (event.Commit t) = commit_puts s t (leave_to_end (look s.sessions t))
step_puts s (event.Abort t) = abort_puts s t (leave_to_end (look s.sessions t))
step_puts s (event.Deliver note) = deliver_puts s note (was_sent s.sent note)
step_puts s (event.Vote t m) = member_puts s s m (s.member m).up _ (none_put s)
step_puts s (event.Timer t (node.Member m)) = member_puts s s m (s.member m).up _ (none_put s)
step_puts s (event.Timer t (node.Coord c)) = coord_puts s s c (s.coord c).up _ (none_put s)
step_puts s (event.Ask t m) = member_puts s s m (s.member m).up _ (none_put s)
step_puts s (event.Resend t c) = coord_puts s s c (s.coord c).up _ (none_put s)
step_puts s (event.Crash (node.Member m)) = member_puts s s m (s.member m).up _ (none_put s)
step_puts s (event.Crash (node.Coord c)) = coord_puts s s c (s.coord c).up _ (none_put s)
step_puts s (event.Restart (node.Member m)) = (inl refl, refl)
step_puts s (event.Restart (node.Coord c)) = (inl refl, refl)
step_puts s (event.Arm (node.Member m) call leaves) = member_puts s s m (s.member m).up _ (none_put s)
step_puts s (event.Arm (node.Coord c) call leaves) = coord_puts s s c (s.coord c).up _ (none_put s)
step_puts s (event.Checkpoint (node.Member m)) = member_puts s s m (s.member m).up _ (none_put s)
step_puts s (event.Checkpoint (node.Coord c)) = coord_puts s s c (s.coord c).up _ (none_put s)

module _ (s : Federation) where
  put_length : (old : Table Session) (t : ℕ) (session : Session) → length (keys (put old t session)) ≤ suc (length (keys old))
  put_length old t session =
      length-le_from_is_member (eq_by_cmp_equiv nat_cmp_total) (keys (put old t session)) (t ∷ keys old) (distinct_entries s (entries (put old t session)) (entries_sorted (put old t session)))
      (λ q h. by q (t == q) refl (contains_key-keys (put old t session) q ∙ h))
    where
      by : (q : ℕ) (b : Bool) → (t == q) ≡ b → holds (put old t session) q ≡ true → (eq_by_cmp nat_cmp q t || list_any (eq_by_cmp nat_cmp q) (keys old)) ≡ true
      by q true e h = or_left (eq_by_cmp nat_cmp q t) _ (ap (λ k. eq_by_cmp nat_cmp q k) (eqb-true t q e) ∙ ap is_eq (tied_itself nat_cmp_total q))
      by q false e h = or_right (eq_by_cmp nat_cmp q t) _ (sym (contains_key-keys old q) ∙ sym (ap is_some (put_there old t session q (eqb-false t q e))) ∙ h)

  puts_few : (old new : Table Session) → (new ≡ old) ⊎ ((t : ℕ) × (session : Session) × (new ≡ put old t session)) → length (keys new) ≤ suc (length (keys old))
  puts_few old new (inl e) = let l = ap (λ m. length (keys m)) e in omega (arith, l)
  puts_few old new (inr p) = let l = ap (λ m. length (keys m)) p.2 in let k = put_length old p.0 p.1 in omega (arith, l, k)

pub begin_few : (es : List Event) (s : Federation) → length (keys (run (lines es) s).sessions) ≤ length (keys s.sessions) + length es
begin_few [] s = omega arith
begin_few (e ∷ es) s =
    let rest = begin_few es (step_line s e).state in
    let one = puts_few s s.sessions (step_line s e).state.sessions (step_puts s e).0 in
    omega (arith, rest, one)

pub used_stay : (es : List Event) (s : Federation) → (run (lines es) s).used ≡ s.used
used_stay [] s = refl
used_stay (e ∷ es) s = used_stay es (step_line s e).state ∙ (step_puts s e).1

-- ---- fresh logs have used no number

number_listed : (ts : List ℕ) (t : ℕ) → holds (numbers_from ts) t ≡ true → has_number ts t ≡ true
number_listed ts t h = by (laid_cases no_entries ts t h)
  where
    by : (holds (no_entries {X = Unit {0}}) t ≡ true) ⊎ (has_number ts t ≡ true) → has_number ts t ≡ true
    by (inl k) = absurd (let z : false ≡ true = sym (ap is_some (look_none t)) ∙ k in cc)
    by (inr k) = k

none_voted : (t : ℕ) → holds (numbers_from (keys (no_entries {X = Vote}))) t ≡ true → ⊥
none_voted t h = let p = key_holds (no_entries {X = Vote}) t (number_listed (keys (no_entries {X = Vote})) t h) in let z : false ≡ true = sym (ap is_some (look_none t)) ∙ p in cc

none_numbered : (t : ℕ) → holds (no_entries {X = Unit {0}}) t ≡ true → ⊥
none_numbered t h = let z : false ≡ true = sym (ap is_some (look_none t)) ∙ h in cc

unused_member : (rs : List Record) (t : ℕ) → rs ≡ [] → holds (numbers_in (recovered_view rs)) t ≡ true → ⊥
unused_member rs t none h = by (all_cases (numbers_from (keys (no_entries {X = Vote}))) no_entries t (ap (λ x. holds (numbers_in (recovered_view x)) t) (sym none) ∙ h))
  where
    by : (holds (numbers_from (keys (no_entries {X = Vote}))) t ≡ true) ⊎ (holds (no_entries {X = Unit {0}}) t ≡ true) → ⊥
    by (inl k) = none_voted t k
    by (inr k) = none_numbered t k

unused_coord : (rs : List Record) (t : ℕ) → rs ≡ [] → holds (recovered_commits rs).seen t ≡ true → ⊥
unused_coord rs t none h = none_numbered t (ap (λ x. holds (recovered_commits x).seen t) (sym none) ∙ h)

none_counted : (s : Federation) (n : Numbers) → ((t : ℕ) → holds n t ≡ true → ⊥) → length (keys n) ≤ 0
none_counted s n none = length-le_from_is_member (eq_by_cmp_equiv nat_cmp_total) (keys n) [] (distinct_entries s (entries n) (entries_sorted n)) (λ q h. absurd (none q (contains_key-keys n q ∙ h)))

module _ (kinds : List Kind) (coords : ℕ) (fm fc : ℕ → Found) (unused : AreUnused fm fc) where
  unused_all : (t : ℕ) → holds (used_numbers (length kinds) coords fm fc) t ≡ true → ⊥
  unused_all t h = by (all_cases (union_to (length kinds) (λ m. numbers_in (recovered_view (fm m).records))) (union_to coords (λ c. (recovered_commits (fc c).records).seen)) t h)
    where
      by : (holds (union_to (length kinds) (λ m. numbers_in (recovered_view (fm m).records))) t ≡ true) ⊎ (holds (union_to coords (λ c. (recovered_commits (fc c).records).seen)) t ≡ true) → ⊥
      by (inl k) = union_cases (length kinds) (λ m. numbers_in (recovered_view (fm m).records)) t (λ m from to q. unused_member (fm m).records t (unused.members m) q) k
      by (inr k) = union_cases coords (λ c. (recovered_commits (fc c).records).seen) t (λ c from to q. unused_coord (fc c).records t (unused.coords c) q) k

  pub fresh_few : (events : List Event) → IsReached (run (lines events) (opened kinds coords fm fc)) → open_count (run (lines events) (opened kinds coords fm fc)) ≤ length events
  fresh_few events r =
      let s0 = opened kinds coords fm fc in
      let s = run (lines events) s0 in
      let most = few_open s r in
      let begun = begin_few events s0 in
      let used = ap (λ n. length (keys n)) (used_stay events s0) in
      let none = none_counted s0 s0.used unused_all in
      let fresh = none_sessions s0 in
      omega (arith, most, begun, used, none, fresh)
    where
      none_sessions : (s : Federation) → length (keys (no_entries {X = Session})) ≤ 0
      none_sessions s = length-le_from_is_member (eq_by_cmp_equiv nat_cmp_total) (keys (no_entries {X = Session})) [] (distinct_entries s (entries (no_entries {X = Session})) (entries_sorted (no_entries {X = Session})))
          (λ q h. absurd (let z : false ≡ true = sym (ap is_some (look_none q)) ∙ contains_key-keys (no_entries {X = Session}) q ∙ h in cc))

-- Decisions that are run: marks among items, one after another.
use Rattle.std.proofs.Common.{◌≡◌, ℕ, suc, ◌+◌, ◌-◌, ◌<◌, zero, true, false, if◌then◌else◌, List, [], ◌∷◌, ◌++◌, map, length, reverse, drop, get_or, Option, None, Some, refl, sym, ap, ◌∙◌, subst, append_assoc, arith}
use Rattle.std.proofs.lemmas.List.{reverse-append}
use Rattle.co_base.specs.declared.mark.Mark.{Mark}
use Rattle.co_base.specs.declared.node.Node.{Node}
use Rattle.co_message.specs.declared.event.Event.{Event}
use Rattle.co_message.specs.declared.item.Item.{Item}
use Rattle.co_message.specs.declared.item.ItemKind.{ItemKind}
use Rattle.co_message.specs.declared.item.ItemKind.TheVariants as item
use Rattle.co_plain.specs.declared.session.Decided.{Decided}
use Rattle.co_plain.specs.declared.session.Session.{Session}
use Rattle.co_plain.specs.Federation.{Federation, decide_all, decided_where, decided_by_kind}
use Rattle.co_plain.specs.Promises.{serial_records}
use Rattle.co_plain.specs.Runs.{run, lines, numbered, transcript}
use Rattle.co_base.specs.Nodes.{same_node}
use Rattle.co_plain.specs.Step.{step_line}
use Rattle.co_base.specs.declared.row.Row.{Row}
use Rattle.co_serial.specs.MemberRows.{numbered_rows, member_rows}
use Rattle.co_serial.specs.declared.member_row.MemberRow.{MemberRow}
use Rattle.co_serial.specs.Family.{family_of}
use Rattle.co_serial.specs.Records.{all_rows}
use Rattle.co_serial.specs.SerialRun.{AllRecords, after_whole}
use Rattle.co_state.specs.Table.{Table, look}
use Rattle.co_session.specs.Clients.{decider_of, told_of}
use Rattle.co_law_base.proofs.ToldRuns.{serial_next}
use Rattle.co_trial.specs.Decisions.{marks_in, marks_of, AreRun}
use Rattle.co_trial.specs.declared.deciding.Decisions.{Decisions}
use Rattle.co_trial.proofs.Noted.{line_decides}
use Rattle.co_trial.proofs.KeptSessions.{AreSettlingEvents, run_keeps_sessions}

-- ---- one decision

map_more : {A B : Type 0} (f : A → B) (xs : List A) (x : A) → map f (xs ++ x ∷ []) ≡ map f xs ++ f x ∷ []
map_more f [] x = refl
map_more f (y ∷ ys) x = ap (λ zs. f y ∷ zs) (map_more f ys x)

map_reversed : {A B : Type 0} (f : A → B) (xs : List A) → map f (reverse xs) ≡ reverse (map f xs)
map_reversed f [] = refl
map_reversed f (x ∷ xs) =
    ap (map f) (reverse-append (x ∷ []) xs) ∙ map_more f (reverse xs) x ∙ ap (λ ys. ys ++ f x ∷ []) (map_reversed f xs) ∙ sym (reverse-append (f x ∷ []) (map f xs))

module _ (s0 : Federation) (old new : Decisions) (at : Node) (t : ℕ) (decided : List Decided) where
  -- the session is decided here, and its operations were run whole
  pub decides_here : (o : Option Session) (by : Node) → Some by ≡ decider_of o → same_node by at ≡ true → AreRun s0 old decided → length new.txns.items ≡ length old.txns.items + 1 →
      family_of new.serial ≡ after_whole (family_of old.serial) (map (λ x. x.site) (reverse (told_of o))) → AreRun s0 new (decided_where o at t decided)
  decides_here None by e same a count left = absurd (let z : Some by ≡ None = e in cc)
  decides_here (Some session) by e same a count left =
      let is : by ≡ session.by = cc in
      let here : same_node session.by at ≡ true = ap (λ n. same_node n at) (sym is) ∙ same in
      let d : Decided = record { txn = t; told = session.told } in
      let n = a.count in
      let l : length (d ∷ decided) ≡ length decided + 1 = omega arith in
      let now : AreRun s0 new (d ∷ decided) = record {
        count = omega (arith, count, n, l);
        records = left ∙ ap (λ r. after_whole r (map (λ x. x.site) (reverse session.told))) a.records ∙ ap (after_whole (serial_records s0 decided)) (map_reversed (λ x. x.site) session.told) ∙ sym (serial_next s0 d decided);
      } in
      subst (λ b. AreRun s0 new (if b then d ∷ decided else decided)) (sym here) now

  -- it is decided elsewhere
  pub decides_not : (o : Option Session) (by : Node) → Some by ≡ decider_of o → same_node by at ≡ false → AreRun s0 old decided → AreRun s0 old (decided_where o at t decided)
  decides_not None by e other a = a
  decides_not (Some session) by e other a =
      let is : by ≡ session.by = cc in
      let there : same_node session.by at ≡ false = ap (λ n. same_node n at) (sym is) ∙ other in
      subst (λ b. AreRun s0 old (if b then record { txn = t; told = session.told } ∷ decided else decided)) (sym there) a

  pub decides_none : (o : Option Session) → None ≡ decider_of o → AreRun s0 old decided → AreRun s0 old (decided_where o at t decided)
  decides_none None e a = a
  decides_none (Some session) e a = absurd (let z : None ≡ Some session.by = e in cc)

-- ---- marks of items

pub one_item : (sessions : Table Session) (ds : List Decided) (x : Item) (rest : List Item) → decide_all sessions ds (marks_of (x ∷ rest)) ≡ decide_all sessions (decide_all sessions ds (marks_of (x ∷ []))) (marks_of rest)
one_item sessions ds x rest = by x.what
  where
    by : (w : ItemKind) → decide_all sessions ds (marks_in (w ∷ map (λ i. i.what) rest)) ≡ decide_all sessions (decide_all sessions ds (marks_in (w ∷ []))) (marks_of rest)
    by (item.Head head) = refl
    by (item.Event e) = refl
    by (item.Log mark) = refl
    by (item.Sent note) = refl
    by (item.Answered a) = refl

marks_numbered : (number : ℕ) (items : List ItemKind) → marks_of (numbered number items) ≡ marks_in items
marks_numbered number [] = refl
marks_numbered number (item.Head head ∷ items) = marks_numbered number items
marks_numbered number (item.Event e ∷ items) = marks_numbered number items
marks_numbered number (item.Log mark ∷ items) = ap (λ (ms : List Mark). mark ∷ ms) (marks_numbered number items)
marks_numbered number (item.Sent note ∷ items) = marks_numbered number items
marks_numbered number (item.Answered a ∷ items) = marks_numbered number items

-- what an event tells decides what it decides
pub line_noted : (s : Federation) (e : Event) (number : ℕ) → decide_all (step_line s e).state.sessions s.decided (marks_of (numbered number (step_line s e).items)) ≡ (step_line s e).state.decided
line_noted s e number = ap (decide_all (step_line s e).state.sessions s.decided) (marks_numbered number (step_line s e).items) ∙ sym (line_decides s e)

marks_more : (xs ys : List Item) → marks_of (xs ++ ys) ≡ marks_of xs ++ marks_of ys
marks_more [] ys = refl
marks_more (x ∷ xs) ys = by (marks_more xs ys) x.what
  where
    by : marks_of (xs ++ ys) ≡ marks_of xs ++ marks_of ys → (w : ItemKind) → marks_in (w ∷ map (λ i. i.what) (xs ++ ys)) ≡ marks_in (w ∷ map (λ i. i.what) xs) ++ marks_of ys
    by rest (item.Head head) = rest
    by rest (item.Event e) = rest
    by rest (item.Log mark) = ap (λ (ms : List Mark). mark ∷ ms) rest
    by rest (item.Sent note) = rest
    by rest (item.Answered a) = rest

decide_more : (sessions : Table Session) (ds : List Decided) (ms ns : List Mark) → decide_all sessions ds (ms ++ ns) ≡ decide_all sessions (decide_all sessions ds ms) ns
decide_more sessions ds [] ns = refl
decide_more sessions ds (m ∷ ms) ns = decide_more sessions (decided_by_kind m.kind (look sessions m.number) m.node m.number ds) ms ns

-- what the events of settling tell decides what they decide
pub settling_noted : (es : List Event) (s : Federation) (number : ℕ) → AreSettlingEvents es → decide_all (run (lines es) s).sessions s.decided (marks_of (transcript number es s)) ≡ (run (lines es) s).decided
settling_noted [] s number h = refl
settling_noted (e ∷ es) s number h =
    let z = step_line s e in
    let last = run (lines es) z.state in
    ap (decide_all last.sessions s.decided) (marks_more (numbered number (item.Event e ∷ z.items)) (transcript (suc number) es z.state))
    ∙ decide_more last.sessions s.decided (marks_of (numbered number (item.Event e ∷ z.items))) (marks_of (transcript (suc number) es z.state))
    ∙ ap (λ sessions. decide_all last.sessions (decide_all sessions s.decided (marks_of (numbered number z.items))) (marks_of (transcript (suc number) es z.state))) (run_keeps_sessions es z.state h.1)
    ∙ ap (λ ds. decide_all last.sessions ds (marks_of (transcript (suc number) es z.state))) (line_noted s e number)
    ∙ settling_noted es z.state (suc number) h.1

-- ---- places of a list

pub drop_at : {A : Type 0} (xs : List A) (i : ℕ) (x : A) → i < length xs → x ≡ get_or xs i x → drop i xs ≡ x ∷ drop (i + 1) xs
drop_at [] i x l e = absurd (omega (arith, l))
drop_at (y ∷ ys) zero x l e = ap (λ z. z ∷ ys) (sym e)
drop_at (y ∷ ys) (suc i) x l e = drop_at ys i x (omega (arith, l)) e ∙ ap (λ j. x ∷ drop j (y ∷ ys)) (let q : suc (i + 1) ≡ suc i + 1 = omega arith in q)

-- the rows of one more member
pub rows_more : (all : AllRecords) (old new whole : List MemberRow) (m members : ℕ) (rows : List Row) → m < members + 1 → new ≡ old ++ member_rows m rows → rows ≡ all_rows (all m) →
    old ++ numbered_rows all m (members + 1 - m) ≡ whole → new ++ numbered_rows all (m + 1) (members + 1 - (m + 1)) ≡ whole
rows_more all old new whole m members rows l is are before =
    let k = members + 1 - (m + 1) in
    let next : m + 1 ≡ suc m = omega arith in
    let left : suc k ≡ members + 1 - m = omega (arith, l) in
    ap (λ (d : List MemberRow). d ++ numbered_rows all (m + 1) k) is
    ∙ append_assoc old (member_rows m rows) (numbered_rows all (m + 1) k)
    ∙ ap (λ (r : List Row). old ++ (member_rows m r ++ numbered_rows all (m + 1) k)) are
    ∙ ap (λ j. old ++ (member_rows m (all_rows (all m)) ++ numbered_rows all j k)) next
    ∙ ap (λ j. old ++ numbered_rows all m j) left
    ∙ before

-- Over files that are told a run that reaches the end of its input is one.
use Rattle.std.proofs.Common.{◌≡◌, ◌⊎◌, inl, inr, ℕ, zero, suc, ◌≤◌, ◌<◌, Bool, List, [], ◌∷◌, ◌++◌, length, Option, Some, Result, Ok, refl, sym, ap, ◌∙◌, subst, arith}
use Rattle.std.specs.Prelude.{◌==◌, ◌&&◌, nat_le, true, false, if◌then◌else◌}
use Rattle.co_base.specs.declared.head.Head.{Head}
use Rattle.co_base.specs.declared.node.Node.{Node}
use Rattle.co_base.specs.declared.node.Node.TheVariants as node
use Rattle.co_durable.proofs.ReadOnce.{current_in_once}
use Rattle.co_durable.specs.Nodes.{member_nodes, coord_nodes}
use Rattle.co_durable.specs.Told.{AreTold, IsTold}
use Rattle.co_frame.specs.Gate.{begins_closed}
use Rattle.co_log.specs.NodeFiles.{newest_first}
use Rattle.co_message.specs.declared.event.Event.{Event}
use Rattle.co_opening.specs.Found.{IsFoundIn}
use Rattle.co_outside.specs.Home.{File}
use Rattle.co_outside.specs.declared.spot.Spot.{Spot}
use Rattle.co_plain.specs.Opening.{Found}
use Rattle.co_replay.specs.Schedule.{HasLine}
use Rattle.co_schedule.proofs.EventLaws.{words_of_line, same_event}
use Rattle.co_schedule.specs.Limits.{longest_line}
use Rattle.co_schedule.specs.LineText.{next_line}
use Rattle.co_schedule.specs.Spelling.{line_text}
use Rattle.co_schedule.specs.declared.fault.LinesFault.{LinesFault}
use Rattle.std.specs.List.{AllByRecursion}
use Rattle.co_top.proofs.Again.{one_between}
use Rattle.co_top.proofs.Completing.{behind_lines, line_at, no_line, stands_rest}
use Rattle.co_top.proofs.Left.{split_told, told_at}
use Rattle.co_top.proofs.Lists.{count_more}
use Rattle.co_top.proofs.Reading.{one_head}
use Rattle.co_top.proofs.Resuming.{within}
use Rattle.co_top.specs.Front.{StandsBehind, AtStart, OneMore, most}
use Rattle.co_top.specs.Ran.{Ran, IsSameRun}

-- ---- the events

-- two events of a line are the same
line_once : (head : Head) (e f : Event) → HasLine head e → HasLine head f → line_text e ≡ line_text f → e ≡ f
line_once head e f one two same =
    same_event (length head.kinds) head.coords e f (omega (arith, head.members)) (omega (arith, head.coordinators)) one.0 two.0
    (sym (words_of_line (length head.kinds) head.coords e (line_text e) (omega (arith, head.members)) (omega (arith, head.coordinators)) one.0 refl)
    ∙ words_of_line (length head.kinds) head.coords f (line_text e) (omega (arith, head.members)) (omega (arith, head.coordinators)) two.0 same)

some_line : (a b : List ℕ) → ◌≡◌ {A = Result (Option (List ℕ)) LinesFault} (Ok (Some a)) (Ok (Some b)) → a ≡ b
some_line a b e = cc

-- as many lines behind a head have the same events
front_once : (head : Head) (text : List ℕ) (es os : List Event) (rest left : List ℕ) → StandsBehind head text es rest → StandsBehind head text os left → length es ≡ length os → es ≡ os
front_once head text es os rest left (AtStart t) (AtStart u) same = refl
front_once head text es os rest left (AtStart t) (OneMore u before events e earlier line next) same = absurd (let z : 0 ≡ length (events ++ e ∷ []) = same in omega (arith, z, count_more events e))
front_once head text es os rest left (OneMore t before events e earlier line next) (AtStart u) same = absurd (let z : length (events ++ e ∷ []) ≡ 0 = same in omega (arith, z, count_more events e))
front_once head text es os rest left (OneMore t before events e earlier line next) (OneMore u behind others f sooner mark following) same =
    let many : length events ≡ length others = (let z : length (events ++ e ∷ []) ≡ length (others ++ f ∷ []) = same in omega (arith, z, count_more events e, count_more others f)) in
    let front = front_once head text events others before behind earlier sooner many in
    let here : before ≡ behind = stands_rest head text events before earlier ∙ ap (λ n. behind_lines n text) many ∙ sym (stands_rest head text others behind sooner) in
    let read = sym next ∙ ap (λ n. next_line longest_line most (suc n) before) many ∙ ap (next_line longest_line most (suc (length others))) here ∙ following in
    let last = line_once head e f line mark (some_line (line_text e) (line_text f) read) in
    ap (λ (xs : List Event). xs ++ e ∷ []) front ∙ ap (λ (x : Event). others ++ x ∷ []) last

compared : (n k : ℕ) → (n < k) ⊎ ((n ≡ k) ⊎ (k < n))
compared zero zero = inr (inl refl)
compared zero (suc k) = inl (omega arith)
compared (suc n) zero = inr (inr (omega arith))
compared (suc n) (suc k) =
    elim (compared n k) as (λ c. (suc n < suc k) ⊎ ((suc n ≡ suc k) ⊎ (suc k < suc n)))
    [ inl less ↦ inl (omega (arith, less)) | inr other ↦ elim other as (λ c. (suc n < suc k) ⊎ ((suc n ≡ suc k) ⊎ (suc k < suc n))) [ inl same ↦ inr (inl (ap suc same)) | inr more ↦ inr (inr (omega (arith, more))) ] ]

-- behind the last line there is no further one
never_longer : (head : Head) (text : List ℕ) (es os : List Event) (left : List ℕ) → StandsBehind head text es [] → StandsBehind head text os left → length es < length os → ⊥
never_longer head text es os left one two less =
    let at = line_at head text os left two (length es) less in
    no_line (suc (length es)) (line_text at.0) (behind_lines (length es) text) (sym (stands_rest head text es [] one)) at.2

-- so all lines have the same events
all_once : (head : Head) (text : List ℕ) (es os : List Event) → StandsBehind head text es [] → StandsBehind head text os [] → es ≡ os
all_once head text es os one two = elim (compared (length es) (length os)) as (λ c. es ≡ os) [
  | inl less ↦ absurd (never_longer head text es os [] one two less)
  | inr other ↦ elim other as (λ c. es ≡ os) [ inl same ↦ front_once head text es os [] [] one two same | inr more ↦ absurd (never_longer head text os es [] two one more) ]
]

-- ---- the logs

found_once : (file : Spot → Option File) (owner : Node) (f g : Found) → IsTold file owner → IsFoundIn file owner f → IsFoundIn file owner g → f ≡ g
found_once file owner f g told c d =
    let same = current_in_once file owner c.part d.part c.items d.items told c.current d.current in
    let records : f.records ≡ g.records = c.records ∙ ap newest_first same.1 ∙ sym d.records in
    let a : c.current.a ≡ d.current.a = sym (c.current.told_a told.0 told.2) ∙ d.current.told_a told.0 told.2 in
    let b : c.current.b ≡ d.current.b = sym (c.current.told_b told.1 told.3) ∙ d.current.told_b told.1 told.3 in
    let spare : f.spare_closed ≡ g.spare_closed =
    c.spare ∙ ap (λ (p : ℕ). begins_closed (if p == 0 then c.current.b else c.current.a)) same.0 ∙ ap (λ (t : List ℕ). begins_closed (if d.part == 0 then t else c.current.a)) b
    ∙ ap (λ (t : List ℕ). begins_closed (if d.part == 0 then d.current.b else t)) a ∙ sym d.spare in
    λ i. record { records = records i; spare_closed = spare i }

module _ {resume : Bool} {input : List ℕ} {old : Spot → Option File} (r s : Ran resume input old) (told : AreTold old (length r.head.kinds) r.head.coords) (whole : r.rest ≡ []) (ended : s.rest ≡ []) where
  same_head : r.head ≡ s.head
  same_head = one_head input r.head s.head r.text s.text r.headed s.headed

  same_text : r.text ≡ s.text
  same_text = r.headed.behind ∙ sym s.headed.behind

  mine : StandsBehind r.head r.text r.events []
  mine = subst (StandsBehind r.head r.text r.events) whole r.front

  yours : StandsBehind r.head r.text s.events []
  yours = subst (λ t. StandsBehind r.head t s.events []) (sym same_text) (subst (λ h. StandsBehind h s.text s.events []) (sym same_head) (subst (StandsBehind s.head s.text s.events) ended s.front))

  both : AllByRecursion (IsTold old) (member_nodes (length r.head.kinds)) × AllByRecursion (IsTold old) (coord_nodes r.head.coords)
  both = split_told old (member_nodes (length r.head.kinds)) (coord_nodes r.head.coords) told

  member_once : (m : ℕ) → ((nat_le 1 m && nat_le m (length r.head.kinds)) ≡ true) ⊎ ((nat_le 1 m && nat_le m (length r.head.kinds)) ≡ false) → r.found_member m ≡ s.found_member m
  member_once m (inl e) =
      let own = one_between m (length r.head.kinds) e in
      let t = told_at old node.Member (length r.head.kinds) m both.0 own in
      found_once old (node.Member m) (r.found_member m) (s.found_member m) (t.a, t.b, t.is_a, t.is_b) (r.found.member m own.0 own.1) (s.found.member m own.0 (subst (λ (h : Head). m ≤ length h.kinds) same_head own.1))
  member_once m (inr none) = r.found.no_member m none ∙ sym (s.found.no_member m (subst (λ (h : Head). (nat_le 1 m && nat_le m (length h.kinds)) ≡ false) same_head none))

  coord_once : (c : ℕ) → ((nat_le 1 c && nat_le c r.head.coords) ≡ true) ⊎ ((nat_le 1 c && nat_le c r.head.coords) ≡ false) → r.found_coord c ≡ s.found_coord c
  coord_once c (inl e) =
      let own = one_between c r.head.coords e in
      let t = told_at old node.Coord r.head.coords c both.1 own in
      found_once old (node.Coord c) (r.found_coord c) (s.found_coord c) (t.a, t.b, t.is_a, t.is_b) (r.found.coord c own.0 own.1) (s.found.coord c own.0 (subst (λ (h : Head). c ≤ h.coords) same_head own.1))
  coord_once c (inr none) = r.found.no_coord c none ∙ sym (s.found.no_coord c (subst (λ (h : Head). (nat_le 1 c && nat_le c h.coords) ≡ false) same_head none))

  pub one_run : IsSameRun r s
  one_run = record {
    head = same_head;
    events = all_once r.head r.text r.events s.events mine yours;
    members = λ m. member_once m (within m (length r.head.kinds));
    coordinators = λ c. coord_once c (within c r.head.coords);
  }

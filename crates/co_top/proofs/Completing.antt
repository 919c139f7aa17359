-- A run that nothing hinders comes to its end, or wants memory.
use Rattle.std.proofs.Common.{◌≡◌, ◌⊎◌, inl, inr, ℕ, zero, suc, ◌<◌, Bool, List, [], ◌∷◌, ◌++◌, length, Option, None, Some, Ok, Err, refl, sym, ap, ◌∙◌, subst, arith}
use Rattle.co_base.specs.declared.head.Head.{Head}
use Rattle.co_message.specs.declared.event.Event.{Event}
use Rattle.co_outside.specs.declared.spot.Spot.{Spot}
use Rattle.co_outside.specs.Faults.{HasRisen}
use Rattle.co_outside.specs.Home.{File, HomeView}
use Rattle.co_durable.specs.declared.fault.WorldFault.{WorldFault}
use Rattle.co_durable.specs.declared.fault.WorldFault.TheVariants as world
use Rattle.co_opening.specs.Opened.{IsUnopened, IsOfFound}
use Rattle.co_replay.specs.Schedule.{HasLine}
use Rattle.co_schedule.specs.Limits.{longest_line}
use Rattle.co_schedule.specs.LineText.{first_line, behind_line, next_line}
use Rattle.co_schedule.specs.Spelling.{line_text}
use Rattle.co_schedule.specs.declared.fault.LineKind.{LineKind}
use Rattle.co_schedule.specs.declared.fault.LinesFault.TheVariants as lines
use Rattle.co_top.specs.Complete.{IsSchedule, IsUnhindered}
use Rattle.co_top.specs.Front.{IsHeaded, StandsBehind, AtStart, OneMore, IsHeadFault, IsLineFault, most}
use Rattle.co_top.specs.Ran.{Ran, IsAtLimit, IsOutgrown, IsStop, IsEventFault, IsRunEnd, NoHead, Unopened, Stopped, CutOff, Failed, Wanted}
use Rattle.co_top.specs.Replayed.{IsUnopenedAs}
use Rattle.co_top.specs.declared.status.LimitKind.TheVariants as limit
use Rattle.co_top.specs.declared.status.Status.{Status}
use Rattle.co_top.specs.declared.status.Status.TheVariants as status
use Rattle.co_top.proofs.Lists.{count_more}
use Rattle.co_top.proofs.Reading.{next_is_first, one_head, head_is_some, head_is_short}

-- ---- how far a text is cut

-- what lies behind so many lines
abbrev pub behind_lines : ℕ → List ℕ → List ℕ
behind_lines zero text = text
behind_lines (suc n) text = behind_line (behind_lines n text)

pub stands_rest : (head : Head) (text : List ℕ) (es : List Event) (rest : List ℕ) → StandsBehind head text es rest → rest ≡ behind_lines (length es) text
stands_rest head text es rest (AtStart t) = refl
stands_rest head text es rest (OneMore t left events e before line next) =
    ap behind_line (stands_rest head t events left before) ∙ ap (λ n. behind_lines n t) (sym (count_more events e))

-- a line that is that of an event lies there
abbrev pub IsLineAt : Head → List ℕ → ℕ → Type 0
IsLineAt head text n = (e : Event) × HasLine head e × (next_line longest_line most (suc n) (behind_lines n text) ≡ Ok (Some (line_text e)))

or_less : (n k : ℕ) → n < suc k → (n < k) ⊎ (n ≡ k)
or_less n zero l = inr (omega (arith, l))
or_less zero (suc k) l = inl (omega arith)
or_less (suc n) (suc k) l = elim (or_less n k (omega (arith, l))) as (λ c. (suc n < suc k) ⊎ (suc n ≡ suc k)) [ inl less ↦ inl (omega (arith, less)) | inr same ↦ inr (ap suc same) ]

pub line_at : (head : Head) (text : List ℕ) (es : List Event) (rest : List ℕ) → StandsBehind head text es rest → (n : ℕ) → n < length es → IsLineAt head text n
line_at head text es rest (AtStart t) n less = absurd (omega (arith, less))
line_at head text es rest (OneMore t left events e before line next) n less =
    elim (or_less n (length events) (let z : n < length (events ++ e ∷ []) = less in omega (arith, z, count_more events e))) as (λ c. IsLineAt head t n) [
      | inl earlier ↦ line_at head t events left before n earlier
      | inr last ↦ (e, line, ap (λ k. next_line longest_line most (suc k) (behind_lines k t)) last ∙ ap (next_line longest_line most (suc (length events))) (sym (stands_rest head t events left before)) ∙ next)
    ]

-- ---- no line of a schedule ends a run

-- there is no line at the end
pub no_line : (lent : ℕ) (line : List ℕ) (text : List ℕ) → text ≡ [] → next_line longest_line most lent text ≡ Ok (Some line) → ⊥
no_line lent line text none next = let z : Ok None ≡ Ok (Some line) = sym (ap (next_line longest_line most lent) none) ∙ next in cc

-- a line gives no event only where the source fails or memory is wanting, but for these three causes
only_wanting : (head : Head) (count : ℕ) (left : List ℕ) → ((line : ℕ) (what : LineKind) → IsLineFault head count left (status.Schedule line what) → ⊥) → ((line : ℕ) → IsLineFault head count left (status.Limit (limit.Line line)) → ⊥)
    → (IsLineFault head count left (status.Limit limit.Lines) → ⊥) → (ended : Status) → IsLineFault head count left ended → (ended ≡ status.Read) ⊎ (ended ≡ status.Memory)
only_wanting head count left outside long many (status.Schedule line what) fault = absurd (outside line what fault)
only_wanting head count left outside long many (status.Limit (limit.Line line)) fault = absurd (long line fault)
only_wanting head count left outside long many (status.Limit limit.Lines) fault = absurd (many fault)
only_wanting head count left outside long many status.Read fault = inl refl
only_wanting head count left outside long many status.Memory fault = inr refl
only_wanting head count left outside long many _ fault = absurd fault

-- so it is of a line of an event
no_fault : (head : Head) (count : ℕ) (left : List ℕ) (ended : Status) (e : Event) → HasLine head e → next_line longest_line most (suc count) left ≡ Ok (Some (line_text e)) → IsLineFault head count left ended → (ended ≡ status.Read) ⊎ (ended ≡ status.Memory)
no_fault head count left ended e has next fault =
    let first : line_text e ≡ first_line left = next_is_first longest_line most (suc count) left (line_text e) next in
    only_wanting head count left (λ line what outside. outside.2.2 e has (sym first)) (λ line long. omega (arith, has.1, long.1, ap length first))
    (λ many. let z : Ok (Some (line_text e)) ≡ Err lines.Many = sym next ∙ many in cc) ended fault

-- and at the end
no_end_fault : (head : Head) (count : ℕ) (left : List ℕ) (ended : Status) → left ≡ [] → IsLineFault head count left ended → (ended ≡ status.Read) ⊎ (ended ≡ status.Memory)
no_end_fault head count left ended none fault =
    only_wanting head count left (λ line what outside. outside.1 none)
    (λ line long. let more : longest_line < length (first_line left) = long.1 in omega (arith, more, ap (λ (t : List ℕ). length (first_line t)) none))
    (λ many. let z : Ok None ≡ Err lines.Many = sym (ap (next_line longest_line most (suc count)) none) ∙ many in cc) ended fault

-- ---- a run over a schedule

module _ (input : List ℕ) (schedule : IsSchedule input) where
  module _ {resume : Bool} {old : Spot → Option File} (r : Ran resume input old) (ended : Status) (fault : IsLineFault r.head (length r.events) r.rest ended) where
    same_head : schedule.head ≡ r.head
    same_head = one_head input schedule.head r.head schedule.text r.text schedule.headed r.headed

    same_text : schedule.text ≡ r.text
    same_text = schedule.headed.behind ∙ sym r.headed.behind

    whole : StandsBehind r.head r.text schedule.events []
    whole = subst (λ h. StandsBehind h r.text schedule.events []) same_head (subst (λ t. StandsBehind schedule.head t schedule.events []) same_text schedule.whole)

    rest_is : r.rest ≡ behind_lines (length r.events) r.text
    rest_is = stands_rest r.head r.text r.events r.rest r.front

    end_is : behind_lines (length schedule.events) r.text ≡ []
    end_is = sym (stands_rest r.head r.text schedule.events [] whole)

    compared : (n k : ℕ) → (n < k) ⊎ ((n ≡ k) ⊎ (k < n))
    compared zero zero = inr (inl refl)
    compared zero (suc k) = inl (omega arith)
    compared (suc n) zero = inr (inr (omega arith))
    compared (suc n) (suc k) =
        elim (compared n k) as (λ c. (suc n < suc k) ⊎ ((suc n ≡ suc k) ⊎ (suc k < suc n)))
        [ inl less ↦ inl (omega (arith, less)) | inr other ↦ elim other as (λ c. (suc n < suc k) ⊎ ((suc n ≡ suc k) ⊎ (suc k < suc n))) [ inl same ↦ inr (inl (ap suc same)) | inr more ↦ inr (inr (omega (arith, more))) ] ]

    -- a line of a schedule stops no run
    pub never_stopped : (ended ≡ status.Read) ⊎ (ended ≡ status.Memory)
    never_stopped =
        elim (compared (length r.events) (length schedule.events)) as (λ c. (ended ≡ status.Read) ⊎ (ended ≡ status.Memory)) [
          | inl less ↦ let at = line_at r.head r.text schedule.events [] whole (length r.events) less in
              no_fault r.head (length r.events) r.rest ended at.0 at.1 (ap (next_line longest_line most (suc (length r.events))) rest_is ∙ at.2) fault
          | inr other ↦ elim other as (λ c. (ended ≡ status.Read) ⊎ (ended ≡ status.Memory)) [
            | inl same ↦ no_end_fault r.head (length r.events) r.rest ended (rest_is ∙ ap (λ n. behind_lines n r.text) same ∙ end_is) fault
            | inr more ↦ let at = line_at r.head r.text r.events r.rest r.front (length schedule.events) more in
                absurd (no_line (suc (length schedule.events)) (line_text at.0) (behind_lines (length schedule.events) r.text) end_is at.2)
          ]
        ]

  -- how it ends
  module _ {H : Type 0} (seen : H → HomeView) (resume : Bool) (left : Option (List ℕ)) (held : List ℕ) (told : Option (List ℕ)) (old new : H)
      (allowed : (head : Head) (text : List ℕ) → IsHeaded input head text → (why : WorldFault) → IsOfFound why → IsUnopened (seen old).file head resume why → ⊥)
      (room : (r : Ran resume input (seen old).file) (spot : Spot) → IsOutgrown r spot → ⊥) (few : (r : Ran resume input (seen old).file) → IsAtLimit r → ⊥) where
    -- it is done, or the outside has failed, or it wants memory
    abbrev pub Comes : Status → Type 0
    Comes status.Done = Unit {0}
    Comes status.Read = Unit {0}
    Comes status.Write = Unit {0}
    Comes (status.Device spot) = Unit {0}
    Comes (status.Differs spot at kept read) = IsEventFault (seen old).file (status.Differs spot at kept read)
    Comes status.Memory = Unit {0}
    Comes _ = ⊥

    wanting_comes : (ended : Status) → (ended ≡ status.Read) ⊎ (ended ≡ status.Memory) → Comes ended
    wanting_comes ended (inl e) = subst Comes (sym e) tt
    wanting_comes ended (inr e) = subst Comes (sym e) tt

    -- the head is one
    headed_comes : (ended : Status) → IsHeadFault input ended → Comes ended
    headed_comes (status.Schedule line what) fault = absurd (head_is_some input schedule.head schedule.text schedule.headed line what fault)
    headed_comes (status.Limit (limit.Line line)) fault = absurd (head_is_short input schedule.head schedule.text schedule.headed line fault)
    headed_comes status.Read fault = tt
    headed_comes status.Memory fault = tt
    headed_comes _ fault = absurd fault

    -- and nothing is refused
    unopened_comes : (head : Head) (text : List ℕ) → IsHeaded input head text → (ended : Status) → IsUnopenedAs (seen old).file head resume ended → Comes ended
    unopened_comes head text headed (status.Device spot) cause = tt
    unopened_comes head text headed status.Memory cause = tt
    unopened_comes head text headed (status.InUse spot) cause = absurd (allowed head text headed (world.InUse spot) tt cause)
    unopened_comes head text headed (status.BadLog spot at) cause = absurd (allowed head text headed (world.Bad spot at) tt cause)
    unopened_comes head text headed (status.OldLog spot) cause = absurd (allowed head text headed (world.Old spot) tt cause)
    unopened_comes head text headed (status.Limit limit.Transactions) cause = absurd (allowed head text headed world.Count tt cause)
    unopened_comes head text headed (status.Limit (limit.Log spot)) cause = absurd (allowed head text headed (world.Full spot) tt cause)
    unopened_comes head text headed _ cause = absurd cause

    stopped_comes : (r : Ran resume input (seen old).file) (ended : Status) → IsStop r ended → Comes ended
    stopped_comes r status.Done cause = tt
    stopped_comes r (status.Limit limit.Transactions) cause = absurd (few r cause)
    stopped_comes r (status.Limit (limit.Log spot)) cause = absurd (room r spot cause)
    stopped_comes r (status.Limit (limit.Line line)) cause = wanting_comes (status.Limit (limit.Line line)) (never_stopped r (status.Limit (limit.Line line)) cause)
    stopped_comes r (status.Limit limit.Lines) cause = wanting_comes (status.Limit limit.Lines) (never_stopped r (status.Limit limit.Lines) cause)
    stopped_comes r (status.Schedule line what) cause = wanting_comes (status.Schedule line what) (never_stopped r (status.Schedule line what) cause)
    stopped_comes r status.Read cause = tt
    stopped_comes r status.Memory cause = tt
    stopped_comes r _ cause = absurd cause

    failed_comes : (ended : Status) → IsEventFault (seen old).file ended → Comes ended
    failed_comes (status.Device spot) cause = tt
    failed_comes (status.Differs spot at kept read) cause = cause
    failed_comes _ cause = absurd cause

    pub comes : (ended : Status) → IsRunEnd seen resume input left held told old new ended → Comes ended
    comes ended (NoHead untold same cause) = headed_comes ended cause
    comes ended (Unopened untold for) = unopened_comes for.head for.text for.headed ended for.cause
    comes ended (Stopped done files cause) = stopped_comes done.ran ended cause
    comes ended (CutOff done files is) = subst Comes (sym is) tt
    comes ended (Failed done files cause) = failed_comes ended cause
    comes ended (Wanted done files is) = subst Comes (sym is) tt

-- a run that nothing hinders is done, or wants memory
pub done_or_wanting : {H : Type 0} (seen : H → HomeView) (resume : Bool) (input : List ℕ) (left : Option (List ℕ)) (held : List ℕ) (told : Option (List ℕ)) (old new : H) (a b c d e f : ℕ) (ended : Status) →
    (ended ≡ status.Read → HasRisen a b) → (ended ≡ status.Write → HasRisen c d) → ((spot : Spot) → ended ≡ status.Device spot → HasRisen e f) →
    IsRunEnd seen resume input left held told old new ended → IsUnhindered resume input (seen old).file a b c d e f → (ended ≡ status.Done) ⊎ (ended ≡ status.Memory)
done_or_wanting seen resume input left held told old new a b c d e f ended read write device h u = by ended refl (comes input u.schedule seen resume left held told old new u.allowed u.room u.few ended h)
  where
    by : (s : Status) → ended ≡ s → Comes input u.schedule seen resume left held told old new u.allowed u.room u.few s → (ended ≡ status.Done) ⊎ (ended ≡ status.Memory)
    by status.Done is it = inl is
    by status.Read is it = absurd (u.source (read is))
    by status.Write is it = absurd (u.out (write is))
    by (status.Device spot) is it = absurd (u.home (device spot is))
    by (status.Differs spot at kept got) is it = absurd (u.told spot it.1 it.0)
    by status.Memory is it = inr is
    by _ is it = absurd it

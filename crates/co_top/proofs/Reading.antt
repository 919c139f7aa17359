-- One line of a schedule is read, or none is there.
use Rattle.std.proofs.Common.{◌≡◌, ℕ, suc, ◌+◌, ◌<◌, Bool, true, false, nat_lt, if◌then◌else◌, List, [], ◌∷◌, length, Option, None, Some, Result, Ok, Err, refl, sym, ap, ◌∙◌, subst}
use Rattle.std.proofs.lemmas.Bool.{lt-ltb}
use Rattle.co_base.specs.declared.head.Head.{Head}
use Rattle.co_message.specs.declared.event.Event.{Event}
use Rattle.co_replay.specs.Schedule.{IsOutside, IsFaultOf}
use Rattle.co_schedule.specs.LineText.{first_line, behind_line, next_line}
use Rattle.co_schedule.specs.Limits.{longest_line}
use Rattle.co_schedule.specs.Spelling.{head_text}
use Rattle.co_schedule.specs.declared.fault.LineKind.{LineKind}
use Rattle.co_schedule.specs.declared.fault.LineKind.TheVariants as kind
use Rattle.co_schedule.specs.declared.fault.LinesFault.{LinesFault}
use Rattle.co_schedule.specs.declared.fault.LinesFault.TheVariants as lines
use Rattle.co_schedule.proofs.HeadUnique.{head_line}
use Rattle.co_top.specs.Front.{IsHeaded, IsHeadFault, most}
use Rattle.co_top.specs.Heads.{IsHeadIn, IsEventIn, IsHeadRead, IsEventRead, some_of}
use Rattle.co_top.specs.declared.status.LimitKind.TheVariants as limit
use Rattle.co_top.specs.declared.status.Status.{Status}
use Rattle.co_top.specs.declared.status.Status.TheVariants as status

-- ---- what is next of a text

abbrev cut : ℕ → List ℕ → Bool → Bool → Result (Option (List ℕ)) LinesFault
cut lent first few long = if few then (if long then Err (lines.Long (lent + 1)) else Ok (Some first)) else Err lines.Many

first_cut : (lent : ℕ) (first line : List ℕ) (few long : Bool) → cut lent first few long ≡ Ok (Some line) → line ≡ first
first_cut lent first line true true e = absurd (let z : Err (lines.Long (lent + 1)) ≡ Ok (Some line) = e in cc)
first_cut lent first line true false e = let z : Ok (Some first) ≡ Ok (Some line) = e in cc
first_cut lent first line false long e = absurd (let z : Err lines.Many ≡ Ok (Some line) = e in cc)

-- the next line is the first one
pub next_is_first : (bytes many lent : ℕ) (left line : List ℕ) → next_line bytes many lent left ≡ Ok (Some line) → line ≡ first_line left
next_is_first bytes many lent [] line e = absurd (let z : Ok None ≡ Ok (Some line) = e in cc)
next_is_first bytes many lent (b ∷ bs) line e = first_cut lent (first_line (b ∷ bs)) line (nat_lt lent many) (nat_lt bytes (length (first_line (b ∷ bs)))) e

short_cut : (bytes lent : ℕ) (first line : List ℕ) (few : Bool) → cut lent first few (nat_lt bytes (length first)) ≡ Ok (Some line) → bytes < length first → ⊥
short_cut bytes lent first line few e long = by few (nat_lt bytes (length first)) (lt-ltb bytes (length first) long) e
  where
    by : (a b : Bool) → b ≡ true → cut lent first a b ≡ Ok (Some line) → ⊥
    by true true t e = let z : Err (lines.Long (lent + 1)) ≡ Ok (Some line) = e in cc
    by true false t e = let z : false ≡ true = t in cc
    by false b t e = let z : Err lines.Many ≡ Ok (Some line) = e in cc

-- and it is not long
pub short_first : (bytes many lent : ℕ) (left line : List ℕ) → next_line bytes many lent left ≡ Ok (Some line) → bytes < length (first_line left) → ⊥
short_first bytes many lent [] line e long = let z : Ok None ≡ Ok (Some line) = e in cc
short_first bytes many lent (b ∷ bs) line e long = short_cut bytes lent (first_line (b ∷ bs)) line (nat_lt lent many) e long

none_cut : (lent : ℕ) (first : List ℕ) (few long : Bool) → cut lent first few long ≡ Ok None → ⊥
none_cut lent first true true e = let z : Err (lines.Long (lent + 1)) ≡ Ok None = e in cc
none_cut lent first true false e = let z : Ok (Some first) ≡ Ok None = e in cc
none_cut lent first false long e = let z : Err lines.Many ≡ Ok None = e in cc

-- there is no next line at the end alone
pub none_left : (bytes many lent : ℕ) (left : List ℕ) → next_line bytes many lent left ≡ Ok None → left ≡ []
none_left bytes many lent [] e = refl
none_left bytes many lent (b ∷ bs) e = absurd (none_cut lent (first_line (b ∷ bs)) (nat_lt lent many) (nat_lt bytes (length (first_line (b ∷ bs)))) e)

-- ---- the head

pub head_reads : (text line : List ℕ) (ahead : Option (List ℕ)) (o : Result Head Status) → next_line longest_line most 0 text ≡ Ok (Some line) → ahead ≡ Some (behind_line text) → IsHeadIn line o → IsHeadRead text ahead o
head_reads text line ahead (Ok head) next behind h = (behind_line text, record { line = next ∙ ap (λ l. Ok (Some l)) h; behind = refl }, behind)
head_reads text line ahead (Err (status.Schedule number what)) next behind h = (h.0, h.1, λ head e. h.2 head (next_is_first longest_line most 0 text line next ∙ e))
head_reads text line ahead (Err (status.Limit (limit.Line number))) next behind h = (h.0, subst (λ l. longest_line < length l) (next_is_first longest_line most 0 text line next) h.1)
head_reads text line ahead (Err status.Memory) next behind h = tt
head_reads text line ahead (Err status.Done) next behind h = absurd h
head_reads text line ahead (Err status.Usage) next behind h = absurd h
head_reads text line ahead (Err status.Read) next behind h = absurd h
head_reads text line ahead (Err status.Write) next behind h = absurd h
head_reads text line ahead (Err (status.Device spot)) next behind h = absurd h
head_reads text line ahead (Err (status.Differs spot at kept read)) next behind h = absurd h
head_reads text line ahead (Err (status.InUse spot)) next behind h = absurd h
head_reads text line ahead (Err (status.BadLog spot at)) next behind h = absurd h
head_reads text line ahead (Err (status.Limit limit.Lines)) next behind h = absurd h
head_reads text line ahead (Err (status.Limit limit.Transactions)) next behind h = absurd h
head_reads text line ahead (Err (status.Limit (limit.Log spot))) next behind h = absurd h
head_reads text line ahead (Err (status.OldLog spot)) next behind h = absurd h
head_reads text line ahead (Err (status.NotSerial txn at)) next behind h = absurd h
head_reads text line ahead (Err (status.Transcript at)) next behind h = absurd h

pub no_head : (text : List ℕ) → next_line longest_line most 0 text ≡ Ok None → IsHeadFault text (status.Schedule 1 kind.Head)
no_head text next = (refl, refl, λ head e. let z : [] ≡ head_text head = ap first_line (sym (none_left longest_line most 0 text next)) ∙ e in cc)

-- the head of a text is one
pub one_head : (input : List ℕ) (head other : Head) (text more : List ℕ) → IsHeaded input head text → IsHeaded input other more → head ≡ other
one_head input head other text more one two = head_line head other (next_is_first longest_line most 0 input _ one.line ∙ sym (next_is_first longest_line most 0 input _ two.line))

-- where there is one, the first line is not the line of no head, nor is it long
module _ (input : List ℕ) (head : Head) (text : List ℕ) (headed : IsHeaded input head text) where
  pub head_is_some : (line : ℕ) (what : LineKind) → IsHeadFault input (status.Schedule line what) → ⊥
  head_is_some line what fault = fault.2 head (sym (next_is_first longest_line most 0 input _ headed.line))

  pub head_is_short : (line : ℕ) → IsHeadFault input (status.Limit (limit.Line line)) → ⊥
  head_is_short line fault = short_first longest_line most 0 input _ headed.line fault.1

-- ---- a line behind the head

-- where a line is next, something is left
no_more : (lent : ℕ) (text line : List ℕ) → text ≡ [] → next_line longest_line most lent text ≡ Ok (Some line) → ⊥
no_more lent text line none next = let z : Ok None ≡ Ok (Some line) = sym (ap (next_line longest_line most lent) none) ∙ next in cc

pub event_reads : (head : Head) (count number : ℕ) (text line : List ℕ) (ahead : Option (List ℕ)) (o : Result Event Status) → number ≡ count + 2 → next_line longest_line most (suc count) text ≡ Ok (Some line) →
    ahead ≡ Some (behind_line text) → IsEventIn head number line o → IsEventRead head count text ahead (some_of o)
event_reads head count number text line ahead (Ok event) n next behind h = (behind_line text, (next ∙ ap (λ l. Ok (Some l)) h.1, refl), behind)
event_reads head count number text line ahead (Err (status.Schedule at what)) n next behind h =
    let first = next_is_first longest_line most (suc count) text line next in
    (h.0 ∙ n, (λ none. no_more (suc count) text line none next), (h.1.0, h.1.1, subst (IsOutside head) first h.1.2, subst (λ l. IsFaultOf head l h.1.0) first h.1.3))
event_reads head count number text line ahead (Err (status.Limit (limit.Line at))) n next behind h =
    (h.0 ∙ n, subst (λ l. longest_line < length l) (next_is_first longest_line most (suc count) text line next) h.1)
event_reads head count number text line ahead (Err status.Memory) n next behind h = tt
event_reads head count number text line ahead (Err status.Done) n next behind h = absurd h
event_reads head count number text line ahead (Err status.Usage) n next behind h = absurd h
event_reads head count number text line ahead (Err status.Read) n next behind h = absurd h
event_reads head count number text line ahead (Err status.Write) n next behind h = absurd h
event_reads head count number text line ahead (Err (status.Device spot)) n next behind h = absurd h
event_reads head count number text line ahead (Err (status.Differs spot at kept read)) n next behind h = absurd h
event_reads head count number text line ahead (Err (status.InUse spot)) n next behind h = absurd h
event_reads head count number text line ahead (Err (status.BadLog spot at)) n next behind h = absurd h
event_reads head count number text line ahead (Err (status.Limit limit.Lines)) n next behind h = absurd h
event_reads head count number text line ahead (Err (status.Limit limit.Transactions)) n next behind h = absurd h
event_reads head count number text line ahead (Err (status.Limit (limit.Log spot))) n next behind h = absurd h
event_reads head count number text line ahead (Err (status.OldLog spot)) n next behind h = absurd h
event_reads head count number text line ahead (Err (status.NotSerial txn at)) n next behind h = absurd h
event_reads head count number text line ahead (Err (status.Transcript at)) n next behind h = absurd h

-- nothing is left, and so nothing lies ahead
pub no_event : (head : Head) (count : ℕ) (text : List ℕ) (ahead : Option (List ℕ)) → next_line longest_line most (suc count) text ≡ Ok None → ahead ≡ Some (behind_line text) → IsEventRead head count text ahead (Ok None)
no_event head count text ahead next behind =
    let none = none_left longest_line most (suc count) text next in
    ([], (none, refl), behind ∙ ap (λ t. Some (behind_line t)) none)

-- Lines of a transcript that is drawn, one more at a time.
use Rattle.std.proofs.Common.{◌≡◌, ℕ, ◌+◌, Bool, true, false, nat_lt, if◌then◌else◌, List, [], ◌∷◌, ◌++◌, length, Option, None, Some, Result, Ok, Err, IsErr, IsErrAnd, refl, sym, ap, ◌∙◌, subst}
use Rattle.std.proofs.lemmas.List.{length-append}
use Rattle.co_message.specs.declared.item.Item.{Item}
use Rattle.co_schedule.specs.Limits.{most_of_text}
use Rattle.co_schedule.specs.LineText.{first_line, behind_line, IsNextFault}
use Rattle.co_schedule.specs.Lines.{lines_read, ahead}
use Rattle.co_schedule.specs.Lines as lent
use Rattle.co_schedule.specs.declared.fault.LinesFault.{LinesFault}
use Rattle.co_schedule.specs.declared.fault.LinesFault.TheVariants as lines
use Rattle.co_schedule.specs.declared.lines.Lines.{Lines}
use Rattle.co_transcript.specs.Items.{IsItem}
use Rattle.co_transcript.specs.Spelling.{item_text}
use Rattle.co_transcript.proofs.ItemLaws.{one_line}
use Rattle.co_picture.specs.Read.{IsTakenAs, IsTaken, IsEnd, IsRead, BreaksShape, IsBroken, IsCutAt, IsWholeAt, StandsBehind, AtStart, OneMore, HasTaken, Follows, IsStep, fault_of, told_as, further_of, whole_of, next_drawn, most_lines_drawn}
use Rattle.co_picture.specs.Shape.{next, next_of, stand_of, stand_from}
use Rattle.co_picture.specs.declared.fault.DrawFault.{DrawFault}
use Rattle.co_picture.specs.declared.fault.DrawFault.TheVariants as fault
use Rattle.co_picture.specs.declared.reading.Reader.{Reader}
use Rattle.co_picture.specs.declared.reading.Step.{Step}
use Rattle.co_picture.specs.declared.stand.Stand.{Stand}
use Rattle.co_picture.specs.declared.stand.Stand.TheVariants.{AtFront}
use Rattle.co_outside.specs.Onward.{Past, IsOnward, LiesAhead}
use Rattle.co_outside.proofs.Onward.{between}
use Rattle.co_schedule.specs.Lines.{unread}

stand_more : (s : Option Stand) (items : List Item) (it : Item) → stand_from s (items ++ it ∷ []) ≡ next_of (stand_from s items) it
stand_more s [] it = refl
stand_more s (x ∷ items) it = stand_more (next_of s x) items it

-- behind one more item
pub one_more : (items : List Item) (it : Item) → stand_of (items ++ it ∷ []) ≡ next_of (stand_of items) it
one_more items it = stand_more (Some AtFront) items it

-- an item that keeps the shape, behind these ones
pub taken_one : (reader : Reader) (items : List Item) (it : Item) (stand : Stand) → Follows reader items → Some stand ≡ next reader.stand it → stand_of (items ++ it ∷ []) ≡ Some stand
taken_one reader items it stand f e = one_more items it ∙ ap (λ s. next_of s it) f.shaped ∙ sym e

-- one more line is taken as its item is
pub line_taken : (items : List Item) (number : ℕ) (line : List ℕ) (it : Item) (o : Result Reader DrawFault) → IsItem it → line ≡ item_text it → IsTakenAs items number it o →
    IsTaken items number line o
line_taken items number line it (Ok after) i e t = (it, i, e, t)
line_taken items number line it (Err (fault.Text at)) i e t =
    (t.0, λ other is same. subst (λ z. next_of (stand_of items) z ≡ None) (one_line it other i is (sym e ∙ same)) t.1)
line_taken items number line it (Err fault.Memory) i e t = t
line_taken items number line it (Err fault.Read) i e t = absurd t
line_taken items number line it (Err fault.Write) i e t = absurd t
line_taken items number line it (Err (fault.Long at)) i e t = absurd t
line_taken items number line it (Err fault.Many) i e t = absurd t

-- ---- what is next of a text

abbrev cut : ℕ → List ℕ → Bool → Bool → Result (Option (List ℕ)) LinesFault
cut lent first few long = if few then (if long then Err (lines.Long (lent + 1)) else Ok (Some first)) else Err lines.Many

first_cut : (lent : ℕ) (first line : List ℕ) (few long : Bool) → cut lent first few long ≡ Ok (Some line) → line ≡ first
first_cut lent first line true true e = absurd (let z : Err (lines.Long (lent + 1)) ≡ Ok (Some line) = e in cc)
first_cut lent first line true false e = let z : Ok (Some first) ≡ Ok (Some line) = e in cc
first_cut lent first line false long e = absurd (let z : Err lines.Many ≡ Ok (Some line) = e in cc)

-- the next line is the first one
pub next_is_first : (lent : ℕ) (left line : List ℕ) → next_drawn lent left ≡ Ok (Some line) → line ≡ first_line left
next_is_first lent [] line e = absurd (let z : Ok None ≡ Ok (Some line) = e in cc)
next_is_first lent (byte ∷ bytes) line e =
    first_cut lent (first_line (byte ∷ bytes)) line (nat_lt lent most_lines_drawn) (nat_lt most_of_text (length (first_line (byte ∷ bytes)))) e

none_cut : (lent : ℕ) (first : List ℕ) (few long : Bool) → cut lent first few long ≡ Ok None → ⊥
none_cut lent first true true e = let z : Err (lines.Long (lent + 1)) ≡ Ok None = e in cc
none_cut lent first true false e = let z : Ok (Some first) ≡ Ok None = e in cc
none_cut lent first false long e = let z : Err lines.Many ≡ Ok None = e in cc

-- there is no next line at the end alone
pub none_left : (lent : ℕ) (left : List ℕ) → next_drawn lent left ≡ Ok None → left ≡ []
none_left lent [] e = refl
none_left lent (byte ∷ bytes) e =
    absurd (none_cut lent (first_line (byte ∷ bytes)) (nat_lt lent most_lines_drawn) (nat_lt most_of_text (length (first_line (byte ∷ bytes)))) e)

-- ---- one more line

broken_here : (items : List Item) (lent : ℕ) (left line : List ℕ) → next_drawn lent left ≡ Ok (Some line) → BreaksShape items line → IsBroken items left
broken_here items lent [] line e b = absurd (let z : Ok None ≡ Ok (Some line) = e in cc)
broken_here items lent (byte ∷ bytes) line e b = subst (BreaksShape items) (next_is_first lent (byte ∷ bytes) line e) b

pub line_steps : (text : List ℕ) (old new : Lines) (left_old left_new : Option (List ℕ)) (reader : Reader) (number : ℕ) (line : List ℕ) (o : Result Reader DrawFault) →
    (h : HasTaken text old left_old reader) → lines_read old + 1 ≡ number → next_drawn (lines_read old) h.rest ≡ Ok (Some line) →
    ahead new left_new ≡ Some (behind_line h.rest) → lines_read new ≡ lines_read old + 1 → IsTaken h.items number line o → IsStep text new left_new (further_of o)
line_steps text old new left_old left_new reader number line (Ok after) h n e behind count t =
    record {
      items = h.items ++ t.0 ∷ [];
      rest = behind_line h.rest;
      front = OneMore text h.rest h.items t.0 h.front t.1 (ap (λ k. next_drawn k h.rest) (sym h.count) ∙ e ∙ ap (λ l. Ok (Some l)) t.2);
      follows = t.3;
      is_rest = behind;
      count = count ∙ ap (λ k. k + 1) h.count ∙ sym (length-append h.items (t.0 ∷ []));
    }
line_steps text old new left_old left_new reader number line (Err (fault.Text at)) h n e behind count t =
    let here : next_drawn (length h.items) h.rest ≡ Ok (Some line) = ap (λ k. next_drawn k h.rest) (sym h.count) ∙ e in
    record {
      items = h.items;
      left = h.rest;
      front = h.front;
      number = t.0 ∙ sym n ∙ ap (λ k. k + 1) h.count;
      short = λ byte bytes is. here ∙ ap (λ l. Ok (Some l)) (next_is_first (length h.items) h.rest line here);
      broken = broken_here h.items (length h.items) h.rest line here t.1;
    }
line_steps text old new left_old left_new reader number line (Err fault.Memory) h n e behind count t = t
line_steps text old new left_old left_new reader number line (Err fault.Read) h n e behind count t = absurd t
line_steps text old new left_old left_new reader number line (Err fault.Write) h n e behind count t = absurd t
line_steps text old new left_old left_new reader number line (Err (fault.Long at)) h n e behind count t = absurd t
line_steps text old new left_old left_new reader number line (Err fault.Many) h n e behind count t = absurd t

pub ends_so : (text : List ℕ) (old new : Lines) (left_old left_new : Option (List ℕ)) (reader : Reader) (number : ℕ) (o : Result (List Item) DrawFault) →
    (h : HasTaken text old left_old reader) → lines_read old + 1 ≡ number → next_drawn (lines_read old) h.rest ≡ Ok None → IsEnd h.items number o → IsStep text new left_new (whole_of o)
ends_so text old new left_old left_new reader number (Ok items) h n e t =
    record {
      all = subst (λ its. StandsBehind text its []) (sym t.0) (subst (StandsBehind text h.items) (none_left (lines_read old) h.rest e) h.front);
      whole = subst (λ its. IsWholeAt (stand_of its)) (sym t.0) t.1;
    }
ends_so text old new left_old left_new reader number (Err (fault.Text at)) h n e t =
    let none : h.rest ≡ [] = none_left (lines_read old) h.rest e in
    record {
      items = h.items;
      left = h.rest;
      front = h.front;
      number = t.0 ∙ sym n ∙ ap (λ k. k + 1) h.count;
      short = λ byte bytes is. absurd (let z : [] ≡ byte ∷ bytes = sym none ∙ is in cc);
      broken = subst (IsBroken h.items) (sym none) t.1;
    }
ends_so text old new left_old left_new reader number (Err fault.Memory) h n e t = absurd t
ends_so text old new left_old left_new reader number (Err fault.Read) h n e t = absurd t
ends_so text old new left_old left_new reader number (Err fault.Write) h n e t = absurd t
ends_so text old new left_old left_new reader number (Err (fault.Long at)) h n e t = absurd t
ends_so text old new left_old left_new reader number (Err fault.Many) h n e t = absurd t

pub faults_so : (text : List ℕ) (old : Lines) (left_old : Option (List ℕ)) (reader : Reader) (why : LinesFault) (h : HasTaken text old left_old reader) →
    IsNextFault (next_drawn (lines_read old) h.rest) why → IsRead text (Err (told_as why))
faults_so text old left_old reader (lines.Long line) h e =
    record {
      items = h.items;
      left = h.rest;
      front = h.front;
      stand = reader.stand;
      shaped = h.follows.shaped;
      cause = ap (λ k. fault_of (next_drawn k h.rest)) (sym h.count) ∙ ap fault_of e;
    }
faults_so text old left_old reader lines.Many h e =
    record {
      items = h.items;
      left = h.rest;
      front = h.front;
      stand = reader.stand;
      shaped = h.follows.shaped;
      cause = ap (λ k. fault_of (next_drawn k h.rest)) (sym h.count) ∙ ap fault_of e;
    }
faults_so text old left_old reader lines.Read h e = tt
faults_so text old left_old reader lines.Memory h e = tt

-- nothing was read yet
pub at_start : (text : List ℕ) (lines : Lines) (left : Option (List ℕ)) (reader : Reader) → lent.unread lines ≡ [] → lines_read lines ≡ 0 → left ≡ Some text → Follows reader [] →
    HasTaken text lines left reader
at_start text lines left reader none count all follows =
    record {
      items = [];
      rest = text;
      front = AtStart text;
      follows = follows;
      is_rest = ap (λ o. ahead lines o) all ∙ ap (λ bytes. Some (bytes ++ text)) none;
      count = count;
    }

-- ---- texts that may lie ahead

pub rest_is : (whole : List ℕ) (lines : Lines) (text : List ℕ) (reader : Reader) (h : HasTaken whole lines (Some text) reader) → unread lines ++ text ≡ h.rest
rest_is whole lines text reader h = let e : Some (unread lines ++ text) ≡ Some h.rest = h.is_rest in cc

-- one more step, of whatever lies ahead
pub steps_on : (old mid new : Past) (before lines : Lines) (reader : Reader) (result : Result Step DrawFault) → IsOnward mid new →
    ((text more : List ℕ) → LiesAhead old mid text more → HasTaken text before (Some more) reader) →
    ((whole text more : List ℕ) → LiesAhead mid new text more → HasTaken whole before (Some text) reader → IsStep whole lines (Some more) result) →
    (text more : List ℕ) → LiesAhead old new text more → IsStep text lines (Some more) result
steps_on old mid new before lines reader result on taken step text more ahead =
    let it = between old mid new text more on ahead in
    step text it.rest more it.then (taken text it.rest it.first)

-- a fault that is handed on is the one that was met
pub handed : {A E : Type 0} (o : Result A E) (met : E) → IsErr o × IsErrAnd o (λ e. e ≡ met) → o ≡ Err met
handed (Ok x) met h = absurd (let z : false ≡ true = h.0 in cc)
handed (Err e) met h = ap Err h.1

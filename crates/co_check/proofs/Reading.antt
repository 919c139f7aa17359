-- Lines of a text, one more at a time.
use Rattle.std.proofs.Common.{◌≡◌, ℕ, ◌+◌, Bool, true, false, nat_lt, if◌then◌else◌, List, [], ◌∷◌, ◌++◌, length, Option, None, Some, Result, Ok, Err, refl, sym, ap, ◌∙◌, subst}
use Rattle.std.proofs.lemmas.List.{length-append}
use Rattle.co_schedule.specs.LineText.{first_line, behind_line, next_line, IsNextFault}
use Rattle.co_schedule.specs.Lines.{lines_read, ahead}
use Rattle.co_schedule.specs.Lines as read
use Rattle.co_schedule.specs.declared.fault.LinesFault.{LinesFault}
use Rattle.co_schedule.specs.declared.fault.LinesFault.TheVariants as lines
use Rattle.co_schedule.specs.declared.lines.Lines.{Lines}
use Rattle.co_schedule.specs.Limits.{most_of_text}
use Rattle.co_check.specs.declared.entry.Entry.{Entry}
use Rattle.co_check.specs.declared.fault.CheckFault.{CheckFault}
use Rattle.co_check.specs.declared.fault.CheckFault.TheVariants as fault
use Rattle.co_check.specs.declared.reader.Reader.{Reader}
use Rattle.co_check.specs.declared.verdict.Ending.{Ending}
use Rattle.co_check.specs.Checked.{fault_of}
use Rattle.co_check.specs.Resumed.{LiesBehind, AtStart, OneMore, MayNotStand, Stands, IsLineTaken, IsEndAt, IsBrokenAt, IsFaultFrom}
use Rattle.co_check.specs.Stages.{Stage, next_of, read_from}
use Rattle.co_check.specs.Taking.{HasTaken, IsStep, told_as, further_of, judged_of}

-- ---- what is next of a text

abbrev cut : ℕ → List ℕ → Bool → Bool → Result (Option (List ℕ)) LinesFault
cut lent first few long = if few then (if long then Err (lines.Long (lent + 1)) else Ok (Some first)) else Err lines.Many

first_cut : (lent : ℕ) (first line : List ℕ) (few long : Bool) →
    cut lent first few long ≡ Ok (Some line) → line ≡ first
first_cut lent first line true true e = absurd (let z : Err (lines.Long (lent + 1)) ≡ Ok (Some line) = e in cc)
first_cut lent first line true false e = let z : Ok (Some first) ≡ Ok (Some line) = e in cc
first_cut lent first line false long e = absurd (let z : Err lines.Many ≡ Ok (Some line) = e in cc)

-- the next line is the first one
pub next_is_first : (lent : ℕ) (left line : List ℕ) → next_line most_of_text most_of_text lent left ≡ Ok (Some line) → line ≡ first_line left
next_is_first lent [] line e = absurd (let z : Ok None ≡ Ok (Some line) = e in cc)
next_is_first lent (byte ∷ bytes) line e =
    first_cut lent (first_line (byte ∷ bytes)) line (nat_lt lent most_of_text) (nat_lt most_of_text (length (first_line (byte ∷ bytes)))) e

none_cut : (lent : ℕ) (first : List ℕ) (few long : Bool) →
    cut lent first few long ≡ Ok None → ⊥
none_cut lent first true true e = let z : Err (lines.Long (lent + 1)) ≡ Ok None = e in cc
none_cut lent first true false e = let z : Ok (Some first) ≡ Ok None = e in cc
none_cut lent first false long e = let z : Err lines.Many ≡ Ok None = e in cc

-- there is no next line at the end alone
none_left : (lent : ℕ) (left : List ℕ) → next_line most_of_text most_of_text lent left ≡ Ok None → left ≡ []
none_left lent [] e = refl
none_left lent (byte ∷ bytes) e =
    absurd (none_cut lent (first_line (byte ∷ bytes)) (nat_lt lent most_of_text) (nat_lt most_of_text (length (first_line (byte ∷ bytes)))) e)

read_more : (s : Option Stage) (entries : List Entry) (e : Entry) → read_from s (entries ++ e ∷ []) ≡ next_of (read_from s entries) e
read_more s [] e = refl
read_more s (x ∷ entries) e = read_more (next_of s x) entries e

-- ---- one more line

broken_here : (s : Stage) (lent : ℕ) (left line : List ℕ) → next_line most_of_text most_of_text lent left ≡ Ok (Some line) → MayNotStand (Some s) line → IsBrokenAt (Some s) left
broken_here s lent [] line e b = absurd (let z : Ok None ≡ Ok (Some line) = e in cc)
broken_here s lent (byte ∷ bytes) line e b = subst (MayNotStand (Some s)) (next_is_first lent (byte ∷ bytes) line e) b

pub line_steps : (s : Stage) (text : List ℕ) (old new : Lines) (left_old left_new : Option (List ℕ)) (reader : Reader) (number : ℕ) (line : List ℕ) (o : Result Reader CheckFault) →
    (h : HasTaken s text old left_old reader) → lines_read old + 1 ≡ number → next_line most_of_text most_of_text (lines_read old) h.rest ≡ Ok (Some line) →
    ahead new left_new ≡ Some (behind_line h.rest) → lines_read new ≡ lines_read old + 1 → IsLineTaken h.last number line o → IsStep s text new left_new (further_of o)
line_steps s text old new left_old left_new reader number line (Ok after) h n e behind count t =
    record {
      entries = h.entries ++ t.0 ∷ [];
      rest = behind_line h.rest;
      last = t.1;
      front = OneMore text h.rest h.entries t.0 h.front t.2 (ap (λ k. next_line most_of_text most_of_text k h.rest) (sym h.count) ∙ e ∙ ap (λ l. Ok (Some l)) t.3);
      is_shaped = read_more (Some s) h.entries t.0 ∙ ap (λ r. next_of r t.0) h.is_shaped ∙ t.4;
      stands = t.5;
      is_rest = behind;
      count = count ∙ ap (λ k. k + 1) h.count ∙ sym (length-append h.entries (t.0 ∷ []));
    }
line_steps s text old new left_old left_new reader number line (Err (fault.Text at)) h n e behind count t =
    let here : next_line most_of_text most_of_text (length h.entries) h.rest ≡ Ok (Some line) = ap (λ k. next_line most_of_text most_of_text k h.rest) (sym h.count) ∙ e in
    record {
      entries = h.entries;
      left = h.rest;
      front = h.front;
      number = t.0 ∙ sym n ∙ ap (λ k. k + 1) h.count;
      short = λ byte bytes is. here ∙ ap (λ l. Ok (Some l)) (next_is_first (length h.entries) h.rest line here);
      broken = subst (λ r. IsBrokenAt r h.rest) (sym h.is_shaped) (broken_here h.last (length h.entries) h.rest line here t.1);
    }
line_steps s text old new left_old left_new reader number line (Err fault.Memory) h n e behind count t = t
line_steps s text old new left_old left_new reader number line (Err fault.Read) h n e behind count t = absurd t
line_steps s text old new left_old left_new reader number line (Err (fault.Long at)) h n e behind count t = absurd t
line_steps s text old new left_old left_new reader number line (Err fault.Many) h n e behind count t = absurd t

pub ends_so : (s : Stage) (text : List ℕ) (old new : Lines) (left_old left_new : Option (List ℕ)) (reader : Reader) (number : ℕ) (o : Result Ending CheckFault) →
    (h : HasTaken s text old left_old reader) → lines_read old + 1 ≡ number → next_line most_of_text most_of_text (lines_read old) h.rest ≡ Ok None → IsEndAt h.last number o → IsStep s text new left_new (judged_of o)
ends_so s text old new left_old left_new reader number (Ok ending) h n e t =
    record {
      entries = h.entries;
      last = h.last;
      all = subst (LiesBehind text h.entries) (none_left (lines_read old) h.rest e) h.front;
      shaped = h.is_shaped;
      ended = t;
    }
ends_so s text old new left_old left_new reader number (Err (fault.Text at)) h n e t =
    let none : h.rest ≡ [] = none_left (lines_read old) h.rest e in
    record {
      entries = h.entries;
      left = h.rest;
      front = h.front;
      number = t.0 ∙ sym n ∙ ap (λ k. k + 1) h.count;
      short = λ byte bytes is. absurd (let z : [] ≡ byte ∷ bytes = sym none ∙ is in cc);
      broken = subst (λ r. IsBrokenAt r h.rest) (sym h.is_shaped) (subst (IsBrokenAt (Some h.last)) (sym none) t.1);
    }
ends_so s text old new left_old left_new reader number (Err fault.Memory) h n e t = absurd t
ends_so s text old new left_old left_new reader number (Err fault.Read) h n e t = absurd t
ends_so s text old new left_old left_new reader number (Err (fault.Long at)) h n e t = absurd t
ends_so s text old new left_old left_new reader number (Err fault.Many) h n e t = absurd t

pub faults_so : (s : Stage) (text : List ℕ) (old : Lines) (left_old : Option (List ℕ)) (reader : Reader) (why : LinesFault) (h : HasTaken s text old left_old reader) →
    IsNextFault (next_line most_of_text most_of_text (lines_read old) h.rest) why → IsFaultFrom s text (told_as why)
faults_so s text old left_old reader (lines.Long line) h e =
    record {
      entries = h.entries;
      left = h.rest;
      front = h.front;
      last = h.last;
      shaped = h.is_shaped;
      cause = ap (λ k. fault_of (next_line most_of_text most_of_text k h.rest)) (sym h.count) ∙ ap fault_of e;
    }
faults_so s text old left_old reader lines.Many h e =
    record {
      entries = h.entries;
      left = h.rest;
      front = h.front;
      last = h.last;
      shaped = h.is_shaped;
      cause = ap (λ k. fault_of (next_line most_of_text most_of_text k h.rest)) (sym h.count) ∙ ap fault_of e;
    }
faults_so s text old left_old reader lines.Read h e = tt
faults_so s text old left_old reader lines.Memory h e = tt

-- nothing was read yet
pub at_start : (s : Stage) (text : List ℕ) (lines : Lines) (left : Option (List ℕ)) (reader : Reader) → read.unread lines ≡ [] → lines_read lines ≡ 0 → left ≡ Some text → Stands reader s →
    HasTaken s text lines left reader
at_start s text lines left reader none count all stands =
    record {
      entries = [];
      rest = text;
      last = s;
      front = AtStart text;
      is_shaped = refl;
      stands = stands;
      is_rest = ap (λ o. ahead lines o) all ∙ ap (λ bytes. Some (bytes ++ text)) none;
      count = count;
    }

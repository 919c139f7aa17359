-- What is next where a buffer and what is left lie ahead.
use Rattle.std.proofs.Common.{◌≡◌, ℕ, ◌+◌, ◌<◌, ◌≤◌, true, false, List, [], ◌∷◌, ◌++◌, length, take, drop, Option, None, Some, Ok, Err, refl, sym, ap, ◌∙◌, arith, ltb, not, length-append}
use Rattle.std.specs.Prelude.{position, option_map, OnOk, Result, IsErr, IsErrAnd}
use Rattle.std.specs.List.{position_or_len}
use Rattle.std.proofs.lemmas.List.{take-append-le, drop-append-le, length-take-le, length-drop}
use Rattle.std.proofs.lemmas.List.Sums.{prefix_len-le-length}
use Rattle.std.proofs.lemmas.Bool.{lt-ltb, le-ltb}
use Rattle.co_schedule.specs.LineText.{is_newline, first_line, behind_line, next_line, short_line}
use Rattle.co_schedule.specs.declared.fault.LinesFault.TheVariants.{Long, Many}
use Rattle.co_schedule.specs.Lines.{unread}
use Rattle.co_schedule.specs.Filling.{IsTakenFrom, IsWithin}
use Rattle.co_schedule.specs.declared.lines.Lines.{Lines}
use Rattle.co_schedule.proofs.Filling.{position_some, position_none, passes_behind, passes_before}

-- the line at the front of a text that is not empty
next_some : (most lines lent : ℕ) (text : List ℕ) → 0 < length text → lent < lines → next_line most lines lent text ≡ short_line most (lent + 1) (first_line text)
next_some most lines lent [] some room = absurd (omega arith)
next_some most lines lent (byte ∷ bytes) some room =
    let here : ltb lent lines ≡ true = lt-ltb _ _ room in
    rw here refl

short : (most number : ℕ) (line : List ℕ) → length line ≤ most → short_line most number line ≡ Ok (Some line)
short most number line small =
    let here : ltb most (length line) ≡ false = le-ltb _ _ small in
    rw here refl

long : (most number : ℕ) (line : List ℕ) → most < length line → short_line most number line ≡ Err (Long number)
long most number line big =
    let here : ltb most (length line) ≡ true = lt-ltb _ _ big in
    rw here refl

-- a line whose newline is held
pub first_line_held : (held rest : List ℕ) (end : ℕ) → position is_newline held ≡ Some end → first_line (held ++ rest) ≡ take end held
first_line_held held rest end e =
    let it = position_some is_newline held end e in
    let there : position_or_len is_newline (held ++ rest) ≡ end = passes_before is_newline held rest end it.0 it.1 in
    ap (λ (n : ℕ). take n (held ++ rest)) there ∙ take-append-le end held rest (omega (arith, it.1))

pub behind_line_held : (held rest : List ℕ) (end : ℕ) → position is_newline held ≡ Some end → drop (end + 1) held ++ rest ≡ behind_line (held ++ rest)
behind_line_held held rest end e =
    let it = position_some is_newline held end e in
    let there : position_or_len is_newline (held ++ rest) ≡ end = passes_before is_newline held rest end it.0 it.1 in
    sym (ap (λ (n : ℕ). drop (n + 1) (held ++ rest)) there ∙ drop-append-le (end + 1) held rest (omega (arith, it.1)))

pub next_held : (most lines lent : ℕ) (held rest : List ℕ) (end : ℕ) → lent < lines → length held ≤ most + 1 → position is_newline held ≡ Some end → next_line most lines lent (held ++ rest) ≡ Ok (Some (take end held))
next_held most lines lent held rest end room fits e =
    let it = position_some is_newline held end e in
    let size : length (take end held) ≤ most = omega (arith, length-take-le end held (omega (arith, it.1)), it.1) in
    next_some most lines lent (held ++ rest) (omega (arith, length-append held rest, it.1)) room
    ∙ ap (short_line most (lent + 1)) (first_line_held held rest end e)
    ∙ short most (lent + 1) (take end held) size

-- more bytes than a line has
pub next_long : (most lines lent : ℕ) (held rest : List ℕ) → lent < lines → length held ≡ most + 1 → position is_newline held ≡ None → next_line most lines lent (held ++ rest) ≡ Err (Long (lent + 1))
next_long most lines lent held rest room full e =
    let there : position_or_len is_newline (held ++ rest) ≡ length held + position_or_len is_newline rest = passes_behind is_newline held rest (position_none is_newline held e) in
    let all : length (first_line (held ++ rest)) ≡ position_or_len is_newline (held ++ rest) = length-take-le (position_or_len is_newline (held ++ rest)) (held ++ rest) (prefix_len-le-length (λ x. not (is_newline x)) (held ++ rest)) in
    let big : most < length (first_line (held ++ rest)) = omega (arith, all, there, full) in
    next_some most lines lent (held ++ rest) (omega (arith, length-append held rest, full)) room
    ∙ long most (lent + 1) (first_line (held ++ rest)) big

-- a byte behind the last line that there may be
pub next_many : (most lines lent : ℕ) (text : List ℕ) → 0 < length text → lent ≡ lines → next_line most lines lent text ≡ Err Many
next_many most lines lent [] some last = absurd (omega arith)
next_many most lines lent (byte ∷ bytes) some last =
    let here : ltb lent lines ≡ false = le-ltb _ _ (omega (arith, last)) in
    rw here refl

-- what is held is part of what lies ahead
pub ahead_held : (held : List ℕ) (told : Option (List ℕ)) (bytes : List ℕ) → option_map (λ rest. held ++ rest) told ≡ Some bytes → length held ≤ length bytes
ahead_held held None bytes e = absurd (let f : None ≡ Some bytes = e in cc)
ahead_held held (Some rest) bytes e =
    let f : Some (held ++ rest) ≡ Some bytes = e in
    let same : held ++ rest ≡ bytes = cc in
    let size : length held + length rest ≡ length bytes = sym (length-append held rest) ∙ ap length same in
    omega arith

-- where the source tells what it has left
pub ahead_told : (held : List ℕ) (told : Option (List ℕ)) (bytes : List ℕ) → option_map (λ rest. held ++ rest) told ≡ Some bytes → (rest : List ℕ) × (told ≡ Some rest) × (held ++ rest ≡ bytes)
ahead_told held None bytes e = absurd (let f : None ≡ Some bytes = e in cc)
ahead_told held (Some rest) bytes e =
    let f : Some (held ++ rest) ≡ Some bytes = e in
    let same : held ++ rest ≡ bytes = cc in
    (rest, refl, same)

-- no more was taken of what lay ahead than is within the room
pub ahead_within : {S : Type 0} (left : S → Option (List ℕ)) (old new : S) (held before : List ℕ) (room most : ℕ) (text after : List ℕ) → held ≡ before → option_map (λ rest. before ++ rest) (left old) ≡ Some text → left new ≡ Some after → IsWithin left old new held room → room ≤ most → length text ≤ length after + most
ahead_within left old new held before room most text after same told told_then bound fits =
    let first = ahead_told before (left old) text told in
    let size : length before + length first.0 ≡ length text = sym (length-append before first.0) ∙ ap length first.2 in
    omega (arith, size, ap length same, bound first.0 after first.1 told_then, fits)

-- the same text lies ahead of a filled buffer
pub filled_ahead : {S : Type 0} (left : S → Option (List ℕ)) (old new : S) (held filled before text : List ℕ) → held ≡ before → option_map (λ rest. before ++ rest) (left old) ≡ Some text → IsTakenFrom left old new held filled → (rest : List ℕ) × (left new ≡ Some rest) × (filled ++ rest ≡ text) × (bytes : List ℕ) × (left old ≡ Some bytes)
filled_ahead left old new held filled before text same told taken =
    let first = ahead_told before (left old) text told in
    let then = taken first.0 first.1 in
    (then.0, then.1, then.2 ∙ ap (λ (l : List ℕ). l ++ first.0) same ∙ first.2, first.0, first.1)

pub next_same : (a b c a' b' c' : ℕ) (text text' : List ℕ) → a ≡ a' → b ≡ b' → c ≡ c' → text ≡ text' → next_line a b c text ≡ next_line a' b' c' text'
next_same a b c a' b' c' text text' e f g h = rw (e, f, g, h) refl

pub on_ok : {A E : Type 0} (r : Result A E) (P Q : Type 0) → (P → Q) → OnOk r P → OnOk r Q
on_ok (Ok x) P Q f it = f it
on_ok (Err e) P Q f it = tt

pub ahead_then : (behind : List ℕ) (told : Option (List ℕ)) (rest text : List ℕ) → told ≡ Some rest → behind ++ rest ≡ text → option_map (λ r. behind ++ r) told ≡ Some text
ahead_then behind told rest text e f = rw e (ap Some f)

pub same_rest : (told : Option (List ℕ)) (rest : List ℕ) → told ≡ Some rest → told ≡ Some [] → rest ≡ []
same_rest told rest e f = let g : Some rest ≡ Some [] = sym e ∙ f in cc

-- a fault that is handed on is the one that was met
pub handed_fault : {A E : Type 0} (o : Result A E) (met other : E) → IsErr o × IsErrAnd o (λ e. e ≡ met) → o ≡ Err other → met ≡ other
handed_fault (Ok x) met other h is = absurd (let z : Ok x ≡ Err other = is in cc)
handed_fault (Err e) met other h is = let z : Err e ≡ Err other = is in sym h.1 ∙ cc

pub on_fault : {A E : Type 0} (o : Result A E) (met : E) (P : Type 0) → IsErr o × IsErrAnd o (λ e. e ≡ met) → OnOk o P
on_fault (Ok x) met P h = absurd (let z : false ≡ true = h.0 in cc)
on_fault (Err e) met P h = tt

-- no more is held than the buffer has room for
pub unread_held : (reader : Lines) → length (unread reader) ≤ reader.line + 1
unread_held reader = omega (arith, length-drop reader.used reader.buffer.items, reader.held_room)

-- Texts that may lie ahead of a reader of lines.
use Rattle.std.proofs.Common.{◌≡◌, ℕ, zero, suc, ◌+◌, ◌<◌, ◌≤◌, true, List, [], ◌∷◌, ◌++◌, length, drop, Option, None, Ok, Err, refl, sym, ap, ◌∙◌, subst, arith, length-append, append_assoc}
use Rattle.co_outside.specs.Onward.{Past, LiesAhead}
use Rattle.co_outside.proofs.Onward.{ahead_is}
use Rattle.co_schedule.specs.Filling.{IsAdded, IsGrown}
use Rattle.co_schedule.specs.LineText.{behind_line}
use Rattle.co_schedule.specs.Lines.{unread, shown_line, next_of}
use Rattle.co_schedule.specs.Next.{HasHeard}
use Rattle.co_schedule.specs.declared.fault.LinesFault.TheVariants.{Many}
use Rattle.co_schedule.specs.declared.lines.Lines.{Lines}
use Rattle.co_schedule.proofs.NextLine.{next_many}

pub no_bytes : (xs : List ℕ) → length xs ≡ 0 → xs ≡ []
no_bytes [] e = refl
no_bytes (x ∷ xs) e = absurd (omega (arith, e))

pub none_dropped : (n : ℕ) (xs : List ℕ) → xs ≡ [] → drop n xs ≡ []
none_dropped zero xs e = e
none_dropped (suc n) xs e = ap (drop (suc n)) e

-- what was held and what lay ahead is what is held and what is ahead
pub added_ahead : (old new : Past) (text more held held_new before : List ℕ) → held ≡ before → IsAdded old.gave new.gave held held_new → LiesAhead old new text more → held_new ++ more ≡ before ++ text
added_ahead old new text more held held_new before same added ahead =
    ap (λ h. h ++ more) added.2 ∙ append_assoc held added.0 more ∙ ap (λ h. h ++ (added.0 ++ more)) same ∙ ap (λ t. before ++ t) (sym (ahead_is old new text more added.0 added.1 ahead))

-- bytes were taken, so there are some
pub grown_ahead : (old new : Past) (text more held held_new : List ℕ) → IsAdded old.gave new.gave held held_new → IsGrown held held_new → LiesAhead old new text more → 1 ≤ length text
grown_ahead old new text more held held_new added grown ahead =
    let sizes : length held + length added.0 ≡ length held + length grown.0 = sym (length-append held added.0) ∙ ap length (sym added.2 ∙ grown.1) ∙ length-append held grown.0 in
    let all : length text ≡ length added.0 + length more = ap length (ahead_is old new text more added.0 added.1 ahead) ∙ length-append added.0 more in
    omega (arith, sizes, all, grown.2)

-- none were taken at the end, so there are none
pub none_ahead : (old new : Past) (text more held held_new : List ℕ) → IsAdded old.gave new.gave held held_new → held_new ≡ held → new.ended ≡ true → LiesAhead old new text more → (text ≡ []) × (more ≡ [])
none_ahead old new text more held held_new added kept ended ahead =
    let sizes : length held + length added.0 ≡ length held = sym (length-append held added.0) ∙ ap length (sym added.2 ∙ kept) in
    let none : added.0 ≡ [] = no_bytes added.0 (omega (arith, sizes)) in
    let last : more ≡ [] = ahead.over ended in
    (ahead_is old new text more added.0 added.1 ahead ∙ ap (λ g. g ++ more) none ∙ last, last)

pub many_heard : (old new : Lines) (source_old source_new : Past) → old.lent ≡ old.lines → ((text more : List ℕ) → LiesAhead source_old source_new text more → 0 < length (unread old ++ text)) →
    HasHeard old source_old source_new new (Err Many)
many_heard old new source_old source_new last some = record {
  next = λ text more ahead. next_many old.line old.lines old.lent (unread old ++ text) (some text more ahead) last;
  behind = λ text more ahead. tt;
}

pub nothing_heard : (old new : Lines) (source_old source_new : Past) → unread old ≡ [] → unread new ≡ [] → shown_line new ≡ None → ((text more : List ℕ) → LiesAhead source_old source_new text more → (text ≡ []) × (more ≡ [])) →
    HasHeard old source_old source_new new (Ok tt)
nothing_heard old new source_old source_new held held_new shown none = record {
  next = λ text more ahead. ap (λ t. next_of old t) (ap (λ h. h ++ text) held ∙ (none text more ahead).0) ∙ ap Ok (sym shown);
  behind = λ text more ahead. ap (λ h. h ++ more) held_new ∙ (none text more ahead).1 ∙ ap behind_line (sym (ap (λ h. h ++ text) held ∙ (none text more ahead).0));
}

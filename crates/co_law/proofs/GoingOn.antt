-- Runs and transcripts go on at their ends, and schedule lines hand no verdict.
use Rattle.std.proofs.Common.{◌≡◌, ℕ, suc, ◌+◌, List, [], ◌∷◌, ◌++◌, length, sym, ap, ◌∙◌, append_assoc, arith}
use Rattle.co_message.specs.declared.event.Event.{Event}
use Rattle.co_message.specs.declared.item.Item.{Item}
use Rattle.co_message.specs.declared.item.ItemKind.TheVariants as item
use Rattle.co_plain.specs.declared.happening.Happening.TheVariants as happening
use Rattle.co_plain.specs.Federation.{Federation}
use Rattle.co_plain.specs.Runs.{run, numbered, transcript, lines}
use Rattle.co_plain.specs.Step.{step}
use Rattle.co_plain.specs.Premises.{AreTrueVerdicts}

-- a transcript and what follows it
pub transcript_more : (number : ℕ) (es more : List Event) (s : Federation) →
    transcript number (es ++ more) s ≡ transcript number es s ++ transcript (number + length es) more (run (lines es) s)
transcript_more number [] more s = let e : number ≡ number + 0 = omega arith in ap (λ n. transcript n more s) e
transcript_more number (e ∷ es) more s =
    ap (λ items. first ++ items) (transcript_more (suc number) es more next)
    ∙ sym (append_assoc first (transcript (suc number) es next) (transcript (suc number + length es) more (run (lines es) next)))
    ∙ ap (λ n. (first ++ transcript (suc number) es next) ++ transcript n more (run (lines es) next)) place
  where
    next : Federation
    next = (step s (happening.Line e)).state

    first : List Item
    first = numbered number (item.Event e ∷ (step s (happening.Line e)).items)

    place : suc number + length es ≡ number + length (e ∷ es)
    place = omega arith

-- schedule lines hand no verdict
pub lines_true : (events : List Event) (s : Federation) → AreTrueVerdicts (lines events) s
lines_true [] s = tt
lines_true (e ∷ es) s = (tt, lines_true es (step s (happening.Line e)).state)

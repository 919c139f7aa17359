use Rattle.std.proofs.Common.{◌≡◌, ◌∙◌, ℕ, Bool, if◌then◌else◌, sym, ap, arith}
use Rattle.std.specs.Str.Parse.{digits_value}
use Rattle.std.specs.String.{string_bytes}
use Rattle.co_schedule.proofs.Numbers.{and_true, value_of-decimal}
use Rattle.co_top.specs.Command.{AsksTrial, AsksNothing}
use Rattle.co_top.proofs.words.trial_of.Goals as goal

pub returns-in-Some-Some : goal.returns-in-Some-Some
returns-in-Some-Some c =
    let number = c.in-Some-Some.ensures.found in
    let events = c.in-Some-Some.ensures'.found in
    let is_one = rw c.as_bytes.ensures.value at c.in-Some-Some.ensures.test in
    let are_some = rw c.as_bytes-2.ensures.value at c.in-Some-Some.ensures'.test in
    let asked : ℕ = digits_value 10 (string_bytes c.args.number.now) in
    let many : ℕ = digits_value 10 (string_bytes c.args.events.now) in
    let same : asked ≡ c.in-Some-Some.number = ap (digits_value 10) (sym c.as_bytes.ensures.value ∙ number.1) ∙ value_of-decimal c.in-Some-Some.number (omega (arith, number.0.1)) in
    let so_many : many ≡ c.in-Some-Some.events = ap (digits_value 10) (sym c.as_bytes-2.ensures.value ∙ events.1) ∙ value_of-decimal c.in-Some-Some.events (omega (arith, events.0.1)) in (
      ap (λ (both : Bool). if both then AsksTrial asked many else AsksNothing) (and_true _ _ (sym is_one) (sym are_some)) ∙ ap (λ (n : ℕ). AsksTrial n many) same ∙ ap (AsksTrial c.in-Some-Some.number) so_many,
      events.0.0,
      events.0.1,
    )
